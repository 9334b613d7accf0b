-- The rules of form table by table, and the first row of a raw table that breaks one.
use Rattle.std.specs.Prelude.{ℕ, ◌==◌, not, List, [], ◌∷◌, ◌++◌, Option, Some, None, if◌then◌else◌}
use Rattle.std.specs.Str.{bytes_eq}
use Rattle.dv_catalog.specs.declared.tables.TableId.{TableId}
use Rattle.dv_catalog.specs.declared.tables.TableId.TheVariants.{Hub, Link, Sat, Multi, Status, Effect}
use Rattle.dv_catalog.specs.FirstOf.{first_of}
use Rattle.dv_records.specs.declared.raw_rows.EffectRow.{EffectRow}
use Rattle.dv_records.specs.declared.raw_rows.HubRow.{HubRow}
use Rattle.dv_records.specs.declared.raw_rows.LinkRow.{LinkRow}
use Rattle.dv_records.specs.declared.raw_rows.MultiRow.{MultiRow}
use Rattle.dv_records.specs.declared.raw_rows.SatRow.{SatRow}
use Rattle.dv_records.specs.declared.raw_rows.StatusRow.{StatusRow}
use Rattle.dv_records.specs.declared.stores.Rows.{Rows}
use Rattle.dv_records.specs.declared.stores.Rows.TheVariants.{Hubs, Links, Sats, Multis, Statuses, Effects}
use Rattle.dv_records.specs.Effects.{effect_cmp}
use Rattle.dv_store_rules.specs.declared.flaws.Flaw.{Flaw}
use Rattle.dv_store_rules.specs.Flaws.{first_flaw, if_broken}
use Rattle.dv_store_rules.specs.FormRules.{Known, are_references, follows, has_key_hash, has_parent, is_delivered, is_diff_of, is_digest, is_hub_row, is_light, is_link_row, is_loaded, is_multi_row, is_new_digest, is_sat_row, is_source, is_span, last_code, takes_turn, zero_key}
use Rattle.dv_records.specs.Hubs.{hub_cmp, link_cmp}
use Rattle.dv_records.specs.Satellites.{multi_cmp, sat_cmp}
use Rattle.dv_records.specs.Statuses.{status_cmp}
use Rattle.dv_records.specs.Stores.{row_count}

-- ---- the first rule by number that a row breaks, behind the rows before it

-- a row of a hub
abbrev pub hub_rule : Known → ℕ → List HubRow → HubRow → Option ℕ
hub_rule known hub before row =
    first_of (
    if_broken 4 (is_hub_row known hub row) ∷ if_broken 5 (is_loaded known.heads row.load)
    ∷ if_broken 6 (follows (λ (other : HubRow). other.load) hub_cmp before row) ∷ if_broken 7 (has_key_hash known.hashes row)
    ∷ if_broken 8 (is_source known.mapping row.source)
    ∷ if_broken 10 (is_new_digest (λ (other : HubRow). other.digest) before row.digest)
    ∷ if_broken 13 (is_light known (Hubs (before ++ row ∷ []))) ∷ [])

-- a row of a link; no reference list of missing keys alone has a row
abbrev pub link_rule : Known → ℕ → List LinkRow → LinkRow → Option ℕ
link_rule known link before row =
    first_of (
    if_broken 4 (is_link_row known link row) ∷ if_broken 5 (is_loaded known.heads row.load)
    ∷ if_broken 6 (follows (λ (other : LinkRow). other.load) link_cmp before row)
    ∷ if_broken 7 (not (bytes_eq row.digest (zero_key known.width))) ∷ if_broken 8 (is_source known.mapping row.source)
    ∷ if_broken 9 (are_references known link row.hubs)
    ∷ if_broken 10 (is_new_digest (λ (other : LinkRow). other.digest) before row.digest)
    ∷ if_broken 13 (is_light known (Links (before ++ row ∷ []))) ∷ [])

-- a row of a satellite
abbrev pub sat_rule : Known → ℕ → List SatRow → SatRow → Option ℕ
sat_rule known feed before row =
    first_of (
    if_broken 4 (is_sat_row known feed row) ∷ if_broken 5 (is_delivered known.heads feed row.load)
    ∷ if_broken 6 (follows (λ (other : SatRow). other.load) sat_cmp before row)
    ∷ if_broken 7 (is_diff_of known.hashes row.diff row.attrs) ∷ if_broken 8 (is_source known.mapping row.source)
    ∷ if_broken 9 (has_parent known feed row.parent) ∷ if_broken 13 (is_light known (Sats (before ++ row ∷ []))) ∷ [])

-- a row of a multi-active satellite
abbrev pub multi_rule : Known → ℕ → List MultiRow → MultiRow → Option ℕ
multi_rule known feed before row =
    first_of (
    if_broken 4 (is_multi_row known feed row) ∷ if_broken 5 (is_delivered known.heads feed row.load)
    ∷ if_broken 6 (follows (λ (other : MultiRow). other.load) multi_cmp before row)
    ∷ if_broken 7 (is_diff_of known.hashes row.diff row.attrs) ∷ if_broken 8 (is_source known.mapping row.source)
    ∷ if_broken 9 (has_parent known feed row.parent) ∷ if_broken 13 (is_light known (Multis (before ++ row ∷ []))) ∷ [])

-- a row of a status table
abbrev pub status_rule : Known → ℕ → List StatusRow → StatusRow → Option ℕ
status_rule known feed before row =
    first_of (
    if_broken 4 (is_digest known.width row.parent) ∷ if_broken 5 (is_delivered known.heads feed row.load)
    ∷ if_broken 6 (follows (λ (other : StatusRow). other.load) status_cmp before row)
    ∷ if_broken 8 (is_source known.mapping row.source) ∷ if_broken 9 (has_parent known feed row.parent)
    ∷ if_broken 11 (takes_turn (last_code before row.parent) row.code)
    ∷ if_broken 13 (is_light known (Statuses (before ++ row ∷ []))) ∷ [])

-- a row of an effectivity table
abbrev pub effect_rule : Known → ℕ → List EffectRow → EffectRow → Option ℕ
effect_rule known feed before row =
    first_of (
    if_broken 4 (is_digest known.width row.parent) ∷ if_broken 5 (is_delivered known.heads feed row.load)
    ∷ if_broken 6 (follows (λ (other : EffectRow). other.load) effect_cmp before row)
    ∷ if_broken 8 (is_source known.mapping row.source) ∷ if_broken 9 (has_parent known feed row.parent)
    ∷ if_broken 12 (is_span row) ∷ if_broken 13 (is_light known (Effects (before ++ row ∷ []))) ∷ [])

-- ---- the first row of a table

-- rows of another kind than the table's break F4 at their first one; where there are none, none does
abbrev pub of_other_kind : Rows → Option Flaw
of_other_kind rows = if row_count rows == 0 then None else Some (record { row = 1; rule = 4 })

-- the first row of a raw table that breaks a rule
abbrev pub flaw_in : Known → TableId → Rows → Option Flaw
flaw_in known (Hub hub) (Hubs rows) = first_flaw (hub_rule known hub) rows
flaw_in known (Link link) (Links rows) = first_flaw (link_rule known link) rows
flaw_in known (Sat feed) (Sats rows) = first_flaw (sat_rule known feed) rows
flaw_in known (Multi feed) (Multis rows) = first_flaw (multi_rule known feed) rows
flaw_in known (Status feed) (Statuses rows) = first_flaw (status_rule known feed) rows
flaw_in known (Effect feed) (Effects rows) = first_flaw (effect_rule known feed) rows
flaw_in known id rows = of_other_kind rows
