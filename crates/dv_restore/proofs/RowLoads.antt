-- The rows of tables in which no row breaks a rule have load dates of the heads that are known.
use Rattle.dv_restore.proofs.Vocabulary.{AreInForm, Bool, Contains-cons_cases, Contains-nil, Effect, EffectRow, Effects, Hashes, HaveNoZeroLinks, HubRow, Hubs, Known, LinkRow, Links, List, Mapping, Multi, MultiRow, Multis, None, Option, Rows, Sat, SatRow, Sats, Status, StatusRow, Statuses}
use Rattle.dv_restore.proofs.Vocabulary.{TableId, TableRows, Window, WindowHead, [], and_from, and_parts, ap, append_assoc, are_loaded, bytes_eq, effect_rule, false, first_along, flaw_behind, flaw_in, head_of, hub_rule, inl, inr, is_delivered, is_loaded, is_of_kind, link_rule, list_all, list_any}
use Rattle.dv_restore.proofs.Vocabulary.{loads_of, map, multi_rule, none_before_map, not, not-true, option_to_list, or_none, refl, rules, sat_rule, some_passes, some_passes_at, status_rule, subst, sym, true, zero_key, ℕ, ◌&&◌, ◌++◌, ◌==◌, ◌∙◌, ◌∷◌, ◌≡◌}
use Rattle.dv_catalog.specs.declared.tables.TableId.TheVariants.{Hub, Link}

-- a window that has a feed is there
delivered_loaded : (heads : List WindowHead) (feed load : ℕ) → is_delivered heads feed load ≡ true → is_loaded heads load ≡ true
delivered_loaded heads feed load e =
    let (head, member, is) = some_passes (λ (head : WindowHead). (head.load == load) && list_any (λ other. other == feed) head.feeds) heads e in
    some_passes_at (λ (head : WindowHead). head.load == load) heads head member (and_parts (head.load == load) (list_any (λ other. other == feed) head.feeds) is).0

module _ {R X : Type 0} (rule_of : List R → R → Option ℕ) (load_of : R → X) (test : X → Bool) (each : (before : List R) (row : R) → rule_of before row ≡ None → test (load_of row) ≡ true) where
  all_along : (before rows : List R) → first_along (flaw_behind rule_of) before rows ≡ None → list_all test (map load_of rows) ≡ true
  all_along before [] none = refl
  all_along before (row ∷ rows) none =
      let (here, rest) = or_none (flaw_behind rule_of before row) (first_along (flaw_behind rule_of) (before ++ row ∷ []) rows) none in
      and_from _ _ (each before row (none_before_map _ (rule_of before row) here)) (all_along (before ++ row ∷ []) rows rest)

module _ (known : Known) where
  abbrev is_known : ℕ → Bool
  is_known load = is_loaded known.heads load

  -- the rows of one table
  pub loads_known : (table : TableId) (rows : Rows) → is_of_kind table rows ≡ true → flaw_in known table rows ≡ None → list_all is_known (loads_of rows) ≡ true
  loads_known (Hub hub) (Hubs rows) kind none =
      all_along (hub_rule known hub) (λ (row : HubRow). row.load) is_known (λ before row none. search rules) [] rows none
  loads_known (Link link) (Links rows) kind none =
      all_along (link_rule known link) (λ (row : LinkRow). row.load) is_known (λ before row none. search rules) [] rows none
  loads_known (Sat feed) (Sats rows) kind none =
      all_along (sat_rule known feed) (λ (row : SatRow). row.load) is_known (λ before row none. delivered_loaded known.heads feed row.load (search rules)) [] rows none
  loads_known (Multi feed) (Multis rows) kind none =
      all_along (multi_rule known feed) (λ (row : MultiRow). row.load) is_known (λ before row none. delivered_loaded known.heads feed row.load (search rules)) [] rows none
  loads_known (Status feed) (Statuses rows) kind none =
      all_along (status_rule known feed) (λ (row : StatusRow). row.load) is_known (λ before row none. delivered_loaded known.heads feed row.load (search rules)) [] rows none
  loads_known (Effect feed) (Effects rows) kind none =
      all_along (effect_rule known feed) (λ (row : EffectRow). row.load) is_known (λ before row none. delivered_loaded known.heads feed row.load (search rules)) [] rows none
  loads_known table rows kind none = cc

  -- no row of a link stands under the zero key
  digest_known : (link : ℕ) (before : List LinkRow) (row : LinkRow) → link_rule known link before row ≡ None → not (bytes_eq row.digest (zero_key known.width)) ≡ true
  digest_known link before row none = search rules

  none_zero : (rows : List LinkRow) → list_all (λ digest. not (bytes_eq digest (zero_key known.width))) (map (λ (row : LinkRow). row.digest) rows) ≡ true → list_any (λ row. bytes_eq row.digest (zero_key known.width)) rows ≡ false
  none_zero [] all = refl
  none_zero (row ∷ rows) all =
      let (here, behind) = and_parts (not (bytes_eq row.digest (zero_key known.width))) (list_all (λ digest. not (bytes_eq digest (zero_key known.width))) (map (λ (row : LinkRow). row.digest) rows)) all in
      rw (not-true (bytes_eq row.digest (zero_key known.width)) here) (none_zero rows behind)

  links_known : (link : ℕ) (rows : List LinkRow) → flaw_in known (Link link) (Links rows) ≡ None → list_any (λ row. bytes_eq row.digest (zero_key known.width)) rows ≡ false
  links_known link rows none = none_zero rows (all_along (link_rule known link) (λ (row : LinkRow). row.digest) (λ digest. not (bytes_eq digest (zero_key known.width))) (digest_known link) [] rows none)

-- tables are of their kinds
abbrev pub are_of_kinds : List TableRows → Bool
are_of_kinds entries = list_all (λ entry. is_of_kind entry.table entry.rows) entries

module _ (known : Known) (entries : List TableRows) (in_form : AreInForm known entries) where
  tables_along : (before rest : List TableRows) → entries ≡ before ++ rest → are_of_kinds rest ≡ true → are_loaded known.heads rest ≡ true
  tables_along before [] e kinds = refl
  tables_along before (entry ∷ rest) e kinds =
      let (here, later) = and_parts (is_of_kind entry.table entry.rows) (are_of_kinds rest) kinds in
      and_from _ _ (loads_known (record known { tables = before }) entry.table entry.rows here (in_form before entry rest e))
      (tables_along (before ++ entry ∷ []) rest (e ∙ sym (append_assoc before (entry ∷ []) rest)) later)

  pub all_loaded : are_of_kinds entries ≡ true → are_loaded known.heads entries ≡ true
  all_loaded kinds = tables_along [] entries refl kinds

  links_along : (before rest : List TableRows) → entries ≡ before ++ rest → HaveNoZeroLinks known.width rest
  links_along before [] e link rows has = absurd (Contains-nil _ has)
  links_along before (entry ∷ rest) e link rows has =
      elim (Contains-cons_cases entry rest (record { table = Link link; rows = Links rows }) has) [
        | inl same ↦
            links_known (record known { tables = before }) link rows
            (ap (λ (entry : TableRows). flaw_in (record known { tables = before }) entry.table entry.rows) (sym same) ∙ in_form before entry rest e)
        | inr more ↦ links_along (before ++ entry ∷ []) rest (e ∙ sym (append_assoc before (entry ∷ []) rest)) link rows more
      ]

  pub no_zero_links : HaveNoZeroLinks known.width entries
  no_zero_links = links_along [] entries refl

-- all rows of tables have load dates of the heads of sealed windows and the open one
pub loaded_by : (mapping : Mapping) (hashes : Hashes) (width : ℕ) (heads : List WindowHead) (stage next : Option Window) (entries : List TableRows)
    → AreInForm (record { mapping = mapping; hashes = hashes; width = width; heads = heads ++ map head_of (option_to_list stage); tables = [] }) entries → are_of_kinds entries ≡ true → stage ≡ next
    → are_loaded (heads ++ map head_of (option_to_list next)) entries ≡ true
loaded_by mapping hashes width heads stage next entries in_form kinds is =
    subst (λ (o : Option Window). are_loaded (heads ++ map head_of (option_to_list o)) entries ≡ true) is
    (all_loaded (record { mapping = mapping; hashes = hashes; width = width; heads = heads ++ map head_of (option_to_list stage); tables = [] }) entries in_form kinds)
