-- What is decided of a window, told from what a vault has: the rule that it breaks, or that it repeats a sealed one,
-- or what it adds.
use Rattle.std.specs.Prelude.{◌≡◌, ◌⊎◌, ℕ, ◌==◌, Bool, true, List, [], ◌∷◌, Option, None, Some, is_some, if◌then◌else◌, find, length, map}
use Rattle.dv_text.specs.declared.rows.Window.{Window}
use Rattle.dv_text.specs.declared.rows.WindowHead.{WindowHead}
use Rattle.dv_text.specs.Keys.{Hashes}
use Rattle.dv_catalog.specs.declared.rules.Rule.{Rule}
use Rattle.dv_catalog.specs.declared.rules.Rule.TheVariants.{Collision}
use Rattle.dv_catalog.specs.declared.tables.TableId.{TableId}
use Rattle.dv_catalog.specs.declared.windows.WindowIn.{WindowIn}
use Rattle.dv_catalog.specs.Entries.{Mapping}
use Rattle.dv_catalog.specs.FirstOf.{first_of}
use Rattle.dv_catalog.specs.TableLookups.{is_table_of}
use Rattle.dv_catalog.specs.Tables.{table_name}
use Rattle.dv_catalog.specs.Windows.{window_of, window_rule}
use Rattle.dv_records.specs.declared.keepers.KeeperError.{KeeperError}
use Rattle.dv_records.specs.Collisions.{Pair}
use Rattle.dv_records.specs.Outcomes.{differs_from, feed_twice, full_at, late_after, no_extracts, open_other, too_long, unknown_feed}
use Rattle.dv_records.specs.ReadBack.{any_content_read}
use Rattle.dv_records.specs.States.{last_sealed}
use Rattle.dv_vault.specs.declared.begun.Begun.{Begun}
use Rattle.dv_vault.specs.declared.additions.AdditionFault.{AdditionFault}
use Rattle.dv_vault.specs.declared.additions.AdditionFault.TheVariants as fault
use Rattle.dv_vault.specs.Additions.{AreApart, Fits, IsAddition, IsFirstClash, raw_with, weight_with}
use Rattle.dv_vault.specs.Vaults.{RawVault, hub_names}
use Rattle.dv_window.specs.declared.stops.Stop.{Stop}
use Rattle.dv_window.specs.declared.stops.Stop.TheVariants as stop
use Rattle.dv_window.specs.declared.plans.Planned.{Planned}
use Rattle.dv_window.specs.declared.plans.Planned.TheVariants as planned
use Rattle.dv_window.specs.Offices.{Held, staged}
use Rattle.dv_window.specs.Stopping.{is_failed}

-- ---- before the vault is looked at

-- the head with a load date
abbrev pub head_at : ℕ → List WindowHead → Option WindowHead
head_at load heads = find (λ head. head.load == load) heads

abbrev pub late_by : List WindowHead → ℕ → Option Rule
late_by heads load = if is_some (head_at load heads) then None else late_after (last_sealed heads) load

-- the first rule, W1 to W6, that a window breaks as it is given
abbrev pub given_rules : RawVault → Option Window → WindowIn → Option Rule
given_rules raw begun given =
    first_of (
    no_extracts given ∷ unknown_feed raw.mapping given ∷ feed_twice given ∷ late_by raw.heads given.load ∷ open_other begun given ∷ too_long given ∷ [])

-- the first rule, W1 to W18, that a window breaks
abbrev pub early_rule : RawVault → Option Window → WindowIn → Option Rule
early_rule raw begun given = first_of (given_rules raw begun given ∷ window_rule raw.mapping given ∷ [])

-- ---- a sealed load date

-- the sealed window of a head, read back from the tables
abbrev pub window_read : RawVault → WindowHead → Window
window_read raw head = record {
  load = head.load;
  extracts = map (λ feed. record { feed = feed; rows = any_content_read raw.mapping raw.tables feed head.load }) head.feeds;
}

-- ---- decisions

-- a window's load date is that of no sealed window, and it breaks no rule that is asked before
pub record IsNewWindow (raw : RawVault) (begun : Option Window) (given : WindowIn) : Type 0 where
  pub early : early_rule raw begun given ≡ None
  pub is_new : head_at given.load raw.heads ≡ None

-- no window is open, and the vault may grow by what the window adds
pub record IsPlan (hashes : Hashes) (raw : RawVault) (begun : Option Window) (given : WindowIn) (planned : Begun) : Type 0 where
  pub passes : IsNewWindow raw begun given
  pub none_open : begun ≡ None
  pub adds : IsAddition hashes raw (window_of raw.mapping given) planned
  pub fits : Fits raw planned
  pub not_full : full_at planned.weight (length raw.heads) ≡ None

-- a window repeats the sealed one of its load date, or differs from it
pub record IsAgain (raw : RawVault) (begun : Option Window) (given : WindowIn) (differs : Option Rule) : Type 0 where
  pub early : early_rule raw begun given ≡ None
  pub head : WindowHead
  pub is_head : head_at given.load raw.heads ≡ Some head
  pub differs_is : differs_from (Some (window_read raw head)) (window_of raw.mapping given) ≡ differs

-- it repeats the open one, or differs from it
pub record IsOpenAgain (raw : RawVault) (begun : Option Window) (given : WindowIn) (differs : Option Rule) : Type 0 where
  pub passes : IsNewWindow raw begun given
  pub window : Window
  pub is_open : begun ≡ Some window
  pub differs_is : differs_from (Some window) (window_of raw.mapping given) ≡ differs

-- what is to be done for a window that breaks no rule: it is taken, or the open one is completed
abbrev pub IsPlanned : Hashes → Held → WindowIn → Planned → Type 0
IsPlanned hashes held given (planned.New begun) = IsPlan hashes held.vault (staged held) given begun
IsPlanned hashes held given planned.Open = IsOpenAgain held.vault (staged held) given None

-- the rule of a collision
abbrev pub IsRefusal : Mapping → AdditionFault → Stop → Type 0
IsRefusal mapping (fault.Collision table first second) why = why ≡ stop.Refused (Collision (table_name mapping table) first second)
IsRefusal mapping fault.Memory why = ⊥

-- the hub, link or feed that a fault names is in the mapping
abbrev pub names_table : Mapping → AdditionFault → Bool
names_table mapping (fault.Collision table first second) = is_table_of mapping table
names_table mapping fault.Memory = true

-- a window collides with the vault, or in itself: the rule names the first table with a collision, and the least pair
pub record NamesClash (hashes : Hashes) (raw : RawVault) (window : Window) (rule : Rule) : Type 0 where
  pub table : TableId
  pub pair : Pair
  pub first : IsFirstClash raw.mapping hashes (hub_names raw.mapping raw.tables) window raw.tables table pair
  pub rule_is : rule ≡ Collision (table_name raw.mapping table) pair.first pair.second

-- why there is nothing that a window adds
abbrev pub StopsRows : Hashes → RawVault → Window → Stop → Type 0
StopsRows hashes raw window stop.Repeated = ⊥
StopsRows hashes raw window (stop.Refused rule) = NamesClash hashes raw window rule
StopsRows hashes raw window stop.Memory = Unit {0}

-- the window of a new load date collides
pub record Collides (hashes : Hashes) (raw : RawVault) (begun : Option Window) (given : WindowIn) (rule : Rule) : Type 0 where
  pub passes : IsNewWindow raw begun given
  pub none_open : begun ≡ None
  pub names : NamesClash hashes raw (window_of raw.mapping given) rule

-- the vault is too full for a window
pub record IsTooMuch (hashes : Hashes) (raw : RawVault) (begun : Option Window) (given : WindowIn) (rule : Rule) : Type 0 where
  pub passes : IsNewWindow raw begun given
  pub none_open : begun ≡ None
  pub apart : AreApart hashes raw (window_of raw.mapping given)
  pub rule_is : full_at (weight_with hashes raw (window_of raw.mapping given)) (length raw.heads) ≡ Some rule

-- of a window that repeats a sealed one, or differs from it
abbrev pub again_stop : Option Rule → Stop
again_stop None = stop.Repeated
again_stop (Some rule) = stop.Refused rule

-- a window breaks a rule before the vault is looked at
abbrev pub StopsEarly : RawVault → Option Window → WindowIn → Stop → Type 0
StopsEarly raw begun given stop.Repeated = ⊥
StopsEarly raw begun given (stop.Refused rule) = early_rule raw begun given ≡ Some rule
StopsEarly raw begun given stop.Memory = Unit {0}

-- why a window is not loaded
abbrev pub Stops : Hashes → RawVault → Option Window → WindowIn → Stop → Type 0
Stops hashes raw begun given stop.Repeated = IsAgain raw begun given None
Stops hashes raw begun given (stop.Refused rule) =
    (early_rule raw begun given ≡ Some rule)
    ⊎ (IsAgain raw begun given (Some rule)
    ⊎ (IsOpenAgain raw begun given (Some rule) ⊎ (Collides hashes raw begun given rule ⊎ IsTooMuch hashes raw begun given rule)))
Stops hashes raw begun given stop.Memory = Unit {0}

-- ---- an office with a window

-- an office with all of a window, and none open
abbrev pub held_with : Begun → Held → Held
held_with begun held = record held { vault = raw_with begun held.vault; begun = None }

-- an office that broke off to take a window, with what is left of it; where its keeper failed it is stale
abbrev pub held_broken : KeeperError → Option Begun → Held → Held
held_broken error left held = record held { begun = left; stale = is_failed error }
