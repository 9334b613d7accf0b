-- Damage names a place and a rule that there may be, whatever is stored.
use Rattle.dv_restore.proofs.Vocabulary.{AllRows, Bool, Damage, Effect, EffectRow, Effects, Flaw, HubRow, Hubs, IfSome, IsBesideTables, IsFormRule, IsNamed, IsOfTable, Known, LinkRow, Links, List, Mapping, Multi, MultiRow, Multis, None, Option, OtherKind, Read, Rows, Sat, SatRow, Sats, SnapHead}
use Rattle.dv_restore.proofs.Vocabulary.{Some, Status, StatusRow, Statuses, TableId, WindowHead, [], arith, codes, damage_at, effect_rule, first_along, first_flaw, first_of, flaw_behind, flaw_in, flaw_read, head_flaw, head_rule, hub_rule, if_broken, inl, inr, is_of_kind, is_table_of, length}
use Rattle.dv_restore.proofs.Vocabulary.{link_rule, made_of, multi_rule, nat_le, option_map, option_or, refl, rules, sat_rule, snapshot_flaw, snapshot_rule, status_rule, subst, table_name, true, ℕ, ◌&&◌, ◌++◌, ◌+◌, ◌∷◌, ◌≡◌, ◌≤◌}
use Rattle.dv_catalog.specs.declared.tables.TableId.TheVariants.{Hub, Link}

-- ---- the numbers of rules

numbered : (n : ℕ) → nat_le 1 n && nat_le n 15 ≡ true → IsFormRule n
numbered n h1 = search (rules)

-- ---- the first flaw of rows

abbrev pub IsFlaw : Flaw → Type 0
IsFlaw flaw = (1 ≤ flaw.row) × IsFormRule flaw.rule

or_some : {X : Type 0} (P : X → Type 0) (a b : Option X) → IfSome a P → IfSome b P → IfSome (option_or a b) P
or_some P None b here later = later
or_some P (Some x) b here later = here

counted : (count : ℕ) (rule : Option ℕ) → IfSome rule IsFormRule → IfSome (option_map (λ r. record { row = count + 1; rule = r }) rule) IsFlaw
counted count None is = tt
counted count (Some r) is = (omega arith, is)

module _ {R : Type 0} (rule_of : List R → R → Option ℕ) (own : (before : List R) (row : R) → IfSome (rule_of before row) IsFormRule) where
  along : (before rows : List R) → IfSome (first_along (flaw_behind rule_of) before rows) IsFlaw
  along before [] = tt
  along before (row ∷ rows) =
      or_some IsFlaw (flaw_behind rule_of before row) (first_along (flaw_behind rule_of) (before ++ row ∷ []) rows) (counted (length before) (rule_of before row) (own before row)) (along (before ++ row ∷ []) rows)

  first_named : (rows : List R) → IfSome (first_flaw rule_of rows) IsFlaw
  first_named rows = along [] rows

-- ---- what stands beside the raw tables

heads_named : (mapping : Mapping) (heads : List WindowHead) → IfSome (head_flaw mapping heads) IsFlaw
heads_named mapping heads = first_named (head_rule mapping) (λ before head. search (rules, arith)) heads

snapshots_named : (windows : List WindowHead) (heads : List SnapHead) → IfSome (snapshot_flaw windows heads) IsFlaw
snapshots_named windows heads = first_named (snapshot_rule windows) (λ before head. search (rules, arith)) heads

-- ---- raw tables

seven_named : (a b c d e f g : Bool) → IfSome (first_of (if_broken 4 a ∷ if_broken 5 b ∷ if_broken 6 c ∷ if_broken 7 d ∷ if_broken 8 e ∷ if_broken 9 f ∷ if_broken 13 g ∷ [])) IsFormRule
seven_named a b c d e f g = search (rules, arith)

module _ (known : Known) (n : ℕ) where
  hub_named : (before : List HubRow) (row : HubRow) → IfSome (hub_rule known n before row) IsFormRule
  hub_named before row = search (rules, arith)

  link_named : (before : List LinkRow) (row : LinkRow) → IfSome (link_rule known n before row) IsFormRule
  link_named before row = search (rules, arith)

  sat_named : (before : List SatRow) (row : SatRow) → IfSome (sat_rule known n before row) IsFormRule
  sat_named before row = seven_named _ _ _ _ _ _ _

  multi_named : (before : List MultiRow) (row : MultiRow) → IfSome (multi_rule known n before row) IsFormRule
  multi_named before row = seven_named _ _ _ _ _ _ _

  status_named : (before : List StatusRow) (row : StatusRow) → IfSome (status_rule known n before row) IsFormRule
  status_named before row = search (rules, arith)

  effect_named : (before : List EffectRow) (row : EffectRow) → IfSome (effect_rule known n before row) IsFormRule
  effect_named before row = search (rules, arith)

flaw_named : (known : Known) (id : TableId) (rows : Rows) → is_of_kind id rows ≡ true → IfSome (flaw_in known id rows) IsFlaw
flaw_named known (Hub n) (Hubs rows) own = first_named (hub_rule known n) (hub_named known n) rows
flaw_named known (Link n) (Links rows) own = first_named (link_rule known n) (link_named known n) rows
flaw_named known (Sat n) (Sats rows) own = first_named (sat_rule known n) (sat_named known n) rows
flaw_named known (Multi n) (Multis rows) own = first_named (multi_rule known n) (multi_named known n) rows
flaw_named known (Status n) (Statuses rows) own = first_named (status_rule known n) (status_named known n) rows
flaw_named known (Effect n) (Effects rows) own = first_named (effect_rule known n) (effect_named known n) rows
flaw_named known id rows own = cc

read_named : (known : Known) (id : TableId) (read : Read) → IsOfTable id read → IfSome (flaw_read known id read) IsFlaw
read_named known id (AllRows rows) own = flaw_named known id rows own
read_named known id (OtherKind row) own = (own, numbered 4 refl)

-- ---- damage

found : (flaws : Option Flaw) (flaw : Flaw) → IfSome flaws IsFlaw → flaws ≡ Some flaw → IsFlaw flaw
found flaws flaw named is = subst (λ o. IfSome o IsFlaw) is named

beside : (mapping : Mapping) (table : List ℕ) (flaw : Flaw) → IsBesideTables table → IsFlaw flaw → IsNamed mapping (damage_at table flaw)
beside mapping table flaw name named = record { table_is = inl name; counted = named.0; numbered = named.1 }

pub windows_named : (mapping : Mapping) (heads : List WindowHead) (flaw : Flaw) → head_flaw mapping heads ≡ Some flaw → IsNamed mapping (damage_at (codes "windows") flaw)
windows_named mapping heads flaw is = beside mapping (codes "windows") flaw (inr (inl refl)) (found (head_flaw mapping heads) flaw (heads_named mapping heads) is)

pub snapshot_named : (mapping : Mapping) (windows : List WindowHead) (heads : List SnapHead) (flaw : Flaw) → snapshot_flaw windows heads ≡ Some flaw → IsNamed mapping (damage_at (codes "snapshots") flaw)
snapshot_named mapping windows heads flaw is = beside mapping (codes "snapshots") flaw (inr (inr (inr refl))) (found (snapshot_flaw windows heads) flaw (snapshots_named windows heads) is)

-- of a raw table
pub table_named : (mapping : Mapping) (known : Known) (id : TableId) (read : Read) → is_table_of mapping id ≡ true → IsOfTable id read → (damage : Damage)
    → option_map (damage_at (table_name mapping id)) (flaw_read known id read) ≡ Some damage → IsNamed mapping damage
table_named mapping known id read has own damage is =
    let (flaw, at, made) = made_of (damage_at (table_name mapping id)) (flaw_read known id read) damage is in
    let named = found (flaw_read known id read) flaw (read_named known id read own) at in
    subst (IsNamed mapping) made (record { table_is = inr (id, has, refl); counted = named.0; numbered = named.1 })
