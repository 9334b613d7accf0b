-- Where the rows of a table stand among the tables of a vault.
use Rattle.dv_vault.proofs.Vocabulary.{Bool, Bor, Contains, Contains-map, IfNone, IfSome, Indexed, IsVaultOf, List, Mapping, None, Option, Rows, Some, Table, TableId, TableRows, [], ap, cond, entry_of, false, false_from_ne_true, false≢true, find, found_member, got_from, has_hub, has_link}
use Rattle.dv_vault.proofs.Vocabulary.{has_status, has_table, if◌then◌else◌, is_of_kind, length, length-map, map, map_member, nat_lt, no_rows, none_found_at, none_pass, not, option_map, position, prefix_len, refl, rows_in, same_table, some_passes, some_passes_at, subst, sym, table_eq}
use Rattle.dv_vault.proofs.Vocabulary.{table_eq-itself, tables, true, ℕ, ◌+◌, ◌<◌, ◌||◌, ◌∙◌, ◌∷◌, ◌≡◌}
use Rattle.dv_vault.specs.declared.tables.Table.TheVariants as variants
use Rattle.dv_catalog.specs.declared.tables.TableId.TheVariants as ids

pub found_rows : (id : TableId) (entries : List TableRows) (entry : TableRows) → find (λ other. table_eq other.table id) entries ≡ Some entry → rows_in id entries ≡ entry.rows
found_rows id [] entry e = cc
found_rows id (first ∷ entries) entry e = by (table_eq first.table id) (found_rows id entries entry) e
  where
    by : (b : Bool) → (find (λ other. table_eq other.table id) entries ≡ Some entry → rows_in id entries ≡ entry.rows)
        → (if b then Some first else find (λ other. table_eq other.table id) entries) ≡ Some entry → (if b then first.rows else rows_in id entries) ≡ entry.rows
    by true later e = cc
    by false later e = later e

pub found_none : (id : TableId) (entries : List TableRows) → find (λ other. table_eq other.table id) entries ≡ None → has_table id entries ≡ false
found_none id entries e = none_pass (λ (other : TableRows). table_eq other.table id) entries (λ entry has. none_found_at (λ (other : TableRows). table_eq other.table id) entries entry e has)

pub found_table : (id : TableId) (entries : List TableRows) (entry : TableRows) → find (λ other. table_eq other.table id) entries ≡ Some entry → entry.table ≡ id
found_table id entries entry e = same_table entry.table id (found_member (λ (other : TableRows). table_eq other.table id) entries entry e).1

-- a look among what is seen of things
pub find-seen : {X Y : Type 0} (f : X → Y) (test : Y → Bool) (xs : List X) → option_map f (find (λ x. test (f x)) xs) ≡ find test (map f xs)
find-seen f test [] = refl
find-seen f test (x ∷ xs) = by (test (f x)) (find-seen f test xs)
  where
    by : (b : Bool) → option_map f (find (λ x. test (f x)) xs) ≡ find test (map f xs)
        → option_map f (if b then Some x else find (λ x. test (f x)) xs) ≡ (if b then Some (f x) else find test (map f xs))
    by true later = refl
    by false later = later

pub seen-twice : {X Y Z : Type 0} (f : X → Y) (g : Y → Z) (found : Option X) → option_map (λ x. g (f x)) found ≡ option_map g (option_map f found)
seen-twice f g None = refl
seen-twice f g (Some x) = refl

-- a place among what is seen of things
prefix_len-seen : {X Y : Type 0} (f : X → Y) (test : Y → Bool) (xs : List X) → prefix_len (λ x. test (f x)) xs ≡ prefix_len test (map f xs)
prefix_len-seen f test [] = refl
prefix_len-seen f test (x ∷ xs) = ap (λ n. cond (test (f x)) (1 + n) 0) (prefix_len-seen f test xs)

pub position-seen : {X Y : Type 0} (f : X → Y) (test : Y → Bool) (xs : List X) → position (λ x. test (f x)) xs ≡ position test (map f xs)
position-seen f test xs =
    let place = prefix_len-seen f (λ y. not (test y)) xs in
    let long = sym (length-map xs f) in
    λ i. cond (nat_lt (place i) (long i)) (Some (place i)) None

-- ---- the rows of a table are of its kind

pub kind_of : (t : Table) → is_of_kind (entry_of t).table (entry_of t).rows ≡ true
kind_of (variants.Hub hub rows) = refl
kind_of (variants.Link link rows) = refl
kind_of (variants.Sat feed rows) = refl
kind_of (variants.Multi feed rows) = refl
kind_of (variants.Status feed rows) = refl
kind_of (variants.Effect feed rows) = refl

none_of_kind : (id : TableId) → is_of_kind id (no_rows id) ≡ true
none_of_kind (ids.Hub n) = refl
none_of_kind (ids.Link n) = refl
none_of_kind (ids.Sat n) = refl
none_of_kind (ids.Multi n) = refl
none_of_kind (ids.Status n) = refl
none_of_kind (ids.Effect n) = refl

pub rows_of_kind : (id : TableId) (tables : List Table) → is_of_kind id (rows_in id (map entry_of tables)) ≡ true
rows_of_kind id [] = none_of_kind id
rows_of_kind id (t ∷ tables) = by (table_eq (entry_of t).table id) refl (rows_of_kind id tables)
  where
    by : (b : Bool) → table_eq (entry_of t).table id ≡ b → is_of_kind id (rows_in id (map entry_of tables)) ≡ true
        → is_of_kind id (if b then (entry_of t).rows else rows_in id (map entry_of tables)) ≡ true
    by true is later = subst (λ id. is_of_kind id (entry_of t).rows ≡ true) (same_table (entry_of t).table id is) (kind_of t)
    by false is later = later

-- ---- a table that was looked for

-- its rows are those of its kind among the tables
pub seen_rows : {R : Type 0} (id : TableId) (kind : List R → Rows) (rows_of : Rows → List R) → ((rows : List R) → rows_of (kind rows) ≡ rows)
    → (entries : List TableRows) (entry : TableRows) (table : Option (Bor (Indexed R)))
    → Some entry ≡ find (λ other. table_eq other.table id) entries → IfSome table (λ t. entry.rows ≡ kind t.now.rows)
    → IfSome table (λ t. t.now.rows ≡ rows_of (rows_in id entries))
seen_rows id kind rows_of back entries entry None found is = tt
seen_rows id kind rows_of back entries entry (Some t) found is = sym (back t.now.rows) ∙ sym (ap rows_of (found_rows id entries entry (sym found) ∙ is))

-- a table of the kind of its id is there
pub seen_none : {X : Type 0} (id : TableId) (kind : TableId → Bool) → kind id ≡ true → (entries : List TableRows) (entry : TableRows) (table : Option X)
    → Some entry ≡ find (λ other. table_eq other.table id) entries → IfNone table (kind entry.table ≡ false) → IfNone table (has_table id entries ≡ false)
seen_none id kind is entries entry None found none = absurd (false≢true (sym none ∙ ap kind (found_table id entries entry (sym found)) ∙ is))
seen_none id kind is entries entry (Some t) found none = tt

-- a table that was found is among them
pub seen_there : {X : Type 0} (id : TableId) (entries : List TableRows) (entry : TableRows) (table : Option X)
    → Some entry ≡ find (λ other. table_eq other.table id) entries → IfSome table (λ t. has_table id entries ≡ true)
seen_there id entries entry None found = tt
seen_there id entries entry (Some t) found =
    let (member, same) = found_member (λ (other : TableRows). table_eq other.table id) entries entry (sym found) in
    some_passes_at (λ (other : TableRows). table_eq other.table id) entries entry member same

pub if_none : {X P : Type 0} (o : Option X) → P → IfNone o P
if_none None p = p
if_none (Some x) p = tt

-- a table that is not there has no rows
pub absent_rows : (id : TableId) (entries : List TableRows) → has_table id entries ≡ false → rows_in id entries ≡ no_rows id
absent_rows id [] e = refl
absent_rows id (first ∷ entries) e = by (table_eq first.table id) (absent_rows id entries) e
  where
    by : (b : Bool) → (has_table id entries ≡ false → rows_in id entries ≡ no_rows id) → (b || has_table id entries) ≡ false
        → (if b then first.rows else rows_in id entries) ≡ no_rows id
    by true later e = absurd (false≢true (sym e))
    by false later e = later e

-- ---- the tables of a mapping

has_among : (id : TableId) (entries : List TableRows) → Contains (map (λ (entry : TableRows). entry.table) entries) id → has_table id entries ≡ true
has_among id entries has =
    let (entry, member, is) = map_member (λ (entry : TableRows). entry.table) entries id has in
    some_passes_at (λ (other : TableRows). table_eq other.table id) entries entry member (ap (λ table. table_eq table id) is ∙ table_eq-itself id)

among_has : (id : TableId) (entries : List TableRows) → has_table id entries ≡ true → Contains (map (λ (entry : TableRows). entry.table) entries) id
among_has id entries has =
    let (entry, member, same) = some_passes (λ (other : TableRows). table_eq other.table id) entries has in
    subst (Contains (map (λ (entry : TableRows). entry.table) entries)) (same_table entry.table id same) (Contains-map (λ (entry : TableRows). entry.table) entries entry member)

module _ (mapping : Mapping) (entries : List TableRows) (is : IsVaultOf mapping entries) where
  pub vault_has : (id : TableId) → Contains (tables mapping) id → has_table id entries ≡ true
  vault_has id has = has_among id entries (subst (λ (all : List TableId). Contains all id) (sym is) has)

  -- a table that is there is one of the mapping
  pub of_mapping : {X : Type 0} (id : TableId) (table : Option X) → IfSome table (λ t. has_table id entries ≡ true) → IfSome table (λ t. Contains (tables mapping) id)
  of_mapping id None there = tt
  of_mapping id (Some t) there = subst (λ (all : List TableId). Contains all id) is (among_has id entries there)

  -- and one that is absent is none
  pub not_of_mapping : {X : Type 0} (id : TableId) (table : Option X) → IfNone table (has_table id entries ≡ false) → IfNone table (Contains (tables mapping) id → ⊥)
  not_of_mapping id None absent = λ has. false≢true (sym absent ∙ vault_has id has)
  not_of_mapping id (Some t) absent = tt

  -- a table that the mapping does not have is absent
  pub absent_table : (id : TableId) → (Contains (tables mapping) id → ⊥) → has_table id entries ≡ false
  absent_table id none = false_from_ne_true (has_table id entries) (λ there. none (subst (λ (all : List TableId). Contains all id) is (among_has id entries there)))

  pub hub_there : (hub : ℕ) → hub < length mapping.hubs → has_table (ids.Hub hub) entries ≡ true
  hub_there hub under = vault_has (ids.Hub hub) (has_hub mapping hub under)

  pub link_there : (link : ℕ) → link < length mapping.links → has_table (ids.Link link) entries ≡ true
  link_there link under = vault_has (ids.Link link) (has_link mapping link under)

  pub status_there : (feed : ℕ) → feed < length mapping.feeds → has_table (ids.Status feed) entries ≡ true
  status_there feed under = let (definition, got) = got_from mapping.feeds feed under in vault_has (ids.Status feed) (has_status mapping feed definition got)
