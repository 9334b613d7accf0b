-- The missing key among the keys of a hub: what stands under the zero key, and what that says of clashes.
use Rattle.dv_restore.proofs.Vocabulary.{All, All-cons, All-contains, All-head, All-nil, All-tail, AreNamed, Bool, Contains, Contains-append_cases, Contains-append_left, Contains-append_right, Contains-cons_cases, Contains-cons_here, Contains-cons_there, Contains-get_or, Contains-map}
use Rattle.dv_restore.proofs.Vocabulary.{Contains-nil, Delivery, DigestFunction, Err, HasMisnamed, HasNoClash, Hashed, Hashes, HaveNoZeroLinks, Hub, HubName, HubRow, IfOk, Indexed, IsMisnamed, Key, Link, LinkRow, List, Mapping, None, Ok, Option, Ordering, Parent, Result, Rows, Some, Table}
use Rattle.dv_restore.proofs.Vocabulary.{TableId, TableRows, Window, [], all_missing, ap, brought, bytes_eq, bytes_eq-Decides, compared_in, deliveries, delivery_kept, entry_here, entry_of, false, false≢true, find, found_member, get_or, hashed_by, hashed_in, hashes_of, hubs_of, inl, inr, is_some}
use Rattle.dv_restore.proofs.Vocabulary.{key_eq, key_eq-Decides, key_with, keys_under, length, list_any, map, map_member, missing_in, missing_key, missing_refs, missing_table, not, not-false, not-true, one_list, option_map, parent_hubs, refl, same_Some, some_found, some_passes_at, stored}
use Rattle.dv_restore.proofs.Vocabulary.{stored_keys, subst, sym, take, take_all, take_more, true, zero_key, ℕ, ◌++◌, ◌+◌, ◌<◌, ◌∙◌, ◌∷◌, ◌≡◌, ◌≤◌, ◌⊎◌}
use Rattle.dv_restore.specs.Begins.{IsNamed}
use Rattle.dv_restore.proofs.KnownLists.{never_less, single_clear}
use Rattle.dv_catalog.specs.declared.tables.TableId.TheVariants as ids
use Rattle.dv_records.specs.declared.stores.Rows.TheVariants as of
use Rattle.dv_vault.specs.declared.tables.Table.TheVariants as held_as

-- the hash key of what is missing is the zero key
pub missing_zero : (mapping : Mapping) (function : DigestFunction) (parent : Parent) → (hashes_of function).hash (missing_refs mapping parent) ≡ zero_key function.width
missing_zero mapping function parent = let e = all_missing mapping (parent_hubs mapping parent) in rw e refl

module _ (hashes : Hashes) (missing : List Key) (all : List Hashed) where
  -- a list under the hash key of what is missing, which is another one
  pub other_clashes : (refs : List Key) → Contains all (record { digest = hashes.hash missing; refs = refs }) → (refs ≡ missing → ⊥) → HasNoClash (hashed_by hashes missing ∷ all) → ⊥
  other_clashes refs has other none =
      other (one_list (hashed_by hashes missing ∷ all) none (hashes.hash missing) refs missing (Contains-cons_there (hashed_by hashes missing) all (record { digest = hashes.hash missing; refs = refs }) has)
      (Contains-cons_here (hashed_by hashes missing) all))

  -- where no other list stands under it
  pub missing_clear : HasNoClash all → ((refs : List Key) → Contains all (record { digest = hashes.hash missing; refs = refs }) → refs ≡ missing) → HasNoClash (hashed_by hashes missing ∷ all)
  missing_clear none alone pair is = never_less pair.first pair.second (by (sides pair.first is.has_first) (sides pair.second is.has_second)) is.ordered
    where
      sides : (refs : List Key) → Contains (hashed_by hashes missing ∷ all) (record { digest = is.digest; refs = refs }) → ((is.digest ≡ hashes.hash missing) × (refs ≡ missing)) ⊎ Contains all (record { digest = is.digest; refs = refs })
      sides refs has =
          elim (Contains-cons_cases (hashed_by hashes missing) all (record { digest = is.digest; refs = refs }) has) [
            | inl same ↦ inl (ap (λ (h : Hashed). h.digest) (sym same), ap (λ (h : Hashed). h.refs) (sym same))
            | inr more ↦ inr more
          ]

      by : ((is.digest ≡ hashes.hash missing) × (pair.first ≡ missing)) ⊎ Contains all (record { digest = is.digest; refs = pair.first })
          → ((is.digest ≡ hashes.hash missing) × (pair.second ≡ missing)) ⊎ Contains all (record { digest = is.digest; refs = pair.second }) → pair.first ≡ pair.second
      by (inl (digest, a)) (inl (again, b)) = a ∙ sym b
      by (inl (digest, a)) (inr b) = a ∙ sym (alone pair.second (subst (λ d. Contains all (record { digest = d; refs = pair.second })) digest b))
      by (inr a) (inl (digest, b)) = alone pair.first (subst (λ d. Contains all (record { digest = d; refs = pair.first })) digest a) ∙ sym b
      by (inr a) (inr b) = one_list all none is.digest pair.first pair.second a b

-- what is brought has what is missing with it
brought_missing : (mapping : Mapping) (hashes : Hashes) (parent : Parent) (window : Window) (entry : Hashed) → Contains (brought mapping hashes (deliveries mapping parent window)) entry
    → Contains (brought mapping hashes (deliveries mapping parent window)) (hashed_by hashes (missing_refs mapping parent))
brought_missing mapping hashes parent window entry = by (deliveries mapping parent window) refl
  where
    by : (items : List Delivery) → deliveries mapping parent window ≡ items → Contains (brought mapping hashes items) entry → Contains (brought mapping hashes items) (hashed_by hashes (missing_refs mapping parent))
    by [] e has = absurd (Contains-nil entry has)
    by (first ∷ rest) e has =
        let member : Contains (deliveries mapping parent window) first = subst (λ items. Contains items first) (sym e) (Contains-cons_here first rest) in
        let is : missing_in mapping first.table ≡ missing_refs mapping parent = ap (missing_in mapping) (delivery_kept mapping hashes parent window first member).0 ∙ missing_table mapping parent in
        subst (λ list. Contains (brought mapping hashes (first ∷ rest)) (hashed_by hashes list)) is
        (Contains-cons_here (hashed_by hashes (missing_in mapping first.table)) (map (hashed_by hashes) (first.refs ∷ map (λ (other : Delivery). other.refs) rest)))

module _ (mapping : Mapping) (hashes : Hashes) (parent : Parent) (window : Window) (held : List Hashed) where
  abbrev all : List Hashed
  all = brought mapping hashes (deliveries mapping parent window) ++ held

  abbrev missing : List Key
  missing = missing_refs mapping parent

  -- beside what is brought it is enough to look at what is held
  pub held_alone : HasNoClash all → ((refs : List Key) → Contains held (record { digest = hashes.hash missing; refs = refs }) → refs ≡ missing) → HasNoClash (hashed_by hashes missing ∷ all)
  held_alone none alone = missing_clear hashes missing all none (λ refs has.
      elim (Contains-append_cases (brought mapping hashes (deliveries mapping parent window)) held (record { digest = hashes.hash missing; refs = refs }) has) [
        | inl now ↦
            one_list all none (hashes.hash missing) refs missing has
            (Contains-append_left (brought mapping hashes (deliveries mapping parent window)) held (hashed_by hashes missing) (brought_missing mapping hashes parent window (record { digest = hashes.hash missing; refs = refs }) now))
        | inr before ↦ alone refs before
      ])

-- ---- hubs

module _ (mapping : Mapping) (hashes : Hashes) (zero : List ℕ) (hub : ℕ) (zero_is : hashes.hash (missing_refs mapping (Hub hub)) ≡ zero) (window : Window) (rows : List HubRow) where
  abbrev list_of : HubRow → Hashed
  list_of row = record { digest = row.digest; refs = row.key ∷ [] }

  under : (row : HubRow) → bytes_eq row.digest zero ≡ true → row.digest ≡ zero
  under row e = (bytes_eq-Decides row.digest zero).0 e

  -- a key that stands under the zero key
  found_there : (key : Key) → option_map (λ (row : HubRow). row.key) (find (λ (row : HubRow). bytes_eq row.digest zero) rows) ≡ Some key → Contains (stored_keys rows) (record { digest = hashes.hash (missing_refs mapping (Hub hub)); refs = key ∷ [] })
  found_there key e = by (find (λ (row : HubRow). bytes_eq row.digest zero) rows) refl e
    where
      by : (found : Option HubRow) → find (λ (row : HubRow). bytes_eq row.digest zero) rows ≡ found → option_map (λ (row : HubRow). row.key) found ≡ Some key → Contains (stored_keys rows) (record { digest = hashes.hash (missing_refs mapping (Hub hub)); refs = key ∷ [] })
      by None f g = cc
      by (Some row) f g =
          let (member, is) = found_member (λ (row : HubRow). bytes_eq row.digest zero) rows row f in
          let same : row.key ≡ key = cc in
          subst (Contains (stored_keys rows)) (λ i. record { digest = (under row is ∙ sym zero_is) i; refs = same i ∷ [] }) (Contains-map list_of rows row member)

  abbrev missing_list : List Key
  missing_list = missing_refs mapping (Hub hub)

  pub misnamed_clashes : (key : Key) → option_map (λ (row : HubRow). row.key) (find (λ (row : HubRow). bytes_eq row.digest zero) rows) ≡ Some key → (key ≡ missing_key mapping hub → ⊥)
      → HasNoClash (hashed_by hashes missing_list ∷ (brought mapping hashes (deliveries mapping (Hub hub) window) ++ stored_keys rows)) → ⊥
  misnamed_clashes key found other none =
      other_clashes hashes missing_list (brought mapping hashes (deliveries mapping (Hub hub) window) ++ stored_keys rows) (key ∷ [])
      (Contains-append_right (brought mapping hashes (deliveries mapping (Hub hub) window)) (stored_keys rows) _ (found_there key found))
      (λ same. other (one same)) none
    where
      one : key ∷ [] ≡ missing_list → key ≡ missing_key mapping hub
      one e = cc

  pub named_clear : IsNamed mapping zero hub rows → HasNoClash (brought mapping hashes (deliveries mapping (Hub hub) window) ++ stored_keys rows)
      → HasNoClash (hashed_by hashes missing_list ∷ (brought mapping hashes (deliveries mapping (Hub hub) window) ++ stored_keys rows))
  named_clear named none = held_alone mapping hashes (Hub hub) window (stored_keys rows) none alone
    where
      among : (entry : Hashed) → Contains (stored_keys rows) entry → Contains (brought mapping hashes (deliveries mapping (Hub hub) window) ++ stored_keys rows) entry
      among entry = Contains-append_right (brought mapping hashes (deliveries mapping (Hub hub) window)) (stored_keys rows) entry

      alone : (refs : List Key) → Contains (stored_keys rows) (record { digest = hashes.hash missing_list; refs = refs }) → refs ≡ missing_list
      alone refs has =
          let (row, member, is) = map_member list_of rows (record { digest = hashes.hash missing_list; refs = refs }) has in
          let digest : row.digest ≡ zero = ap (λ (h : Hashed). h.digest) is ∙ zero_is in
          let some : is_some (find (λ (row : HubRow). bytes_eq row.digest zero) rows) ≡ true =
          some_found (λ (row : HubRow). bytes_eq row.digest zero) rows ∙ some_passes_at (λ (row : HubRow). bytes_eq row.digest zero) rows row member ((bytes_eq-Decides row.digest zero).1 digest) in
          by (find (λ (row : HubRow). bytes_eq row.digest zero) rows) refl some
        where
          by : (found : Option HubRow) → find (λ (row : HubRow). bytes_eq row.digest zero) rows ≡ found → is_some found ≡ true → refs ≡ missing_list
          by None f g = cc
          by (Some other) f g =
              let key : other.key ≡ missing_key mapping hub = named other.key (ap (option_map (λ (row : HubRow). row.key)) f) in
              one_list (brought mapping hashes (deliveries mapping (Hub hub) window) ++ stored_keys rows) none (hashes.hash missing_list) refs (other.key ∷ []) (among _ has) (among _ (found_there other.key (ap (option_map (λ (row : HubRow). row.key)) f)))
              ∙ ap (λ k. k ∷ []) key

-- ---- tables

module _ (mapping : Mapping) (function : DigestFunction) (names : List HubName) (window : Window) where
  abbrev hashes : Hashes
  hashes = hashes_of function

  abbrev IsClear : TableRows → Type 0
  IsClear entry = HasNoClash (compared_in mapping hashes names window entry)

  -- another key under the zero key clashes
  pub never_misnamed : (entries : List TableRows) → HasMisnamed mapping (zero_key function.width) entries → All IsClear entries → ⊥
  never_misnamed entries has clear =
      misnamed_clashes mapping hashes (zero_key function.width) has.hub (missing_zero mapping function (Hub has.hub)) window has.rows has.is.key has.is.found has.is.other
      (All-contains IsClear entries (record { table = ids.Hub has.hub; rows = of.Hubs has.rows }) clear has.there)

  links_clear : (link : ℕ) (rows : List LinkRow) → list_any (λ row. bytes_eq row.digest (zero_key function.width)) rows ≡ false → HasNoClash (hashed_in mapping hashes names window (record { table = ids.Link link; rows = of.Links rows }))
      → IsClear (record { table = ids.Link link; rows = of.Links rows })
  links_clear link rows zero none = held_alone mapping hashes (Link link) window (stored mapping names (hubs_of mapping (deliveries mapping (Link link) window)) rows) none (λ refs has.
      let (row, member, is) = map_member (λ (row : LinkRow). record { digest = row.digest; refs = keys_under mapping names (hubs_of mapping (deliveries mapping (Link link) window)) row.hubs }) rows (record { digest = hashes.hash (missing_refs mapping (Link link)); refs = refs }) has in
      let digest : row.digest ≡ zero_key function.width = ap (λ (h : Hashed). h.digest) is ∙ missing_zero mapping function (Link link) in
      absurd (false≢true (sym zero ∙ some_passes_at (λ (row : LinkRow). bytes_eq row.digest (zero_key function.width)) rows row member ((bytes_eq-Decides row.digest (zero_key function.width)).1 digest))))

  entry_clear : (table : TableId) (rows : Rows) → ((hub : ℕ) (keys : List HubRow) → table ≡ ids.Hub hub → rows ≡ of.Hubs keys → IsNamed mapping (zero_key function.width) hub keys)
      → ((link : ℕ) (lists : List LinkRow) → table ≡ ids.Link link → rows ≡ of.Links lists → list_any (λ row. bytes_eq row.digest (zero_key function.width)) lists ≡ false)
      → HasNoClash (hashed_in mapping hashes names window (record { table = table; rows = rows })) → IsClear (record { table = table; rows = rows })
  entry_clear (ids.Hub hub) (of.Hubs rows) named zero none = named_clear mapping hashes (zero_key function.width) hub (missing_zero mapping function (Hub hub)) window rows (named hub rows refl refl) none
  entry_clear (ids.Link link) (of.Links rows) named zero none = links_clear link rows (zero link rows refl refl) none
  entry_clear table rows named zero none = single_clear _

  -- where none stands there, none clash with what is missing either
  pub all_named : (entries : List TableRows) → AreNamed mapping (zero_key function.width) entries → HaveNoZeroLinks function.width entries
      → All (λ entry. HasNoClash (hashed_in mapping hashes names window entry)) entries → All IsClear entries
  all_named [] named zero none = All-nil IsClear
  all_named (entry ∷ entries) named zero none =
      All-cons IsClear entry entries
      (entry_clear entry.table entry.rows
      (λ hub keys is are. named hub keys (subst (Contains (entry ∷ entries)) (λ i. record { table = is i; rows = are i }) (Contains-cons_here entry entries)))
      (λ link lists is are. zero link lists (subst (Contains (entry ∷ entries)) (λ i. record { table = is i; rows = are i }) (Contains-cons_here entry entries)))
      (All-head (λ entry. HasNoClash (hashed_in mapping hashes names window entry)) entry entries none))
      (all_named entries (λ hub keys has. named hub keys (Contains-cons_there entry entries _ has)) (λ link lists has. zero link lists (Contains-cons_there entry entries _ has))
      (All-tail (λ entry. HasNoClash (hashed_in mapping hashes names window entry)) entry entries none))

-- ---- what is looked up

module _ (mapping : Mapping) (digest : List ℕ) where
  -- the key that stands there, compared with the missing one
  pub other_misnamed : (hub : ℕ) (rows : List HubRow) (key missing : Key) → key_with digest rows ≡ Some key → missing ≡ missing_key mapping hub → not (key_eq key missing) ≡ true → IsMisnamed mapping digest hub rows
  other_misnamed hub rows key missing found is differs = record {
    key = key;
    found = found;
    other = λ same. false≢true (sym (not-true (key_eq key missing) differs) ∙ (key_eq-Decides key missing).1 (same ∙ sym is));
  }

  pub same_named : (hub : ℕ) (rows : List HubRow) (key missing : Key) → key_with digest rows ≡ Some key → missing ≡ missing_key mapping hub → not (key_eq key missing) ≡ false → IsNamed mapping digest hub rows
  same_named hub rows key missing found is same other at =
      same_Some other key (sym at ∙ found) ∙ (key_eq-Decides key missing).0 (not-false (key_eq key missing) same) ∙ is

  -- in a hub alone
  pub hub_misnamed : {E : Type 0} (result : Result Bool E) (hub : ℕ) (rows : List HubRow) → IfOk result (λ is. is ≡ true → IsMisnamed mapping digest hub rows)
      → IfOk result (λ is. is ≡ true → HasMisnamed mapping digest (record { table = ids.Hub hub; rows = of.Hubs rows } ∷ []))
  hub_misnamed (Ok is) hub rows misnamed = λ e. record { hub = hub; rows = rows; there = Contains-cons_here (record { table = ids.Hub hub; rows = of.Hubs rows }) []; is = misnamed e }
  hub_misnamed (Err error) hub rows misnamed = tt

  one_hub : (hub : ℕ) (rows : List HubRow) → IsNamed mapping digest hub rows → AreNamed mapping digest (record { table = ids.Hub hub; rows = of.Hubs rows } ∷ [])
  one_hub hub rows named other others has =
      elim (Contains-cons_cases (record { table = ids.Hub hub; rows = of.Hubs rows }) [] (record { table = ids.Hub other; rows = of.Hubs others }) has) [
        | inl same ↦
            let tables : ids.Hub hub ≡ ids.Hub other = ap (λ (entry : TableRows). entry.table) same in
            let lists : of.Hubs rows ≡ of.Hubs others = ap (λ (entry : TableRows). entry.rows) same in
            let hubs : hub ≡ other = cc in
            let keys : rows ≡ others = cc in
            subst (λ hub. IsNamed mapping digest hub others) hubs (subst (IsNamed mapping digest hub) keys named)
        | inr none ↦ absurd (Contains-nil (record { table = ids.Hub other; rows = of.Hubs others }) none)
      ]

  pub hub_named : {E : Type 0} (result : Result Bool E) (hub : ℕ) (rows : List HubRow) → IfOk result (λ is. is ≡ false → IsNamed mapping digest hub rows)
      → IfOk result (λ is. is ≡ false → AreNamed mapping digest (record { table = ids.Hub hub; rows = of.Hubs rows } ∷ []))
  hub_named (Ok is) hub rows named = λ e. one_hub hub rows (named e)
  hub_named (Err error) hub rows named = tt

  -- in a table that is no hub
  never_hub : (t : Table) → ((hub : ℕ) (rows : Indexed HubRow) → t ≡ held_as.Hub hub rows → ⊥) → (hub : ℕ) → (entry_of t).table ≡ ids.Hub hub → ⊥
  never_hub (held_as.Hub own rows) not hub e = not own rows refl
  never_hub (held_as.Link link rows) not hub e = let tables : ids.Link link ≡ ids.Hub hub = e in cc
  never_hub (held_as.Sat feed rows) not hub e = let tables : ids.Sat feed ≡ ids.Hub hub = e in cc
  never_hub (held_as.Multi feed rows) not hub e = let tables : ids.Multi feed ≡ ids.Hub hub = e in cc
  never_hub (held_as.Status feed rows) not hub e = let tables : ids.Status feed ≡ ids.Hub hub = e in cc
  never_hub (held_as.Effect feed rows) not hub e = let tables : ids.Effect feed ≡ ids.Hub hub = e in cc

  pub other_named : (t : Table) → ((hub : ℕ) (rows : Indexed HubRow) → t ≡ held_as.Hub hub rows → ⊥) → AreNamed mapping digest (entry_of t ∷ [])
  other_named t not hub rows has =
      elim (Contains-cons_cases (entry_of t) [] (record { table = ids.Hub hub; rows = of.Hubs rows }) has) [
        | inl same ↦ absurd (never_hub t not hub (ap (λ (entry : TableRows). entry.table) same))
        | inr none ↦ absurd (Contains-nil (record { table = ids.Hub hub; rows = of.Hubs rows }) none)
      ]

  -- in the tables so far
  pub none_so_far : AreNamed mapping digest []
  none_so_far hub rows has = absurd (Contains-nil (record { table = ids.Hub hub; rows = of.Hubs rows }) has)

  pub one_more : (tables : List Table) (i : ℕ) (t : Table) → i < length tables → t ≡ get_or tables i t → AreNamed mapping digest (take i (map entry_of tables)) → AreNamed mapping digest (entry_of t ∷ [])
      → AreNamed mapping digest (take (i + 1) (map entry_of tables))
  one_more tables i t under at named here hub rows has =
      let (within, is) = entry_here tables i t under at in
      let all = subst (λ some. Contains some (record { table = ids.Hub hub; rows = of.Hubs rows })) (take_more (map entry_of tables) i (entry_of t) within ∙ ap (λ e. take i (map entry_of tables) ++ e ∷ []) is) has in
      elim (Contains-append_cases (take i (map entry_of tables)) (entry_of t ∷ []) (record { table = ids.Hub hub; rows = of.Hubs rows }) all) [
        | inl before ↦ named hub rows before
        | inr now ↦ here hub rows now
      ]

  pub all_so_far : (tables : List Table) (i : ℕ) → length (map entry_of tables) ≤ i → AreNamed mapping digest (take i (map entry_of tables)) → AreNamed mapping digest (map entry_of tables)
  all_so_far tables i all named = subst (AreNamed mapping digest) (take_all i (map entry_of tables) all) named

  pub misnamed_there : (tables : List Table) (i : ℕ) (t : Table) → i < length tables → t ≡ get_or tables i t → HasMisnamed mapping digest (entry_of t ∷ []) → HasMisnamed mapping digest (map entry_of tables)
  misnamed_there tables i t under at has =
      let (within, is) = entry_here tables i t under at in
      record {
        hub = has.hub;
        rows = has.rows;
        there = elim (Contains-cons_cases (entry_of t) [] (record { table = ids.Hub has.hub; rows = of.Hubs has.rows }) has.there) [
          | inl same ↦ subst (Contains (map entry_of tables)) (is ∙ same) (Contains-get_or (map entry_of tables) i (entry_of t) within)
          | inr none ↦ absurd (Contains-nil (record { table = ids.Hub has.hub; rows = of.Hubs has.rows }) none)
        ];
        is = has.is;
      }
