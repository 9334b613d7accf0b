-- A table of a vault whose lists clash is the hub or the link in which windows collide, and without a clash they don't.
use Rattle.dv_vault.proofs.Vocabulary.{All, All-cons, All-head, All-nil, All-tail, AreApart, AreApartBy, Contains, Contains-append_right, Contains-cons_here, Contains-nil, HasNoClash, HasSealed, Hashed, Hashes, Hub, HubName, IsFirstClash, IsLeastClash, Link, List, Mapping, None, Option, Pair}
use Rattle.dv_vault.proofs.Vocabulary.{Parent, RawVault, Some, TableId, TableRows, TellLists, Window, [], and_parts, ap, are_windows_valid, ascends, backwards, collision, collision_free, collision_in, feed_tables, first_collision, hashed_in, hub_apart, hub_least, hub_names, hub_none, is_none}
use Rattle.dv_vault.proofs.Vocabulary.{is_valid, is_window, length, link_least, link_none, list_all, map, map-append, map-map, map_member, nat_le, none_collide, none_from, option_map, option_or, parents, range_with_len, refl, reverse, reverse-append, reverse-reverse, subst, sym, table_entry}
use Rattle.dv_vault.proofs.Vocabulary.{table_of, tables, true, vault, vault_weight, ◌++◌, ◌∙◌, ◌∷◌, ◌≡◌}
use Rattle.dv_vault.proofs.{FeedLists.reversed_whole, FeedTables.of_feeds, NamedHubs.hubs_named}

-- windows with one more, the newest first and back again
pub turned_back : (sealed : List Window) (window : Window) → reverse (window ∷ reverse sealed) ≡ sealed ++ window ∷ []
turned_back sealed window =
    let turned : reverse (sealed ++ window ∷ []) ≡ window ∷ reverse sealed = reverse-append sealed (window ∷ []) in
    ap reverse (sym turned) ∙ reverse-reverse (sealed ++ window ∷ [])

-- ---- the hubs and the links come first among the tables

pub parents_first : (mapping : Mapping) → tables mapping ≡ map table_of (parents mapping) ++ feed_tables 0 mapping.feeds
parents_first mapping =
    let hubs = range_with_len 0 (length mapping.hubs) in
    let links = range_with_len 0 (length mapping.links) in
    ap (λ all. all ++ feed_tables 0 mapping.feeds)
    (sym (map-append table_of (map (λ n. Hub n) hubs) (map (λ n. Link n) links) ∙ (λ i. map-map table_of (λ n. Hub n) hubs i ++ map-map table_of (λ n. Link n) links i)))

-- what valid windows keep to
pub record SealedParts (mapping : Mapping) (hashes : Hashes) (sealed : List Window) : Type 0 where
  pub ordered : ascends (map (λ window. window.load) sealed) ≡ true
  pub whole : list_all (is_window mapping) sealed ≡ true
  pub free : All (λ parent. collision_in mapping hashes sealed parent ≡ None) (parents mapping)

pub sealed_parts : (mapping : Mapping) (hashes : Hashes) (sealed : List Window) → are_windows_valid mapping hashes sealed ≡ true → SealedParts mapping hashes sealed
sealed_parts mapping hashes sealed valid =
    let (e1, few) = and_parts _ (nat_le (length sealed) 10000) valid in
    let (e2, light) = and_parts _ (nat_le (vault_weight mapping hashes sealed) 1073741824) e1 in
    let (e3, apart) = and_parts _ (is_none (collision mapping hashes sealed)) e2 in
    let (ordered, whole) = and_parts (ascends (map (λ window. window.load) sealed)) (list_all (is_window mapping) sealed) e3 in
    record { ordered = ordered; whole = whole; free = (none_collide mapping hashes sealed).0 (none_from (collision mapping hashes sealed) apart) }

same_head : {X : Type 0} (x y : X) (xs ys : List X) → x ∷ xs ≡ y ∷ ys → x ≡ y
same_head x y xs ys e = cc

same_tail : {X : Type 0} (x y : X) (xs ys : List X) → x ∷ xs ≡ y ∷ ys → xs ≡ ys
same_tail x y xs ys e = cc

module _ (mapping : Mapping) (hashes : Hashes) (sealed : List Window) (window : Window) where
  -- a table of the vault
  abbrev entry_at : TableId → TableRows
  entry_at = table_entry mapping hashes (backwards sealed)

  abbrev names : List HubName
  names = hub_names mapping (vault mapping hashes sealed)

  -- what must have hash keys of its own there
  abbrev lists_in : TableRows → List Hashed
  lists_in entry = hashed_in mapping hashes names window entry

  -- tables of feeds have nothing that clashes
  bare_feeds : (id : TableId) → Contains (feed_tables 0 mapping.feeds) id → lists_in (entry_at id) ≡ []
  bare_feeds = of_feeds (λ id. lists_in (entry_at id) ≡ []) 0 mapping.feeds (λ i n definition e got. record { sat = λ none. refl; multi = refl; status = refl; effect = refl })

  -- the tables of the vault: those of the hubs and the links, and those of the feeds
  split_vault : vault mapping hashes sealed ≡ map (λ parent. entry_at (table_of parent)) (parents mapping) ++ map entry_at (feed_tables 0 mapping.feeds)
  split_vault =
      ap (map entry_at) (parents_first mapping)
      ∙ map-append entry_at (map table_of (parents mapping)) (feed_tables 0 mapping.feeds) ∙ ap (λ all. all ++ map entry_at (feed_tables 0 mapping.feeds)) (map-map entry_at table_of (parents mapping))

  bare_rest : (entry : TableRows) → Contains (map entry_at (feed_tables 0 mapping.feeds)) entry → lists_in entry ≡ []
  bare_rest entry has =
      let (id, member, is) = map_member entry_at (feed_tables 0 mapping.feeds) entry has in
      ap lists_in (sym is) ∙ bare_feeds id member

  module _ (valid : is_valid mapping ≡ true) (windows_valid : are_windows_valid mapping hashes sealed ≡ true) where
    -- the names tell the lists of the sealed windows
    pub sealed_told : TellLists mapping hashes (hub_names mapping (vault mapping hashes sealed)) (reverse sealed)
    sealed_told = record {
      named = λ hub. reverse sealed;
      among = λ hub window has. has;
      of_rows = hubs_named mapping hashes sealed;
      apart = λ hub under.
          ap (λ windows. collision_in mapping hashes windows (Hub hub)) (reverse-reverse sealed)
          ∙ (collision_free mapping hashes sealed (Hub hub)).1 (hub_apart mapping hashes sealed windows_valid hub under);
      valid = valid;
      whole = reversed_whole (is_window mapping) sealed (sealed_parts mapping hashes sealed windows_valid).whole;
    }

    -- ---- a hub or a link

    pub unturned : (parent : Parent) → collision_in mapping hashes sealed parent ≡ None → collision_in mapping hashes (reverse (reverse sealed)) parent ≡ None
    unturned parent free = ap (λ windows. collision_in mapping hashes windows parent) (reverse-reverse sealed) ∙ free

    none_at : (parent : Parent) → collision_in mapping hashes sealed parent ≡ None → HasNoClash (lists_in (entry_at (table_of parent))) → collision_in mapping hashes (sealed ++ window ∷ []) parent ≡ None
    none_at (Hub hub) free none =
        ap (λ windows. collision_in mapping hashes windows (Hub hub)) (sym (turned_back sealed window))
        ∙ hub_none mapping hashes hub (reverse sealed) window (unturned (Hub hub) free) none
    none_at (Link link) free none =
        ap (λ windows. collision_in mapping hashes windows (Link link)) (sym (turned_back sealed window))
        ∙ link_none mapping hashes link names (reverse sealed) window sealed_told (unturned (Link link) free) none

    least_at : (parent : Parent) → collision_in mapping hashes sealed parent ≡ None → (pair : Pair) → IsLeastClash (lists_in (entry_at (table_of parent))) pair
        → collision_in mapping hashes (sealed ++ window ∷ []) parent ≡ Some pair
    least_at (Hub hub) free pair least =
        ap (λ windows. collision_in mapping hashes windows (Hub hub)) (sym (turned_back sealed window))
        ∙ hub_least mapping hashes hub (reverse sealed) window (unturned (Hub hub) free) pair least
    least_at (Link link) free pair least =
        ap (λ windows. collision_in mapping hashes windows (Link link)) (sym (turned_back sealed window))
        ∙ link_least mapping hashes link names (reverse sealed) window sealed_told (unturned (Link link) free) pair least

    -- ---- all of them

    abbrev IsFree : Parent → Type 0
    IsFree parent = collision_in mapping hashes sealed parent ≡ None

    abbrev HasClear : TableRows → Type 0
    HasClear entry = HasNoClash (lists_in entry)

    abbrev StaysFree : Parent → Type 0
    StaysFree parent = collision_in mapping hashes (sealed ++ window ∷ []) parent ≡ None

    all_free : (all : List Parent) (rest : List TableRows) → All IsFree all → All HasClear (map (λ parent. entry_at (table_of parent)) all ++ rest) → All StaysFree all
    all_free [] rest free clear = All-nil StaysFree
    all_free (parent ∷ all) rest free clear =
        let behind = map (λ parent. entry_at (table_of parent)) all ++ rest in
        All-cons StaysFree parent all
        (none_at parent (All-head IsFree parent all free) (All-head HasClear (entry_at (table_of parent)) behind clear))
        (all_free all rest (All-tail IsFree parent all free) (All-tail HasClear (entry_at (table_of parent)) behind clear))

    pub stay_free : AreApartBy mapping hashes (hub_names mapping (vault mapping hashes sealed)) window (vault mapping hashes sealed) → All (λ parent. collision_in mapping hashes (sealed ++ window ∷ []) parent ≡ None) (parents mapping)
    stay_free apart =
        all_free (parents mapping) (map entry_at (feed_tables 0 mapping.feeds)) (sealed_parts mapping hashes sealed windows_valid).free (subst (All HasClear) split_vault apart)

    -- the first one with a clash
    first_is : (all : List Parent) → All IsFree all → (rest : List TableRows) → ((entry : TableRows) → Contains rest entry → lists_in entry ≡ [])
        → (before : List TableRows) (entry : TableRows) (behind : List TableRows) → map (λ parent. entry_at (table_of parent)) all ++ rest ≡ before ++ entry ∷ behind
        → All HasClear before → (pair : Pair) → IsLeastClash (lists_in entry) pair
        → first_collision mapping hashes (sealed ++ window ∷ []) all ≡ Some (record { table = entry.table; pair = pair })
    first_is [] free rest bare before entry behind split clear pair least =
        let within : Contains rest entry = subst (λ (all : List TableRows). Contains all entry) (sym split) (Contains-append_right before (entry ∷ behind) entry (Contains-cons_here entry behind)) in
        let nothing : Contains [] (record { digest = least.is.digest; refs = pair.first }) = subst (λ (all : List Hashed). Contains all (record { digest = least.is.digest; refs = pair.first })) (bare entry within) least.is.has_first in
        Contains-nil (record { digest = least.is.digest; refs = pair.first }) nothing
    first_is (parent ∷ all) free rest bare [] entry behind split clear pair least =
        let others = map (λ parent. entry_at (table_of parent)) all ++ rest in
        let same : entry_at (table_of parent) ≡ entry = same_head (entry_at (table_of parent)) entry others behind split in
        let here = least_at parent (All-head IsFree parent all free) pair (subst (λ (entry : TableRows). IsLeastClash (lists_in entry) pair) (sym same) least) in
        ap (λ (found : Option Pair). option_or (option_map (λ (pair : Pair). record { table = table_of parent; pair = pair }) found) (first_collision mapping hashes (sealed ++ window ∷ []) all)) here
        ∙ ap (λ (entry : TableRows). Some (record { table = entry.table; pair = pair })) same
    first_is (parent ∷ all) free rest bare (first ∷ before) entry behind split clear pair least =
        let others = map (λ parent. entry_at (table_of parent)) all ++ rest in
        let same : entry_at (table_of parent) ≡ first = same_head (entry_at (table_of parent)) first others (before ++ entry ∷ behind) split in
        let none = none_at parent (All-head IsFree parent all free) (subst HasClear (sym same) (All-head HasClear first before clear)) in
        ap (λ (found : Option Pair). option_or (option_map (λ (pair : Pair). record { table = table_of parent; pair = pair }) found) (first_collision mapping hashes (sealed ++ window ∷ []) all)) none
        ∙ first_is all (All-tail IsFree parent all free) rest bare before entry behind (same_tail (entry_at (table_of parent)) first others (before ++ entry ∷ behind) split) (All-tail HasClear first before clear) pair least

    pub first_clash : (table : TableId) (pair : Pair) → IsFirstClash mapping hashes (hub_names mapping (vault mapping hashes sealed)) window (vault mapping hashes sealed) table pair
        → collision mapping hashes (sealed ++ window ∷ []) ≡ Some (record { table = table; pair = pair })
    first_clash table pair clash =
        first_is (parents mapping) (sealed_parts mapping hashes sealed windows_valid).free (map entry_at (feed_tables 0 mapping.feeds)) bare_rest clash.before clash.entry clash.behind (sym split_vault ∙ clash.split) clash.none_before pair clash.is
        ∙ ap (λ (table : TableId). Some (record { table = table; pair = pair })) clash.is_table

-- ---- a vault

module _ (hashes : Hashes) (sealed : List Window) (raw : RawVault) (has : HasSealed hashes sealed raw) (valid : is_valid raw.mapping ≡ true) (window : Window) where
  -- where no table has a clash, the sealed windows and the new one don't collide
  pub apart_is_free : AreApart hashes raw window → collision raw.mapping hashes (sealed ++ window ∷ []) ≡ None
  apart_is_free apart =
      (none_collide raw.mapping hashes (sealed ++ window ∷ [])).1
      (stay_free raw.mapping hashes sealed window valid has.valid
      (subst (λ (tables : List TableRows). AreApartBy raw.mapping hashes (hub_names raw.mapping tables) window tables) has.tables_are apart))

  -- and the first table with a clash is the first that collides, in the least pair there
  pub clash_collides : (table : TableId) (pair : Pair) → IsFirstClash raw.mapping hashes (hub_names raw.mapping raw.tables) window raw.tables table pair
      → collision raw.mapping hashes (sealed ++ window ∷ []) ≡ Some (record { table = table; pair = pair })
  clash_collides table pair clash =
      first_clash raw.mapping hashes sealed window valid has.valid table pair
      (subst (λ (tables : List TableRows). IsFirstClash raw.mapping hashes (hub_names raw.mapping tables) window tables table pair) has.tables_are clash)
