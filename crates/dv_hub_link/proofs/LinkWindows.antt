-- Over the table of a link after windows, with names that tell their lists, what clashes is what collides, and the rows
-- that are added are the batch.
use Rattle.dv_hub_link.proofs.Vocabulary.{Answers, Contains, Contains-cons_here, Contains-map, Delivery, DeltaFault, HasNoClash, Hashed, HashedList, Hashes, HubName, IfCollides, IfOk, IsLeastClash, Key, Less, Link, LinkRow, List, Mapping, None, Pair, Result, Some, TellLists, Window, []}
use Rattle.dv_hub_link.proofs.Vocabulary.{all_hashed, ap, appended, brought, collision_in, deliveries, hashed_by, hubs_in, hubs_of, irreflexive, is_known, keys_under, link_batch, link_delta, link_hashed, link_place, link_row, map_member, parent_hubs, refl, refs_cmp, refs_total, reverse, stored}
use Rattle.dv_hub_link.proofs.Vocabulary.{subst, sym, true, ℕ, ◌++◌, ◌∙◌, ◌∷◌, ◌≡◌}
use Rattle.dv_records.proofs.LinkTables.{table_has, table_row}
use Rattle.dv_hub_link.proofs.{KeyDeltas.answers, KeyDeltas.held_nothing, KeyDeltas.next_rows, WindowLists.HoldsOffered, WindowLists.delivery_kept, WindowLists.held_none as lists_none, WindowLists.holds_clear, WindowLists.next_least as lists_least, WindowLists.next_none as lists_free}
use Rattle.dv_hub_link.proofs.{WindowLists.offered_apart, ToldLists.list_told}
use Rattle.dv_hub_link.specs.LinkDeltas.{IsHeld, IsNext}

-- rows without hubs stand for one list
pub bare_clear : (mapping : Mapping) (names : List HubName) (rows : List LinkRow) → HasNoClash (stored mapping names [] rows)
bare_clear mapping names rows pair clash =
    let (a, a_in, a_is) = map_member (λ (row : LinkRow). record { digest = row.digest; refs = keys_under mapping names [] row.hubs }) rows (record { digest = clash.digest; refs = pair.first }) clash.has_first in
    let (b, b_in, b_is) = map_member (λ (row : LinkRow). record { digest = row.digest; refs = keys_under mapping names [] row.hubs }) rows (record { digest = clash.digest; refs = pair.second }) clash.has_second in
    let first : [] ≡ pair.first = ap (λ (h : Hashed). h.refs) a_is in
    let second : [] ≡ pair.second = ap (λ (h : Hashed). h.refs) b_is in
    irreflexive refs_total pair.first (subst (λ r. refs_cmp pair.first r ≡ Less) (sym second ∙ first) clash.ordered)

module _ (mapping : Mapping) (hashes : Hashes) (link : ℕ) where
  -- the table after windows
  abbrev table : List Window → List LinkRow
  table windows = appended (link_batch mapping hashes link) windows

  module _ (names : List HubName) where
    abbrev keys_of : List (List ℕ) → List Key
    keys_of = keys_under mapping names (parent_hubs mapping (Link link))

    -- the lists of rows, by the hubs of the link
    abbrev lists_of : List LinkRow → List Hashed
    lists_of rows = stored mapping names (parent_hubs mapping (Link link)) rows

    -- they are those that the windows bring
    holds : (windows : List Window) → TellLists mapping hashes names windows → collision_in mapping hashes (reverse windows) (Link link) ≡ None → HoldsOffered mapping hashes (Link link) windows (lists_of (table windows))
    holds windows tell free = record { only = only; each = each }
      where
        only : (entry : Hashed) → Contains (lists_of (table windows)) entry → (is_known mapping (Link link) windows entry.refs ≡ true) × (entry.digest ≡ hashes.hash entry.refs)
        only entry has =
            let (row, member, is) = map_member (λ (r : LinkRow). record { digest = r.digest; refs = keys_of r.hubs }) (table windows) entry has in
            let (refs, known, digest, hubs) = table_row mapping link hashes windows row member in
            let list : refs ≡ keys_of row.hubs = sym (ap keys_of hubs ∙ list_told mapping link hashes names windows tell refs known) in
            subst (λ (h : Hashed). (is_known mapping (Link link) windows h.refs ≡ true) × (h.digest ≡ hashes.hash h.refs)) is (subst (λ r. is_known mapping (Link link) windows r ≡ true) list known, digest ∙ ap hashes.hash list)

        each : (refs : List Key) → is_known mapping (Link link) windows refs ≡ true → Contains (lists_of (table windows)) (hashed_by hashes refs)
        each refs known =
            let (row, member, digest, hubs) = table_has mapping link hashes windows (offered_apart mapping hashes (Link link) windows free) refs known in
            subst (Contains (lists_of (table windows)))
            (λ i. record { digest = digest i; refs = (ap keys_of hubs ∙ list_told mapping link hashes names windows tell refs known) i })
            (Contains-map (λ (r : LinkRow). record { digest = r.digest; refs = keys_of r.hubs }) (table windows) row member)

    module _ (older : List Window) (window : Window) where
      abbrev items : List Delivery
      items = deliveries mapping (Link link) window

      -- all lists, by the hubs of the link
      abbrev everything : List LinkRow → List Hashed
      everything rows = all_hashed mapping hashes (lists_of rows) (deliveries mapping (Link link) window)

      -- where something is delivered, the hubs are known from it
      same_all : (rows : List LinkRow) (first : Delivery) (rest : List Delivery) → items ≡ first ∷ rest → link_hashed mapping hashes names rows items ≡ everything rows
      same_all rows first rest e =
          let member : Contains items first = subst (λ l. Contains l first) (sym e) (Contains-cons_here first rest) in
          let hubs : hubs_of mapping items ≡ parent_hubs mapping (Link link) = ap (hubs_of mapping) e ∙ ap (hubs_in mapping) (delivery_kept mapping hashes (Link link) window first member).0 in
          ap (λ hs. brought mapping hashes items ++ stored mapping names hs rows) hubs

      -- nothing clashes where nothing is delivered
      empty_clear : (rows : List LinkRow) → items ≡ [] → HasNoClash (link_hashed mapping hashes names rows items)
      empty_clear rows e = subst (λ l. HasNoClash (link_hashed mapping hashes names rows l)) (sym e) (bare_clear mapping names rows)

      -- the least clash is one by the hubs of the link
      least_all : (rows : List LinkRow) (pair : Pair) → IsLeastClash (link_hashed mapping hashes names rows items) pair → IsLeastClash (everything rows) pair
      least_all rows pair least = by items refl
        where
          by : (l : List Delivery) → items ≡ l → IsLeastClash (everything rows) pair
          by [] e = absurd (empty_clear rows e pair least.is)
          by (first ∷ rest) e = subst (λ all. IsLeastClash all pair) (same_all rows first rest e) least

      -- ---- a table that holds the window's batch

      module _ (tell : TellLists mapping hashes names (window ∷ older)) (free : collision_in mapping hashes (reverse (window ∷ older)) (Link link) ≡ None) where
        pub held_none : (pair : Pair) → IsLeastClash (link_hashed mapping hashes names (appended (link_batch mapping hashes link) (window ∷ older)) (deliveries mapping (Link link) window)) pair → ⊥
        held_none pair least =
            lists_none mapping hashes (Link link) older window (lists_of (table (window ∷ older))) (holds (window ∷ older) tell free) free pair (least_all (table (window ∷ older)) pair least).is

        pub held_delta : (load : ℕ) → link_delta mapping hashes load (appended (link_batch mapping hashes link) (window ∷ older)) (deliveries mapping (Link link) window) ≡ []
        held_delta = held_nothing link_place (λ row. keys_of row.hubs) mapping hashes (Link link) (λ load list. Some (link_row mapping hashes load list)) older window (table (window ∷ older)) (holds (window ∷ older) tell free)

      -- ---- a table of the older windows

      module _ (tell : TellLists mapping hashes names older) (apart : collision_in mapping hashes (reverse older) (Link link) ≡ None) where
        pub next_none : HasNoClash (link_hashed mapping hashes names (appended (link_batch mapping hashes link) older) (deliveries mapping (Link link) window)) → collision_in mapping hashes (reverse (window ∷ older)) (Link link) ≡ None
        next_none none = lists_free mapping hashes (Link link) older window (lists_of (table older)) (holds older tell apart) apart (by items refl)
          where
            by : (l : List Delivery) → items ≡ l → HasNoClash (everything (table older))
            by [] e = subst (λ l. HasNoClash (all_hashed mapping hashes (lists_of (table older)) l)) (sym e) (holds_clear mapping hashes (Link link) older (lists_of (table older)) (holds older tell apart) apart)
            by (first ∷ rest) e = subst HasNoClash (same_all (table older) first rest e) none

        pub next_least : (pair : Pair) → IsLeastClash (link_hashed mapping hashes names (appended (link_batch mapping hashes link) older) (deliveries mapping (Link link) window)) pair
            → collision_in mapping hashes (reverse (window ∷ older)) (Link link) ≡ Some pair
        next_least pair least = lists_least mapping hashes (Link link) older window (lists_of (table older)) (holds older tell apart) apart pair (least_all (table older) pair least)

        -- the delta is the batch
        pub next_delta : collision_in mapping hashes (reverse (window ∷ older)) (Link link) ≡ None
            → link_delta mapping hashes window.load (appended (link_batch mapping hashes link) older) (deliveries mapping (Link link) window) ≡ link_batch mapping hashes link older window
        next_delta = next_rows link_place (λ row. keys_of row.hubs) mapping hashes (Link link) (λ load list. Some (link_row mapping hashes load list)) older window (table older) (holds older tell apart)

-- a row stands under the hash key of its list, and has the load date
module _ (mapping : Mapping) (hashes : Hashes) (load : ℕ) (list : HashedList) (row : LinkRow) (e : Some (link_row mapping hashes load list) ≡ Some row) where
  is_row : link_row mapping hashes load list ≡ row
  is_row = cc

  pub link_row_digest : row.digest ≡ list.digest
  link_row_digest = ap (λ (r : LinkRow). r.digest) (sym is_row)

  pub link_row_load : row.load ≡ load
  link_row_load = ap (λ (r : LinkRow). r.load) (sym is_row)

-- ---- what is answered

-- told by the hubs of the deliveries
module _ (mapping : Mapping) (hashes : Hashes) (names : List HubName) (rows : List LinkRow) (items : List Delivery) (result : Result (List LinkRow) DeltaFault) (hubs : List ℕ) (hubs_are : hubs ≡ hubs_of mapping items) where
  pub told_apart : IfOk result (λ made. HasNoClash (all_hashed mapping hashes (stored mapping names hubs rows) items)) → IfOk result (λ made. HasNoClash (link_hashed mapping hashes names rows items))
  told_apart = subst (λ hs. IfOk result (λ made. HasNoClash (all_hashed mapping hashes (stored mapping names hs rows) items))) hubs_are

  pub told_least : IfCollides result (IsLeastClash (all_hashed mapping hashes (stored mapping names hubs rows) items)) → IfCollides result (IsLeastClash (link_hashed mapping hashes names rows items))
  told_least = subst (λ hs. IfCollides result (IsLeastClash (all_hashed mapping hashes (stored mapping names hs rows) items))) hubs_are

module _ (mapping : Mapping) (hashes : Hashes) (names : List HubName) (link : ℕ) (older : List Window) (window : Window) (rows : List LinkRow) (load : ℕ) (items : List Delivery) where
  pub next_free : IsNext mapping hashes names link older window rows load items → HasNoClash (link_hashed mapping hashes names rows items) → collision_in mapping hashes (reverse (window ∷ older)) (Link link) ≡ None
  next_free next none = next_none mapping hashes link names older window next.told next.apart (subst HasNoClash (λ i. link_hashed mapping hashes names (next.table i) (next.offered i)) none)

  pub next_collides : IsNext mapping hashes names link older window rows load items → (pair : Pair) → IsLeastClash (link_hashed mapping hashes names rows items) pair
      → collision_in mapping hashes (reverse (window ∷ older)) (Link link) ≡ Some pair
  next_collides next pair least = next_least mapping hashes link names older window next.told next.apart pair (subst (λ all. IsLeastClash all pair) (λ i. link_hashed mapping hashes names (next.table i) (next.offered i)) least)

  pub next_batch : IsNext mapping hashes names link older window rows load items → collision_in mapping hashes (reverse (window ∷ older)) (Link link) ≡ None
      → link_delta mapping hashes load rows items ≡ link_batch mapping hashes link older window
  next_batch next free = (λ i. link_delta mapping hashes (next.loaded i) (next.table i) (next.offered i)) ∙ next_delta mapping hashes link names older window next.told next.apart free

  module _ (result : Result (List LinkRow) DeltaFault) (apart : IfOk result (λ made. HasNoClash (link_hashed mapping hashes names rows items))) (is : IfOk result (λ made. made ≡ link_delta mapping hashes load rows items))
      (least : IfCollides result (IsLeastClash (link_hashed mapping hashes names rows items))) where
    pub answers_next : IsNext mapping hashes names link older window rows load items → Answers result (collision_in mapping hashes (reverse (window ∷ older)) (Link link)) (link_batch mapping hashes link older window)
    answers_next next =
        answers (link_hashed mapping hashes names rows items) (link_delta mapping hashes load rows items) (collision_in mapping hashes (reverse (window ∷ older)) (Link link)) (link_batch mapping hashes link older window)
        (λ none. let free = next_free next none in (free, next_batch next free))
        (next_collides next) result apart is least

    pub answers_held : IsHeld mapping hashes names link older window rows items → Answers result None []
    answers_held held =
        answers (link_hashed mapping hashes names rows items) (link_delta mapping hashes load rows items) None []
        (λ none. (refl, (λ i. link_delta mapping hashes load (held.table i) (held.offered i)) ∙ held_delta mapping hashes link names older window held.told held.apart load))
        (λ pair clash. absurd (held_none mapping hashes link names older window held.told held.apart pair (subst (λ all. IsLeastClash all pair) (λ i. link_hashed mapping hashes names (held.table i) (held.offered i)) clash)))
        result apart is least
