-- Over the table of a hub after windows, what clashes is what collides, and the rows that are added are the batch.
use Rattle.dv_hub_link.proofs.Vocabulary.{Answers, Contains, Contains-map, Delivery, DeltaFault, HasNoClash, Hashed, HashedList, Hashes, Hub, HubRow, IfCollides, IfOk, IsHeld, IsLeastClash, IsNext, Key, List, Mapping, None, Option, Pair, Result, Some, Window, [], ap, appended, collision_in}
use Rattle.dv_hub_link.proofs.Vocabulary.{deliveries, hashed_by, hub_batch, hub_delta, hub_hashed, hub_place, hub_row_of, is_known, is_offered, map_member, offered_key, offered_member, only_key, refl, reverse, some_passes, source, subst, sym, table_has, table_row, true, ℕ, ◌∙◌, ◌∷◌, ◌≡◌}
use Rattle.dv_hub_link.proofs.{KeyDeltas.answers, KeyDeltas.held_nothing, KeyDeltas.next_rows, WindowLists.HoldsOffered, WindowLists.held_none as lists_none, WindowLists.next_least as lists_least, WindowLists.next_none as lists_free, WindowLists.offered_apart}
use Rattle.dv_hub_link.specs.HubDeltas.{stored}

-- a row stands under the hash key of its list, and has the load date
pub hub_row_has : (mapping : Mapping) (load : ℕ) (list : HashedList) (row : HubRow) → hub_row_of mapping load list ≡ Some row → (row.digest ≡ list.digest) × (row.load ≡ load)
hub_row_has mapping load list row e = by (only_key list.refs) refl
  where
    by : (o : Option Key) → only_key list.refs ≡ o → (row.digest ≡ list.digest) × (row.load ≡ load)
    by None f = let no : None ≡ Some row = rw f at e in cc
    by (Some key) f =
        let is : Some (record { digest = list.digest; load = load; source = source mapping list.feed; key = key }) ≡ Some row = rw f at e in
        let same : row ≡ record { digest = list.digest; load = load; source = source mapping list.feed; key = key } = cc in
        (λ i. (same i).digest, λ i. (same i).load)

module _ (mapping : Mapping) (hashes : Hashes) (hub : ℕ) where
  -- the table after windows
  abbrev table : List Window → List HubRow
  table windows = appended (hub_batch mapping hashes hub) windows

  -- its keys are those that the windows bring
  holds : (windows : List Window) → collision_in mapping hashes (reverse windows) (Hub hub) ≡ None → HoldsOffered mapping hashes (Hub hub) windows (stored (table windows))
  holds windows free = record { only = only; each = each }
    where
      only : (entry : Hashed) → Contains (stored (table windows)) entry → (is_known mapping (Hub hub) windows entry.refs ≡ true) × (entry.digest ≡ hashes.hash entry.refs)
      only entry has =
          let (row, member, is) = map_member (λ (r : HubRow). record { digest = r.digest; refs = r.key ∷ [] }) (table windows) entry has in
          subst (λ (h : Hashed). (is_known mapping (Hub hub) windows h.refs ≡ true) × (h.digest ≡ hashes.hash h.refs)) is (table_row mapping hub hashes windows row member)

      each : (refs : List Key) → is_known mapping (Hub hub) windows refs ≡ true → Contains (stored (table windows)) (hashed_by hashes refs)
      each refs known =
          let (w, w_in, offered) = some_passes (λ (w : Window). is_offered mapping (Hub hub) w refs) windows known in
          let (key, is) = offered_key mapping hub w refs (offered_member mapping (Hub hub) w refs offered) in
          let (row, member, same, digest) = table_has mapping hub hashes windows (offered_apart mapping hashes (Hub hub) windows free) key (subst (λ r. is_known mapping (Hub hub) windows r ≡ true) is known) in
          subst (Contains (stored (table windows)))
          (λ i. record { digest = (digest ∙ ap hashes.hash (sym is)) i; refs = (ap (λ k. k ∷ []) same ∙ sym is) i })
          (Contains-map (λ (r : HubRow). record { digest = r.digest; refs = r.key ∷ [] }) (table windows) row member)

  module _ (older : List Window) (window : Window) where
    -- ---- a table that holds the window's batch

    module _ (free : collision_in mapping hashes (reverse (window ∷ older)) (Hub hub) ≡ None) where
      pub held_none : HasNoClash (hub_hashed mapping hashes (appended (hub_batch mapping hashes hub) (window ∷ older)) (deliveries mapping (Hub hub) window))
      held_none = lists_none mapping hashes (Hub hub) older window (stored (table (window ∷ older))) (holds (window ∷ older) free) free

      pub held_delta : (load : ℕ) → hub_delta mapping hashes load (appended (hub_batch mapping hashes hub) (window ∷ older)) (deliveries mapping (Hub hub) window) ≡ []
      held_delta = held_nothing hub_place (λ row. row.key ∷ []) mapping hashes (Hub hub) (hub_row_of mapping) older window (table (window ∷ older)) (holds (window ∷ older) free)

    -- ---- a table of the older windows

    module _ (apart : collision_in mapping hashes (reverse older) (Hub hub) ≡ None) where
      pub next_none : HasNoClash (hub_hashed mapping hashes (appended (hub_batch mapping hashes hub) older) (deliveries mapping (Hub hub) window)) → collision_in mapping hashes (reverse (window ∷ older)) (Hub hub) ≡ None
      next_none = lists_free mapping hashes (Hub hub) older window (stored (table older)) (holds older apart) apart

      pub next_least : (pair : Pair) → IsLeastClash (hub_hashed mapping hashes (appended (hub_batch mapping hashes hub) older) (deliveries mapping (Hub hub) window)) pair
          → collision_in mapping hashes (reverse (window ∷ older)) (Hub hub) ≡ Some pair
      next_least = lists_least mapping hashes (Hub hub) older window (stored (table older)) (holds older apart) apart

      -- the delta is the batch
      pub next_delta : collision_in mapping hashes (reverse (window ∷ older)) (Hub hub) ≡ None
          → hub_delta mapping hashes window.load (appended (hub_batch mapping hashes hub) older) (deliveries mapping (Hub hub) window) ≡ hub_batch mapping hashes hub older window
      next_delta = next_rows hub_place (λ row. row.key ∷ []) mapping hashes (Hub hub) (hub_row_of mapping) older window (table older) (holds older apart)

-- ---- what is answered

module _ (mapping : Mapping) (hashes : Hashes) (hub : ℕ) (older : List Window) (window : Window) (rows : List HubRow) (load : ℕ) (items : List Delivery) where
  pub next_free : IsNext mapping hashes hub older window rows load items → HasNoClash (hub_hashed mapping hashes rows items) → collision_in mapping hashes (reverse (window ∷ older)) (Hub hub) ≡ None
  next_free next none = next_none mapping hashes hub older window next.apart (subst HasNoClash (λ i. hub_hashed mapping hashes (next.table i) (next.offered i)) none)

  pub next_collides : IsNext mapping hashes hub older window rows load items → (pair : Pair) → IsLeastClash (hub_hashed mapping hashes rows items) pair → collision_in mapping hashes (reverse (window ∷ older)) (Hub hub) ≡ Some pair
  next_collides next pair least = next_least mapping hashes hub older window next.apart pair (subst (λ all. IsLeastClash all pair) (λ i. hub_hashed mapping hashes (next.table i) (next.offered i)) least)

  pub next_batch : IsNext mapping hashes hub older window rows load items → collision_in mapping hashes (reverse (window ∷ older)) (Hub hub) ≡ None → hub_delta mapping hashes load rows items ≡ hub_batch mapping hashes hub older window
  next_batch next free = (λ i. hub_delta mapping hashes (next.loaded i) (next.table i) (next.offered i)) ∙ next_delta mapping hashes hub older window next.apart free

  module _ (result : Result (List HubRow) DeltaFault) (apart : IfOk result (λ made. HasNoClash (hub_hashed mapping hashes rows items))) (is : IfOk result (λ made. made ≡ hub_delta mapping hashes load rows items))
      (least : IfCollides result (IsLeastClash (hub_hashed mapping hashes rows items))) where
    pub answers_next : IsNext mapping hashes hub older window rows load items → Answers result (collision_in mapping hashes (reverse (window ∷ older)) (Hub hub)) (hub_batch mapping hashes hub older window)
    answers_next next =
        answers (hub_hashed mapping hashes rows items) (hub_delta mapping hashes load rows items) (collision_in mapping hashes (reverse (window ∷ older)) (Hub hub)) (hub_batch mapping hashes hub older window)
        (λ none. let free = next_free next none in (free, next_batch next free))
        (next_collides next) result apart is least

    pub answers_held : IsHeld mapping hashes hub older window rows items → Answers result None []
    answers_held held =
        answers (hub_hashed mapping hashes rows items) (hub_delta mapping hashes load rows items) None []
        (λ none. (refl, (λ i. hub_delta mapping hashes load (held.table i) (held.offered i)) ∙ held_delta mapping hashes hub older window held.apart load))
        (λ pair clash. absurd (held_none mapping hashes hub older window held.apart pair (subst (λ all. IsLeastClash all pair) (λ i. hub_hashed mapping hashes (held.table i) (held.offered i)) clash).is))
        result apart is least
