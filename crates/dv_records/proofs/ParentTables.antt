-- The table of a hub or a link has a row for each reference list that the windows bring, and no other one, for any kind of
-- row that is made of a delivery.
use Rattle.dv_records.proofs.Vocabulary.{Bool, Contains, Contains-append_cases, Contains-append_left, Contains-append_right, Contains-nil, Delivery, Hashes, IsApart, IsBatchOf, Key, List, Mapping, Option, Parent, Some, Window, [], ap, appended, batch_of, deliveries, digest_cmp, false, false≢true}
use Rattle.dv_records.proofs.Vocabulary.{first_offer, flat_map, inl, inr, is_known, is_offered, offered_refs, or_left, or_right, refl, rules, subst, true, ℕ, ◌||◌, ◌↔◌, ◌∙◌, ◌∷◌, ◌≡◌}
use Rattle.dv_records.proofs.{BatchTies.batch_made, BatchTies.tied_by_digest, Delivered.deliveries_member, Delivered.delivery-offered, Delivered.first_offer-refs, Delivered.has_first_offer, Delivered.is_offered-member, Delivered.offered_member, Delivered.deliveries-apart}

first_true : (a b : Bool) → (a || b) ≡ true → b ≡ false → a ≡ true
first_true a b h1 h2 = search (rules, false≢true)

module _ {R : Type 0} (mapping : Mapping) (parent : Parent) (hashes : Hashes) (digest_of : R → List ℕ) (row_of : List Window → Window → Delivery → Option R) (IsRowOf : List Key → R → Type 0)
    (digests : (refs : List Key) (row : R) → IsRowOf refs row → digest_of row ≡ hashes.hash refs)
    (made : (older : List Window) (window : Window) (item : Delivery) (row : R) → row_of older window item ≡ Some row → IsRowOf item.refs row)
    (makes : (older : List Window) (window : Window) (item : Delivery) → Contains (deliveries mapping parent window) item → is_known mapping parent older item.refs ≡ false → (row : R) × (row_of older window item ≡ Some row)) where
  abbrev batch : List Window → Window → List R
  batch older window = batch_of (λ a b. digest_cmp (digest_of a) (digest_of b)) (row_of older window) (deliveries mapping parent window)

  -- a list is the batch exactly where it meets the record
  pub tied : (older : List Window) (window : Window) → IsApart hashes (offered_refs mapping parent window) → (rows : List R)
      → (rows ≡ batch older window) ↔ IsBatchOf (λ a b. digest_cmp (digest_of a) (digest_of b)) (row_of older window) (deliveries mapping parent window) rows
  tied older window apart rows =
      tied_by_digest digest_of (λ (item : Delivery). hashes.hash item.refs) (row_of older window) (deliveries mapping parent window)
      (λ item row gives. digests item.refs row (made older window item row gives))
      (λ a b a_in b_in e. deliveries-apart mapping parent window a b a_in b_in (apart a.refs b.refs (delivery-offered mapping parent window a a_in) (delivery-offered mapping parent window b b_in) e))
      rows

  -- a list that the window brings first has a row in the batch
  batch_has : (older : List Window) (window : Window) → IsApart hashes (offered_refs mapping parent window) → (refs : List Key) → is_known mapping parent older refs ≡ false → is_offered mapping parent window refs ≡ true
      → (row : R) × Contains (batch older window) row × IsRowOf refs row
  batch_has older window apart refs new offered =
      let (item, first) = has_first_offer mapping parent window refs (offered_member mapping parent window refs offered) in
      let same : item.refs ≡ refs = first_offer-refs mapping parent window refs item first in
      let member = (deliveries_member mapping parent window item).1 (ap (first_offer mapping parent window) same ∙ first) in
      let (row, gives) = makes older window item member (ap (is_known mapping parent older) same ∙ new) in
      (row, ((tied older window apart (batch older window)).0 refl).each item row member gives, subst (λ refs. IsRowOf refs row) same (made older window item row gives))

  -- each row of the table is of a list that one of the windows brings
  pub table_row : (windows : List Window) (row : R) → Contains (appended batch windows) row → (refs : List Key) × (is_known mapping parent windows refs ≡ true) × IsRowOf refs row
  table_row [] row has = Contains-nil row has
  table_row (newest ∷ older) row has =
      elim (Contains-append_cases (appended batch older) (batch older newest) row has) [
        | inl before ↦ let (refs, known, is) = table_row older row before in (refs, or_right (is_offered mapping parent newest refs) (is_known mapping parent older refs) known, is)
        | inr now ↦
            let (item, member, gives) = batch_made (λ a b. digest_cmp (digest_of a) (digest_of b)) (row_of older newest) (deliveries mapping parent newest) row now in
            let offered = is_offered-member mapping parent newest item.refs (delivery-offered mapping parent newest item member) in
            (item.refs, or_left (is_offered mapping parent newest item.refs) (is_known mapping parent older item.refs) offered, made older newest item row gives)
      ]

  -- and each such list has a row, where no two of them have one hash key
  pub table_has : (windows : List Window) → IsApart hashes (flat_map (offered_refs mapping parent) windows) → (refs : List Key) → is_known mapping parent windows refs ≡ true
      → (row : R) × Contains (appended batch windows) row × IsRowOf refs row
  table_has [] apart refs known = absurd (false≢true known)
  table_has (newest ∷ older) apart refs known = by (is_known mapping parent older refs) refl (λ e. table_has older (λ a b a_in b_in. apart a b (rest a a_in) (rest b b_in)) refs e)
    where
      rest : (refs : List Key) → Contains (flat_map (offered_refs mapping parent) older) refs → Contains (flat_map (offered_refs mapping parent) (newest ∷ older)) refs
      rest = Contains-append_right (offered_refs mapping parent newest) (flat_map (offered_refs mapping parent) older)

      here : (refs : List Key) → Contains (offered_refs mapping parent newest) refs → Contains (flat_map (offered_refs mapping parent) (newest ∷ older)) refs
      here = Contains-append_left (offered_refs mapping parent newest) (flat_map (offered_refs mapping parent) older)

      by : (b : Bool) → is_known mapping parent older refs ≡ b → (is_known mapping parent older refs ≡ true → (row : R) × Contains (appended batch older) row × IsRowOf refs row)
          → (row : R) × Contains (appended batch (newest ∷ older)) row × IsRowOf refs row
      by true e later = let (row, has, is) = later e in (row, Contains-append_left (appended batch older) (batch older newest) row has, is)
      by false e later =
          let (row, has, is) = batch_has older newest (λ a b a_in b_in. apart a b (here a a_in) (here b b_in)) refs e (first_true (is_offered mapping parent newest refs) (is_known mapping parent older refs) known e) in
          (row, Contains-append_right (appended batch older) (batch older newest) row has, is)
