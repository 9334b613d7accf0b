-- Where rows of a multi-active satellite stand: by load date, then by parent.
use Rattle.dv_sat.proofs.Vocabulary.{Equal, Greater, IsSortedBy, IsStrictlySortedBy, IsTotalOrder, Less, List, MultiRow, Ordering, Place, and_from, and_parts, both_tied, bytes_eq, bytes_eq-Decides, digest_cmp, eq-eqb, eqb-true, is_lt, multi_order, multi_place, nat_cmp, nat_cmp-IsAntisymmetric}
use Rattle.dv_sat.proofs.Vocabulary.{nat_cmp_total, nat_list_cmp_total, on_total, ordering_then, place_cmp, refl, slice_cmp, slice_cmp-IsAntisymmetric, text_cmp, then_total, tied_itself, true, ℕ, ◌&&◌, ◌==◌, ◌∙◌, ◌≡◌}
use Rattle.dv_sat.proofs.Together.{not_less, sorted_by_key}

abbrev pub place_order : Place → Place → Ordering
place_order a b = ordering_then (nat_cmp a.load b.load) (digest_cmp a.parent b.parent)

pub place_total : IsTotalOrder place_order
place_total = then_total (on_total (λ (place : Place). place.load) nat_cmp_total) (on_total (λ (place : Place). place.parent) nat_list_cmp_total)

then_assoc : (a b c : Ordering) → ordering_then (ordering_then a b) c ≡ ordering_then a (ordering_then b c)
then_assoc Less b c = refl
then_assoc Equal b c = refl
then_assoc Greater b c = refl

pub rows_by_place : (rows : List MultiRow) → IsStrictlySortedBy multi_order rows → IsSortedBy (λ a b. is_lt (place_order (multi_place a) (multi_place b))) rows
rows_by_place rows = sorted_by_key place_total multi_place rows multi_order (λ a b less. not_less place_total (multi_place a) (multi_place b) (slice_cmp text_cmp a.sub b.sub)
    (then_assoc (nat_cmp a.load b.load) (digest_cmp a.parent b.parent) (slice_cmp text_cmp a.sub b.sub) ∙ less))

-- the test of a parent and a load date is a tie of places
module _ (row : MultiRow) (parent : List ℕ) (load : ℕ) where
  pub tied_place : (bytes_eq row.parent parent && row.load == load) ≡ true → place_cmp load parent row ≡ Equal
  tied_place e =
      let (first, second) = and_parts (bytes_eq row.parent parent) (row.load == load) e in
      rw ((bytes_eq-Decides row.parent parent).0 first, eqb-true row.load load second) (tied_itself place_total (record { parent = parent; load = load }))

  pub same_place : place_cmp load parent row ≡ Equal → (bytes_eq row.parent parent && row.load == load) ≡ true
  same_place e =
      let ties = both_tied _ _ e in
      and_from (bytes_eq row.parent parent) (row.load == load) ((bytes_eq-Decides row.parent parent).1 (slice_cmp-IsAntisymmetric nat_cmp-IsAntisymmetric row.parent parent ties.1)) (eq-eqb row.load load (nat_cmp-IsAntisymmetric row.load load ties.0))
