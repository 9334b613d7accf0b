-- The tests of texts, keys and reference lists decide equality, and agree with the orders.
use Rattle.dv_text.proofs.Vocabulary.{Contains, Decides, Decides-and, IsAntisymmetric, IsTotalOrder, Key, List, NRow, bytes_eq-Decides, eq_by_cmp, key_cmp, key_cmp-IsAntisymmetric, key_eq, list_any, lists_ties, lists_total, map, nat_list_cmp_total, on_total, refl, refs_cmp, refs_eq, row_cmp}
use Rattle.dv_text.proofs.Vocabulary.{row_eq, rules, slice_cmp, slice_cmp-IsAntisymmetric, slice_eq-Decides, subst, text_cmp, text_cmp-IsAntisymmetric, texts_eq, texts_ties, then_total, true, ℕ, ◌↔◌, ◌≡◌}
use Rattle.dv_text.proofs.{Members.Contains-map, Members.map_member, Passing.some_passes, Passing.some_passes_at}

pub texts_eq-Decides : (a b : List (List ℕ)) → Decides (texts_eq a b) (a ≡ b)
texts_eq-Decides a b = slice_eq-Decides bytes_eq-Decides a b _ refl

pub key_eq-Decides : (a b : Key) → Decides (key_eq a b) (a ≡ b)
key_eq-Decides a b = search (rules, texts_eq-Decides)

pub refs_eq-Decides : (a b : List Key) → Decides (refs_eq a b) (a ≡ b)
refs_eq-Decides a b = slice_eq-Decides key_eq-Decides a b _ refl

pub row_eq-Decides : (a b : NRow) → Decides (row_eq a b) (a ≡ b)
row_eq-Decides a b = search (rules, Decides-and, refs_eq-Decides, texts_eq-Decides)

-- a list is that of some item exactly where it is among those of the items
pub any_refs : {X : Type 0} (refs_of : X → List Key) (xs : List X) (refs : List Key) → (list_any (λ x. refs_eq (refs_of x) refs) xs ≡ true) ↔ Contains (map refs_of xs) refs
any_refs refs_of xs refs = (
  λ e.
      let (x, member, same) = some_passes (λ x. refs_eq (refs_of x) refs) xs e in
      subst (Contains (map refs_of xs)) ((refs_eq-Decides (refs_of x) refs).0 same) (Contains-map refs_of xs x member),
  λ has.
      let (x, member, is) = map_member refs_of xs refs has in
      some_passes_at (λ x. refs_eq (refs_of x) refs) xs x member ((refs_eq-Decides (refs_of x) refs).1 is),
)

-- ---- the orders are total, and tell all apart

pub texts_total : IsTotalOrder (slice_cmp text_cmp)
texts_total = lists_total nat_list_cmp_total

pub refs_total : IsTotalOrder refs_cmp
refs_total = lists_total (on_total (λ (key : Key). key.parts) texts_total)

pub row_total : IsTotalOrder row_cmp
row_total = then_total (on_total (λ (row : NRow). row.refs) refs_total) (then_total (on_total (λ (row : NRow). row.sub) texts_total) (on_total (λ (row : NRow). row.attrs) texts_total))

pub texts_exact : IsAntisymmetric (slice_cmp text_cmp)
texts_exact = slice_cmp-IsAntisymmetric text_cmp-IsAntisymmetric

pub refs_exact : IsAntisymmetric refs_cmp
refs_exact = slice_cmp-IsAntisymmetric key_cmp-IsAntisymmetric

-- ---- and agree with the tests

pub texts-tie : (a b : List (List ℕ)) → texts_eq a b ≡ eq_by_cmp (slice_cmp text_cmp) a b
texts-tie = lists_ties text_cmp texts_ties

pub refs-tie : (a b : List Key) → refs_eq a b ≡ eq_by_cmp refs_cmp a b
refs-tie = lists_ties key_cmp (λ a b. texts-tie a.parts b.parts)
