-- What an exchange and a `fetch_min` leave of the seat that offers.
use Rattle.dv_board.proofs.Vocabulary.{KeyView, List, ap, begun, eqb-true, false, get_or, met_by, refl, true, ℕ, ◌-◌, ◌==◌, ◌∙◌, ◌≡◌, ◌≢◌}
use Rattle.dv_board.proofs.KeyCalls.{begun_same, begun_on, met_same}

-- the exchange met an item that is the same
pub meets_same : (v : KeyView) (a n : ℕ) (classes : List ℕ) → v.classes ≡ classes → (begun v a).item ≡ a → n ≢ 0 → (get_or classes (n - 1) 0 == get_or classes a 0) ≡ true → met_by (begun v a) n ≡ record (begun v a) { has_met = true }
meets_same v a n classes lists item full same =
    met_same (begun v a) n full (eqb-true _ _ (ap (λ (x : List ℕ × ℕ). get_or x.0 (n - 1) 0 == get_or x.0 x.1 0) (λ i. (((begun_same v a).2 ∙ lists) i, item i)) ∙ same))

pub met_on : (v : KeyView) (a : ℕ) (w : KeyView) → w ≡ record (begun v a) { has_met = true } → (begun v a).item ≡ a → v.is_spent ≡ false → (w.is_spent ≡ false) × (w.is_probing ≡ true) × (w.has_met ≡ true) × (w.item ≡ a) × (w.passed ≡ (begun v a).passed)
met_on v a w is item live = rw is ((begun_same v a).4 ∙ live, begun_on v a, refl, item, refl)

pub met_lists : (v : KeyView) (a : ℕ) (w : KeyView) → w ≡ record (begun v a) { has_met = true } → (w.classes ≡ v.classes) × (w.homes ≡ v.homes) × (w.share ≡ v.share)
met_lists v a w is = rw is ((begun_same v a).2, (begun_same v a).3, (begun_same v a).1)
