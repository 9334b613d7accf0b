-- References beside their hubs, and those at the driver's places.
use Rattle.dv_window_rules.proofs.Vocabulary.{Bool, FeedDef, Key, List, Mapping, NRow, None, Option, Some, [], ap, arith, driver_keys, eqb-true, false, false_from_ne_true, filter_map, fit_hubs, fits_hub, is_keyed, is_missing, length, list_all, list_any, not, option_map_or, refl, slice_get, suc}
use Rattle.dv_window_rules.proofs.Vocabulary.{sym, true, zip, ℕ, ◌&&◌, ◌==◌, ◌||◌, ◌∙◌, ◌∷◌, ◌≡◌}

pub fit_hubs_told : (mapping : Mapping) (hubs : List ℕ) (refs : List Key) → length hubs ≡ length refs → list_all (λ (hub, key). fits_hub mapping hub key) (zip hubs refs) ≡ fit_hubs mapping hubs refs
fit_hubs_told mapping [] [] same = refl
fit_hubs_told mapping [] (key ∷ refs) same = absurd (omega (arith, same))
fit_hubs_told mapping (hub ∷ hubs) [] same = absurd (omega (arith, same))
fit_hubs_told mapping (hub ∷ hubs) (key ∷ refs) same = ap (λ rest. fits_hub mapping hub key && rest) (fit_hubs_told mapping hubs refs (omega (arith, same)))

pub other_count : (mapping : Mapping) (hubs : List ℕ) (refs : List Key) → (length hubs ≡ length refs → ⊥) → false ≡ fit_hubs mapping hubs refs
other_count mapping [] [] differ = absurd (differ refl)
other_count mapping [] (key ∷ refs) differ = refl
other_count mapping (hub ∷ hubs) [] differ = refl
other_count mapping (hub ∷ hubs) (key ∷ refs) differ = by (fits_hub mapping hub key) (other_count mapping hubs refs (λ e. differ (ap suc e)))
  where
    by : (here : Bool) → false ≡ fit_hubs mapping hubs refs → false ≡ (here && fit_hubs mapping hubs refs)
    by true rest = rest
    by false rest = refl

any_got : {X Y : Type 0} (p : Y → Bool) (f : X → Option Y) (xs : List X) → list_any (λ x. option_map_or p (f x) false) xs ≡ list_any p (filter_map f xs)
any_got p f [] = refl
any_got p f (x ∷ xs) = by (f x) refl (any_got p f xs)
  where
    by : (o : Option _) → f x ≡ o → list_any (λ x. option_map_or p (f x) false) xs ≡ list_any p (filter_map f xs) → list_any (λ x. option_map_or p (f x) false) (x ∷ xs) ≡ list_any p (filter_map f (x ∷ xs))
    by None e rest = rw e rest
    by (Some y) e rest = rw e (ap (λ b. p y || b) rest)

-- a row has its keys where some reference is there and no driving key is missing
pub keyed_told : (feed : FeedDef) (row : NRow) (missing driven : Bool) → missing ≡ list_all is_missing row.refs → missing ≡ false
    → driven ≡ list_any (λ place. option_map_or is_missing (slice_get row.refs place) false) feed.driver → not driven ≡ is_keyed feed row
keyed_told feed row missing driven is_missed there is_driven =
    let some : not (list_all is_missing row.refs) ≡ true = ap not (sym is_missed ∙ there) in
    ap not (is_driven ∙ any_got is_missing (slice_get row.refs) feed.driver) ∙ sym (ap (λ b. b && not (list_any is_missing (driver_keys feed row))) some)

pub not_equal : (m n : ℕ) → (m ≡ n → ⊥) → (m == n) ≡ false
not_equal m n differ = false_from_ne_true (m == n) (λ e. differ (eqb-true m n e))
