-- The hubs of a vault, one more at a time.
use Rattle.dv_vault.proofs.Vocabulary.{Bor, HubRow, Indexed, List, [], all_pass_both, and_from, ap, are_hub_rows, arith, list_all, map, map-append, map-range_with_len_more, range_with_len, refl, sym, true, ℕ, ◌++◌, ◌+◌, ◌∙◌, ◌∷◌, ◌≡◌}

pub hubs_more : (at : ℕ → List HubRow) (i : ℕ) (hubs : List (Bor (Indexed HubRow))) (hub : Bor (Indexed HubRow))
    → map (λ hub. hub.now.rows) hubs ≡ map at (range_with_len 0 i) → hub.now.rows ≡ at i → map (λ hub. hub.now.rows) (hubs ++ hub ∷ []) ≡ map at (range_with_len 0 (i + 1))
hubs_more at i hubs hub so_far is =
    map-append (λ (hub : Bor (Indexed HubRow)). hub.now.rows) hubs (hub ∷ [])
    ∙ ap (λ (rows : List (List HubRow)). rows ++ hub.now.rows ∷ []) so_far
    ∙ ap (λ (rows : List HubRow). map at (range_with_len 0 i) ++ rows ∷ []) is
    ∙ sym (map-range_with_len_more at 0 i i (omega arith))

pub kept_more : (hubs : List (Bor (Indexed HubRow))) (hub : Bor (Indexed HubRow)) → list_all are_hub_rows (map (λ hub. hub.now.rows) hubs) ≡ true → are_hub_rows hub.now.rows ≡ true
    → list_all are_hub_rows (map (λ hub. hub.now.rows) (hubs ++ hub ∷ [])) ≡ true
kept_more hubs hub kept is =
    ap (list_all are_hub_rows) (map-append (λ (hub : Bor (Indexed HubRow)). hub.now.rows) hubs (hub ∷ []))
    ∙ all_pass_both are_hub_rows (map (λ (hub : Bor (Indexed HubRow)). hub.now.rows) hubs) (hub.now.rows ∷ []) kept (and_from _ _ is refl)
