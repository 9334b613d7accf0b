-- A sealed window is read back from the tables as it was.
use Rattle.dv_window.proofs.Vocabulary.{Contains, Contains-cons_here, Contains-cons_there, HasSealed, Hashes, List, NRow, RawVault, Some, Staged, Window, WindowHead, [], any_content_read, ap, found_member, head_of, is_valid, map, refl, sealed_rows, sym, true, window_at, window_read, ℕ, ◌==◌, ◌∙◌}
use Rattle.dv_window.proofs.Vocabulary.{◌∷◌, ◌≡◌}

made_again : (f : ℕ → Staged) (extracts : List Staged) → ((staged : Staged) → Contains extracts staged → f staged.feed ≡ staged) → map f (map (λ staged. staged.feed) extracts) ≡ extracts
made_again f [] is = refl
made_again f (staged ∷ extracts) is =
    ap (λ (first : Staged). first ∷ map f (map (λ staged. staged.feed) extracts)) (is staged (Contains-cons_here staged extracts))
    ∙ ap (λ (rest : List Staged). staged ∷ rest) (made_again f extracts (λ other has. is other (Contains-cons_there staged extracts other has)))

-- it is what is read back for its head
pub read_again : (hashes : Hashes) (sealed : List Window) (raw : RawVault) → HasSealed hashes sealed raw → is_valid raw.mapping ≡ true → (load : ℕ) (head : WindowHead) (window : Window)
    → window_at load sealed ≡ Some window → head_of window ≡ head → window_read raw head ≡ window
read_again hashes sealed raw has_sealed valid load head window at is =
    let there = (found_member (λ (window : Window). window.load == load) sealed window at).0 in
    ap (window_read raw) (sym is)
    ∙ ap (λ (extracts : List Staged). record { load = window.load; extracts = extracts })
    (made_again (λ feed. record { feed = feed; rows = any_content_read raw.mapping raw.tables feed window.load }) window.extracts
    (λ staged has. ap (λ (rows : List NRow). record { feed = staged.feed; rows = rows }) (sealed_rows hashes sealed raw has_sealed valid window there staged has)))
