-- Of what is asked for: what is said by hashes that have zero keys is said by digest functions.
use Rattle.dv_app.proofs.Vocabulary.{BadQuery, Ending, Err, HasSealed, HasZeroKeys, Hashes, IsTextFor, List, Mapping, Memory, QueryEnds, QueryRule, RawVault, Result, TextEnds, TooLarge, What, Window, ap, hashes_of, mart_text, path_name, sym, zero_keys, ℕ, ◌∙◌, ◌≡◌}

-- what is said of the text by hashes that have zero keys is said by digest functions
pub for_functions : (vault : RawVault) (what : What) (date : ℕ) (text : Result (List ℕ) QueryRule)
    → ((hashes : Hashes) (sealed : List Window) → HasZeroKeys hashes → HasSealed hashes sealed vault → mart_text vault.mapping hashes sealed vault.tables what date ≡ text) → IsTextFor vault what date text
for_functions vault what date text so function sealed has = so (hashes_of function) sealed (zero_keys function) has

-- what is asked for is of a path that is too large
pub text_ends : (vault : RawVault) (what : What) (date : ℕ) (catalog : Mapping) → catalog ≡ vault.mapping
    → ((hashes : Hashes) (sealed : List Window) → HasZeroKeys hashes → HasSealed hashes sealed vault → mart_text vault.mapping hashes sealed vault.tables what date ≡ Err (TooLarge (path_name vault.mapping what)))
    → (ending : Ending) → QueryEnds (λ rule. rule ≡ TooLarge (path_name catalog what)) ending → TextEnds vault what date ending
text_ends vault what date catalog same large (BadQuery rule) is =
    for_functions vault what date (Err rule) (λ hashes sealed zero has. large hashes sealed zero has ∙ ap (λ m. Err (TooLarge (path_name m what))) (sym same) ∙ ap Err (sym is))
text_ends vault what date catalog same large Memory memory = memory
text_ends vault what date catalog same large ending none = absurd none
