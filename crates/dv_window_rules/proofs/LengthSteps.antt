-- The rule of the extract that is too long.
use Rattle.dv_window_rules.proofs.Vocabulary.{ExtractIn, List, TooLong, [], arith, common_steps, first_long, length, nat_tests, option_map, refl, too_long_behind, ℕ, ◌+◌, ◌∷◌, ◌≡◌}

pub long_rule : (bytes : ℕ) (extracts : List ExtractIn) → too_long_behind bytes extracts ≡ option_map (λ extract. TooLong extract.feed) (first_long bytes extracts)
long_rule bytes [] = refl
long_rule bytes (extract ∷ extracts) = grind (arith, common_steps, nat_tests, long_rule (bytes + length extract.bytes) extracts)

pub ruleset long_rules = (long_rule)
