-- How many hubs the mapping text that a store holds declares.
use Rattle.dv_shown.proofs.Vocabulary.{Err, List, MapError, Mapping, Ok, Option, Result, Some, [], chars, is_utf8, length, other_file, read_mapping, refl, toml_on_literals, unwrap_or, ℕ, ◌≡◌}

-- how many hubs a text declares
abbrev pub hub_count : Result Mapping MapError → ℕ
hub_count (Ok mapping) = length mapping.hubs
hub_count (Err fault) = 0

abbrev pub hubs_in : Option (List ℕ) → ℕ
hubs_in text = hub_count (read_mapping (unwrap_or text []))

pub counts_two : hubs_in (Some other_file) ≡ 2
unfolding toml_on_literals is_utf8 chars
counts_two = refl
