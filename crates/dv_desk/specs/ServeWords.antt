-- The words behind `serve`.
use Rattle.std.specs.Prelude.{ℕ, List, [], ◌∷◌, Option, Some, None, codes, option_and_then, option_map, if◌then◌else◌}
use Rattle.std.specs.Str.{bytes_eq}
use Rattle.dv_print.specs.Words.{behind}
use Rattle.dv_given.specs.Numbers.{default_workers, number_in, workers_in}
use Rattle.dv_desk.specs.declared.words.ServeWords.{ServeWords}

-- the port that a word says: a number up to 65,535
abbrev pub port_in : List ℕ → Option ℕ
port_in word = number_in 65535 word

-- by how many workers a window is loaded, as words say: by `--workers=N` or `--workers N`, and by four where there are none
abbrev pub workers_said : List (List ℕ) → Option ℕ
workers_said [] = Some default_workers
workers_said (word ∷ []) = option_and_then workers_in (behind (codes "--workers=") word)
workers_said (name ∷ word ∷ []) = if bytes_eq name (codes "--workers") then workers_in word else None
workers_said (name ∷ word ∷ more ∷ words) = None

-- what the words say: a port, and then perhaps the workers
abbrev pub serve_words : List (List ℕ) → Option ServeWords
serve_words [] = None
serve_words (word ∷ words) =
    option_and_then (λ port. option_map (λ workers. record { port = port; workers = workers }) (workers_said words)) (port_in word)
