-- The records that a reader of an extract has still to give.
use Rattle.std.specs.Prelude.{◌≡◌, ℕ, suc, true, false, List, [], length, Option, Some, IsSome}
use Rattle.std.specs.Borrow.{Bor}
use Rattle.std.specs.Option.{option_map_or}
use Rattle.csv.specs.Machine.{ends_at_end}
use Rattle.csv.specs.Reading.{Ready, default_config, is_flexible, reader_config, reader_state, reader_trim, records_from, source_of}
use Rattle.csv.specs.declared.parser.State.{State}
use Rattle.csv.specs.declared.reader.Reader.{Reader}
use Rattle.csv.specs.declared.reader.Trim.TheVariants as trim

-- the records that are left at a place of a text
abbrev pub rest_records : State → List ℕ → List (List (List ℕ))
rest_records s xs = records_from default_config (suc (length xs)) s xs

-- the bytes that a reader of a slice has left, where it has not failed
abbrev pub bytes_left : Reader (Bor (List ℕ)) → Option (List ℕ)
bytes_left r = source_of (λ s. Some s.now) r

-- a reader of an extract that stands between records
pub record IsExtractReader (r : Reader (Bor (List ℕ))) : Type 0 where
  pub plain : reader_trim r ≡ trim.None
  pub ready : Ready r
  pub lets : is_flexible r ≡ true
  pub settings : reader_config r ≡ default_config
  pub between : ends_at_end (reader_state r) ≡ false
  pub known : IsSome (bytes_left r)

-- the records that such a reader has left
abbrev pub records_left : Reader (Bor (List ℕ)) → List (List (List ℕ))
records_left r = option_map_or (rest_records (reader_state r)) (bytes_left r) []
