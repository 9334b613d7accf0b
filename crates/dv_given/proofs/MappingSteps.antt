-- How the reading of the mapping's file may end.
use Rattle.dv_given.proofs.Vocabulary.{Absent, BadMapping, Ending, Err, IsMappingEnd, IsReadCause, List, MapError, Mapping, MappingEnds, Memory, NamedFile, ReadEnds, Result, Some, Unread, ap, given, mapping_at, mapping_file, most_mapping_bytes, option_map, read_mapping, sym, take, ℕ, ◌+◌, ◌∙◌}
use Rattle.dv_given.proofs.Vocabulary.{◌≡◌, ◌≢◌}
use Rattle.dv_catalog.specs.declared.map_error.MapError.TheVariants as errors

module _ (files : List NamedFile) (name : List ℕ) (named : name ≡ mapping_file) where
  -- it could not be read
  pub mapping_unread : (ending : Ending) → ReadEnds files name ending → MappingEnds files ending
  mapping_unread (Absent file) absent = (
    absent.0 ∙ named,
    ap (λ n. option_map read_mapping (given (most_mapping_bytes + 1) files n)) (sym named) ∙ ap (λ f. option_map read_mapping (option_map (take (most_mapping_bytes + 1)) f)) absent.1,
  )
  mapping_unread (Unread file) is = is ∙ named
  mapping_unread Memory memory = memory
  mapping_unread ending none = absurd none

  -- it was read
  pub mapping_read : (bytes : List ℕ) (result : Result Mapping MapError) → given (most_mapping_bytes + 1) files name ≡ Some bytes → (read : List ℕ) → read ≡ bytes → read_mapping read ≡ result
      → mapping_at files ≡ Some result
  mapping_read bytes result there read same is =
      ap (λ n. option_map read_mapping (given (most_mapping_bytes + 1) files n)) (sym named) ∙ ap (option_map read_mapping) there
      ∙ ap (λ b. Some (read_mapping b)) (sym same) ∙ ap Some is

  -- a refusal of its own
  pub mapping_refused : (e : MapError) → (e ≢ errors.Memory → mapping_at files ≡ Some (Err e)) → (ending : Ending) → IsMappingEnd e ending → MappingEnds files ending
  mapping_refused e is (BadMapping bad) refused = is refused.1 ∙ ap (λ x. Some (Err x)) (sym refused.0)
  mapping_refused e is Memory memory = memory
  mapping_refused e is ending none = absurd none

-- such an end may be that of reading a folder
pub mapping_cause : (before now : ℕ) (e : MapError) (ending : Ending) → IsMappingEnd e ending → IsReadCause before now ending
mapping_cause before now e (BadMapping bad) is = tt
mapping_cause before now e Memory is = tt
mapping_cause before now e ending none = absurd none
