-- Laws of the definitions of a mapping and of the rules of an extract's records.
use Rattle.std.specs.Prelude.{◌≡◌, ◌↔◌, ℕ, ◌+◌, ◌<◌, true, List, [], Option, Some, None, length, map, option_and_then, slice_get, take}
use Rattle.dv_catalog.specs.declared.entries.FeedDef.{FeedDef}
use Rattle.dv_catalog.specs.declared.outlines.Outline.{Outline}
use Rattle.dv_catalog.specs.declared.rules.Rule.{Rule}
use Rattle.dv_catalog.specs.Checks.{fault_of}
use Rattle.dv_catalog.specs.FirstOf.{first_of}
use Rattle.dv_catalog.specs.Mappings.{has_shape, is_valid, mapping_of}
use Rattle.dv_catalog.specs.Records.{record_rule, records_rule, row_of}

-- the mapping of an outline is valid exactly where the outline's entries have their form and no check refuses it
abbrev pub ValidWhereFaultless : Type 0
ValidWhereFaultless = (outline : Outline) → (is_valid (mapping_of outline) ≡ true) ↔ ((fault_of outline ≡ None) × (has_shape outline ≡ true))

-- an answer is that at the least of so many places that has one; there is none where no place has one
abbrev pub IsAtLeast : {R : Type 0} → (ℕ → Option R) → ℕ → Option R → Type 0
IsAtLeast at count None = (i : ℕ) → i < count → at i ≡ None
IsAtLeast at count (Some answer) = (i : ℕ) × (i < count) × (at i ≡ Some answer) × ((j : ℕ) → j < i → at j ≡ None)

-- the rule that the record at a place breaks, by its number and the rows of the records before it
abbrev pub rule_at : FeedDef → List (List ℕ) → ℕ → List (List (List ℕ)) → ℕ → Option Rule
rule_at feed names room records i = option_and_then (record_rule feed names room (i + 1) (map (row_of feed names) (take i records))) (slice_get records i)

-- the rule of records is that of the least record that breaks one
abbrev pub LeastRecordRefused : Type 0
LeastRecordRefused =
    (feed : FeedDef) (names : List (List ℕ)) (room : ℕ) (records : List (List (List ℕ)))
    → IsAtLeast (rule_at feed names room records) (length records) (records_rule feed names room 1 [] records)

-- and the rule of a record, which its tests have in order, is that of the least test that has one
abbrev pub LeastTestAnswers : Type 0
LeastTestAnswers = (tests : List (Option Rule)) → IsAtLeast (λ i. option_and_then (λ test. test) (slice_get tests i)) (length tests) (first_of tests)
