-- A window's rule as it is printed: its code, its name, and its fields `name=value` in order, parted by single spaces.
use Rattle.std.specs.Prelude.{ℕ, List, [], ◌∷◌, ◌++◌, codes}
use Rattle.std.specs.Fmt.{decimal}
use Rattle.std.specs.List.{flat_map, join_with_byte}
use Rattle.std.specs.Prelude.{map}
use Rattle.dv_text.specs.Stamps.{stamp_text}
use Rattle.dv_text.specs.declared.rows.Key.{Key}
use Rattle.dv_catalog.specs.Printed.{printed, printed_field}
use Rattle.dv_catalog.specs.declared.rules.Rule.{Rule}
use Rattle.dv_catalog.specs.declared.rules.Rule.TheVariants as rule

-- a field of which the value is printed as it is
abbrev pub field_text : List ℕ → List ℕ → List ℕ
field_text name value = 32 ∷ name ++ 61 ∷ value

-- a key: each part in square brackets
abbrev pub key_shown : Key → List ℕ
key_shown key = flat_map (λ part. 91 ∷ printed part ++ 93 ∷ []) key.parts

-- a reference list: its keys, with a slash between each and the next
abbrev pub refs_shown : List Key → List ℕ
refs_shown refs = join_with_byte 47 (map key_shown refs)

-- a rule's code and name, and the feed that breaks it
abbrev pub of_feed : List ℕ → List ℕ → List ℕ
of_feed name feed = name ++ printed_field (codes "feed") feed

-- the same, and the number of a record
abbrev pub of_record : List ℕ → List ℕ → ℕ → List ℕ
of_record name feed row_no = of_feed name feed ++ field_text (codes "row_no") (decimal row_no)

-- the same, and the name of a column
abbrev pub of_column : List ℕ → List ℕ → List ℕ → List ℕ
of_column name feed column = of_feed name feed ++ printed_field (codes "name") column

abbrev pub rule_text : Rule → List ℕ
rule_text (rule.Manifest place) = codes "W0 Manifest" ++ printed_field (codes "place") place
rule_text rule.NoExtracts = codes "W1 NoExtracts"
rule_text (rule.UnknownFeed name) = codes "W2 UnknownFeed" ++ printed_field (codes "name") name
rule_text (rule.FeedTwice feed) = of_feed (codes "W3 FeedTwice") feed
rule_text (rule.Late last) = codes "W4 Late" ++ field_text (codes "last") (stamp_text last)
rule_text (rule.OpenOther load) = codes "W5 OpenOther" ++ field_text (codes "load") (stamp_text load)
rule_text (rule.TooLong feed) = of_feed (codes "W6 TooLong") feed
rule_text (rule.NoHeader feed) = of_feed (codes "W7 NoHeader") feed
rule_text (rule.HeaderNotUtf8 feed) = of_feed (codes "W8 HeaderNotUtf8") feed
rule_text (rule.ColumnTwice feed name) = of_column (codes "W9 ColumnTwice") feed name
rule_text (rule.UnmappedColumn feed name) = of_column (codes "W10 UnmappedColumn") feed name
rule_text (rule.MissingColumn feed name) = of_column (codes "W11 MissingColumn") feed name
rule_text (rule.Ragged feed row_no) = of_record (codes "W12 Ragged") feed row_no
rule_text (rule.NotUtf8 feed row_no) = of_record (codes "W13 NotUtf8") feed row_no
rule_text (rule.FieldLong feed row_no) = of_record (codes "W14 FieldLong") feed row_no
rule_text (rule.EmptyKey feed row_no) = of_record (codes "W15 EmptyKey") feed row_no
rule_text (rule.TwoRows feed earlier later) =
    of_feed (codes "W16 TwoRows") feed ++ field_text (codes "earlier") (decimal earlier) ++ field_text (codes "later") (decimal later)
rule_text (rule.TooManyRows feed row_no) = of_record (codes "W17 TooManyRows") feed row_no
rule_text (rule.TwoDrivers feed driver) = of_feed (codes "W18 TwoDrivers") feed ++ field_text (codes "driver") (refs_shown driver)
rule_text (rule.Differs load) = codes "W19 Differs" ++ field_text (codes "load") (stamp_text load)
rule_text (rule.Collision table first second) =
    codes "W20 Collision" ++ printed_field (codes "table") table ++ field_text (codes "first") (refs_shown first)
    ++ field_text (codes "second") (refs_shown second)
rule_text (rule.VaultFull weight windows) =
    codes "W21 VaultFull" ++ field_text (codes "weight") (decimal weight) ++ field_text (codes "windows") (decimal windows)
