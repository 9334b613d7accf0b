-- One feed more on the way through the feeds of a window.
use Rattle.dv_window_rules.proofs.Vocabulary.{Broken, ExtractIn, List, Mapping, None, Option, PlacedExtract, Read, ReadExtract, Rule, Some, StageFault, Staged, Taken, TellsFeed, TellsRule, [], arith, broken_rule, common_steps, extract_at, filter_map, first_of, length, map, nat_tests}
use Rattle.dv_window_rules.proofs.Vocabulary.{range_with_len, read_at, reads_after, rules, staged_from, taken_count, ℕ, ◌++◌, ◌+◌, ◌-◌, ◌<◌, ◌∷◌, ◌≡◌}

-- what the extracts of the feeds from a place on read as
abbrev pub reads_from : Mapping → List ExtractIn → ℕ → ℕ → List ReadExtract
reads_from mapping extracts feed taken =
    reads_after mapping taken (filter_map (extract_at mapping extracts) (range_with_len feed (length mapping.feeds - feed)))

-- where nothing is given for a feed, it is passed over; what is given is read first, and those behind it with so much less room
pub feed_absent : (mapping : Mapping) (extracts : List ExtractIn) (feed taken : ℕ) → feed < length mapping.feeds → read_at mapping extracts taken feed ≡ None
    → reads_from mapping extracts feed taken ≡ reads_from mapping extracts (feed + 1) taken
feed_absent mapping extracts feed taken at none = grind (arith, common_steps, nat_tests)

pub feed_read : (mapping : Mapping) (extracts : List ExtractIn) (feed taken : ℕ) (read : Read) → feed < length mapping.feeds → read_at mapping extracts taken feed ≡ Some read
    → reads_from mapping extracts feed taken ≡ record { feed = feed; read = read } ∷ reads_from mapping extracts (feed + 1) (taken + taken_count read)
feed_read mapping extracts feed taken read at some = grind (arith, common_steps, nat_tests)

-- the extract of a feed has the feed's place
pub placed_at : (mapping : Mapping) (extracts : List ExtractIn) (feed : ℕ) (placed : PlacedExtract) → extract_at mapping extracts feed ≡ Some placed → placed.feed ≡ feed
placed_at mapping extracts feed placed e = grind (arith, common_steps, nat_tests)

-- ---- the first rule and the rows behind a place

abbrev pub rule_from : Mapping → List ExtractIn → ℕ → ℕ → Option Rule
rule_from mapping extracts feed taken = first_of (map (λ extract. broken_rule extract.read) (reads_from mapping extracts feed taken))

abbrev pub rows_from : Mapping → List ExtractIn → ℕ → ℕ → List Staged
rows_from mapping extracts feed taken = filter_map (λ extract. staged_from extract.feed extract.read) (reads_from mapping extracts feed taken)

pub rule_broken : (mapping : Mapping) (extracts : List ExtractIn) (feed taken : ℕ) (rule : Rule) → feed < length mapping.feeds
    → read_at mapping extracts taken feed ≡ Some (Broken rule) → rule_from mapping extracts feed taken ≡ Some rule
rule_broken mapping extracts feed taken rule at is = grind (arith, common_steps, nat_tests)

pub rows_taken : (mapping : Mapping) (extracts : List ExtractIn) (feed taken : ℕ) (staged : Staged) (count : ℕ) (before all : List Staged) → feed < length mapping.feeds
    → read_at mapping extracts taken feed ≡ Some (Taken staged.rows count) → staged.feed ≡ feed
    → before ++ rows_from mapping extracts feed taken ≡ all → (before ++ staged ∷ []) ++ rows_from mapping extracts (feed + 1) (taken + count) ≡ all
rows_taken mapping extracts feed taken staged count before all at is place invariant = grind (arith, common_steps, feed_read mapping extracts feed taken (Taken staged.rows count) at is)

-- what a fault tells of a feed it tells of the window
pub fault_told : (mapping : Mapping) (extracts : List ExtractIn) (feed taken : ℕ) (fault : StageFault) (rule : Option Rule) → feed < length mapping.feeds
    → TellsFeed fault (read_at mapping extracts taken feed) → rule_from mapping extracts feed taken ≡ rule → TellsRule fault rule
fault_told mapping extracts feed taken fault rule h1 h2 h3 = search (rules, rule_broken)
