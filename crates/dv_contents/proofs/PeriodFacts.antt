-- The periods that are read back from the vault, by what its tables answer.
use Rattle.dv_contents.proofs.Vocabulary.{Contains, EffectRow, FeedDef, HasSealed, Hashes, List, Mapping, Option, Period, PeriodRow, RawVault, Some, TableRows, Window, ap, arith, effect_periods, effect_rows_in, filter_map, is_table_of, is_valid, length, nat_lt, nat_tests, passes_at, period_cmp}
use Rattle.dv_contents.proofs.Vocabulary.{period_mart, period_read, periods_read, periods_read_by, periods_tell, slice_get, sorted_by, sym, tables, tables_in, true, ℕ, ◌<◌, ◌∙◌, ◌≡◌}
use Rattle.dv_catalog.specs.declared.tables.TableId.TheVariants as ids

-- a feed with an effectivity table is one of the mapping
pub effect_within : (mapping : Mapping) (feed : ℕ) → Contains (tables mapping) (ids.Effect feed) → feed < length mapping.feeds
effect_within mapping feed has =
    let test : nat_lt feed (length mapping.feeds) ≡ true = passes_at (is_table_of mapping) (tables mapping) (ids.Effect feed) (tables_in mapping) has in
    grind (arith, nat_tests, test)

-- the periods of a feed of the mapping
pub periods_by : (mapping : Mapping) (tables : List TableRows) (feed date : ℕ) (definition : FeedDef) (rows : List PeriodRow) (told : List Period) (effects : List EffectRow)
    → slice_get mapping.feeds feed ≡ Some definition → effects ≡ effect_rows_in feed tables → told ≡ effect_periods effects date → rows ≡ filter_map (period_read mapping tables definition) told
    → sorted_by period_cmp rows ≡ periods_read mapping tables feed date
periods_by mapping tables feed date definition rows told effects got effects_are told_are rows_are =
    ap (sorted_by period_cmp)
    (rows_are ∙ ap (filter_map (period_read mapping tables definition)) (told_are ∙ ap (λ (rows : List EffectRow). effect_periods rows date) effects_are))
    ∙ ap (λ (found : Option FeedDef). periods_read_by mapping tables found feed date) (sym got)

-- they are the feed's period mart, where the vault has sealed windows
pub periods_told : (hashes : Hashes) (sealed : List Window) (raw : RawVault) → HasSealed hashes sealed raw → is_valid raw.mapping ≡ true → (feed date : ℕ) → Contains (tables raw.mapping) (ids.Effect feed)
    → periods_read raw.mapping raw.tables feed date ≡ period_mart sealed feed date
periods_told hashes sealed raw has valid feed date driven =
    ap (λ (tables : List TableRows). periods_read raw.mapping tables feed date) has.tables_are ∙ periods_tell raw.mapping hashes sealed feed valid has.valid driven date
