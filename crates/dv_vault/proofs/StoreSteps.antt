-- A store that takes what tables lack of a window, one table after the other.
use Rattle.dv_vault.proofs.Vocabulary.{AllZip-long, ArePartsOf, Became, Bool, BreaksParts, Changes, Err, Failed, HasRows, IsPartOf, IsSome, KeeperError, List, None, Ok, Option, Part, Result, Rows, Some, Store, TableId, TableRows, Told, TookRows, TookSome, [], add-one, ap, are_apart, arith}
use Rattle.dv_vault.proofs.Vocabulary.{changed, entries_with, eqb-true, false, false≢true, get_or, has_table, if◌then◌else◌, inl, inr, is_of_kind, is_ok, length, not, opened_in, refl, rest_in, row_count, rows_in, rows_then, same_Some, same_answer, same_table, subst, suc, sym, table_eq}
use Rattle.dv_vault.proofs.Vocabulary.{tables_there, take, taken_first, true, with_batch, with_rows, zero, ℕ, ◌&&◌, ◌+◌, ◌<◌, ◌==◌, ◌∙◌, ◌∷◌, ◌≡◌, ◌⊎◌}
use Rattle.dv_records.specs.declared.keepers.KeeperError.TheVariants.{Memory}
use Rattle.dv_vault.proofs.{BatchSteps.AtPlace, BatchSteps.IsOfKind, BatchSteps.at_place, BatchSteps.nothing_then, BatchSteps.others_stay, BatchSteps.pair_at, BatchSteps.rows_stay, OtherTables.with_has, Parts.none_taken, Parts.rest_kinds, Parts.there_taken}

-- ---- changing calls

-- a changing call made its change or none
pub made_or_not : {T : Type 0} (change : Store → Store) (old new : Option Store) (r : Result T KeeperError) → Changes change old new r → (new ≡ old) ⊎ (new ≡ changed change old)
made_or_not change old new (Ok x) is = inr is
made_or_not change old new (Err Memory) is = inl is
made_or_not change old new (Err Failed) is = is

-- one that is Ok made it
pub changed_ok : {T : Type 0} (change : Store → Store) (old new : Option Store) (r : Result T KeeperError) → is_ok r ≡ true → Changes change old new r → new ≡ changed change old
changed_ok change old new (Ok x) ok is = is
changed_ok change old new (Err e) ok is = cc

-- one that ran out of memory made none
pub unchanged : {T : Type 0} (change : Store → Store) (old new : Option Store) (r : Result T KeeperError) → r ≡ Err Memory → Changes change old new r → new ≡ old
unchanged change old new (Ok x) e is = cc
unchanged change old new (Err Memory) e is = is
unchanged change old new (Err Failed) e is = cc

-- ---- batches

-- a store that takes batches behind the rows of tables
abbrev TakesRows : List TableRows → List Rows → Option Store → Option Store → Type 0
TakesRows entries batches before after = Became (TookRows (entries_with entries batches)) before after

-- a change behind what a store became
pub became_changed : (change : Store → Store) (R S : Store → Store → Type 0) → ((was now : Store) → R was now → S was (change now))
    → (before mid after : Option Store) → after ≡ changed change mid → Became R before mid → Became S before after
became_changed change R S step before None after is b next e = cc
became_changed change R S step before (Some m) after is b next e =
    let (was, at, r) = b m refl in
    (was, at, subst (S was) (same_Some (change m) next (sym is ∙ e)) (step was m r))

module _ (entries : List TableRows) (batches : List Rows) (i : ℕ) (entry : TableRows) (rows : Rows) (at : AtPlace entries batches i entry rows) (kind : IsOfKind entry rows) where
  -- a table that isn't among them is another
  another : (id : TableId) → has_table id entries ≡ false → table_eq entry.table id ≡ false
  another id none = same_answer _ false (λ same. sym none ∙ ap (λ table. has_table table entries) (sym (same_table entry.table id same)) ∙ at.among) (λ no. absurd (false≢true no))

  took_step : (was now : Store) → TookRows (entries_with entries (take i batches)) was now → TookRows (entries_with entries (take (i + 1) batches)) was (with_batch entry.table rows now)
  took_step was now took = subst (λ n. TookRows (entries_with entries (take n batches)) was (with_batch entry.table rows now)) (sym (add-one i)) (by (row_count rows == 0) refl)
    where
      by : (b : Bool) → (row_count rows == 0) ≡ b → TookRows (entries_with entries (take (suc i) batches)) was (if b then now else with_rows entry.table rows now)
      by true t = subst (λ l. TookRows l was now) (sym (at.passed (nothing_then entry.table entry.rows rows kind.rows kind.more (eqb-true _ _ t)))) took
      by false t = record {
        tables_are = λ id has.
            rows_stay id entry.table rows kind.more now.tables (entries_with entries (take i batches)) (took.tables_are entry.table (with_has entry.table entries (take i batches) ∙ at.among))
            (took.tables_are id (with_has id entries (take i batches) ∙ sym (with_has id entries (take (suc i) batches)) ∙ has))
            ∙ ap (rows_in id) at.appended;
        others = λ id none.
            let apart : has_table id entries ≡ false = sym (with_has id entries (take (suc i) batches)) ∙ none in
            others_stay id entry.table rows kind.more (another id apart) now.tables ∙ took.others id (with_has id entries (take i batches) ∙ apart);
        stage_is = took.stage_is;
        windows_are = took.windows_are;
        beside = took.beside;
      }

  pub took_more : (table : TableId) → table ≡ entry.table → (before mid after : Option Store) → after ≡ changed (with_batch table rows) mid
      → TakesRows entries (take i batches) before mid → TakesRows entries (take (i + 1) batches) before after
  took_more table is before mid after e took =
      became_changed (with_batch entry.table rows) (TookRows (entries_with entries (take i batches))) (TookRows (entries_with entries (take (i + 1) batches))) took_step before mid after
      (e ∙ ap (λ t. changed (with_batch t rows) mid) is) took

  pub stored_kind : (table : TableId) → table ≡ entry.table → (before mid : Option Store) → TakesRows entries (take i batches) before mid → Told mid (λ s. is_of_kind table (rows_in table s.tables) ≡ true)
  stored_kind table is before mid took s e =
      let (was, at_was, has) = took s e in
      ap (λ t. is_of_kind t (rows_in t s.tables)) is ∙ ap (is_of_kind entry.table) (has.tables_are entry.table (with_has entry.table entries (take i batches) ∙ at.among) ∙ at.found) ∙ kind.rows

-- ---- parts

-- the tables stay apart with batches
apart_with : (entries : List TableRows) (batches : List Rows) → are_apart (entries_with entries batches) ≡ are_apart entries
apart_with [] batches = refl
apart_with (entry ∷ entries) [] = refl
apart_with (entry ∷ entries) (rows ∷ batches) = λ i. not (with_has entry.table entries batches i) && apart_with entries batches i

-- a table with what is there of a window
abbrev there_with : TableRows → Part → TableRows
there_with entry part = record { table = entry.table; rows = rows_then entry.rows part.opened }

there_at : (entries : List TableRows) (parts : List Part) (i : ℕ) (entry : TableRows) (part : Part) → i < length entries → i < length parts → get_or entries i entry ≡ entry → get_or parts i part ≡ part
    → (i < length (tables_there entries parts)) × (get_or (tables_there entries parts) i (there_with entry part) ≡ there_with entry part)
there_at [] parts i entry part under too at is = absurd (omega (arith, under))
there_at (first ∷ entries) [] i entry part under too at is = absurd (omega (arith, too))
there_at (first ∷ entries) (head ∷ parts) zero entry part under too at is = (omega arith, λ i. there_with (at i) (is i))
there_at (first ∷ entries) (head ∷ parts) (suc i) entry part under too at is =
    let (within, same) = there_at entries parts i entry part (omega (arith, under)) (omega (arith, too)) at is in
    (omega (arith, within), same)

rest_at : (parts : List Part) (i : ℕ) (part : Part) → i < length parts → get_or parts i part ≡ part → (i < length (rest_in parts)) × (get_or (rest_in parts) i part.rest ≡ part.rest)
rest_at [] i part under is = absurd (omega (arith, under))
rest_at (first ∷ parts) zero part under is = (omega arith, ap (λ (p : Part). p.rest) is)
rest_at (first ∷ parts) (suc i) part under is =
    let (within, same) = rest_at parts i part (omega (arith, under)) is in
    (omega (arith, within), same)

-- a store in which some first tables have got what they lacked
abbrev pub TakesParts : List TableRows → List Part → ℕ → Option Store → Option Store → Type 0
TakesParts entries parts k before after = Became (TookRows (tables_there entries (taken_first k parts))) before after

module _ (entries : List TableRows) (parts : List Part) where
  pub parts_first : (store : Option Store) → Told store (λ s. HasRows s (tables_there entries parts)) → TakesParts entries parts 0 store store
  parts_first store told s e =
      (s, e, record { tables_are = subst (λ parts. HasRows s (tables_there entries parts)) (sym (none_taken parts)) (told s e); others = λ table none. refl; stage_is = refl; windows_are = refl; beside = refl })

  pub as_many : ArePartsOf entries parts → length entries ≡ length parts
  as_many are = omega (arith, AllZip-long IsPartOf entries parts are)

  module _ (are : ArePartsOf entries parts) (apart : are_apart entries ≡ true) (i : ℕ) (entry : TableRows) (part : Part) (under : i < length entries) (at : get_or entries i entry ≡ entry) (is : get_or parts i part ≡ part) where
    too : i < length parts
    too = omega (arith, under, as_many are)

    place : AtPlace (tables_there entries parts) (rest_in parts) i (there_with entry part) part.rest
    place =
        let (within, here) = there_at entries parts i entry part under too at is in
        let (among, lacking) = rest_at parts i part too is in
        at_place (tables_there entries parts) (rest_in parts) i (there_with entry part) part.rest (apart_with entries (opened_in parts) ∙ apart) within here among lacking

    kind : IsOfKind (there_with entry part) part.rest
    kind =
        let (within, here) = there_at entries parts i entry part under too at is in
        let (among, lacking) = rest_at parts i part too is in
        pair_at IsOfKind (tables_there entries parts) (rest_in parts) i (there_with entry part) part.rest (rest_kinds entries parts are) within here lacking

    pub own_part : IsPartOf entry part
    own_part = pair_at IsPartOf entries parts i entry part are under at is

    as_batches : (k : ℕ) (before after : Option Store) → TakesParts entries parts k before after → TakesRows (tables_there entries parts) (take k (rest_in parts)) before after
    as_batches k before after = subst (λ tables. Became (TookRows tables) before after) (sym (there_taken k entries parts are))

    as_parts : (k : ℕ) (before after : Option Store) → TakesRows (tables_there entries parts) (take k (rest_in parts)) before after → TakesParts entries parts k before after
    as_parts k before after = subst (λ tables. Became (TookRows tables) before after) (there_taken k entries parts are)

    pub parts_more : (table : TableId) → table ≡ entry.table → (before mid after : Option Store) → after ≡ changed (with_batch table part.rest) mid → TakesParts entries parts i before mid → TakesParts entries parts (i + 1) before after
    parts_more table named before mid after e took =
        as_parts (i + 1) before after (took_more (tables_there entries parts) (rest_in parts) i (there_with entry part) part.rest place kind table named before mid after e (as_batches i before mid took))

    pub parts_kind : (table : TableId) → table ≡ entry.table → (before mid : Option Store) → TakesParts entries parts i before mid → Told mid (λ s. is_of_kind table (rows_in table s.tables) ≡ true)
    parts_kind table named before mid took =
        stored_kind (tables_there entries parts) (rest_in parts) i (there_with entry part) part.rest place kind table named before mid (as_batches i before mid took)

    -- a call that may have failed
    pub parts_some : (table : TableId) → table ≡ entry.table → (before mid after : Option Store) → (after ≡ mid) ⊎ (after ≡ changed (with_batch table part.rest) mid)
        → TakesParts entries parts i before mid → Became (TookSome entries parts) before after
    parts_some table named before mid after (inl same) took now e =
        let (was, at_was, has) = took now (sym same ∙ e) in
        (was, at_was, (i, omega (arith, too), has))
    parts_some table named before mid after (inr made) took now e =
        let (was, at_was, has) = parts_more table named before mid after made took now e in
        (was, at_was, (i + 1, omega (arith, too), has))

    -- a call that failed
    pub parts_break : {T : Type 0} (table : TableId) → table ≡ entry.table → (before mid after : Option Store) (result : Result T KeeperError) (error : KeeperError) → result ≡ Err error → Changes (with_batch table part.rest) mid after result
        → TakesParts entries parts i before mid → BreaksParts entries parts before after error (taken_first i parts)
    parts_break table named before mid after result error failed changes took = record {
      some = parts_some table named before mid after (made_or_not (with_batch table part.rest) mid after result changes) took;
      taken = i;
      within = omega (arith, too);
      left_are = refl;
      exact = λ e now at. took now (sym (unchanged (with_batch table part.rest) mid after result (failed ∙ ap Err e) changes) ∙ at);
    }

-- ---- causes

-- a store that was told is told after a change
pub stays_told : {T : Type 0} (change : Store → Store) (old new : Option Store) (r : Result T KeeperError) → Changes change old new r → IsSome old → IsSome new
stays_told change (Some old) new (Ok x) is some = subst IsSome (sym is) some
stays_told change (Some old) new (Err Memory) is some = subst IsSome (sym is) some
stays_told change (Some old) new (Err Failed) (inl is) some = subst IsSome (sym is) some
stays_told change (Some old) new (Err Failed) (inr is) some = subst IsSome (sym is) some
stays_told change None new r is none = cc
