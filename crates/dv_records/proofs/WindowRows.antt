-- What holds of a window of the definition: of its extracts, their rows, references, keys and texts.
use Rattle.dv_records.proofs.Vocabulary.{Bool, Contains, Extract, FeedDef, IsStrictlySortedBy, Key, Less, List, Mapping, NRow, Some, Staged, Window, [], all_members, all_pass, and_parts, ap, are_rivals, are_rows_of, arith, ascending-sorted_by, ascends, common_steps, eq-eqb, eqb-true, extract_of}
use Rattle.dv_records.proofs.Vocabulary.{false, false≢true, fit_hubs, fits_hub, found_member, holds_of_each_two, is_field, is_key_part, is_keyed, is_missing, is_one_partner, is_one_row, is_row_of, is_staged, is_window, le-leb, length, list_all, lt-ltb, ltb-true, made_of, map, most_field_bytes}
use Rattle.dv_records.proofs.Vocabulary.{most_records, most_window_records, nat_cmp, nat_cmp_is, nat_le, nat_lt, nat_tests, norm_field, norm_key, not-true, one_value, parent_hubs, parts_of, passes_at, pointwise, refl, refs_eq-Decides, row_cmp, row_eq, row_eq-Decides, row_total, rules}
use Rattle.dv_records.proofs.Vocabulary.{slice_eq-Decides, slice_get, sorted_by, sorted_by-sorted, subst, sum_by, sym, texts_eq, texts_eq-Decides, true, ℕ, ◌<◌, ◌==◌, ◌||◌, ◌∙◌, ◌∷◌, ◌≡◌, ◌≤◌}

-- ---- load order

pub in_order : (loads : List ℕ) → ascends loads ≡ true → IsStrictlySortedBy nat_cmp loads
unfolding IsStrictlySortedBy
in_order [] up = tt
in_order (n ∷ later) up =
    let (all, rest) = and_parts (list_all (nat_lt n) later) (ascends later) up in
    (all_members (λ m. nat_cmp n m ≡ Less) later (λ m has. let less = ltb-true n m (passes_at (nat_lt n) later m all has) in sym (nat_cmp_is n m Less less)), in_order later rest)

-- ---- texts and keys

pub same_text : (a b : List ℕ) → texts_eq (a ∷ []) (b ∷ []) ≡ true → a ≡ b
same_text a b e = let same = (texts_eq-Decides (a ∷ []) (b ∷ [])).0 e in cc

-- a key part is in normal form, and not too long
pub key_part : (part : List ℕ) → is_key_part part ≡ true → (norm_key part ≡ part) × (nat_le (length part) most_field_bytes ≡ true)
key_part part e = let (normal, short) = and_parts (texts_eq (norm_key part ∷ []) (part ∷ [])) (nat_le (length part) most_field_bytes) e in (same_text (norm_key part) part normal, short)

-- and so is a field
pub field_text : (text : List ℕ) → is_field text ≡ true → (norm_field text ≡ text) × (nat_le (length text) most_field_bytes ≡ true)
field_text text e = let (normal, short) = and_parts (texts_eq (norm_field text ∷ []) (text ∷ [])) (nat_le (length text) most_field_bytes) e in (same_text (norm_field text) text normal, short)

-- a key has as many parts as its hub says, each a key part
pub key_form : (mapping : Mapping) (hub : ℕ) (key : Key) → fits_hub mapping hub key ≡ true → (length key.parts ≡ parts_of (slice_get mapping.hubs hub)) × (list_all is_key_part key.parts ≡ true)
key_form mapping hub key e = search (rules, and_parts, eqb-true)

-- the references of a hub's row are one key
pub one_key : (mapping : Mapping) (hub : ℕ) (refs : List Key) → fit_hubs mapping (hub ∷ []) refs ≡ true → (key : Key) × (refs ≡ key ∷ []) × (fits_hub mapping hub key ≡ true)
one_key mapping hub [] fits = let no : false ≡ true = fits in cc
one_key mapping hub (key ∷ []) fits = (key, refl, (and_parts (fits_hub mapping hub key) true fits).0)
one_key mapping hub (key ∷ second ∷ rest) fits = absurd (false≢true (and_parts (fits_hub mapping hub key) false fits).1)

-- references are not all missing
pub some_there : (definition : FeedDef) (row : NRow) → is_keyed definition row ≡ true → list_all is_missing row.refs ≡ false
some_there definition row e = not-true (list_all is_missing row.refs) (and_parts _ _ e).0

-- ---- the rows of an extract

pub record HasForm (mapping : Mapping) (definition : FeedDef) (row : NRow) : Type 0 where
  pub fits : fit_hubs mapping (parent_hubs mapping definition.parent) row.refs ≡ true
  pub keyed : is_keyed definition row ≡ true
  pub subs : length row.sub ≡ length definition.sub
  pub sub_fields : list_all is_field row.sub ≡ true
  pub attributes : length row.attrs ≡ length definition.attrs
  pub attr_fields : list_all is_field row.attrs ≡ true

pub has_form : (mapping : Mapping) (definition : FeedDef) (row : NRow) → is_row_of mapping definition row ≡ true → HasForm mapping definition row
has_form mapping definition row e = search (rules, and_parts, eqb-true)

pub form_holds : (mapping : Mapping) (definition : FeedDef) (row : NRow) → HasForm mapping definition row → is_row_of mapping definition row ≡ true
form_holds mapping definition row form = search (rules, eq-eqb)

-- two rows that have the same references and the same sub are one
one_row : (a b : NRow) → is_one_row a b ≡ true → a.refs ≡ b.refs → a.sub ≡ b.sub → a ≡ b
one_row a b e refs sub = search (rules, texts_eq-Decides, refs_eq-Decides)

-- a test that holds of each two
pub of_each_two : (test : NRow → NRow → Bool) (rows : List NRow) → ((a b : NRow) → Contains rows a → Contains rows b → test a b ≡ true) → holds_of_each_two test rows ≡ true
of_each_two test rows each = all_pass (λ a. list_all (test a) rows) rows (λ a a_in. all_pass (test a) rows (λ b b_in. each a b a_in b_in))

-- the rows of an extract ascend, each has its feed's form, and there is one for each reference list and sub
pub record AreRows (mapping : Mapping) (definition : FeedDef) (rows : List NRow) : Type 0 where
  pub ascending : IsStrictlySortedBy row_cmp rows
  pub forms : (row : NRow) → Contains rows row → HasForm mapping definition row
  pub single : (a b : NRow) → Contains rows a → Contains rows b → a.refs ≡ b.refs → a.sub ≡ b.sub → a ≡ b
  pub few : nat_le (length rows) most_records ≡ true

pub are_rows : (mapping : Mapping) (definition : FeedDef) (rows : List NRow) → are_rows_of mapping definition rows ≡ true → AreRows mapping definition rows
are_rows mapping definition rows e =
    let (e1, few) = and_parts _ (nat_le (length rows) most_records) e in
    let (e2, partners) = and_parts _ ((length definition.driver == 0) || holds_of_each_two (is_one_partner definition) rows) e1 in
    let (e3, each_two) = and_parts _ (holds_of_each_two is_one_row rows) e2 in
    let (sorted, forms) = and_parts (pointwise row_eq (sorted_by row_cmp rows) rows) (list_all (is_row_of mapping definition) rows) e3 in
    let same : sorted_by row_cmp rows ≡ rows = (slice_eq-Decides row_eq-Decides (sorted_by row_cmp rows) rows _ refl).0 sorted in
    record {
      ascending = subst (IsStrictlySortedBy row_cmp) same (ascending-sorted_by row_cmp row_total rows);
      forms = λ row has. has_form mapping definition row (passes_at (is_row_of mapping definition) rows row forms has);
      single = λ a b a_in b_in. one_row a b (passes_at (is_one_row a) rows b (passes_at (λ a. list_all (is_one_row a) rows) rows a each_two a_in) b_in);
      few = few;
    }

-- rows that ascend, have their feed's form and no rivals, and are few, are a feed's
pub rows_hold : (mapping : Mapping) (definition : FeedDef) (rows : List NRow) → IsStrictlySortedBy row_cmp rows → ((row : NRow) → Contains rows row → HasForm mapping definition row)
    → ((a b : NRow) → Contains rows a → Contains rows b → are_rivals a b ≡ false) → ((length definition.driver == 0) || holds_of_each_two (is_one_partner definition) rows) ≡ true
    → length rows ≤ most_records → are_rows_of mapping definition rows ≡ true
rows_hold mapping definition rows up forms apart partners few = search (rules, slice_eq-Decides, row_eq-Decides, sorted_by-sorted, all_pass, form_holds, of_each_two, le-leb)

-- an extract that stands in a window is one of a feed of the mapping, and has its rows
pub staged_rows : (mapping : Mapping) (staged : Staged) → is_staged mapping staged ≡ true → (definition : FeedDef) × (slice_get mapping.feeds staged.feed ≡ Some definition) × AreRows mapping definition staged.rows
staged_rows mapping staged e = search (rules, are_rows)

-- ---- windows

pub record WindowParts (mapping : Mapping) (window : Window) : Type 0 where
  pub some : 0 < length window.extracts
  pub ascending : ascends (map (λ staged. staged.feed) window.extracts) ≡ true
  pub staged : list_all (is_staged mapping) window.extracts ≡ true
  pub few : sum_by (λ staged. length staged.rows) window.extracts ≤ most_window_records

pub window_parts : (mapping : Mapping) (window : Window) → is_window mapping window ≡ true → WindowParts mapping window
window_parts mapping window e = grind (arith, common_steps, nat_tests)

pub window_holds : (mapping : Mapping) (window : Window) → WindowParts mapping window → is_window mapping window ≡ true
window_holds mapping window parts = search (rules, lt-ltb, le-leb)

-- the extract of a feed in a window is one that stands there
pub staged_of : (feed : ℕ) (window : Window) (extract : Extract) → extract_of feed window ≡ Some extract → (staged : Staged) × Contains window.extracts staged × (staged.feed ≡ feed) × (staged.rows ≡ extract.rows)
staged_of feed window extract is = search (rules, made_of, found_member, eqb-true)

module _ (mapping : Mapping) (window : Window) (whole : is_window mapping window ≡ true) (feed : ℕ) (extract : Extract) (is : extract_of feed window ≡ Some extract) where
  -- which is an extract of a feed
  pub staged_at : (staged : Staged) × Contains window.extracts staged × (staged.feed ≡ feed) × (is_staged mapping staged ≡ true) × (staged.rows ≡ extract.rows)
  staged_at =
      let (staged, member, number, rows) = staged_of feed window extract is in
      (staged, member, number, passes_at (is_staged mapping) window.extracts staged (window_parts mapping window whole).staged member, rows)

  -- and has the feed's rows
  pub rows_at : (definition : FeedDef) → slice_get mapping.feeds feed ≡ Some definition → AreRows mapping definition extract.rows
  rows_at definition at =
      let (staged, member, number, valid, rows) = staged_at in
      let (found, got, are) = staged_rows mapping staged valid in
      let one : found ≡ definition = one_value (slice_get mapping.feeds feed) found definition (ap (slice_get mapping.feeds) (sym number) ∙ got) at in
      subst (AreRows mapping definition) rows (subst (λ (d : FeedDef). AreRows mapping d staged.rows) one are)
