-- The rows of a content beside keys, found one after another as both ascend.
use Rattle.dv_mart.proofs.Vocabulary.{Bool, Equal, FeedRows, Greater, HubColumn, Key, Less, List, NRow, None, Option, Ordering, Some, [], ap, append_assoc, column_of, column_told, cond, drop, drop_more, false, find, find_none, get_or, if◌then◌else◌, is_eq, is_lt, key_cmp, length, length-drop}
use Rattle.dv_mart.proofs.Vocabulary.{map, map-append, map_alike, member_of_all, not, not_before, option_map, ordering_reverse, ordering_then, position, position-cons, refl, refs-tie, refs_cmp, refs_eq, refs_total, row_cmp, slice_cmp, suc, sym, take, take-length, take_more, text_cmp, true}
use Rattle.dv_mart.proofs.Vocabulary.{turned, ℕ, ◌++◌, ◌+◌, ◌-◌, ◌<◌, ◌∙◌, ◌∷◌, ◌≡◌}
use Rattle.dv_mart.specs.HubContents.{first_of}
unfoldable use Rattle.std.specs.List.Sorted.{IsStrictlySortedBy}

-- a row is of a key
abbrev pub has : Key → NRow → Bool
has key row = refs_eq row.refs (key ∷ [])

-- what the walk finds: of each key the first row that is not before it, if it is of the key
abbrev pub walked : List NRow → List Key → List (Option NRow)
walked rows [] = []
walked rows (key ∷ keys) = first_of key (not_before key rows) ∷ walked (not_before key rows) keys

has_not : (key : Key) (row : NRow) (o : Ordering) → refs_cmp row.refs (key ∷ []) ≡ o → is_eq o ≡ false → has key row ≡ false
has_not key row o is unequal = refs-tie row.refs (key ∷ []) ∙ ap is_eq is ∙ unequal

single_less : (key k : Key) → key_cmp key k ≡ Less → refs_cmp (key ∷ []) (k ∷ []) ≡ Less
single_less key k less = rw less refl

-- rows of lesser keys have no greater one
pub still_found : (key k : Key) (rows : List NRow) → key_cmp key k ≡ Less → find (has k) (not_before key rows) ≡ find (has k) rows
still_found key k [] less = refl
still_found key k (row ∷ rows) less = by (refs_cmp row.refs (key ∷ [])) refl (still_found key k rows less)
  where
    by : (o : Ordering) → refs_cmp row.refs (key ∷ []) ≡ o → find (has k) (not_before key rows) ≡ find (has k) rows
        → find (has k) (if is_lt (refs_cmp row.refs (key ∷ [])) then not_before key rows else row ∷ rows) ≡ find (has k) (row ∷ rows)
    by Less e later = rw (e, has_not k row Less (refs_total.trans row.refs (key ∷ []) (k ∷ []) e (single_less key k less)) refl) later
    by Equal e later = rw e refl
    by Greater e later = rw e refl

-- rows behind one that is of a greater key are of greater ones
behind : (key : Key) (row other : NRow) → refs_cmp row.refs (key ∷ []) ≡ Greater → row_cmp row other ≡ Less → has key other ≡ false
behind key row other above less = by (refs_cmp row.refs other.refs) refl
  where
    under : refs_cmp (key ∷ []) row.refs ≡ Less
    under = turned refs_total row.refs (key ∷ []) above

    greater : refs_cmp (key ∷ []) other.refs ≡ Less → has key other ≡ false
    greater e = has_not key other Greater (refs_total.antisymm other.refs (key ∷ []) ∙ ap ordering_reverse e) refl

    by : (o : Ordering) → refs_cmp row.refs other.refs ≡ o → has key other ≡ false
    by Less e = greater (refs_total.trans (key ∷ []) row.refs other.refs under e)
    by Equal e = has_not key other Greater (sym (refs_total.congr row.refs other.refs (key ∷ []) e) ∙ above) refl
    by Greater e = let no : Greater ≡ Less = sym (ap (λ o. ordering_then o (ordering_then (slice_cmp text_cmp row.sub other.sub) (slice_cmp text_cmp row.attrs other.attrs))) e) ∙ less in cc

-- the first row that is not before a key is the first that is of it, or none is
pub first_found : (key : Key) (rows : List NRow) → IsStrictlySortedBy row_cmp rows → first_of key (not_before key rows) ≡ find (has key) rows
unfolding IsStrictlySortedBy
first_found key [] up = refl
first_found key (row ∷ rows) up = by (refs_cmp row.refs (key ∷ [])) refl (first_found key rows up.1)
  where
    none : refs_cmp row.refs (key ∷ []) ≡ Greater → find (has key) rows ≡ None
    none e = find_none (has key) rows (λ other member. behind key row other e (member_of_all (λ other. row_cmp row other ≡ Less) rows other up.0 member))

    by : (o : Ordering) → refs_cmp row.refs (key ∷ []) ≡ o → first_of key (not_before key rows) ≡ find (has key) rows
        → first_of key (if is_lt (refs_cmp row.refs (key ∷ [])) then not_before key rows else row ∷ rows) ≡ find (has key) (row ∷ rows)
    by Less e later = rw (e, has_not key row Less e refl) later
    by Equal e later = rw (e, e, refs-tie row.refs (key ∷ []) ∙ ap is_eq e) refl
    by Greater e later = rw (e, e, has_not key row Greater e refl) (sym (none e))

rest_ascends : (key : Key) (rows : List NRow) → IsStrictlySortedBy row_cmp rows → IsStrictlySortedBy row_cmp (not_before key rows)
unfolding IsStrictlySortedBy
rest_ascends key [] up = up
rest_ascends key (row ∷ rows) up = by (is_lt (refs_cmp row.refs (key ∷ []))) (rest_ascends key rows up.1)
  where
    by : (b : Bool) → IsStrictlySortedBy row_cmp (not_before key rows) → IsStrictlySortedBy row_cmp (if b then not_before key rows else row ∷ rows)
    by true later = later
    by false later = up

-- the walk finds of each key the first of its rows
pub walked_finds : (rows : List NRow) (keys : List Key) → IsStrictlySortedBy row_cmp rows → IsStrictlySortedBy key_cmp keys → walked rows keys ≡ map (λ key. find (has key) rows) keys
unfolding IsStrictlySortedBy
walked_finds rows [] up vp = refl
walked_finds rows (key ∷ keys) up vp =
    let rest = not_before key rows in
    let later = walked_finds rest keys (rest_ascends key rows up) vp.1 ∙ map_alike (λ k. find (has k) rest) (λ k. find (has k) rows) keys
    (λ k member. still_found key k rows (member_of_all (λ k. key_cmp key k ≡ Less) keys k vp.0 member)) in
    λ i. first_found key rows up i ∷ later i

-- a step of the walk
pub walked_more : (found more whole : List (Option NRow)) (rest left : List NRow) (row : Option NRow) (key : Key) (keys : List Key) (i : ℕ) → i < length keys → key ≡ get_or keys i key
    → left ≡ not_before key rest → row ≡ first_of key left → more ≡ found ++ row ∷ [] → found ++ walked rest (drop i keys) ≡ whole → more ++ walked left (drop (i + 1) keys) ≡ whole
walked_more found more whole rest left row key keys i under at left_is row_is more_is so_far =
    ap (λ l. l ++ walked left (drop (i + 1) keys)) more_is ∙ append_assoc found (row ∷ []) (walked left (drop (i + 1) keys)) ∙ ap (λ l. found ++ l) step ∙ so_far
  where
    keys_are : drop i keys ≡ key ∷ drop (i + 1) keys
    keys_are = drop_more keys i key under ∙ ap (λ k. k ∷ drop (i + 1) keys) (sym at)

    step : row ∷ walked left (drop (i + 1) keys) ≡ walked rest (drop i keys)
    step = (λ j. (row_is ∙ ap (first_of key) left_is) j ∷ walked (left_is j) (drop (i + 1) keys)) ∙ sym (ap (walked rest) keys_are)

-- ---- the first row

-- ---- the rows from a place on

-- a row is not of a lesser key
abbrev is_not_lesser : Key → NRow → Bool
is_not_lesser key row = not (is_lt (refs_cmp row.refs (key ∷ [])))

place_later : (key : Key) (row : NRow) (rows : List NRow) (place : ℕ) (o : Option ℕ) → ((p : ℕ) → Some p ≡ o → drop p rows ≡ not_before key rows) → Some place ≡ option_map suc o
    → drop place (row ∷ rows) ≡ not_before key rows
place_later key row rows place None later e = cc
place_later key row rows place (Some p) later e = let same : place ≡ suc p = cc in ap (λ n. drop n (row ∷ rows)) same ∙ later p refl

place_here : (key : Key) (row : NRow) (rows : List NRow) (place : ℕ) (b : Bool) → ((p : ℕ) → Some p ≡ position (is_not_lesser key) rows → drop p rows ≡ not_before key rows)
    → Some place ≡ cond (not b) (Some 0) (option_map suc (position (is_not_lesser key) rows)) → drop place (row ∷ rows) ≡ (if b then not_before key rows else row ∷ rows)
place_here key row rows place true later e = place_later key row rows place (position (is_not_lesser key) rows) later e
place_here key row rows place false later e = let same : place ≡ 0 = cc in ap (λ n. drop n (row ∷ rows)) same

pub from_place : (key : Key) (rows : List NRow) (place : ℕ) → Some place ≡ position (λ (row : NRow). not (is_lt (refs_cmp row.refs (key ∷ [])))) rows → drop place rows ≡ not_before key rows
from_place key [] place e = cc
from_place key (row ∷ rows) place e = place_here key row rows place (is_lt (refs_cmp row.refs (key ∷ []))) (from_place key rows) (e ∙ position-cons (is_not_lesser key) row rows)

none_later : (key : Key) (rows : List NRow) (o : Option ℕ) → (None ≡ o → [] ≡ not_before key rows) → None ≡ option_map suc o → [] ≡ not_before key rows
none_later key rows None later e = later refl
none_later key rows (Some p) later e = cc

none_here : (key : Key) (row : NRow) (rows : List NRow) (b : Bool) → (None ≡ position (is_not_lesser key) rows → [] ≡ not_before key rows)
    → None ≡ cond (not b) (Some 0) (option_map suc (position (is_not_lesser key) rows)) → [] ≡ (if b then not_before key rows else row ∷ rows)
none_here key row rows true later e = none_later key rows (position (is_not_lesser key) rows) later e
none_here key row rows false later e = cc

pub from_none : (key : Key) (rows : List NRow) → None ≡ position (λ (row : NRow). not (is_lt (refs_cmp row.refs (key ∷ [])))) rows → [] ≡ not_before key rows
from_none key [] e = refl
from_none key (row ∷ rows) e = none_here key row rows (is_lt (refs_cmp row.refs (key ∷ []))) (from_none key rows) (e ∙ position-cons (is_not_lesser key) row rows)

-- what is left behind a place
pub rest_whole : (place : ℕ) (rows : List NRow) → take (length rows - place) (drop place rows) ≡ drop place rows
rest_whole place rows = ap (λ n. take n (drop place rows)) (sym (length-drop place rows)) ∙ take-length (drop place rows)

-- ---- the columns

-- the column of one content more
pub columns_grow : (keys : List Key) (contents : List FeedRows) (i : ℕ) (one : FeedRows) (columns : List HubColumn) (column : HubColumn) → i < length contents → one ≡ get_or contents i one
    → map column_told columns ≡ map (column_of keys) (take i contents) → column_told column ≡ column_of keys one → map column_told (columns ++ column ∷ []) ≡ map (column_of keys) (take (i + 1) contents)
columns_grow keys contents i one columns column at is so_far same =
    map-append column_told columns (column ∷ [])
    ∙ (λ j. so_far j ++ same j ∷ [])
    ∙ sym (ap (map (column_of keys)) more ∙ map-append (column_of keys) (take i contents) (one ∷ []))
  where
    more : take (i + 1) contents ≡ take i contents ++ one ∷ []
    more = take_more contents i one at ∙ ap (λ x. take i contents ++ x ∷ []) (sym is)
