-- What is read of a mapping file has the form of its entries: parts in range, and columns of their form.
use Rattle.dv_mapfile.proofs.Vocabulary.{Bool, Data, Err, FeedOutline, HubOutline, IfOk, IfOk-at_ok, IfSome, List, Members, None, Ok, Option, Outline, Result, Some, [], all_columns, all_pass_both, and_from, and_parts, as_array, as_integer, as_str, codes, column, column_or_none, count_or_none}
use Rattle.dv_mapfile.proofs.Vocabulary.{each, entries, false, feed_keys, feed_of, flat_map, get_member, has_column_form, has_shape, hub_of, if◌then◌else◌, is_some, is_within, item, link_of, list_all, list_of, mapping_document, most_parts, negsuc, no_items, no_others, ok_or, option_and_then}
use Rattle.dv_mapfile.proofs.Vocabulary.{option_map, optional, outline_in, outline_of, outline_or_shape, outline_or_text, parent_of, part_count, path_of, placed, pos, refl, required, text, tops_of, true, ℕ, ◌++◌, ◌+◌, ◌>>=◌, ◌∷◌, ◌≡◌}

-- a step that makes what passes, before the next one
passing : {A B F : Type 0} (Q : A → Type 0) (P : B → Type 0) (first : Result A F) (next : A → Result B F) → IfOk first Q → ((a : A) → Q a → IfOk (next a) P) → IfOk (first >>= next) P
passing Q P (Ok a) next made later = later a made
passing Q P (Err fault) next made later = tt

-- and any step
whatever : {A B F : Type 0} (P : B → Type 0) (first : Result A F) (next : A → Result B F) → ((a : A) → IfOk (next a) P) → IfOk (first >>= next) P
whatever P (Ok a) next later = later a
whatever P (Err fault) next later = tt

then_passes : {A B : Type 0} (P : B → Type 0) (o : Option A) (f : A → Option B) → ((a : A) → IfSome (f a) P) → IfSome (option_and_then f o) P
then_passes P None f later = tt
then_passes P (Some a) f later = later a

if_passes : {X : Type 0} (p : X → Bool) (x : X) → IfSome (if p x then Some x else None) (λ y. p y ≡ true)
if_passes p x = by (p x) refl
  where
    by : (b : Bool) → p x ≡ b → IfSome (if b then Some x else None) (λ y. p y ≡ true)
    by true e = e
    by false e = tt

ok_passes : {X F : Type 0} (P : X → Type 0) (o : Option X) (fault : F) → IfSome o P → IfOk (ok_or o fault) P
ok_passes P None fault made = tt
ok_passes P (Some x) fault made = made

-- all that is made passes a test
abbrev Makes : {A X : Type 0} → (A → Option X) → (X → Bool) → Type 0
Makes {A} made_of p = (a : A) → IfSome (made_of a) (λ x. p x ≡ true)

each_makes : {X : Type 0} (made_of : Data → Option X) (p : X → Bool) → Makes made_of p → Makes (each made_of) (list_all p)
each_makes made_of p makes no_items = refl
each_makes {X} made_of p makes (item value items) = by (made_of value) (each made_of items) (makes value) (each_makes made_of p makes items)
  where
    by : (first : Option X) (others : Option (List X)) → IfSome first (λ x. p x ≡ true) → IfSome others (λ xs. list_all p xs ≡ true)
        → IfSome (option_and_then (λ x. option_map (λ xs. x ∷ xs) others) first) (λ xs. list_all p xs ≡ true)
    by None others made more = tt
    by (Some x) None made more = tt
    by (Some x) (Some xs) made more = and_from (p x) (list_all p xs) made more

list_makes : {X : Type 0} (made_of : Data → Option X) (p : X → Bool) → Makes made_of p → Makes (list_of made_of) (list_all p)
list_makes made_of p makes value = then_passes (λ xs. list_all p xs ≡ true) (as_array value) (each made_of) (each_makes made_of p makes)

required_passes : {X : Type 0} (made_of : Data → Option X) (p : X → Bool) → Makes made_of p → (key : List ℕ) (members : Members) → IfOk (required made_of key members) (λ x. p x ≡ true)
required_passes made_of p makes key members =
    ok_passes (λ x. p x ≡ true) (option_and_then made_of (get_member key members)) key (then_passes (λ x. p x ≡ true) (get_member key members) made_of makes)

optional_passes : {X : Type 0} (made_of : Data → Option X) (p : X → Bool) → Makes made_of p → (key : List ℕ) (members : Members) → IfOk (optional made_of key members) (λ xs. list_all p xs ≡ true)
optional_passes made_of p makes key members = by (is_some (get_member key members))
  where
    by : (there : Bool) → IfOk (if there then required (list_of made_of) key members else Ok []) (λ xs. list_all p xs ≡ true)
    by true = required_passes (list_of made_of) (list_all p) (list_makes made_of p makes) key members
    by false = refl

placed_passes : {E : Type 0} (P : E → Type 0) (kind : List ℕ) (number : ℕ) (r : Result E (List ℕ)) → IfOk r P → IfOk (placed kind number r) P
placed_passes P kind number (Ok entry) made = made
placed_passes P kind number (Err key) made = tt

entries_pass : {E : Type 0} (entry_of : Members → Result E (List ℕ)) (p : E → Bool) → ((members : Members) → IfOk (entry_of members) (λ x. p x ≡ true))
    → (kind : List ℕ) (number : ℕ) (tables : List Members) → IfOk (entries entry_of kind number tables) (λ xs. list_all p xs ≡ true)
entries_pass entry_of p makes kind number [] = refl
entries_pass entry_of p makes kind number (table ∷ tables) =
    passing (λ x. p x ≡ true) (λ xs. list_all p xs ≡ true) (placed kind number (entry_of table)) _ (placed_passes (λ x. p x ≡ true) kind number (entry_of table) (makes table))
    (λ x made. passing (λ xs. list_all p xs ≡ true) (λ xs. list_all p xs ≡ true) (entries entry_of kind (number + 1) tables) _ (entries_pass entry_of p makes kind (number + 1) tables)
    (λ others more. and_from (p x) (list_all p others) made more))

count_makes : Makes count_or_none (is_within 1 most_parts)
count_makes (pos n) = if_passes (is_within 1 most_parts) n
count_makes (negsuc n) = tt

part_makes : Makes part_count (is_within 1 most_parts)
part_makes value = then_passes (λ n. is_within 1 most_parts n ≡ true) (as_integer value) count_or_none count_makes

column_makes : Makes column has_column_form
column_makes value = then_passes (λ name. has_column_form name ≡ true) (as_str value) column_or_none (if_passes has_column_form)

abbrev HubFormed : HubOutline → Type 0
HubFormed hub = is_within 1 most_parts hub.parts ≡ true

abbrev FeedFormed : FeedOutline → Type 0
FeedFormed feed = list_all has_column_form (all_columns feed.keys feed.sub feed.attrs feed.ignore) ≡ true

hub_formed : (members : Members) → IfOk (hub_of members) HubFormed
hub_formed members =
    whatever HubFormed (required text (codes "name") members) _ (λ name.
    passing (λ n. is_within 1 most_parts n ≡ true) HubFormed (required part_count (codes "parts") members) _ (required_passes part_count (is_within 1 most_parts) part_makes (codes "parts") members) (λ parts made.
    whatever HubFormed (no_others (codes "name" ∷ codes "parts" ∷ []) members) _ (λ others. made)))

flat : {X : Type 0} (p : X → Bool) (xss : List (List X)) → list_all (list_all p) xss ≡ true → list_all p (flat_map (λ xs. xs) xss) ≡ true
flat p [] all = refl
flat p (xs ∷ xss) all =
    let parts = and_parts (list_all p xs) (list_all (list_all p) xss) all in
    all_pass_both p xs (flat_map (λ xs. xs) xss) parts.0 (flat p xss parts.1)

columns_formed : (keys : List (List (List ℕ))) (sub attrs ignore : List (List ℕ)) → list_all (list_all has_column_form) keys ≡ true → list_all has_column_form sub ≡ true
    → list_all has_column_form attrs ≡ true → list_all has_column_form ignore ≡ true → list_all has_column_form (all_columns keys sub attrs ignore) ≡ true
columns_formed keys sub attrs ignore k s a i =
    let of_keys = flat has_column_form keys k in
    let with_sub = all_pass_both has_column_form (flat_map (λ columns. columns) keys) sub of_keys s in
    let with_attrs = all_pass_both has_column_form (flat_map (λ columns. columns) keys ++ sub) attrs with_sub a in
    all_pass_both has_column_form (flat_map (λ columns. columns) keys ++ sub ++ attrs) ignore with_attrs i

abbrev AreColumns : List (List ℕ) → Type 0
AreColumns columns = list_all has_column_form columns ≡ true

feed_formed : (members : Members) → IfOk (feed_of members) FeedFormed
feed_formed members =
    let optional_columns = λ (key : List ℕ). optional_passes column has_column_form column_makes key members in
    whatever FeedFormed (required text (codes "name") members) _ (λ name.
    whatever FeedFormed (required text (codes "source") members) _ (λ source.
    whatever FeedFormed (parent_of members) _ (λ parent.
    passing (λ keys. list_all (list_all has_column_form) keys ≡ true) FeedFormed (required (list_of (list_of column)) (codes "keys") members) _
    (required_passes (list_of (list_of column)) (list_all (list_all has_column_form)) (list_makes (list_of column) (list_all has_column_form) (list_makes column has_column_form column_makes)) (codes "keys") members) (λ keys of_keys.
    passing AreColumns FeedFormed (optional column (codes "sub") members) _ (optional_columns (codes "sub")) (λ sub of_sub.
    passing AreColumns FeedFormed (optional column (codes "attrs") members) _ (optional_columns (codes "attrs")) (λ attrs of_attrs.
    passing AreColumns FeedFormed (optional column (codes "ignore") members) _ (optional_columns (codes "ignore")) (λ ignore of_ignore.
    whatever FeedFormed (optional text (codes "driver") members) _ (λ driver.
    whatever FeedFormed (no_others feed_keys members) _ (λ others. columns_formed keys sub attrs ignore of_keys of_sub of_attrs of_ignore)))))))))

abbrev HasShape : Outline → Type 0
HasShape outline = has_shape outline ≡ true

outline_formed : (members : Members) → IfOk (outline_of members) HasShape
outline_formed members =
    whatever HasShape (tops_of members) _ (λ tops.
    passing (λ hubs. list_all (λ hub. is_within 1 most_parts hub.parts) hubs ≡ true) HasShape (entries hub_of (codes "hub") 1 tops.hubs) _
    (entries_pass hub_of (λ hub. is_within 1 most_parts hub.parts) hub_formed (codes "hub") 1 tops.hubs) (λ hubs of_hubs.
    whatever HasShape (entries link_of (codes "link") 1 tops.links) _ (λ links.
    passing (λ feeds. list_all (λ feed. list_all has_column_form (all_columns feed.keys feed.sub feed.attrs feed.ignore)) feeds ≡ true) HasShape (entries feed_of (codes "feed") 1 tops.feeds) _
    (entries_pass feed_of (λ feed. list_all has_column_form (all_columns feed.keys feed.sub feed.attrs feed.ignore)) feed_formed (codes "feed") 1 tops.feeds) (λ feeds of_feeds.
    whatever HasShape (entries path_of (codes "path") 1 tops.paths) _ (λ paths. and_from _ _ of_hubs of_feeds)))))

pub read_shape : (bytes : List ℕ) (outline : Outline) → outline_in bytes ≡ Ok outline → has_shape outline ≡ true
read_shape bytes outline e = IfOk-at_ok HasShape e (by (mapping_document bytes))
  where
    read : (found : Result Outline (List ℕ)) → IfOk found HasShape → IfOk (outline_or_shape found) HasShape
    read (Ok made) formed = formed
    read (Err place) formed = tt

    by : (document : Option Members) → IfOk (outline_or_text document) HasShape
    by None = tt
    by (Some document) = read (outline_of document) (outline_formed document)
