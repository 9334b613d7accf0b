-- What is read back from the vault, by what its tables answer.
use Rattle.dv_contents.proofs.Vocabulary.{Bool, Bor, FeedDef, HasSealed, Hashes, Hub, HubRow, Key, Link, LinkRow, List, Mapping, NRow, None, Option, Parent, RawVault, SatRow, Some, StatusRow, TableRows, Window, [], absent_rows, any_content_read, any_content_read_by, ap, arith, attrs_read}
use Rattle.dv_contents.proofs.Vocabulary.{cons_option, content_read, content_read_by, described_row, false, feed_mart, filter_map, filter_map_more, flat_map, flat_map_more, get_or, get_or-map-range_with_len, has_table, hub_row_by, hub_rows_in, if◌then◌else◌, inl, inr, is_declared, is_parent}
use Rattle.dv_contents.proofs.Vocabulary.{is_valid, key_refs, key_row, keys_read, length, length-map-range_with_len, link_row_by, link_rows_in, list_refs, list_row, ltb-true, map, map-map, map-range_with_len_more, missing_key, missing_keys, multi_content_read, multi_content_read_by, option_map}
use Rattle.dv_contents.proofs.Vocabulary.{option_map_or, option_to_list, parent_hubs, parents_read, plain_row, present_parents, range_with_len, refl, refs_read, replicate, row_cmp, row_read, rows_read, sat_rows, sat_rows_in, seen-twice, slice_get, sorted_by, status_rows_in, sym, take, take_more}
use Rattle.dv_contents.proofs.Vocabulary.{true, valid_at, valid_attrs, vault_tells, zip, ℕ, ◌++◌, ◌+◌, ◌<◌, ◌==◌, ◌∙◌, ◌∷◌, ◌≡◌, ◌⊎◌}
use Rattle.dv_catalog.specs.declared.tables.TableId.TheVariants as ids

-- what is made of a thing that two looks found
pub made_through : {X Y Z A : Type 0} (f : Y → Z) (g : X → Y) (h : A → Y) (o : Option X) (found : Option A) → option_map h found ≡ option_map g o
    → option_map (λ x. f (g x)) o ≡ option_map (λ a. f (h a)) found
made_through f g h o found e = seen-twice g f o ∙ ap (option_map f) (sym e) ∙ sym (seen-twice h f found)

or_twice : {X Y Z : Type 0} (f : Y → Z) (g : X → Y) (o : Option X) (d : Z) → option_map_or (λ x. f (g x)) o d ≡ option_map_or f (option_map g o) d
or_twice f g None d = refl
or_twice f g (Some x) d = refl

pub made_or : {X Y Z A : Type 0} (f : Y → Z) (g : X → Y) (h : A → Y) (o : Option X) (found : Option A) (d : Z) → option_map h found ≡ option_map g o
    → option_map_or (λ x. f (g x)) o d ≡ option_map_or (λ a. f (h a)) found d
made_or f g h o found d e = or_twice f g o d ∙ ap (λ o. option_map_or f o d) (sym e) ∙ sym (or_twice f h found d)

-- no keys of no hubs, nor by no hash keys
pub no_keys : (mapping : Mapping) (tables : List TableRows) (hubs : List ℕ) (digests : List (List ℕ)) → (length hubs ≡ 0) ⊎ (length digests ≡ 0) → keys_read mapping tables hubs digests ≡ []
no_keys mapping tables [] digests ended = refl
no_keys mapping tables (hub ∷ hubs) [] ended = refl
no_keys mapping tables (hub ∷ hubs) (digest ∷ digests) (inl e) = absurd (omega (arith, e))
no_keys mapping tables (hub ∷ hubs) (digest ∷ digests) (inr e) = absurd (omega (arith, e))

-- no attributes, where there is no satellite
pub absent_attrs : (tables : List TableRows) (definition : FeedDef) (feed : ℕ) (digest : List ℕ) (date : ℕ) → has_table (ids.Sat feed) tables ≡ false
    → attrs_read tables definition feed digest date ≡ []
absent_attrs tables definition feed digest date absent = by (length definition.attrs == 0)
  where
    by : (b : Bool) → (if b then [] else option_map_or (λ (row : SatRow). row.attrs) (valid_at (sat_rows_in feed tables) digest date) []) ≡ []
    by true = refl
    by false = ap (λ rows. option_map_or (λ (row : SatRow). row.attrs) (valid_at (sat_rows rows) digest date) []) (absent_rows (ids.Sat feed) tables absent)

pub parent_there : (mapping : Mapping) (parent : Parent) → is_declared mapping parent ≡ true → is_parent mapping parent ≡ true
parent_there mapping (Hub hub) e = e
parent_there mapping (Link link) e = e

-- a hub or a link that is a parent is in the mapping
pub hub_within : (mapping : Mapping) (parent : Parent) (hub : ℕ) → is_parent mapping parent ≡ true → parent ≡ Hub hub → hub < length mapping.hubs
hub_within mapping parent hub there is = ltb-true hub (length mapping.hubs) (ap (is_parent mapping) (sym is) ∙ there)

pub link_within : (mapping : Mapping) (parent : Parent) (link : ℕ) → is_parent mapping parent ≡ true → parent ≡ Link link → link < length mapping.links
link_within mapping parent link there is = ltb-true link (length mapping.links) (ap (is_parent mapping) (sym is) ∙ there)

-- the reference list of a hub's or a link's row that was found
pub refs_of_hub : (mapping : Mapping) (tables : List TableRows) (parent : Parent) (hub : ℕ) (digest : List ℕ) (rows : List HubRow) (found : Option (Bor Key)) (key : Bor Key) (refs : List Key)
    → parent ≡ Hub hub → rows ≡ hub_rows_in hub tables → option_map (λ key. key.now) found ≡ option_map (λ (row : HubRow). row.key) (hub_row_by rows digest) → found ≡ Some key → refs ≡ key.now ∷ []
    → Some refs ≡ refs_read mapping tables parent digest
refs_of_hub mapping tables parent hub digest rows found key refs parent_is rows_are found_is is refs_are =
    ap Some refs_are
    ∙ ap (option_map (λ (key : Bor Key). key.now ∷ [])) (sym is)
    ∙ sym (made_through (λ (key : Key). key ∷ []) (λ (row : HubRow). row.key) (λ (key : Bor Key). key.now) (hub_row_by rows digest) found found_is)
    ∙ ap (λ (rows : List HubRow). option_map (λ (row : HubRow). row.key ∷ []) (hub_row_by rows digest)) rows_are
    ∙ ap (λ p. refs_read mapping tables p digest) (sym parent_is)

pub refs_of_link : (mapping : Mapping) (tables : List TableRows) (parent : Parent) (link : ℕ) (digest : List ℕ) (rows : List LinkRow) (found : Option (Bor (List (List ℕ)))) (digests : Bor (List (List ℕ)))
    (hubs : List ℕ) (pointed : List (List ℕ)) (refs : List Key)
    → parent ≡ Link link → rows ≡ link_rows_in link tables → option_map (λ digests. digests.now) found ≡ option_map (λ (row : LinkRow). row.hubs) (link_row_by rows digest) → found ≡ Some digests
    → hubs ≡ parent_hubs mapping (Link link) → pointed ≡ digests.now → refs ≡ keys_read mapping tables hubs pointed
    → Some refs ≡ refs_read mapping tables parent digest
refs_of_link mapping tables parent link digest rows found digests hubs pointed refs parent_is rows_are found_is is hubs_are pointed_are refs_are =
    ap Some (refs_are ∙ ap (λ hubs. keys_read mapping tables hubs pointed) hubs_are ∙ ap (keys_read mapping tables (parent_hubs mapping (Link link))) pointed_are)
    ∙ ap (option_map (λ (digests : Bor (List (List ℕ))). keys_read mapping tables (parent_hubs mapping (Link link)) digests.now)) (sym is)
    ∙ sym (made_through (keys_read mapping tables (parent_hubs mapping (Link link))) (λ (row : LinkRow). row.hubs) (λ (digests : Bor (List (List ℕ))). digests.now) (link_row_by rows digest) found found_is)
    ∙ ap (λ (rows : List LinkRow). option_map (λ (row : LinkRow). keys_read mapping tables (parent_hubs mapping (Link link)) row.hubs) (link_row_by rows digest)) rows_are
    ∙ ap (λ p. refs_read mapping tables p digest) (sym parent_is)

-- what is made of what is told of each parent
pub each_told : {P A X Y : Type 0} (g : X → Y) (h : A → X) (F : P → Option X) (found : List (Option A)) (parents : List P) → map (option_map h) found ≡ map F parents
    → map (option_map (λ a. g (h a))) found ≡ map (λ p. option_map g (F p)) parents
each_told g h F found parents e =
    (λ i. map (λ o. seen-twice h g o i) found) ∙ sym (map-map (option_map g) (option_map h) found) ∙ ap (map (option_map g)) e ∙ map-map (option_map g) F parents

pub each_told_or : {P A X Y : Type 0} (g : X → Y) (h : A → X) (d : Y) (F : P → Option X) (found : List (Option A)) (parents : List P) → map (option_map h) found ≡ map F parents
    → map (λ o. option_map_or (λ a. g (h a)) o d) found ≡ map (λ p. option_map_or g (F p) d) parents
each_told_or g h d F found parents e =
    (λ i. map (λ o. or_twice g h o d i) found) ∙ sym (map-map (λ o. option_map_or g o d) (option_map h) found) ∙ ap (map (λ o. option_map_or g o d)) e ∙ map-map (λ o. option_map_or g o d) F parents

-- of each parent is told what is told of nothing
pub none_told : {P A X : Type 0} (f : A → X) (none : A) (G : P → X) (parents : List P) → ((p : P) → G p ≡ f none) → map f (replicate (length parents) none) ≡ map G parents
none_told f none G [] same = refl
none_told f none G (p ∷ parents) same = λ i. sym (same p) i ∷ none_told f none G parents same i

-- what is made of two things that are told of each parent
pub told_beside : {P A B X Y Z : Type 0} (make : Y → X → Z) (f : A → Option X) (g : B → Y) (F : P → Option X) (G : P → Y) (parents : List P) (found : List A) (valid : List B)
    → map f found ≡ map F parents → map g valid ≡ map G parents
    → filter_map (λ (row, one). option_map (make (g one)) (f row)) (zip found valid) ≡ filter_map (λ p. option_map (make (G p)) (F p)) parents
told_beside make f g F G [] [] valid e h = refl
told_beside make f g F G [] (a ∷ found) valid e h = cc
told_beside make f g F G (p ∷ parents) [] valid e h = cc
told_beside make f g F G (p ∷ parents) (a ∷ found) [] e h = cc
told_beside make f g F G (p ∷ parents) (a ∷ found) (b ∷ valid) e h =
    let here : f a ≡ F p = cc in
    let there : g b ≡ G p = cc in
    let found_rest : map f found ≡ map F parents = cc in
    let valid_rest : map g valid ≡ map G parents = cc in
    λ i. cons_option (option_map (make (there i)) (here i)) (told_beside make f g F G parents found valid found_rest valid_rest i)

-- the attributes of a parent, where the feed has none
pub no_attrs : (tables : List TableRows) (definition : FeedDef) (feed date : ℕ) (digest : List ℕ) → (length definition.attrs == 0) ≡ true → attrs_read tables definition feed digest date ≡ []
no_attrs tables definition feed date digest none = rw none refl

-- and where it has some
pub some_attrs : (tables : List TableRows) (definition : FeedDef) (feed date : ℕ) (rows : List SatRow) (digest : List ℕ) → (length definition.attrs == 0) ≡ false → rows ≡ sat_rows_in feed tables
    → option_map_or (λ (row : SatRow). row.attrs) (valid_at rows digest date) [] ≡ attrs_read tables definition feed digest date
some_attrs tables definition feed date rows digest some rows_are = rw some (ap (λ (rows : List SatRow). option_map_or (λ (row : SatRow). row.attrs) (valid_at rows digest date) []) rows_are)

-- the rows of parents by the rows of a hub or a link and of a satellite that were found
module _ (mapping : Mapping) (tables : List TableRows) (definition : FeedDef) (feed date : ℕ) (parents : List (List ℕ)) (valid : List (Option (Bor SatRow)))
    (valid_are : map valid_attrs valid ≡ map (λ parent. attrs_read tables definition feed parent date) parents) where
  pub key_rows_read : (hub : ℕ) (rows : List HubRow) (found : List (Option (Bor HubRow))) → definition.parent ≡ Hub hub → rows ≡ hub_rows_in hub tables
      → map (option_map (λ row. row.now)) found ≡ map (λ digest. hub_row_by rows digest) parents
      → filter_map (λ (row, valid). key_row row valid) (zip found valid) ≡ filter_map (row_read mapping tables definition feed date) parents
  key_rows_read hub rows found parent_is rows_are found_is =
      told_beside plain_row key_refs valid_attrs (refs_read mapping tables definition.parent) (λ parent. attrs_read tables definition feed parent date) parents found valid
      (each_told (λ (row : HubRow). row.key ∷ []) (λ (row : Bor HubRow). row.now) (hub_row_by rows) found parents found_is
      ∙ ap (λ (rows : List HubRow). map (λ parent. option_map (λ (row : HubRow). row.key ∷ []) (hub_row_by rows parent)) parents) rows_are
      ∙ ap (λ p. map (refs_read mapping tables p) parents) (sym parent_is))
      valid_are

  pub list_rows_read : (link : ℕ) (hubs : List ℕ) (rows : List LinkRow) (found : List (Option (Bor LinkRow))) → definition.parent ≡ Link link → rows ≡ link_rows_in link tables
      → hubs ≡ parent_hubs mapping (Link link) → map (option_map (λ row. row.now)) found ≡ map (λ digest. link_row_by rows digest) parents
      → filter_map (λ (row, valid). list_row mapping tables hubs row valid) (zip found valid) ≡ filter_map (row_read mapping tables definition feed date) parents
  list_rows_read link hubs rows found parent_is rows_are hubs_are found_is =
      told_beside plain_row (list_refs mapping tables hubs) valid_attrs (refs_read mapping tables definition.parent) (λ parent. attrs_read tables definition feed parent date) parents found valid
      (each_told (λ (row : LinkRow). keys_read mapping tables hubs row.hubs) (λ (row : Bor LinkRow). row.now) (link_row_by rows) found parents found_is
      ∙ ap (λ (rows : List LinkRow). map (λ parent. option_map (λ (row : LinkRow). keys_read mapping tables hubs row.hubs) (link_row_by rows parent)) parents) rows_are
      ∙ ap (λ hubs. map (λ parent. option_map (λ (row : LinkRow). keys_read mapping tables hubs row.hubs) (link_row_by (link_rows_in link tables) parent)) parents) hubs_are
      ∙ ap (λ p. map (refs_read mapping tables p) parents) (sym parent_is))
      valid_are

-- the rows of one parent more
pub rows_more : {X Y : Type 0} (h : X → Option Y) (xs : List X) (i : ℕ) (x : X) (made more : List Y) (row : Option Y) → i < length xs → x ≡ get_or xs i x
    → made ≡ filter_map h (take i xs) → row ≡ h x → more ≡ made ++ option_to_list row → more ≡ filter_map h (take (i + 1) xs)
rows_more h xs i x made more row under at made_are row_is more_are =
    more_are ∙ (λ i. made_are i ++ option_to_list (row_is i)) ∙ ap (λ x. filter_map h (take i xs) ++ option_to_list (h x)) at ∙ sym (filter_map_more h xs i x under)

-- the rows of one parent more, of which there may be several
pub all_more : {X Y : Type 0} (h : X → List Y) (xs : List X) (i : ℕ) (x : X) (made more row : List Y) → i < length xs → x ≡ get_or xs i x
    → made ≡ flat_map h (take i xs) → row ≡ h x → more ≡ made ++ row → more ≡ flat_map h (take (i + 1) xs)
all_more h xs i x made more row under at made_are row_is more_are =
    more_are ∙ (λ i. made_are i ++ row_is i) ∙ flat_map_more h [] (take i xs) x ∙ ap (λ x. flat_map h (take i xs ++ x ∷ [])) at ∙ ap (flat_map h) (sym (take_more xs i x under))

-- no rows of a parent, where there is no multi-active satellite
pub absent_rows_read : (mapping : Mapping) (tables : List TableRows) (definition : FeedDef) (feed date : ℕ) (digest : List ℕ) → has_table (ids.Multi feed) tables ≡ false
    → rows_read mapping tables definition feed date digest ≡ []
absent_rows_read mapping tables definition feed date digest absent = rw (absent_rows (ids.Multi feed) tables absent) (by (refs_read mapping tables definition.parent digest))
  where
    by : (found : Option (List Key)) → option_map_or (λ refs. map (described_row refs) []) found [] ≡ []
    by None = refl
    by (Some refs) = refl

-- the content of a feed of the mapping
pub content_by : (mapping : Mapping) (tables : List TableRows) (feed date : ℕ) (definition : FeedDef) (rows : List NRow) (parents : List (List ℕ)) (statuses : List StatusRow)
    → slice_get mapping.feeds feed ≡ Some definition → statuses ≡ status_rows_in feed tables → parents ≡ present_parents statuses date
    → rows ≡ parents_read mapping tables definition feed date parents → sorted_by row_cmp rows ≡ any_content_read mapping tables feed date
content_by mapping tables feed date definition rows parents statuses got statuses_are parents_are rows_are =
    ap (sorted_by row_cmp)
    (rows_are ∙ ap (parents_read mapping tables definition feed date) (parents_are ∙ ap (λ (rows : List StatusRow). present_parents rows date) statuses_are))
    ∙ by (length definition.sub == 0)
    ∙ ap (λ (found : Option FeedDef). any_content_read_by mapping tables found feed date) (sym got)
  where
    by : (plain : Bool)
        → sorted_by row_cmp (if plain then filter_map (row_read mapping tables definition feed date) (present_parents (status_rows_in feed tables) date)
        else flat_map (rows_read mapping tables definition feed date) (present_parents (status_rows_in feed tables) date))
        ≡ (if plain then content_read mapping tables feed date else multi_content_read mapping tables feed date)
    by true = ap (λ (found : Option FeedDef). content_read_by mapping tables found feed date) (sym got)
    by false = ap (λ (found : Option FeedDef). multi_content_read_by mapping tables found feed date) (sym got)

-- it is the feed's mart, where the vault has sealed windows
pub mart_read : (hashes : Hashes) (sealed : List Window) (raw : RawVault) → HasSealed hashes sealed raw → is_valid raw.mapping ≡ true → (feed date : ℕ)
    → any_content_read raw.mapping raw.tables feed date ≡ feed_mart sealed feed date
mart_read hashes sealed raw has valid feed date =
    ap (λ (tables : List TableRows). any_content_read raw.mapping tables feed date) has.tables_are ∙ vault_tells raw.mapping hashes sealed valid has.valid feed date

-- ---- the keys that stand for missing references

-- the missing key of one hub more
pub missing_more : (mapping : Mapping) (hub : ℕ) (keys more : List Key) (key : Key) → keys ≡ map (missing_key mapping) (range_with_len 0 hub) → key ≡ missing_key mapping hub
    → more ≡ keys ++ key ∷ [] → more ≡ map (missing_key mapping) (range_with_len 0 (hub + 1))
missing_more mapping hub keys more key keys_are key_is more_are =
    more_are ∙ (λ i. keys_are i ++ key_is i ∷ []) ∙ sym (map-range_with_len_more (missing_key mapping) 0 hub hub (omega arith))

-- the missing key at a hub's place
pub missing_at : (mapping : Mapping) (hub : ℕ) (keys : List Key) (other : Key) → keys ≡ missing_keys mapping → hub < length mapping.hubs → get_or keys hub other ≡ missing_key mapping hub
missing_at mapping hub keys other are under =
    ap (λ keys. get_or keys hub other) are ∙ get_or-map-range_with_len (missing_key mapping) 0 (length mapping.hubs) hub hub other under (omega arith)

pub missing_count : (mapping : Mapping) (keys : List Key) → keys ≡ missing_keys mapping → length keys ≡ length mapping.hubs
missing_count mapping keys are = ap length are ∙ length-map-range_with_len (missing_key mapping) 0 (length mapping.hubs)
