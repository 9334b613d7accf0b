-- An outline whose mapping is valid has its form, and no check refuses it.
use Rattle.dv_shown.proofs.Vocabulary.{Bool, Contains, Contains-append_cases, Contains-cons_cases, Contains-cons_here, Contains-cons_there, Contains-get_or, Contains-map, Contains-nil, FeedOutline, Hub, HubOutline, Link, LinkOutline, List, MapError, None, Option, Outline, ParentName, PathOutline}
use Rattle.dv_shown.proofs.Vocabulary.{Some, ValidFeed, ValidHub, ValidLink, ValidPath, [], again, again_after, all_pass, and_from, and_parts, ap, are_joined_by, are_some_places, arith, bytes_eq, bytes_eq-Decides, columns_fit, common_steps, eq-eqb, eqb-true, false, feed_def, feed_place}
use Rattle.dv_shown.proofs.Vocabulary.{filter_map, filter_map_member, find, find_none, first_of, flat_map, flat_map_member, found_member, get_or, get_or-range_with_len, has_column_form, has_name_form, has_number, has_shape, hub_def, hub_place, hubs_of_parent, if◌then◌else◌, inl, inr, is_among}
use Rattle.dv_shown.proofs.Vocabulary.{is_declared, is_hub, is_link, is_link_feed, is_none, is_of_link, is_place_of_step, is_some, is_step, is_valid, is_within, le-leb, length, length-map, length-range_with_len, link_def, link_place, list_all, list_any, list_any-append, list_any-map, ltb-true}
use Rattle.dv_shown.proofs.Vocabulary.{map, map-append, map-map, map_member, mapping_of, most_columns, most_ignored, most_parts, most_references, most_steps, nat_eq, nat_lt, nat_tests, none_from, none_pass, not, not-true, number_twice, option_and_then, option_map, option_map_or, option_or}
use Rattle.dv_shown.proofs.Vocabulary.{or_none, or_parts, parent_def, passes_at, passes_at_place, path_def, place_under, places_of_step, position_or_len, range_with_len, reference_place, refl, rules, same_place, slice_get, slice_get_read, some_passes, some_passes_at, subst, suc, sym, text_twice}
use Rattle.dv_shown.proofs.Vocabulary.{true, valid_feed, valid_hub, valid_link, valid_parts, valid_path, zero, ℕ, ◌&&◌, ◌++◌, ◌+◌, ◌<◌, ◌==◌, ◌||◌, ◌∙◌, ◌∷◌, ◌≡◌, ◌≤◌, ◌⊎◌}
use Rattle.dv_catalog.specs.Checks as spec

-- ---- tests

both_none : {R : Type 0} (a b : Option R) → a ≡ None → b ≡ None → option_or a b ≡ None
both_none a b e f = rw (e, f) refl

unless_described : (a b : Bool) → (a || not b) ≡ true → (not a && b) ≡ false
unless_described a b h1 = search (rules, not-true)

alone : (a b c : Bool) → (a || (b && c)) ≡ true → (not a && not c) ≡ false
alone a b c h1 = search (rules, and_parts)

first_of_map : {X R : Type 0} (f : X → Option R) (xs : List X) → ((x : X) → Contains xs x → f x ≡ None) → first_of (map f xs) ≡ None
first_of_map f [] none = refl
first_of_map f (x ∷ xs) none = both_none (f x) (first_of (map f xs)) (none x (Contains-cons_here x xs)) (first_of_map f xs (λ y has. none y (Contains-cons_there x xs y has)))

-- a place under the end is one of an item that passes
some_at_place : {X : Type 0} (p : X → Bool) (xs : List X) → position_or_len p xs < length xs → list_any p xs ≡ true
some_at_place p [] under = absurd (omega (arith, under))
some_at_place p (x ∷ xs) under =
    let found = Contains-get_or (x ∷ xs) (position_or_len p (x ∷ xs)) x under in
    let passes = passes_at_place p (x ∷ xs) x under in
    grind (arith, common_steps, some_passes_at p (x ∷ xs) (get_or (x ∷ xs) (position_or_len p (x ∷ xs)) x) found passes, found, passes)

-- an entry of a mapping, by the place of what it is made of
entry : {X Y : Type 0} (f : X → Y) (xs : List X) (x : X) → Contains xs x → (k : ℕ) × (slice_get (map f xs) k ≡ Some (f x))
entry f xs x has = let (k, under, there) = Contains-map f xs x has in (k, slice_get_read (map f xs) (length (map f xs)) k (f x) refl under (sym there))

below : (n k : ℕ) → Contains (range_with_len 0 n) k → k < n
below n k (i, under, there) = search (rules, length-range_with_len, get_or-range_with_len)

-- ---- what stands once

-- items whose places stand once stand once
once_before : {X Y : Type 0} (eq : X → X → Bool) (same : Y → Y → Bool) (f : X → Y) → ((a b : X) → eq a b ≡ true → same (f a) (f b) ≡ true)
    → (before xs : List X) → again_after same (map f before) (map f xs) ≡ None → again_after eq before xs ≡ None
once_before eq same f keeps before [] once = refl
once_before {X} eq same f keeps before (x ∷ xs) once =
    let (first, rest) = or_none (again same (map f before) (f x)) _ once in
    by first (once_before eq same f keeps (before ++ x ∷ []) xs (rw (map-append f before (x ∷ [])) rest)) (list_any (λ y. eq y x) before) refl
  where
    seen : list_any (λ y. eq y x) before ≡ true → list_any (λ y. same y (f x)) (map f before) ≡ true
    seen e =
        let (y, has, equal) = some_passes (λ y. eq y x) before e in
        some_passes_at (λ y. same y (f x)) (map f before) (f y) (Contains-map f before y has) (keeps y x equal)

    by : again same (map f before) (f x) ≡ None → again_after eq (before ++ x ∷ []) xs ≡ None → (b : Bool) → list_any (λ y. eq y x) before ≡ b → again_after eq before (x ∷ xs) ≡ None
    by first later true e = let no : Some (f x) ≡ None = rw (seen e) at first in cc
    by first later false e = rw e later

names_once : (place : List ℕ → ℕ) (names : List (List ℕ)) → number_twice (map place names) ≡ None → text_twice names ≡ None
names_once place names once = once_before bytes_eq nat_eq place (λ a b e. eq-eqb _ _ (ap place ((bytes_eq-Decides a b).0 e))) [] names once

-- links of names that stand once, and of hubs that do
links_again : (before links : List LinkOutline) → again_after bytes_eq (map (λ link. link.name) before) (map (λ link. link.name) links) ≡ None
    → ((link : LinkOutline) → Contains links link → text_twice link.hubs ≡ None) → spec.again_in_links before links ≡ None
links_again before [] once hubs = refl
links_again before (link ∷ links) once hubs =
    let (first, rest) = or_none (again bytes_eq (map (λ link. link.name) before) link.name) _ once in
    both_none _ _ (both_none _ _ (named first (list_any (λ other. bytes_eq other.name link.name) before) refl) (hubs link (Contains-cons_here link links)))
    (links_again (before ++ link ∷ []) links (rw (map-append (λ link. link.name) before (link ∷ [])) rest) (λ other has. hubs other (Contains-cons_there link links other has)))
  where
    named : again bytes_eq (map (λ link. link.name) before) link.name ≡ None → (b : Bool) → list_any (λ other. bytes_eq other.name link.name) before ≡ b
        → (if list_any (λ other. bytes_eq other.name link.name) before then Some link.name else None) ≡ None
    named first true e = let no : Some link.name ≡ None = rw (list_any-map (λ y. bytes_eq y link.name) (λ link. link.name) before, e) at first in cc
    named first false e = rw e refl

-- of texts that stand once none stands before
own_place : (before texts : List (List ℕ)) → again_after bytes_eq before texts ≡ None → (k : ℕ) (text d : List ℕ) → k < length texts → get_or texts k d ≡ text
    → list_any (λ t. bytes_eq t text) before ≡ false
own_place before [] once k text d under at = absurd (omega (arith, under))
own_place before (t ∷ texts) once zero text d under at = search (rules, or_none)
own_place before (t ∷ texts) once (suc k) text d under at =
    let later = own_place (before ++ t ∷ []) texts (or_none _ _ once).1 k text d (omega (arith, under)) at in
    (or_parts _ _ (sym (list_any-append (λ y. bytes_eq y text) before (t ∷ [])) ∙ later)).0

-- and each is found at its own place
place_own : (before texts : List (List ℕ)) → again_after bytes_eq before texts ≡ None → (k : ℕ) (d : List ℕ) → k < length texts
    → position_or_len (λ t. bytes_eq t (get_or texts k d)) texts ≡ k
place_own before [] once k d under = absurd (omega (arith, under))
place_own before (t ∷ texts) once zero d under = rw ((bytes_eq-Decides t t).1 refl) refl
place_own before (t ∷ texts) once (suc k) d under =
    let text = get_or texts k d in
    let rest : again_after bytes_eq (before ++ t ∷ []) texts ≡ None = (or_none (again bytes_eq before t) _ once).1 in
    let low : k < length texts = omega (arith, under) in
    let none : list_any (λ y. bytes_eq y text) (before ++ t ∷ []) ≡ false = own_place (before ++ t ∷ []) texts rest k text d low refl in
    let parts = or_parts (list_any (λ y. bytes_eq y text) before) _ (sym (list_any-append (λ y. bytes_eq y text) before (t ∷ [])) ∙ none) in
    let apart : bytes_eq t text ≡ false = (or_parts (bytes_eq t text) false parts.1).0 in
    let next : 1 + k ≡ suc k = omega arith in
    let same : position_or_len (λ y. bytes_eq y text) texts ≡ k = place_own (before ++ t ∷ []) texts rest k d low in
    rw apart (ap (λ n. 1 + n) same ∙ next)

-- some places of references are some hubs
some_hubs : (hubs driver : List (List ℕ)) → text_twice hubs ≡ None → are_some_places (length hubs) (map (reference_place hubs) driver) ≡ true → spec.are_some_hubs hubs driver ≡ true
some_hubs hubs driver hubs_once e =
    let (front, missing) = and_parts (list_all (λ place. nat_lt place (length hubs)) (map (reference_place hubs) driver) && is_none (number_twice (map (reference_place hubs) driver))) (not (list_all (has_number (map (reference_place hubs) driver)) (range_with_len 0 (length hubs)))) e in
    let (under, once) = and_parts (list_all (λ place. nat_lt place (length hubs)) (map (reference_place hubs) driver)) (is_none (number_twice (map (reference_place hubs) driver))) front in
    and_from _ _
    (and_from _ _ (all_pass (is_among hubs) driver (λ name has. among name (passes_at (λ place. nat_lt place (length hubs)) (map (reference_place hubs) driver) (reference_place hubs name) under (Contains-map (reference_place hubs) driver name has))))
    (ap is_none (names_once (reference_place hubs) driver (none_from (number_twice (map (reference_place hubs) driver)) once))))
    (not_all (list_all (λ hub. is_among driver hub) hubs) refl (not-true _ missing))
  where
    among : (name : List ℕ) → nat_lt (reference_place hubs name) (length hubs) ≡ true → is_among hubs name ≡ true
    among name under = some_at_place (λ hub. bytes_eq hub name) hubs (ltb-true _ _ under)

    driving : list_all (λ hub. is_among driver hub) hubs ≡ true → (k : ℕ) → Contains (range_with_len 0 (length hubs)) k → has_number (map (reference_place hubs) driver) k ≡ true
    driving all k has =
        let under : k < length hubs = below (length hubs) k has in
        let hub = get_or hubs k [] in
        let (name, member, same) = some_passes (λ t. bytes_eq t hub) driver (passes_at (λ hub. is_among driver hub) hubs hub all (Contains-get_or hubs k [] under)) in
        let is : name ≡ hub = (bytes_eq-Decides name hub).0 same in
        some_passes_at (λ n. n == k) (map (reference_place hubs) driver) (reference_place hubs name) (Contains-map (reference_place hubs) driver name member)
        (eq-eqb _ _ (ap (reference_place hubs) is ∙ place_own [] hubs hubs_once k [] under))

    not_all : (b : Bool) → list_all (λ hub. is_among driver hub) hubs ≡ b → list_all (has_number (map (reference_place hubs) driver)) (range_with_len 0 (length hubs)) ≡ false → not (list_all (λ hub. is_among driver hub) hubs) ≡ true
    not_all true all none = let no : true ≡ false = sym (all_pass (has_number (map (reference_place hubs) driver)) (range_with_len 0 (length hubs)) (driving all)) ∙ none in cc
    not_all false some none = ap not some

-- ---- an outline whose mapping is valid

module _ (o : Outline) (v : is_valid (mapping_of o) ≡ true) where
  hub_at : (hub : HubOutline) → Contains o.hubs hub → ValidHub (hub_def hub)
  hub_at hub has = let (k, got) = entry hub_def o.hubs hub has in valid_hub (mapping_of o) v k (hub_def hub) got

  link_at : (link : LinkOutline) → Contains o.links link → ValidLink (mapping_of o) (link_def o.hubs link)
  link_at link has = let (k, got) = entry (link_def o.hubs) o.links link has in valid_link (mapping_of o) v k (link_def o.hubs link) got

  feed_at : (feed : FeedOutline) → Contains o.feeds feed → ValidFeed (mapping_of o) (feed_def o.hubs o.links feed)
  feed_at feed has = let (k, got) = entry (feed_def o.hubs o.links) o.feeds feed has in valid_feed (mapping_of o) v k (feed_def o.hubs o.links feed) got

  path_at : (path : PathOutline) → Contains o.paths path → ValidPath (mapping_of o) (path_def o.hubs o.feeds path)
  path_at path has = let (k, got) = entry (path_def o.hubs o.feeds) o.paths path has in valid_path (mapping_of o) v k (path_def o.hubs o.feeds path) got

  -- names stand once
  apart : {X Y : Type 0} (name_of : Y → List ℕ) (f : X → Y) (xs : List X) → is_none (text_twice (map name_of (map f xs))) ≡ true → text_twice (map (λ x. name_of (f x)) xs) ≡ None
  apart name_of f xs e = ap text_twice (sym (map-map name_of f xs)) ∙ none_from _ e

  references_once : (link : LinkOutline) → Contains o.links link → text_twice link.hubs ≡ None
  references_once link has = names_once (hub_place o.hubs) link.hubs (link_at link has).apart

  not_again : spec.first_again o ≡ None
  not_again =
      let parts = valid_parts (mapping_of o) v in
      both_none _ _ (apart (λ hub. hub.name) hub_def o.hubs parts.hubs_apart)
      (both_none _ _ (links_again [] o.links (apart (λ link. link.name) (link_def o.hubs) o.links parts.links_apart) references_once)
      (both_none _ _ (apart (λ feed. feed.name) (feed_def o.hubs o.links) o.feeds parts.feeds_apart)
      (both_none _ _ (apart (λ path. path.name) (path_def o.hubs o.feeds) o.paths parts.paths_apart) refl)))

  -- what has a place is declared
  declared_hub : (name : List ℕ) → is_hub (mapping_of o) (hub_place o.hubs name) ≡ true → spec.is_hub o name ≡ true
  declared_hub name e = some_at_place (λ hub. bytes_eq hub.name name) o.hubs (ltb-true _ _ (rw (length-map o.hubs hub_def) at e))

  declared_link : (name : List ℕ) → is_link (mapping_of o) (link_place o.links name) ≡ true → spec.is_link o name ≡ true
  declared_link name e = some_at_place (λ link. bytes_eq link.name name) o.links (ltb-true _ _ (rw (length-map o.links (link_def o.hubs)) at e))

  reference_declared : (link : LinkOutline) → Contains o.links link → (name : List ℕ) → Contains link.hubs name → spec.is_hub o name ≡ true
  reference_declared link has name within =
      declared_hub name (passes_at (is_hub (mapping_of o)) (map (hub_place o.hubs) link.hubs) (hub_place o.hubs name) (link_at link has).in_range (Contains-map (hub_place o.hubs) link.hubs name within))

  hubs_known : (name : List ℕ) → Contains (spec.named_hubs o) name → not (spec.is_hub o name) ≡ false
  hubs_known name has =
      elim (Contains-append_cases (flat_map (λ link. link.hubs) o.links) (filter_map (λ feed. spec.parent_hub feed.parent) o.feeds) name has) [
        | inl of_link ↦ let (link, member, within) = flat_map_member (λ link. link.hubs) o.links name of_link in ap not (reference_declared link member name within)
        | inr of_feed ↦ let (feed, member, is) = filter_map_member (λ feed. spec.parent_hub feed.parent) o.feeds name of_feed in ap not (by feed.parent is (feed_at feed member).declared)
      ]
    where
      by : (parent : ParentName) → spec.parent_hub parent ≡ Some name → is_declared (mapping_of o) (parent_def o.hubs o.links parent) ≡ true → spec.is_hub o name ≡ true
      by (Hub hub) is e = let named : Some hub ≡ Some name = is in let same : hub ≡ name = cc in declared_hub name (subst (λ n. is_hub (mapping_of o) (hub_place o.hubs n) ≡ true) same e)
      by (Link link) is e = let no : None ≡ Some name = is in cc

  links_known : (name : List ℕ) → Contains (spec.named_links o) name → not (spec.is_link o name) ≡ false
  links_known name has = let (feed, member, is) = filter_map_member (λ feed. spec.parent_link feed.parent) o.feeds name has in ap not (by feed.parent is (feed_at feed member).declared)
    where
      by : (parent : ParentName) → spec.parent_link parent ≡ Some name → is_declared (mapping_of o) (parent_def o.hubs o.links parent) ≡ true → spec.is_link o name ≡ true
      by (Hub hub) is e = let no : None ≡ Some name = is in cc
      by (Link link) is e = let named : Some link ≡ Some name = is in let same : link ≡ name = cc in declared_link name (subst (λ n. is_link (mapping_of o) (link_place o.links n) ≡ true) same e)

  -- key columns fit
  as_many : (feed : FeedOutline) → Contains o.feeds feed → length feed.keys ≡ length (spec.reference_hubs o.links feed.parent)
  as_many feed has = (feed_at feed has).as_many_keys ∙ ap length (hubs_of_parent o feed.parent) ∙ length-map (spec.reference_hubs o.links feed.parent) (hub_place o.hubs)

  keys_fit : (feed : FeedOutline) → Contains o.feeds feed → not (spec.keys_fit o feed) ≡ false
  keys_fit feed has =
      let refs = spec.reference_hubs o.links feed.parent in
      ap not (and_from _ _ (eq-eqb _ _ (as_many feed has)) (sym (columns_fit o.hubs feed.keys refs) ∙ (rw (hubs_of_parent o feed.parent) at (feed_at feed has).parts)))

  has_two : (link : LinkOutline) → Contains o.links link → nat_lt (length link.hubs) 2 ≡ false
  has_two link has = grind (arith, common_steps, link_at link has)

  columns_once : (feed : FeedOutline) → Contains o.feeds feed → spec.column_again feed ≡ None
  columns_once feed has = ap (option_map _) (feed_at feed has).apart

  sub_described : (feed : FeedOutline) → Contains o.feeds feed → (not (length feed.sub == 0) && (length feed.attrs == 0)) ≡ false
  sub_described feed has = unless_described (length feed.sub == 0) (length feed.attrs == 0) (feed_at feed has).described

  -- driving keys
  driver_of : (feed : FeedOutline) → Contains o.feeds feed
      → ((length feed.driver == 0) || ((is_of_link (parent_def o.hubs o.links feed.parent) && are_some_places (length feed.keys) (map (reference_place (spec.reference_hubs o.links feed.parent)) feed.driver)) && (length feed.sub == 0))) ≡ true
  driver_of feed has = rw (length-map feed.driver (reference_place (spec.reference_hubs o.links feed.parent))) at (feed_at feed has).driver

  link_hubs_once : (name : List ℕ) → text_twice (spec.link_hub_names o.links name) ≡ None
  link_hubs_once name = search (rules, references_once, found_member)

  driven : (feed : FeedOutline) → Contains o.feeds feed → (not (length feed.driver == 0) && not (spec.driver_in_link o.links feed.parent feed.driver)) ≡ false
  driven feed has = by (length feed.driver == 0) (driver_of feed has)
    where
      of_parent : (parent : ParentName) → length feed.keys ≡ length (spec.reference_hubs o.links parent)
          → (is_of_link (parent_def o.hubs o.links parent) && are_some_places (length feed.keys) (map (reference_place (spec.reference_hubs o.links parent)) feed.driver)) ≡ true → spec.driver_in_link o.links parent feed.driver ≡ true
      of_parent (Hub name) many e = let no : false ≡ true = e in cc
      of_parent (Link name) many e = some_hubs (spec.link_hub_names o.links name) feed.driver (link_hubs_once name) (subst (λ n. are_some_places n (map (reference_place (spec.link_hub_names o.links name)) feed.driver) ≡ true) many e)

      by : (b : Bool)
          → (b || ((is_of_link (parent_def o.hubs o.links feed.parent) && are_some_places (length feed.keys) (map (reference_place (spec.reference_hubs o.links feed.parent)) feed.driver)) && (length feed.sub == 0))) ≡ true
          → (not b && not (spec.driver_in_link o.links feed.parent feed.driver)) ≡ false
      by true e = refl
      by false e = ap not (of_parent feed.parent (as_many feed has) (and_parts _ (length feed.sub == 0) e).0)

  driver_alone : (feed : FeedOutline) → Contains o.feeds feed → (not (length feed.driver == 0) && not (length feed.sub == 0)) ≡ false
  driver_alone feed has = alone (length feed.driver == 0) _ (length feed.sub == 0) (driver_of feed has)

  -- paths are joined
  step_declared : (feed : List ℕ) (hubs : List (List ℕ)) → spec.step_hubs o feed ≡ Some hubs → (name : List ℕ) → Contains hubs name → spec.is_hub o name ≡ true
  step_declared feed hubs is name has = by_feed (find (λ f. bytes_eq f.name feed) o.feeds) is
    where
      of_link : (link : List ℕ) → Contains (spec.link_hub_names o.links link) name → spec.is_hub o name ≡ true
      of_link link within = by (find (λ l. bytes_eq l.name link) o.links) refl within
        where
          by : (found : Option LinkOutline) → find (λ l. bytes_eq l.name link) o.links ≡ found → Contains (option_map_or (λ l. l.hubs) found []) name → spec.is_hub o name ≡ true
          by None is within = Contains-nil name within
          by (Some l) is within = reference_declared l (found_member (λ l. bytes_eq l.name link) o.links l is).0 name within

      of_parent : (parent : ParentName) → option_map (λ link. spec.link_hub_names o.links link) (spec.parent_link parent) ≡ Some hubs → spec.is_hub o name ≡ true
      of_parent (Hub hub) e = let no : None ≡ Some hubs = e in cc
      of_parent (Link link) e =
          let named : Some (spec.link_hub_names o.links link) ≡ Some hubs = e in
          let same : spec.link_hub_names o.links link ≡ hubs = cc in
          of_link link (subst (λ xs. Contains xs name) (sym same) has)

      by_feed : (found : Option FeedOutline) → option_and_then (λ f. option_map (λ link. spec.link_hub_names o.links link) (spec.parent_link f.parent)) found ≡ Some hubs → spec.is_hub o name ≡ true
      by_feed None e = let no : None ≡ Some hubs = e in cc
      by_feed (Some f) e = of_parent f.parent e

  hub_of_step : (hub feed : List ℕ) → is_place_of_step (mapping_of o) (hub_place o.hubs hub) (feed_place o.feeds feed) ≡ true → spec.is_hub_of_step o hub feed ≡ true
  hub_of_step hub feed e = by (spec.step_hubs o feed) refl (sym (places_of_step o (hub_place o.hubs hub) feed) ∙ e)
    where
      by : (found : Option (List (List ℕ))) → spec.step_hubs o feed ≡ found → option_map_or (λ hubs. has_number (map (hub_place o.hubs) hubs) (hub_place o.hubs hub)) found false ≡ true
          → option_map_or (λ hubs. is_among hubs hub) (spec.step_hubs o feed) false ≡ true
      by None is e = let no : false ≡ true = e in cc
      by (Some hubs) is e =
          let (place, among, same) = some_passes (λ n. n == hub_place o.hubs hub) (map (hub_place o.hubs) hubs) e in
          let (name, member, at) = map_member (hub_place o.hubs) hubs place among in
          let known = step_declared feed hubs is name member in
          let one : hub_place o.hubs name ≡ hub_place o.hubs hub = at ∙ eqb-true place (hub_place o.hubs hub) same in
          let there : spec.is_hub o hub ≡ true = some_at_place (λ h. bytes_eq h.name hub) o.hubs (subst (λ n. n < length o.hubs) one (place_under (λ h. bytes_eq h.name name) o.hubs known)) in
          let is_one : name ≡ hub = same_place (λ h. h.name) o.hubs name hub known there one in
          rw is (some_passes_at (λ t. bytes_eq t hub) hubs name member ((bytes_eq-Decides name hub).1 is_one))

  joined : (feeds via : List (List ℕ)) → are_joined_by (mapping_of o) (map (feed_place o.feeds) feeds) (map (hub_place o.hubs) via) ≡ true → spec.are_joined o feeds via ≡ true
  joined [] via e = refl
  joined (feed ∷ []) via e = refl
  joined (feed ∷ next ∷ feeds) [] e = refl
  joined (feed ∷ next ∷ feeds) (hub ∷ via) e =
      let (ends, rest) = and_parts (is_place_of_step (mapping_of o) (hub_place o.hubs hub) (feed_place o.feeds feed) && is_place_of_step (mapping_of o) (hub_place o.hubs hub) (feed_place o.feeds next)) _ e in
      let (one, other) = and_parts (is_place_of_step (mapping_of o) (hub_place o.hubs hub) (feed_place o.feeds feed)) _ ends in
      and_from _ _ (and_from _ _ (hub_of_step hub feed one) (hub_of_step hub next other)) (joined (next ∷ feeds) via rest)

  path_whole : (path : PathOutline) → Contains o.paths path → not (spec.is_path o path) ≡ false
  path_whole path has =
      let ok = path_at path has in
      let some : 1 ≤ length path.feeds = rw (length-map path.feeds (feed_place o.feeds)) at ok.some_feeds in
      let not_none : not (length path.feeds == 0) ≡ true = grind (arith, nat_tests, some) in
      let passes = λ (feed : List ℕ) (among : Contains path.feeds feed).
      passes_at (λ f. is_link_feed (slice_get (mapping_of o).feeds f)) (map (feed_place o.feeds) path.feeds) (feed_place o.feeds feed) ok.of_links (Contains-map (feed_place o.feeds) path.feeds feed among) in
      let delivers : list_all (λ feed. is_some (spec.step_hubs o feed)) path.feeds ≡ true = all_pass _ path.feeds (λ feed among. sym (is_step o feed) ∙ passes feed among) in
      let one_less : length path.via + 1 ≡ length path.feeds = rw (length-map path.via (hub_place o.hubs), length-map path.feeds (feed_place o.feeds)) at ok.one_less in
      ap not (and_from _ _ (and_from _ _ (and_from _ _ not_none delivers) (eq-eqb _ _ one_less)) (joined path.feeds path.via ok.joined))

  -- limits are kept
  within : (n most : ℕ) → n ≤ most → nat_lt most n ≡ false
  within n most few = grind (arith, nat_tests, few)

  not_over : spec.first_over o ≡ None
  not_over =
      let parts = valid_parts (mapping_of o) v in
      let hubs = within (length o.hubs) 32 (rw (length-map o.hubs hub_def) at parts.few_hubs) in
      let links = within (length o.links) 32 (rw (length-map o.links (link_def o.hubs)) at parts.few_links) in
      let feeds = within (length o.feeds) 64 (rw (length-map o.feeds (feed_def o.hubs o.links)) at parts.few_feeds) in
      let paths = within (length o.paths) 16 (rw (length-map o.paths (path_def o.hubs o.feeds)) at parts.few_paths) in
      let references = none_pass (λ link. nat_lt most_references (length link.hubs)) o.links (λ link has. within (length link.hubs) 4 (rw (length-map link.hubs (hub_place o.hubs)) at (link_at link has).few_hubs)) in
      let columns = none_pass (λ feed. nat_lt most_columns (spec.mapped_count feed.keys feed.sub feed.attrs)) o.feeds (λ feed has. within (spec.mapped_count feed.keys feed.sub feed.attrs) 32 (feed_at feed has).few_columns) in
      let ignored = none_pass (λ feed. nat_lt most_ignored (length feed.ignore)) o.feeds (λ feed has. within (length feed.ignore) 64 (feed_at feed has).few_ignored) in
      let steps = none_pass (λ path. nat_lt most_steps (length path.feeds)) o.paths (λ path has. within (length path.feeds) 4 (rw (length-map path.feeds (feed_place o.feeds)) at (path_at path has).few_feeds)) in
      rw (hubs, links, feeds, paths, references, columns, ignored, steps) refl

  -- names have their form
  formed : (name : List ℕ) → Contains (spec.all_names o) name → not (has_name_form name) ≡ false
  formed name has = ap not (by (Contains-append_cases (map (λ hub. hub.name) o.hubs ++ map (λ link. link.name) o.links ++ flat_map (λ feed. feed.name ∷ feed.source ∷ []) o.feeds) (map (λ path. path.name) o.paths) name has))
    where
      of_feed : (feed : FeedOutline) → Contains o.feeds feed → Contains (feed.name ∷ feed.source ∷ []) name → has_name_form name ≡ true
      of_feed feed member within =
          elim (Contains-cons_cases feed.name (feed.source ∷ []) name within) [
            | inl is ↦ ap has_name_form (sym is) ∙ (feed_at feed member).named
            | inr more ↦ elim (Contains-cons_cases feed.source [] name more) [ inl is ↦ ap has_name_form (sym is) ∙ (feed_at feed member).sourced | inr none ↦ Contains-nil name none ]
          ]

      by : Contains (map (λ hub. hub.name) o.hubs ++ map (λ link. link.name) o.links ++ flat_map (λ feed. feed.name ∷ feed.source ∷ []) o.feeds) name ⊎ Contains (map (λ path. path.name) o.paths) name → has_name_form name ≡ true
      by (inr in_paths) = let (path, member, is) = map_member (λ path. path.name) o.paths name in_paths in ap has_name_form (sym is) ∙ (path_at path member).named
      by (inl front) =
          elim (Contains-append_cases (map (λ hub. hub.name) o.hubs ++ map (λ link. link.name) o.links) (flat_map (λ feed. feed.name ∷ feed.source ∷ []) o.feeds) name front) [
            | inr in_feeds ↦ let (feed, member, within) = flat_map_member (λ feed. feed.name ∷ feed.source ∷ []) o.feeds name in_feeds in of_feed feed member within
            | inl fore ↦ elim (Contains-append_cases (map (λ hub. hub.name) o.hubs) (map (λ link. link.name) o.links) name fore) [
              | inl in_hubs ↦ let (hub, member, is) = map_member (λ hub. hub.name) o.hubs name in_hubs in ap has_name_form (sym is) ∙ (hub_at hub member).named
              | inr in_links ↦ let (link, member, is) = map_member (λ link. link.name) o.links name in_links in ap has_name_form (sym is) ∙ (link_at link member).named
            ]
          ]

  none_left : {X : Type 0} (p : X → Bool) (xs : List X) (f : X → MapError) → ((x : X) → Contains xs x → p x ≡ false) → option_map f (find p xs) ≡ None
  none_left p xs f fails = ap (option_map f) (find_none p xs fails)

  pub no_fault : spec.fault_of o ≡ None
  no_fault =
      both_none _ _ (ap (option_map _) not_again)
      (both_none _ _ (none_left _ (spec.named_hubs o) _ hubs_known)
      (both_none _ _ (none_left _ (spec.named_links o) _ links_known)
      (both_none _ _ (none_left _ o.feeds _ keys_fit)
      (both_none _ _ (none_left _ o.links _ has_two)
      (both_none _ _ (first_of_map spec.column_again o.feeds columns_once)
      (both_none _ _ (none_left _ o.feeds _ sub_described)
      (both_none _ _ (none_left _ o.feeds _ driven)
      (both_none _ _ (none_left _ o.feeds _ driver_alone)
      (both_none _ _ (none_left _ o.paths _ path_whole)
      (both_none _ _ (ap (option_map _) not_over)
      (both_none _ _ (none_left _ (spec.all_names o) _ formed) refl)))))))))))

  pub has_form : has_shape o ≡ true
  has_form =
      and_from _ _
      (all_pass (λ hub. is_within 1 most_parts hub.parts) o.hubs (λ hub has. let ok = hub_at hub has in and_from _ _ (le-leb _ _ ok.some_parts) (le-leb _ _ ok.few_parts)))
      (all_pass (λ feed. list_all has_column_form (spec.all_columns feed.keys feed.sub feed.attrs feed.ignore)) o.feeds (λ feed has. (feed_at feed has).formed))
