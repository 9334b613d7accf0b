-- The mapping of an outline without a fault has valid entries.
use Rattle.dv_checks.proofs.Vocabulary.{Bool, Contains, Contains-append_left, Contains-append_right, Contains-cons_cases, Contains-cons_here, Contains-cons_there, Contains-flat_map, Contains-map, Contains-nil, Contains-range, FeedOutline, Hub, HubOutline, Link, LinkOutline, List, None, Option}
use Rattle.dv_checks.proofs.Vocabulary.{Outline, ParentName, PathOutline, Some, [], all_pass, and_from, and_parts, ap, are_some_places, arith, bytes_eq, bytes_eq-Decides, eqb-true, false, feed_def, feed_place, first_of, flat_map, has_column_form, has_name_form, has_number, has_shape, hub_def}
use Rattle.dv_checks.proofs.Vocabulary.{hub_place, inl, inr, is_among, is_declared, is_hub, is_link, is_link_feed, is_none, is_of_link, is_some, is_valid_driver, is_valid_feed, is_valid_hub, is_valid_link, is_valid_path, is_within, keys_fit_hubs, length, length-map, link_def, link_place}
use Rattle.dv_checks.proofs.Vocabulary.{list_all, list_all-map, lt-ltb, map, map_member, mapping_of, member_of_filter_map, most_columns, most_ignored, most_parts, most_references, most_steps, nat_le, nat_lt, nat_tests, none_before_map, none_found_at, none_from, none_passes, not, not-true}
use Rattle.dv_checks.proofs.Vocabulary.{or_none, parent_def, parent_hubs, passes_at, passes_where_none_fails, path_def, range_with_len, reference_place, refl, slice_get, some_passes, some_passes_at, sym, text_twice, true, ℕ, ◌&&◌, ◌++◌, ◌+◌, ◌==◌, ◌||◌, ◌∙◌, ◌∷◌, ◌≡◌}
use Rattle.dv_checks.proofs.{Apart.place_under, Apart.places_apart, Apart.references_once, Apart.same_place, Faultless.Faultless, Faultless.KeepsLimits, Faultless.keeps_limits, Resolved.columns_fit, Resolved.hubs_of_parent, Resolved.is_step, Resolved.joined_by_place}
use Rattle.dv_catalog.specs.Checks as spec

pub all_mapped : {X Y : Type 0} (p : Y → Bool) (f : X → Y) (xs : List X) → ((x : X) → Contains xs x → p (f x) ≡ true) → list_all p (map f xs) ≡ true
all_mapped p f xs each = list_all-map p f xs ∙ all_pass (λ x. p (f x)) xs each

-- where no item has an answer, the item has none
first_of_map_none : {X R : Type 0} (f : X → Option R) (xs : List X) (x : X) → first_of (map f xs) ≡ None → Contains xs x → f x ≡ None
first_of_map_none f [] x none has = Contains-nil x has
first_of_map_none f (y ∷ xs) x none has =
    let parts = or_none (f y) (first_of (map f xs)) none in
    elim (Contains-cons_cases y xs x has) [ inl same ↦ ap f (sym same) ∙ parts.0 | inr rest ↦ first_of_map_none f xs x parts.1 rest ]

pub none_is_none : {X : Type 0} (o : Option X) → o ≡ None → is_none o ≡ true
none_is_none o e = ap is_none e

pub at_most : (n most : ℕ) → nat_lt most n ≡ false → nat_le n most ≡ true
at_most n most e = grind (arith, nat_tests, e)

at_least : (n least : ℕ) → nat_lt n least ≡ false → nat_le least n ≡ true
at_least n least e = grind (arith, nat_tests, e)

not_zero : (n : ℕ) → not (n == 0) ≡ true → nat_le 1 n ≡ true
not_zero n e = grind (arith, nat_tests, e)

de_morgan : (a b : Bool) → (not a && b) ≡ false → (a || not b) ≡ true
de_morgan true b e = refl
de_morgan false true e = let no : true ≡ false = e in cc
de_morgan false false e = refl

-- where the first holds, the second does not fail
unless : (a b : Bool) → (not a && not b) ≡ false → a ≡ false → b ≡ true
unless true b e f = let no : true ≡ false = f in cc
unless false true e f = refl
unless false false e f = let no : true ≡ false = e in cc

-- where some hub is no driving key, some place is none
not_all_places : (hubs driver : List (List ℕ)) → ((name : List ℕ) → Contains driver name → is_among hubs name ≡ true)
    → list_all (λ hub. is_among driver hub) hubs ≡ false
    → not (list_all (has_number (map (reference_place hubs) driver)) (range_with_len 0 (length hubs))) ≡ true
not_all_places hubs driver declared missing = by (list_all (has_number (map (reference_place hubs) driver)) (range_with_len 0 (length hubs))) refl
  where
    driving : list_all (has_number (map (reference_place hubs) driver)) (range_with_len 0 (length hubs)) ≡ true → (hub : List ℕ) → Contains hubs hub → is_among driver hub ≡ true
    driving all hub has =
        let named : is_among hubs hub ≡ true = some_passes_at (λ t. bytes_eq t hub) hubs hub has ((bytes_eq-Decides hub hub).1 refl) in
        let under = place_under (λ t. bytes_eq t hub) hubs named in
        let at = passes_at (has_number (map (reference_place hubs) driver)) (range_with_len 0 (length hubs)) (reference_place hubs hub) all (Contains-range (length hubs) (reference_place hubs hub) under) in
        let (place, among, same) = some_passes (λ n. n == reference_place hubs hub) (map (reference_place hubs) driver) at in
        let (name, member, is) = map_member (reference_place hubs) driver place among in
        let one : name ≡ hub = same_place (λ t. t) hubs name hub (declared name member) named (is ∙ eqb-true place (reference_place hubs hub) same) in
        some_passes_at (λ t. bytes_eq t hub) driver name member (ap (λ t. bytes_eq t hub) one ∙ (bytes_eq-Decides hub hub).1 refl)

    by : (b : Bool) → list_all (has_number (map (reference_place hubs) driver)) (range_with_len 0 (length hubs)) ≡ b
        → not (list_all (has_number (map (reference_place hubs) driver)) (range_with_len 0 (length hubs))) ≡ true
    by true all = let no : true ≡ false = sym (all_pass (λ hub. is_among driver hub) hubs (driving all)) ∙ missing in cc
    by false e = rw e refl

-- some hubs of a link stand at some places of its references
some_places : (hubs driver : List (List ℕ)) → spec.are_some_hubs hubs driver ≡ true → are_some_places (length hubs) (map (reference_place hubs) driver) ≡ true
some_places hubs driver e =
    let (front, missing) = and_parts (list_all (λ name. is_among hubs name) driver && is_none (text_twice driver)) (not (list_all (λ hub. is_among driver hub) hubs)) e in
    let (among, once) = and_parts (list_all (λ name. is_among hubs name) driver) (is_none (text_twice driver)) front in
    let declared = λ (name : List ℕ) (has : Contains driver name). passes_at (λ name. is_among hubs name) driver name among has in
    and_from _ _
    (and_from _ _
    (all_mapped (λ place. nat_lt place (length hubs)) (reference_place hubs) driver (λ name has. lt-ltb _ _ (place_under (λ hub. bytes_eq hub name) hubs (declared name has))))
    (none_is_none _ (places_apart (λ hub. hub) hubs driver declared (none_from (text_twice driver) once))))
    (not_all_places hubs driver declared (not-true _ missing))

module _ (o : Outline) (ok : Faultless o) where
  limits : KeepsLimits o
  limits = keeps_limits o ok.over

  abbrev hub_names : List (List ℕ)
  hub_names = map (λ hub. hub.name) o.hubs

  abbrev link_names : List (List ℕ)
  link_names = map (λ link. link.name) o.links

  abbrev feed_names : List (List ℕ)
  feed_names = flat_map (λ feed. feed.name ∷ feed.source ∷ []) o.feeds

  abbrev path_names : List (List ℕ)
  path_names = map (λ path. path.name) o.paths

  -- names have their form
  named : (name : List ℕ) → Contains (spec.all_names o) name → has_name_form name ≡ true
  named name has = passes_where_none_fails has_name_form (spec.all_names o) name ok.names has

  before_paths : (name : List ℕ) → Contains (hub_names ++ link_names ++ feed_names) name → has_name_form name ≡ true
  before_paths name has = named name (Contains-append_left (hub_names ++ link_names ++ feed_names) path_names name has)

  before_feeds : (name : List ℕ) → Contains (hub_names ++ link_names) name → has_name_form name ≡ true
  before_feeds name has = before_paths name (Contains-append_left (hub_names ++ link_names) feed_names name has)

  hub_named : (hub : HubOutline) → Contains o.hubs hub → has_name_form hub.name ≡ true
  hub_named hub has = before_feeds hub.name (Contains-append_left hub_names link_names hub.name (Contains-map (λ hub. hub.name) o.hubs hub has))

  link_named : (link : LinkOutline) → Contains o.links link → has_name_form link.name ≡ true
  link_named link has = before_feeds link.name (Contains-append_right hub_names link_names link.name (Contains-map (λ link. link.name) o.links link has))

  feed_named : (feed : FeedOutline) (name : List ℕ) → Contains o.feeds feed → Contains (feed.name ∷ feed.source ∷ []) name → has_name_form name ≡ true
  feed_named feed name has among =
      before_paths name (
      Contains-append_right (hub_names ++ link_names) feed_names name (Contains-flat_map (λ feed. feed.name ∷ feed.source ∷ []) o.feeds feed name has among))

  path_named : (path : PathOutline) → Contains o.paths path → has_name_form path.name ≡ true
  path_named path has =
      named path.name (Contains-append_right (hub_names ++ link_names ++ feed_names) path_names path.name (Contains-map (λ path. path.name) o.paths path has))

  -- hubs and links that are named are declared
  reference_declared : (link : LinkOutline) (name : List ℕ) → Contains o.links link → Contains link.hubs name → spec.is_hub o name ≡ true
  reference_declared link name has among =
      passes_where_none_fails (spec.is_hub o) (spec.named_hubs o) name ok.hubs_known (
      Contains-append_left _ _ _ (Contains-flat_map (λ link. link.hubs) o.links link name has among))

  hub_declared : (feed : FeedOutline) (name : List ℕ) → Contains o.feeds feed → spec.parent_hub feed.parent ≡ Some name → spec.is_hub o name ≡ true
  hub_declared feed name has is =
      passes_where_none_fails (spec.is_hub o) (spec.named_hubs o) name ok.hubs_known (
      Contains-append_right _ _ _ (member_of_filter_map (λ feed. spec.parent_hub feed.parent) o.feeds feed name has is))

  link_declared : (feed : FeedOutline) (name : List ℕ) → Contains o.feeds feed → spec.parent_link feed.parent ≡ Some name → spec.is_link o name ≡ true
  link_declared feed name has is =
      passes_where_none_fails (spec.is_link o) (spec.named_links o) name ok.links_known (
      member_of_filter_map (λ feed. spec.parent_link feed.parent) o.feeds feed name has is)

  -- and have a place
  hub_in_range : (name : List ℕ) → spec.is_hub o name ≡ true → is_hub (mapping_of o) (hub_place o.hubs name) ≡ true
  hub_in_range name e = rw (length-map o.hubs hub_def) (lt-ltb _ _ (place_under (λ hub. bytes_eq hub.name name) o.hubs e))

  link_in_range : (name : List ℕ) → spec.is_link o name ≡ true → is_link (mapping_of o) (link_place o.links name) ≡ true
  link_in_range name e = rw (length-map o.links (link_def o.hubs)) (lt-ltb _ _ (place_under (λ link. bytes_eq link.name name) o.links e))

  pub hubs_valid : has_shape o ≡ true → list_all is_valid_hub (mapping_of o).hubs ≡ true
  hubs_valid shape =
      all_mapped is_valid_hub hub_def o.hubs
      (λ hub has. and_from _ _ (hub_named hub has) (passes_at (λ hub. is_within 1 most_parts hub.parts) o.hubs hub (and_parts _ _ shape).0 has))

  link_valid : (link : LinkOutline) → Contains o.links link → is_valid_link (mapping_of o) (link_def o.hubs link) ≡ true
  link_valid link has =
      let few = none_passes (λ link. nat_lt most_references (length link.hubs)) o.links link limits.references has in
      let many = none_found_at (λ link. nat_lt (length link.hubs) 2) o.links link ok.references has in
      let count : is_within 2 most_references (length (map (hub_place o.hubs) link.hubs)) ≡ true =
      rw (length-map link.hubs (hub_place o.hubs)) (and_from _ _ (at_least (length link.hubs) 2 many) (at_most (length link.hubs) most_references few)) in
      and_from _ _
      (and_from _ _ (and_from _ _ (link_named link has) count)
      (all_mapped (is_hub (mapping_of o)) (hub_place o.hubs) link.hubs (λ name among. hub_in_range name (reference_declared link name has among))))
      (none_is_none _ (
      places_apart (λ hub. hub.name) o.hubs link.hubs (λ name among. reference_declared link name has among) (references_once [] o.links link ok.again.1.0 has)))

  pub links_valid : list_all (is_valid_link (mapping_of o)) (mapping_of o).links ≡ true
  links_valid = all_mapped (is_valid_link (mapping_of o)) (link_def o.hubs) o.links link_valid

  -- a feed's parent has a place
  parent_declared : (feed : FeedOutline) → Contains o.feeds feed → is_declared (mapping_of o) (parent_def o.hubs o.links feed.parent) ≡ true
  parent_declared feed has = by feed.parent refl
    where
      by : (parent : ParentName) → feed.parent ≡ parent → is_declared (mapping_of o) (parent_def o.hubs o.links parent) ≡ true
      by (Hub name) is = hub_in_range name (hub_declared feed name has (ap spec.parent_hub is))
      by (Link name) is = link_in_range name (link_declared feed name has (ap spec.parent_link is))

  -- its key columns fit
  keys_fit : (feed : FeedOutline) → Contains o.feeds feed → spec.keys_fit o feed ≡ true
  keys_fit feed has = passes_where_none_fails (spec.keys_fit o) o.feeds feed ok.keys has

  as_many_keys : (feed : FeedOutline) → Contains o.feeds feed → length feed.keys ≡ length (spec.reference_hubs o.links feed.parent)
  as_many_keys feed has = eqb-true _ _ (and_parts (length feed.keys == length (spec.reference_hubs o.links feed.parent)) _ (keys_fit feed has)).0

  keys_fit_places : (feed : FeedOutline) → Contains o.feeds feed → keys_fit_hubs (mapping_of o) feed.keys (parent_hubs (mapping_of o) (parent_def o.hubs o.links feed.parent)) ≡ true
  keys_fit_places feed has =
      let refs = spec.reference_hubs o.links feed.parent in
      let parts = and_parts (length feed.keys == length refs) _ (keys_fit feed has) in
      rw (hubs_of_parent o feed.parent, length-map refs (hub_place o.hubs)) (and_from _ _ parts.0 (columns_fit o.hubs feed.keys refs ∙ parts.1))

  -- its columns stand once
  columns_once : (feed : FeedOutline) → Contains o.feeds feed → text_twice (spec.all_columns feed.keys feed.sub feed.attrs feed.ignore) ≡ None
  columns_once feed has = none_before_map _ _ (first_of_map_none spec.column_again o.feeds feed ok.columns has)

  -- its driving keys are some of its references
  abbrev driver_places : FeedOutline → List ℕ
  driver_places feed = map (reference_place (spec.reference_hubs o.links feed.parent)) feed.driver

  abbrev drives_link : FeedOutline → Bool
  drives_link feed = is_of_link (parent_def o.hubs o.links feed.parent) && are_some_places (length feed.keys) (driver_places feed)

  driver_fits : (feed : FeedOutline) → Contains o.feeds feed → spec.driver_in_link o.links feed.parent feed.driver ≡ true → drives_link feed ≡ true
  driver_fits feed has = by feed.parent (as_many_keys feed has)
    where
      by : (parent : ParentName) → length feed.keys ≡ length (spec.reference_hubs o.links parent) → spec.driver_in_link o.links parent feed.driver ≡ true
          → (is_of_link (parent_def o.hubs o.links parent) && are_some_places (length feed.keys) (map (reference_place (spec.reference_hubs o.links parent)) feed.driver)) ≡ true
      by (Hub name) many e = let no : false ≡ true = e in cc
      by (Link name) many e = rw many (some_places (spec.link_hub_names o.links name) feed.driver e)

  driver_valid : (feed : FeedOutline) → Contains o.feeds feed → is_valid_driver (feed_def o.hubs o.links feed) ≡ true
  driver_valid feed has = rw (length-map feed.driver (reference_place (spec.reference_hubs o.links feed.parent))) (by (length feed.driver == 0) refl)
    where
      by : (b : Bool) → (length feed.driver == 0) ≡ b → ((length feed.driver == 0) || (drives_link feed && (length feed.sub == 0))) ≡ true
      by true e = rw e refl
      by false e =
          let in_link = unless (length feed.driver == 0) (spec.driver_in_link o.links feed.parent feed.driver) (none_found_at _ o.feeds feed ok.driver has) e in
          let alone = unless (length feed.driver == 0) (length feed.sub == 0) (none_found_at _ o.feeds feed ok.driver_sub has) e in
          rw e (and_from (drives_link feed) (length feed.sub == 0) (driver_fits feed has in_link) alone)

  feed_valid : has_shape o ≡ true → (feed : FeedOutline) → Contains o.feeds feed → is_valid_feed (mapping_of o) (feed_def o.hubs o.links feed) ≡ true
  feed_valid shape feed has =
      let named = feed_named feed feed.name has (Contains-cons_here feed.name (feed.source ∷ [])) in
      let sourced = feed_named feed feed.source has (Contains-cons_there feed.name (feed.source ∷ []) feed.source (Contains-cons_here feed.source [])) in
      let formed = passes_at (λ feed. list_all has_column_form (spec.all_columns feed.keys feed.sub feed.attrs feed.ignore)) o.feeds feed (and_parts _ _ shape).1 has in
      let few = at_most (spec.mapped_count feed.keys feed.sub feed.attrs) most_columns (none_passes _ o.feeds feed limits.columns has) in
      let few_ignored = at_most (length feed.ignore) most_ignored (none_passes _ o.feeds feed limits.ignored has) in
      let described = de_morgan (length feed.sub == 0) (length feed.attrs == 0) (none_found_at _ o.feeds feed ok.sub has) in
      rw (named, sourced, parent_declared feed has, keys_fit_places feed has, formed, columns_once feed has, few, few_ignored, described, driver_valid feed has) refl

  pub feeds_valid : has_shape o ≡ true → list_all (is_valid_feed (mapping_of o)) (mapping_of o).feeds ≡ true
  feeds_valid shape = all_mapped (is_valid_feed (mapping_of o)) (feed_def o.hubs o.links) o.feeds (feed_valid shape)

  path_valid : (path : PathOutline) → Contains o.paths path → is_valid_path (mapping_of o) (path_def o.hubs o.feeds path) ≡ true
  path_valid path has =
      let whole = passes_where_none_fails (spec.is_path o) o.paths path ok.paths has in
      let (front, joined) = and_parts (not (length path.feeds == 0) && list_all (λ feed. is_some (spec.step_hubs o feed)) path.feeds && (length path.via + 1 == length path.feeds)) (spec.are_joined o path.feeds path.via) whole in
      let (steps, shorter) = and_parts (not (length path.feeds == 0) && list_all (λ feed. is_some (spec.step_hubs o feed)) path.feeds) (length path.via + 1 == length path.feeds) front in
      let (some, links) = and_parts (not (length path.feeds == 0)) (list_all (λ feed. is_some (spec.step_hubs o feed)) path.feeds) steps in
      let few = none_passes (λ path. nat_lt most_steps (length path.feeds)) o.paths path limits.steps has in
      let count : is_within 1 most_steps (length (map (feed_place o.feeds) path.feeds)) ≡ true =
      rw (length-map path.feeds (feed_place o.feeds)) (and_from _ _ (not_zero (length path.feeds) some) (at_most (length path.feeds) most_steps few)) in
      let delivered : list_all (λ feed. is_link_feed (slice_get (mapping_of o).feeds feed)) (map (feed_place o.feeds) path.feeds) ≡ true =
      all_mapped (λ feed. is_link_feed (slice_get (mapping_of o).feeds feed)) (feed_place o.feeds) path.feeds
      (λ name among. is_step o name ∙ passes_at (λ feed. is_some (spec.step_hubs o feed)) path.feeds name links among) in
      let one_less : (length (map (hub_place o.hubs) path.via) + 1 == length (map (feed_place o.feeds) path.feeds)) ≡ true =
      rw (length-map path.via (hub_place o.hubs), length-map path.feeds (feed_place o.feeds)) shorter in
      and_from _ _ (and_from _ _ (and_from _ _ (and_from _ _ (path_named path has) count) delivered) one_less) (joined_by_place o path.feeds path.via joined)

  pub paths_valid : list_all (is_valid_path (mapping_of o)) (mapping_of o).paths ≡ true
  paths_valid = all_mapped (is_valid_path (mapping_of o)) (path_def o.hubs o.feeds) o.paths path_valid
