-- The keys of a hub among the references of a link: the one key at the hub's place.
use Rattle.dv_bridge.proofs.Vocabulary.{Bool, Contains, Contains-append_left, Contains-append_right, Contains-cons_cases, Contains-cons_here, Contains-cons_there, Contains-nil, FeedDef, Hub, Key, Link, LinkDef, List, Mapping, None, Option, Parent, Some, [], again, again_after, ap, arith, cond}
use Rattle.dv_bridge.proofs.Vocabulary.{eq-eqb, eqb-true, false, false≢true, feed_hubs, has_number, hubs_by, inl, inr, is_place_of_step, is_valid, keys_at, length, link_hubs, link_places, list_any, made_of, nat_eq, none_placed, number_twice, option_map, or_none, parent_hubs, place_of, position}
use Rattle.dv_bridge.proofs.Vocabulary.{position-cons, refl, slice_get, some_passes, some_passes_at, step_places, subst, suc, sym, true, valid_link, ℕ, ◌++◌, ◌==◌, ◌∙◌, ◌∷◌, ◌≡◌}

-- ---- hubs of which none stands earlier

-- a hub that stands earlier does not stand later
not_again : (before hubs : List ℕ) (hub : ℕ) → again_after nat_eq before hubs ≡ None → Contains before hub → Contains hubs hub → ⊥
not_again before [] hub once earlier later = Contains-nil hub later
not_again before (h ∷ hubs) hub once earlier later =
    let (first, rest) = or_none (again nat_eq before h) (again_after nat_eq (before ++ h ∷ []) hubs) once in
    elim (Contains-cons_cases h hubs hub later) [
      | inl same ↦
          let twice : list_any (λ y. nat_eq y h) before ≡ true = some_passes_at (λ y. nat_eq y h) before hub earlier (eq-eqb hub h (sym same)) in
          let no : Some h ≡ None = rw twice at first in
          cc
      | inr behind ↦ not_again (before ++ h ∷ []) hubs hub rest (Contains-append_left before (h ∷ []) hub earlier) behind
    ]

-- a hub that is none of the hubs has no key
no_key : (hub : ℕ) (hubs : List ℕ) (refs : List Key) → (Contains hubs hub → ⊥) → keys_at hub hubs refs ≡ []
no_key hub [] refs none = refl
no_key hub (h ∷ hubs) [] none = refl
no_key hub (h ∷ hubs) (key ∷ refs) none = by (h == hub) refl (no_key hub hubs refs (λ has. none (Contains-cons_there h hubs hub has)))
  where
    by : (b : Bool) → (h == hub) ≡ b → keys_at hub hubs refs ≡ [] → keys_at hub (h ∷ hubs) (key ∷ refs) ≡ []
    by true e rest = absurd (none (subst (Contains (h ∷ hubs)) (eqb-true h hub e) (Contains-cons_here h hubs)))
    by false e rest = rw e rest

-- the place of a hub has its one key
abbrev HasOneKey : ℕ → List ℕ → List Key → ℕ → Type 0
HasOneKey hub hubs refs place = (key : Key) × (slice_get refs place ≡ Some key) × (keys_at hub hubs refs ≡ key ∷ [])

one_key : (hub : ℕ) (before hubs : List ℕ) (refs : List Key) → again_after nat_eq before hubs ≡ None → length refs ≡ length hubs → (place : ℕ) → position (λ h. h == hub) hubs ≡ Some place → HasOneKey hub hubs refs place
one_key hub before [] refs once long place at = cc
one_key hub before (h ∷ hubs) [] once long place at = absurd (omega (arith, long))
one_key hub before (h ∷ hubs) (key ∷ refs) once long place at = by (h == hub) refl (sym (position-cons (λ h. h == hub) h hubs) ∙ at) (one_key hub (before ++ h ∷ []) hubs refs later (omega (arith, long)))
  where
    later : again_after nat_eq (before ++ h ∷ []) hubs ≡ None
    later = (or_none (again nat_eq before h) (again_after nat_eq (before ++ h ∷ []) hubs) once).1

    none : (h == hub) ≡ true → Contains hubs hub → ⊥
    none e has = not_again (before ++ h ∷ []) hubs hub later (Contains-append_right before (h ∷ []) hub (subst (Contains (h ∷ [])) (eqb-true h hub e) (Contains-cons_here h []))) has

    by : (b : Bool) → (h == hub) ≡ b → cond b (Some 0) (option_map suc (position (λ h. h == hub) hubs)) ≡ Some place
        → ((p : ℕ) → position (λ h. h == hub) hubs ≡ Some p → HasOneKey hub hubs refs p) → HasOneKey hub (h ∷ hubs) (key ∷ refs) place
    by true e first rest =
        let start : 0 ≡ place = cc in
        (key, subst (λ p. slice_get (key ∷ refs) p ≡ Some key) start refl, rw e (ap (λ keys. key ∷ keys) (no_key hub hubs refs (none e))))
    by false e later rest =
        let (p, p_at, one_more) = made_of suc (position (λ h. h == hub) hubs) place later in
        let (k, k_at, only) = rest p p_at in
        (k, subst (λ p. slice_get (key ∷ refs) p ≡ Some k) one_more k_at, rw e only)

-- ---- the hubs of a feed

module _ (mapping : Mapping) (valid : is_valid mapping ≡ true) (hub : ℕ) where
  -- hubs that differ, and the hub is one of them
  abbrev AreDifferent : List ℕ → Type 0
  AreDifferent hubs = (number_twice hubs ≡ None) × Contains hubs hub

  hubs_of_link : (link : ℕ) (definition : Option LinkDef) → slice_get mapping.links link ≡ definition → has_number (link_hubs definition) hub ≡ true → AreDifferent (link_hubs definition)
  hubs_of_link link None at has = cc
  hubs_of_link link (Some definition) at has =
      let (h, member, is) = some_passes (λ h. h == hub) definition.hubs has in
      ((valid_link mapping valid link definition at).apart, subst (Contains definition.hubs) (eqb-true h hub is) member)

  hubs_of_parent : (parent : Parent) → has_number (link_places mapping parent) hub ≡ true → AreDifferent (parent_hubs mapping parent)
  hubs_of_parent (Hub h) has = cc
  hubs_of_parent (Link link) has = hubs_of_link link (slice_get mapping.links link) refl has

  hubs_of_feed : (definition : Option FeedDef) → has_number (step_places mapping definition) hub ≡ true → AreDifferent (hubs_by mapping definition)
  hubs_of_feed None has = cc
  hubs_of_feed (Some definition) has = hubs_of_parent definition.parent has

  pub hub_of_step : (feed : ℕ) → is_place_of_step mapping hub feed ≡ true → Contains (feed_hubs mapping feed) hub
  hub_of_step feed has = (hubs_of_feed (slice_get mapping.feeds feed) has).1

  -- the references to a link's hubs have one key of each of them, at its place
  pub key_at_place : (feed : ℕ) → is_place_of_step mapping hub feed ≡ true → (refs : List Key) → length refs ≡ length (feed_hubs mapping feed)
      → (key : Key) × (slice_get refs (place_of mapping feed hub) ≡ Some key) × (keys_at hub (feed_hubs mapping feed) refs ≡ key ∷ [])
  key_at_place feed has refs long = by (position (λ h. h == hub) (feed_hubs mapping feed)) refl
    where
      different : AreDifferent (feed_hubs mapping feed)
      different = hubs_of_feed (slice_get mapping.feeds feed) has

      by : (place : Option ℕ) → position (λ h. h == hub) (feed_hubs mapping feed) ≡ place → HasOneKey hub (feed_hubs mapping feed) refs (place_of mapping feed hub)
      by None at = absurd (false≢true (sym (none_placed (λ h. h == hub) (feed_hubs mapping feed) at hub different.1) ∙ eq-eqb hub hub refl))
      by (Some place) at = let (key, there, only) = one_key hub [] (feed_hubs mapping feed) refs different.0 long place at in (key, rw at there, only)
