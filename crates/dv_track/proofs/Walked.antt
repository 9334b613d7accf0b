-- Two ascending lists walked together: the lesser of their first digests, and what is behind it.
use Rattle.dv_track.proofs.Vocabulary.{Bool, Contains, Contains-append_cases, Contains-cons_cases, Contains-nil, EffectRow, Equal, Greater, Head, IsStrictlySortedBy, Less, List, None, Option, Ordering, Some, [], all_members, and-false, ap, ascending-sorted_by, bytes_eq, bytes_eq-Decides}
use Rattle.dv_track.proofs.Vocabulary.{change_between, changes_between, digest_cmp, drop, effect_turn, effect_turns, false, false_from_ne_true, false≢true, filter_map, filter_map_same, if◌then◌else◌, in_effect_since, inl, inr, irreflexive, is_among, least, lesser, list_any-append}
use Rattle.dv_track.proofs.Vocabulary.{member_before_sort, member_of_all, nat_list_cmp_total, none-some, option_to_list, or-true, refl, same_Some, sorted_by, subst, true, turned, ℕ, ◌&&◌, ◌++◌, ◌||◌, ◌∙◌, ◌∷◌, ◌≡◌}
use Rattle.dv_track.proofs.Amongst.{among_sorted, among_there, apart, ascending-drop, exact, if_there, is_among-Decides, same_among, unequal}

-- a list begins with a digest, or does not have it, and the rest of it is behind the digest
record Begins (digest : List ℕ) (there : Bool) (digests rest : List (List ℕ)) : Type 0 where
  pub split : digests ≡ if_there there digest ++ rest
  pub more : (z : List ℕ) → Contains rest z → digest_cmp digest z ≡ Less

module _ (digest : List ℕ) (there : Bool) (digests rest : List (List ℕ)) (begins : Begins digest there digests rest) where
  among_begun : (z : List ℕ) → is_among digests z ≡ ((there && bytes_eq digest z) || is_among rest z)
  among_begun z = ap (λ l. is_among l z) begins.split ∙ list_any-append (λ other. bytes_eq other z) (if_there there digest) rest ∙ rw (among_there there digest z) refl

  -- the digest itself is in the list if the list begins with it
  known : (there : Bool) → ((there && true) || false) ≡ there
  known true = refl
  known false = refl

  among_first : is_among digests digest ≡ there
  among_first =
      among_begun digest
      ∙ rw ((bytes_eq-Decides digest digest).1 refl, false_from_ne_true (is_among rest digest) (λ e. irreflexive nat_list_cmp_total digest (begins.more digest ((is_among-Decides rest digest).0 e)))) (known there)

  -- and those behind it are in the list if they are in its rest
  among_rest : (z : List ℕ) → digest_cmp digest z ≡ Less → is_among digests z ≡ is_among rest z
  among_rest z less = among_begun z ∙ rw (unequal digest z (apart digest z less), and-false there) refl

module _ (digest : List ℕ) (was_there now_there : Bool) (was now was_rest now_rest : List (List ℕ)) (in_was : Begins digest was_there was was_rest) (in_now : Begins digest now_there now now_rest) (some : (was_there || now_there) ≡ true) where
  abbrev rest : List (List ℕ)
  rest = sorted_by digest_cmp (was_rest ++ now_rest)

  rest_more : (z : List ℕ) → Contains rest z → digest_cmp digest z ≡ Less
  rest_more z has =
      elim (Contains-append_cases was_rest now_rest z (member_before_sort digest_cmp (was_rest ++ now_rest) z has)) [
        | inl first ↦ in_was.more z first
        | inr second ↦ in_now.more z second
      ]

  either : (s t e a b : Bool) → (s || t) ≡ true → (((s && e) || a) || ((t && e) || b)) ≡ (e || (a || b))
  either true t true a b h = refl
  either true t false a b h = rw (and-false t) refl
  either false true true a b h = or-true a
  either false true false a b h = refl
  either false false e a b h = absurd (false≢true h)

  same : (z : List ℕ) → is_among (sorted_by digest_cmp (was ++ now)) z ≡ is_among (digest ∷ rest) z
  same z =
      among_sorted (was ++ now) z
      ∙ list_any-append (λ other. bytes_eq other z) was now
      ∙ rw (among_begun digest was_there was was_rest in_was z, among_begun digest now_there now now_rest in_now z, among_sorted (was_rest ++ now_rest) z, list_any-append (λ other. bytes_eq other z) was_rest now_rest)
      (either was_there now_there (bytes_eq digest z) (is_among was_rest z) (is_among now_rest z) some)

  -- the digest is the first of both in order
  first : sorted_by digest_cmp (was ++ now) ≡ digest ∷ rest
  unfolding IsStrictlySortedBy
  first =
      same_among (sorted_by digest_cmp (was ++ now)) (digest ∷ rest)
      (ascending-sorted_by digest_cmp nat_list_cmp_total (was ++ now))
      (all_members (λ z. digest_cmp digest z ≡ Less) rest rest_more, ascending-sorted_by digest_cmp nat_list_cmp_total (was_rest ++ now_rest))
      same

  to_front : {Y : Type 0} (o : Option Y) (h : List ℕ → Option Y) → h digest ≡ o → filter_map h (digest ∷ rest) ≡ option_to_list (h digest) ++ filter_map h rest
  to_front None h e = rw e refl
  to_front (Some y) h e = rw e refl

  -- so what is given of it comes first
  given_first : {Y : Type 0} (h k : List ℕ → Option Y) → ((z : List ℕ) → digest_cmp digest z ≡ Less → h z ≡ k z) → filter_map h (sorted_by digest_cmp (was ++ now)) ≡ option_to_list (h digest) ++ filter_map k rest
  given_first h k behind = ap (filter_map h) first ∙ to_front (h digest) h refl ∙ ap (λ l. option_to_list (h digest) ++ l) (filter_map_same h k rest (λ z has. behind z (rest_more z has)))

-- ---- the lesser digest that two lists begin with

abbrev pub left : Bool → List (List ℕ) → List (List ℕ)
left there digests = if there then drop 1 digests else digests

record IsHead (was now : List (List ℕ)) (head : Head) : Type 0 where
  pub in_was : Begins head.parent head.was was (left head.was was)
  pub in_now : Begins head.parent head.now now (left head.now now)
  pub some : (head.was || head.now) ≡ true

none_there : (digest : List ℕ) → Begins digest false [] []
none_there digest = record { split = refl; more = λ z has. Contains-nil z has }

first_there : (digest : List ℕ) (digests : List (List ℕ)) → IsStrictlySortedBy digest_cmp (digest ∷ digests) → Begins digest true (digest ∷ digests) digests
unfolding IsStrictlySortedBy
first_there digest digests up = record { split = refl; more = λ z has. member_of_all (λ z. digest_cmp digest z ≡ Less) digests z up.0 has }

lesser_there : (digest other : List ℕ) (digests : List (List ℕ)) → digest_cmp digest other ≡ Less → IsStrictlySortedBy digest_cmp (other ∷ digests) → Begins digest false (other ∷ digests) (other ∷ digests)
unfolding IsStrictlySortedBy
lesser_there digest other digests less up =
    record {
      split = refl;
      more = λ z has.
          elim (Contains-cons_cases other digests z has) [
            | inl same ↦ subst (λ w. digest_cmp digest w ≡ Less) same less
            | inr behind ↦ nat_list_cmp_total.trans digest other z less (member_of_all (λ z. digest_cmp other z ≡ Less) digests z up.0 behind)
          ];
    }

lesser_is : (a b : List ℕ) (was now : List (List ℕ)) → IsStrictlySortedBy digest_cmp (a ∷ was) → IsStrictlySortedBy digest_cmp (b ∷ now) → (r : Ordering) → digest_cmp a b ≡ r → IsHead (a ∷ was) (b ∷ now) (lesser a b r)
lesser_is a b was now up vp Less e = record { in_was = first_there a was up; in_now = lesser_there a b now e vp; some = refl }
lesser_is a b was now up vp Equal e =
    record {
      in_was = first_there a was up;
      in_now = subst (λ d. Begins d true (b ∷ now) now) (exact b a (nat_list_cmp_total.antisymm b a ∙ rw e refl)) (first_there b now vp);
      some = refl;
    }
lesser_is a b was now up vp Greater e = record { in_was = lesser_there b a was (turned nat_list_cmp_total a b e) up; in_now = first_there b now vp; some = refl }

head_is : (was now : List (List ℕ)) (head : Head) → IsStrictlySortedBy digest_cmp was → IsStrictlySortedBy digest_cmp now → least was now ≡ Some head → IsHead was now head
head_is [] [] head up vp e = absurd (none-some head e)
head_is (a ∷ was) [] head up vp e = subst (IsHead (a ∷ was) []) (same_Some _ head e) (record { in_was = first_there a was up; in_now = none_there a; some = refl })
head_is [] (b ∷ now) head up vp e = subst (IsHead [] (b ∷ now)) (same_Some _ head e) (record { in_was = none_there b; in_now = first_there b now vp; some = refl })
head_is (a ∷ was) (b ∷ now) head up vp e = subst (IsHead (a ∷ was) (b ∷ now)) (same_Some _ head e) (lesser_is a b was now up vp (digest_cmp a b) refl)

pub left_ascends : (there : Bool) (digests : List (List ℕ)) → IsStrictlySortedBy digest_cmp digests → IsStrictlySortedBy digest_cmp (left there digests)
left_ascends true digests up = ascending-drop digests 1 up
left_ascends false digests up = up

-- ---- a step of the walk

module _ (was now : List (List ℕ)) (head : Head) (up : IsStrictlySortedBy digest_cmp was) (vp : IsStrictlySortedBy digest_cmp now) (e : least was now ≡ Some head) where
  abbrev is : IsHead was now head
  is = head_is was now head up vp e

  pub head_there : (is_among was head.parent ≡ head.was) × (is_among now head.parent ≡ head.now)
  head_there = (among_first head.parent head.was was (left head.was was) is.in_was, among_first head.parent head.now now (left head.now now) is.in_now)

  pub head_first : (source : List ℕ) (load : ℕ) → changes_between source load was now ≡ option_to_list (change_between source load was now head.parent) ++ changes_between source load (left head.was was) (left head.now now)
  head_first source load =
      given_first head.parent head.was head.now was now (left head.was was) (left head.now now) is.in_was is.in_now is.some (change_between source load was now) (change_between source load (left head.was was) (left head.now now))
      (λ z behind. rw (among_rest head.parent head.was was (left head.was was) is.in_was z behind, among_rest head.parent head.now now (left head.now now) is.in_now z behind) refl)

  pub turn_first : (source : List ℕ) (rows : List EffectRow) (load : ℕ)
      → effect_turns source rows load was now
      ≡ option_to_list (effect_turn source load head.parent (in_effect_since rows head.parent load) (is_among was head.parent) (is_among now head.parent)) ++ effect_turns source rows load (left head.was was) (left head.now now)
  turn_first source rows load =
      given_first head.parent head.was head.now was now (left head.was was) (left head.now now) is.in_was is.in_now is.some
      (λ digest. effect_turn source load digest (in_effect_since rows digest load) (is_among was digest) (is_among now digest))
      (λ digest. effect_turn source load digest (in_effect_since rows digest load) (is_among (left head.was was) digest) (is_among (left head.now now) digest))
      (λ z behind. rw (among_rest head.parent head.was was (left head.was was) is.in_was z behind, among_rest head.parent head.now now (left head.now now) is.in_now z behind) refl)
