-- Digests taken out of an ascending list, one after another.
use Rattle.dv_track.proofs.Vocabulary.{Bool, Contains, Equal, Greater, IsStrictlySortedBy, Less, List, Ordering, [], ap, append_assoc, arith, asymmetric, before, behind, bytes_eq-Decides, digest_cmp, drop, drop-drop, drop-paste, false, false_from_ne_true, filter-all, filter-none, is_among, is_lt}
use Rattle.dv_track.proofs.Vocabulary.{length, length-drop, member_of_all, missing_in, nat_list_cmp_total, not, paste, refl, sym, take, tied_itself, true, turned, ℕ, ◌++◌, ◌+◌, ◌-◌, ◌∙◌, ◌∷◌, ◌≡◌, ◌≤◌}
use Rattle.dv_track.proofs.{Amongst.apart, Amongst.exact, Amongst.is_among-Decides, Amongst.unequal, Parted.not_less}

-- with none taken out all stay
pub none_out : (digests : List (List ℕ)) → missing_in [] digests ≡ digests
none_out digests = filter-all (λ digest. not (is_among [] digest)) digests (λ digest has. refl)

module _ (digest : List ℕ) (others : List (List ℕ)) (up : IsStrictlySortedBy digest_cmp (digest ∷ others)) where
  others_more : (z : List ℕ) → Contains others z → digest_cmp digest z ≡ Less
  unfolding IsStrictlySortedBy
  others_more z has = member_of_all (λ other. digest_cmp digest other ≡ Less) others z up.0 has

  not_among : (z : List ℕ) → (digest_cmp digest z ≡ Less → ⊥) → is_among others z ≡ false
  not_among z fails = false_from_ne_true (is_among others z) (λ e. fails (others_more z ((is_among-Decides others z).0 e)))

  -- of the others only those behind the first one are left to take out
  one_out : (digests : List (List ℕ)) → IsStrictlySortedBy digest_cmp digests → missing_in (digest ∷ others) digests ≡ before digest digests ++ missing_in others (behind digest digests)
  unfolding IsStrictlySortedBy
  one_out [] vp = refl
  one_out (x ∷ digests) vp = by (one_out digests vp.1) (digest_cmp x digest) refl
    where
      by : missing_in (digest ∷ others) digests ≡ before digest digests ++ missing_in others (behind digest digests) → (r : Ordering) → digest_cmp x digest ≡ r
          → missing_in (digest ∷ others) (x ∷ digests) ≡ before digest (x ∷ digests) ++ missing_in others (behind digest (x ∷ digests))
      by rest Less e =
          rw (e, not_less x digest e, unequal digest x (λ same. apart x digest e (sym same)), not_among x (λ more. asymmetric nat_list_cmp_total x digest e more)) (ap (λ l. x ∷ l) rest)
      by rest Equal e = rw (exact x digest e, tied_itself nat_list_cmp_total digest, (bytes_eq-Decides digest digest).1 refl) rest
      by rest Greater e = kept (is_among others x) refl
        where
          more : digest_cmp digest x ≡ Less
          more = turned nat_list_cmp_total x digest e

          none : before digest digests ≡ []
          none = filter-none (λ other. is_lt (digest_cmp other digest)) digests (λ z has. not_less digest z (nat_list_cmp_total.trans digest x z more (member_of_all (λ z. digest_cmp x z ≡ Less) digests z vp.0 has)))

          kept : (b : Bool) → is_among others x ≡ b → missing_in (digest ∷ others) (x ∷ digests) ≡ before digest (x ∷ digests) ++ missing_in others (behind digest (x ∷ digests))
          kept true f = rw (e, more, unequal digest x (apart digest x more), none, f) (rw none at rest)
          kept false f = rw (e, more, unequal digest x (apart digest x more), none, f) (ap (λ l. x ∷ l) (rw none at rest))

-- a turn of the loop: of a list whose first places are done, and whose places from another one on are as they were, the
-- part before a digest moves up
pub out_more : (digest : List ℕ) (others old new : List (List ℕ)) (kept from count next : ℕ) → IsStrictlySortedBy digest_cmp (digest ∷ others) → IsStrictlySortedBy digest_cmp (drop from old)
    → take count (drop from old) ≡ before digest (drop from old) → drop next (drop from old) ≡ behind digest (drop from old) → count ≤ next
    → take (kept + count) new ≡ take kept old ++ take count (drop from old) → drop (from + count) new ≡ drop (from + count) old
    → (take (kept + count) new ++ missing_in others (drop (from + next) new) ≡ take kept old ++ missing_in (digest ∷ others) (drop from old)) × (drop (from + next) new ≡ behind digest (drop from old))
out_more digest others old new kept from count next up vp first last le front back = (
  rw (front, left, first) (append_assoc (take kept old) (before digest (drop from old)) (missing_in others (behind digest (drop from old))) ∙ ap (λ l. take kept old ++ l) (sym (one_out digest others up (drop from old) vp))),
  left,
)
  where
    further : (l : List (List ℕ)) → drop (next - count) (drop (from + count) l) ≡ drop (from + next) l
    further l = drop-drop (next - count) (from + count) l ∙ ap (λ n. drop n l) (omega arith)

    left : drop (from + next) new ≡ behind digest (drop from old)
    left = sym (further new) ∙ ap (drop (next - count)) back ∙ further old ∙ sym (drop-drop next from old) ∙ last

-- a part of a list that moves to a place before it leaves what is behind it
pub moved_up : (old new : List (List ℕ)) (place from count n : ℕ) → place ≤ from → from + count ≤ length old → n ≡ count → new ≡ paste old place (drop from old) n → drop (from + count) new ≡ drop (from + count) old
moved_up old new place from count n before under same e =
    sym (further new) ∙ ap (drop (from - place)) (ap (drop (place + count)) is ∙ drop-paste old place (drop from old) count (omega arith) (omega (arith, length-drop from old))) ∙ further old
  where
    is : new ≡ paste old place (drop from old) count
    is = e ∙ ap (paste old place (drop from old)) same

    further : (l : List (List ℕ)) → drop (from - place) (drop (place + count) l) ≡ drop (from + count) l
    further l = drop-drop (from - place) (place + count) l ∙ ap (λ n. drop n l) (omega arith)
