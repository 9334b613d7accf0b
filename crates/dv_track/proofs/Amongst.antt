-- Digests in a list, sorted or not.
use Rattle.dv_track.proofs.Vocabulary.{Bool, Contains, Decides, Equal, IsSortedBy, IsStrictlySortedBy, IsTotalOrder, Less, Less-from_sorted, List, None, Option, Ordering, Place, Some, [], and_parts, any-filter_same, ap, arith, bytes_eq, bytes_eq-Decides, digest_cmp, drop, false}
use Rattle.dv_track.proofs.Vocabulary.{false_from_ne_true, filter, filter_map, found_member, get_or, irreflexive, is_among, is_lt, latest_at, list_any-append, map, member_after_sort, member_before_sort, nat_cmp-IsAntisymmetric, nat_le, nat_list_cmp_total, or-false, refl, reverse, same_answer}
use Rattle.dv_track.proofs.Vocabulary.{same_ascending, slice_cmp-IsAntisymmetric, some_passes, some_passes_at, sorted_by, subst, suc, sym, true, zero, ℕ, ◌&&◌, ◌++◌, ◌+◌, ◌||◌, ◌∙◌, ◌∷◌, ◌≡◌}

-- two digests that tie are one
pub exact : (a b : List ℕ) → digest_cmp a b ≡ Equal → a ≡ b
exact a b e = slice_cmp-IsAntisymmetric nat_cmp-IsAntisymmetric a b e

pub apart : (a b : List ℕ) → digest_cmp a b ≡ Less → a ≡ b → ⊥
apart a b less same = irreflexive nat_list_cmp_total b (subst (λ c. digest_cmp c b ≡ Less) same less)

pub unequal : (a b : List ℕ) → (a ≡ b → ⊥) → bytes_eq a b ≡ false
unequal a b differ = false_from_ne_true (bytes_eq a b) (λ e. differ ((bytes_eq-Decides a b).0 e))

pub is_among-Decides : (digests : List (List ℕ)) (digest : List ℕ) → Decides (is_among digests digest) (Contains digests digest)
is_among-Decides digests digest = (
  λ e. let (other, member, same) = some_passes (λ other. bytes_eq other digest) digests e in subst (Contains digests) ((bytes_eq-Decides other digest).0 same) member,
  λ member. some_passes_at (λ other. bytes_eq other digest) digests digest member ((bytes_eq-Decides digest digest).1 refl),
)

module _ {X : Type 0} {R : X → X → Ordering} (o : IsTotalOrder R) where
  pub sorted_from_strictly : (xs : List X) → IsStrictlySortedBy R xs → IsSortedBy (λ a b. is_lt (R a b)) xs
  sorted_from_strictly xs up k d low under =
      let less = Less-from_sorted R xs k (k + 1) d up (omega arith) under in
      rw (o.antisymm (get_or xs (k + 1) d) (get_or xs k d), less)

-- a digest alone, or none
abbrev pub if_there : Bool → List ℕ → List (List ℕ)
if_there true digest = digest ∷ []
if_there false digest = []

pub among_there : (there : Bool) (digest z : List ℕ) → is_among (if_there there digest) z ≡ (there && bytes_eq digest z)
among_there true digest z = or-false (bytes_eq digest z)
among_there false digest z = refl

-- it does not matter whether they are sorted
pub among_sorted : (digests : List (List ℕ)) (digest : List ℕ) → is_among (sorted_by digest_cmp digests) digest ≡ is_among digests digest
among_sorted digests digest =
    same_answer (is_among (sorted_by digest_cmp digests) digest) (is_among digests digest)
    (λ e. (is_among-Decides digests digest).1 (member_before_sort digest_cmp digests digest ((is_among-Decides (sorted_by digest_cmp digests) digest).0 e)))
    (λ e. (is_among-Decides (sorted_by digest_cmp digests) digest).1 (member_after_sort digest_cmp digests digest (λ x member tied. exact x digest tied) ((is_among-Decides digests digest).0 e)))

-- a digest that passes the filter is left
pub among-filter : (p : List ℕ → Bool) (digests : List (List ℕ)) (digest : List ℕ) → is_among (filter p digests) digest ≡ (p digest && is_among digests digest)
among-filter p digests digest = any-filter_same (λ other. bytes_eq other digest) p (p digest) (λ other same. ap p ((bytes_eq-Decides other digest).0 same)) digests

-- what is left of two lists, put in one order
pub among_both : (p q : List ℕ → Bool) (xs ys : List (List ℕ)) (digest : List ℕ) → is_among (sorted_by digest_cmp (filter p xs ++ filter q ys)) digest ≡ ((p digest && is_among xs digest) || (q digest && is_among ys digest))
among_both p q xs ys digest =
    among_sorted (filter p xs ++ filter q ys) digest ∙ list_any-append (λ other. bytes_eq other digest) (filter p xs) (filter q ys) ∙ rw (among-filter p xs digest, among-filter q ys digest) refl

-- two ascending lists with the same digests are one
pub same_among : (xs ys : List (List ℕ)) → IsStrictlySortedBy digest_cmp xs → IsStrictlySortedBy digest_cmp ys → ((digest : List ℕ) → is_among xs digest ≡ is_among ys digest) → xs ≡ ys
same_among xs ys up vp same =
    same_ascending digest_cmp nat_list_cmp_total xs ys up vp
    (λ digest has. (is_among-Decides ys digest).0 (sym (same digest) ∙ (is_among-Decides xs digest).1 has))
    (λ digest has. (is_among-Decides xs digest).0 (same digest ∙ (is_among-Decides ys digest).1 has))

pub ascending-drop : (digests : List (List ℕ)) (n : ℕ) → IsStrictlySortedBy digest_cmp digests → IsStrictlySortedBy digest_cmp (drop n digests)
unfolding IsStrictlySortedBy
ascending-drop digests zero up = up
ascending-drop [] (suc n) up = tt
ascending-drop (digest ∷ digests) (suc n) up = ascending-drop digests n up.1

-- the parents of those latest rows that say something are the parents of which it is said
pub said_parents : {R : Type 0} (parent_of : R → List ℕ) (says : R → Bool) (said : Option R → Bool) → said None ≡ false → ((row : R) → said (Some row) ≡ says row) → (latest : List ℕ → Option R)
    → ((parent : List ℕ) (row : R) → latest parent ≡ Some row → parent_of row ≡ parent) → (parents : List (List ℕ)) → map parent_of (filter says (filter_map latest parents)) ≡ filter (λ parent. said (latest parent)) parents
said_parents parent_of says said none some latest own [] = refl
said_parents {R} parent_of says said none some latest own (parent ∷ parents) = by (latest parent) refl (said_parents parent_of says said none some latest own parents)
  where
    by : (o : Option R) → latest parent ≡ o → map parent_of (filter says (filter_map latest parents)) ≡ filter (λ parent. said (latest parent)) parents
        → map parent_of (filter says (filter_map latest (parent ∷ parents))) ≡ filter (λ parent. said (latest parent)) (parent ∷ parents)
    by None e rest = rw (e, none) rest
    by (Some row) e rest = told (says row) refl
      where
        told : (b : Bool) → says row ≡ b → map parent_of (filter says (filter_map latest (parent ∷ parents))) ≡ filter (λ parent. said (latest parent)) (parent ∷ parents)
        told true is = rw (e, some row, is, own parent row e) (ap (λ list. parent ∷ list) rest)
        told false is = rw (e, some row, is) rest

-- a parent's latest row is its own
pub own_row : {R : Type 0} (place : R → Place) (rows : List R) (date : ℕ) (parent : List ℕ) (row : R) → latest_at place rows parent date ≡ Some row → (place row).parent ≡ parent
own_row {R} place rows date parent row e =
    (bytes_eq-Decides (place row).parent parent).0
    (and_parts _ (nat_le (place row).load date) (found_member (λ (row : R). bytes_eq (place row).parent parent && nat_le (place row).load date) (reverse rows) row e).1).0
