-- What is before a digest in an ascending list, and what is behind it: a search parts the list there.
use Rattle.dv_track.proofs.Vocabulary.{Contains, Greater, IsPartitionPoint, IsStrictlySortedBy, Less, List, Ordering, [], ap, arith, before, behind, digest_cmp, drop, false, filter-all, filter-none, get_or, is_lt, length, member_of_all, nat_list_cmp_total, ordering_reverse, refl, subst, suc, sym}
use Rattle.dv_track.proofs.Vocabulary.{take, tied_itself, true, turned, zero, ℕ, ◌<◌, ◌∙◌, ◌∷◌, ◌≡◌}

less_is : (r : Ordering) → r ≡ Less → is_lt r ≡ true
less_is r e = rw e refl

pub not_less : (a b : List ℕ) → digest_cmp a b ≡ Less → is_lt (digest_cmp b a) ≡ false
not_less a b e = rw (nat_list_cmp_total.antisymm b a ∙ ap ordering_reverse e) refl

module _ (digest : List ℕ) where
  abbrev IsParted : List (List ℕ) → List (List ℕ) → List (List ℕ) → Type 0
  IsParted digests first rest = (first ≡ before digest digests) × (rest ≡ behind digest digests)

  all_behind : (digests : List (List ℕ)) → ((z : List ℕ) → Contains digests z → digest_cmp digest z ≡ Less) → IsParted digests [] digests
  all_behind digests more = (
    sym (filter-none (λ other. is_lt (digest_cmp other digest)) digests (λ z has. not_less digest z (more z has))),
    sym (filter-all (λ other. is_lt (digest_cmp digest other)) digests (λ z has. less_is (digest_cmp digest z) (more z has))),
  )

  one_before : (x : List ℕ) (digests first rest : List (List ℕ)) → digest_cmp x digest ≡ Less → IsParted digests first rest → IsParted (x ∷ digests) (x ∷ first) rest
  one_before x digests first rest less parted = (rw less (ap (λ l. x ∷ l) parted.0), rw (not_less x digest less) parted.1)

  pub found_parted : (digests : List (List ℕ)) (i : ℕ) → IsStrictlySortedBy digest_cmp digests → i < length digests → get_or digests i digest ≡ digest → IsParted digests (take i digests) (drop (suc i) digests)
  unfolding IsStrictlySortedBy
  found_parted [] i up under is = absurd (omega arith)
  found_parted (x ∷ digests) zero up under is =
      rw (is, tied_itself nat_list_cmp_total digest) (all_behind digests (λ z has. subst (λ w. digest_cmp w z ≡ Less) is (member_of_all (λ z. digest_cmp x z ≡ Less) digests z up.0 has)))
  found_parted (x ∷ digests) (suc i) up under is =
      one_before x digests (take i digests) (drop (suc i) digests) (member_of_all (λ z. digest_cmp x z ≡ Less) digests digest up.0 (i, omega arith, is)) (found_parted digests i up.1 (omega arith) is)

  pub missed_parted : (digests : List (List ℕ)) (i : ℕ) → IsPartitionPoint (λ other. digest_cmp other digest ≡ Less) (λ other. digest_cmp other digest ≡ Greater) digests i → IsParted digests (take i digests) (drop i digests)
  missed_parted [] zero parts = (refl, refl)
  missed_parted [] (suc i) parts = (refl, refl)
  missed_parted (x ∷ digests) zero parts =
      all_behind (x ∷ digests) (λ z (k, under, there). turned nat_list_cmp_total z digest (subst (λ w. digest_cmp w digest ≡ Greater) there (parts.1 k z (omega arith) under)))
  missed_parted (x ∷ digests) (suc i) parts =
      one_before x digests (take i digests) (drop i digests) (parts.0 0 x (omega arith) (omega arith))
      (missed_parted digests i (λ k d low high. parts.0 (suc k) d (omega arith) (omega arith), λ k d low high. parts.1 (suc k) d (omega arith) (omega arith)))
