-- What holds of the heads of sealed windows that break no rule: none is later than the last one, and their feeds are in the
-- mapping.
use Rattle.dv_restore.proofs.Vocabulary.{Bool, List, Mapping, None, Some, WindowHead, [], and_from, and_parts, append-nil, append_assoc, are_feeds, arith, ascends, eqb-true, false, false≢true, first_along, flaw_behind, head_flaw, head_rule, held, inl, inr, is_head, is_later}
use Rattle.dv_restore.proofs.Vocabulary.{is_loaded, last_sealed, length, list_all, list_any-append, ltb-true, most_windows, nat_lt, none_before_map, or_none, refl, rules, subst, sym, true, ℕ, ◌&&◌, ◌++◌, ◌-◌}
use Rattle.dv_restore.proofs.Vocabulary.{last_pushed, ◌<◌, ◌==◌, ◌||◌, ◌∙◌, ◌∷◌, ◌≡◌, ◌≤◌, ◌⊎◌}

pub some_of : (a b : Bool) → (a || b) ≡ true → (a ≡ true) ⊎ (b ≡ true)
some_of a b e = search rules

-- a load date that a head has is not later than that of the last one, which is there
pub record IsUpTo (heads : List WindowHead) (load : ℕ) : Type 0 where
  pub last : ℕ
  pub is : last_sealed heads ≡ Some last
  pub le : load ≤ last

abbrev pub EndLast : List WindowHead → Type 0
EndLast heads = (load : ℕ) → is_loaded heads load ≡ true → IsUpTo heads load

later_lt : (heads : List WindowHead) (load last : ℕ) → is_later heads load ≡ true → last_sealed heads ≡ Some last → last < load
later_lt heads load last later is = ltb-true last load (rw is at later)

pub one_more : (heads : List WindowHead) (head : WindowHead) → EndLast heads → is_later heads head.load ≡ true → EndLast (heads ++ head ∷ [])
one_more heads head ends later load e = record {
  last = head.load;
  is = last_pushed heads head;
  le =
      elim (some_of (is_loaded heads load) (is_loaded (head ∷ []) load) (sym (list_any-append (λ (head : WindowHead). head.load == load) heads (head ∷ [])) ∙ e)) [
        | inl early ↦ let up = ends load early in omega (arith, up.le, later_lt heads head.load up.last later up.is)
        | inr here ↦
            elim (some_of (head.load == load) false here) [
              | inl same ↦ omega (arith, eqb-true head.load load same)
              | inr never ↦ absurd (false≢true never)
            ]
      ];
}

module _ (mapping : Mapping) where
  abbrev has_feeds : WindowHead → Bool
  has_feeds head = list_all (λ feed. nat_lt feed (length mapping.feeds)) head.feeds

  pub record HeadHolds (before : List WindowHead) (head : WindowHead) : Type 0 where
    pub later : is_later before head.load ≡ true
    pub feeds : has_feeds head ≡ true

  pub head_holds : (before : List WindowHead) (head : WindowHead) → head_rule mapping before head ≡ None → HeadHolds before head
  head_holds before head none =
      let (first, few) = and_parts (is_later before head.load && are_feeds mapping head.feeds) (nat_lt (length before) most_windows) (held 2 (is_head mapping before head) none) in
      let (later, feeds) = and_parts (is_later before head.load) (are_feeds mapping head.feeds) first in
      record { later = later; feeds = (and_parts (nat_lt 0 (length head.feeds) && ascends head.feeds) (has_feeds head) feeds).1 }

  along : (before rest : List WindowHead) → EndLast before → first_along (flaw_behind (head_rule mapping)) before rest ≡ None → EndLast (before ++ rest) × (list_all has_feeds rest ≡ true)
  along before [] ends none = (subst EndLast (sym (append-nil before)) ends, refl)
  along before (head ∷ rest) ends none =
      let (here, later) = or_none (flaw_behind (head_rule mapping) before head) (first_along (flaw_behind (head_rule mapping)) (before ++ head ∷ []) rest) none in
      let holds = head_holds before head (none_before_map _ (head_rule mapping before head) here) in
      let (top, feeds) = along (before ++ head ∷ []) rest (one_more before head ends holds.later) later in
      (subst EndLast (append_assoc before (head ∷ []) rest) top, and_from _ _ holds.feeds feeds)

  none_ends : EndLast []
  none_ends load e = absurd (false≢true e)

  module _ (heads : List WindowHead) (sound : head_flaw mapping heads ≡ None) where
    pub ends_last : EndLast heads
    ends_last = (along [] heads none_ends sound).0

    pub heads_fed : list_all has_feeds heads ≡ true
    heads_fed = (along [] heads none_ends sound).1
