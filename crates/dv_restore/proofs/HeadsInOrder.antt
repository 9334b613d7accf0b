-- The load dates of sealed windows ascend where their heads break no rule, and with one more that is later than the last.
use Rattle.dv_restore.proofs.Vocabulary.{List, Mapping, None, WindowHead, [], ap, append-nil, append_assoc, are_in_order, ascends, first_along, flaw_behind, head_flaw, head_rule, last_sealed, late_after, loads_ascend, map, map-append, none_before_map, or_none, refl, subst, sym, true}
use Rattle.dv_restore.proofs.Vocabulary.{ℕ, ◌++◌, ◌∙◌, ◌∷◌, ◌≡◌}
use Rattle.dv_restore.proofs.{HeadsHeld.head_holds, KeptTables.not_late}

-- their load dates, and one that is later than the last
pub later_ascends : (heads : List WindowHead) (load : ℕ) → are_in_order heads ≡ true → late_after (last_sealed heads) load ≡ None → ascends (map (λ head. head.load) heads ++ load ∷ []) ≡ true
later_ascends heads load up late =
    loads_ascend (map (λ (head : WindowHead). head.load) heads) load up late

pub one_later : (heads : List WindowHead) (head : WindowHead) → are_in_order heads ≡ true → late_after (last_sealed heads) head.load ≡ None → are_in_order (heads ++ head ∷ []) ≡ true
one_later heads head up late = ap ascends (map-append (λ (head : WindowHead). head.load) heads (head ∷ [])) ∙ later_ascends heads head.load up late

module _ (mapping : Mapping) where
  along : (before rest : List WindowHead) → are_in_order before ≡ true → first_along (flaw_behind (head_rule mapping)) before rest ≡ None → are_in_order (before ++ rest) ≡ true
  along before [] up none = subst (λ heads. are_in_order heads ≡ true) (sym (append-nil before)) up
  along before (head ∷ rest) up none =
      let (here, later) = or_none (flaw_behind (head_rule mapping) before head) (first_along (flaw_behind (head_rule mapping)) (before ++ head ∷ []) rest) none in
      let holds = head_holds mapping before head (none_before_map _ (head_rule mapping before head) here) in
      let grown = one_later before head up (not_late before head.load holds.later) in
      subst (λ heads. are_in_order heads ≡ true) (append_assoc before (head ∷ []) rest) (along (before ++ head ∷ []) rest grown later)

  pub in_order : (heads : List WindowHead) → head_flaw mapping heads ≡ None → are_in_order heads ≡ true
  in_order heads sound = along [] heads refl sound
