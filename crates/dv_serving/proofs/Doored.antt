-- How the connections of doors follow one another.
use Rattle.dv_serving.proofs.Vocabulary.{DoorsEnd, Failed, GivesNext, IfSome, Lines, List, None, Option, Passes, PassesTold, Reply, Request, Result, Served, ServesDoors, ServesEach, ServesLine, Some, Tells, WireError, [], ap, append-nil, append_assoc, arith, length, length-append, most_lines}
use Rattle.dv_serving.proofs.Vocabulary.{refl, subst, sym, with_back, ℕ, ◌++◌, ◌+◌, ◌∙◌, ◌∷◌, ◌≡◌, ◌≤◌}

module _ {L M : Type 0} (turn : M → Request → Reply → M → Type 0) (refusal : WireError → Option Reply) (tells : Tells L) where
  -- one more connection is served behind others
  pub each_more : (before mid now : M) (how : Served) (line back : L) (lines backs : List L) → ServesEach turn refusal tells lines backs before mid
      → ServesLine turn refusal tells line back mid now how → ServesEach turn refusal tells (lines ++ line ∷ []) (backs ++ back ∷ []) before now
  each_more before mid now how line back [] [] is serves =
      (now, how, subst (λ m. ServesLine turn refusal tells line back m now how) is serves, refl)
  each_more before mid now how line back (first ∷ lines) (came ∷ backs) (next, ended, served, each) serves = (next, ended, served, each_more next mid now how line back lines backs each serves)
  each_more before mid now how line back [] (came ∷ backs) none serves = absurd none
  each_more before mid now how line back (first ∷ lines) [] none serves = absurd none

module _ {L : Type 0} where
  none_passed : (old : Lines L) → PassesTold old old [] []
  none_passed old = record { coming = refl; given = omega arith; served = sym (append-nil old.served) }

  pub passes_none : (old : Option (Lines L)) → Passes old old [] []
  passes_none None = refl
  passes_none (Some old) = (old, refl, none_passed old)

  module _ (line back : L) where
    -- what is left where the first connection of some is given and comes back
    abbrev passed : Lines L → List L → Lines L
    passed lines rest = record { coming = rest; given = lines.given + 1; served = lines.served ++ back ∷ [] }

    told_more : (old mid : Lines L) (rest lines backs : List L) → PassesTold old mid lines backs → mid.coming ≡ line ∷ rest → PassesTold old (passed mid rest) (lines ++ line ∷ []) (backs ++ back ∷ [])
    told_more old mid rest lines backs told first = record {
      coming = told.coming ∙ ap (λ l. lines ++ l) first ∙ sym (append_assoc lines (line ∷ []) rest);
      given = omega (arith, told.given, length-append lines (line ∷ []));
      served = ap (λ l. l ++ back ∷ []) told.served ∙ append_assoc old.served backs (back ∷ []);
    }

    pub passes_more : (old mid taken new : Option (Lines L)) (lines backs : List L) → Passes old mid lines backs → GivesNext mid taken (Some line) → new ≡ with_back taken back
        → Passes old new (lines ++ line ∷ []) (backs ++ back ∷ [])
    passes_more None mid taken new lines backs none gives is =
        let taken_none : taken ≡ None = subst (λ m. GivesNext m taken (Some line)) none gives in
        is ∙ ap (λ t. with_back t back) taken_none
    passes_more (Some old) mid taken new lines backs (told, mid_is, passes) gives is =
        by (subst (λ m. GivesNext m taken (Some line)) mid_is gives)
      where
        by : GivesNext (Some told) taken (Some line) → Passes (Some old) new (lines ++ line ∷ []) (backs ++ back ∷ [])
        by (rest, first, taken_is) = (passed told rest, is ∙ ap (λ t. with_back t back) taken_is, told_more old told rest lines backs passes first)

  -- where no connection is left
  pub none_left : (mid new : Option (Lines L)) → GivesNext mid new None → (new ≡ mid) × IfSome new (λ lines. lines.coming ≡ [])
  none_left None new is = (is, subst (λ n. IfSome n (λ lines. lines.coming ≡ [])) (sym is) tt)
  none_left (Some lines) new (empty, is) = (is, subst (λ n. IfSome n (λ lines. lines.coming ≡ [])) (sym is) empty)

-- ---- the connections so far

-- so many connections were served and given back
pub record SoFar {L M : Type 0} (turn : M → Request → Reply → M → Type 0) (refusal : WireError → Option Reply) (tells : Tells L) (old new : Option (Lines L)) (before now : M) (count : ℕ) : Type 0 where
  pub lines : List L
  pub backs : List L
  pub each : ServesEach turn refusal tells lines backs before now
  pub passes : Passes old new lines backs
  pub counted : length lines ≡ count

module _ {L M : Type 0} (turn : M → Request → Reply → M → Type 0) (refusal : WireError → Option Reply) (tells : Tells L) (old : Option (Lines L)) (before : M) where
  pub none_served : SoFar turn refusal tells old old before before 0
  none_served = record { lines = []; backs = []; each = refl; passes = passes_none old; counted = refl }

  module _ (mid : Option (Lines L)) (now : M) (count : ℕ) (so_far : SoFar turn refusal tells old mid before now count) where
    pub served_more : (line back : L) (taken new : Option (Lines L)) (next : M) (how : Served) → GivesNext mid taken (Some line) → new ≡ with_back taken back
        → ServesLine turn refusal tells line back now next how → SoFar turn refusal tells old new before next (count + 1)
    served_more line back taken new next how gives is serves = record {
      lines = so_far.lines ++ line ∷ [];
      backs = so_far.backs ++ back ∷ [];
      each = each_more turn refusal tells before now next how line back so_far.lines so_far.backs so_far.each serves;
      passes = passes_more line back old mid taken new so_far.lines so_far.backs so_far.passes gives is;
      counted = omega (arith, length-append so_far.lines (line ∷ []), so_far.counted);
    }

    pub served_all : (new : Option (Lines L)) → new ≡ mid → count ≤ most_lines → (ended : Result (Unit {0}) Failed) → DoorsEnd count new ended
        → ServesDoors turn refusal tells old new before now ended
    served_all new same few ended ends = record {
      lines = so_far.lines;
      backs = so_far.backs;
      each = so_far.each;
      passes = subst (λ n. Passes old n so_far.lines so_far.backs) (sym same) so_far.passes;
      few = omega (arith, so_far.counted, few);
      ends = subst (λ n. DoorsEnd n new ended) (sym so_far.counted) ends;
    }
