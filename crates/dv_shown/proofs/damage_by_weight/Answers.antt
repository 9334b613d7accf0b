use Rattle.dv_shown.proofs.Vocabulary.{None, Option, Some, option_or, refl, unwrap_or, ℕ, ◌≡◌}
use Rattle.dv_shown.proofs.Limits.{above}
use Rattle.dv_shown.proofs.damage_by_weight.Goals as goal

-- of two rules one is broken where the last one is
or_some : (rule : Option ℕ) (last : ℕ) → option_or rule (Some last) ≡ Some (unwrap_or rule last)
or_some None last = refl
or_some (Some n) last = refl

pub returns : goal.returns
returns c =
    record {
      of_hub = λ known hub before row h. rw (above _ 1073741824 h) (simp (or_some));
      of_link = λ known link before row h. rw (above _ 1073741824 h) (simp (or_some));
      of_sat = λ known feed before row h. rw (above _ 1073741824 h) (simp (or_some));
      of_multi = λ known feed before row h. rw (above _ 1073741824 h) (simp (or_some));
      of_status = λ known feed before row h. rw (above _ 1073741824 h) (simp (or_some));
      of_effect = λ known feed before row h. rw (above _ 1073741824 h) (simp (or_some));
    }
