use Rattle.dv_shown.proofs.Vocabulary.{refl}
use Rattle.dv_shown.proofs.heavy_rows.Goals as goal

pub returns : goal.returns
returns c =
    record {
      hub_full = λ others h. rw h refl;
      hub_heavy = λ others h. rw h refl;
      hub_heavy_first = λ others h. rw h refl;
      hub_twice = λ others h. rw h refl;
      hub_before = λ rows. refl;
      link_full = λ others h. rw h refl;
      link_heavy = λ others h. rw h refl;
      link_twice = λ others h. rw h refl;
      sat_full = λ others h. rw h refl;
      sat_heavy = λ others h. rw h refl;
      sat_astray = λ others h. refl;
      multi_full = λ others h. rw h refl;
      multi_heavy = λ others h. rw h refl;
      multi_astray = λ others h. refl;
      status_full = λ others h. rw h refl;
      status_heavy = λ others h. rw h refl;
      status_gone_first = λ others h. refl;
      effect_full = λ others h. rw h refl;
      effect_heavy = λ others h. rw h refl;
      effect_closed = λ others h. refl;
    }
