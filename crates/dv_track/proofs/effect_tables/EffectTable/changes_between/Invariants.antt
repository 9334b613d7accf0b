use Rattle.dv_track.proofs.Vocabulary.{IsStrictlySortedBy, digest_cmp, effect_turns, length, ◌++◌, ◌+◌, ◌≡◌}
use Rattle.dv_track.proofs.effect_tables.EffectTable.changes_between.Given as goal

-- the rows so far are before those of what is left of both lists
abbrev pub invariant-loop-head : goal.invariant-loop-head
invariant-loop-head l = record {
  rows : l.made ++ effect_turns l.source l.self.rows l.load l.was l.now ≡ effect_turns l.source l.self.rows l.load l.fn.was l.fn.now;
  was : IsStrictlySortedBy digest_cmp l.was;
  now : IsStrictlySortedBy digest_cmp l.now;
}

abbrev pub decreases-loop-head : goal.decreases-loop-head
decreases-loop-head l = length l.was + length l.now
