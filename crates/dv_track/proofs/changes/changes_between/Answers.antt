use Rattle.dv_track.proofs.Vocabulary.{Some, ap, append_assoc, change_between, changes_between, least, option_to_list, refl, sym, ◌++◌, ◌∙◌, ◌≡◌}
use Rattle.dv_track.proofs.Walked.{head_first, head_there, left, left_ascends}
use Rattle.dv_track.proofs.changes.changes_between.Goals as goal

pub loop-head-preserved : goal.loop-head-preserved
loop-head-preserved c =
    let source = c.args.source.now in
    let load = c.args.load in
    let was = c.loop-head.was.now in
    let now = c.loop-head.now.now in
    let head = c.in-Some.head in
    let so_far = c.loop-head.invariant in
    let found : least was now ≡ Some head = sym c.in-Some.ensures in
    let there = head_there was now head so_far.was so_far.now found in
    let row : c.in_ok-row.row ≡ change_between source load was now head.parent = c.in_ok-row.ensures ∙ rw (there.0, there.1) refl in
    record {
      rows =
          rw (c.in_ok-add.ensures, c.left-was.ensures, c.left-now.ensures, row)
          (append_assoc c.loop-head.made (option_to_list (change_between source load was now head.parent)) (changes_between source load (left head.was was) (left head.now now))
          ∙ ap (λ l. c.loop-head.made ++ l) (sym (head_first was now head so_far.was so_far.now found source load))
          ∙ so_far.rows);
      was = rw c.left-was.ensures (left_ascends head.was was so_far.was);
      now = rw c.left-now.ensures (left_ascends head.now now so_far.now);
    }
