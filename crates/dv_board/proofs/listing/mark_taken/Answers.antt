use Rattle.dv_board.proofs.Vocabulary.{AreMarked, ap, arith, length, length-set, slots_items, subst, sym, true, ◌+◌, ◌-◌, ◌∙◌}
use Rattle.dv_board.proofs.{Listed.marks_skip, Listed.marks_word, Listed.at_word, listing.mark_taken.Goals.then-word-ne0, listing.mark_taken.Goals.else-word-ne0}
use Rattle.dv_board.proofs.listing.mark_taken.Goals as goal

pub index_mut-requires : goal.index_mut-requires
index_mut-requires c =
    let words = slots_items c.args.closed.now.words in
    let word = at_word words _ _ c.word-word.ensures in
    let len = c.loop-slot.invariant.len in
    let below = c.requires.below c.loop-slot.slot (λ e. c.if-word-ne0.true (sym word ∙ e)) in
    omega (arith, word, len, below)

pub loop-slot-preserved : goal.loop-slot-preserved
loop-slot-preserved c =
    let words = slots_items c.args.closed.now.words in
    let i = c.loop-slot.invariant in
    let n = c.word-word.result in
    let word = at_word words _ _ c.word-word.ensures in
    elim c.if-word-ne0.branch [
      | then-word-ne0 w ↦
          let len = i.len in
          let below = c.requires.below c.loop-slot.slot (λ e. w.if-word-ne0.true (sym word ∙ e)) in
          let items = ap (λ v. v.items) w.marks-is in record {
            len = ap length items ∙ (length-set c.loop-slot.marks.items (n - 1) true ∙ i.len);
            marks = subst (AreMarked words (c.loop-slot.slot + 1)) (sym items) (marks_word words c.loop-slot.slot n _ i.marks word w.if-word-ne0.true (omega (arith, word, len, below)));
          }
      | else-word-ne0 w ↦
          let items = ap (λ v. v.items) w.marks-is in record {
            len = ap length items ∙ i.len;
            marks = subst (AreMarked words (c.loop-slot.slot + 1)) (sym items) (marks_skip words c.loop-slot.slot _ i.marks (word ∙ w.if-word-ne0.false));
          }
    ]
