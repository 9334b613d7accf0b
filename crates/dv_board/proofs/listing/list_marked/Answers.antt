use Rattle.dv_board.proofs.Vocabulary.{List, ap, arith, length, length-set, marked, subst, sym, take, ℕ, ◌+◌, ◌∙◌, ◌≡◌}
use Rattle.dv_board.proofs.{Listed.listed_one, Listed.listed_none, listing.list_marked.Goals.then-marks-item, listing.list_marked.Goals.else-marks-item}
use Rattle.dv_board.proofs.listing.list_marked.Goals as goal

pub loop-item-preserved : goal.loop-item-preserved
loop-item-preserved c =
    let i = c.loop-item.invariant in
    let len = i.len in
    let below = c.loop-item-test.true in
    let listed = i.listed in
    let room = c.requires.room in
    elim c.if-marks-item.branch [
      | then-marks-item w ↦
          let more = w.listed-is in
          let items = ap (λ v. v.items) w.room-is in
          let put = listed_one c.args.marks.now c.loop-item.item c.loop-item.listed c.loop-item.room.items i.so_far w.if-marks-item.true (omega (arith, len, below, listed, room)) in record {
            len = ap length items ∙ (length-set c.loop-item.room.items c.loop-item.listed c.loop-item.item ∙ i.len);
            listed = omega (arith, more, listed);
            so_far = subst (λ (x : ℕ × List ℕ). take x.0 x.1 ≡ marked c.args.marks.now (c.loop-item.item + 1)) (λ j. (sym more j, sym items j)) put;
          }
      | else-marks-item w ↦
          let same = w.listed-is in
          let items = ap (λ v. v.items) w.room-is in
          let left = listed_none c.args.marks.now c.loop-item.item c.loop-item.listed c.loop-item.room.items i.so_far w.if-marks-item.false in record {
            len = ap length items ∙ i.len;
            listed = omega (arith, same, listed);
            so_far = subst (λ (x : ℕ × List ℕ). take x.0 x.1 ≡ marked c.args.marks.now (c.loop-item.item + 1)) (λ j. (sym same j, sym items j)) left;
          }
    ]
