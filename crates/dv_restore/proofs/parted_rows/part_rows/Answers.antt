use Rattle.dv_restore.proofs.Vocabulary.{ap, arith, drop, filter, is_of_other, length, take, ◌∙◌, ◌≡◌}
use Rattle.dv_restore.proofs.PartedRows.{are_parted, front_within, up_to_rows}
use Rattle.dv_restore.proofs.parted_rows.part_rows.Goals as goal

pub split_off-requires : goal.split_off-requires
split_off-requires g c =
    let within = front_within g.R.Placed.place c.args.load c.args.rows c.requires.order (up_to_rows (λ row. (g.R.Placed.place row).load) c.args.load c.args.rows c.requires.dated) in
    let count : c.count_others-count.result ≡ length (filter (is_of_other g.R.Placed.place c.args.load) c.args.rows) = c.count_others-count.ensures ∙ ap (λ rows. length (filter (is_of_other g.R.Placed.place c.args.load) rows)) c.items.ensures in
    let long : length c.in_ok-sealed.sealed.items ≡ length c.args.rows = ap length (c.in_ok-sealed.ensures {u = tt}).ok in
    omega (arith, within, count, long, c.in_ok-sealed.sealed.ok)

pub returns : goal.returns
returns g c =
    let count : c.count_others-count.result ≡ length (filter (is_of_other g.R.Placed.place c.args.load) c.args.rows) = c.count_others-count.ensures ∙ ap (λ rows. length (filter (is_of_other g.R.Placed.place c.args.load) rows)) c.items.ensures in
    let all = (c.in_ok-sealed.ensures {u = tt}).ok in
    let taken : c.split_off.new.self.items ≡ take (length (filter (is_of_other g.R.Placed.place c.args.load) c.args.rows)) c.args.rows =
    (c.in_ok-opened.ensures {u = tt}).items ∙ (λ i. take (count i) (all i)) in
    let front : c.from_vec.result ≡ take (length (filter (is_of_other g.R.Placed.place c.args.load) c.args.rows)) c.args.rows = rw c.from_vec.ensures taken in
    let back : c.from_vec-2.result ≡ drop (length (filter (is_of_other g.R.Placed.place c.args.load) c.args.rows)) c.args.rows =
    c.from_vec-2.ensures ∙ (c.in_ok-opened.ensures {u = tt}).tail ∙ (λ i. drop (count i) (all i)) in
    are_parted g.R.Placed.place c.args.load c.args.rows _ _ c.requires.order (up_to_rows (λ row. (g.R.Placed.place row).load) c.args.load c.args.rows c.requires.dated) front back
