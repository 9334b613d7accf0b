use Rattle.dv_track.proofs.Vocabulary.{all_pass, le-leb, nat_le, sym, up_to_last}
use Rattle.dv_track.proofs.loads.last_load.Goals as goal

pub returns-in-Some : goal.returns-in-Some
returns-in-Some g c =
    let place = g.R.Placed.place in
    let rows = c.args.rows.now in
    let last = c.in-Some.row.now in
    rw c.load.ensures (all_pass (λ row. nat_le (place row).load (place last).load) rows (λ row has. le-leb (place row).load (place last).load (up_to_last place rows last c.requires (sym c.in-Some.ensures.value) row has)))
