use Rattle.dv_window.proofs.Vocabulary.{Pit, Pits, SnapTable, [], ap, pit_table, refl}
use Rattle.dv_window.proofs.SnapTables.{one_id_more, one_more}
use Rattle.dv_window.proofs.snapshot_tables.pit_tables.Goals as goal

pub loop-hub-preserved : goal.loop-hub-preserved
loop-hub-preserved c =
    let vault = c.args.vault.now in
    let hub = c.loop-hub.hub in
    let table : SnapTable = record { id = Pit hub; rows = Pits c.in_ok-rows.rows } in
    record {
      tables = λ hashes sealed has.
          one_more (pit_table vault.mapping hashes sealed c.args.date) hub [] c.loop-hub.tables c.push.new.self table (c.loop-hub.invariant.tables hashes sealed has)
          (ap (λ rows. record { id = Pit hub; rows = Pits rows }) (c.in_ok-rows.ensures.pit hashes sealed has)) c.in_ok-push.ensures.ok;
      ids = one_id_more (λ hub. Pit hub) hub [] c.loop-hub.tables c.push.new.self table c.loop-hub.invariant.ids refl c.in_ok-push.ensures.ok;
    }
