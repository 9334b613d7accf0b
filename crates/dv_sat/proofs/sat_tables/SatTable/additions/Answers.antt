use Rattle.dv_sat.proofs.Vocabulary.{All-map, SatRow, list_all-map, nat_le, sym, ◌∙◌, ◌≡◌}
use Rattle.dv_sat.proofs.sat_tables.SatTable.additions.Goals as goal

pub delta-requires-clause-not_later : goal.delta-requires-clause-not_later
delta-requires-clause-not_later g c κs within = sym (list_all-map (λ load. nat_le load c.args.load) (λ (row : SatRow). row.load) c.args.self.now.rows) ∙ c.requires.not_later

pub returns-in_ok-rows-in-Some-clause-stamped : goal.returns-in_ok-rows-in-Some-clause-stamped
returns-in_ok-rows-in-Some-clause-stamped g c = All-map (λ load. load ≡ c.args.load) (λ (row : SatRow). row.load) c.in_ok-rows-in-Some.rows c.in_ok-rows-in-Some.ensures.stamped
