use Rattle.dv_track.proofs.Vocabulary.{All-map, StatusRow, list_all-map, nat_le, sym, ◌∙◌, ◌≡◌}
use Rattle.dv_track.proofs.status_tables.StatusTable.additions.Goals as goal

pub delta-requires-clause-not_later : goal.delta-requires-clause-not_later
delta-requires-clause-not_later c = sym (list_all-map (λ load. nat_le load c.args.load) (λ (row : StatusRow). row.load) c.args.self.now.rows) ∙ c.requires.not_later

pub returns-in_ok-rows-in-Some-clause-stamped : goal.returns-in_ok-rows-in-Some-clause-stamped
returns-in_ok-rows-in-Some-clause-stamped c = All-map (λ load. load ≡ c.args.load) (λ (row : StatusRow). row.load) c.in_ok-rows-in-Some.rows c.in_ok-rows-in-Some.ensures.stamped
