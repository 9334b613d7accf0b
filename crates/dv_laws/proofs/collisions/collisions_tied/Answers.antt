use Rattle.dv_laws.proofs.Vocabulary.{collision_free, collision_tied, none_collide}
use Rattle.dv_laws.proofs.collisions.collisions_tied.Goals as goal

pub returns : goal.returns
returns c = record { free = collision_free; least = collision_tied; none = none_collide }
