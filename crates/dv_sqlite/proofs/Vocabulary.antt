-- What the proofs of this crate, and of those above it, take from elsewhere.
pub use Rattle.dv_records.proofs.Vocabulary.{arith, refl, rules, subst, sym, ◌≡◌}
pub use Rattle.dv_sqlite.specs.Changes.{ChangedBoth}
pub use Rattle.sqlite.proofs.{Callers.survives_begin, StateLemmas.survives_then}
pub use Rattle.sqlite.specs.{Effect.Database, Held.state, State.HasCleanDisk, State.Survives, Tree.Trees, Values.bound}
