use Rattle.dv_app.proofs.Vocabulary.{refl}
use Rattle.dv_app.proofs.loadings.begin_loading.Goals as goal

pub returns-clause-begun : goal.returns-clause-begun
returns-clause-begun c hashes = record {
  mapping_is = refl;
  refused_is = refl;
  ready = record { stands = c.in_ok-office.ensures.stands hashes; fresh = c.in_ok-office.ensures.fresh };
  refusal = λ so. cc;
}
