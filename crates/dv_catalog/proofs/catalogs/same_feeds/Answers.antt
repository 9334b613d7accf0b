use Rattle.dv_catalog.proofs.Vocabulary.{Decides, Decides-eqb, Decides-like, Parent, ap, false, true, ◌≡◌}
use Rattle.dv_catalog.specs.declared.entries.Parent.TheVariants.{Hub, Link}
use Rattle.dv_catalog.proofs.SameEntries.{feeds_decide}
use Rattle.dv_catalog.specs.contracts.entries.ParentPartialEq.TheImpl as derived
use Rattle.dv_catalog.proofs.catalogs.same_feeds.Goals as goal

parent_decides : (a b : Parent) → Decides (derived.eq-value.it a b) (a ≡ b)
parent_decides (Hub a) (Hub b) = Decides-like _ (λ e. ap Hub e) (λ e. cc) (Decides-eqb a b)
parent_decides (Link a) (Link b) = Decides-like _ (λ e. ap Link e) (λ e. cc) (Decides-eqb a b)
parent_decides (Hub a) (Link b) = (λ e. let no : false ≡ true = e in cc, λ e. cc)
parent_decides (Link a) (Hub b) = (λ e. let no : false ≡ true = e in cc, λ e. cc)

pub returns : goal.returns
returns c = feeds_decide derived.eq-value.it parent_decides c.args.some.now c.args.other.now c.eq.result c.eq.ensures
