-- Driving keys beside the references that they stand in.
use Rattle.std.specs.Prelude.{◌≡◌, ℕ, refl, List, Bool, Option, option_map}
use Rattle.std.specs.FinMap.{IsAntisymmetric, slice_cmp-IsAntisymmetric}
use Rattle.std.specs.Ordering.{ordering_then}
use Rattle.std.specs.declared.cmp.Ordering.{Ordering}
use Rattle.dv_text.specs.Exact.{both_tied, key_cmp-IsAntisymmetric}
use Rattle.dv_text.specs.Keys.{refs_eq}
use Rattle.dv_text.specs.Orders.{refs_cmp}
use Rattle.dv_text.specs.PrefixLaws.{first_agrees, key_agrees}
use Rattle.dv_text.specs.Prefixes.{Agrees, first_prefix, key_prefix}
use Rattle.dv_text.specs.declared.rows.Key.{Key}
use Rattle.dv_text.specs.declared.rows.NRow.{NRow}
use Rattle.dv_catalog.specs.declared.entries.FeedDef.{FeedDef}
use Rattle.dv_catalog.specs.Records.{driver_keys}
use Rattle.dv_stage.specs.declared.partners.Partner.{Partner}
use Rattle.dv_stage.specs.Neighbours.{first_neighbour}

-- the driving keys and the references of a row
abbrev pub partner_of : FeedDef → NRow → Partner
partner_of feed row = record { driver = driver_keys feed row; refs = row.refs }

-- by driving keys, then references
abbrev pub partner_cmp : Partner → Partner → Ordering
partner_cmp a b = ordering_then (refs_cmp a.driver b.driver) (refs_cmp a.refs b.refs)

-- whether two stand beside the same driving keys
abbrev pub share_driver : Partner → Partner → Bool
share_driver p q = refs_eq p.driver q.driver

-- the first driving keys that the next ones equal
abbrev pub first_pair : List Partner → Option (List Key)
first_pair partners = option_map (λ p. p.driver) (first_neighbour share_driver partners)

-- the number of the first driving key
abbrev pub partner_prefix : Partner → ℕ
partner_prefix p = first_prefix key_prefix p.driver

pub partner_agrees : Agrees partner_prefix partner_cmp
partner_agrees x y lt = rw (first_agrees key_agrees x.driver y.driver lt) refl

pub partner_cmp-IsAntisymmetric : IsAntisymmetric partner_cmp
partner_cmp-IsAntisymmetric x y e =
    let tied = both_tied _ _ e in
    let driver = slice_cmp-IsAntisymmetric key_cmp-IsAntisymmetric x.driver y.driver tied.0 in
    let refs = slice_cmp-IsAntisymmetric key_cmp-IsAntisymmetric x.refs y.refs tied.1 in
    λ i. record { driver = driver i; refs = refs i }
