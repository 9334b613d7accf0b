-- Keys and rows that tie in their order are equal.
use Rattle.std.specs.Prelude.{◌≡◌, refl}
use Rattle.std.specs.declared.cmp.Ordering.{Ordering}
use Rattle.std.specs.declared.cmp.Ordering.TheVariants.{Less, Equal, Greater}
use Rattle.std.specs.Ordering.{ordering_then}
use Rattle.std.specs.FinMap.{IsAntisymmetric, nat_cmp-IsAntisymmetric, slice_cmp-IsAntisymmetric}
use Rattle.dv_text.specs.Orders.{text_cmp, key_cmp, row_cmp}

pub both_tied : (r s : Ordering) → ordering_then r s ≡ Equal → (r ≡ Equal) × (s ≡ Equal)
both_tied Less s e = (e, cc)
both_tied Equal s e = (refl, e)
both_tied Greater s e = (e, cc)

pub text_cmp-IsAntisymmetric : IsAntisymmetric text_cmp
text_cmp-IsAntisymmetric = slice_cmp-IsAntisymmetric nat_cmp-IsAntisymmetric

pub key_cmp-IsAntisymmetric : IsAntisymmetric key_cmp
key_cmp-IsAntisymmetric x y e =
    let parts = slice_cmp-IsAntisymmetric text_cmp-IsAntisymmetric x.parts y.parts e in
    λ i. record { parts = parts i }

pub row_cmp-IsAntisymmetric : IsAntisymmetric row_cmp
row_cmp-IsAntisymmetric x y e =
    let first = both_tied _ _ e in
    let second = both_tied _ _ first.1 in
    let refs = slice_cmp-IsAntisymmetric key_cmp-IsAntisymmetric x.refs y.refs first.0 in
    let sub = slice_cmp-IsAntisymmetric text_cmp-IsAntisymmetric x.sub y.sub second.0 in
    let attrs = slice_cmp-IsAntisymmetric text_cmp-IsAntisymmetric x.attrs y.attrs second.1 in
    λ i. record { refs = refs i; sub = sub i; attrs = attrs i }
