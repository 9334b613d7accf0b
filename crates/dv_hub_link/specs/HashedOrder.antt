-- Reference lists with their hash keys, and pairs of lists, that tie in their order are one.
use Rattle.std.specs.Prelude.{◌≡◌, refl}
use Rattle.std.specs.declared.cmp.Ordering.{Ordering}
use Rattle.std.specs.declared.cmp.Ordering.TheVariants.{Less, Equal, Greater}
use Rattle.std.specs.Cmp.{IsTotalOrder, nat_cmp_total, on_total, then_total}
use Rattle.std.specs.Cmp.Lexicographic.{lists_total, nat_list_cmp_total}
use Rattle.std.specs.FinMap.{IsAntisymmetric, nat_cmp-IsAntisymmetric, slice_cmp-IsAntisymmetric}
use Rattle.std.specs.Ordering.{ordering_then}
use Rattle.dv_text.specs.Exact.{key_cmp-IsAntisymmetric}
use Rattle.dv_text.specs.declared.rows.Key.{Key}
use Rattle.dv_hub_link.specs.declared.hashed_lists.LentList.{LentList}
use Rattle.dv_hub_link.specs.HashedLists.{hashed_cmp, told}
use Rattle.dv_hub_link.specs.Rivalries.{rivals_cmp}

both_tied : (r s : Ordering) → ordering_then r s ≡ Equal → (r ≡ Equal) × (s ≡ Equal)
both_tied Less s e = (e, cc)
both_tied Equal s e = (refl, e)
both_tied Greater s e = (e, cc)

pub hashed_cmp-IsAntisymmetric : IsAntisymmetric hashed_cmp
hashed_cmp-IsAntisymmetric x y e =
    let first = both_tied _ _ e in
    let second = both_tied _ _ first.1 in
    let digest = slice_cmp-IsAntisymmetric nat_cmp-IsAntisymmetric x.digest y.digest first.0 in
    let refs = slice_cmp-IsAntisymmetric key_cmp-IsAntisymmetric x.refs y.refs second.0 in
    let feed = nat_cmp-IsAntisymmetric x.feed y.feed second.1 in
    λ i. record { digest = digest i; refs = refs i; feed = feed i }

pub rivals_cmp-IsAntisymmetric : IsAntisymmetric rivals_cmp
rivals_cmp-IsAntisymmetric x y e =
    let both = both_tied _ _ e in
    let first = slice_cmp-IsAntisymmetric key_cmp-IsAntisymmetric x.first y.first both.0 in
    let second = slice_cmp-IsAntisymmetric key_cmp-IsAntisymmetric x.second y.second both.1 in
    λ i. record { first = first i; second = second i }

-- lent lists in the order of what is said of them
abbrev pub lent_cmp : LentList → LentList → Ordering
lent_cmp a b = hashed_cmp (told a) (told b)

pub lent_total : IsTotalOrder lent_cmp
lent_total =
    then_total (on_total (λ (list : LentList). list.digest) nat_list_cmp_total)
    (then_total (on_total (λ (list : LentList). list.refs.now) (lists_total (on_total (λ (key : Key). key.parts) (lists_total nat_list_cmp_total)))) (on_total (λ (list : LentList). list.feed) nat_cmp_total))
