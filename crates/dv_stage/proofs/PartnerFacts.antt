-- Driving keys that stand beside themselves in a list in order.
use Rattle.dv_stage.proofs.Vocabulary.{Bool, Contains, Contains-cons_cases, Contains-cons_here, Contains-get_or, Contains-map, Equal, FeedDef, Greater, IsAntisymmetric, IsStrictlySortedBy, IsTotalOrder, Key, Less, Less-from_sorted, List, NRow, None, Ordering, Partner, Some, [], and_parts, ap}
use Rattle.dv_stage.proofs.Vocabulary.{arith, ascending-sorted_by, both_ways, cases_order, driver_keys, false, false_from_ne_true, filter, filter-none, filtered_members, first_neighbour, first_pair, get_or, greater_equal, inl, inr, length, less_equal, less_greater, list_any, made_of, map}
use Rattle.dv_stage.proofs.Vocabulary.{map_member, member_after_sort, member_before_sort, member_of_all, none_before_map, not, not-true, ordering_reverse, ordering_then, part_ways, partner_cmp, partner_of, refl, refs_cmp, refs_eq, refs_eq-Decides, refs_exact, refs_total, share_driver}
use Rattle.dv_stage.proofs.Vocabulary.{shared_drivers, slice_get, some_passes, some_passes_at, sorted_by, subst, suc, sym, then_less, tied_itself, true, ℕ, ◌<◌, ◌↔◌, ◌∙◌, ◌∷◌, ◌≡◌, ◌⊎◌}
use Rattle.dv_stage.proofs.Neighbouring.{by_places, first_neighbour-is, IsFirstNeighbour, none_pass, passes_next, tied}

refs_cmp-same : (a b : List Key) → a ≡ b → refs_cmp a b ≡ Equal
refs_cmp-same a b e = rw e (tied_itself refs_total b)

-- a partner is not before another of the same driving keys and references
same_partner : (p q : Partner) → p.driver ≡ q.driver → p.refs ≡ q.refs → partner_cmp p q ≡ Less → ⊥
same_partner p q driver refs e = by (then_less (refs_cmp p.driver q.driver) (refs_cmp p.refs q.refs) e)
  where
    by : (refs_cmp p.driver q.driver ≡ Less) ⊎ ((refs_cmp p.driver q.driver ≡ Equal) × (refs_cmp p.refs q.refs ≡ Less)) → ⊥
    by (inl less) = less_equal _ less (refs_cmp-same p.driver q.driver driver)
    by (inr (tied, less)) = less_equal _ less (refs_cmp-same p.refs q.refs refs)

-- a partner that is before another is not behind it by driving keys
not_behind : (p q : Partner) → partner_cmp p q ≡ Less → refs_cmp p.driver q.driver ≡ Greater → ⊥
not_behind p q e greater = by (then_less (refs_cmp p.driver q.driver) (refs_cmp p.refs q.refs) e)
  where
    by : (refs_cmp p.driver q.driver ≡ Less) ⊎ ((refs_cmp p.driver q.driver ≡ Equal) × (refs_cmp p.refs q.refs ≡ Less)) → ⊥
    by (inl less) = less_greater _ less greater
    by (inr (tied, less)) = greater_equal _ greater tied

-- one that stands between two of the same driving keys has these too
between : (p q r : Partner) → partner_cmp p q ≡ Less → partner_cmp q r ≡ Less → share_driver p r ≡ true → share_driver p q ≡ true
between p q r before behind shared =
    let same : p.driver ≡ r.driver = (refs_eq-Decides p.driver r.driver).0 shared in
    let back : ordering_then (refs_cmp q.driver p.driver) (refs_cmp q.refs r.refs) ≡ Less = rw same behind in
    (refs_eq-Decides p.driver q.driver).1 (refs_exact p.driver q.driver (tied refs_total p.driver q.driver (refs_cmp p.refs q.refs) (refs_cmp q.refs r.refs) before back).0)

-- where no driving keys stand beside themselves, each stands once
pub drivers_apart : (partners : List Partner) → IsStrictlySortedBy partner_cmp partners → first_pair partners ≡ None → (p q : Partner) → Contains partners p → Contains partners q
    → p.driver ≡ q.driver → p ≡ q
drivers_apart partners up none p q has_p has_q same =
    by_places partners p q has_p has_q (λ e. e)
    (λ i j before inside at_p at_q. absurd (alone i j p q before inside at_p at_q ((refs_eq-Decides p.driver q.driver).1 same)))
    (λ i j before inside at_q at_p. absurd (alone i j q p before inside at_q at_p ((refs_eq-Decides q.driver p.driver).1 (sym same))))
  where
    alone : (i j : ℕ) (a b : Partner) → i < j → j < length partners → get_or partners i a ≡ a → get_or partners j b ≡ b → share_driver a b ≡ true → ⊥
    alone i j a b = none_pass share_driver partner_cmp between partners i j a b up (none_before_map (λ (p : Partner). p.driver) (first_neighbour share_driver partners) none)

-- the first driving keys that stand beside themselves are the least that have several references
pub record IsLeastPair (partners : List Partner) (driver : List Key) : Type 0 where
  pub first : Partner
  pub second : Partner
  pub has_first : Contains partners first
  pub has_second : Contains partners second
  pub of_first : first.driver ≡ driver
  pub of_second : second.driver ≡ driver
  pub apart : first.refs ≡ second.refs → ⊥
  pub least : (p q : Partner) → Contains partners p → Contains partners q → p.driver ≡ q.driver → (p.refs ≡ q.refs → ⊥) → refs_cmp driver p.driver ≡ Greater → ⊥

pub least_pair : (partners : List Partner) (driver : List Key) → IsStrictlySortedBy partner_cmp partners → first_pair partners ≡ Some driver → IsLeastPair partners driver
least_pair partners driver up e = from (made_of (λ (p : Partner). p.driver) (first_neighbour share_driver partners) driver e)
  where
    from : (x : Partner) × (first_neighbour share_driver partners ≡ Some x) × (x.driver ≡ driver) → IsLeastPair partners driver
    from (x, found, is) = record {
      first = x;
      second = y;
      has_first = (f.place, omega (arith, f.inside), f.there x);
      has_second = Contains-get_or partners (suc f.place) x f.inside;
      of_first = is;
      of_second = sym same ∙ is;
      apart = λ refs. same_partner x y same refs (rw (f.there x) at (Less-from_sorted partner_cmp partners f.place (suc f.place) x up (omega arith) f.inside));
      least = λ p q has_p has_q shared differ greater.
          by_places partners p q has_p has_q (λ one. differ (ap (λ (z : Partner). z.refs) one))
          (λ i j before inside at_p at_q. late i j p q before inside at_p at_q shared greater)
          (λ i j before inside at_q at_p. late i j q p before inside at_q at_p (sym shared) (rw (← shared) greater));
    }
      where
        f : IsFirstNeighbour share_driver partners x
        f = first_neighbour-is share_driver partners x found

        y : Partner
        y = get_or partners (suc f.place) x

        same : x.driver ≡ y.driver
        same = (refs_eq-Decides x.driver y.driver).0 (f.passes x)

        late : (i j : ℕ) (a b : Partner) → i < j → j < length partners → get_or partners i a ≡ a → get_or partners j b ≡ b → a.driver ≡ b.driver → refs_cmp driver a.driver ≡ Greater → ⊥
        late i j a b before inside at_a at_b shared greater =
            let passes = passes_next share_driver partner_cmp between partners i j a b up before inside at_a at_b ((refs_eq-Decides a.driver b.driver).1 shared) in
            elim (cases_order f.place i) [
              | inl here ↦
                  let one : x ≡ a = sym (f.there a) ∙ (ap (λ k. get_or partners k a) here ∙ at_a) in
                  greater_equal _ greater (refs_cmp-same driver a.driver (sym is ∙ ap (λ (z : Partner). z.driver) one))
              | inr (inl behind) ↦
                  let less : partner_cmp x a ≡ Less = rw (f.there a, at_a) at (Less-from_sorted partner_cmp partners f.place i a up behind (omega arith)) in
                  not_behind x a less (rw is greater)
              | inr (inr early) ↦ both_ways _ (f.before i a early) passes
            ]

-- the least of the items is the first in order
least_first : {X : Type 0} (R : X → X → Ordering) → IsTotalOrder R → IsAntisymmetric R → (xs : List X) (m : X) → Contains xs m → ((x : X) → Contains xs x → R m x ≡ Greater → ⊥)
    → slice_get (sorted_by R xs) 0 ≡ Some m
unfolding IsStrictlySortedBy
least_first {X} R o exact xs m has least = by (sorted_by R xs) (ascending-sorted_by R o xs) (member_after_sort R xs m (λ x _. exact x m) has) (member_before_sort R xs)
  where
    by : (ys : List X) → IsStrictlySortedBy R ys → Contains ys m → ((z : X) → Contains ys z → Contains xs z) → slice_get ys 0 ≡ Some m
    by [] up has before = absurd (omega (arith, has.1))
    by (y ∷ ys) up has before =
        elim (Contains-cons_cases y ys m has) [
          | inl same ↦ ap Some same
          | inr rest ↦
              let less : R y m ≡ Less = member_of_all (λ z. R y z ≡ Less) ys m up.0 rest in
              absurd (least y (before y (Contains-cons_here y ys)) (o.antisymm m y ∙ ap ordering_reverse less))
        ]

-- rows of the same driving keys and different references
part : (feed : FeedDef) (a b : NRow) → part_ways feed a b ≡ true → (driver_keys feed a ≡ driver_keys feed b) × (a.refs ≡ b.refs → ⊥)
part feed a b e =
    let parts = and_parts (refs_eq (driver_keys feed a) (driver_keys feed b)) (not (refs_eq a.refs b.refs)) e in
    ((refs_eq-Decides (driver_keys feed a) (driver_keys feed b)).0 parts.0, λ same. both_ways (refs_eq a.refs b.refs) (not-true _ parts.1) ((refs_eq-Decides a.refs b.refs).1 same))

part_from : (feed : FeedDef) (a b : NRow) → driver_keys feed a ≡ driver_keys feed b → (a.refs ≡ b.refs → ⊥) → part_ways feed a b ≡ true
part_from feed a b same differ =
    rw ((refs_eq-Decides (driver_keys feed a) (driver_keys feed b)).1 same, false_from_ne_true (refs_eq a.refs b.refs) (λ e. differ ((refs_eq-Decides a.refs b.refs).0 e))) refl

module _ (feed : FeedDef) (rows : List NRow) (partners : List Partner) (up : IsStrictlySortedBy partner_cmp partners)
    (members : (p : Partner) → Contains partners p ↔ Contains (map (partner_of feed) rows) p) where
  of_row : (row : NRow) → Contains rows row → Contains partners (partner_of feed row)
  of_row row has = (members (partner_of feed row)).1 (Contains-map (partner_of feed) rows row has)

  -- no driving keys have several references
  pub shared-none : first_pair partners ≡ None → slice_get (shared_drivers feed rows) 0 ≡ None
  shared-none none = rw (filter-none (λ row. list_any (part_ways feed row) rows) rows alone) refl
    where
      alone : (row : NRow) → Contains rows row → list_any (part_ways feed row) rows ≡ false
      alone row has = false_from_ne_true (list_any (part_ways feed row) rows) (λ e.
          let (other, member, ways) = some_passes (part_ways feed row) rows e in
          let parts = part feed row other ways in
          let same = drivers_apart partners up none (partner_of feed row) (partner_of feed other) (of_row row has) (of_row other member) parts.0 in
          parts.1 (ap (λ (p : Partner). p.refs) same))

  -- the first pair has the least driving keys that have several
  pub shared-some : (driver : List Key) → first_pair partners ≡ Some driver → slice_get (shared_drivers feed rows) 0 ≡ Some driver
  shared-some driver e =
      least_first refs_cmp refs_total refs_exact (map (driver_keys feed) (filter test rows)) driver there below
    where
      test : NRow → Bool
      test row = list_any (part_ways feed row) rows

      found : IsLeastPair partners driver
      found = least_pair partners driver up e

      first : (a : NRow) × Contains rows a × (partner_of feed a ≡ found.first)
      first = map_member (partner_of feed) rows found.first ((members found.first).0 found.has_first)

      second : (b : NRow) × Contains rows b × (partner_of feed b ≡ found.second)
      second = map_member (partner_of feed) rows found.second ((members found.second).0 found.has_second)

      of_a : driver_keys feed first.0 ≡ driver
      of_a = ap (λ (p : Partner). p.driver) first.2 ∙ found.of_first

      of_b : driver_keys feed second.0 ≡ driver
      of_b = ap (λ (p : Partner). p.driver) second.2 ∙ found.of_second

      differ : first.0.refs ≡ second.0.refs → ⊥
      differ same = found.apart (sym (ap (λ (p : Partner). p.refs) first.2) ∙ same ∙ ap (λ (p : Partner). p.refs) second.2)

      there : Contains (map (driver_keys feed) (filter test rows)) driver
      there =
          let passes = some_passes_at (part_ways feed first.0) rows second.0 second.1 (part_from feed first.0 second.0 (of_a ∙ sym of_b) differ) in
          let kept = (filtered_members test rows first.0).1 (first.1, passes) in
          subst (Contains (map (driver_keys feed) (filter test rows))) of_a (Contains-map (driver_keys feed) (filter test rows) first.0 kept)

      below : (keys : List Key) → Contains (map (driver_keys feed) (filter test rows)) keys → refs_cmp driver keys ≡ Greater → ⊥
      below keys has greater =
          let (row, kept, is) = map_member (driver_keys feed) (filter test rows) keys has in
          let (member, passes) = (filtered_members test rows row).0 kept in
          let (other, has_other, ways) = some_passes (part_ways feed row) rows passes in
          let parts = part feed row other ways in
          found.least (partner_of feed row) (partner_of feed other) (of_row row member) (of_row other has_other) parts.0 parts.1
          (subst (λ (d : List Key). refs_cmp driver d ≡ Greater) (sym is) greater)
