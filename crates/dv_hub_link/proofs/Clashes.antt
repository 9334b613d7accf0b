-- The least pair of rivals among hashed lists and held ones is the least clash, and there is no clash where there is none.
use Rattle.dv_hub_link.proofs.Vocabulary.{Bool, Contains, Contains-append_cases, Contains-append_left, Contains-append_right, Contains-cons_cases, Contains-cons_here, Contains-cons_there, Contains-map, Contains-nil, Equal, Greater, HasNoClash, Hashed, HashedList, IsClash, IsLeastClash}
use Rattle.dv_hub_link.proofs.Vocabulary.{IsStrictlySortedBy, IsTotalOrder, Key, LentList, Less, List, None, Option, Ordering, Pair, Rivals, Some, Standing, [], all_neighbours, all_rivals, ap, are_held_apart, ascending-sorted_by, asymmetric, bytes_eq, bytes_eq-Decides, clash, cons_option}
use Rattle.dv_hub_link.proofs.Vocabulary.{digest_cmp, false, filter_map, filter_map_member, find, finds, found_member, has_clash, hashed_cmp, hashed_cmp-IsAntisymmetric, held_rival, inl, inr, irreflexive, is_held, is_other, is_some, least_rivals, list_any, list_under, made_of, map, map-map}
use Rattle.dv_hub_link.proofs.Vocabulary.{map_member, member_after_sort, member_before_sort, member_of_all, member_of_filter_map, nat_cmp-IsAntisymmetric, nat_cmp_total, nat_list_cmp_total, neighbours, on_total, option_map, or_parts, refl, refs_cmp, refs_eq, refs_eq-Decides, refs_exact}
use Rattle.dv_hub_link.proofs.Vocabulary.{refs_total, rivals_cmp, rivals_cmp-IsAntisymmetric, rivals_of, slice_cmp-IsAntisymmetric, slice_get, sorted_by, standing, subst, sym, then_less, then_total, tied_itself, told, true, turned, ℕ, ◌++◌, ◌∙◌, ◌∷◌, ◌≡◌, ◌⊎◌}
use Rattle.dv_hub_link.proofs.{Held.one_held, Placed.some_found}

-- ---- orders

pub hashed_total : IsTotalOrder hashed_cmp
hashed_total = then_total (on_total (λ (h : HashedList). h.digest) nat_list_cmp_total) (then_total (on_total (λ (h : HashedList). h.refs) refs_total) (on_total (λ (h : HashedList). h.feed) nat_cmp_total))

rivals_total : IsTotalOrder rivals_cmp
rivals_total = then_total (on_total (λ (r : Rivals). r.first) refs_total) (on_total (λ (r : Rivals). r.second) refs_total)

pub same_digest : (a b : List ℕ) → digest_cmp a b ≡ Equal → a ≡ b
same_digest = slice_cmp-IsAntisymmetric nat_cmp-IsAntisymmetric

digests_tied : (a b : List ℕ) → a ≡ b → digest_cmp a b ≡ Equal
digests_tied a b same = subst (λ d. digest_cmp a d ≡ Equal) same (tied_itself nat_list_cmp_total a)

-- none is less than the first of some in order
none_less : {X : Type 0} {R : X → X → Ordering} → IsTotalOrder R → (x : X) (xs : List X) → IsStrictlySortedBy R (x ∷ xs) → (y : X) → Contains (x ∷ xs) y → R y x ≡ Less → ⊥
unfolding IsStrictlySortedBy
none_less {R = R} o x xs up y has less =
    elim (Contains-cons_cases x xs y has) [
      | inl is ↦ irreflexive o x (subst (λ w. R w x ≡ Less) (sym is) less)
      | inr rest ↦ asymmetric o y x less (member_of_all (λ w. R x w ≡ Less) xs y up.0 rest)
    ]

-- of lists in order with one hash key, the first one is less or the same
lists_between : (a b : HashedList) → hashed_cmp a b ≡ Less → a.digest ≡ b.digest → (refs_cmp a.refs b.refs ≡ Less) ⊎ (a.refs ≡ b.refs)
lists_between a b less same =
    let tied = digests_tied a.digest b.digest same in
    elim (then_less (refs_cmp a.refs b.refs) _ (rw tied at less)) [ inl lesser ↦ inl lesser | inr both ↦ inr (refs_exact a.refs b.refs both.0) ]

-- what stands between two of one digest has it
middle_digest : (a b c : HashedList) → hashed_cmp a b ≡ Less → hashed_cmp b c ≡ Less → a.digest ≡ c.digest → a.digest ≡ b.digest
middle_digest a b c ab bc same =
    elim (then_less (digest_cmp a.digest b.digest) _ ab) [
      | inl less ↦
          elim (then_less (digest_cmp b.digest c.digest) _ bc) [
            | inl more ↦ absurd (asymmetric nat_list_cmp_total a.digest b.digest less (subst (λ d. digest_cmp b.digest d ≡ Less) (sym same) more))
            | inr both ↦ same ∙ sym (same_digest b.digest c.digest both.0)
          ]
      | inr both ↦ same_digest a.digest b.digest both.0
    ]

-- ---- pairs

cons_option_here : {X : Type 0} (o : Option X) (xs : List X) (x : X) → o ≡ Some x → Contains (cons_option o xs) x
cons_option_here o xs x e = rw e (Contains-cons_here x xs)

cons_option_there : {X : Type 0} (o : Option X) (xs : List X) (x : X) → Contains xs x → Contains (cons_option o xs) x
cons_option_there None xs x has = has
cons_option_there (Some y) xs x has = Contains-cons_there y xs x has

cons_option_cases : {X : Type 0} (o : Option X) (xs : List X) (x : X) → Contains (cons_option o xs) x → (o ≡ Some x) ⊎ Contains xs x
cons_option_cases None xs x has = inr has
cons_option_cases (Some y) xs x has = elim (Contains-cons_cases y xs x has) [ inl same ↦ inl (ap Some same) | inr rest ↦ inr rest ]

abbrev as_pair : Rivals → Pair
as_pair rivals = record { first = rivals.first; second = rivals.second }

-- two lists, the lesser one first
abbrev both : List Key → List Key → Rivals
both a b = record { first = a; second = b }

-- some pair is not greater
abbrev IsMet : List Rivals → Rivals → Type 0
IsMet pairs pair = (met : Rivals) × Contains pairs met × ((rivals_cmp met pair ≡ Less) ⊎ (met ≡ pair))

met_more : (last : HashedList) (rest : List HashedList) (pair : Rivals) → IsMet (all_neighbours rest) pair → IsMet (all_neighbours (last ∷ rest)) pair
met_more last [] pair is = is
met_more last (next ∷ rest) pair (met, has, most) = (met, cons_option_there (neighbours last next) (all_neighbours (next ∷ rest)) met has, most)

-- a list before a greater one with its hash key has neighbours that are not greater
near : (x : HashedList) (rest : List HashedList) → IsStrictlySortedBy hashed_cmp (x ∷ rest) → (y : HashedList) → Contains rest y → x.digest ≡ y.digest → refs_cmp x.refs y.refs ≡ Less → IsMet (all_neighbours (x ∷ rest)) (both x.refs y.refs)
unfolding IsStrictlySortedBy
near x [] up y has same less = Contains-nil y has
near x (next ∷ rest) up y has same less =
    elim (Contains-cons_cases next rest y has) [
      | inl is ↦ beside (same ∙ ap (λ (h : HashedList). h.digest) (sym is)) (subst (λ (h : HashedList). refs_cmp x.refs h.refs ≡ Less) (sym is) less) (inr (ap (λ (h : HashedList). h.refs) is))
      | inr far ↦
          let behind : hashed_cmp next y ≡ Less = member_of_all (λ w. hashed_cmp next w ≡ Less) rest y up.1.0 far in
          let middle = middle_digest x next y up.0.0 behind same in
          elim (lists_between x next up.0.0 middle) [
            | inl greater ↦ beside middle greater (lists_between next y behind (sym middle ∙ same))
            | inr is ↦
                subst (λ r. IsMet (all_neighbours (x ∷ next ∷ rest)) (both r y.refs)) (sym is)
                (met_more x (next ∷ rest) (both next.refs y.refs) (near next rest up.1 y far (sym middle ∙ same) (subst (λ r. refs_cmp r y.refs ≡ Less) is less)))
          ]
    ]
  where
    beside : x.digest ≡ next.digest → refs_cmp x.refs next.refs ≡ Less → (refs_cmp next.refs y.refs ≡ Less) ⊎ (next.refs ≡ y.refs) → IsMet (all_neighbours (x ∷ next ∷ rest)) (both x.refs y.refs)
    beside digest greater most =
        let alike = (bytes_eq-Decides x.digest next.digest).1 digest in
        let tied = tied_itself refs_total x.refs in
        (both x.refs next.refs, cons_option_here _ (all_neighbours (next ∷ rest)) _ (rw (alike, greater) refl), elim most [ inl lesser ↦ inl (rw (tied, lesser) refl) | inr is ↦ inr (ap (both x.refs) is) ])

-- so have any two of lists in order
has_neighbours : (lists : List HashedList) → IsStrictlySortedBy hashed_cmp lists → (x y : HashedList) → Contains lists x → Contains lists y → x.digest ≡ y.digest → refs_cmp x.refs y.refs ≡ Less
    → IsMet (all_neighbours lists) (both x.refs y.refs)
unfolding IsStrictlySortedBy
has_neighbours [] up x y x_in y_in same less = Contains-nil x x_in
has_neighbours (last ∷ rest) up x y x_in y_in same less =
    elim (Contains-cons_cases last rest y y_in) [
      | inl is ↦
          let tied = digests_tied x.digest y.digest same in
          absurd (none_less hashed_total last rest up x x_in (subst (λ w. hashed_cmp x w ≡ Less) (sym is) (rw (tied, less) refl)))
      | inr y_more ↦
          elim (Contains-cons_cases last rest x x_in) [
            | inl is ↦
                subst (λ (w : HashedList). IsMet (all_neighbours (last ∷ rest)) (both w.refs y.refs)) is
                (near last rest up y y_more (ap (λ (h : HashedList). h.digest) is ∙ same) (subst (λ (h : HashedList). refs_cmp h.refs y.refs ≡ Less) (sym is) less))
            | inr x_more ↦ met_more last rest (both x.refs y.refs) (has_neighbours rest up.1 x y x_more y_more same less)
          ]
    ]

-- the pair of two lists with one hash key is a clash
pair_clashes : (all : List Hashed) (digest : List ℕ) (a b : List Key) (pair : Rivals) → Contains all (record { digest = digest; refs = a }) → Contains all (record { digest = digest; refs = b }) → rivals_of a b ≡ Some pair
    → IsClash all (as_pair pair)
pair_clashes all digest a b pair a_in b_in e = by (refs_cmp a b) refl
  where
    by : (o : Ordering) → refs_cmp a b ≡ o → IsClash all (as_pair pair)
    by Less f =
        let is : Some (both a b) ≡ Some pair = rw f at e in
        let same : both a b ≡ pair = cc in
        subst (λ r. IsClash all (as_pair r)) same (record { digest = digest; has_first = a_in; has_second = b_in; ordered = f })
    by Equal f = let no : None ≡ Some pair = rw f at e in cc
    by Greater f =
        let is : Some (both b a) ≡ Some pair = rw f at e in
        let same : both b a ≡ pair = cc in
        subst (λ r. IsClash all (as_pair r)) same (record { digest = digest; has_first = b_in; has_second = a_in; ordered = turned refs_total a b f })

-- ---- the lists and the held ones together

abbrev pub as_hashed : HashedList → Hashed
as_hashed h = record { digest = h.digest; refs = h.refs }

neighbours_clash : (all : List Hashed) (lists : List HashedList) → ((h : HashedList) → Contains lists h → Contains all (as_hashed h)) → (pair : Rivals) → Contains (all_neighbours lists) pair → IsClash all (as_pair pair)
neighbours_clash all [] within pair has = Contains-nil pair has
neighbours_clash all (last ∷ []) within pair has = Contains-nil pair has
neighbours_clash all (last ∷ next ∷ rest) within pair has =
    elim (cons_option_cases (neighbours last next) (all_neighbours (next ∷ rest)) pair has) [
      | inl here ↦ by here (bytes_eq last.digest next.digest) refl
      | inr more ↦ neighbours_clash all (next ∷ rest) (λ h h_in. within h (Contains-cons_there last (next ∷ rest) h h_in)) pair more
    ]
  where
    by : neighbours last next ≡ Some pair → (t : Bool) → bytes_eq last.digest next.digest ≡ t → IsClash all (as_pair pair)
    by here true t =
        let digest = (bytes_eq-Decides last.digest next.digest).0 t in
        pair_clashes all next.digest last.refs next.refs pair (subst (λ d. Contains all (record { digest = d; refs = last.refs })) digest (within last (Contains-cons_here last (next ∷ rest))))
        (within next (Contains-cons_there last (next ∷ rest) next (Contains-cons_here next rest))) (rw t at here)
    by here false t = let no : None ≡ Some pair = rw t at here in cc

module _ (held : List Hashed) (apart : are_held_apart held ≡ true) (items : List HashedList) where
  abbrev lists : List HashedList
  lists = sorted_by hashed_cmp items

  abbrev all : List Hashed
  all = map as_hashed items ++ held

  list_in : (h : HashedList) → Contains lists h → Contains all (as_hashed h)
  list_in h has = Contains-append_left (map as_hashed items) held _ (Contains-map as_hashed items h (member_before_sort hashed_cmp items h has))

  cases : (entry : Hashed) → Contains all entry → ((h : HashedList) × Contains lists h × (as_hashed h ≡ entry)) ⊎ Contains held entry
  cases entry has =
      elim (Contains-append_cases (map as_hashed items) held entry has) [
        | inl here ↦ let (h, member, is) = map_member as_hashed items entry here in inl (h, member_after_sort hashed_cmp items h (λ x x_in e. hashed_cmp-IsAntisymmetric x h e) member, is)
        | inr far ↦ inr far
      ]

  -- the held one that a list under a hash key is
  held_clash : (h : HashedList) (pair : Rivals) → Contains lists h → held_rival held h ≡ Some pair → IsClash all (as_pair pair)
  held_clash h pair h_in e = by (list_under h.digest held) refl
    where
      by : (o : Option (List Key)) → list_under h.digest held ≡ o → IsClash all (as_pair pair)
      by None f = let no : None ≡ Some pair = rw f at e in cc
      by (Some refs) f =
          let (other, there, is) = made_of (λ (o : Hashed). o.refs) (find (λ (o : Hashed). bytes_eq o.digest h.digest) held) refs f in
          let (member, same) = found_member (λ (o : Hashed). bytes_eq o.digest h.digest) held other there in
          let digest = (bytes_eq-Decides other.digest h.digest).0 same in
          pair_clashes all h.digest refs h.refs pair (subst (Contains all) (λ i. record { digest = digest i; refs = is i }) (Contains-append_right (map as_hashed items) held other member)) (list_in h h_in) (rw f at e)

  -- a held one is found under its hash key
  held_met : (h : HashedList) (other : Hashed) (pair : Rivals) → Contains lists h → Contains held other → other.digest ≡ h.digest → rivals_of other.refs h.refs ≡ Some pair → IsMet (all_rivals held lists) pair
  held_met h other pair h_in other_in same e =
      let (found, there) = finds (λ (o : Hashed). bytes_eq o.digest h.digest) held other other_in ((bytes_eq-Decides other.digest h.digest).1 same) in
      let (found_in, alike) = found_member (λ (o : Hashed). bytes_eq o.digest h.digest) held found there in
      let is : found ≡ other = one_held held apart found other found_in other_in ((bytes_eq-Decides found.digest h.digest).0 alike ∙ sym same) in
      let list : list_under h.digest held ≡ Some other.refs = ap (option_map (λ (o : Hashed). o.refs)) there ∙ ap (λ (o : Hashed). Some o.refs) is in
      (pair, Contains-append_right (all_neighbours lists) (filter_map (held_rival held) lists) pair (member_of_filter_map (held_rival held) lists h pair h_in (rw list e)), inr refl)

  -- two different lists with one hash key have rivals that are not greater
  entries_met : (a b : Hashed) → ((h : HashedList) × Contains lists h × (as_hashed h ≡ a)) ⊎ Contains held a → ((h : HashedList) × Contains lists h × (as_hashed h ≡ b)) ⊎ Contains held b → a.digest ≡ b.digest → refs_cmp a.refs b.refs ≡ Less
      → IsMet (all_rivals held lists) (both a.refs b.refs)
  entries_met a b (inl (x, x_in, x_is)) (inl (y, y_in, y_is)) same less =
      let (met, has, most) = has_neighbours lists (ascending-sorted_by hashed_cmp hashed_total items) x y x_in y_in
      (ap (λ (o : Hashed). o.digest) x_is ∙ same ∙ ap (λ (o : Hashed). o.digest) (sym y_is)) ((λ i. refs_cmp (x_is i).refs (y_is i).refs) ∙ less) in
      subst (IsMet (all_rivals held lists)) (λ i. both (x_is i).refs (y_is i).refs) (met, Contains-append_left (all_neighbours lists) (filter_map (held_rival held) lists) met has, most)
  entries_met a b (inl (x, x_in, x_is)) (inr b_in) same less =
      let other : refs_cmp b.refs a.refs ≡ Greater = refs_total.antisymm b.refs a.refs ∙ rw less refl in
      held_met x b (both a.refs b.refs) x_in b_in (sym same ∙ ap (λ (o : Hashed). o.digest) (sym x_is)) (ap (λ (o : Hashed). rivals_of b.refs o.refs) x_is ∙ rw other refl)
  entries_met a b (inr a_in) (inl (y, y_in, y_is)) same less = held_met y a (both a.refs b.refs) y_in a_in (same ∙ ap (λ (o : Hashed). o.digest) (sym y_is)) (ap (λ (o : Hashed). rivals_of a.refs o.refs) y_is ∙ rw less refl)
  entries_met a b (inr a_in) (inr b_in) same less = absurd (irreflexive refs_total a.refs (subst (λ (o : Hashed). refs_cmp a.refs o.refs ≡ Less) (sym (one_held held apart a b a_in b_in same)) less))

  -- a clash has one of the least pair at most
  clash_met : (pair : Pair) → IsClash all pair → IsMet (sorted_by rivals_cmp (all_rivals held lists)) (both pair.first pair.second)
  clash_met pair is =
      let (met, has, most) = entries_met _ _ (cases _ is.has_first) (cases _ is.has_second) refl is.ordered in
      (met, member_after_sort rivals_cmp (all_rivals held lists) met (λ x member e. rivals_cmp-IsAntisymmetric x met e) has, most)

  -- where there are no rivals, there is no clash
  pub no_clash : least_rivals held lists ≡ None → HasNoClash all
  no_clash e pair is = let (met, has, most) = clash_met pair is in nothing (sorted_by rivals_cmp (all_rivals held lists)) e has
    where
      nothing : (xs : List Rivals) → slice_get xs 0 ≡ None → {x : Rivals} → Contains xs x → ⊥
      nothing [] e {x} has = Contains-nil x has
      nothing (y ∷ xs) e has = cc

  -- the least rivals are the least clash
  pub least_clash : (rivals : Rivals) → least_rivals held lists ≡ Some rivals → IsLeastClash all (record { first = rivals.first; second = rivals.second })
  least_clash rivals e = by (sorted_by rivals_cmp (all_rivals held lists)) refl (ascending-sorted_by rivals_cmp rivals_total (all_rivals held lists))
    where
      clashes : Contains (all_rivals held lists) rivals → IsClash all (as_pair rivals)
      clashes has =
          elim (Contains-append_cases (all_neighbours lists) (filter_map (held_rival held) lists) rivals has) [
            | inl near ↦ neighbours_clash all lists list_in rivals near
            | inr far ↦ let (h, h_in, is) = filter_map_member (held_rival held) lists rivals far in held_clash h rivals h_in is
          ]

      by : (xs : List Rivals) → sorted_by rivals_cmp (all_rivals held lists) ≡ xs → IsStrictlySortedBy rivals_cmp xs → IsLeastClash all (as_pair rivals)
      by [] f up = let no : None ≡ Some rivals = rw f at e in cc
      by (first ∷ rest) f up =
          let is : Some first ≡ Some rivals = rw f at e in
          let same : first ≡ rivals = cc in
          record {
            is = clashes (member_before_sort rivals_cmp (all_rivals held lists) rivals (subst (λ xs. Contains xs rivals) (sym f) (subst (Contains (first ∷ rest)) same (Contains-cons_here first rest))));
            least = λ other other_is less.
                let (met, has, most) = clash_met other other_is in
                none_less rivals_total first rest up met (subst (λ xs. Contains xs met) f has)
                (subst (λ r. rivals_cmp met r ≡ Less) (sym same)
                (elim most [ inl lesser ↦ rivals_total.trans met (both other.first other.second) rivals lesser less | inr here ↦ subst (λ r. rivals_cmp r rivals ≡ Less) (sym here) less ]));
          }

-- ---- where there is no pair

-- of equal lists there is none
same_none : (a b : List Key) → refs_eq a b ≡ true → rivals_of a b ≡ None
same_none a b same =
    let is : a ≡ b = (refs_eq-Decides a b).0 same in
    let tied : refs_cmp a b ≡ Equal = subst (λ r. refs_cmp a r ≡ Equal) is (tied_itself refs_total a) in
    rw tied refl

no_pair : (last next : HashedList) → clash last next ≡ false → neighbours last next ≡ None
no_pair last next apart = by (bytes_eq last.digest next.digest) refl
  where
    by : (t : Bool) → bytes_eq last.digest next.digest ≡ t → neighbours last next ≡ None
    by false e = rw e refl
    by true e = same (refs_eq last.refs next.refs) refl
      where
        same : (t : Bool) → refs_eq last.refs next.refs ≡ t → neighbours last next ≡ None
        same true f = rw e (same_none last.refs next.refs f)
        same false f = let no : true ≡ false = rw (e, f) at apart in cc

no_neighbours : (lists : List HashedList) → has_clash lists ≡ false → all_neighbours lists ≡ []
no_neighbours [] apart = refl
no_neighbours (last ∷ []) apart = refl
no_neighbours (last ∷ next ∷ rest) apart =
    let parts = or_parts (clash last next) (has_clash (next ∷ rest)) apart in
    let here = no_pair last next parts.0 in
    let more = no_neighbours (next ∷ rest) parts.1 in
    rw (here, more) refl

-- a list that stands beside no other has none with a held one
no_held : (held : List Hashed) (list : HashedList) → is_other (standing held list) ≡ false → held_rival held list ≡ None
no_held held list e = by (list_under list.digest held) refl
  where
    by : (o : Option (List Key)) → list_under list.digest held ≡ o → held_rival held list ≡ None
    by None f = rw f refl
    by (Some other) f = same (refs_eq other list.refs) refl
      where
        same : (t : Bool) → refs_eq other list.refs ≡ t → held_rival held list ≡ None
        same true g = rw f (same_none other list.refs g)
        same false g = let no : true ≡ false = rw (f, g) at e in cc

none_held : (held : List Hashed) (lists : List HashedList) → list_any is_other (map (standing held) lists) ≡ false → filter_map (held_rival held) lists ≡ []
none_held held [] e = refl
none_held held (list ∷ lists) e =
    let parts = or_parts (is_other (standing held list)) (list_any is_other (map (standing held) lists)) e in
    let here = no_held held list parts.0 in
    let more = none_held held lists parts.1 in
    rw (here, more) refl

-- where neighbours do not clash, and no list stands beside another one, there is no pair
pub none_among : (held : List Hashed) (lists : List LentList) (standings : List Standing) → standings ≡ map (λ list. standing held (told list)) lists → has_clash (map told lists) ≡ false → list_any is_other standings ≡ false
    → None ≡ least_rivals held (map told lists)
none_among held lists standings are apart none =
    let near = no_neighbours (map told lists) apart in
    let far = none_held held (map told lists) (ap (list_any is_other) (map-map (standing held) told lists ∙ sym are) ∙ none) in
    rw (near, far) refl

-- a list is held exactly where one is found under its hash key
pub has_under : (held : List Hashed) (digest : List ℕ) → is_held digest held ≡ is_some (list_under digest held)
has_under held digest = sym (some_found (λ (list : Hashed). bytes_eq list.digest digest) held) ∙ by (find (λ (list : Hashed). bytes_eq list.digest digest) held)
  where
    by : (o : Option Hashed) → is_some o ≡ is_some (option_map (λ (list : Hashed). list.refs) o)
    by None = refl
    by (Some list) = refl

-- the pairs of lists that are made of others
pub filter_map-map : {X Y Z : Type 0} (f : Y → Option Z) (g : X → Y) (xs : List X) → filter_map f (map g xs) ≡ filter_map (λ x. f (g x)) xs
filter_map-map f g [] = refl
filter_map-map {Z = Z} f g (x ∷ xs) = by (f (g x)) refl (filter_map-map f g xs)
  where
    by : (o : Option Z) → f (g x) ≡ o → filter_map f (map g xs) ≡ filter_map (λ x. f (g x)) xs → filter_map f (map g (x ∷ xs)) ≡ filter_map (λ x. f (g x)) (x ∷ xs)
    by None e rest = rw e rest
    by (Some z) e rest = rw e (ap (◌∷◌ z) rest)
