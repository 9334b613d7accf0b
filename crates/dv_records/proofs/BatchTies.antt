-- A list is a batch's value exactly where it meets the record.
use Rattle.dv_records.proofs.Vocabulary.{Contains, Equal, IsBatchOf, IsTotalOrder, IsWholeBatch, List, Option, Ordering, Some, ap, ascending-sorted_by, batch_of, digest_cmp, filter_map, filter_map_member, member_after_sort, member_before_sort, member_of_filter_map, nat_cmp-IsAntisymmetric}
use Rattle.dv_records.proofs.Vocabulary.{nat_list_cmp_total, on_total, option_map, rules, same_ascending, slice_cmp-IsAntisymmetric, subst, sym, ℕ, ◌↔◌, ◌∙◌, ◌≡◌}

-- each row of a batch is made of one of the things
pub batch_made : {T R : Type 0} (cmp : R → R → Ordering) (row_of : T → Option R) (things : List T) (row : R) → Contains (batch_of cmp row_of things) row → (thing : T) × Contains things thing × (row_of thing ≡ Some row)
batch_made cmp row_of things row has = filter_map_member row_of things row (member_before_sort cmp (filter_map row_of things) row has)

module _ {T R : Type 0} (cmp : R → R → Ordering) (o : IsTotalOrder cmp) (row_of : T → Option R) (things : List T)
    (exact : (s t : T) (a b : R) → Contains things s → Contains things t → row_of s ≡ Some a → row_of t ≡ Some b → cmp a b ≡ Equal → a ≡ b) where
  pub IsBatchOf-batch_of : IsBatchOf cmp row_of things (batch_of cmp row_of things)
  IsBatchOf-batch_of = record {
    ascending = ascending-sorted_by cmp o (filter_map row_of things);
    only = batch_made cmp row_of things;
    each = λ thing row member is.
        member_after_sort cmp (filter_map row_of things) row (
        λ other has tied.
        let (source, source_member, source_is) = filter_map_member row_of things other has in
        exact source thing other row source_member member source_is is tied
        )
        (member_of_filter_map row_of things thing row member is);
  }

  pub batch_of-IsBatchOf : (rows : List R) → IsBatchOf cmp row_of things rows → rows ≡ batch_of cmp row_of things
  batch_of-IsBatchOf rows is =
      let made = IsBatchOf-batch_of in
      same_ascending cmp o rows (batch_of cmp row_of things) is.ascending made.ascending
      (λ row has. let (thing, member, gives) = is.only row has in made.each thing row member gives)
      (λ row has. let (thing, member, gives) = made.only row has in is.each thing row member gives)

  pub tied : (rows : List R) → (rows ≡ batch_of cmp row_of things) ↔ IsBatchOf cmp row_of things rows
  tied rows = (λ e. subst (IsBatchOf cmp row_of things) (sym e) IsBatchOf-batch_of, batch_of-IsBatchOf rows)

-- the same of a batch in the order of its rows' digests, where no two things have one digest
module _ {T R : Type 0} (digest : R → List ℕ) (hash : T → List ℕ) (row_of : T → Option R) (things : List T) (gives : (t : T) (r : R) → row_of t ≡ Some r → digest r ≡ hash t)
    (apart : (s t : T) → Contains things s → Contains things t → hash s ≡ hash t → s ≡ t) where
  one_row : (s t : T) (a b : R) → Contains things s → Contains things t → row_of s ≡ Some a → row_of t ≡ Some b → digest_cmp (digest a) (digest b) ≡ Equal → a ≡ b
  one_row s t a b s_in t_in a_is b_is e =
      let digests : digest a ≡ digest b = slice_cmp-IsAntisymmetric nat_cmp-IsAntisymmetric (digest a) (digest b) e in
      let hashes : hash s ≡ hash t = sym (gives s a a_is) ∙ digests ∙ gives t b b_is in
      let both : Some a ≡ Some b = sym a_is ∙ ap row_of (apart s t s_in t_in hashes) ∙ b_is in
      cc

  pub tied_by_digest : (rows : List R) → (rows ≡ batch_of (λ a b. digest_cmp (digest a) (digest b)) row_of things) ↔ IsBatchOf (λ a b. digest_cmp (digest a) (digest b)) row_of things rows
  tied_by_digest rows = tied _ (on_total digest nat_list_cmp_total) row_of things one_row rows

-- where each thing that has a row is one of these, the things need no mention
pub tied_whole : {T R : Type 0} {cmp : R → R → Ordering} {row_of : T → Option R} {things : List T} (stands : (t : T) (r : R) → row_of t ≡ Some r → Contains things t) (rows : List R)
    → (rows ≡ batch_of cmp row_of things) ↔ IsBatchOf cmp row_of things rows → (rows ≡ batch_of cmp row_of things) ↔ IsWholeBatch cmp row_of rows
tied_whole stands rows ties = (
  λ e.
      let is = ties.0 e in
      record {
        ascending = is.ascending;
        only = λ row has. let (thing, member, gives) = is.only row has in (thing, gives);
        each = λ thing row gives. is.each thing row (stands thing row gives) gives;
      },
  λ is. ties.1 (record {
    ascending = is.ascending;
    only = λ row has. let (thing, gives) = is.only row has in (thing, stands thing row gives, gives);
    each = λ thing row member gives. is.each thing row gives;
  }),
)

-- a row made of an option's value keeps what each value gives
pub given : {A R : Type 0} (made : A → R) (digest : R → List ℕ) (d : List ℕ) → ((a : A) → digest (made a) ≡ d) → (o : Option A) (r : R) → option_map made o ≡ Some r → digest r ≡ d
given made digest d h1 o r h2 = search (rules)
