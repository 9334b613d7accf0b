use Rattle.dv_shown.proofs.Vocabulary.{Bool, BothRead, Err, IsStored, MapError, Mapping, None, Ok, Result, Some, Store, [], ap, arith, bare, bare_file, chars, empty_store, false, feed_first, inl, inr, is_utf8, length, mapped, no_mapping_file, option_map_or, other_file, read_mapping}
use Rattle.dv_shown.proofs.Vocabulary.{refl, slice_get, toml_on_literals, true, unwrap_or, with_customers_and_sites, with_sites_and_customers, ℕ, ⊎_elim, ◌∙◌, ◌≡◌}
use Rattle.dv_shown.proofs.StoredHubs.{counts_two, hub_count, hubs_in}
use Rattle.dv_shown.proofs.inits_step.Goals as goal

-- whether a text is read as a mapping
is_ok : Result Mapping MapError → Bool
is_ok (Ok mapping) = true
is_ok (Err fault) = false

-- how long the mapping text is that a store holds
text_length : Store → ℕ
text_length store = length (unwrap_or store.mapping [])

counts_one : hubs_in (Some bare_file) ≡ 1
unfolding toml_on_literals is_utf8 chars
counts_one = refl

-- one mapping is not read from both files
not_both : (mapping : Mapping) → BothRead other_file (mapped bare_file) mapping mapping → ⊥
not_both mapping both =
    let one : hubs_in (Some bare_file) ≡ length mapping.hubs = ap hubs_in both.stored_is ∙ ap hub_count both.stored_reads in
    let two : hub_count (read_mapping other_file) ≡ length mapping.hubs = ap hub_count both.file_reads in
    omega (arith, one, two, counts_one, counts_two)

-- and one file is read as one mapping
one_read : (stored new : Mapping) → BothRead bare_file (mapped bare_file) stored new → new ≡ stored
one_read stored new both =
    let text : Some bare_file ≡ Some both.text = both.stored_is in
    let a : read_mapping both.text ≡ Ok stored = both.stored_reads in
    let b : read_mapping bare_file ≡ Ok new = both.file_reads in
    cc

-- nor from the file with its feed before its hub
turned_read : (stored new : Mapping) → BothRead feed_first (mapped bare_file) stored new → new ≡ stored
unfolding toml_on_literals is_utf8 chars
turned_read stored new both =
    let a : Some bare_file ≡ Some both.text = both.stored_is in
    let b : read_mapping both.text ≡ Ok stored = both.stored_reads in
    let c : Ok bare ≡ Ok new = both.file_reads in
    let d : read_mapping bare_file ≡ Ok bare = refl in
    cc

-- two mappings of different numbers of hubs
apart : with_customers_and_sites ≡ bare → ⊥
apart same = let e : 2 ≡ 1 = ap (λ (mapping : Mapping). length mapping.hubs) same in omega (arith, e)

-- and two whose first hubs have keys of one part and of two
first_parts : Mapping → ℕ
first_parts mapping = option_map_or (λ hub. hub.parts) (slice_get mapping.hubs 0) 0

turned : with_sites_and_customers ≡ with_customers_and_sites → ⊥
unfolding first_parts
turned same = let e : 2 ≡ 1 = ap first_parts same in omega (arith, e)

stored_bare : IsStored bare_file empty_store (mapped bare_file)
unfolding toml_on_literals is_utf8 chars
stored_bare = record { mapping = bare; reads = refl; none_before = refl; changed = refl }

-- a text that is no mapping isn't stored
not_a_mapping : (store' : Store) → IsStored no_mapping_file empty_store store' → ⊥
unfolding is_ok toml_on_literals is_utf8 chars
not_a_mapping store' stored = let e : is_ok (read_mapping no_mapping_file) ≡ true = ap is_ok stored.reads in let f : is_ok (read_mapping no_mapping_file) ≡ false = refl in cc

pub returns : goal.returns
unfolding toml_on_literals is_utf8 chars text_length
returns c =
    record {
      stored = stored_bare;
      stored_once = λ s. let e : Some bare_file ≡ None = s.none_before in cc;
      kept = (bare, record { text = bare_file; stored_is = refl; stored_reads = refl; file_reads = refl }, refl);
      before = inl refl;
      stored_so = inr stored_bare;
      not_stored = λ s. let e : 0 ≡ 117 = ap text_length s.changed in omega (arith, e);
      kept_alone = λ s. let e : 0 ≡ 117 = ap text_length s.2 in omega (arith, e);
      other_not_kept = λ s. not_both s.0 s.1;
      differs = (bare, with_customers_and_sites, record { text = bare_file; stored_is = refl; stored_reads = refl; file_reads = refl }, apart, refl);
      differs_alone = λ s. let e : 0 ≡ 117 = ap text_length s.4 in omega (arith, e);
      equal_not_differs = λ s. s.3 (one_read s.0 s.1 s.2);
      before_for_memory = inl refl;
      stored_by_fault = inr stored_bare;
      never_replaced = λ s. ⊎_elim (λ same. let e : 149 ≡ 117 = ap text_length same in omega (arith, e)) (λ r. let e : Some bare_file ≡ None = r.none_before in cc) s;
      fault_elsewhere = λ s. ⊎_elim (λ same. let e : 149 ≡ 0 = ap text_length same in omega (arith, e)) (λ r. let e : 149 ≡ 117 = ap text_length r.changed in omega (arith, e)) s;
      memory_elsewhere = λ s. ⊎_elim (λ same. let e : 149 ≡ 0 = ap text_length same in omega (arith, e)) (λ r. let e : 149 ≡ 117 = ap text_length r.changed in omega (arith, e)) s;
      other_bytes = (bare, record { text = bare_file; stored_is = refl; stored_reads = refl; file_reads = refl }, refl);
      other_bytes_not_stored = λ s. let e : 132 ≡ 117 = ap text_length s.2 in omega (arith, e);
      entries_turned = (bare, record { text = bare_file; stored_is = refl; stored_reads = refl; file_reads = refl }, refl);
      entries_turned_not_differs = λ s. s.3 (turned_read s.0 s.1 s.2);
      hubs_turned = (with_customers_and_sites, with_sites_and_customers, record { text = other_file; stored_is = refl; stored_reads = refl; file_reads = refl }, turned, refl);
      no_mapping_not_stored = λ s. not_a_mapping (mapped no_mapping_file) s;
      no_mapping_not_stored_by_fault = λ s. ⊎_elim (λ same. let e : 8 ≡ 0 = ap text_length same in omega (arith, e)) (not_a_mapping (mapped no_mapping_file)) s;
      no_mapping_not_stored_for_memory = λ s. ⊎_elim (λ same. let e : 8 ≡ 0 = ap text_length same in omega (arith, e)) (not_a_mapping (mapped no_mapping_file)) s;
      no_mapping_before = inl refl;
    }
