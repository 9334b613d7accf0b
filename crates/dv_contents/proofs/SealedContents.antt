-- What is read back from the tables of a vault for a feed of a sealed window, at the window's load date.
use Rattle.dv_contents.proofs.Vocabulary.{Contains, Contains-cons_cases, Contains-map, Contains-nil, Extract, HasSealed, Hashes, IsNewestFirst, List, RawVault, Some, Staged, TableRows, Window, WindowParts, [], and_parts, any_content_read, ap, arith, ascends, content, eq-eqb, extract_of, false}
use Rattle.dv_contents.proofs.Vocabulary.{find, history, history-newest_first, inl, inr, is_valid, is_window, le-leb, list_all, load_order, map, member_of_filter_map, nat_le, nat_lt, nat_tests, newest_rows, option_map, passes_at, refl, reverse, reverse_member, sealed_parts, sym, true, up_to}
use Rattle.dv_contents.proofs.Vocabulary.{vault_tells, window_parts, ℕ, ◌<◌, ◌==◌, ◌∙◌, ◌∷◌, ◌≡◌}

not_reached : (a b : ℕ) → a < b → nat_le b a ≡ false
not_reached a b h = grind (arith, nat_tests, h)

-- at an extract's own date its rows are the newest
at_extract : (all : List Extract) (extract : Extract) → IsNewestFirst (λ (extract : Extract). extract.load) all → Contains all extract → newest_rows (up_to extract.load all) ≡ extract.rows
at_extract [] extract order has = Contains-nil extract has
at_extract (newest ∷ older) extract order has =
    elim (Contains-cons_cases newest older extract has) [
      | inl same ↦
          let reached : nat_le newest.load extract.load ≡ true = le-leb newest.load extract.load (omega (arith, ap (λ (x : Extract). x.load) same)) in
          rw reached (ap (λ (x : Extract). x.rows) same)
      | inr rest ↦
          let later = not_reached extract.load newest.load (order.0 extract rest) in
          rw later (at_extract older extract order.1 rest)
    ]

-- the extract of a feed in a window whose feeds ascend
found_itself : (extracts : List Staged) (staged : Staged) → ascends (map (λ staged. staged.feed) extracts) ≡ true → Contains extracts staged → find (λ other. other.feed == staged.feed) extracts ≡ Some staged
found_itself [] staged up has = Contains-nil staged has
found_itself (first ∷ extracts) staged up has =
    let (before, rest) = and_parts (list_all (nat_lt first.feed) (map (λ staged. staged.feed) extracts)) (ascends (map (λ staged. staged.feed) extracts)) up in
    elim (Contains-cons_cases first extracts staged has) [
      | inl same ↦
          let is : (first.feed == staged.feed) ≡ true = ap (λ (s : Staged). first.feed == s.feed) (sym same) ∙ eq-eqb first.feed first.feed refl in
          rw is (ap Some same)
      | inr more ↦
          let less = passes_at (nat_lt first.feed) (map (λ staged. staged.feed) extracts) staged.feed before (Contains-map (λ (s : Staged). s.feed) extracts staged more) in
          let isnt : (first.feed == staged.feed) ≡ false = other first.feed staged.feed less in
          rw isnt (found_itself extracts staged rest more)
    ]
  where
    other : (a b : ℕ) → nat_lt a b ≡ true → (a == b) ≡ false
    other a b h = grind (arith, nat_tests)

module _ (hashes : Hashes) (sealed : List Window) (raw : RawVault) (has_sealed : HasSealed hashes sealed raw) (valid : is_valid raw.mapping ≡ true) (window : Window) (there : Contains sealed window) where
  parts : WindowParts raw.mapping window
  parts = window_parts raw.mapping window (passes_at (is_window raw.mapping) sealed window (sealed_parts raw.mapping hashes sealed has_sealed.valid).whole there)

  -- the content of a feed of a sealed window at its load date
  content_at : (staged : Staged) → Contains window.extracts staged → content staged.feed sealed window.load ≡ staged.rows
  content_at staged has =
      let extract : Extract = record { load = window.load; rows = staged.rows } in
      let extract_is : extract_of staged.feed window ≡ Some extract =
      ap (option_map (λ (staged : Staged). record { load = window.load; rows = staged.rows })) (found_itself window.extracts staged parts.ascending has) in
      at_extract (history staged.feed (reverse sealed)) extract (history-newest_first staged.feed sealed (load_order raw.mapping hashes sealed has_sealed.valid))
      (member_of_filter_map (extract_of staged.feed) (reverse sealed) window extract ((reverse_member sealed window).1 there) extract_is)

  pub sealed_rows : (staged : Staged) → Contains window.extracts staged → any_content_read raw.mapping raw.tables staged.feed window.load ≡ staged.rows
  sealed_rows staged has =
      ap (λ (tables : List TableRows). any_content_read raw.mapping tables staged.feed window.load) has_sealed.tables_are
      ∙ vault_tells raw.mapping hashes sealed valid has_sealed.valid staged.feed window.load
      ∙ content_at staged has
