-- The codes of a status table take turns: the last code before a row is told by the extract before its own.
use Rattle.dv_store_rules.proofs.Vocabulary.{Bool, Code, Contains, Contains-cons_there, Contains-flat_map, Extract, Hashes, IsApart, IsNewestFirst, Key, List, None, Option, Some, StatusRow, all_refs, all_up_to, ap, appended, arith, batch_made, bytes_eq, bytes_eq-Decides, code_between, code_of}
use Rattle.dv_store_rules.proofs.Vocabulary.{delivers, false, find, find-append, find_none, find_same, flat_map_member, is_appearance, last_code, le-leb, lists_of, made_of, nat_le, newest_rows, option_map, option_or, refl, reverse, reverse-append, reverse_member, rules, says_present}
use Rattle.dv_store_rules.proofs.Vocabulary.{status_batch, status_cmp, status_row, subst, sym, takes_turn, tells, true, up_to, ℕ, ◌&&◌, ◌++◌, ◌∙◌, ◌∷◌, ◌≡◌}
use Rattle.dv_store_rules.proofs.BatchRows.{earlier_rows}

-- what the last code of a parent says of it
abbrev says_there : Option Code → Bool
says_there None = false
says_there (Some code) = is_appearance code

told_by_code : (o : Option StatusRow) → says_there (option_map (λ row. row.code) o) ≡ says_present o
told_by_code o = search rules

-- a code between two moments takes a turn after one that says the first of them
turn_between : (last : Option Code) (now : Bool) (code : Code) → code_between (says_there last) now ≡ Some code → takes_turn last code ≡ true
turn_between last now code e = search rules

-- a search for a parent's last row goes past rows of other parents
last_of_first : (parent : List ℕ) (first more : List StatusRow) → ((row : StatusRow) → Contains more row → row.parent ≡ parent → ⊥) → find (λ (row : StatusRow). bytes_eq row.parent parent) (reverse (first ++ more)) ≡ find (λ (row : StatusRow). bytes_eq row.parent parent) (reverse first)
last_of_first parent first more others =
    let is_its = λ (row : StatusRow). bytes_eq row.parent parent in
    let none : find is_its (reverse more) ≡ None = find_none is_its (reverse more) (λ row has. by row ((reverse_member more row).0 has) (bytes_eq row.parent parent) refl) in
    ap (find is_its) (reverse-append first more) ∙ find-append is_its (reverse more) (reverse first) ∙ ap (λ o. option_or o (find is_its (reverse first))) none
  where
    by : (row : StatusRow) → Contains more row → (b : Bool) → bytes_eq row.parent parent ≡ b → bytes_eq row.parent parent ≡ false
    by row has true e = absurd (others row has ((bytes_eq-Decides row.parent parent).0 e))
    by row has false e = e

-- the lists of some extracts are among those of more
pub lists_of_more : (some all : List Extract) → ((extract : Extract) → Contains some extract → Contains all extract) → (refs : List Key) → Contains (lists_of some) refs → Contains (lists_of all) refs
lists_of_more some all within refs has =
    let (extract, there, listed) = flat_map_member (λ (extract : Extract). all_refs extract.rows) some refs has in
    Contains-flat_map (λ (extract : Extract). all_refs extract.rows) all extract refs (within extract there) listed

module _ (hashes : Hashes) (text : List ℕ) (newest : Extract) (older : List Extract) (order : IsNewestFirst (λ (extract : Extract). extract.load) (newest ∷ older)) (apart : IsApart hashes (lists_of (newest ∷ older))) (refs : List Key)
    (listed : Contains (lists_of (newest ∷ older)) refs) where
  abbrev earlier : List StatusRow
  earlier = appended (status_batch hashes text) older

  older_in : (other : List Key) → Contains (lists_of older) other → Contains (lists_of (newest ∷ older)) other
  older_in = lists_of_more older (newest ∷ older) (λ extract has. Contains-cons_there newest older extract has)

  stamped : (some : List Extract) (last : Extract) (row : StatusRow) → Contains (status_batch hashes text some last) row → row.load ≡ last.load
  stamped some last row has =
      let (thing, there, gives) = batch_made status_cmp (status_row hashes text some last) (all_refs (newest_rows some) ++ all_refs last.rows) row has in
      let (code, found, made) = made_of _ (code_of some last thing) row gives in
      ap (λ (r : StatusRow). r.load) (sym made)

  -- the rows of the older extracts say whether the newest of these has the list
  says_before : says_present (find (λ (row : StatusRow). bytes_eq row.parent (hashes.hash refs)) (reverse earlier)) ≡ delivers (newest_rows older) refs
  says_before =
      let all_older : up_to newest.load older ≡ older = all_up_to newest.load newest.load older order.0 (omega arith) in
      let told = tells hashes text refs newest.load older order.1 (λ a b a_in b_in. apart a b (older_in a a_in) (older_in b b_in)) (λ other has same. apart other refs (older_in other has) listed same) in
      let same = find_same (λ (row : StatusRow). bytes_eq row.parent (hashes.hash refs) && nat_le row.load newest.load) (λ (row : StatusRow). bytes_eq row.parent (hashes.hash refs)) (reverse earlier) (λ row has. with_true (bytes_eq row.parent (hashes.hash refs)) (nat_le row.load newest.load)
      (by row ((reverse_member earlier row).0 has))) in
      ap says_present (sym same) ∙ told ∙ ap (λ extracts. delivers (newest_rows extracts) refs) all_older
    where
      with_true : (a b : Bool) → b ≡ true → (a && b) ≡ a
      with_true a b is = search (rules)

      by : (row : StatusRow) → Contains earlier row → nat_le row.load newest.load ≡ true
      by row has =
          let less = earlier_rows (λ (extract : Extract). extract.load) (λ (row : StatusRow). row.load) status_cmp (status_batch hashes text) stamped newest.load older order.0 row has in
          le-leb row.load newest.load (omega (arith, less))

  -- so the code of the newest one takes its turn
  pub turn_taken : (between : List StatusRow) → ((row : StatusRow) → Contains between row → row.parent ≡ hashes.hash refs → ⊥) → (code : Code) → code_of older newest refs ≡ Some code
      → takes_turn (last_code (earlier ++ between) (hashes.hash refs)) code ≡ true
  turn_taken between others code is =
      let last = find (λ (row : StatusRow). bytes_eq row.parent (hashes.hash refs)) (reverse earlier) in
      let found : last_code (earlier ++ between) (hashes.hash refs) ≡ option_map (λ (row : StatusRow). row.code) last = ap (option_map (λ (row : StatusRow). row.code)) (last_of_first (hashes.hash refs) earlier between others) in
      let was : delivers (newest_rows older) refs ≡ says_there (option_map (λ (row : StatusRow). row.code) last) = sym says_before ∙ sym (told_by_code last) in
      subst (λ o. takes_turn o code ≡ true) (sym found)
      (turn_between (option_map (λ (row : StatusRow). row.code) last) (delivers newest.rows refs) code (ap (λ b. code_between b (delivers newest.rows refs)) (sym was) ∙ is))
