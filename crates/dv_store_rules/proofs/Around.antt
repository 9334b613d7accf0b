-- What is known before a table that is that of valid windows, and what follows of the load dates, sources, texts and
-- weights of the table's rows.
use Rattle.dv_store_rules.proofs.Vocabulary.{Contains, Contains-map, Extract, FeedDef, Hub, Key, Known, Link, List, Mapping, None, Some, Staged, TableId, Window, [], all_pass_weaker, and_from, ap, are_texts, are_windows_valid, backwards, bytes_eq, bytes_eq-Decides, eq-eqb, extract-load}
use Rattle.dv_store_rules.proofs.Vocabulary.{extract_of, field_text, flaw_in, got_member, head_of, is_delivered, is_digest, is_field, is_in_hub, is_in_link, is_key_part, is_known, is_loaded, is_source, is_valid, key_part, length, list_all, list_any, map, most_field_bytes, most_weight, nat_le}
use Rattle.dv_store_rules.proofs.Vocabulary.{reverse, rows_weight, slice_get, some_passes_at, source, source_by, staged_of, sym, table_after, tables_weight, true, ℕ, ◌&&◌, ◌+◌, ◌<◌, ◌==◌, ◌∙◌, ◌∷◌, ◌≡◌, ◌≤◌}
use Rattle.dv_store_rules.proofs.Widths.{AreOfWidth}

-- the mapping and the windows are valid, digests have the width, and the heads of the windows are known
pub record Around (known : Known) (windows : List Window) : Type 0 where
  pub mapping_valid : is_valid known.mapping ≡ true
  pub wide : AreOfWidth known.hashes known.width
  pub valid : are_windows_valid known.mapping known.hashes windows ≡ true
  pub headed : (window : Window) → Contains windows window → Contains known.heads (head_of window)

-- no row of a table breaks a rule where the table is that after the windows, and weighs no more than a vault may with those
-- before it
abbrev pub IsFlawless : Known → List Window → TableId → Type 0
IsFlawless known windows id =
    tables_weight known.tables + rows_weight (table_after known.mapping known.hashes (backwards windows) id) ≤ most_weight → flaw_in known id (table_after known.mapping known.hashes (backwards windows) id) ≡ None

-- each key that the windows bring to a hub has a row in a table before
abbrev pub HaveHubs : Known → List Window → Type 0
HaveHubs known windows =
    (hub : ℕ) → hub < length known.mapping.hubs → (key : Key) → is_known known.mapping (Hub hub) (reverse windows) (key ∷ []) ≡ true → is_in_hub known.tables hub (known.hashes.hash (key ∷ [])) ≡ true

-- and so has each list that they bring to a link
abbrev pub HaveLinks : Known → List Window → Type 0
HaveLinks known windows =
    (link : ℕ) → link < length known.mapping.links → (refs : List Key) → is_known known.mapping (Link link) (reverse windows) refs ≡ true → is_in_link known.tables link (known.hashes.hash refs) ≡ true

-- both of them
pub record HaveParents (known : Known) (windows : List Window) : Type 0 where
  pub hubs : HaveHubs known windows
  pub links : HaveLinks known windows

module _ (known : Known) (windows : List Window) (around : Around known windows) where
  -- the load date of one of the windows is known
  pub loaded_with : (window : Window) → Contains windows window → (load : ℕ) → load ≡ window.load → is_loaded known.heads load ≡ true
  loaded_with window has load same = some_passes_at (λ head. head.load == load) known.heads (head_of window) (around.headed window has) (eq-eqb window.load load (sym same))

  -- with its feeds
  pub delivered_with : (window : Window) → Contains windows window → (feed : ℕ) (extract : Extract) → extract_of feed window ≡ Some extract → (load : ℕ) → load ≡ extract.load → is_delivered known.heads feed load ≡ true
  delivered_with window has feed extract is load same =
      let (staged, there, number, rows) = staged_of feed window extract is in
      let date : window.load ≡ load = sym (same ∙ extract-load feed window extract is) in
      let listed = some_passes_at (λ other. other == feed) (map (λ (staged : Staged). staged.feed) window.extracts) staged.feed (Contains-map (λ (staged : Staged). staged.feed) window.extracts staged there) (eq-eqb staged.feed feed number) in
      some_passes_at (λ head. (head.load == load) && list_any (λ other. other == feed) head.feeds) known.heads (head_of window) (around.headed window has) (and_from _ _ (eq-eqb window.load load date) listed)

-- a feed's record source is one of the mapping
pub sourced_from : (mapping : Mapping) (feed : ℕ) (definition : FeedDef) → slice_get mapping.feeds feed ≡ Some definition → (text : List ℕ) → text ≡ source mapping feed → is_source mapping text ≡ true
sourced_from mapping feed definition got text same =
    some_passes_at (λ feed. bytes_eq text (source_by (Some feed))) mapping.feeds definition (got_member mapping.feeds feed definition got)
    ((bytes_eq-Decides text (source_by (Some definition))).1 (same ∙ ap source_by got))

-- ---- texts

-- fields are as many texts as have to be, and none is too long
pub fields_fit : (count : ℕ) (texts : List (List ℕ)) → length texts ≡ count → list_all is_field texts ≡ true → are_texts count texts ≡ true
fields_fit count texts same fields = and_from _ _ (eq-eqb (length texts) count same) (all_pass_weaker is_field (λ text. nat_le (length text) most_field_bytes) (λ text e. (field_text text e).1) texts fields)

-- so are the parts of a key
pub parts_fit : (count : ℕ) (texts : List (List ℕ)) → length texts ≡ count → list_all is_key_part texts ≡ true → are_texts count texts ≡ true
parts_fit count texts same fields = and_from _ _ (eq-eqb (length texts) count same) (all_pass_weaker is_key_part (λ text. nat_le (length text) most_field_bytes) (λ text e. (key_part text e).1) texts fields)

-- a hash key or a hash difference has the width
pub is_wide : (width : ℕ) (digest : List ℕ) → length digest ≡ width → is_digest width digest ≡ true
is_wide width digest same = eq-eqb (length digest) width same
