-- What the tables of feeds ask of a window with its hash keys, and what they get.
use Rattle.dv_vault.proofs.Vocabulary.{All-contains, Bor, HasKeys, HashedExtract, HashedWindow, Hashes, IfSome, IsHashedWindow, IsStrictlySortedBy, Mapping, None, Option, Some, Staged, Window, ap, attrs_fit, eqb-true, extract_at, find, found_member, is_valid, is_window, list_all, option_map}
use Rattle.dv_vault.proofs.Vocabulary.{staged_ascend, staged_attrs_fit, staged_of, sym, true, ℕ, ◌==◌, ◌∙◌, ◌≡◌}
use Rattle.dv_text.specs.Orders.{row_cmp}
use Rattle.dv_vault.proofs.VaultFacts.{find-seen}

-- what a window has for a feed: its extract, the hash keys of the rows, their order, and that they fit what they are hashed in
pub record IsExtractFor (hashes : Hashes) (feed : ℕ) (hashed : HashedWindow) (at : Option (Bor HashedExtract)) : Type 0 where
  pub found : option_map (λ extract. extract.now.staged.now) at ≡ staged_of feed hashed.window.now
  pub feed_is : IfSome at (λ extract. extract.now.staged.now.feed ≡ feed)
  pub keys : IfSome at (λ extract. HasKeys hashes extract.now)
  pub ascending : IfSome at (λ extract. IsStrictlySortedBy row_cmp extract.now.staged.now.rows)
  pub attrs_fit : IfSome at (λ extract. list_all (λ row. attrs_fit row.attrs) extract.now.staged.now.rows ≡ true)

pub extract_facts : (mapping : Mapping) → is_valid mapping ≡ true → (hashes : Hashes) (hashed : HashedWindow) → is_window mapping hashed.window.now ≡ true → IsHashedWindow hashes hashed
    → (feed : ℕ) (found : Option (Bor HashedExtract)) → option_map (λ extract. extract.now) found ≡ find (λ extract. extract.staged.now.feed == feed) hashed.extracts → IsExtractFor hashes feed hashed found
extract_facts mapping valid hashes hashed whole gathered feed found is = by found is
  where
    staged_is : staged_of feed hashed.window.now ≡ option_map (λ extract. extract.staged.now) (find (λ extract. extract.staged.now.feed == feed) hashed.extracts)
    staged_is = ap (find (λ staged. staged.feed == feed)) (sym gathered.extracts_are) ∙ sym (find-seen (λ (extract : HashedExtract). extract.staged.now) (λ (staged : Staged). staged.feed == feed) hashed.extracts)

    by : (found : Option (Bor HashedExtract)) → option_map (λ extract. extract.now) found ≡ find (λ extract. extract.staged.now.feed == feed) hashed.extracts → IsExtractFor hashes feed hashed found
    by None is = record { found = sym (staged_is ∙ ap (option_map (λ (extract : HashedExtract). extract.staged.now)) (sym is)); feed_is = tt; keys = tt; ascending = tt; attrs_fit = tt }
    by (Some extract) is =
        let same : staged_of feed hashed.window.now ≡ Some extract.now.staged.now = staged_is ∙ ap (option_map (λ (extract : HashedExtract). extract.staged.now)) (sym is) in
        let (member, test) = found_member (λ (other : HashedExtract). other.staged.now.feed == feed) hashed.extracts extract.now (sym is) in
        let (staged_in, _) = found_member (λ (other : Staged). other.feed == feed) hashed.window.now.extracts extract.now.staged.now same in
        record {
          found = sym same;
          feed_is = eqb-true _ _ test;
          keys = All-contains (HasKeys hashes) hashed.extracts extract.now gathered.have_keys member;
          ascending = staged_ascend mapping valid hashed.window.now whole extract.now.staged.now staged_in;
          attrs_fit = staged_attrs_fit mapping valid hashed.window.now whole extract.now.staged.now staged_in;
        }

-- the extract of a feed in a window, read from the window's rows or from those with their keys
pub same_extract : (window : Window) (feed : ℕ) (found : Option (Bor HashedExtract)) → option_map (λ extract. extract.now.staged.now) found ≡ staged_of feed window
    → option_map (λ extract. extract_at window.load extract.now.staged.now) found ≡ option_map (extract_at window.load) (staged_of feed window)
same_extract window feed None is = ap (option_map (extract_at window.load)) is
same_extract window feed (Some extract) is = ap (option_map (extract_at window.load)) is
