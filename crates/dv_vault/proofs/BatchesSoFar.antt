-- What a window adds to tables, one table after the other.
use Rattle.dv_vault.proofs.Vocabulary.{AdditionFault, All-push, AllZip, AreApartBy, AreOfLoad, Bool, ClashesAt, Collision, Contains, Contains-get_or, DeltaFault, Err, Follow, FollowAll, HasNoClash, Hashes, HubName, HubRow, IfCollides, IfOk, IsLeastClash, IsVaultOf, List, Mapping, Memory, Result}
use Rattle.dv_vault.proofs.Vocabulary.{Rows, TableId, TableRows, Window, [], added_to, ap, drop, drop-cons, fault_at, get_or, hashed_in, is_table_of, length, list_all, list_all-map, map, map-append, names_of_rows, passes_at, subst, suc, sym, tables_in, take, take-append-drop, take_all, take_more}
use Rattle.dv_vault.proofs.Vocabulary.{true, ℕ, ◌++◌, ◌+◌, ◌<◌, ◌∙◌, ◌∷◌, ◌≡◌, ◌≤◌}
use Rattle.dv_vault.proofs.BatchSteps.{pairs_push}

-- an item at a place passes what all pass
pub passes_here : {X : Type 0} (p : X → Bool) (xs : List X) (i : ℕ) (x : X) → list_all p xs ≡ true → i < length xs → get_or xs i x ≡ x → p x ≡ true
passes_here p xs i x all under at = passes_at p xs x all (subst (Contains xs) at (Contains-get_or xs i x under))

-- the tables of a vault are those of its mapping
pub vault_tables : (mapping : Mapping) (entries : List TableRows) → IsVaultOf mapping entries → list_all (λ (entry : TableRows). is_table_of mapping entry.table) entries ≡ true
vault_tables mapping entries is =
    sym (list_all-map (is_table_of mapping) (λ (entry : TableRows). entry.table) entries) ∙ ap (list_all (is_table_of mapping)) is ∙ tables_in mapping

-- the names of hubs and the tables are told by others that are equal
pub named_apart : (result : Result (List Rows) AdditionFault) (mapping : Mapping) (hashes : Hashes) (hubs hubs' : List (List HubRow)) (window window' : Window) (entries entries' : List TableRows)
    → hubs ≡ hubs' → window ≡ window' → entries ≡ entries' → IfOk result (λ batches. AreApartBy mapping hashes (names_of_rows hubs) window entries)
    → IfOk result (λ batches. AreApartBy mapping hashes (names_of_rows hubs') window' entries')
named_apart result mapping hashes hubs hubs' window window' entries entries' same is those apart =
    subst (λ (P : Type 0). P) (λ i. IfOk result (λ batches. AreApartBy mapping hashes (names_of_rows (same i)) (is i) (those i))) apart

module _ (mapping : Mapping) (hashes : Hashes) (names : List HubName) (window : Window) where
  -- the batches of tables
  pub record SoFar (entries : List TableRows) (batches : List Rows) : Type 0 where
    pub rows : batches ≡ map (added_to mapping hashes window) entries
    pub apart : AreApartBy mapping hashes names window entries
    pub follow : FollowAll window.load entries batches

  one_more : (entries : List TableRows) (batches : List Rows) (entry : TableRows) (rows : Rows) → SoFar entries batches
      → rows ≡ added_to mapping hashes window entry → HasNoClash (hashed_in mapping hashes names window entry) → Follow entry.rows rows → AreOfLoad window.load rows
      → SoFar (entries ++ entry ∷ []) (batches ++ rows ∷ [])
  one_more entries batches entry rows so_far is apart follow stamped = record {
    rows =
        ap (λ (l : List Rows). l ++ rows ∷ []) so_far.rows
        ∙ ap (λ r. map (added_to mapping hashes window) entries ++ r ∷ []) is
        ∙ sym (map-append (added_to mapping hashes window) entries (entry ∷ []));
    apart = All-push (λ entry. HasNoClash (hashed_in mapping hashes names window entry)) entries entry so_far.apart apart;
    follow = record {
      follow =
          subst (λ l. AllZip Follow l (batches ++ rows ∷ [])) (sym (map-append (λ (entry : TableRows). entry.rows) entries (entry ∷ [])))
          (pairs_push Follow (map (λ (entry : TableRows). entry.rows) entries) batches entry.rows rows so_far.follow.follow follow);
      stamped = All-push (λ rows. AreOfLoad window.load rows) batches rows so_far.follow.stamped stamped;
    };
  }

  pub more_at : (entries : List TableRows) (i : ℕ) (batches more : List Rows) (entry : TableRows) (rows : Rows) → i < length entries → get_or entries i entry ≡ entry
      → SoFar (take i entries) batches → more ≡ batches ++ rows ∷ []
      → rows ≡ added_to mapping hashes window entry → HasNoClash (hashed_in mapping hashes names window entry) → Follow entry.rows rows → AreOfLoad window.load rows
      → SoFar (take (i + 1) entries) more
  more_at entries i batches more entry rows under at so_far pushed is apart follow stamped =
      subst (λ l. SoFar (take (i + 1) entries) l) (sym pushed)
      (subst (λ l. SoFar l (batches ++ rows ∷ [])) (sym (take_more entries i entry under ∙ ap (λ e. take i entries ++ e ∷ []) at))
      (one_more (take i entries) batches entry rows so_far is apart follow stamped))

  pub at_last : (entries : List TableRows) (i : ℕ) (batches : List Rows) → length entries ≤ i → SoFar (take i entries) batches → SoFar entries batches
  at_last entries i batches all so_far = subst (λ l. SoFar l batches) (take_all i entries all) so_far

  -- the first table with a collision
  pub clashed : (entries : List TableRows) (i : ℕ) (batches : List Rows) (entry : TableRows) (result : Result Rows DeltaFault) (fault : DeltaFault) (table : TableId)
      → i < length entries → get_or entries i entry ≡ entry → SoFar (take i entries) batches → list_all (λ (entry : TableRows). is_table_of mapping entry.table) entries ≡ true
      → result ≡ Err fault → IfCollides result (IsLeastClash (hashed_in mapping hashes names window entry)) → table ≡ entry.table
      → ClashesAt mapping hashes names window entries (fault_at table fault)
  clashed entries i batches entry result (Collision first second) table under at so_far declared failed clash named = record {
    before = take i entries;
    entry = entry;
    behind = drop (suc i) entries;
    split = sym (take-append-drop i entries) ∙ ap (λ l. take i entries ++ l) (drop-cons entries i entry under ∙ ap (λ e. e ∷ drop (suc i) entries) at);
    is_table = sym named;
    declared = ap (is_table_of mapping) named ∙ passes_here (λ (entry : TableRows). is_table_of mapping entry.table) entries i entry declared under at;
    none_before = so_far.apart;
    is = subst (λ r. IfCollides r (IsLeastClash (hashed_in mapping hashes names window entry))) failed clash;
  }
  clashed entries i batches entry result Memory table under at so_far declared failed clash named = tt
