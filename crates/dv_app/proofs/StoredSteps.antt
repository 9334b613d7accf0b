-- What comes of a command for the text of a stored table.
use Rattle.dv_app.proofs.Vocabulary.{AreInNoState, Bool, Damage, DateEnds, DigestFunction, Does, Ending, Err, Hashes, Held, IsDamageOf, IsErrOf, IsIn, IsMappedBy, IsRowOf, IsStanding, IsStoredDamage, IsTableDamage, Key, List, Mapping, NoSnapshot, None, Ok, Opening, Option, Places, Result, Rose}
use Rattle.dv_app.proofs.Vocabulary.{SnapHead, SnapId, Some, Stands, StandsFor, State, Store, Stored, StoredEnds, StoredFault, StoredTable, Told, Tried, Works, [], ap, arith, damaged_said, ending_of_stored, false, find_none, hashes_of, head_at, if◌then◌else◌, inl, inr, length, list_any}
use Rattle.dv_app.proofs.Vocabulary.{list_any-map, none_found_at, none_pass, none_passes, of_width, read_mapping, refl, refused_said, rose_later, said_of, snap_text, snapshot, stamp_of, stored_at, stored_for, stored_id, stored_says, subst, sym, text_or, true, ℕ, ◌==◌, ◌∙◌, ◌≡◌, ◌≤◌}
use Rattle.dv_window.specs.StoredRows.{asked_of}
use Rattle.dv_app.proofs.{OpenSteps.keeper_left, OpenSteps.memory_left, OpenSteps.opened_in, OpenSteps.opened_kept, QuerySteps.refused_works, QuerySteps.text_does, WorkSteps.Kept, WorkSteps.refused_does}
use Rattle.dv_window.specs.declared.stored.StoredFault.TheVariants as stored
use Rattle.dv_app.specs.declared.replies.Reply.TheVariants as reply

-- a text is read as one mapping at most
same_ok : {E : Type 0} (x y : Mapping) (r : Result Mapping E) → r ≡ Ok x → r ≡ Ok y → x ≡ y
same_ok x y r is also = cc

one_mapping : (a b : Mapping) (stored : Option (List ℕ)) → IsMappedBy a stored → IsMappedBy b stored → a ≡ b
one_mapping a b stored by also = same_ok a b (read_mapping by.text) by.reads (ap read_mapping (texts (sym by.stored_is ∙ also.stored_is)) ∙ also.reads)
  where
    texts : {x y : List ℕ} → Some x ≡ Some y → x ≡ y
    texts e = cc

-- ---- heads at a date

-- a snapshot is at a date
abbrev is_at : ℕ → SnapHead → Bool
is_at day head = head.date == day

-- none is found exactly where none is there
none_there : (day : ℕ) (heads : List SnapHead) → head_at day heads ≡ None → list_any (is_at day) heads ≡ false
none_there day heads none = none_pass (is_at day) heads (λ head has. none_found_at (is_at day) heads head none has)

one_there : (day : ℕ) (heads : List SnapHead) → (head_at day heads ≡ None → ⊥) → list_any (is_at day) heads ≡ true
one_there day heads found = by (list_any (is_at day) heads) refl
  where
    by : (there : Bool) → list_any (is_at day) heads ≡ there → there ≡ true
    by true e = refl
    by false e = absurd (found (find_none (is_at day) heads (λ head has. none_passes (is_at day) heads head e has)))

-- ---- what is said

module _ (mapping : Mapping) (hashes : Hashes) (state : State) (table : StoredTable) (date : List ℕ) (id : SnapId) (named : stored_id mapping table ≡ Some id) where
  stored_dated : (day : Option ℕ) → stamp_of date ≡ day → stored_at mapping hashes state id date day ≡ stored_says mapping hashes state table date
  stored_dated day dated = sym (ap (stored_for mapping hashes state table date) named ∙ ap (stored_at mapping hashes state id date) dated)

-- ---- no such table, or no date

module _ (table : StoredTable) (date : List ℕ) (function : DigestFunction) (at : Places) (kept : at.folder.new ≡ at.folder.old) (same : at.folder.now ≡ at.folder.before) (office : Held)
    (opening : Opening function at.keeper (Ok office)) where
  pub unknown_works : (ending : Ending) → StoredEnds office.vault.mapping table ending → Works (Stored table date) function at (Err ending)
  unknown_works ending ends = refused_works (Stored table date) tt function at kept same office opening _
      (λ store e rule broken state stands. ap refused_said broken.0 ∙ sym (ap (stored_for office.vault.mapping (hashes_of function) state table date) broken.1)) ending ends

  pub undated_works : (id : SnapId) → stored_id office.vault.mapping table ≡ Some id → (ending : Ending) → DateEnds date ending → Works (Stored table date) function at (Err ending)
  undated_works id named ending ends = refused_works (Stored table date) tt function at kept same office opening _
      (λ store e rule broken state stands. ap refused_said broken.0 ∙ stored_dated office.vault.mapping (hashes_of function) state table date id named None broken.1) ending ends

-- ---- a table that is asked for at a date

module _ (table : StoredTable) (date : List ℕ) (function : DigestFunction) (at : Places) (kept : at.folder.new ≡ at.folder.old) (same : at.folder.now ≡ at.folder.before) (office : Held) (mid : Option Store) (between : ℕ)
    (opening : Opening function (record { old = at.keeper.old; new = mid; before = at.keeper.before; now = between }) (Ok office)) (stays : at.keeper.new ≡ mid) (later : between ≤ at.keeper.now)
    (id : SnapId) (named : stored_id office.vault.mapping table ≡ Some id) (day : ℕ) (dated : stamp_of date ≡ Some day) where
  abbrev mapping : Mapping
  mapping = office.vault.mapping

  abbrev hashes : Hashes
  hashes = hashes_of function

  abbrev left : at.keeper.new ≡ at.keeper.old
  left = stays ∙ opening.left

  opened : Opening function at.keeper (Ok office)
  opened = record { opens = opening.opens; left = left; later = omega (arith, opening.later, later) }

  -- an office that was opened is in each state that its store stands for
  in_store : (store : Store) → at.keeper.old ≡ Some store → (state : State) → Stands mapping hashes state store → IsIn hashes state office (Some store)
  in_store store e state stands = subst (IsIn hashes state office) e (opened_in function at.keeper.old office opening.opens store e state stands)

  -- what is said in each state
  says : (said : Tried) → ((store : Store) → at.keeper.old ≡ Some store → (state : State) → Stands mapping hashes state store → said ≡ stored_says mapping hashes state table date) → Kept (Stored table date) function at said
  says said by = opened_kept (Stored table date) tt function at office opening.opens said (λ store e state stands. by store e state stands)

  -- whether a snapshot is stored at the date, as the office has it and as a state does
  heads_tell : (store : Store) → at.keeper.old ≡ Some store → (state : State) → Stands mapping hashes state store → list_any (is_at day) office.snapshots ≡ list_any (λ other. other == day) state.dates
  heads_tell store e state stands =
      let stood : StandsFor hashes state office = opening.opens.stands store e state stands in
      ap (list_any (is_at day)) stood.snapshots_are ∙ list_any-map (is_at day) (λ d. (snapshot mapping hashes state.sealed d).head) state.dates

  -- what a state says, by whether the office has a snapshot at the date
  state_says : (there : Bool) → list_any (is_at day) office.snapshots ≡ there → (store : Store) → at.keeper.old ≡ Some store → (state : State) → Stands mapping hashes state store
      → text_or (if there then Ok (snap_text mapping hashes state.sealed id day) else Err (NoSnapshot day)) ≡ stored_says mapping hashes state table date
  state_says there is store e state stands =
      ap (λ b. text_or (if b then Ok (snap_text mapping hashes state.sealed id day) else Err (NoSnapshot day))) (sym is ∙ heads_tell store e state stands)
      ∙ stored_dated mapping hashes state table date id named (Some day) dated

  pub stored_works : (text : List ℕ) → (head_at day office.snapshots ≡ None → ⊥)
      → ((hashes : Hashes) (state : State) (store : Store) → mid ≡ Some store → IsIn hashes state office (Some store) → text ≡ snap_text mapping hashes state.sealed id day)
      → Works (Stored table date) function at (Ok (reply.Text text))
  stored_works text found is = record {
    comes = text_does (Stored table date) tt function at kept same office opened text (λ store e state stands.
        ap (λ t. text_or (Ok t)) (is hashes state store (opening.left ∙ e) (in_store store e state stands)) ∙ state_says true (one_there day office.snapshots found) store e state stands);
    later = record { kept = kept; folder = omega (arith, same); keeper = opened.later };
  }

  none_does : head_at day office.snapshots ≡ None → Does (Stored table date) function at (refused_said (NoSnapshot day))
  none_does none = refused_does (Stored table date) function at (NoSnapshot day)
      (says (refused_said (NoSnapshot day)) (λ store e state stands. state_says false (none_there day office.snapshots none) store e state stands)) (inl left)

  -- a store that stands for a state has no flawed row of a table
  stands_for_none : AreInNoState office mid → IsStanding hashes at.keeper.old → ⊥
  stands_for_none none standing =
      let one : standing.mapping ≡ mapping =
      one_mapping standing.mapping mapping standing.store.mapping standing.stands.mapped (opening.opens.agrees standing.store standing.told_is).mapped in
      none hashes standing.state standing.store (opening.left ∙ standing.told_is)
      (in_store standing.store standing.told_is standing.state (subst (λ m. Stands m hashes standing.state standing.store) one standing.stands)) wide
    where
      wide : (refs : List Key) → length (hashes.hash refs) ≡ office.width
      wide refs = (of_width function).hash refs ∙ sym opening.opens.width_is

  -- a row that is found of the office's table is one of the store's
  table_damage : (damage : Damage) (store : Store) → at.keeper.old ≡ Some store → IsStoredDamage office id day store.snapshots damage → IsTableDamage function table date store damage
  table_damage damage store e found = record {
    mapping = mapping;
    opened = opening.opens.opened store e;
    id = id;
    id_is = named;
    at = day;
    at_is = dated;
    head = found.head;
    head_is = ap (head_at day) (sym (opening.opens.agrees store e).kept.snapshots_are) ∙ found.head_is;
    damage_is = subst (λ width. IsDamageOf mapping width (asked_of id found.head) store.snapshots damage) opening.opens.width_is found.damage_is;
  }

  damage_does : (damage : Damage) → Told mid (λ store. IsStoredDamage office id day store.snapshots damage) → IsRowOf mapping id damage → AreInNoState office mid → Does (Stored table date) function at (damaged_said damage)
  damage_does damage has formed none = record {
    says = says (damaged_said damage) (λ store e state stands. absurd (stands_for_none none (record { mapping = mapping; state = state; store = store; told_is = e; stands = stands })));
    cause = (damage, ([], refl));
    leaves = inl left;
    damage = λ is. (damage, refl, record { has = λ store e. inr (table_damage damage store e (has store (opening.left ∙ e))); may = inr (mapping, id, named, formed); stands_for_none = stands_for_none none });
  }

  fault_does : (fault : StoredFault) → (IsErrOf {T = List ℕ} (Err fault) stored.NoSnapshot → head_at day office.snapshots ≡ None)
      → ((damage : Damage) → IsErrOf {T = List ℕ} (Err fault) (stored.Damaged damage) → Told mid (λ store. IsStoredDamage office id day store.snapshots damage))
      → ((damage : Damage) → IsErrOf {T = List ℕ} (Err fault) (stored.Damaged damage) → IsRowOf mapping id damage)
      → ((damage : Damage) → IsErrOf {T = List ℕ} (Err fault) (stored.Damaged damage) → AreInNoState office mid)
      → (IsErrOf {T = List ℕ} (Err fault) stored.KeeperFault → Rose between at.keeper.now) → Does (Stored table date) function at (said_of (ending_of_stored day fault))
  fault_does stored.NoSnapshot none has formed sound rose = none_does (none refl)
  fault_does (stored.Damaged damage) none has formed sound rose = damage_does damage (has damage refl) (formed damage refl) (sound damage refl)
  fault_does stored.KeeperFault none has formed sound rose = keeper_left (Stored table date) tt function at left (rose_later at.keeper.before between at.keeper.now opening.later (rose refl))
  fault_does stored.Memory none has formed sound rose = memory_left (Stored table date) tt function at left

  pub faulted_works : (fault : StoredFault) → (IsErrOf {T = List ℕ} (Err fault) stored.NoSnapshot → head_at day office.snapshots ≡ None)
      → ((damage : Damage) → IsErrOf {T = List ℕ} (Err fault) (stored.Damaged damage) → Told mid (λ store. IsStoredDamage office id day store.snapshots damage))
      → ((damage : Damage) → IsErrOf {T = List ℕ} (Err fault) (stored.Damaged damage) → IsRowOf mapping id damage)
      → ((damage : Damage) → IsErrOf {T = List ℕ} (Err fault) (stored.Damaged damage) → AreInNoState office mid)
      → (IsErrOf {T = List ℕ} (Err fault) stored.KeeperFault → Rose between at.keeper.now) → Works (Stored table date) function at (Err (ending_of_stored day fault))
  faulted_works fault none has formed sound rose = record {
    comes = (fault_does fault none has formed sound rose, memory_left (Stored table date) tt function at left);
    later = record { kept = kept; folder = omega (arith, same); keeper = opened.later };
  }
