-- The rows of a link's table after valid windows break no rule of form.
use Rattle.dv_store_rules.proofs.Vocabulary.{Bool, Contains, Contains-cons_here, Contains-cons_there, Delivery, Hub, Key, Known, Link, LinkRow, LinkTable, Links, List, None, Option, Parent, Some, Window, [], all_missing, all_pass, and_from, and_parts, ap, are_references, as_many, bytes_eq}
use Rattle.dv_store_rules.proofs.Vocabulary.{bytes_eq-Decides, each_hash, eq-eqb, false, false≢true, fit_hubs, fits_hub, flat_map, if_not, is_digest, is_in_hub, is_known, is_light, is_link_row, is_missing, is_offered, is_reference, key_at_first, key_at_later, keys_at, known_hashed, length}
use Rattle.dv_store_rules.proofs.Vocabulary.{length-map, link_batch, link_place, link_row, link_rule, list_all, map_member, missing_refs, not, offered_refs, or_left, or_right, parent_hubs, refl, reverse, some_passes_at, source, subst, sym, true, zero_key, zip, ℕ, ◌++◌, ◌+◌, ◌∙◌, ◌∷◌, ◌≡◌}
use Rattle.dv_store_rules.proofs.{Around.Around, Around.HaveHubs, Around.IsFlawless, Around.is_wide, BatchRows.IsOfBatch, BatchRows.event_in, Brought.hub_of_link, Brought.key_brought, Brought.offered_from, KeyRows.IsMade, KeyRows.KeyFacts, KeyRows.key_facts, SoundRows.sound_rows}
use Rattle.dv_store_rules.proofs.{Widths.AreOfWidth}

-- ---- references

module _ (known : Known) where
  -- where the hash of each key refers to its hub, so do all
  each_refers : (hubs : List ℕ) (refs : List Key) → fit_hubs known.mapping hubs refs ≡ true
      → ((hub : ℕ) (key : Key) → Contains hubs hub → Contains (keys_at hub hubs refs) key → is_reference known (hub, known.hashes.hash (key ∷ [])) ≡ true)
      → list_all (is_reference known) (zip hubs (each_hash known.hashes refs)) ≡ true
  each_refers [] refs fits refers = refl
  each_refers (hub ∷ hubs) [] fits refers = refl
  each_refers (hub ∷ hubs) (key ∷ refs) fits refers =
      and_from _ _ (refers hub key (Contains-cons_here hub hubs) (key_at_first hub hubs key refs))
      (each_refers hubs refs (and_parts (fits_hub known.mapping hub key) (fit_hubs known.mapping hubs refs) fits).1
      (λ other k in_hubs has. refers other k (Contains-cons_there hub hubs other in_hubs) (key_at_later other hub hubs k key refs has)))

  -- a missing key refers to its hub, and so does one that is in the hub's table
  key_refers : (width : AreOfWidth known.hashes known.width) (hub : ℕ) (key : Key) → (is_missing key ≡ false → is_in_hub known.tables hub (known.hashes.hash (key ∷ [])) ≡ true) → is_reference known (hub, known.hashes.hash (key ∷ [])) ≡ true
  key_refers wide hub key there = by (is_missing key) refl
    where
      by : (b : Bool) → is_missing key ≡ b → is_reference known (hub, known.hashes.hash (key ∷ [])) ≡ true
      by true e =
          or_left (bytes_eq (known.hashes.hash (key ∷ [])) (zero_key known.width)) (is_in_hub known.tables hub (known.hashes.hash (key ∷ [])))
          ((bytes_eq-Decides (known.hashes.hash (key ∷ [])) (zero_key known.width)).1 (wide.missing (key ∷ []) (and_from _ _ e refl)))
      by false e = or_right (bytes_eq (known.hashes.hash (key ∷ [])) (zero_key known.width)) (is_in_hub known.tables hub (known.hashes.hash (key ∷ []))) (there e)

-- ---- rows

module _ (known : Known) (link : ℕ) where
  abbrev row_of : List Window → Window → Delivery → Option LinkRow
  row_of = link_row known.mapping known.hashes link

  -- a row has the hash key of each key of the list that it is made of
  abbrev Own : Delivery → LinkRow → Type 0
  Own item row = row.hubs ≡ each_hash known.hashes item.refs

  made : (older : List Window) (window : Window) (item : Delivery) (row : LinkRow) → row_of older window item ≡ Some row → IsMade known (Link link) link_place (λ row. row.source) Own older window item row
  made older window item row gives = by (is_known known.mapping (Link link) older item.refs) refl
    where
      by : (old : Bool) → is_known known.mapping (Link link) older item.refs ≡ old → IsMade known (Link link) link_place (λ row. row.source) Own older window item row
      by true e = let no : None ≡ Some row = rw e at gives in cc
      by false e =
          let is = sym (if_not (is_known known.mapping (Link link) older item.refs) _ row gives) in
          record { new = e; digest = ap (λ (r : LinkRow). r.digest) is; load = ap (λ (r : LinkRow). r.load) is; source = ap (λ (r : LinkRow). r.source) is; own = ap (λ (r : LinkRow). r.hubs) is }

  module _ (windows : List Window) (around : Around known windows) (hubs : HaveHubs known windows) (before : List LinkRow) (row : LinkRow) (is : IsOfBatch (link_batch known.mapping known.hashes link) (reverse windows) before row) where
    facts : KeyFacts known (Link link) link_place (λ row. row.source) Own row_of made windows around before row is
    facts = key_facts known (Link link) link_place (λ row. row.source) Own row_of made windows around before row is

    fits : fit_hubs known.mapping (parent_hubs known.mapping (Link link)) facts.of.item.refs ≡ true
    fits =
        let of = facts.of.from.of_row in
        subst (λ keys. fit_hubs known.mapping (parent_hubs known.mapping (Link link)) keys ≡ true) (sym of.1)
        (subst (λ (parent : Parent). fit_hubs known.mapping (parent_hubs known.mapping parent) facts.of.from.row.refs ≡ true) of.0 facts.of.from.form.fits)

    formed : is_link_row known link row ≡ true
    formed =
        let count : length row.hubs ≡ length (parent_hubs known.mapping (Link link)) =
        ap length facts.row_is.own ∙ length-map facts.of.item.refs (λ (key : Key). known.hashes.hash (key ∷ [])) ∙ as_many known.mapping (parent_hubs known.mapping (Link link)) facts.of.item.refs fits in
        and_from _ _ (and_from _ _ facts.wide (eq-eqb (length row.hubs) (length (parent_hubs known.mapping (Link link))) count))
        (all_pass (is_digest known.width) row.hubs (λ digest has.
        let (key, member, same) = map_member (λ (key : Key). known.hashes.hash (key ∷ [])) facts.of.item.refs digest (subst (λ all. Contains all digest) facts.row_is.own has) in
        is_wide known.width digest (ap length (sym same) ∙ around.wide.hash (key ∷ []))))

    -- the zero key is that of the missing list, and the row's list isn't missing
    not_zero : (b : Bool) → bytes_eq row.digest (zero_key known.width) ≡ b → not b ≡ true
    not_zero false e = refl
    not_zero true e =
        let missing = missing_refs known.mapping (Link link) in
        let gone : list_all is_missing missing ≡ true = all_missing known.mapping (parent_hubs known.mapping (Link link)) in
        let alike : known.hashes.hash facts.of.item.refs ≡ known.hashes.hash missing = sym facts.row_is.digest ∙ (bytes_eq-Decides row.digest (zero_key known.width)).0 e ∙ sym (around.wide.missing missing gone) in
        let one : facts.of.item.refs ≡ missing =
        facts.apart facts.of.item.refs missing (known_hashed known.mapping known.hashes windows (Link link) facts.apart facts.of.item.refs facts.brought)
        (Contains-cons_here missing (flat_map (offered_refs known.mapping (Link link)) windows)) alike in
        absurd (false≢true (sym facts.of.from.present ∙ ap (list_all is_missing) one ∙ gone))

    -- each key of the list that isn't missing is brought to its hub
    refers : (hub : ℕ) (key : Key) → Contains (parent_hubs known.mapping (Link link)) hub → Contains (keys_at hub (parent_hubs known.mapping (Link link)) facts.of.item.refs) key → is_reference known (hub, known.hashes.hash (key ∷ [])) ≡ true
    refers hub key in_hubs has =
        key_refers known around.wide hub key (λ present.
        let from = facts.of.from in
        let of = from.of_row in
        let keyed : Contains (keys_at hub (parent_hubs known.mapping from.definition.parent) from.row.refs) key =
        subst (λ (parent : Parent). Contains (keys_at hub (parent_hubs known.mapping parent) from.row.refs) key) (sym of.0)
        (subst (λ keys. Contains (keys_at hub (parent_hubs known.mapping (Link link)) keys) key) of.1 has) in
        let brought = key_brought known.mapping from.staged from.definition from.got from.row from.row_in hub key keyed in
        let offered = offered_from known.mapping (Hub hub) is.newest from.staged from.staged_in (key ∷ []) brought (rw present) in
        hubs hub (hub_of_link known.mapping around.mapping_valid link hub in_hubs) key
        (some_passes_at (λ window. is_offered known.mapping (Hub hub) window (key ∷ [])) (reverse windows) is.newest (event_in (link_batch known.mapping known.hashes link) (reverse windows) before row is) offered))

    refer : are_references known link row.hubs ≡ true
    refer = subst (λ digests. are_references known link digests ≡ true) (sym facts.row_is.own) (each_refers known (parent_hubs known.mapping (Link link)) facts.of.item.refs fits refers)

    sound_row : is_light known (Links (before ++ row ∷ [])) ≡ true → link_rule known link before row ≡ None
    sound_row light = rw (formed, facts.loaded, facts.ordered, not_zero (bytes_eq row.digest (zero_key known.width)) refl, facts.sourced, refer, facts.new, light) refl

  -- no row of the table breaks a rule
  pub sound_link : (windows : List Window) → Around known windows → HaveHubs known windows → IsFlawless known windows (LinkTable link)
  sound_link windows around hubs light = sound_rows (link_batch known.mapping known.hashes link) (reverse windows) (link_rule known link) _ _ _ _ refl light (sound_row windows around hubs)
