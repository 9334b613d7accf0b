-- The rows of a hub's table after valid windows break no rule of form.
use Rattle.dv_store_rules.proofs.Vocabulary.{Bool, Delivery, Hub, HubRow, HubTable, Hubs, Key, Known, List, None, Option, Some, Window, [], and_from, ap, bytes_eq-Decides, false, fits_hub, has_key_hash, hub_batch, hub_place, hub_row, hub_rule, is_hub_row, is_known, is_light, key_form, made_of}
use Rattle.dv_store_rules.proofs.Vocabulary.{only_key, parent_hubs, parts_of, refl, reverse, slice_get, subst, sym, the_only, true, ℕ, ◌++◌, ◌+◌, ◌∙◌, ◌∷◌, ◌≡◌}
use Rattle.dv_store_rules.proofs.{Around.Around, Around.IsFlawless, Around.parts_fit, BatchRows.IsOfBatch, Brought.key_fits, KeyRows.IsMade, KeyRows.key_facts, SoundRows.sound_rows}

-- the key of a reference that is one key alone
single_key : (a b : Key) → a ∷ [] ≡ b ∷ [] → a ≡ b
single_key a b same = cc

module _ (known : Known) (hub : ℕ) where
  abbrev row_of : List Window → Window → Delivery → Option HubRow
  row_of = hub_row known.mapping known.hashes hub

  -- a row has the one key of the list that it is made of
  abbrev Own : Delivery → HubRow → Type 0
  Own item row = item.refs ≡ row.key ∷ []

  made : (older : List Window) (window : Window) (item : Delivery) (row : HubRow) → row_of older window item ≡ Some row → IsMade known (Hub hub) hub_place (λ row. row.source) Own older window item row
  made older window item row gives = by (is_known known.mapping (Hub hub) older item.refs) refl
    where
      by : (old : Bool) → is_known known.mapping (Hub hub) older item.refs ≡ old → IsMade known (Hub hub) hub_place (λ row. row.source) Own older window item row
      by true e = let no : None ≡ Some row = rw e at gives in cc
      by false e =
          let (key, only, is) = made_of _ (only_key item.refs) row (rw e at gives) in
          record { new = e; digest = ap (λ (r : HubRow). r.digest) (sym is); load = ap (λ (r : HubRow). r.load) (sym is); source = ap (λ (r : HubRow). r.source) (sym is); own = the_only item.refs key only ∙ ap (λ (r : HubRow). r.key ∷ []) is }

  sound_row : (windows : List Window) → Around known windows → (before : List HubRow) (row : HubRow) → IsOfBatch (hub_batch known.mapping known.hashes hub) (reverse windows) before row → is_light known (Hubs (before ++ row ∷ [])) ≡ true → hub_rule known hub before row ≡ None
  sound_row windows around before row is light =
      let facts = key_facts known (Hub hub) hub_place (λ row. row.source) Own row_of made windows around before row is in
      let from = facts.of.from in
      let of = from.of_row in
      let key_fits_hub = key_fits known.mapping hub (parent_hubs known.mapping from.definition.parent) from.row.refs from.form.fits of.0 of.1 in
      let (count, parts) = key_form known.mapping hub row.key (subst (λ key. fits_hub known.mapping hub key ≡ true) (single_key of.0 row.key (sym of.2 ∙ facts.row_is.own)) key_fits_hub) in
      let formed : is_hub_row known hub row ≡ true = and_from _ _ facts.wide (parts_fit (parts_of (slice_get known.mapping.hubs hub)) row.key.parts count parts) in
      let hashed : has_key_hash known.hashes row ≡ true = (bytes_eq-Decides row.digest (known.hashes.hash (row.key ∷ []))).1 (facts.row_is.digest ∙ ap known.hashes.hash facts.row_is.own) in
      rw (formed, facts.loaded, facts.ordered, hashed, facts.sourced, facts.new, light) refl

  -- no row of the table breaks a rule
  pub sound_hub : (windows : List Window) → Around known windows → IsFlawless known windows (HubTable hub)
  sound_hub windows around light = sound_rows (hub_batch known.mapping known.hashes hub) (reverse windows) (hub_rule known hub) _ _ _ _ refl light (sound_row windows around)
