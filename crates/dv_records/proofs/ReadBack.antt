-- The content of a feed without a sub is read back from the tables of the vault.
use Rattle.dv_records.proofs.Vocabulary.{Bool, Contains, Contains-cons_here, Contains-nil, Extract, FeedDef, HasOneRowEach, Hashes, IsOnePerList, List, Mapping, NRow, Option, SatRow, Sats, Some, TableRows, Window, [], ap, are_windows_valid, attrs_read, content, content_read, content_read_by}
use Rattle.dv_records.proofs.Vocabulary.{delivers, eqb-true, false, filter_map, filter_map_member, filtered_members, first_attrs, history, is_valid, last_rows, length, made_of, member_of_filter_map, newest_rows, nil_from_length, option_map, option_map_or, present_parents, refl, refs_eq}
use Rattle.dv_records.proofs.Vocabulary.{refs_eq-Decides, reverse, row_cmp-IsAntisymmetric, row_read, row_total, rules, sat_rows_in, slice_get, some_passes_at, sorted_by-members, status_rows_in, subst, sym, true, up_to, valid_at, vault, ℕ, ◌==◌, ◌∙◌, ◌∷◌, ◌≡◌}
use Rattle.dv_records.proofs.{ChangedRows.only_attrs, FeedContents.rows_of_extract, FeedContents.content_ascends, FeedContents.content_delivered, FeedContents.feed_apart, FeedContents.present_has, FeedContents.row_form, FeedContents.row_present, FeedContents.row_refs, NewestRows.reached}
use Rattle.dv_records.proofs.{Reversing.history_member, SatReconstruct.sat_tells, ValidWindows.load_order, VaultRows.vault_sat, WindowRows.HasForm}

-- ---- attributes

-- the newest extract's row of a list is the last one with the list
last_held : (all : List Extract) → ((extract : Extract) → Contains all extract → IsOnePerList extract.rows) → (row : NRow) → Contains (newest_rows all) row → first_attrs (last_rows all row.refs) ≡ Some row.attrs
last_held [] single row has = Contains-nil row has
last_held (newest ∷ older) single row has =
    let same = (refs_eq-Decides row.refs row.refs).1 refl in
    let here : delivers newest.rows row.refs ≡ true = some_passes_at (λ (r : NRow). refs_eq r.refs row.refs) newest.rows row has same in
    rw here (only_attrs newest.rows (single newest (Contains-cons_here newest older)) row.refs row ((filtered_members (λ (r : NRow). refs_eq r.refs row.refs) newest.rows row).1 (has, same)))

told_or : (o : Option SatRow) (attrs : List (List ℕ)) → option_map (λ (row : SatRow). row.attrs) o ≡ Some attrs → option_map_or (λ (row : SatRow). row.attrs) o [] ≡ attrs
told_or o attrs e = search (rules, made_of)

-- ---- the theorem

module _ (mapping : Mapping) (hashes : Hashes) (sealed : List Window) (feed : ℕ) (definition : FeedDef) (valid : is_valid mapping ≡ true)
    (windows_valid : are_windows_valid mapping hashes sealed ≡ true) (at : slice_get mapping.feeds feed ≡ Some definition) (none : definition.sub ≡ []) where
  abbrev tables : List TableRows
  tables = vault mapping hashes sealed

  no_sub : (row : NRow) → HasForm mapping definition row → row.sub ≡ []
  no_sub row form = nil_from_length row.sub (form.subs ∙ ap length none)

  single : HasOneRowEach feed sealed
  single extract has a b a_in b_in same =
      let rows = rows_of_extract mapping hashes sealed feed definition valid windows_valid at extract has in
      rows.single a b a_in b_in same (no_sub a (rows.forms a a_in) ∙ sym (no_sub b (rows.forms b b_in)))

  module _ (date : ℕ) where
    singles : (extract : Extract) → Contains (up_to date (history feed (reverse sealed))) extract → IsOnePerList extract.rows
    singles extract has = single extract ((history_member feed sealed extract).0 (reached feed sealed date extract has))

    -- the attributes of a row of the content are read back
    attrs_told : (row : NRow) → Contains (content feed sealed date) row → attrs_read tables definition feed (hashes.hash row.refs) date ≡ row.attrs
    attrs_told row has = by (length definition.attrs == 0) refl
      where
        as_many : length row.attrs ≡ length definition.attrs
        as_many = (row_form mapping hashes sealed feed definition valid windows_valid at date row has).attributes

        by : (b : Bool) → (length definition.attrs == 0) ≡ b → attrs_read tables definition feed (hashes.hash row.refs) date ≡ row.attrs
        by true e = rw e (sym (nil_from_length row.attrs (as_many ∙ eqb-true (length definition.attrs) 0 e)))
        by false e =
            let apart = feed_apart mapping hashes sealed feed definition valid windows_valid at in
            let delivered = content_delivered mapping hashes sealed feed definition valid windows_valid at date row has in
            let says =
            sat_tells mapping hashes feed sealed (sat_rows_in feed tables) (ap Sats (sym (vault_sat mapping hashes sealed feed definition at none e))) (load_order mapping hashes sealed windows_valid) single apart row.refs
            (λ other other_in same. apart other row.refs other_in delivered same) date in
            rw e (told_or (valid_at (sat_rows_in feed tables) (hashes.hash row.refs) date) row.attrs (says ∙ last_held (up_to date (history feed (reverse sealed))) singles row has))

    -- so the row is
    row_told : (row : NRow) → Contains (content feed sealed date) row → row_read mapping tables definition feed date (hashes.hash row.refs) ≡ Some row
    row_told row has =
        let refs = row_refs mapping hashes sealed feed definition valid windows_valid at date row has in
        let sub = sym (no_sub row (row_form mapping hashes sealed feed definition valid windows_valid at date row has)) in
        let attrs = attrs_told row has in
        ap (option_map (λ refs. record { refs = refs; sub = []; attrs = attrs_read tables definition feed (hashes.hash row.refs) date })) refs
        ∙ (λ i. Some (record { refs = row.refs; sub = sub i; attrs = attrs i }))

    abbrev parents : List (List ℕ)
    parents = present_parents (status_rows_in feed tables) date

    there : (row : NRow) → Contains (content feed sealed date) row → Contains (filter_map (row_read mapping tables definition feed date) parents) row
    there row has =
        member_of_filter_map (row_read mapping tables definition feed date) parents (hashes.hash row.refs) row
        (row_present mapping hashes sealed feed definition valid windows_valid at date row has) (row_told row has)

    back : (row : NRow) → Contains (filter_map (row_read mapping tables definition feed date) parents) row → Contains (content feed sealed date) row
    back row has =
        let (digest, member, reads) = filter_map_member (row_read mapping tables definition feed date) parents row has in
        let (found, found_in, is) = present_has mapping hashes sealed feed definition valid windows_valid at date digest member in
        let told : row_read mapping tables definition feed date digest ≡ Some found = ap (row_read mapping tables definition feed date) (sym is) ∙ row_told found found_in in
        let both : Some found ≡ Some row = sym told ∙ reads in
        let one : found ≡ row = cc in
        subst (Contains (content feed sealed date)) one found_in

    pub feed_tells : content_read mapping (vault mapping hashes sealed) feed date ≡ content feed sealed date
    feed_tells =
        ap (λ (o : Option FeedDef). content_read_by mapping tables o feed date) at
        ∙ sym
        (sorted_by-members row_total row_cmp-IsAntisymmetric (filter_map (row_read mapping tables definition feed date) parents) (content feed sealed date)
        (content_ascends mapping hashes sealed feed definition valid windows_valid at date) (λ row. (there row, back row)))
