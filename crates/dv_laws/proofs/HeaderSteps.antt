-- What an extract that is a header alone closes.
use Rattle.dv_laws.proofs.Vocabulary.{All, All-contains_itself, All-weaker, Bool, Closes, Contains, Contains-all_refs, Contains-append_left, D, EffectRow, Extract, Hashes, IsApart, Key, List, Option, Some, StatusRow, [], all_refs, ap, append-nil, batch_made, code_between, delivers, effect_batch}
use Rattle.dv_laws.proofs.Vocabulary.{effect_cmp, effect_row, effect_tied, false, false≢true, filter_map, filter_map_member, member_after_sort, member_of_filter_map, nat_cmp-IsAntisymmetric, newest_rows, option_map, refl, rules, run_begin, slice_cmp-IsAntisymmetric, span_between, status_batch}
use Rattle.dv_laws.proofs.Vocabulary.{status_cmp, status_row, sym, true, unwrap_or, ℕ, ◌++◌, ◌∙◌, ◌∷◌, ◌≡◌}

-- a list that is present is in a run
pub present_in_run : (older : List Extract) (refs : List Key) → delivers (newest_rows older) refs ≡ true → (begin : ℕ) × (run_begin older refs ≡ Some begin)
present_in_run [] refs e = absurd (false≢true e)
present_in_run (newest ∷ older) refs e = (unwrap_or (run_begin older refs) newest.load, rw e)

-- each row of an extract without rows says that its list is gone, or that its run ends
gone_row : (parent source : List ℕ) (load : ℕ) (was : Bool) (row : StatusRow) → option_map (λ code. record { parent = parent; load = load; source = source; code = code }) (code_between was false) ≡ Some row
    → record { parent = row.parent; load = load; source = source; code = D } ≡ row
gone_row parent source load was row h1 = search (rules)

end_row : (parent source : List ℕ) (load : ℕ) (was : Option ℕ) (row : EffectRow)
    → option_map (λ span. record { parent = parent; load = load; source = source; begin = span.begin; end = span.end }) (span_between load was false) ≡ Some row → row.end ≡ load
end_row parent source load was row h1 = search (rules)

module _ (hashes : Hashes) (source : List ℕ) (load : ℕ) (older : List Extract) where
  vanished : (refs : List Key) → delivers (newest_rows older) refs ≡ true
      → Contains (status_batch hashes source older (record { load = load; rows = [] })) (record { parent = hashes.hash refs; load = load; source = source; code = D })
  vanished refs e =
      let things = all_refs (newest_rows older) ++ [] in
      let row_of = status_row hashes source older (record { load = load; rows = [] }) in
      member_after_sort status_cmp (filter_map row_of things) (record { parent = hashes.hash refs; load = load; source = source; code = D })
      (λ other has tie.
      let (thing, member, is) = filter_map_member row_of things other has in
      let parents : other.parent ≡ hashes.hash refs = slice_cmp-IsAntisymmetric nat_cmp-IsAntisymmetric other.parent (hashes.hash refs) tie in
      sym (gone_row (hashes.hash thing) source load (delivers (newest_rows older) thing) other is) ∙ ap (λ parent. record { parent = parent; load = load; source = source; code = D }) parents)
      (member_of_filter_map row_of things refs _ (Contains-append_left (all_refs (newest_rows older)) [] refs (Contains-all_refs (newest_rows older) refs e)) (rw e refl))

  only_vanished : All (λ row. row.code ≡ D) (status_batch hashes source older (record { load = load; rows = [] }))
  only_vanished =
      let things = all_refs (newest_rows older) ++ [] in
      let row_of = status_row hashes source older (record { load = load; rows = [] }) in
      All-weaker (Contains (status_batch hashes source older (record { load = load; rows = [] }))) (λ (row : StatusRow). row.code ≡ D)
      (λ row has.
      let (thing, member, is) = batch_made status_cmp row_of things row has in
      ap (λ (r : StatusRow). r.code) (sym (gone_row (hashes.hash thing) source load (delivers (newest_rows older) thing) row is)))
      (status_batch hashes source older (record { load = load; rows = [] }))
      (All-contains_itself (status_batch hashes source older (record { load = load; rows = [] })))

  ended : IsApart hashes (all_refs (newest_rows older)) → (refs : List Key) → delivers (newest_rows older) refs ≡ true
      → (begin : ℕ) × (run_begin older refs ≡ Some begin)
      × Contains (effect_batch hashes source older (record { load = load; rows = [] })) (record { parent = hashes.hash refs; load = load; source = source; begin = begin; end = load })
  ended apart refs present =
      let (begin, e) = present_in_run older refs present in
      let newest : Extract = record { load = load; rows = [] } in
      let both : IsApart hashes (all_refs (newest_rows older) ++ all_refs newest.rows) = rw append-nil apart in
      (begin, e, ((effect_tied hashes source older newest both (effect_batch hashes source older newest)).0 refl).each refs _ (rw e refl))

  only_ended : All (λ row. row.end ≡ load) (effect_batch hashes source older (record { load = load; rows = [] }))
  only_ended =
      let things = all_refs (newest_rows older) ++ [] in
      let row_of = effect_row hashes source older (record { load = load; rows = [] }) in
      All-weaker (Contains (effect_batch hashes source older (record { load = load; rows = [] }))) (λ (row : EffectRow). row.end ≡ load)
      (λ row has.
      let (thing, member, is) = batch_made effect_cmp row_of things row has in
      end_row (hashes.hash thing) source load (run_begin older thing) row is)
      (effect_batch hashes source older (record { load = load; rows = [] }))
      (All-contains_itself (effect_batch hashes source older (record { load = load; rows = [] })))

  pub closes : Closes hashes source load older
  closes = record { vanished = vanished; only_vanished = only_vanished; ended = ended; only_ended = only_ended; no_sat = refl; no_multi = refl }
