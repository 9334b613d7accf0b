use Rattle.dv_vault.proofs.Vocabulary.{ArePartsOf, FollowAll, List, RawVault, Rows, TableRows, Window, ap, arith, entries_with, entry_of, is_window, last_sealed, late_after, map, no_rows, opened_in, rest_in, row_count, rows_weight, subst, sum_by, sym, tables_weight, whole_in, ◌+◌, ◌∙◌, ◌≡◌}
use Rattle.dv_vault.proofs.{NewWindows.new_kinds, NewWindows.new_whole, NewWindows.none_counted, Taken.weight_grows}
use Rattle.dv_vault.proofs.vaults.Vault.begun.Goals as goal

pub returns-clause-adds : goal.returns-clause-adds
returns-clause-adds g c =
    let made = c.in_ok-begun.ensures {u = tt} in
    let raw = c.args.self.now in
    let none : opened_in c.in_ok-begun.begun.parts.items ≡ map (λ (entry : TableRows). no_rows entry.table) raw.tables =
    made.opened ∙ c.in_ok-opened.ensures {u = tt} ∙ ap (λ tables. map (λ (entry : TableRows). no_rows entry.table) (map entry_of tables)) c.deref.ensures.value ∙ ap (λ (raw : RawVault). map (λ (entry : TableRows). no_rows entry.table) raw.tables) c.self.view_is in
    let nothing : sum_by row_count c.in_ok-opened.opened ≡ 0 = ap (sum_by row_count) (sym made.opened ∙ none) ∙ none_counted raw.tables in
    let counted : sum_by row_count c.args.rest ≡ sum_by row_count (rest_in c.in_ok-begun.begun.parts.items) = ap (sum_by row_count) (sym made.rest) in
    let rows = made.rows in
    record {
      window_is = made.window;
      none_there = none;
      rest_is = made.rest ∙ c.requires.rows;
      apart = c.requires.apart;
      rows_are = omega (arith, rows, nothing, counted);
      weight_is = made.weight ∙ c.in_ok-weight.ensures {u = tt}
          ∙ ap (λ n. n + sum_by rows_weight c.items.result.now) (c.self.invariant.3 ∙ ap (λ (raw : RawVault). tables_weight raw.tables) c.self.view_is)
          ∙ ap (λ items. tables_weight raw.tables + sum_by rows_weight items) (c.items.ensures ∙ c.requires.rows);
    }

pub returns-clause-fits : goal.returns-clause-fits
returns-clause-fits g c =
    let made = c.in_ok-begun.ensures {u = tt} in
    let raw = c.args.self.now in
    let adds = returns-clause-adds g c in
    let parts = c.in_ok-begun.begun.parts.items in
    let tables : map entry_of c.self.inside.raw.tables.items ≡ raw.tables = ap (λ (raw : RawVault). raw.tables) c.self.view_is in
    let follow : FollowAll c.args.window.load raw.tables (rest_in parts) = subst (FollowAll c.args.window.load raw.tables) (sym made.rest) c.requires.follow in
    let kinds : ArePartsOf raw.tables parts =
    subst (λ (entries : List TableRows). ArePartsOf entries parts) tables
    (new_kinds c.self.inside.raw.tables.items parts (adds.none_there ∙ ap (map (λ (entry : TableRows). no_rows entry.table)) (sym tables))
    (subst (λ (entries : List TableRows). FollowAll c.args.window.load entries (rest_in parts)) (sym tables) follow).follow) in
    let whole : whole_in parts ≡ rest_in parts = new_whole raw.tables parts adds.none_there kinds in
    record {
      window = ap (is_window raw.mapping) made.window ∙ c.requires.window;
      parts = kinds;
      follow = subst (λ (w : Window). FollowAll w.load raw.tables (whole_in parts)) (sym made.window) (subst (FollowAll c.args.window.load raw.tables) (sym whole) follow);
      later = ap (λ (w : Window). late_after (last_sealed raw.heads) w.load) made.window ∙ c.requires.later;
      weight = adds.weight_is
          ∙ ap (λ (rest : List Rows). tables_weight raw.tables + sum_by rows_weight rest) (sym adds.rest_is)
          ∙ sym (weight_grows raw.tables (rest_in parts) follow.follow)
          ∙ ap (λ rest. tables_weight (entries_with raw.tables rest)) (sym whole);
    }
