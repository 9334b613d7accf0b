use Rattle.dv_restore.proofs.Vocabulary.{Damaged, FollowAll, IsVaultOf, List, TableRows, and_parts, are_loaded, entry_of, hashes_of, is_later, is_window, map, opened_in, rest_in, row_count, subst, sum_by, sym, true, ◌+◌, ◌∙◌, ◌≡◌}
use Rattle.dv_restore.proofs.{Completing.kinds_of, HeadsHeld.ends_last, HeadsHeld.heads_fed, KeptTables.dated, KeptTables.not_late, KeptTables.rows_kept, KeptTables.same_tables, KeptTables.sealed_loaded, Reopening.begun_of, Reopening.fits, Reopening.rows_are_there, Reopening.vault_is}
use Rattle.dv_restore.proofs.{ToldDamages.error_through}
use Rattle.dv_restore.proofs.completions.reopened.Goals as goal

pub lacking-requires-clause-dated : goal.lacking-requires-clause-dated
lacking-requires-clause-dated g c = λ κs b.
    let ends = ends_last c.args.catalog c.args.heads c.requires.heads in
    let (later, whole) = and_parts (is_later c.args.heads c.args.window.load) (is_window c.args.catalog c.args.window) c.requires.stage in
    dated c.args.heads c.args.window ends later (map entry_of c.args.tables.items) c.requires.loaded

pub in_parts-requires-clause-dated : goal.in_parts-requires-clause-dated
in_parts-requires-clause-dated g c =
    let ends = ends_last c.args.catalog c.args.heads c.requires.heads in
    let (later, whole) = and_parts (is_later c.args.heads c.args.window.load) (is_window c.args.catalog c.args.window) c.requires.stage in
    dated c.args.heads c.args.window ends later (map entry_of c.args.tables.items) c.requires.loaded

pub from_tables-vault-requires-clause-tables : goal.from_tables-vault-requires-clause-tables
from_tables-vault-requires-clause-tables g c =
    subst (IsVaultOf c.args.catalog) (sym (c.in_ok-parts.ensures {u = tt}).parted.sealed_are) (same_tables c.args.catalog c.args.window.load (map entry_of c.args.tables.items) c.requires.ids)

pub from_tables-vault-requires-clause-rows : goal.from_tables-vault-requires-clause-rows
from_tables-vault-requires-clause-rows g c =
    let ends = ends_last c.args.catalog c.args.heads c.requires.heads in
    let (later, whole) = and_parts (is_later c.args.heads c.args.window.load) (is_window c.args.catalog c.args.window) c.requires.stage in
    let loaded = sealed_loaded c.args.heads c.args.window ends later (map entry_of c.args.tables.items) c.requires.loaded in
    rows_kept c.args.heads (map entry_of c.in_ok-parts.parts.sealed.items) ends (kinds_of c.in_ok-parts.parts.sealed.items)
    (subst (λ (entries : List TableRows). are_loaded c.args.heads entries ≡ true) (sym (c.in_ok-parts.ensures {u = tt}).parted.sealed_are) loaded)

pub from_tables-vault-requires-clause-heads : goal.from_tables-vault-requires-clause-heads
from_tables-vault-requires-clause-heads g c = heads_fed c.args.catalog c.args.heads c.requires.heads

pub returns-in_err-made-clause-damaged : goal.returns-in_err-made-clause-damaged
returns-in_err-made-clause-damaged g c = λ damage is.
    (c.in_err-made.ensures {u = tt}).damaged damage (error_through c.from_residual.result c.in_err-made.field-0.0 (Damaged damage) c.from_residual.ensures.1 is)

pub returns-clause-taken : goal.returns-clause-taken
returns-clause-taken g c =
    let hashes = hashes_of g.H.KeyDigest.function in
    let entries = map entry_of c.args.tables.items in
    let sealed = map entry_of c.in_ok-parts.parts.sealed.items in
    let opened = c.in_ok-parts.parts.opened in
    let parted = (c.in_ok-parts.ensures {u = tt}).parted in
    let kinds = kinds_of c.args.tables.items in
    let made = c.from_tables-vault.ensures in
    let vault = vault_is hashes c.args.catalog c.args.heads c.args.window entries sealed opened parted kinds c.from_tables-vault.result made.mapping made.tables made.heads in
    let lacks = c.in_ok-made.ensures {u = tt} in
    let of = c.in_ok-begun.ensures {u = tt} in
    let (later, whole) = and_parts (is_later c.args.heads c.args.window.load) (is_window c.args.catalog c.args.window) c.requires.stage in
    fits hashes c.args.catalog c.args.heads c.args.window entries sealed opened parted kinds c.in_ok-begun.begun of.window of.opened (of.rest ∙ lacks.rest)
    (subst (FollowAll c.args.window.load entries) (sym of.rest) lacks.follow) (of.weight ∙ lacks.weight) c.from_tables-vault.result vault whole (not_late c.args.heads c.args.window.load later)

pub returns-clause-begun : goal.returns-clause-begun
returns-clause-begun g c =
    let hashes = hashes_of g.H.KeyDigest.function in
    let entries = map entry_of c.args.tables.items in
    let sealed = map entry_of c.in_ok-parts.parts.sealed.items in
    let opened = c.in_ok-parts.parts.opened in
    let parted = (c.in_ok-parts.ensures {u = tt}).parted in
    let kinds = kinds_of c.args.tables.items in
    let made = c.from_tables-vault.ensures in
    let vault = vault_is hashes c.args.catalog c.args.heads c.args.window entries sealed opened parted kinds c.from_tables-vault.result made.mapping made.tables made.heads in
    let lacks = c.in_ok-made.ensures {u = tt} in
    let of = c.in_ok-begun.ensures {u = tt} in
    let rows : c.in_ok-begun.begun.rows ≡ sum_by row_count (opened_in c.in_ok-begun.begun.parts.items) + sum_by row_count (rest_in c.in_ok-begun.begun.parts.items) =
    of.rows ∙ (λ i. sum_by row_count (sym of.opened i) + sum_by row_count (sym of.rest i)) in
    begun_of hashes c.args.catalog c.args.heads c.args.window entries sealed opened parted kinds c.in_ok-begun.begun of.window of.opened (of.rest ∙ lacks.rest)
    (subst (FollowAll c.args.window.load entries) (sym of.rest) lacks.follow) (of.weight ∙ lacks.weight) c.from_tables-vault.result vault lacks.place rows

pub returns-clause-entries : goal.returns-clause-entries
returns-clause-entries g c =
    let hashes = hashes_of g.H.KeyDigest.function in
    let entries = map entry_of c.args.tables.items in
    let sealed = map entry_of c.in_ok-parts.parts.sealed.items in
    let opened = c.in_ok-parts.parts.opened in
    let parted = (c.in_ok-parts.ensures {u = tt}).parted in
    let kinds = kinds_of c.args.tables.items in
    let made = c.from_tables-vault.ensures in
    let vault = vault_is hashes c.args.catalog c.args.heads c.args.window entries sealed opened parted kinds c.from_tables-vault.result made.mapping made.tables made.heads in
    let lacks = c.in_ok-made.ensures {u = tt} in
    let of = c.in_ok-begun.ensures {u = tt} in
    rows_are_there hashes c.args.catalog c.args.heads c.args.window entries sealed opened parted kinds c.in_ok-begun.begun of.window of.opened (of.rest ∙ lacks.rest) c.from_tables-vault.result vault
