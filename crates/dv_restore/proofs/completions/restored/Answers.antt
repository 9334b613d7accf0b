use Rattle.dv_restore.proofs.Vocabulary.{List, None, Some, WindowHead, [], ap, append-nil, are_loaded, entry_of, hashes_of, head_of, map, option_to_list, sealed_entry, subst, sym, true, ◌++◌, ◌∙◌, ◌≡◌}
use Rattle.dv_restore.proofs.{Completing.kinds_of, HeadsHeld.ends_last, HeadsHeld.heads_fed, KeptTables.rows_kept, RowLoads.loaded_by, RowLoads.no_zero_links, Reopening.all_sealed}
use Rattle.dv_restore.proofs.completions.restored.Goals as goal

pub reopened-requires-clause-loaded : goal.reopened-requires-clause-loaded
reopened-requires-clause-loaded g c = λ κs b.
    loaded_by c.args.catalog (hashes_of g.H.KeyDigest.function) g.H.KeyDigest.function.width c.args.heads c.args.stage (Some c.in-Some.window) (map entry_of c.args.tables.items) c.requires.clear (kinds_of c.args.tables.items) c.in-Some.is

pub reopened-requires-clause-links : goal.reopened-requires-clause-links
reopened-requires-clause-links g c κs within =
    no_zero_links
    (record { mapping = c.args.catalog; hashes = hashes_of g.H.KeyDigest.function; width = g.H.KeyDigest.function.width; heads = c.args.heads ++ map head_of (option_to_list c.args.stage); tables = [] })
    (map entry_of c.args.tables.items) c.requires.clear

pub from_tables-vault-requires-clause-rows : goal.from_tables-vault-requires-clause-rows
from_tables-vault-requires-clause-rows g c =
    let kinds = kinds_of c.args.tables.items in
    let loaded = loaded_by c.args.catalog (hashes_of g.H.KeyDigest.function) g.H.KeyDigest.function.width c.args.heads c.args.stage None (map entry_of c.args.tables.items) c.requires.clear kinds c.in_default.is in
    rows_kept c.args.heads (map entry_of c.args.tables.items) (ends_last c.args.catalog c.args.heads c.requires.heads) kinds
    (subst (λ (heads : List WindowHead). are_loaded heads (map entry_of c.args.tables.items) ≡ true) (append-nil c.args.heads) loaded)

pub from_tables-vault-requires-clause-heads : goal.from_tables-vault-requires-clause-heads
from_tables-vault-requires-clause-heads g c = heads_fed c.args.catalog c.args.heads c.requires.heads

pub returns-clause-vault : goal.returns-clause-vault
returns-clause-vault g c =
    let made = c.from_tables-vault.ensures in
    let rows : c.from_tables-vault.result.tables ≡ map (sealed_entry c.args.stage) (map entry_of c.args.tables.items) =
    made.tables ∙ sym (all_sealed (map entry_of c.args.tables.items)) ∙ ap (λ stage. map (sealed_entry stage) (map entry_of c.args.tables.items)) (sym c.in_default.is) in
    λ i. record { mapping = made.mapping i; tables = rows i; heads = made.heads i }
