use Rattle.dv_vault.proofs.Vocabulary.{List, WindowHead, ap, are_heads_of, are_rows_kept, entries_of, subst, sym, true, ◌≡◌}
use Rattle.dv_vault.proofs.EmptyTables.{new_kept}
use Rattle.dv_vault.proofs.vaults.Vault.empty.Goals as goal

pub invariant_of-result : goal.invariant_of-result
invariant_of-result c =
    let (order, rows, weight) = new_kept c.args.catalog (entries_of c.in_ok-raw.raw) (c.in_ok-raw.ensures {u = tt}) in (
      order,
      subst (λ (heads : List WindowHead). are_rows_kept heads (entries_of c.in_ok-raw.raw) ≡ true) (sym c.new.ensures) rows,
      ap (are_heads_of c.args.catalog) c.new.ensures,
      weight,
      c.note_valid.ensures,
    )
