use Rattle.dv_vault.proofs.Vocabulary.{AllZip, BreaksWindow, Fits, Follow, IsBegunIn, List, RawVault, Rows, Some, TableRows, TakesWindow, Told, [], ap, entries_with, entry_of, head_of, map, subst, sym, tables_weight, tables_whole, true, whole_in, with_items, ◌++◌, ◌∙◌, ◌∷◌, ◌≡◌}
use Rattle.dv_vault.proofs.{Taken.entries_after, Taken.entries_now, Taken.follows, Taken.heads_still, Taken.rows_still, Taken.vault_still, Broken.nothing_breaks, Broken.opening_breaks, Broken.then_begun, Broken.then_breaks, Broken.then_takes, TablesApart.vault_apart}
use Rattle.dv_vault.proofs.vaults.Vault.take.Goals as goal

pub returns-in_default-clause-broke : goal.returns-in_default-clause-broke
returns-in_default-clause-broke g c =
    nothing_breaks c.args.self.now.tables c.args.begun c.args.is_open c.unopened.result (g.K.Keeper.store c.args.keeper.now) c.unopened.ensures.open c.unopened.ensures.closed c.requires.told

pub returns-in-Err-clause-broke : goal.returns-in-Err-clause-broke
returns-in-Err-clause-broke g c =
    opening_breaks c.args.self.now.tables c.args.begun c.args.is_open c.in-Err.ensures.closed c.unopened-in-Err.result (g.K.Keeper.store c.args.keeper.now) (g.K.Keeper.store c.open.new.keeper) c.unopened-in-Err.ensures.closed c.requires.told
    c.open.result c.in-Err.error c.in-Err.is c.unopened-in-Err.ensures.error c.open.ensures.change

pub complete-requires-clause-apart : goal.complete-requires-clause-apart
complete-requires-clause-apart g c =
    let same : map entry_of c.self.inside.raw.tables.items ≡ map entry_of c.deref.result.now = entries_now c.self.inside.raw.tables c.deref_mut.result.now c.make_room.new.tables c.deref.result.now c.deref_mut.ensures.value c.make_room.auto.tables c.make_room.ensures.rows c.deref.ensures.value in
    vault_apart c.self.inside.catalog (map entry_of c.deref.result.now) (ap (map (λ (entry : TableRows). entry.table)) (sym same) ∙ c.self.invariant.0)

pub complete-requires-clause-told : goal.complete-requires-clause-told
complete-requires-clause-told g c =
    let same : map entry_of c.self.inside.raw.tables.items ≡ map entry_of c.deref.result.now = entries_now c.self.inside.raw.tables c.deref_mut.result.now c.make_room.new.tables c.deref.result.now c.deref_mut.ensures.value c.make_room.auto.tables c.make_room.ensures.rows c.deref.ensures.value in
    let is : c.args.self.now.tables ≡ map entry_of c.deref.result.now = ap (λ (raw : RawVault). raw.tables) (sym c.self.view_is) ∙ same in
    then_begun (map entry_of c.deref.result.now) c.args.begun c.args.is_open (g.K.Keeper.store c.args.keeper.now) (g.K.Keeper.store c.open.new.keeper)
    (subst (λ (entries : List TableRows). Told (g.K.Keeper.store c.args.keeper.now) (IsBegunIn c.args.is_open entries c.args.begun)) is c.requires.told) c.in_default-open.ensures.change

pub returns-in-Err-complete-clause-broke : goal.returns-in-Err-complete-clause-broke
returns-in-Err-complete-clause-broke g c =
    let same : map entry_of c.self.inside.raw.tables.items ≡ map entry_of c.deref.result.now = entries_now c.self.inside.raw.tables c.deref_mut.result.now c.make_room.new.tables c.deref.result.now c.deref_mut.ensures.value c.make_room.auto.tables c.make_room.ensures.rows c.deref.ensures.value in
    let is : c.args.self.now.tables ≡ map entry_of c.deref.result.now = ap (λ (raw : RawVault). raw.tables) (sym c.self.view_is) ∙ same in
    then_breaks c.args.self.now.tables c.args.begun c.args.is_open c.complete.new.begun c.in-Err-complete.error (g.K.Keeper.store c.args.keeper.now) (g.K.Keeper.store c.open.new.keeper) (g.K.Keeper.store c.complete.new.keeper)
    c.requires.told c.in_default-open.ensures.change
    (subst (λ (entries : List TableRows). BreaksWindow true entries c.args.begun (g.K.Keeper.store c.open.new.keeper) (g.K.Keeper.store c.complete.new.keeper) (record { error = c.in-Err-complete.error; begun = Some c.complete.new.begun })) (sym is)
    c.in-Err-complete.ensures.broke)

pub returns-clause-told : goal.returns-clause-told
returns-clause-told g c =
    let same : map entry_of c.self.inside.raw.tables.items ≡ map entry_of c.deref.result.now = entries_now c.self.inside.raw.tables c.deref_mut.result.now c.make_room.new.tables c.deref.result.now c.deref_mut.ensures.value c.make_room.auto.tables c.make_room.ensures.rows c.deref.ensures.value in
    let is : c.args.self.now.tables ≡ map entry_of c.deref.result.now = ap (λ (raw : RawVault). raw.tables) (sym c.self.view_is) ∙ same in
    then_takes c.args.self.now.tables c.args.begun c.args.is_open (g.K.Keeper.store c.args.keeper.now) (g.K.Keeper.store c.open.new.keeper) (g.K.Keeper.store c.complete.new.keeper) c.in_default-open.ensures.change
    (subst (λ (entries : List TableRows). TakesWindow c.args.begun.window (tables_whole entries c.args.begun.parts.items) (g.K.Keeper.store c.open.new.keeper) (g.K.Keeper.store c.complete.new.keeper)) (sym is) c.in_default-complete.ensures.told)

pub apply_all-requires-clause-follow : goal.apply_all-requires-clause-follow
apply_all-requires-clause-follow g c =
    let same : map entry_of c.self.inside.raw.tables.items ≡ map entry_of c.deref_mut-2.result.now =
    entries_now c.self.inside.raw.tables c.deref_mut.result.now c.make_room.new.tables c.deref_mut-2.result.now c.deref_mut.ensures.value c.make_room.auto.tables c.make_room.ensures.rows c.deref_mut-2.ensures.value in
    let is : c.args.self.now.tables ≡ map entry_of c.deref_mut-2.result.now = ap (λ (raw : RawVault). raw.tables) (sym c.self.view_is) ∙ same in
    subst (λ (rows : List Rows). AllZip Follow (map (λ t. (entry_of t).rows) c.deref_mut-2.result.now) rows) (sym c.in_default-complete.ensures.all)
    (follows c.args.self.now.tables (whole_in c.args.begun.parts.items) c.deref_mut-2.result.now is c.requires.fits.follow.follow)

pub invariant_of-self-2 : goal.invariant_of-self-2
invariant_of-self-2 g c =
    let raw : RawVault = record { mapping = c.self.inside.catalog; tables = map entry_of c.self.inside.raw.tables.items; heads = c.self.inside.heads } in
    let whole = whole_in c.args.begun.parts.items in
    let same : raw.tables ≡ map entry_of c.deref_mut-2.result.now = entries_now c.self.inside.raw.tables c.deref_mut.result.now c.make_room.new.tables c.deref_mut-2.result.now c.deref_mut.ensures.value c.make_room.auto.tables c.make_room.ensures.rows c.deref_mut-2.ensures.value in
    let grown : map entry_of c.apply_all.new.tables ≡ entries_with raw.tables whole =
    c.apply_all.ensures ∙ ap (entries_with (map entry_of c.deref_mut-2.result.now)) c.in_default-complete.ensures.all ∙ ap (λ entries. entries_with entries whole) (sym same) in
    let after : map entry_of (with_items (with_items c.self.inside.raw.tables c.make_room.new.tables) c.apply_all.new.tables).items ≡ entries_with raw.tables whole =
    entries_after (with_items c.self.inside.raw.tables c.make_room.new.tables) c.deref_mut-2.result.now c.apply_all.new.tables _ c.deref_mut-2.ensures.value c.apply_all.auto.tables grown in
    let pushed : c.make_room.new.heads ≡ raw.heads ++ head_of c.args.begun.window ∷ [] = (c.in-Ok.ensures {u = tt}).heads in
    let fits : Fits raw c.args.begun = subst (λ (raw : RawVault). Fits raw c.args.begun) (sym c.self.view_is) c.requires.fits in
    let entries = map entry_of (with_items (with_items c.self.inside.raw.tables c.make_room.new.tables) c.apply_all.new.tables).items in (
      vault_still raw c.args.begun fits entries c.make_room.new.heads after pushed c.self.invariant.0,
      rows_still raw c.args.begun fits entries c.make_room.new.heads after pushed c.self.invariant.1,
      heads_still raw c.args.begun fits entries c.make_room.new.heads after pushed c.self.invariant.2,
      c.in_default-complete.ensures.left.weight_is ∙ fits.weight ∙ ap tables_weight (sym after),
      c.self.invariant.4,
    )
