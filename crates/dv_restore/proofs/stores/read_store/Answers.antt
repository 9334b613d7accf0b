use Rattle.dv_restore.proofs.Vocabulary.{IfSome, IsBegunAs, Option, RawVault, Window, ap, are_in_order, entry_of, hashes_of, inl, is_stage, keep_limits, map, refl, rows_there, rules, subst, sym, true, ◌∙◌, ◌≡◌}
use Rattle.dv_restore.proofs.{HeadsInOrder.in_order, StandingStores.keeps_f15, StandingStores.none_broken, StandingStores.of_state, StoreReads.goes_on, StoreReads.head_first, StoreReads.heads_are, StoreReads.rows_damaged, StoreReads.sealed_is, StoreReads.snapshots_damaged}
use Rattle.dv_restore.proofs.{StoreReads.stage_damaged, StoreReads.staged_is, StoredTables.rows_read}
use Rattle.dv_restore.proofs.stores.read_store.Goals as goal

pub returns-in_err-heads-clause-undamaged : goal.returns-in_err-heads-clause-undamaged
returns-in_err-heads-clause-undamaged g c damage is state store at stands =
    none_broken c.args.catalog g.H.KeyDigest.function state store stands damage
    (inl (head_first c.args.catalog (hashes_of g.H.KeyDigest.function) g.H.KeyDigest.function.width store damage (c.stored_heads.ensures.damaged damage (search rules) store at)))

pub returns-in_err-stage-clause-damaged : goal.returns-in_err-stage-clause-damaged
returns-in_err-stage-clause-damaged g c damage is = λ store at.
    let windows = c.in_ok-heads.ensures.told store at in
    inl (stage_damaged c.args.catalog (hashes_of g.H.KeyDigest.function) g.H.KeyDigest.function.width store c.in_ok-heads.heads store.stage windows refl c.in_ok-heads.ensures.clear damage
    (c.stored_stage.ensures.damaged damage (search rules) store (c.stored_heads.ensures.store ∙ at) (sym windows ∙ sym c.items.ensures)))

pub returns-in_err-stage-clause-undamaged : goal.returns-in_err-stage-clause-undamaged
returns-in_err-stage-clause-undamaged g c damage is state store at stands =
    none_broken c.args.catalog g.H.KeyDigest.function state store stands damage (returns-in_err-stage-clause-damaged g c damage is store at)

pub returns-in_err-read-clause-damaged : goal.returns-in_err-read-clause-damaged
returns-in_err-read-clause-damaged g c damage is = λ store at.
    let hashes = hashes_of g.H.KeyDigest.function in
    let at_stage = c.stored_heads.ensures.store ∙ at in
    let windows = c.in_ok-heads.ensures.told store at in
    let staged = c.in_ok-stage.ensures.told store at_stage in
    let in_form : IfSome c.in_ok-stage.stage (λ window. is_stage c.args.catalog c.in_ok-heads.heads window ≡ true) = subst (λ heads. IfSome c.in_ok-stage.stage (λ window. is_stage c.args.catalog heads window ≡ true)) c.items.ensures c.in_ok-stage.ensures.in_form in
    let heads = heads_are c.args.catalog hashes g.H.KeyDigest.function.width store c.in_ok-heads.heads c.in_ok-stage.stage windows staged c.items-2.result.now (c.items-2.ensures ∙ c.in_ok-known.ensures {u = tt}) in
    inl (rows_damaged c.args.catalog hashes g.H.KeyDigest.function.width store c.in_ok-heads.heads c.in_ok-stage.stage windows staged c.in_ok-heads.ensures.clear in_form damage
    (c.read_tables.ensures.damaged damage (search rules) store (c.stored_stage.ensures.store ∙ at_stage) heads))

pub returns-in_err-read-clause-undamaged : goal.returns-in_err-read-clause-undamaged
returns-in_err-read-clause-undamaged g c damage is state store at stands =
    none_broken c.args.catalog g.H.KeyDigest.function state store stands damage (returns-in_err-read-clause-damaged g c damage is store at)

pub returns-in_err-snapshots-clause-damaged : goal.returns-in_err-snapshots-clause-damaged
returns-in_err-snapshots-clause-damaged g c damage is = λ store at.
    let hashes = hashes_of g.H.KeyDigest.function in
    let at_stage = c.stored_heads.ensures.store ∙ at in
    let at_rows = c.stored_stage.ensures.store ∙ at_stage in
    let windows = c.in_ok-heads.ensures.told store at in
    let staged = c.in_ok-stage.ensures.told store at_stage in
    let in_form : IfSome c.in_ok-stage.stage (λ window. is_stage c.args.catalog c.in_ok-heads.heads window ≡ true) = subst (λ heads. IfSome c.in_ok-stage.stage (λ window. is_stage c.args.catalog heads window ≡ true)) c.items.ensures c.in_ok-stage.ensures.in_form in
    let heads = heads_are c.args.catalog hashes g.H.KeyDigest.function.width store c.in_ok-heads.heads c.in_ok-stage.stage windows staged c.items-2.result.now (c.items-2.ensures ∙ c.in_ok-known.ensures {u = tt}) in
    inl (snapshots_damaged c.args.catalog hashes g.H.KeyDigest.function.width store c.in_ok-heads.heads c.in_ok-stage.stage windows staged c.in_ok-heads.ensures.clear in_form
    (c.in_ok-read.ensures.undamaged store at_rows heads) damage
    (c.stored_snapshots.ensures.damaged damage (search rules) store (c.read_tables.ensures.store ∙ at_rows) (sym windows ∙ sym c.items-3.ensures)))

pub returns-in_err-snapshots-clause-undamaged : goal.returns-in_err-snapshots-clause-undamaged
returns-in_err-snapshots-clause-undamaged g c damage is state store at stands =
    none_broken c.args.catalog g.H.KeyDigest.function state store stands damage (returns-in_err-snapshots-clause-damaged g c damage is store at)

pub returns-in_err-snapshots-clause-formed : goal.returns-in_err-snapshots-clause-formed
returns-in_err-snapshots-clause-formed g c damage is = c.stored_snapshots.ensures.formed damage (search rules) c.args.catalog

pub returns-in_err-reopened-clause-undamaged : goal.returns-in_err-reopened-clause-undamaged
returns-in_err-reopened-clause-undamaged g c damage is state store at stands =
    let hashes = hashes_of g.H.KeyDigest.function in
    let at_stage = c.stored_heads.ensures.store ∙ at in
    let at_rows = c.stored_stage.ensures.store ∙ at_stage in
    let windows = c.in_ok-heads.ensures.told store at in
    let staged = c.in_ok-stage.ensures.told store at_stage in
    let read = c.in_ok-read.ensures.told store at_rows in
    (c.restored.ensures.damaged damage (search rules)).1
    (goes_on c.args.catalog hashes g.H.KeyDigest.function.width store c.in_ok-heads.heads c.in_ok-stage.stage windows staged (map entry_of c.in_ok-read.read.tables.items) read (keeps_f15 c.args.catalog hashes state store stands))

pub returns-clause-kept : goal.returns-clause-kept
returns-clause-kept g c = λ store at.
    let hashes = hashes_of g.H.KeyDigest.function in
    let at_stage = c.stored_heads.ensures.store ∙ at in
    let at_rows = c.stored_stage.ensures.store ∙ at_stage in
    let windows = c.in_ok-heads.ensures.told store at in
    let staged = c.in_ok-stage.ensures.told store at_stage in
    let read = c.in_ok-read.ensures.told store at_rows in
    let reopened = c.in_ok-reopened.reopened in
    record {
      windows = sym windows ∙ ap (λ (raw : RawVault). raw.heads) (sym c.in_ok-reopened.ensures.vault);
      stage = sym staged ∙ sym (staged_is hashes reopened.vault c.in_ok-stage.stage reopened.begun c.in_ok-reopened.ensures.begun);
      tables_are = rows_read c.args.catalog store (map entry_of c.in_ok-read.read.tables.items) (rows_there reopened.vault reopened.begun) read c.in_ok-reopened.ensures.entries;
      snapshots_are = c.in_ok-snapshots.ensures.told store (c.read_tables.ensures.store ∙ at_rows);
    }

pub returns-clause-stands : goal.returns-clause-stands
returns-clause-stands g c = λ state store at stands.
    let hashes = hashes_of g.H.KeyDigest.function in
    let at_stage = c.stored_heads.ensures.store ∙ at in
    let at_rows = c.stored_stage.ensures.store ∙ at_stage in
    let windows = c.in_ok-heads.ensures.told store at in
    let staged = c.in_ok-stage.ensures.told store at_stage in
    let read = c.in_ok-read.ensures.told store at_rows in
    let reopened = c.in_ok-reopened.reopened in
    of_state c.args.catalog hashes state store stands reopened.vault
    (c.in_ok-reopened.ensures.vault ∙ sealed_is c.args.catalog hashes g.H.KeyDigest.function.width store c.in_ok-heads.heads c.in_ok-stage.stage windows staged (map entry_of c.in_ok-read.read.tables.items) read)
    reopened.begun (subst (λ (stage : Option Window). IsBegunAs hashes reopened.vault stage reopened.begun) staged c.in_ok-reopened.ensures.begun) c.in_ok-reopened.ensures.taken (sym read ∙ c.in_ok-reopened.ensures.entries)
    c.in_ok-snapshots.snapshots (c.in_ok-snapshots.ensures.told store (c.read_tables.ensures.store ∙ at_rows))

pub returns-clause-limits : goal.returns-clause-limits
returns-clause-limits g c = keep_limits c.items-3.result.now c.in_ok-snapshots.snapshots c.in_ok-snapshots.ensures.clear

pub returns-clause-begun : goal.returns-clause-begun
returns-clause-begun g c = λ store at.
    let staged = c.in_ok-stage.ensures.told store (c.stored_heads.ensures.store ∙ at) in
    subst (λ (stage : Option Window). IsBegunAs (hashes_of g.H.KeyDigest.function) c.in_ok-reopened.reopened.vault stage c.in_ok-reopened.reopened.begun) staged c.in_ok-reopened.ensures.begun

pub returns-clause-order : goal.returns-clause-order
returns-clause-order g c =
    subst (λ (raw : RawVault). are_in_order raw.heads ≡ true) (sym c.in_ok-reopened.ensures.vault) (in_order c.args.catalog c.in_ok-heads.heads c.in_ok-heads.ensures.clear)
