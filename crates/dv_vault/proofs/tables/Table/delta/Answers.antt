use Rattle.dv_vault.proofs.Vocabulary.{Effects, Multis, Statuses, [], ap, effects_added, extract_added, hashes_of, multis_added, source, statuses_added, ◌∙◌}
use Rattle.dv_vault.proofs.TableFacts.{same_extract}
use Rattle.dv_vault.proofs.tables.Table.delta.Goals as goal

pub returns-in-Hub-clause-apart : goal.returns-in-Hub-clause-apart
returns-in-Hub-clause-apart g c = rw c.in-Hub.is c.hub_rows.ensures.apart

pub returns-in-Link-clause-apart : goal.returns-in-Link-clause-apart
returns-in-Link-clause-apart g c = rw c.in-Link.is c.link_rows.ensures.apart

pub returns-in_ok-additions-in-Status-clause-rows : goal.returns-in_ok-additions-in-Status-clause-rows
returns-in_ok-additions-in-Status-clause-rows g c =
    let hashes = hashes_of g.H.KeyDigest.function in
    let extract = c.extract_of-extract-in-Status in
    let same = same_extract c.args.window.now.window.now c.in-Status.feed extract.result extract.ensures.found in
    rw c.in-Status.is
    ((c.in_ok-additions-in-Status.ensures {u = tt}).rows hashes extract.ensures.keys
    ∙ ap (extract_added (statuses_added hashes (source c.args.catalog.now c.in-Status.feed) (Statuses c.in-Status.rows.rows)) (Statuses [])) same)

pub returns-in_ok-additions-in-Multi-clause-rows : goal.returns-in_ok-additions-in-Multi-clause-rows
returns-in_ok-additions-in-Multi-clause-rows g c =
    let hashes = hashes_of g.H.KeyDigest.function in
    let extract = c.extract_of-extract-in-Multi in
    let same = same_extract c.args.window.now.window.now c.in-Multi.feed extract.result extract.ensures.found in
    rw c.in-Multi.is
    ((c.in_ok-additions-in-Multi.ensures {u = tt}).rows
    ∙ ap (extract_added (multis_added hashes (source c.args.catalog.now c.in-Multi.feed) (Multis c.in-Multi.rows.rows)) (Multis [])) same)

pub returns-in_ok-additions-in-Effect-clause-rows : goal.returns-in_ok-additions-in-Effect-clause-rows
returns-in_ok-additions-in-Effect-clause-rows g c =
    let hashes = hashes_of g.H.KeyDigest.function in
    let extract = c.extract_of-extract-in-Effect in
    let same = same_extract c.args.window.now.window.now c.in-Effect.feed extract.result extract.ensures.found in
    rw c.in-Effect.is
    ((c.in_ok-additions-in-Effect.ensures {u = tt}).rows hashes extract.ensures.keys
    ∙ ap (extract_added (effects_added hashes (source c.args.catalog.now c.in-Effect.feed) (Effects c.in-Effect.rows.rows)) (Effects [])) same)
