use Rattle.dv_restore.proofs.Vocabulary.{AreNamed, HasMisnamed, List, TableRows, WindowHead, added_to, ap, entries_of, entry_of, full_at, hashes_of, hub_names, length, map, replicate, rows_weight, subst, sum_by, sym, vault_of, weight_with, zero_key, ℕ, ◌+◌, ◌∙◌, ◌≡◌}
use Rattle.dv_restore.proofs.{Collided.no_place, Collided.room_left, Misnamed.all_named, Misnamed.never_misnamed, ToldDamages.told_damage}
use Rattle.dv_restore.proofs.completions.lacking.Goals as goal

pub returns-in-Err-Collision-clause-damaged : goal.returns-in-Err-Collision-clause-damaged
returns-in-Err-Collision-clause-damaged g c = λ damage is. (
  told_damage c.in_ok-broken-in-Err-Collision.field-0 damage (c.in_ok-broken-in-Err-Collision.ensures {u = tt}) is,
  λ place.
      no_place (hashes_of g.H.KeyDigest.function) (vault_of c.args.catalog.now c.args.heads.now (entries_of c.args.raw.now)) c.args.window.now c.in-Err-Collision.field-0-0 c.in-Err-Collision.field-0-1 c.in-Err-Collision.field-0-2
      (rw c.in-Err-Collision.field-0-is at (c.in-Err-Collision.ensures {u = tt}).clashes) place.apart,
)

pub returns-then-branch-clause-damaged : goal.returns-then-branch-clause-damaged
returns-then-branch-clause-damaged g c = λ damage is. (
  told_damage c.in_ok-broken.field-0 damage (c.in_ok-broken.ensures {u = tt}) is,
  λ place.
      let mapping = c.args.catalog.now in
      let function = g.H.KeyDigest.function in
      let entries = entries_of c.args.raw.now in
      let zero : c.zero.result ≡ zero_key function.width = c.zero.ensures ∙ ap (λ (width : ℕ). replicate width 0) c.width.ensures.value in
      let there = (c.in_ok-has_misnamed.ensures {u = tt}).misnamed c.if-branch.true in
      let has : HasMisnamed mapping (zero_key function.width) entries =
      subst (λ digest. HasMisnamed mapping digest entries) zero (subst (λ (entries : List TableRows). HasMisnamed mapping c.zero.result entries) (ap (map entry_of) c.deref.ensures.value) there) in
      never_misnamed mapping function (hub_names mapping entries) c.args.window.now entries has place.apart,
)

pub returns-clause-place : goal.returns-clause-place
returns-clause-place g c =
    let mapping = c.args.catalog.now in
    let function = g.H.KeyDigest.function in
    let hashes = hashes_of function in
    let entries = entries_of c.args.raw.now in
    let zero : c.zero.result ≡ zero_key function.width = c.zero.ensures ∙ ap (λ (width : ℕ). replicate width 0) c.width.ensures.value in
    let none = (c.in_ok-has_misnamed.ensures {u = tt}).named c.if-branch.false in
    let named : AreNamed mapping (zero_key function.width) entries =
    subst (λ digest. AreNamed mapping digest entries) zero (subst (λ (entries : List TableRows). AreNamed mapping c.zero.result entries) (ap (map entry_of) c.deref.ensures.value) none) in
    let added = c.in-Ok.ensures {u = tt} in
    let rest : c.items.result.now ≡ map (added_to mapping hashes c.args.window.now) entries = c.items.ensures ∙ added.rows in
    let weight : c.in_ok-weight.weight ≡ weight_with hashes (vault_of mapping c.args.heads.now entries) c.args.window.now =
    c.in_ok-weight.ensures {u = tt} ∙ (λ i. c.requires.weight i + sum_by rows_weight (rest i)) in
    record {
      apart = all_named mapping function (hub_names mapping entries) c.args.window.now entries named c.requires.links added.apart;
      room = ap (λ weight. full_at weight (length c.args.heads.now)) (sym weight)
          ∙ ap (λ (heads : List WindowHead). full_at c.in_ok-weight.weight (length heads)) (sym c.items-2.ensures)
          ∙ room_left (full_at c.in_ok-weight.weight (length c.items-2.result.now)) c.in_ok-is_full.field-0 (c.in_ok-is_full.ensures {u = tt}) c.if-branch-2.false;
    }
