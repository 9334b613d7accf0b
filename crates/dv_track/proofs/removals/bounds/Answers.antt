use Rattle.dv_track.proofs.Vocabulary.{arith, get_or, nat_list_cmp_total, searchable_from_sorted, suc, ◌+◌, ◌≡◌}
use Rattle.dv_track.proofs.{Amongst.exact, Amongst.sorted_from_strictly, Parted.found_parted, Parted.missed_parted}
use Rattle.dv_track.proofs.removals.bounds.Goals as goal

pub returns-in-Ok-clause-before : goal.returns-in-Ok-clause-before
returns-in-Ok-clause-before c =
    let digests = c.args.digests.now in
    let place = c.in-Ok.place in
    let found = exact (get_or digests place c.args.digest.now) c.args.digest.now (c.in-Ok.ensures.position c.args.digest.now) in
    (found_parted c.args.digest.now digests place c.requires c.in-Ok.ensures.bound found).0

pub returns-in-Ok-clause-behind : goal.returns-in-Ok-clause-behind
returns-in-Ok-clause-behind c =
    let digests = c.args.digests.now in
    let place = c.in-Ok.place in
    let found = exact (get_or digests place c.args.digest.now) c.args.digest.now (c.in-Ok.ensures.position c.args.digest.now) in
    let next : place + 1 ≡ suc place = omega arith in
    rw next (found_parted c.args.digest.now digests place c.requires c.in-Ok.ensures.bound found).1

pub returns-in-Err-clause-before : goal.returns-in-Err-clause-before
returns-in-Err-clause-before c =
    let digests = c.args.digests.now in
    let ascend = sorted_from_strictly nat_list_cmp_total digests c.requires in
    (missed_parted c.args.digest.now digests c.in-Err.place (c.in-Err.ensures.position (searchable_from_sorted nat_list_cmp_total (λ y. y) digests c.args.digest.now ascend))).0

pub returns-in-Err-clause-behind : goal.returns-in-Err-clause-behind
returns-in-Err-clause-behind c =
    let digests = c.args.digests.now in
    let ascend = sorted_from_strictly nat_list_cmp_total digests c.requires in
    (missed_parted c.args.digest.now digests c.in-Err.place (c.in-Err.ensures.position (searchable_from_sorted nat_list_cmp_total (λ y. y) digests c.args.digest.now ascend))).1
