use Rattle.dv_checks.proofs.ValidMappings.{few_feeds, few_references, parts_valid}
use Rattle.dv_checks.proofs.mappings.mapping_of.Goals as goal

pub path_defs-requires-clause-feeds_few : goal.path_defs-requires-clause-feeds_few
path_defs-requires-clause-feeds_few c = rw c.items-2.ensures (few_feeds c.args.outline c.requires.faultless)

pub feed_defs-requires-clause-references_few : goal.feed_defs-requires-clause-references_few
feed_defs-requires-clause-references_few c = λ parent. rw c.items-4.ensures (few_references c.args.outline c.requires.faultless parent)

pub new-requires : goal.new-requires
new-requires c =
    parts_valid c.args.outline _ _ _ _ (record {
      hubs_made = c.in_ok-hubs.ensures;
      links_made = rw c.items-5.ensures at c.in_ok-links.ensures;
      feeds_made = rw (c.items-3.ensures, c.items-4.ensures) at c.in_ok-feeds.ensures;
      paths_made = rw (c.items.ensures, c.items-2.ensures) at c.in_ok-paths.ensures;
    }) c.requires.faultless c.requires.formed
