use Rattle.dv_window.proofs.Vocabulary.{hub_count, most_references, take, ◌*◌, ◌≡◌, ◌≤◌}
use Rattle.dv_window.proofs.bridge_forms.hub_count.Given as goal

-- the hubs of the feeds so far, a few for each
abbrev pub invariant-loop-feed : goal.invariant-loop-feed
invariant-loop-feed l = record {
  counted : l.hubs ≡ hub_count l.catalog (take l.feed-index l.feeds);
  few : l.hubs ≤ most_references * l.feed-index;
}
