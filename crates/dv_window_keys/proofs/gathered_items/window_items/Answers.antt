use Rattle.dv_window_keys.proofs.ItemCounts.{few_items}
use Rattle.dv_window_keys.proofs.gathered_items.window_items.Goals as goal

pub returns-clause-few : goal.returns-clause-few
returns-clause-few g c = few_items c.args.catalog.now c.requires.valid c.args.window.now.window.now c.requires.window

pub returns-in_err-add_feed_items-clause-few : goal.returns-in_err-add_feed_items-clause-few
returns-in_err-add_feed_items-clause-few g c = few_items c.args.catalog.now c.requires.valid c.args.window.now.window.now c.requires.window
