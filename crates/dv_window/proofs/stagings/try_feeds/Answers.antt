use Rattle.dv_window.proofs.Vocabulary.{crosses, sendable}
use Rattle.dv_window.proofs.Sendable.{staged2_send, window_sync}
use Rattle.dv_catalog.proofs.catalogs.Catalog.TheSendSync as catalog
use Rattle.dv_window.proofs.stagings.try_feeds.Goals as goal

pub run_tasks-requires-send-T : goal.run_tasks-requires-send-T
run_tasks-requires-send-T g c κs within = search (sendable, staged2_send) depth 20

pub run_tasks-requires-sync-F : goal.run_tasks-requires-sync-F
run_tasks-requires-sync-F g c κs within = search (sendable, crosses, catalog.the_sync, window_sync) depth 20
