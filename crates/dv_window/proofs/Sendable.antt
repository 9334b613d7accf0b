-- What workers give, and what they are lent, may cross threads.
use Rattle.dv_window.proofs.Vocabulary.{IsSend, IsSync, RattleType, crosses, sendable}
use Rattle.dv_text.specs.contracts.texts.Text as Text
use Rattle.dv_text.specs.contracts.lists.List as List
use Rattle.dv_text.specs.contracts.rows.Key as Key
use Rattle.dv_text.specs.contracts.rows.NRow as NRow
use Rattle.dv_catalog.specs.contracts.windows.ExtractIn as ExtractIn
use Rattle.dv_catalog.specs.contracts.windows.WindowIn as WindowIn
use Rattle.dv_stage.specs.contracts.stages.Staged2 as Staged2

list_send : (T : RattleType) → IsSend T → IsSend (List.the_row T)
list_send T s = search (sendable, crosses) depth 20

text_send : IsSend Text.the_row
text_send = search (sendable, crosses) depth 20

key_send : IsSend Key.the_row
key_send = search (sendable, list_send, text_send) depth 20

row_send : IsSend NRow.the_row
row_send = search (sendable, list_send, text_send, key_send) depth 20

pub staged2_send : IsSend Staged2.the_row
staged2_send = search (sendable, list_send, row_send) depth 20

list_sync : (T : RattleType) → IsSync T → IsSync (List.the_row T)
list_sync T s = search (sendable, crosses) depth 20

text_sync : IsSync Text.the_row
text_sync = search (sendable, crosses) depth 20

extract_sync : IsSync ExtractIn.the_row
extract_sync = search (sendable, list_sync, text_sync) depth 20

pub window_sync : IsSync WindowIn.the_row
window_sync = search (sendable, list_sync, extract_sync) depth 20
