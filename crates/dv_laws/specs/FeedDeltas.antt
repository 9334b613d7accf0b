-- Over the satellite or the status table of a feed's older extracts, the rows that the newest one adds are its batch.
use Rattle.std.specs.Prelude.{◌≡◌, ℕ, List, ◌∷◌, Contains}
use Rattle.dv_text.specs.Keys.{Hashes}
use Rattle.dv_records.specs.Batches.{appended}
use Rattle.dv_records.specs.Collisions.{IsApart}
use Rattle.dv_records.specs.History.{Extract, all_refs, lists_of, AreNewestFirst}
use Rattle.dv_records.specs.Satellites.{sat_batch}
use Rattle.dv_records.specs.Statuses.{status_batch}
use Rattle.dv_sat.specs.SatRows.{sat_delta, IsPlain}
use Rattle.dv_track.specs.Tracks.{status_delta}

-- over the satellite of a feed's older extracts, what the newest one adds is its batch, where no two lists that they
-- deliver have one hash key
abbrev pub SatDeltaIsBatch : Type 0
SatDeltaIsBatch =
    (hashes : Hashes) (source : List ℕ) (older : List Extract) (newest : Extract)
    → AreNewestFirst (newest ∷ older) → IsApart hashes (lists_of (newest ∷ older))
    → ((extract : Extract) → Contains (newest ∷ older) extract → IsPlain extract.rows)
    → sat_delta hashes source (appended (sat_batch hashes source) older) newest.load newest.rows ≡ sat_batch hashes source older newest

-- over the table of a feed's older extracts, what the newest one adds is its batch, where no two lists that they
-- deliver have one hash key
abbrev pub StatusDeltaIsBatch : Type 0
StatusDeltaIsBatch =
    (hashes : Hashes) (source : List ℕ) (older : List Extract) (newest : Extract)
    → AreNewestFirst (newest ∷ older) → IsApart hashes (lists_of (newest ∷ older))
    → status_delta hashes source (appended (status_batch hashes source) older) newest.load (all_refs newest.rows) ≡ status_batch hashes source older newest
