-- What is said of a query, by the office that what is kept was opened as, and why a query is not answered.
use Rattle.std.specs.Prelude.{◌≡◌, ℕ, List, None, Option, Result, Ok, Err}
use Rattle.dv_text.specs.Keys.{DigestFunction, hashes_of}
use Rattle.dv_text.specs.Told.{Told}
use Rattle.dv_catalog.specs.Entries.{Mapping}
use Rattle.dv_print.specs.declared.query_rules.QueryRule.TheVariants.{NoSnapshot, UnknownMart, UnknownTable}
use Rattle.dv_mart.specs.Whats.{offered_mart, table_named}
use Rattle.dv_records.specs.declared.stores.Store.{Store}
use Rattle.dv_window.specs.Offices.{Held}
use Rattle.dv_given.specs.declared.endings.Ending.{Ending}
use Rattle.dv_given.specs.declared.endings.Ending.TheVariants as endings
use Rattle.dv_window.specs.declared.stored.StoredFault.{StoredFault}
use Rattle.dv_window.specs.declared.stored.StoredFault.TheVariants as stored
use Rattle.dv_given.specs.Endings.{QueryEnds}
use Rattle.dv_given.specs.Tried.{Tried}
use Rattle.dv_app.specs.declared.replies.Reply.{Reply}
use Rattle.dv_app.specs.declared.replies.Reply.TheVariants as reply
use Rattle.dv_app.specs.Kept.{InEach, mart_says, name_of_stored, stored_id, stored_says, table_says, text_or, windows_say}
use Rattle.dv_app.specs.Openings.{IsOpen}
use Rattle.dv_app.specs.Words.{KeptCommand, Mart, Stored, StoredTable, Table, Windows}

-- ---- why it is not answered

-- no mart has the word, or memory ran out
abbrev pub MartEnds : Mapping → List ℕ → Ending → Type 0
MartEnds mapping word ending = QueryEnds (λ rule. (rule ≡ UnknownMart word) × (offered_mart mapping word ≡ None)) ending

-- no raw table has the name, or memory ran out
abbrev pub TableEnds : Mapping → List ℕ → Ending → Type 0
TableEnds mapping name ending = QueryEnds (λ rule. (rule ≡ UnknownTable name) × (table_named mapping name ≡ None)) ending

-- no hub, or no path, has the name of the table that is asked for, or memory ran out
abbrev pub StoredEnds : Mapping → StoredTable → Ending → Type 0
StoredEnds mapping table ending =
    QueryEnds (λ rule. (rule ≡ UnknownMart (name_of_stored table)) × (stored_id mapping table ≡ None)) ending

-- ---- what is said

-- what such a command says over a store, by its mapping
abbrev pub IsAnswer : KeptCommand → Mapping → DigestFunction → Store → Tried → Type 0
IsAnswer (Mart what date) mapping function store said =
    InEach mapping (hashes_of function) store (λ state. said ≡ mart_says mapping (hashes_of function) state what date)
IsAnswer (Table name) mapping function store said = said ≡ table_says mapping store name
IsAnswer Windows mapping function store said = said ≡ windows_say mapping store
IsAnswer (Stored table date) mapping function store said =
    InEach mapping (hashes_of function) store (λ state. said ≡ stored_says mapping (hashes_of function) state table date)
IsAnswer command mapping function store said = ⊥

-- the text or the rule is what is to be said, or memory ran out
abbrev pub Answered : (Tried → Type 0) → Result (List ℕ) Ending → Type 0
Answered Is (Ok text) = Is (text_or (Ok text))
Answered Is (Err ending) = QueryEnds (λ rule. Is (text_or (Err rule))) ending

-- over each store that the office was opened of
abbrev pub IsAnswered : KeptCommand → Held → Result (List ℕ) Ending → Type 0
IsAnswered command office result =
    Answered (λ said. (function : DigestFunction) (told : Option Store) → IsOpen function told office
    → Told told (λ store. IsAnswer command office.vault.mapping function store said)) result

-- the reply of a text
abbrev pub text_reply : Result (List ℕ) Ending → Result Reply Ending
text_reply (Ok text) = Ok (reply.Text text)
text_reply (Err ending) = Err ending

-- how a command ends for which there is no text of the snapshot at a date
abbrev pub ending_of_stored : ℕ → StoredFault → Ending
ending_of_stored date stored.NoSnapshot = endings.BadQuery (NoSnapshot date)
ending_of_stored date (stored.Damaged damage) = endings.Damaged damage
ending_of_stored date stored.KeeperFault = endings.KeeperFault
ending_of_stored date stored.Memory = endings.Memory
