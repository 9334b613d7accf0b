-- What the endings of parts say, and what of it is left behind more of a command.
use Rattle.dv_given.proofs.Vocabulary.{Absent, BadMapping, BadQuery, Ending, EndsBy, EndsOrMemory, Err, FileEnds, IfErr, IfOk, IsBringEnd, IsReadCause, List, Memory, Ok, QueryEnds, QueryRule, Result, Rose, Seen, Status, Unread, arith, line_of_ending, status_of, ℕ, ◌≤◌}

-- what is said of the reading of files, by what is said of each
pub file_ends_so : {A B C D : List ℕ → Type 0} → ((file : List ℕ) → A file → C file) → ((file : List ℕ) → B file → D file) → (ending : Ending) → FileEnds A B ending → FileEnds C D ending
file_ends_so absent unread (Absent file) is = absent file is
file_ends_so absent unread (Unread file) is = unread file is
file_ends_so absent unread Memory is = is
file_ends_so absent unread ending none = absurd none

-- what holds of an error
pub if_err_so : {T E : Type 0} {P Q : E → Type 0} → ((e : E) → P e → Q e) → (r : Result T E) → IfErr r P → IfErr r Q
if_err_so so (Ok x) none = none
if_err_so so (Err e) is = so e is

-- what holds of a value
pub if_ok_so : {T E : Type 0} {P Q : T → Type 0} → ((x : T) → P x → Q x) → (r : Result T E) → IfOk r P → IfOk r Q
if_ok_so so (Ok x) is = so x is
if_ok_so so (Err e) none = none

-- what ends a query may end the reading of a folder
pub query_cause : (IsBroken : QueryRule → Type 0) (before now : ℕ) (ending : Ending) → QueryEnds IsBroken ending → IsReadCause before now ending
query_cause IsBroken before now (BadQuery rule) is = tt
query_cause IsBroken before now Memory is = tt
query_cause IsBroken before now ending none = absurd none

-- and so may what ends the bringing of a manifest
pub bring_cause : (before now : ℕ) → (ending : Ending) → IsBringEnd before now ending → IsReadCause before now ending
bring_cause before now (Absent file) is = tt
bring_cause before now (Unread file) rose = rose
bring_cause before now Memory is = tt
bring_cause before now ending none = absurd none

-- what holds of a cause that came later
module _ (before then now : ℕ) (later : before ≤ then) where
  pub rose_later : Rose then now → Rose before now
  rose_later rose = omega (arith, later, rose)

  pub bring_end_so : (ending : Ending) → IsBringEnd then now ending → IsBringEnd before now ending
  bring_end_so (Unread file) rose = rose_later rose
  bring_end_so ending any = any

-- what ends the reading of a folder has a line
pub ends_or : (before now : ℕ) (err : Seen (List ℕ)) (result : Status) (ending : Ending) → IsReadCause before now ending → EndsBy ending err result
    → EndsOrMemory (status_of ending) (line_of_ending ending) err result
ends_or before now err result (BadMapping e) cause ends = ends
ends_or before now err result (BadQuery rule) cause ends = ends
ends_or before now err result (Absent file) cause ends = ends
ends_or before now err result (Unread file) cause ends = ends
ends_or before now err result Memory cause ends = ends
ends_or before now err result ending cause ends = absurd cause
