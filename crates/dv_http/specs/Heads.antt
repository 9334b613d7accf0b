-- What the steps of reading a head say.
use Rattle.std.specs.Prelude.{◌≡◌, ◌⊎◌, ℕ, ◌<◌, ◌≤◌, Bool, true, false, List, [], ◌∷◌, ◌++◌, length, take, Option, Some, None, IfSome, Result, Ok, Err, IsErrOf}
use Rattle.dv_text.specs.Causes.{Rose}
use Rattle.httparse.specs.Grammar.{RequestHead, print_request, HasNoRequest, MayBecomeRequest}
use Rattle.httparse.specs.Spans.{IsRequestWithin, IsRequestOf, RequestOverflows}
use Rattle.httparse.specs.declared.spans.HeaderSpan.{HeaderSpan}
use Rattle.httparse.specs.declared.spans.RequestSpans.{RequestSpans}
use Rattle.dv_outside.specs.Bytes.{in_front}
use Rattle.dv_http.specs.Buffers.{Came, HasEnded}
use Rattle.dv_http.specs.Requests.{head_most, is_last, length_of, HasNoHead, EndsInHead}
use Rattle.dv_http.specs.Targets.{path_of, at_of}
use Rattle.dv_http.specs.declared.heads.Head as declared
use Rattle.dv_http.specs.declared.heads.Heading.{Heading}
use Rattle.dv_http.specs.declared.heads.Heading.TheVariants as headings
use Rattle.dv_http.specs.declared.requests.WireError.{WireError}
use Rattle.dv_http.specs.declared.requests.WireError.TheVariants as errors

-- the spans are those of a head at the front, and lie within it
pub record IsHeadAt (bytes : List ℕ) (spans : List HeaderSpan) (found : RequestSpans) : Type 0 where
  pub within : IsRequestWithin bytes spans found
  pub is : IsRequestOf bytes spans found

abbrev pub IsHeading : ℕ → List ℕ → List HeaderSpan → Heading → Type 0
IsHeading count bytes spans (headings.Whole found) = IsHeadAt bytes spans found
IsHeading count bytes spans headings.Unfinished = HasNoRequest bytes × MayBecomeRequest bytes
IsHeading count bytes spans headings.Never = RequestOverflows count bytes

-- a line feed ends a line behind these bytes that is empty
abbrev pub EndsLine : List ℕ → Type 0
EndsLine bytes = (front : List ℕ) × ((bytes ≡ front ++ 10 ∷ []) ⊎ (bytes ≡ front ++ 10 ∷ 13 ∷ []))

-- an empty line ends the bytes
abbrev pub EndsEmpty : List ℕ → Type 0
EndsEmpty bytes = (before : List ℕ) × (bytes ≡ before ++ 10 ∷ []) × EndsLine before

-- no empty line ends behind the first few bytes
abbrev pub HasNoEnd : ℕ → List ℕ → Type 0
HasNoEnd from bytes = (count : ℕ) → from < count → count ≤ length bytes → EndsEmpty (take count bytes) → ⊥

-- what came is no head yet
abbrev pub KeepsWaiting : List ℕ → List ℕ → Option (List ℕ) → Option (List ℕ) → Type 0
KeepsWaiting old new left rest = Came old new left rest × HasNoRequest new

-- all that was read is held, and is no head yet
abbrev pub Waits : Option (List ℕ) → List ℕ → Option (List ℕ) → Type 0
Waits all held rest = (all ≡ in_front held rest) × HasNoRequest held

-- all that was read is shorter than the body
abbrev pub BodyWaits : ℕ → Option (List ℕ) → Option (List ℕ) → Type 0
BodyWaits count all rest = (got : List ℕ) × (all ≡ in_front got rest) × (length got < count)

-- more came, or nothing and the input has ended
abbrev pub Grows : Bool → List ℕ → List ℕ → Option (List ℕ) → Type 0
Grows true old new rest = length old < length new
Grows false old new rest = (new ≡ old) × HasEnded rest

abbrev pub ReadsOn : Bool → List ℕ → List ℕ → Option (List ℕ) → Option (List ℕ) → Type 0
ReadsOn came old new left rest = Came old new left rest × Grows came old new rest

-- what is found at the front of the bytes of a connection, where it tells them
abbrev pub FindsHead : Option (List ℕ) → List ℕ → List HeaderSpan → Result (Option RequestSpans) WireError → Type 0
FindsHead all held spans (Ok None) = IfSome all (λ bytes. bytes ≡ [])
FindsHead all held spans (Ok (Some found)) = (length spans ≡ 64) × IsHeadAt (take head_most held) spans found
FindsHead all held spans (Err errors.Head) = IfSome all HasNoHead
FindsHead all held spans (Err errors.Cut) = IfSome all EndsInHead
FindsHead all held spans (Err errors.ReadFault) = Unit {0}
FindsHead all held spans (Err errors.NoLength) = ⊥
FindsHead all held spans (Err errors.BodyTooLong) = ⊥
FindsHead all held spans (Err errors.Spent) = ⊥
FindsHead all held spans (Err errors.Memory) = ⊥

-- the count did not fall, and a fault of reading is answered only where it rose
pub record HasReadCause {T : Type 0} (before now : ℕ) (result : Result T WireError) : Type 0 where
  pub later : before ≤ now
  pub failed : IsErrOf result errors.ReadFault → Rose before now

-- what the code keeps of a head
abbrev pub Said : Type 0
Said = declared.Head

-- it is what a head says
pub record Says (head : RequestHead) (said : Said) : Type 0 where
  pub method : said.method ≡ head.method
  pub path : said.path ≡ path_of head.target
  pub at : said.at ≡ at_of head.target
  pub last : said.last ≡ is_last head
  pub body : length_of head ≡ Ok said.length
  pub size : said.size ≡ length (print_request head)

abbrev pub IsHeadOf : RequestHead → Result Said WireError → Type 0
IsHeadOf head (Ok said) = Says head said
IsHeadOf head (Err errors.Memory) = Unit {0}
IsHeadOf head (Err errors.Head) = length_of head ≡ Err errors.Head
IsHeadOf head (Err errors.NoLength) = length_of head ≡ Err errors.NoLength
IsHeadOf head (Err errors.BodyTooLong) = length_of head ≡ Err errors.BodyTooLong
IsHeadOf head (Err errors.Cut) = ⊥
IsHeadOf head (Err errors.Spent) = ⊥
IsHeadOf head (Err errors.ReadFault) = ⊥

-- a body of this length, and what is behind it, or the input ended before
abbrev pub GivesBody : ℕ → Option (List ℕ) → Option (List ℕ) → Result (List ℕ) WireError → Type 0
GivesBody count all others (Ok body) = (length body ≡ count) × (all ≡ in_front body others)
GivesBody count all others (Err errors.Cut) = IfSome all (λ bytes. length bytes < count)
GivesBody count all others (Err errors.ReadFault) = Unit {0}
GivesBody count all others (Err errors.Memory) = Unit {0}
GivesBody count all others (Err errors.Head) = ⊥
GivesBody count all others (Err errors.NoLength) = ⊥
GivesBody count all others (Err errors.BodyTooLong) = ⊥
GivesBody count all others (Err errors.Spent) = ⊥
