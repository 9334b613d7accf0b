-- Requests as they stand on a connection (RFC 9112, sections 2 to 6): a head, and a body of the length that it
-- tells. What stands on a connection gives one request, or the first error that holds.
use Rattle.std.specs.Prelude.{◌≡◌, ◌⊎◌, ℕ, ◌<◌, ◌≤◌, Bool, ◌||◌, List, [], ◌++◌, length, map, ◌==◌, Option, Some, None, IfSome, IsSomeAnd, Result, Ok, Err}
use Rattle.std.specs.List.{list_any}
use Rattle.dv_outside.specs.Bytes.{in_front}
use Rattle.httparse.specs.Grammar.{RequestHead, print_request, ReadsRequest, HasNoRequest, MayBecomeRequest}
use Rattle.httparse.specs.Spans.{name_and_value, RequestOverflows}
use Rattle.dv_http.specs.Fields.{body_length, is_close}
use Rattle.dv_http.specs.Targets.{path_of, at_of}
use Rattle.dv_http.specs.declared.requests.Request.{Request}
use Rattle.dv_http.specs.declared.requests.WireError.{WireError}
use Rattle.dv_http.specs.declared.requests.WireError.TheVariants as errors

-- a head's longest length and its most fields
abbrev pub head_most : ℕ
head_most = 16384

abbrev pub fields_most : ℕ
fields_most = 64

-- the fields of a head
abbrev pub fields_of : RequestHead → List (List ℕ × List ℕ)
fields_of head = map name_and_value head.fields

-- the connection ends after the request
abbrev pub is_last : RequestHead → Bool
is_last head = head.minor == 0 || list_any is_close (fields_of head)

-- the length of the body behind a head, or the head's error
abbrev pub length_of : RequestHead → Result ℕ WireError
length_of head = body_length head.method (fields_of head)

-- the request of a head and a body
abbrev pub request_of : RequestHead → List ℕ → Request
request_of head body = record {
  method = head.method;
  path = path_of head.target;
  at = at_of head.target;
  body = body;
  last = is_last head;
}

-- the bytes begin with a head that is not too long, and the rest stands behind it
pub record HasHead (bytes : List ℕ) (head : RequestHead) (rest : List ℕ) : Type 0 where
  pub reads : ReadsRequest bytes head rest
  pub size : length (print_request head) ≤ head_most
  pub fields : length head.fields ≤ fields_most

-- they begin with none, and either as many bytes are there as a head may have, or no bytes can follow with which
-- they do
pub record HasNoHead (bytes : List ℕ) : Type 0 where
  pub none : (head : RequestHead) (rest : List ℕ) → HasHead bytes head rest → ⊥
  pub ever : (head_most ≤ length bytes) ⊎ RequestOverflows fields_most bytes

-- a head's length is this error
pub record HasFault (bytes : List ℕ) (error : WireError) : Type 0 where
  pub head : RequestHead
  pub rest : List ℕ
  pub has : HasHead bytes head rest
  pub is : length_of head ≡ Err error

-- they end within a head, which may still come, or within its target
pub record EndsInHead (bytes : List ℕ) : Type 0 where
  pub some : 0 < length bytes
  pub short : length bytes < head_most
  pub none : HasNoRequest bytes
  pub may : MayBecomeRequest bytes

-- they end within a body
pub record EndsInBody (bytes : List ℕ) : Type 0 where
  pub head : RequestHead
  pub rest : List ℕ
  pub has : HasHead bytes head rest
  pub count : ℕ
  pub is : length_of head ≡ Ok count
  pub short : length rest < count

-- they begin with this request, and others stand behind it
pub record BeginsWith (bytes : List ℕ) (request : Request) (others : List ℕ) : Type 0 where
  pub head : RequestHead
  pub body : List ℕ
  pub has : HasHead bytes head (body ++ others)
  pub is : length_of head ≡ Ok (length body)
  pub made : request ≡ request_of head body

-- what is taken where these bytes are the whole input, and those that stand behind it
abbrev pub Gives : List ℕ → List ℕ → Option Request → Type 0
Gives bytes others None = (bytes ≡ []) × (others ≡ [])
Gives bytes others (Some request) = BeginsWith bytes request others

-- where no request is taken from these bytes for this cause
abbrev pub Refuses : List ℕ → WireError → Type 0
Refuses bytes errors.Head = HasNoHead bytes ⊎ HasFault bytes errors.Head
Refuses bytes errors.NoLength = HasFault bytes errors.NoLength
Refuses bytes errors.BodyTooLong = HasFault bytes errors.BodyTooLong
Refuses bytes errors.Cut = EndsInHead bytes ⊎ EndsInBody bytes
Refuses bytes errors.Spent = Unit {0}
Refuses bytes errors.ReadFault = Unit {0}
Refuses bytes errors.Memory = Unit {0}

-- what is answered where the connection tells its bytes
abbrev pub Takes : Option (List ℕ) → Option (List ℕ) → Result (Option Request) WireError → Type 0
Takes all others (Ok taken) = IfSome all (λ bytes. IsSomeAnd others (λ rest. Gives bytes rest taken))
Takes all others (Err error) = IfSome all (λ bytes. Refuses bytes error)

-- no whole request stands at the front
abbrev pub HasNoWhole : List ℕ → Type 0
HasNoWhole bytes = (request : Request) (others : List ℕ) → BeginsWith bytes request others → ⊥

-- what was read and not taken is no whole request
abbrev pub Waited : Option (List ℕ) → Option (List ℕ) → Type 0
Waited all rest = (got : List ℕ) × (all ≡ in_front got rest) × HasNoWhole got

-- a spent buffer: no byte was read, and no read failed
pub record ReadsNothing (left rest : Option (List ℕ)) (before now : ℕ) : Type 0 where
  pub same : rest ≡ left
  pub quiet : now ≡ before
