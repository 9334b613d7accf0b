-- What connections give is one thing alone.
use Rattle.dv_http_shown.proofs.Vocabulary.{BeginsWith, BodyTooLong, Cut, EndsInBody, Err, Gives, HasFault, HasHead, HasNoHead, Head, IsInBytes, List, Memory, NoLength, None, Ok, Option, ReadFault, ReadsRequest, Refuses, Request, RequestHead, RequestOverflows, Result, Some, Spent, WireError, []}
use Rattle.dv_http_shown.proofs.Vocabulary.{ap, append-nil, arith, fields_most, head_most, inl, inr, length, length-append, length_of, old, print_request, refl, request_of, request_unique, same_parts, subst, sym, ℕ, ◌++◌, ◌<◌, ◌∙◌, ◌≡◌, ◌≤◌, ◌⊎◌}
use Rattle.dv_http_shown.proofs.SampleHeads.{head_old}

-- a head has some bytes
some_bytes : (head : RequestHead) → 0 < length (print_request head)
unfolding print_request
some_bytes head = grind (arith, length-append)

no_head_in_none : (bytes : List ℕ) (head : RequestHead) (rest : List ℕ) → bytes ≡ [] → HasHead bytes head rest → ⊥
no_head_in_none bytes head rest none has =
    absurd (omega (arith, some_bytes head, ap length (sym none ∙ has.reads.1), length-append (print_request head) rest))

abbrev is_told : Result ℕ WireError → Type 0
is_told (Ok n) = Unit {0}
is_told (Err e) = ⊥

abbrev number : Result ℕ WireError → ℕ
number (Ok n) = n
number (Err e) = 0

-- the head of some bytes is one, and so is what stands behind it
same_head : (bytes : List ℕ) (h k : RequestHead) (r q : List ℕ) → HasHead bytes h r → HasHead bytes k q → (h ≡ k) × (r ≡ q)
same_head bytes h k r q first second = request_unique bytes h k r q first.reads second.reads

pub one_taken : (bytes : List ℕ) (first second : Option Request) (left rest : List ℕ) → Gives bytes left first → Gives bytes rest second → (first ≡ second) × (left ≡ rest)
one_taken bytes None None left rest one two = (refl, one.1 ∙ sym two.1)
one_taken bytes None (Some request) left rest one two = absurd (no_head_in_none bytes two.head (two.body ++ rest) one.0 two.has)
one_taken bytes (Some request) None left rest one two = absurd (no_head_in_none bytes one.head (one.body ++ left) two.0 one.has)
one_taken bytes (Some request) (Some other) left rest one two =
    let same = same_head bytes one.head two.head (one.body ++ left) (two.body ++ rest) one.has two.has in
    let long : length one.body ≡ length two.body = ap number (sym one.is ∙ ap length_of same.0 ∙ two.is) in
    let parts = same_parts one.body left two.body rest same.1 long in
    (ap Some (one.made ∙ ap (λ h. request_of h one.body) same.0 ∙ ap (request_of two.head) parts.0 ∙ sym two.made), parts.1)

-- where the bytes begin with a request, its head's length is no error
no_fault : (bytes : List ℕ) (request : Request) (left : List ℕ) (error : WireError) → BeginsWith bytes request left → HasFault bytes error → ⊥
no_fault bytes request left error begins fault =
    let same = same_head bytes begins.head fault.head (begins.body ++ left) fault.rest begins.has fault.has in
    subst is_told (sym begins.is ∙ ap length_of same.0 ∙ fault.is) tt

no_cut : (bytes : List ℕ) (request : Request) (left : List ℕ) → BeginsWith bytes request left → EndsInBody bytes → ⊥
no_cut bytes request left begins ends =
    let same = same_head bytes begins.head ends.head (begins.body ++ left) ends.rest begins.has ends.has in
    let count : length begins.body ≡ ends.count = ap number (sym begins.is ∙ ap length_of same.0 ∙ ends.is) in
    absurd (omega (arith, ends.short, count, ap length same.1, length-append begins.body left))

taken_some : (bytes : List ℕ) (request : Request) (left : List ℕ) (error : WireError) → IsInBytes error → BeginsWith bytes request left → Refuses bytes error → ⊥
taken_some bytes request left Head within begins (inl none) = none.none begins.head (begins.body ++ left) begins.has
taken_some bytes request left Head within begins (inr fault) = no_fault bytes request left Head begins fault
taken_some bytes request left NoLength within begins fault = no_fault bytes request left NoLength begins fault
taken_some bytes request left BodyTooLong within begins fault = no_fault bytes request left BodyTooLong begins fault
taken_some bytes request left Cut within begins (inl ends) = ends.none begins.head (begins.body ++ left) begins.has.reads
taken_some bytes request left Cut within begins (inr ends) = no_cut bytes request left begins ends
taken_some bytes request left Spent within begins refuses = within
taken_some bytes request left ReadFault within begins refuses = within
taken_some bytes request left Memory within begins refuses = within

-- a head without fields can stand behind nothing
none_ever : (bytes : List ℕ) → bytes ≡ [] → (head_most ≤ length bytes) ⊎ RequestOverflows fields_most bytes → ⊥
none_ever bytes none (inl long) = absurd (omega (arith, long, ap length none))
none_ever bytes none (inr never) =
    absurd (omega (arith, never (print_request old) old [] (subst (λ l. ReadsRequest (l ++ print_request old) old []) (sym none) (head_old, sym (append-nil (print_request old))))))

none_refused : (bytes : List ℕ) → bytes ≡ [] → HasNoHead bytes → ⊥
none_refused bytes none no_head = none_ever bytes none no_head.ever

taken_none : (bytes : List ℕ) (error : WireError) → IsInBytes error → bytes ≡ [] → Refuses bytes error → ⊥
taken_none bytes Head within none (inl no_head) = none_refused bytes none no_head
taken_none bytes Head within none (inr fault) = no_head_in_none bytes fault.head fault.rest none fault.has
taken_none bytes NoLength within none fault = no_head_in_none bytes fault.head fault.rest none fault.has
taken_none bytes BodyTooLong within none fault = no_head_in_none bytes fault.head fault.rest none fault.has
taken_none bytes Cut within none (inl ends) = absurd (omega (arith, ends.some, ap length none))
taken_none bytes Cut within none (inr ends) = no_head_in_none bytes ends.head ends.rest none ends.has
taken_none bytes Spent within none refuses = within
taken_none bytes ReadFault within none refuses = within
taken_none bytes Memory within none refuses = within

pub not_refused : (bytes : List ℕ) (taken : Option Request) (left : List ℕ) (error : WireError) → IsInBytes error → Gives bytes left taken → Refuses bytes error → ⊥
not_refused bytes None left error within gives refuses = taken_none bytes error within gives.0 refuses
not_refused bytes (Some request) left error within gives refuses = taken_some bytes request left error within gives refuses
