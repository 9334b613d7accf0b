-- What is taken, by what is found at the front of a connection's bytes.
use Rattle.dv_http.proofs.Vocabulary.{BeginsWith, BodyTooLong, BodyWaits, Cut, Err, FindsHead, GivesBody, HasHead, HasNoRequest, HasNoWhole, Head, HeaderSpan, IfSome, IsHeadAt, IsHeadOf, IsRequestAt, IsSomeAnd, List, Memory, NoLength, None, Ok, Option, ReadFault, ReadsRequest, Refuses}
use Rattle.dv_http.proofs.Vocabulary.{RequestHead, RequestSpans, Result, Said, Says, Some, Spent, Takes, Waited, WireError, [], ap, arith, drop, fields_most, head_most, in_front, inl, inr, length, length-append, length-take, length_of, print_request, refl, request_of, request_unique, subst, sym}
use Rattle.dv_http.proofs.Vocabulary.{take, take-append-drop, take-append_seam, take-take, unwrap_or, ℕ, ◌++◌, ◌<◌, ◌∙◌, ◌≡◌, ◌≤◌}
use Rattle.dv_http.proofs.{Bodies.front_twice, Fronts.head_held}

-- a head has no proper length
refuses_head : (bytes : List ℕ) (head : RequestHead) (rest : List ℕ) (error : WireError) → HasHead bytes head rest → IsHeadOf head (Err error) → Refuses bytes error
refuses_head bytes head rest Head has is = inr (record { head = head; rest = rest; has = has; is = is })
refuses_head bytes head rest NoLength has is = record { head = head; rest = rest; has = has; is = is }
refuses_head bytes head rest BodyTooLong has is = record { head = head; rest = rest; has = has; is = is }
refuses_head bytes head rest Memory has is = tt
refuses_head bytes head rest error has is = absurd is

-- a body did not come whole
refuses_body : (bytes : List ℕ) (head : RequestHead) (rest : List ℕ) (count : ℕ) (others : Option (List ℕ)) (error : WireError) → HasHead bytes head rest → length_of head ≡ Ok count → GivesBody count (Some rest) others (Err error) → Refuses bytes error
refuses_body bytes head rest count others Cut has is gives = inr (record { head = head; rest = rest; has = has; count = count; is = is; short = gives })
refuses_body bytes head rest count others ReadFault has is gives = tt
refuses_body bytes head rest count others Memory has is gives = tt
refuses_body bytes head rest count others error has is gives = absurd gives

-- a body came whole
begins : (bytes : List ℕ) (head : RequestHead) (rest body : List ℕ) (others : Option (List ℕ)) → HasHead bytes head rest → length_of head ≡ Ok (length body) → Some rest ≡ in_front body others → IsSomeAnd others (λ left. BeginsWith bytes (request_of head body) left)
begins bytes head rest body None has is parted = absurd (subst (λ o. IsSomeAnd o (λ _. Unit {0})) parted tt)
begins bytes head rest body (Some left) has is parted = record {
  head = head;
  body = body;
  has = subst (HasHead bytes head) (ap (λ o. unwrap_or o []) parted) has;
  is = is;
  made = refl;
}

-- the error of an answer
abbrev pub error_of : {T : Type 0} → Result T WireError → WireError
error_of (Ok _) = Memory
error_of (Err error) = error

abbrev number : Result ℕ WireError → ℕ
number (Ok n) = n
number (Err e) = 0

-- a head and less than its body is no request
no_whole_body : (bytes : List ℕ) (head : RequestHead) (got : List ℕ) (count : ℕ) → ReadsRequest bytes head got → length_of head ≡ Ok count → length got < count → HasNoWhole bytes
no_whole_body bytes head got count reads is short request others begins =
    let same = request_unique bytes head begins.head got (begins.body ++ others) reads begins.has.reads in
    let size : count ≡ length begins.body = ap number (sym is ∙ ap length_of same.0 ∙ begins.is) in
    absurd (omega (arith, short, size, ap length same.1, length-append begins.body others))

module _ (held : List ℕ) (spans : List HeaderSpan) (found : RequestSpans) (head : RequestHead) (room : length spans ≡ fields_most) (at : IsHeadAt (take head_most held) spans found) (is : IsRequestAt (take head_most held) spans found head) where
  pub refuses_head_held : (left : Option (List ℕ)) (error : WireError) → IsHeadOf head (Err error) → IfSome (in_front held left) (λ bytes. Refuses bytes error)
  refuses_head_held None error said = tt
  refuses_head_held (Some more) error said = refuses_head (held ++ more) head (drop found.len held ++ more) error (head_held held more spans found head room at is) said

  same_size : (said : Said) → Says head said → found.len ≡ said.size
  same_size said says = is.len ∙ sym says.size

  pub size_within : (said : Said) → Says head said → said.size ≤ length held
  size_within said says = omega (arith, same_size said says, at.within.section.len_fits, length-take head_most held)

  pub refuses_body_held : (left others : Option (List ℕ)) (said : Said) (error : WireError) → Says head said → GivesBody said.length (in_front (drop said.size held) left) others (Err error) → IfSome (in_front held left) (λ bytes. Refuses bytes error)
  refuses_body_held None others said error says gives = tt
  refuses_body_held (Some more) others said error says gives =
      refuses_body (held ++ more) head (drop said.size held ++ more) said.length others error
      (subst (λ n. HasHead (held ++ more) head (drop n held ++ more)) (same_size said says) (head_held held more spans found head room at is))
      says.body gives

  -- what the code keeps of the head makes the request
  same_request : (said : Said) (body : List ℕ) → Says head said → request_of head body ≡ record { method = said.method; path = said.path; at = said.at; body = body; last = said.last }
  same_request said body says = rw says.method (rw says.path (rw says.at (rw says.last refl)))

  pub takes_body_held : (left others : Option (List ℕ)) (said : Said) (body : List ℕ) → Says head said → GivesBody said.length (in_front (drop said.size held) left) others (Ok body)
      → Takes (in_front held left) others (Ok (Some (record { method = said.method; path = said.path; at = said.at; body = body; last = said.last })))
  takes_body_held None others said body says gives = tt
  takes_body_held (Some more) others said body says gives =
      subst (λ request. Takes (Some (held ++ more)) others (Ok (Some request))) (same_request said body says)
      (begins (held ++ more) head (drop said.size held ++ more) body others
      (subst (λ n. HasHead (held ++ more) head (drop n held ++ more)) (same_size said says) (head_held held more spans found head room at is))
      (says.body ∙ ap Ok (sym gives.0)) gives.1)

  -- what was read is the head and less than its body
  pub waited_held : (left rest : Option (List ℕ)) (said : Said) → Says head said → BodyWaits said.length (in_front (drop said.size held) left) rest → Waited (in_front held left) rest
  waited_held left rest said says waits =
      let size = said.size in
      let got = waits.0 in
      let fits : size ≤ head_most = omega (arith, same_size said says, at.within.section.len_fits, length-take head_most held) in
      let front : take size held ≡ print_request head = sym (take-take size head_most held fits) ∙ ap (take size) is.reads.1
      ∙ ap (λ n. take n (print_request head ++ drop found.len (take head_most held))) says.size ∙ take-append_seam (print_request head) (drop found.len (take head_most held)) in (
        take size held ++ got,
        ap (λ l. in_front l left) (sym (take-append-drop size held)) ∙ front_twice (take size held) (drop size held) left
            ∙ ap (in_front (take size held)) waits.1 ∙ sym (front_twice (take size held) got rest),
        no_whole_body (take size held ++ got) head got said.length (is.reads.0, ap (λ l. l ++ got) front) says.body waits.2,
      )
