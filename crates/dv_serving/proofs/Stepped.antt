-- What comes of one request, by what was taken and what was written.
use Rattle.dv_serving.proofs.Vocabulary.{Answered, Bool, Came, Comes, Err, Exchange, IfOk, List, None, Ok, Option, Refused, RepliedTo, Reply, Request, Result, Said, Some, Takes, Waited, WireError, came_of, false, in_front, inl, inr, quiet, refl, reply_text, sym, true, with_bytes, ℕ, ◌≡◌}
use Rattle.dv_http.specs.declared.requests.WireError.TheVariants as errors
use Rattle.dv_serving.specs.declared.steps.Came.TheVariants as came

module _ {M : Type 0} (turn : M → Request → Reply → M → Type 0) (refusal : WireError → Option Reply) (all : Option (List ℕ)) (front : List ℕ) (left old new : Option (List ℕ)) (before after : M) where
  abbrev others : Option (List ℕ)
  others = in_front front left

  -- a request that was taken was answered
  pub replied_comes : (request : Request) (result : Came) → Takes all others (Ok (Some request)) → RepliedTo turn request old new before after result
      → Comes turn refusal all front left old new before after result
  replied_comes request result takes told = by told.said
    where
      exchange : Exchange
      exchange = record { request = request; reply = told.reply }

      answered : Answered turn all others before after exchange
      answered = record { takes = takes; turned = told.turned }

      whole : (last : Bool) → request.last ≡ last → new ≡ with_bytes old (reply_text told.reply) → Comes turn refusal all front left old new before after (came_of last)
      whole true is wrote = (exchange, answered, is, wrote)
      whole false is wrote = (exchange, answered, is, wrote)

      by : Said (reply_text told.reply) old new (came_of request.last) result → Comes turn refusal all front left old new before after result
      by (inl (is, wrote)) = rw is (whole request.last refl wrote)
      by (inr (inl (is, got))) = rw is (inl (exchange, answered, got))
      by (inr (inr (is, same))) = rw is (inr (exchange, answered, same))

module _ {M : Type 0} (turn : M → Request → Reply → M → Type 0) (refusal : WireError → Option Reply) (all : Option (List ℕ)) (front : List ℕ) (left old new : Option (List ℕ)) (moment : M) (result : Came) where
  abbrev ComesOf : Came → Type 0
  ComesOf came = Comes turn refusal all front left old new moment moment came

  quiet_comes : (error : WireError) → Takes all (in_front front left) (Err error) → (error ≡ errors.ReadFault → Waited all left) → new ≡ old → ComesOf (quiet error)
  quiet_comes errors.Cut takes waited same = (takes, (same, refl))
  quiet_comes errors.ReadFault takes waited same = (waited refl, (same, refl))
  quiet_comes error takes waited same = inl (same, refl)

  -- no request could be taken, and the reply is this one
  pub refused_comes : {E : Type 0} (r : Result (Option Reply) E) (error : WireError) → IfOk r (λ reply. reply ≡ refusal error) → Takes all (in_front front left) (Err error) → (error ≡ errors.ReadFault → Waited all left)
      → Refused r error old new result → ComesOf result
  refused_comes (Ok (Some reply)) error reply_is takes waited (inl (is, wrote)) = rw is (reply, record { error = error; refuses = takes; reply_is = sym reply_is }, wrote, refl)
  refused_comes (Ok (Some reply)) error reply_is takes waited (inr (inl (is, got))) = rw is (inr (reply, record { error = error; refuses = takes; reply_is = sym reply_is }, got, refl))
  refused_comes (Ok (Some reply)) error reply_is takes waited (inr (inr (is, same))) = rw is (inl (same, refl))
  refused_comes (Ok None) error reply_is takes waited (is, same) = rw is (quiet_comes error takes waited same)
  refused_comes (Err memory) error reply_is takes waited (is, same) = rw is (inl (same, refl))

-- what comes of a request that is answered is no fault of writing
pub came_unbroken : (last : Bool) → came_of last ≡ came.WriteFault → ⊥
came_unbroken true e = cc
came_unbroken false e = cc
