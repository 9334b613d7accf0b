-- Where nothing failed and memory did not run out all that came was served, and no answer was that the keeper failed.
use Rattle.dv_desk.proofs.Vocabulary.{Chain, DigestFunction, Ends, EndsAs, EndsBy, EndsOrMemory, Err, Exchange, Failed, IsCauseOf, IsFaultOf, IsReplied, IsServeCause, IsServedCause, IsServedOut, IsServedWhole, IsSurelyReplied, Lines, List, Mapping, Moment, NoFault, None, Ok}
use Rattle.dv_desk.proofs.Vocabulary.{Option, Reply, Request, Result, Seen, ServeSays, Served, ServedAll, ServedOut, ServesDoors, ServesEach, ServesLine, ServesOn, ServesWhole, Some, StandsThen, StartFault, Status, Store, Tells, [], arith, asked, ending_of_start, hashes_of, inl, inr, refl}
use Rattle.dv_desk.proofs.Vocabulary.{refusal, subst, sym, ℕ, ◌∙◌, ◌∷◌, ◌≡◌, ◌≤◌}
use Rattle.dv_outside.specs.declared.statuses.Status.TheVariants as statuses
use Rattle.dv_restore.specs.declared.faults.StoreFault.TheVariants as unread
use Rattle.dv_restore.specs.declared.faults.StartFault.TheVariants as faults
use Rattle.dv_serving.specs.declared.served.Served.TheVariants as served
use Rattle.dv_desk.proofs.Talked.{chain_later, rose_within}

-- ---- no answer is that the keeper failed

module _ (function : DigestFunction) where
  sure_turn : (before : Moment) (request : Request) (reply : Reply) (after : Moment) → IsReplied function before request reply after → NoFault before.faults after.faults → IsSurelyReplied function before request reply after
  sure_turn before request reply after replied quiet = record {
    replied = replied;
    sure = λ is. quiet (subst (IsCauseOf function (asked request) before after) is replied.turn.cause);
  }

  -- in the parts of what had no fault there was none
  first_part : (before next after : ℕ) → next ≤ after → NoFault before after → NoFault before next
  first_part before next after later quiet = λ rose. quiet (rose_within function before before next after (omega arith) later rose)

  last_part : (before next after : ℕ) → before ≤ next → NoFault before after → NoFault next after
  last_part before next after later quiet = λ rose. quiet (rose_within function before next after after later (omega arith) rose)

  sure_chain : (exchanges : List Exchange) (before after : Moment) → Chain (IsReplied function) exchanges before after → NoFault before.faults after.faults → Chain (IsSurelyReplied function) exchanges before after
  sure_chain [] before after same quiet = same
  sure_chain (exchange ∷ exchanges) before after (next, replied, chain) quiet = (
    next,
    sure_turn before exchange.request exchange.reply next replied (first_part before.faults next.faults after.faults (chain_later function exchanges next after chain) quiet),
    sure_chain exchanges next after chain (last_part before.faults next.faults after.faults replied.turn.later quiet),
  )

  module _ {L : Type 0} (tells : Tells L) where
    sure_on : (line back : L) (before after : Moment) (how : Served) → ServesOn (IsReplied function) refusal tells line back before after how → NoFault before.faults after.faults
        → ServesOn (IsSurelyReplied function) refusal tells line back before after how
    sure_on line back before after how serves quiet = record {
      exchanges = serves.exchanges;
      rest = serves.rest;
      stand = serves.stand;
      chain = sure_chain serves.exchanges before after serves.chain quiet;
      few = serves.few;
      ends = serves.ends;
    }

    line_later : (line back : L) (before after : Moment) (how : Served) → ServesLine (IsReplied function) refusal tells line back before after how → before.faults ≤ after.faults
    line_later line back before after how served = chain_later function served.serves.exchanges before after served.serves.chain

    sure_line : (line back : L) (before after : Moment) (how : Served) → ServesLine (IsReplied function) refusal tells line back before after how → NoFault before.faults after.faults
        → ServesLine (IsSurelyReplied function) refusal tells line back before after how
    sure_line line back before after how served quiet = record { serves = sure_on line back before after how served.serves quiet; cause = served.cause; later = served.later }

    each_later : (lines backs : List L) (before after : Moment) → ServesEach (IsReplied function) refusal tells lines backs before after → before.faults ≤ after.faults
    each_later [] [] before after same = subst (λ (m : Moment). before.faults ≤ m.faults) (sym same) (omega arith)
    each_later (line ∷ lines) (back ∷ backs) before after (next, how, served, each) = omega (arith, line_later line back before next how served, each_later lines backs next after each)
    each_later [] (back ∷ backs) before after none = absurd none
    each_later (line ∷ lines) [] before after none = absurd none

    sure_each : (lines backs : List L) (before after : Moment) → ServesEach (IsReplied function) refusal tells lines backs before after → NoFault before.faults after.faults
        → ServesEach (IsSurelyReplied function) refusal tells lines backs before after
    sure_each [] [] before after same quiet = same
    sure_each (line ∷ lines) (back ∷ backs) before after (next, how, served, each) quiet = (
      next,
      how,
      sure_line line back before next how served (first_part before.faults next.faults after.faults (each_later lines backs next after each) quiet),
      sure_each lines backs next after each (last_part before.faults next.faults after.faults (line_later line back before next how served) quiet),
    )
    sure_each [] (back ∷ backs) before after none quiet = absurd none
    sure_each (line ∷ lines) [] before after none quiet = absurd none

-- ---- a connection

is_whole : (before now : ℕ) (how : Served) → IsServedCause before now how → NoFault before now → (how ≡ served.Memory → ⊥) → IsServedWhole how
is_whole before now served.ReadFault rose calm ample = calm rose
is_whole before now served.WriteFault rose calm ample = calm rose
is_whole before now served.Memory cause calm ample = ample refl
is_whole before now how cause calm ample = tt

pub serves_whole : {L : Type 0} (function : DigestFunction) (tells : Tells L) (line back : L) (before after : Moment) (how : Served) → ServesOn (IsReplied function) refusal tells line back before after how
    → IsServedCause (tells.faults line) (tells.faults back) how → NoFault (tells.faults line) (tells.faults back) → (how ≡ served.Memory → ⊥) → ServesWhole function tells line back before after how
serves_whole function tells line back before after how serves cause calm ample = record {
  whole = is_whole (tells.faults line) (tells.faults back) how cause calm ample;
  sure = sure_on function tells line back before after how serves;
}

-- ---- how the serving of doors ended

is_out : (before now : ℕ) (kept : Seen Store) (err : Seen (List ℕ)) (result : Status) → IsServeCause before now kept err result → NoFault before now → NoFault kept.before kept.now → NoFault err.before err.now
    → (result ≡ statuses.Memory → ⊥) → IsServedOut result
is_out before now kept err statuses.Done cause calm quiet written ample = tt
is_out before now kept err statuses.Mapping cause calm quiet written ample = tt
is_out before now kept err statuses.Damaged cause calm quiet written ample = tt
is_out before now kept err statuses.Refused cause calm quiet written ample = cause
is_out before now kept err statuses.Usage cause calm quiet written ample = cause
is_out before now kept err statuses.ReadFault cause calm quiet written ample = calm cause
is_out before now kept err statuses.KeeperFault cause calm quiet written ample = quiet cause
is_out before now kept err statuses.WriteFault cause calm quiet written ample = written cause
is_out before now kept err statuses.Memory cause calm quiet written ample = ample refl

module _ (err : Seen (List ℕ)) (result : Status) (written : NoFault err.before err.now) (ample : result ≡ statuses.Memory → ⊥) where
  -- the line was written
  ends_so : (status : Status) (line : List ℕ) → Ends status line err.old err.new err.before err.now result → result ≡ status
  ends_so status line (inl said) = said.status_is
  ends_so status line (inr cut) = absurd (written cut.rose)

  ends_or : (status : Status) (line : List ℕ) → EndsOrMemory status line err result → result ≡ status
  ends_or status line (inl ends) = ends_so status line ends
  ends_or status line (inr ends) = absurd (ample (ends_so statuses.Memory _ ends))

  module _ (function : DigestFunction) (kept : Seen Store) (quiet : NoFault kept.before kept.now) (sound : result ≡ statuses.Damaged → ⊥) (mapping : Mapping) (stands : StandsThen mapping (hashes_of function) kept.old) where
    -- an office could be started
    never_unstarted : (fault : StartFault) → IsFaultOf function kept.old kept.before kept.now fault → EndsBy (ending_of_start fault) err result → ⊥
    never_unstarted faults.NoMapping none ends = by stands
      where
        by : StandsThen mapping (hashes_of function) kept.old → ⊥
        by (state, store, told, standing) = let no : None ≡ Some standing.mapped.text = sym (none store told) ∙ standing.mapped.stored_is in cc
    never_unstarted (faults.Unread (unread.Damaged damage)) is ends = sound (ends_or statuses.Damaged _ ends)
    never_unstarted (faults.Unread unread.KeeperFault) rose ends = quiet rose
    never_unstarted (faults.Unread unread.Memory) is ends = ample (ends_or statuses.Memory _ ends)

    module _ {L : Type 0} (tells : Tells L) (old new : Option (Lines L)) (before now : ℕ) (calm : NoFault before now) (cause : IsServeCause before now kept err result) where
      no_read_fault : result ≡ statuses.ReadFault → ⊥
      no_read_fault is = calm (subst (IsServeCause before now kept err) is cause)

      served_all_by : (began after : Moment) → NoFault began.faults after.faults → (ended : Result (Unit {0}) Failed) → ServesDoors (IsReplied function) refusal tells old new began after ended → EndsAs ended err result
          → (result ≡ statuses.Done) × ServesDoors (IsSurelyReplied function) refusal tells old new began after (Ok tt)
      served_all_by began after sure (Ok done) serves ends = (
        ends.0,
        record { lines = serves.lines; backs = serves.backs; each = sure_each function tells serves.lines serves.backs began after serves.each sure; passes = serves.passes; few = serves.few; ends = serves.ends },
      )
      served_all_by began after sure (Err failed) serves ends = absurd (no_read_fault (ends_so statuses.ReadFault _ ends))

      pub serves_all : ServeSays function tells old new kept err result → ServedAll function tells old new kept.old result
      serves_all (inl unstarted) = absurd (never_unstarted unstarted.fault unstarted.is_fault unstarted.ends)
      serves_all (inr with) =
          let now_is = with.faults.1 in
          let sure : NoFault with.began.faults with.after.faults = λ rose. quiet (rose_within function kept.before with.began.faults with.after.faults kept.now with.faults.0 (omega (arith, now_is)) rose) in
          let all = served_all_by with.began with.after sure with.ended with.serves with.ends in
          record { done = all.0; began = with.began; after = with.after; started = with.started; serves = all.1 }

-- with no fault and memory enough
pub serves_out : {L : Type 0} (function : DigestFunction) (tells : Tells L) (old new : Option (Lines L)) (before now : ℕ) (kept : Seen Store) (err : Seen (List ℕ)) (result : Status)
    → ((mapping : Mapping) → StandsThen mapping (hashes_of function) kept.old → result ≡ statuses.Damaged → ⊥) → IsServeCause before now kept err result → ServeSays function tells old new kept err result
    → NoFault before now → NoFault kept.before kept.now → NoFault err.before err.now → (result ≡ statuses.Memory → ⊥) → ServedOut function tells old new kept.old result
serves_out function tells old new before now kept err result sound cause says calm quiet written ample = record {
  ended = is_out before now kept err result cause calm quiet written ample;
  all = λ mapping stands. serves_all err result written ample function kept quiet (sound mapping stands) mapping stands tells old new before now calm cause says;
}
