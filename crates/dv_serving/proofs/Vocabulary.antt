-- What the proofs of this crate, and of those above it, take from elsewhere.
pub use Rattle.dv_http.proofs.Vocabulary.{Err, IfSome, Ok, Result, Takes, Waited, ap, append-nil, append_assoc, arith, drop, in_front, inl, inr, length-append, length-drop, list_any, refl, subst, sym, take, take-append-drop, ◌∙◌}
pub use Rattle.dv_outside.proofs.Vocabulary.{after, err_from_is_err_and, take-add}
pub use Rattle.dv_http.specs.Replies.{reply_text}
pub use Rattle.dv_http.specs.declared.{replies.Reply.Reply, requests.Request.Request, requests.WireError.WireError}
pub use Rattle.dv_outside.proofs.Told.{after-after, after-nil, tail_slice}
pub use Rattle.dv_outside.specs.{Bytes.after as with_bytes, Lines.GivesNext, Lines.Lines, Lines.with_back}
pub use Rattle.dv_outside.specs.declared.folders.Failed.{Failed}
pub use Rattle.dv_serving.specs.{Doors.DoorsEnd, Doors.Passes, Doors.PassesTold, Doors.ServesDoors, Doors.ServesEach, Doors.ServesLine, Doors.most_lines, Exchanges.AreOpen, Exchanges.Chain, Exchanges.Exchange, Exchanges.is_last, Exchanges.replied, Exchanges.replies, Serving.Ends, Serving.GoOn}
pub use Rattle.dv_serving.specs.{Serving.IsLeftOf, Serving.ServesLink, Serving.StandIn, Serving.Tells, Serving.WroteAll, Serving.WroteFront, Serving.most_requests, Steps.Answered, Steps.BreaksRefusal, Steps.BreaksReply, Steps.Comes, Steps.Nothing, Steps.Refused, Steps.RepliedTo, Steps.Said}
pub use Rattle.dv_serving.specs.{Steps.Unsaid, Steps.came_of, Steps.end_with, Steps.quiet, Writing.GotPart}
pub use Rattle.dv_serving.specs.declared.{served.Served.Served, steps.Came.Came}
pub use Rattle.std.specs.Prelude.{Bool, IfOk, List, None, Option, Some, [], false, length, true, ℕ, ◌++◌, ◌+◌, ◌-◌, ◌<◌, ◌||◌, ◌∷◌, ◌≡◌, ◌≤◌, ◌⊎◌}
