use Rattle.dv_app.proofs.Vocabulary.{Some, ap, arith, command_in, command_of, refl, seen, sym, ◌∙◌}
use Rattle.dv_app.proofs.RunSteps.{exercises_ran, keeper_ran, line_ends, memory_ran, tries_ran, usage_ran}
use Rattle.dv_app.proofs.works.Work.run.Goals as goal

pub returns-in-Ok-None-clause-ran : goal.returns-in-Ok-None-clause-ran
returns-in-Ok-None-clause-ran g c = usage_ran _ _ _ _ (refl {a = g.F.Folder.files c.args.self.now.folder.now}) (record { folder = omega arith; keeper = omega arith; out = omega arith; err = c.end.ensures.later })
    (refl {a = g.K.Keeper.store c.args.self.now.keeper.now})
    (c.in-Ok-None.ensures ∙ ap command_in c.in-Ok-None.field-0-is) (line_ends _ _ _ _ _ (refl {a = g.O.Sink.contents c.args.out.now}) c.end.ensures.says, refl, refl)

pub returns-in-Err-clause-ran : goal.returns-in-Err-clause-ran
returns-in-Err-clause-ran g c = memory_ran _ _ _ _ (refl {a = g.F.Folder.files c.args.self.now.folder.now}) (record { folder = omega arith; keeper = omega arith; out = omega arith; err = c.end-in-Err.ensures.later })
    (refl {a = g.K.Keeper.store c.args.self.now.keeper.now})
    (line_ends _ _ _ _ _ (refl {a = g.O.Sink.contents c.args.out.now}) c.end-in-Err.ensures.says, refl, refl)

pub returns-in-None-clause-ran : goal.returns-in-None-clause-ran
returns-in-None-clause-ran g c = usage_ran _ _ _ _ (refl {a = g.F.Folder.files c.args.self.now.folder.now}) (record { folder = omega arith; keeper = omega arith; out = omega arith; err = c.end-in-None.ensures.later })
    (refl {a = g.K.Keeper.store c.args.self.now.keeper.now})
    (c.in-Ok-Some.ensures ∙ ap command_in c.in-Ok-Some.field-0-is ∙ sym c.in-None.ensures.asked) (line_ends _ _ _ _ _ (refl {a = g.O.Sink.contents c.args.out.now}) c.end-in-None.ensures.says, refl, refl)

pub returns-in-Some-Try-clause-ran : goal.returns-in-Some-Try-clause-ran
returns-in-Some-Try-clause-ran g c =
    tries_ran _ _ _ _ c.try_command.ensures.kept (record { folder = c.try_command.ensures.later.0; keeper = omega arith; out = c.try_command.ensures.later.1; err = c.try_command.ensures.later.2 }) (refl {a = g.K.Keeper.store c.args.self.now.keeper.now}) _
    (c.in-Ok-Some.ensures ∙ ap command_in c.in-Ok-Some.field-0-is ∙ sym c.in-Some-Try.ensures.asked ∙ ap (λ x. command_of (Some x)) c.in-Some-Try.field-0-is) c.try_command.ensures.causes c.try_command.ensures.says

pub returns-clause-ran : goal.returns-clause-ran
returns-clause-ran g c =
    keeper_ran _ _ _ _ c.reply_to-reply.ensures.replied.later.kept (record { folder = c.reply_to-reply.ensures.replied.later.folder; keeper = c.reply_to-reply.ensures.replied.later.keeper; out = c.say.ensures.later.0; err = c.say.ensures.later.1 }) _
    (c.in-Ok-Some.ensures ∙ ap command_in c.in-Ok-Some.field-0-is ∙ sym c.in-Some-OnKeeper.ensures.asked ∙ ap (λ x. command_of (Some x)) c.in-Some-OnKeeper.field-0-is)
    _ c.reply_to-reply.ensures.replied.does c.say.ensures.says

pub returns-in-Some-Exercise-clause-ran : goal.returns-in-Some-Exercise-clause-ran
returns-in-Some-Exercise-clause-ran g c =
    exercises_ran _ _ _ _ (refl {a = g.F.Folder.files c.args.self.now.folder.now}) (record { folder = omega arith; keeper = omega arith; out = c.exercise_command.ensures.later.0; err = c.exercise_command.ensures.later.1 }) (refl {a = g.K.Keeper.store c.args.self.now.keeper.now}) _
    (c.in-Ok-Some.ensures ∙ ap command_in c.in-Ok-Some.field-0-is ∙ sym c.in-Some-Exercise.ensures.asked ∙ ap (λ x. command_of (Some x)) c.in-Some-Exercise.field-0-is)
    (c.exercise_command.ensures.causes (seen g.F.Folder.files g.F.Folder.faults c.args.self.now.folder.now c.args.self.now.folder.now))
    c.exercise_command.ensures.says
