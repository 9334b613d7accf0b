use Rattle.dv_text.proofs.Vocabulary.{sym}
use Rattle.dv_text.proofs.{Forms.shown, Forms.there-parts, Shown.stamp_text-is}
use Rattle.dv_text.proofs.calendar.shown.Goals as goal

pub returns-clause-value : goal.returns-clause-value
returns-clause-value c = shown c.args.year c.args.month c.args.day c.args.hour c.args.minute c.args.second c.requires

pub returns-clause-shown : goal.returns-clause-shown
returns-clause-shown c =
    let p = there-parts c.args.year c.args.month c.args.day c.args.hour c.args.minute c.args.second c.requires in
    sym (stamp_text-is c.args.year c.args.month c.args.day c.args.hour c.args.minute c.args.second p.0 p.1 p.2 p.3 p.4 p.5 p.6 p.7 p.8)
