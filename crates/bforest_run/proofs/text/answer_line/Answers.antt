use Rattle.bforest_run.proofs.Turns.{breaks-bad, breaks-told}
use Rattle.bforest_run.proofs.Written.{Appends-none}
use Rattle.bforest_run.specs.Session.{IsBad, Replies, bad_text}
use Rattle.bforest_run.specs.declared.reply.Reply.TheVariants.{Told}
use Rattle.std.proofs.Common.{rules, ◌++◌, ◌≡◌}
use Rattle.std.specs.Prelude.{codes}
use Rattle.bforest_run.proofs.text.answer_line.Goals as goal

pub returns-in_err-text-in-Bad-clause-memory : goal.returns-in_err-text-in-Bad-clause-memory
returns-in_err-text-in-Bad-clause-memory g c = λ _. Appends-none (g.W.Write.contents c.args.output.now)

pub returns-in_err-write_line-in-Bad-clause-failed : goal.returns-in_err-write_line-in-Bad-clause-failed
returns-in_err-write_line-in-Bad-clause-failed g c =
    let bad : IsBad g.E.Engine.tells g.E.Engine.is_bad c.args.line.now = (rw c.in-Bad.is at c.in_ok-reply_to.ensures).0 in
    let is : c.as_bytes-in-Bad.result.now ≡ bad_text c.args.number = search rules in
    λ _. breaks-bad g.E.Engine.tells g.E.Engine.is_bad c.args.engine.now c.args.number c.args.line.now (g.W.Write.contents c.args.output.now)
    (g.W.Write.contents c.write_line-in-Bad.new.output) c.as_bytes-in-Bad.result.now bad is c.in_err-write_line-in-Bad.ensures.part

pub returns-in-Told-clause-failed : goal.returns-in-Told-clause-failed
returns-in-Told-clause-failed g c =
    let told : Replies g.E.Engine.tells g.E.Engine.is_bad c.args.engine.now c.args.line.now (Told c.in-Told.text) c.reply_to.new.engine =
    rw c.in-Told.is at c.in_ok-reply_to.ensures in
    let is : c.as_bytes.result.now ≡ told.0 ++ codes "\n" = search rules in
    λ e. breaks-told g.E.Engine.tells g.E.Engine.is_bad c.args.engine.now c.reply_to.new.engine c.args.number c.args.line.now
    (g.W.Write.contents c.args.output.now) (g.W.Write.contents c.write_line.new.output) told.0 _ told.2 is (rw e at c.write_line.ensures.part)
