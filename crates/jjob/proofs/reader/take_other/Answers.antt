use Rattle.std.proofs.Common.{◌∙◌, sym}
use Rattle.jjob.specs.Jobs.{said_by}
use Rattle.jjob.proofs.JobParser.{takes_said, takes_too_much}
use Rattle.jjob.proofs.reader.take_other.Goals as goal

pub returns-then-is_too_much : goal.returns-then-is_too_much
returns-then-is_too_much c = λ lines is.
    let says = sym c.in_ok-said.ensures ∙ c.in-Some.is in
    let much = sym c.is_too_much.ensures ∙ c.if-is_too_much.true in
    takes_too_much lines c.args.line.now c.in-Some.said c.args.told.now c.requires.kept says much is

pub returns : goal.returns
returns c = λ lines is.
    let says = sym c.in_ok-said.ensures ∙ c.in-Some.is in
    takes_said lines c.args.line.now c.in-Some.said c.args.told.now c.add.new.self c.requires.kept says
    (sym c.is_too_much.ensures ∙ c.if-is_too_much.false) is (c.in_ok-add.ensures (said_by lines) is)
