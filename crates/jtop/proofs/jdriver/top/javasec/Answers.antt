use Rattle.std.proofs.Common.{◌≡◌, ◌∙◌, Option, Some, ap, sym, subst, true}
use Rattle.jjob.specs.declared.command.Command.{Command}
use Rattle.jjob.specs.CommandWords.{command as command_of, words_of}
use Rattle.jshow.specs.CommandAnswers.{Answers}
use Rattle.jtop.specs.jdriver.Answers.{Calm, Complete, NoFileFault, Over, Stores, answer_to, any_makes, any_reads}
use Rattle.jtop.specs.jdriver.Headline.{AnswersAll, AnswersSome}
use Rattle.jtop.proofs.JdriverProofs.JobSizes.{words_sized}
use Rattle.jtop.proofs.JdriverProofs.CommandAnswers.{some_is}
use Rattle.jtop.proofs.JdriverProofs.GeneratedAnswers.{words_status}
use Rattle.jtop.proofs.jdriver.top.javasec.Goals as goal

pub returns-clause-answer : goal.returns-clause-answer
returns-clause-answer g c = λ files over.
    let a : command_of (words_of c.args.words.now) ≡ Some c.in-Ok.command = c.in-Ok.ensures in
    subst (λ (o : Option Command). Answers (answer_to o files) c.dispatch.result (g.K.Sink.out c.args.out.now) (g.K.Sink.out c.dispatch.new.out)) (sym a) (c.dispatch.ensures.answer files (λ reading. over (ap (λ (o : Option Command). any_reads o) a ∙ reading)))

pub returns-clause-files : goal.returns-clause-files
returns-clause-files g c = λ files over.
    let a : command_of (words_of c.args.words.now) ≡ Some c.in-Ok.command = c.in-Ok.ensures in
    subst (λ (o : Option Command). Stores (answer_to o files).files c.dispatch.result (g.S.Shelf.held c.args.shelf.now) (g.S.Shelf.held c.dispatch.new.shelf)) (sym a) (c.dispatch.ensures.files files (λ reading. over (ap (λ (o : Option Command). any_reads o) a ∙ reading)))

pub returns-clause-complete : goal.returns-clause-complete
returns-clause-complete g c =
    let a : command_of (words_of c.args.words.now) ≡ Some c.in-Ok.command = c.in-Ok.ensures in
    subst (λ (o : Option Command). Calm (g.S.Shelf.read_faults c.args.shelf.now) (g.S.Shelf.read_faults c.dispatch.new.shelf) (g.S.Shelf.write_faults c.args.shelf.now) (g.S.Shelf.write_faults c.dispatch.new.shelf) (g.K.Sink.faults c.args.out.now) (g.K.Sink.faults c.dispatch.new.out) → Complete (answer_to o) (Over (any_reads o) (g.S.Shelf.held c.args.shelf.now)) c.dispatch.result) (sym a) c.dispatch.ensures.complete

pub returns-clause-passes : goal.returns-clause-passes
returns-clause-passes g c = λ files one told is.
    let a : command_of (words_of c.args.words.now) ≡ Some c.in-Ok.command = c.in-Ok.ensures in
    let same : c.in-Ok.command ≡ one = some_is c.in-Ok.command one (sym a ∙ is) in
    subst (λ (x : Command). AnswersSome x files c.dispatch.result (g.K.Sink.out c.args.out.now) (g.K.Sink.out c.dispatch.new.out)) same
    (c.dispatch.ensures.passes files told)

pub returns-clause-whole : goal.returns-clause-whole
returns-clause-whole g c = λ files one told is.
    let a : command_of (words_of c.args.words.now) ≡ Some c.in-Ok.command = c.in-Ok.ensures in
    let same : c.in-Ok.command ≡ one = some_is c.in-Ok.command one (sym a ∙ is) in
    subst (λ (x : Command). AnswersAll x files c.dispatch.result (g.K.Sink.out c.args.out.now) (g.K.Sink.out c.dispatch.new.out)) same
    (c.dispatch.ensures.whole files told)

pub dispatch-requires : goal.dispatch-requires
dispatch-requires g c = words_sized (words_of c.args.words.now) c.in-Ok.command c.in-Ok.ensures

pub returns-clause-made : goal.returns-clause-made
returns-clause-made g c =
    subst (λ (o : Option Command). any_makes o ≡ true → NoFileFault c.dispatch.result) (sym c.in-Ok.ensures) c.dispatch.ensures.made

-- ---- what is so of each run in the pass form, whatever is answered

pub returns-clause-agrees : goal.returns-clause-agrees
returns-clause-agrees g c = λ files one bytes is. c.passed_law.ensures.agrees one files bytes

pub returns-clause-checked : goal.returns-clause-checked
returns-clause-checked g c = λ files one bytes is. c.passed_law.ensures.checked one files bytes

pub returns-clause-unstuck : goal.returns-clause-unstuck
returns-clause-unstuck g c = λ files one bytes is. c.passed_law.ensures.unstuck one files bytes

pub returns-in-Err-Usage-clause-agrees : goal.returns-in-Err-Usage-clause-agrees
returns-in-Err-Usage-clause-agrees g c = λ files one bytes is. c.passed_law.ensures.agrees one files bytes

pub returns-in-Err-Usage-clause-checked : goal.returns-in-Err-Usage-clause-checked
returns-in-Err-Usage-clause-checked g c = λ files one bytes is. c.passed_law.ensures.checked one files bytes

pub returns-in-Err-Usage-clause-unstuck : goal.returns-in-Err-Usage-clause-unstuck
returns-in-Err-Usage-clause-unstuck g c = λ files one bytes is. c.passed_law.ensures.unstuck one files bytes

pub returns-in-Err-Memory-clause-agrees : goal.returns-in-Err-Memory-clause-agrees
returns-in-Err-Memory-clause-agrees g c = λ files one bytes is. c.passed_law.ensures.agrees one files bytes

pub returns-in-Err-Memory-clause-checked : goal.returns-in-Err-Memory-clause-checked
returns-in-Err-Memory-clause-checked g c = λ files one bytes is. c.passed_law.ensures.checked one files bytes

pub returns-in-Err-Memory-clause-unstuck : goal.returns-in-Err-Memory-clause-unstuck
returns-in-Err-Memory-clause-unstuck g c = λ files one bytes is. c.passed_law.ensures.unstuck one files bytes

-- ---- what reads no file has a status

pub returns-clause-status : goal.returns-clause-status
returns-clause-status g c = words_status c.made_law.ensures (words_of c.args.words.now)

pub returns-in-Err-Usage-clause-status : goal.returns-in-Err-Usage-clause-status
returns-in-Err-Usage-clause-status g c = words_status c.made_law.ensures (words_of c.args.words.now)

pub returns-in-Err-Memory-clause-status : goal.returns-in-Err-Memory-clause-status
returns-in-Err-Memory-clause-status g c = words_status c.made_law.ensures (words_of c.args.words.now)
