use Rattle.std.proofs.Common.{List, refl, subst, sym}
use Rattle.joutput.specs.jio.ShelfFiles.{File}
use Rattle.jshow.specs.CommandAnswers.{Answer, Answers}
use Rattle.jtop.specs.jdriver.Answers.{Stores, answer}
use Rattle.jtop.proofs.JdriverProofs.JobCreation.{made_all, made_is, made_some, no_file_fault, no_files, not_both, sized}
use Rattle.jtop.proofs.JdriverProofs.StoredFiles.{stores_nothing}
use Rattle.jtop.proofs.JdriverProofs.CommandAnswers.{own_status}
use Rattle.jtop.proofs.JdriverProofs.GeneratedAnswers.{command_status}
use Rattle.jtop.proofs.jdriver.top.dispatch.Goals as goal

pub show_made-requires-clause-least : goal.show_made-requires-clause-least
show_made-requires-clause-least g c = (sized c.args.command.now c.in-Some.seed c.in-Some.size c.in-Some.ensures.some c.requires).0

pub show_made-requires-clause-most : goal.show_made-requires-clause-most
show_made-requires-clause-most g c = (sized c.args.command.now c.in-Some.seed c.in-Some.size c.in-Some.ensures.some c.requires).1

pub do_task-requires : goal.do_task-requires
do_task-requires g c = c.in-None.ensures.none

pub returns-in-Some-clause-answer : goal.returns-in-Some-clause-answer
returns-in-Some-clause-answer g c = λ files told.
    subst (λ (a : Answer). Answers a c.show_made.result (g.K.Sink.out c.args.out.now) (g.K.Sink.out c.show_made.new.out))
    (sym (made_is c.args.command.now c.in-Some.seed c.in-Some.size c.in-Some.ensures.some files)) c.show_made.ensures.answer

pub returns-in-Some-clause-passes : goal.returns-in-Some-clause-passes
returns-in-Some-clause-passes g c = λ files told.
    made_some c.args.command.now c.in-Some.seed c.in-Some.size c.in-Some.ensures.some files c.show_made.result (g.K.Sink.out c.args.out.now) (g.K.Sink.out c.show_made.new.out)

pub returns-in-Some-clause-whole : goal.returns-in-Some-clause-whole
returns-in-Some-clause-whole g c = λ files told.
    made_all c.args.command.now c.in-Some.seed c.in-Some.size c.in-Some.ensures.some files c.show_made.result (g.K.Sink.out c.args.out.now) (g.K.Sink.out c.show_made.new.out)

pub returns-in-Some-clause-files : goal.returns-in-Some-clause-files
returns-in-Some-clause-files g c = λ files told.
    subst (λ (fs : List File). Stores fs c.show_made.result (g.S.Shelf.held c.args.shelf.now) (g.S.Shelf.held c.args.shelf.now))
    (sym (no_files c.args.command.now c.in-Some.seed c.in-Some.size c.in-Some.ensures.some files))
    (stores_nothing c.show_made.result (g.S.Shelf.held c.args.shelf.now) (g.S.Shelf.held c.args.shelf.now) refl)

pub returns-in-Some-clause-read : goal.returns-in-Some-clause-read
returns-in-Some-clause-read g c = λ is. absurd (c.show_made.ensures.read is)

pub returns-in-Some-clause-store : goal.returns-in-Some-clause-store
returns-in-Some-clause-store g c = λ is. absurd (c.show_made.ensures.store is)

pub returns-in-Some-clause-complete : goal.returns-in-Some-clause-complete
returns-in-Some-clause-complete g c = λ calm files status told is.
    own_status (answer c.args.command.now files) c.show_made.result status (g.K.Sink.out c.args.out.now) (g.K.Sink.out c.show_made.new.out)
    (returns-in-Some-clause-answer g c files told) is c.show_made.ensures.read c.show_made.ensures.store (λ w. calm.2 (c.show_made.ensures.cause w))

pub returns-in-Some-clause-made : goal.returns-in-Some-clause-made
returns-in-Some-clause-made g c = λ makes. no_file_fault c.show_made.result c.show_made.ensures.read c.show_made.ensures.store

pub returns-in-None-clause-made : goal.returns-in-None-clause-made
returns-in-None-clause-made g c = λ makes. not_both c.args.command.now c.in-None.ensures.none makes

-- where it reads files
pub returns-in-None-clause-answer : goal.returns-in-None-clause-answer
returns-in-None-clause-answer g c = λ files over. c.do_task.ensures.answer files (over c.in-None.ensures.none)

pub returns-in-None-clause-files : goal.returns-in-None-clause-files
returns-in-None-clause-files g c = λ files over. c.do_task.ensures.files files (over c.in-None.ensures.none)

pub returns-in-None-clause-complete : goal.returns-in-None-clause-complete
returns-in-None-clause-complete g c = λ calm files status over is. c.do_task.ensures.complete calm files status (over c.in-None.ensures.none) is

-- ---- what is so of each run in the pass form, whatever is answered

pub returns-in-Some-clause-agrees : goal.returns-in-Some-clause-agrees
returns-in-Some-clause-agrees g c = λ files bytes. c.passed_law.ensures.agrees c.args.command.now files bytes

pub returns-in-Some-clause-checked : goal.returns-in-Some-clause-checked
returns-in-Some-clause-checked g c = λ files bytes. c.passed_law.ensures.checked c.args.command.now files bytes

pub returns-in-Some-clause-unstuck : goal.returns-in-Some-clause-unstuck
returns-in-Some-clause-unstuck g c = λ files bytes. c.passed_law.ensures.unstuck c.args.command.now files bytes

pub returns-in-None-clause-agrees : goal.returns-in-None-clause-agrees
returns-in-None-clause-agrees g c = λ files bytes. c.passed_law.ensures.agrees c.args.command.now files bytes

pub returns-in-None-clause-checked : goal.returns-in-None-clause-checked
returns-in-None-clause-checked g c = λ files bytes. c.passed_law.ensures.checked c.args.command.now files bytes

pub returns-in-None-clause-unstuck : goal.returns-in-None-clause-unstuck
returns-in-None-clause-unstuck g c = λ files bytes. c.passed_law.ensures.unstuck c.args.command.now files bytes

-- ---- what reads no file has a status

pub returns-in-Some-clause-status : goal.returns-in-Some-clause-status
returns-in-Some-clause-status g c = command_status c.made_law.ensures c.args.command.now c.requires

pub returns-in-None-clause-status : goal.returns-in-None-clause-status
returns-in-None-clause-status g c = command_status c.made_law.ensures c.args.command.now c.requires
