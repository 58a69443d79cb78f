use Rattle.std.proofs.Common.{◌∙◌, sym, ap, subst, Ok, Err, arith, List, Option}
use Rattle.joutput.specs.jio.ShelfFiles.{File}
use Rattle.jshow.specs.declared.status.Status.TheVariants.{OutOfMemory, ReadFault}
use Rattle.jshow.specs.CommandAnswers.{Answer, Answers}
use Rattle.jtasks.specs.declared.jstages.halt.Halt.{Halt}
use Rattle.jtasks.specs.jstages.Stages.{Refused}
use Rattle.jstore.proofs.StoredFiles.{front_same}
use Rattle.jtop.specs.jdriver.Answers.{Stores, answer, shown}
use Rattle.jtop.proofs.JdriverProofs.Headlines.{answers_all, answers_some, any_all, any_some, refused_all, refused_some, unread, unwritten}
use Rattle.jtop.proofs.JdriverProofs.StoredFiles.{stores_nothing}
use Rattle.jtop.proofs.JdriverProofs.CommandAnswers.{answer_is, own_status, no_fault}
use Rattle.jtop.proofs.jdriver.top.do_task.Goals as goal

pub returns-in-Ok-clause-answer : goal.returns-in-Ok-clause-answer
returns-in-Ok-clause-answer g c = λ files told. subst (λ (a : Answer). Answers a c.show-status.result (g.K.Sink.out c.args.out.now) (g.K.Sink.out c.show-status.new.out)) (sym (answer_is c.args.command.now files (Ok c.in-Ok.task) c.requires (c.in-Ok.ensures.value files told))) c.show-status.ensures.answer

pub returns-in-Ok-clause-files : goal.returns-in-Ok-clause-files
returns-in-Ok-clause-files g c = λ files told.
    let here : Stores (shown c.in-Ok.task).files c.show-status.result (g.S.Shelf.held c.args.shelf.now) (g.S.Shelf.held c.show-status.new.shelf) =
    subst (λ (o : Option (List File)). Stores (shown c.in-Ok.task).files c.show-status.result o (g.S.Shelf.held c.show-status.new.shelf)) c.in-Ok.ensures.held c.show-status.ensures.files in
    subst (λ (a : Answer). Stores a.files c.show-status.result (g.S.Shelf.held c.args.shelf.now) (g.S.Shelf.held c.show-status.new.shelf)) (sym (answer_is c.args.command.now files (Ok c.in-Ok.task) c.requires (c.in-Ok.ensures.value files told))) here

pub returns-in-Ok-clause-held : goal.returns-in-Ok-clause-held
returns-in-Ok-clause-held g c = λ quiet. c.show-status.ensures.held (c.in-Ok.ensures.kind ∙ quiet) ∙ c.in-Ok.ensures.held

pub returns-in-Ok-clause-stored : goal.returns-in-Ok-clause-stored
returns-in-Ok-clause-stored g c = λ quiet. c.show-status.ensures.stored (c.in-Ok.ensures.kind ∙ quiet) ∙ c.in-Ok.ensures.stored

pub returns-in-Ok-clause-read : goal.returns-in-Ok-clause-read
returns-in-Ok-clause-read g c = λ is. absurd (c.show-status.ensures.read is)

pub returns-in-Ok-clause-write : goal.returns-in-Ok-clause-write
returns-in-Ok-clause-write g c = c.show-status.ensures.cause

pub returns-in-Ok-clause-store : goal.returns-in-Ok-clause-store
returns-in-Ok-clause-store g c = λ s. omega (arith, c.show-status.ensures.store s, c.in-Ok.ensures.stored)

pub returns-in-Ok-clause-complete : goal.returns-in-Ok-clause-complete
returns-in-Ok-clause-complete g c = λ calm files status told is.
    own_status (answer c.args.command.now files) c.show-status.result status (g.K.Sink.out c.args.out.now) (g.K.Sink.out c.show-status.new.out) (returns-in-Ok-clause-answer g c files told) is c.show-status.ensures.read
    (λ s. calm.1 (returns-in-Ok-clause-store g c s)) (λ w. calm.2 (c.show-status.ensures.cause w))

pub returns-in-Err-Refused-clause-answer : goal.returns-in-Err-Refused-clause-answer
returns-in-Err-Refused-clause-answer g c = λ files told. subst (λ (a : Answer). Answers a c.show_refusal-status.result (g.K.Sink.out c.args.out.now) (g.K.Sink.out c.show_refusal-status.new.out)) (sym (answer_is c.args.command.now files (Err (Refused c.in-Err-Refused.refusal)) c.requires ((rw c.in-Err-Refused.field-0-is at c.in-Err-Refused.ensures.value) files told))) c.show_refusal-status.ensures.answer

pub returns-in-Err-Refused-clause-files : goal.returns-in-Err-Refused-clause-files
returns-in-Err-Refused-clause-files g c = λ files told. subst (λ (a : Answer). Stores a.files c.show_refusal-status.result (g.S.Shelf.held c.args.shelf.now) (g.S.Shelf.held c.task_of.new.shelf)) (sym (answer_is c.args.command.now files (Err (Refused c.in-Err-Refused.refusal)) c.requires ((rw c.in-Err-Refused.field-0-is at c.in-Err-Refused.ensures.value) files told))) (stores_nothing c.show_refusal-status.result (g.S.Shelf.held c.args.shelf.now) (g.S.Shelf.held c.task_of.new.shelf) c.in-Err-Refused.ensures.held)

pub returns-in-Err-Refused-clause-complete : goal.returns-in-Err-Refused-clause-complete
returns-in-Err-Refused-clause-complete g c = λ calm files status told is.
    own_status (answer c.args.command.now files) c.show_refusal-status.result status (g.K.Sink.out c.args.out.now) (g.K.Sink.out c.show_refusal-status.new.out) (returns-in-Err-Refused-clause-answer g c files told) is c.show_refusal-status.ensures.read
    c.show_refusal-status.ensures.store (λ w. calm.2 (c.show_refusal-status.ensures.cause w))

pub returns-in-Err-Read-clause-complete : goal.returns-in-Err-Read-clause-complete
returns-in-Err-Read-clause-complete g c = λ calm files status told is.
    absurd (no_fault (g.S.Shelf.read_faults c.args.shelf.now) (g.S.Shelf.read_faults c.task_of.new.shelf) c.args.command.now c.requires (g.S.Shelf.held c.args.shelf.now) files status told (c.in-Err-Read.ensures.cause (ap (λ (h : Halt). Err h) c.in-Err-Read.field-0-is)) calm.0 is)

pub returns-in-Err-Memory-clause-files : goal.returns-in-Err-Memory-clause-files
returns-in-Err-Memory-clause-files g c = λ files told. front_same (answer c.args.command.now files).files (g.S.Shelf.held c.args.shelf.now) (g.S.Shelf.held c.task_of.new.shelf) c.in-Err-Memory.ensures.held

pub returns-in-Ok-clause-passes : goal.returns-in-Ok-clause-passes
returns-in-Ok-clause-passes g c = λ files told.
    answers_some c.moved_laws.ensures.runs c.args.command.now files (c.in-Ok.ensures.classes files told) c.show-status.result (g.K.Sink.out c.args.out.now) (g.K.Sink.out c.show-status.new.out)
    (returns-in-Ok-clause-answer g c files told)

pub returns-in-Ok-clause-whole : goal.returns-in-Ok-clause-whole
returns-in-Ok-clause-whole g c = λ files told.
    answers_all c.moved_laws.ensures.runs c.args.command.now files (c.in-Ok.ensures.classes files told) c.show-status.result (g.K.Sink.out c.args.out.now) (g.K.Sink.out c.show-status.new.out)
    (returns-in-Ok-clause-answer g c files told)

pub returns-in-Err-Refused-clause-passes : goal.returns-in-Err-Refused-clause-passes
returns-in-Err-Refused-clause-passes g c = λ files told.
    refused_some c.args.command.now files c.in-Err-Refused.refusal c.show_refusal-status.result (g.K.Sink.out c.args.out.now) (g.K.Sink.out c.show_refusal-status.new.out)
    ((rw c.in-Err-Refused.field-0-is at c.in-Err-Refused.ensures.value) files told)

pub returns-in-Err-Refused-clause-whole : goal.returns-in-Err-Refused-clause-whole
returns-in-Err-Refused-clause-whole g c = λ files told.
    refused_all c.args.command.now files c.in-Err-Refused.refusal c.show_refusal-status.result (g.K.Sink.out c.args.out.now) (g.K.Sink.out c.show_refusal-status.new.out)
    ((rw c.in-Err-Refused.field-0-is at c.in-Err-Refused.ensures.value) files told)

pub returns-in-Err-Read-clause-passes : goal.returns-in-Err-Read-clause-passes
returns-in-Err-Read-clause-passes g c = λ files told.
    any_some c.args.command.now files ReadFault (g.K.Sink.out c.args.out.now) (g.K.Sink.out c.args.out.now) (unread (g.K.Sink.out c.args.out.now))

pub returns-in-Err-Read-clause-whole : goal.returns-in-Err-Read-clause-whole
returns-in-Err-Read-clause-whole g c = λ files told.
    any_all c.args.command.now files ReadFault (g.K.Sink.out c.args.out.now) (g.K.Sink.out c.args.out.now) (unread (g.K.Sink.out c.args.out.now))

pub returns-in-Err-Memory-clause-passes : goal.returns-in-Err-Memory-clause-passes
returns-in-Err-Memory-clause-passes g c = λ files told.
    any_some c.args.command.now files OutOfMemory (g.K.Sink.out c.args.out.now) (g.K.Sink.out c.args.out.now) (unwritten (g.K.Sink.out c.args.out.now))

pub returns-in-Err-Memory-clause-whole : goal.returns-in-Err-Memory-clause-whole
returns-in-Err-Memory-clause-whole g c = λ files told.
    any_all c.args.command.now files OutOfMemory (g.K.Sink.out c.args.out.now) (g.K.Sink.out c.args.out.now) (unwritten (g.K.Sink.out c.args.out.now))
