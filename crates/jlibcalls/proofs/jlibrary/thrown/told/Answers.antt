use Rattle.std.specs.Prelude.{[], take}
use Rattle.jlib.specs.declared.calls.ThrownInit.TheVariants as given
use Rattle.jsemantics.specs.jmachine.Throwables.{init}
use Rattle.jlibcalls.proofs.JlibraryProofs.Dispatch.{none_does, two_does, two_receives}
use Rattle.jlibcalls.proofs.JlibraryProofs.ArityMismatches.{no_told}
use Rattle.jlibcalls.proofs.jlibrary.thrown.told.Goals as goal

pub returns-in-None-clause-row : goal.returns-in-None-clause-row
returns-in-None-clause-row g c =
    none_does (λ s values. init s given.Message values) (take c.args.count c.args.frames.now.newest.operands) (λ s. no_told s (take c.args.count c.args.frames.now.newest.operands) c.in-None.ensures) c.args.shapes.now c.args.heap.now

pub returns-in-Some-clause-row : goal.returns-in-Some-clause-row
returns-in-Some-clause-row g c =
    two_does (λ s values. init s given.Message values) (take c.args.count c.args.frames.now.newest.operands) c.in-Some.text c.in-Some.thrown c.in-Some.ensures c.args.shapes.now c.args.heap.now c.init_message.new.heap _ [] c.init_message.ensures.row

pub init_message-requires-clause-cell : goal.init_message-requires-clause-cell
init_message-requires-clause-cell g c =
    c.requires.cell c.in-Some.thrown (two_receives (take c.args.count c.args.frames.now.newest.operands) c.in-Some.text c.in-Some.thrown c.in-Some.ensures)
