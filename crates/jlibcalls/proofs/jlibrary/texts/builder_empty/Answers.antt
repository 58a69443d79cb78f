use Rattle.std.specs.Prelude.{[], take}
use Rattle.jlib.specs.declared.calls.BuilderCall.TheVariants as calls
use Rattle.jsemantics.specs.jmachine.TextCalls.{builder}
use Rattle.jlibcalls.proofs.JlibraryProofs.Dispatch.{none_does, one_does}
use Rattle.jlibcalls.proofs.JlibraryProofs.ArityMismatches.{no_builder}
use Rattle.jlibcalls.proofs.jlibrary.texts.builder_empty.Goals as goal

pub returns-in-None-clause-row : goal.returns-in-None-clause-row
returns-in-None-clause-row g c shapes =
    none_does (λ s values. builder s calls.Init values) (take c.args.count c.args.frames.now.newest.operands) (λ s. no_builder s (take c.args.count c.args.frames.now.newest.operands) c.in-None.ensures) shapes c.args.heap.now

pub returns-in-Some-clause-row : goal.returns-in-Some-clause-row
returns-in-Some-clause-row g c shapes =
    one_does (λ s values. builder s calls.Init values) (take c.args.count c.args.frames.now.newest.operands) c.in-Some.builder c.in-Some.ensures shapes c.args.heap.now c.builder_init.new.heap _ []
    (λ p things constants. c.builder_init.ensures.row p shapes things constants)

pub builder_init-requires-clause-cell : goal.builder_init-requires-clause-cell
builder_init-requires-clause-cell g c =
    c.requires.cells c.in-Some.builder
