use Rattle.std.specs.Prelude.{take}
use Rattle.jlib.specs.declared.calls.BuilderCall.TheVariants as calls
use Rattle.jsemantics.specs.jmachine.TextCalls.{builder}
use Rattle.jlibcalls.proofs.JlibraryProofs.Dispatch.{none_does, two_did}
use Rattle.jlibcalls.proofs.JlibraryProofs.ArityMismatches.{no_text}
use Rattle.jlibcalls.proofs.jlibrary.texts.builder_holding.Goals as goal

pub returns-in-None-clause-row : goal.returns-in-None-clause-row
returns-in-None-clause-row g c shapes =
    none_does (λ s values. builder s calls.InitText values) (take c.args.count c.args.frames.now.newest.operands) (λ s. no_text s (take c.args.count c.args.frames.now.newest.operands) c.in-None.ensures) shapes c.args.heap.now

pub returns-in-Some-clause-row : goal.returns-in-Some-clause-row
returns-in-Some-clause-row g c =
    two_did (λ s values. builder s calls.InitText values) (take c.args.count c.args.frames.now.newest.operands) c.builder_of_text.result c.in-Some.text c.in-Some.builder c.in-Some.ensures c.args.heap.now c.builder_of_text.new.heap c.builder_of_text.ensures.row

pub builder_of_text-requires-clause-cell : goal.builder_of_text-requires-clause-cell
builder_of_text-requires-clause-cell g c =
    c.requires.cells c.in-Some.builder
