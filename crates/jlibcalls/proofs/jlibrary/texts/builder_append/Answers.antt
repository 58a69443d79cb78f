use Rattle.std.specs.Prelude.{take}
use Rattle.jlib.specs.declared.calls.BuilderCall.TheVariants as calls
use Rattle.jsemantics.specs.jmachine.TextCalls.{builder}
use Rattle.jlibcalls.proofs.JlibraryProofs.Dispatch.{none_does, two_did}
use Rattle.jlibcalls.proofs.JlibraryProofs.ArityMismatches.{no_append}
use Rattle.jlibcalls.proofs.jlibrary.texts.builder_append.Goals as goal

pub returns-in-None-clause-row : goal.returns-in-None-clause-row
returns-in-None-clause-row g c shapes =
    none_does (λ s values. builder s (calls.Append c.args.piece) values) (take c.args.count c.args.frames.now.newest.operands) (λ s. no_append s c.args.piece (take c.args.count c.args.frames.now.newest.operands) c.in-None.ensures) shapes c.args.heap.now

pub returns-in-Some-clause-row : goal.returns-in-Some-clause-row
returns-in-Some-clause-row g c =
    two_did (λ s values. builder s (calls.Append c.args.piece) values) (take c.args.count c.args.frames.now.newest.operands) c.append.result c.in-Some.value c.in-Some.builder c.in-Some.ensures c.args.heap.now c.append.new.heap c.append.ensures.row

pub append-requires-clause-cell : goal.append-requires-clause-cell
append-requires-clause-cell g c =
    c.requires.cells c.in-Some.builder
