use Rattle.std.specs.Prelude.{take}
use Rattle.jlib.specs.declared.calls.BuilderCall.TheVariants as calls
use Rattle.jsemantics.specs.jmachine.TextCalls.{builder}
use Rattle.jlibcalls.proofs.JlibraryProofs.Dispatch.{none_does, one_did}
use Rattle.jlibcalls.proofs.JlibraryProofs.ArityMismatches.{no_built}
use Rattle.jlibcalls.proofs.jlibrary.texts.builder_text.Goals as goal

pub returns-in-None-clause-row : goal.returns-in-None-clause-row
returns-in-None-clause-row g c shapes =
    none_does (λ s values. builder s calls.ToString values) (take c.args.count c.args.frames.now.newest.operands) (λ s. no_built s (take c.args.count c.args.frames.now.newest.operands) c.in-None.ensures) shapes c.args.heap.now

pub returns-in-Some-clause-row : goal.returns-in-Some-clause-row
returns-in-Some-clause-row g c =
    one_did (λ s values. builder s calls.ToString values) (take c.args.count c.args.frames.now.newest.operands) c.built_text.result c.in-Some.builder c.in-Some.ensures c.args.heap.now c.built_text.new.heap c.built_text.ensures.row

pub built_text-requires-clause-cell : goal.built_text-requires-clause-cell
built_text-requires-clause-cell g c =
    c.requires.cells c.in-Some.builder
