use Rattle.std.specs.Prelude.{take}
use Rattle.jlib.specs.declared.calls.StringCall.TheVariants as calls
use Rattle.jsemantics.specs.jmachine.TextCalls.{string}
use Rattle.jlibcalls.proofs.JlibraryProofs.Dispatch.{none_does, two_did}
use Rattle.jlibcalls.proofs.JlibraryProofs.ArityMismatches.{no_concat}
use Rattle.jlibcalls.proofs.jlibrary.texts.string_concat.Goals as goal

pub returns-in-None-clause-row : goal.returns-in-None-clause-row
returns-in-None-clause-row g c shapes =
    none_does (λ s values. string s calls.Concat values) (take c.args.count c.args.frames.now.newest.operands) (λ s. no_concat s (take c.args.count c.args.frames.now.newest.operands) c.in-None.ensures) shapes c.args.heap.now

pub returns-in-Some-clause-row : goal.returns-in-Some-clause-row
returns-in-Some-clause-row g c =
    two_did (λ s values. string s calls.Concat values) (take c.args.count c.args.frames.now.newest.operands) c.concat.result c.in-Some.more c.in-Some.text c.in-Some.ensures c.args.heap.now c.concat.new.heap c.concat.ensures.row
