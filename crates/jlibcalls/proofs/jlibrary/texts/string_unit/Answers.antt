use Rattle.std.specs.Prelude.{[], take}
use Rattle.jlib.specs.declared.calls.StringCall.TheVariants as calls
use Rattle.jsemantics.specs.jmachine.TextCalls.{string}
use Rattle.jlibcalls.proofs.JlibraryProofs.Dispatch.{none_does, two_does}
use Rattle.jlibcalls.proofs.JlibraryProofs.ArityMismatches.{no_unit}
use Rattle.jlibcalls.proofs.jlibrary.texts.string_unit.Goals as goal

pub returns-in-None : goal.returns-in-None
returns-in-None g c shapes =
    none_does (λ s values. string s calls.CharAt values) (take c.args.count c.args.frames.now.newest.operands) (λ s. no_unit s (take c.args.count c.args.frames.now.newest.operands) c.in-None.ensures) shapes c.args.heap.now

pub returns-in-Some : goal.returns-in-Some
returns-in-Some g c shapes =
    two_does (λ s values. string s calls.CharAt values) (take c.args.count c.args.frames.now.newest.operands) c.in-Some.index c.in-Some.text c.in-Some.ensures shapes c.args.heap.now c.args.heap.now _ []
    (c.unit_at.ensures shapes)
