use Rattle.std.specs.Prelude.{[], take}
use Rattle.jlib.specs.declared.calls.StringCall.TheVariants as calls
use Rattle.jsemantics.specs.jmachine.TextCalls.{string}
use Rattle.jlibcalls.proofs.JlibraryProofs.Dispatch.{none_does, one_does}
use Rattle.jlibcalls.proofs.JlibraryProofs.ArityMismatches.{no_length}
use Rattle.jlibcalls.proofs.jlibrary.texts.string_length.Goals as goal

pub returns-in-None : goal.returns-in-None
returns-in-None g c shapes =
    none_does (λ s values. string s calls.Length values) (take c.args.count c.args.frames.now.newest.operands) (λ s. no_length s (take c.args.count c.args.frames.now.newest.operands) c.in-None.ensures) shapes c.args.heap.now

pub returns-in-Some : goal.returns-in-Some
returns-in-Some g c shapes =
    one_does (λ s values. string s calls.Length values) (take c.args.count c.args.frames.now.newest.operands) c.in-Some.text c.in-Some.ensures shapes c.args.heap.now c.args.heap.now _ []
    (λ p things constants. c.length.ensures p shapes things constants)
