use Rattle.std.specs.Prelude.{[], take}
use Rattle.jsemantics.specs.jmachine.Throwables.{message}
use Rattle.jlibcalls.proofs.JlibraryProofs.Dispatch.{none_does, one_does}
use Rattle.jlibcalls.proofs.JlibraryProofs.ArityMismatches.{no_message}
use Rattle.jlibcalls.proofs.jlibrary.thrown.get_message.Goals as goal

pub returns-in-None : goal.returns-in-None
returns-in-None g c =
    none_does (λ s values. message s values) (take c.args.count c.args.frames.now.newest.operands) (λ s. no_message s (take c.args.count c.args.frames.now.newest.operands) c.in-None.ensures) c.args.shapes.now c.args.heap.now

pub returns-in-Some : goal.returns-in-Some
returns-in-Some g c =
    one_does (λ s values. message s values) (take c.args.count c.args.frames.now.newest.operands) c.in-Some.thrown c.in-Some.ensures c.args.shapes.now c.args.heap.now c.args.heap.now _ [] c.message.ensures
