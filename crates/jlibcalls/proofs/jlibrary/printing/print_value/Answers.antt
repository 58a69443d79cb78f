use Rattle.std.specs.Prelude.{take}
use Rattle.jsemantics.specs.jmachine.TextCalls.{print}
use Rattle.jlibcalls.proofs.JlibraryProofs.Dispatch.{none_does, print_does}
use Rattle.jlibcalls.proofs.JlibraryProofs.ArityMismatches.{no_print}
use Rattle.jlibcalls.proofs.jlibrary.printing.print_value.Goals as goal

pub returns-in-None : goal.returns-in-None
returns-in-None g c shapes =
    rw c.printed.ensures (none_does (λ s values. print s c.args.thread c.args.piece values) (take c.args.count c.args.frames.now.newest.operands) (λ s. no_print s c.args.thread c.args.piece (take c.args.count c.args.frames.now.newest.operands) c.in-None.ensures) shapes c.args.heap.now)

pub returns-in_ok-text-in-Some : goal.returns-in_ok-text-in-Some
returns-in_ok-text-in-Some g c shapes =
    rw c.printed-in-Some.ensures
    (print_does _ c.args.thread c.args.piece (take c.args.count c.args.frames.now.newest.operands) c.in-Some.value c.in-Some.stream c.in-Some.ensures c.in_ok-text-in-Some.text shapes c.args.heap.now c.in_ok-text-in-Some.ensures)
