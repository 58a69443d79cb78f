use Rattle.std.specs.Prelude.{take}
use Rattle.std.proofs.Common.{Some, refl}
use Rattle.jlibcalls.proofs.JlibraryProofs.Operands.{one_is}
use Rattle.jlibcalls.proofs.JlibraryProofs.Dispatch.{prints}
use Rattle.jlibcalls.proofs.JlibraryProofs.ArityMismatches.{no_line}
use Rattle.jlibcalls.proofs.jlibrary.printing.print_nothing.Goals as goal

pub returns-in-None : goal.returns-in-None
returns-in-None g c s =
    rw (c.printed.ensures, no_line s c.args.thread (take c.args.count c.args.frames.now.newest.operands) c.in-None.ensures) refl

pub returns-in-Some : goal.returns-in-Some
returns-in-Some g c s =
    rw (c.printed-in-Some.ensures, one_is (take c.args.count c.args.frames.now.newest.operands) c.in-Some.stream c.in-Some.ensures) (prints c.args.thread (Some c.print_end.result) s _ (c.print_end.ensures s c.args.thread c.in-Some.stream))
