use Rattle.std.proofs.Common.{refl}
use Rattle.std.specs.Prelude.{take}
use Rattle.jlibcalls.proofs.JlibraryProofs.Operands.{one_is}
use Rattle.jlibcalls.proofs.JlibraryProofs.ArityMismatches.{no_object}
use Rattle.jlibcalls.proofs.jlibrary.thrown.object.Goals as goal

pub returns-in-None : goal.returns-in-None
returns-in-None g c s =
    rw (no_object s (take c.args.count c.args.frames.now.newest.operands) c.in-None.ensures) refl

pub returns-in-Some : goal.returns-in-Some
returns-in-Some g c s =
    rw (one_is (take c.args.count c.args.frames.now.newest.operands) c.in-Some.object c.in-Some.ensures) (c.object_init.ensures s)
