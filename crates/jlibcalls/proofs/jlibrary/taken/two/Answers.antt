use Rattle.std.proofs.Common.{◌≡◌, false, nat_eq, rules}
use Rattle.jlibcalls.proofs.JlibraryProofs.Operands.{two_else}
use Rattle.jlibcalls.proofs.jlibrary.taken.two.Goals as goal

pub returns-then-count-ne2 : goal.returns-then-count-ne2
returns-then-count-ne2 g c =
    let other : nat_eq c.args.count 2 ≡ false = search rules in
    two_else c.args.count c.args.frames.now.newest.operands c.requires other
