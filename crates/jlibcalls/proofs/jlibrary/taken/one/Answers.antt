use Rattle.std.proofs.Common.{◌≡◌, false, nat_eq, rules}
use Rattle.jlibcalls.proofs.JlibraryProofs.Operands.{one_else}
use Rattle.jlibcalls.proofs.jlibrary.taken.one.Goals as goal

pub returns-then-count-ne1 : goal.returns-then-count-ne1
returns-then-count-ne1 g c =
    let other : nat_eq c.args.count 1 ≡ false = search rules in
    one_else c.args.count c.args.frames.now.newest.operands c.requires other
