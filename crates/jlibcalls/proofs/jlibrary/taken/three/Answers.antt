use Rattle.std.proofs.Common.{◌≡◌, false, nat_eq, rules}
use Rattle.jlibcalls.proofs.JlibraryProofs.Operands.{three_else}
use Rattle.jlibcalls.proofs.jlibrary.taken.three.Goals as goal

pub returns-then-count-ne3 : goal.returns-then-count-ne3
returns-then-count-ne3 g c =
    let other : nat_eq c.args.count 3 ≡ false = search rules in
    three_else c.args.count c.args.frames.now.newest.operands c.requires other
