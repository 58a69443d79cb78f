use Rattle.jmove.specs.MethodExpansion.{push_int, call_static}
use Rattle.jmove.proofs.EmittedLines.{two_put}
use Rattle.jmove.proofs.Sizes.{push_size}
use Rattle.jmove.proofs.emission.put_in_domain.Goals as goal

pub returns : goal.returns
returns c =
    two_put c.args.at 3 (push_int c.args.domain) (call_static c.args.reference) c.args.out.now.items c.put.new.out.items c.put-2.new.out.items c.put-2.result (push_size c.args.at c.args.domain)
    (rw c.push_int.ensures at c.in_ok-put.ensures) (rw c.call_static.ensures at c.put-2.ensures)
