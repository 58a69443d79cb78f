use Rattle.std.proofs.Common.{reverse, ap, ◌∙◌}
use Rattle.jverify.proofs.ReversedLists.{in_order}
use Rattle.jverify.proofs.method.in_order.Goals as goal

pub returns : goal.returns
returns c = in_order c.args.p.now c.from_vec.result c.args.params (c.from_vec.ensures ∙ c.reverse.ensures.items ∙ ap reverse c.into_vec-all.ensures)
