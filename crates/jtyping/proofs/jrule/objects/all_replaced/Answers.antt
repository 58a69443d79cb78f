use Rattle.jtyping.proofs.JruleProofs.TypeSubstitution.{all_named_at}
use Rattle.jtyping.proofs.jrule.objects.all_replaced.Goals as goal

pub returns : goal.returns
returns c = all_named_at c.args.p.now c.args.it c.args.new c.args.locals c.all_swapped.result c.all_swapped.ensures
