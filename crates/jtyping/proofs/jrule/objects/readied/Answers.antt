use Rattle.jresolution.specs.declared.juses.types.TypeRef.TheVariants as refs
use Rattle.jtyping.proofs.JruleProofs.TypeSubstitution.{all_named_at, same_frame}
use Rattle.jtyping.proofs.jrule.objects.readied.Goals as goal

pub returns : goal.returns
returns c =
    same_frame _ _ _ _ c.args.flag c.all_replaced.ensures
    (all_named_at c.args.p.now c.args.it (refs.Object c.args.class) c.args.f.stack c.all_swapped.result c.all_swapped.ensures)
