use Rattle.std.proofs.Common.{sym, ◌∙◌}
use Rattle.std.proofs.lemmas.Result.{IfOk-weaker}
use Rattle.jtyping.proofs.JruleProofs.TypeSubstitution.{made_anew, made_before}
use Rattle.jtyping.proofs.jrule.objects.make.Goals as goal

pub returns-then-has : goal.returns-then-has
returns-then-has c = made_before c.args.p.now c.args.most c.args.at c.args.f (sym c.has.ensures ∙ c.if-has.true)

pub returns : goal.returns
returns c =
    IfOk-weaker c.put.result _ _
    (λ r h. h ∙ made_anew c.args.p.now c.args.most c.args.at c.args.f _ (sym c.has.ensures ∙ c.if-has.false) c.all_replaced-locals.ensures) c.put.ensures
