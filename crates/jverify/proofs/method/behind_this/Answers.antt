use Rattle.std.proofs.Common.{◌∷◌, [], ◌++◌, reverse, ap, ◌∙◌}
use Rattle.jverify.proofs.ReversedLists.{behind_this}
use Rattle.jverify.proofs.method.behind_this.Goals as goal

pub returns : goal.returns
returns c =
    let pushed = c.in_ok-push.ensures.items ∙ ap (λ xs. xs ++ c.this_type.result ∷ []) c.into_vec-all.ensures in
    behind_this c.args.p.now c.from_vec.result c.args.params c.this_type.result _ (c.from_vec.ensures ∙ c.reverse.ensures.items ∙ ap reverse pushed) c.this_type.ensures
