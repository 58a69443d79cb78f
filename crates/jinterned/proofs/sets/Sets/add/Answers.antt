use Rattle.std.proofs.Common.{◌≡◌, ◌∙◌, List, [], Some, sym, ap, subst}
use Rattle.std.specs.Prelude.{IfOk, slice_get}
use Rattle.std.proofs.lemmas.Option.{get_or_from_slice_get}
use Rattle.jperm.specs.declared.permission.Permission.{Permission}
use Rattle.jctx.specs.PrivilegeLimits.{add_limits}
use Rattle.jinterned.proofs.LimitNumbers.{extends_itself}
use Rattle.jinterned.proofs.sets.Sets.add.Goals as goal

pub returns-in_err-limits-clause-more : goal.returns-in_err-limits-clause-more
returns-in_err-limits-clause-more c = extends_itself c.args.self.now

pub returns-clause-ok : goal.returns-clause-ok
returns-clause-ok c =
    subst (λ (l : List Permission). IfOk c.intern.result (λ m. slice_get c.intern.new.self m ≡ Some l))
    (c.in_ok-limits.ensures ∙ ap (λ (l : List Permission). add_limits l c.args.new.now) (sym (get_or_from_slice_get c.args.self.now c.args.n c.get.result.now [] c.get.ensures)))
    c.intern.ensures.ok
