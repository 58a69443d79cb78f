use Rattle.std.proofs.Common.{arith, ◌<◌, ◌≤◌, ◌≡◌, ◌+◌, ap, length, ◌∙◌}
use Rattle.std.specs.Prelude.{set, vec_len}
use Rattle.std.proofs.lemmas.Grind.{common_steps}
use Rattle.jtyping.specs.jrule.FilledLocals.{filled}
use Rattle.jtyping.proofs.JruleProofs.LocalPrefixes.{resized, set_behind, set_kept}
use Rattle.jtyping.proofs.jrule.kept.Locals.set.Goals as goal

pub returns-then-n-len-clause-ok : goal.returns-then-n-len-clause-ok
returns-then-n-len-clause-ok c =
    let kept = c.self.inside.items.items in
    let lt : c.args.n < length kept = grind (arith, common_steps, c.len.ensures, c.if-n-len.true) in
    set_kept kept c.self.inside.count c.args.n c.args.t lt ∙ ap (λ ts. set ts c.args.n c.args.t) c.self.view_is

pub returns-clause-ok : goal.returns-clause-ok
returns-clause-ok c =
    let kept = c.self.inside.items.items in
    let count = c.self.inside.count in
    let n = c.args.n in
    let le : length kept ≤ n = grind (arith, common_steps, c.len.ensures, c.if-n-len.false) in
    let within : n < count = grind (arith, common_steps, c.requires, c.self.view_is, c.self.invariant) in
    let same : vec_len c.self.inside.items ≡ length kept = grind (arith, common_steps) in
    let grown : c.resize.new.self.items ≡ filled kept (n + 1) = resized kept c.resize.new.self.items (n + 1) (vec_len c.self.inside.items) same (omega arith) c.in_ok-resize.ensures.items in
    ap (λ ts. filled (set ts n c.args.t) count) grown ∙ set_behind kept count n c.args.t le within ∙ ap (λ ts. set ts n c.args.t) c.self.view_is
