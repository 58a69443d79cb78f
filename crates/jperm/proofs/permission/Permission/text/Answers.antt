use Rattle.std.proofs.Common.{◌++◌, ◌<◌, ◌+◌, List, ℕ, arith, drop, ap, ◌∙◌}
use Rattle.jperm.specs.PermissionTexts.{parts}
use Rattle.jperm.proofs.TextParts.{in_a_row, part_more, parts_join}
use Rattle.jperm.proofs.permission.Permission.text.Goals as goal

pub loop-at-init : goal.loop-at-init
loop-at-init c = ap (λ (front : List ℕ). front ++ in_a_row (parts c.args.self.now)) c.new-text.ensures.items ∙ parts_join c.args.self.now

pub loop-at-preserved : goal.loop-at-preserved
loop-at-preserved c =
    let lt : c.loop-at.at < 11 = omega arith in
    ap (λ (front : List ℕ). front ++ in_a_row (drop (c.loop-at.at + 1) (parts c.args.self.now))) c.in_ok-extend_from_slice.ensures.items
    ∙ part_more c.args.self.now c.loop-at.at c.loop-at.text.items c.part.result.now lt c.part.ensures c.loop-at.invariant
