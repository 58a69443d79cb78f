use Rattle.std.proofs.Common.{◌≡◌, ◌∙◌, ap, of_z, rules, to_z}
use Rattle.std.specs.Int.{w16, w32}
use Rattle.jrows.specs.jacts.RowOutcomes.{int_in}
use Rattle.jrows.proofs.JactsProofs.LocalInstructions.{increased_on}
use Rattle.jrows.proofs.jacts.locals.increment.Goals as goal

pub returns-clause-row : goal.returns-clause-row
returns-clause-row g c =
    let x_is : to_z w32 (of_z w32 c.in-Some.x) ≡ c.in-Some.x = search rules in
    let by_is : to_z w16 (of_z w16 c.args.by) ≡ c.args.by = search rules in
    let done = increased_on c.args.frames.now.newest c.args.n c.args.by c.in-Some.x (c.in-Some.ensures ∙ ap int_in c.local.ensures) in
    rw (c.go_on.ensures, c.set_local.ensures, c.increased.ensures, x_is, by_is) done
