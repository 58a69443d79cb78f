use Rattle.std.proofs.Common.{◌≡◌, ◌+◌, ◌≤◌, None, length, sym, ap, arith}
use Rattle.std.specs.Prelude.{IsTrue}
use Rattle.std.specs.List.{position}
use Rattle.jparts.specs.jpool.EntryLayouts.{laid, names_text}
use Rattle.jadder.specs.EntryInterning.{same}
use Rattle.jparts.proofs.JpoolProofs.PoolExtension.{pool_with}
use Rattle.jadder.proofs.NumberedPools.{least_with, numbered_with}
use Rattle.jadder.proofs.adder.Adder.append.Goals as goal

pub push-requires : goal.push-requires
push-requires c =
    let es = c.self.inside.pool in
    let few : length es + length (laid c.args.e) ≤ 65535 = omega (arith, ap length c.entries-i.ensures.same, c.width.ensures) in
    let named : IsTrue (names_text es c.args.e) = rw (← c.self.view_is) at c.requires.named in
    pool_with c.args.e es c.self.invariant.pool c.self.invariant.begun c.requires.fits named few

pub invariant_of-self-2 : goal.invariant_of-self-2
invariant_of-self-2 c =
    let es = c.self.inside.pool in
    let few : length es + length (laid c.args.e) ≤ 65535 = omega (arith, ap length c.entries-i.ensures.same, c.width.ensures) in
    let named : IsTrue (names_text es c.args.e) = rw (← c.self.view_is) at c.requires.named in
    let grown = pool_with c.args.e es c.self.invariant.pool c.self.invariant.begun c.requires.fits named few in
    let absent : position (same c.args.e) es ≡ None = rw (← c.self.view_is) at c.requires.absent in
    let len : length es ≡ length c.entries-i.result.now = ap length (sym c.entries-i.ensures.same) in
    rw c.in_ok-push.ensures.ok
    (numbered_with c.args.e es c.args.text c.self.inside.numbers c.reserve.new.self c.insert.new.self c.self.invariant grown c.requires.fits c.requires.text absent c.reserve.ensures.entries (rw len (rw c.unwrap.ensures at c.insert.ensures.entries)))

pub returns-clause-least : goal.returns-clause-least
returns-clause-least c =
    let es = c.self.inside.pool in
    let few : length es + length (laid c.args.e) ≤ 65535 = omega (arith, ap length c.entries-i.ensures.same, c.width.ensures) in
    let named : IsTrue (names_text es c.args.e) = rw (← c.self.view_is) at c.requires.named in
    let grown = pool_with c.args.e es c.self.invariant.pool c.self.invariant.begun c.requires.fits named few in
    let absent : position (same c.args.e) es ≡ None = rw (← c.self.view_is) at c.requires.absent in
    rw (c.in_ok-push.ensures.ok, c.entries-i.ensures.same) (least_with c.args.e es grown c.requires.fits absent)
