use Rattle.std.proofs.Common.{◌≡◌, ◌-◌, sym, arith}
use Rattle.jparts.specs.jpool.PoolEntries.{size}
use Rattle.jparts.proofs.JpoolProofs.PoolLaws.{fault_found, fault_later, fault_none}
use Rattle.jparts.proofs.jpool.judge.first_fault_of.Goals as goal

pub returns-in-Some : goal.returns-in-Some
returns-in-Some g c = fault_found (g.T.EntryTest.faults c.args.test.now) c.loop-one.left c.loop-one.one-index c.one-item.result c.args.entries.now c.in-Some.kind _ c.loop-one-test.true c.one-item.is c.in-Some.ensures c.loop-one.invariant

pub loop-one-preserved : goal.loop-one-preserved
loop-one-preserved g c =
    let more : c.saturating_sub-left.result ≡ c.loop-one.left - size c.one-item.result = rw (sym c.size_of.ensures) c.saturating_sub-left.ensures in
    fault_later (g.T.EntryTest.faults c.args.test.now) c.loop-one.left c.saturating_sub-left.result c.loop-one.one-index c.one-item.result c.args.entries.now _ c.loop-one-test.true c.one-item.is c.in_default.ensures more c.loop-one.invariant

pub returns : goal.returns
returns g c = fault_none (g.T.EntryTest.faults c.args.test.now) c.loop-one.left c.loop-one.one-index c.args.entries.now _ (omega arith) c.loop-one.invariant
