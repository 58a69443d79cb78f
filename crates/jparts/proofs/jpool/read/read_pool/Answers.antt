use Rattle.std.proofs.Common.{◌≡◌, ◌+◌, List, Ok, drop, length, sym, ap, ◌∙◌, arith}
use Rattle.jground.specs.jbase.MemoryFailures.{Fails}
use Rattle.jground.proofs.JformatProofs.FaultOffsets.{fails_at}
use Rattle.jparts.specs.declared.jpool.entry.Entry.{Entry}
use Rattle.jparts.specs.jpool.ConstantPools.{pool}
use Rattle.jparts.proofs.JpoolProofs.PoolLaws.{found_at, shorter_at, within_at, one_reading, stopped}
use Rattle.jparts.proofs.jpool.read.read_pool.Goals as goal

pub overflow_sub-result : goal.overflow_sub-result
overflow_sub-result c =
    let given : pool.read (drop c.args.at c.args.bytes.now) ≡ Ok (c.in-Ok.pool, c.in-Ok.rest.now) = rw c.behind.ensures at c.in-Ok.ensures in
    shorter_at c.args.bytes.now c.args.at (c.in-Ok.pool, c.in-Ok.rest.now) given

pub returns-in-Ok-clause-found : goal.returns-in-Ok-clause-found
returns-in-Ok-clause-found c =
    let given : pool.read (drop c.args.at c.args.bytes.now) ≡ Ok (c.in-Ok.pool, c.in-Ok.rest.now) = rw c.behind.ensures at c.in-Ok.ensures in
    let found = found_at c.args.bytes.now c.args.at c.in-Ok.pool c.in-Ok.rest.now (λ i. omega (arith, c.type_inv.bytes i)) given in
    (found.spelled, found.place)

pub returns-in-Ok-clause-only : goal.returns-in-Ok-clause-only
returns-in-Ok-clause-only c = λ entries rest s.
    let given : pool.read (drop c.args.at c.args.bytes.now) ≡ Ok (c.in-Ok.pool, c.in-Ok.rest.now) = rw c.behind.ensures at c.in-Ok.ensures in
    let found = found_at c.args.bytes.now c.args.at c.in-Ok.pool c.in-Ok.rest.now (λ i. omega (arith, c.type_inv.bytes i)) given in
    let same = one_reading (drop c.args.at c.args.bytes.now) c.in-Ok.rest.now rest c.in-Ok.pool entries given s in
    ap (λ (es : List Entry). Ok (es, c.args.at + length (pool.spell es))) (sym same) ∙ ap (λ n. Ok (c.in-Ok.pool, n)) (sym found.place)

pub returns-in-Ok-clause-exact : goal.returns-in-Ok-clause-exact
returns-in-Ok-clause-exact c =
    let given : pool.read (drop c.args.at c.args.bytes.now) ≡ Ok (c.in-Ok.pool, c.in-Ok.rest.now) = rw c.behind.ensures at c.in-Ok.ensures in
    (found_at c.args.bytes.now c.args.at c.in-Ok.pool c.in-Ok.rest.now (λ i. omega (arith, c.type_inv.bytes i)) given).read

pub returns-in-Err-clause-exact : goal.returns-in-Err-clause-exact
returns-in-Err-clause-exact c =
    let given : Fails c.in-Err.stop (pool.read (drop c.args.at c.args.bytes.now)) = rw c.behind.ensures at c.in-Err.ensures in
    rw c.stop_at.ensures (fails_at c.args.bytes.now c.in-Err.stop (pool.read (drop c.args.at c.args.bytes.now)) (within_at c.args.bytes.now c.args.at) given)

pub returns-in-Err-clause-only : goal.returns-in-Err-clause-only
returns-in-Err-clause-only c = λ entries rest s.
    let given : Fails c.in-Err.stop (pool.read (drop c.args.at c.args.bytes.now)) = rw c.behind.ensures at c.in-Err.ensures in
    rw c.stop_at.ensures (stopped c.args.bytes.now c.args.at c.in-Err.stop entries rest (entries, c.args.at + length (pool.spell entries)) given s)
