use Rattle.std.proofs.Common.{◌≡◌, map, take}
use Rattle.jlinking.specs.jreferring.PoolEntryMeanings.{judge}
use Rattle.jlinking.specs.jreferring.PoolTextCache.{AreKnown}
use Rattle.jlinking.proofs.jreferring.entries.judge_all.Given as goal

abbrev pub invariant-loop-one : goal.invariant-loop-one
invariant-loop-one l =
    (l.table.items ≡ map (judge l.home.program.now l.home.from.now l.home.pool.now) (take l.one-index l.entries))
    × AreKnown l.home.program.now l.home.from.now l.home.pool.now l.known
