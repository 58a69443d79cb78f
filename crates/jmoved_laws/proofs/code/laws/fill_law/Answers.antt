use Rattle.jmoved_laws.proofs.CodeProofs.EntrySlots.{main_fills, runs_fill}
use Rattle.jmoved_laws.proofs.CodeProofs.CallSlots.{calls_fill}
use Rattle.jmoved_laws.proofs.code.laws.fill_law.Goals as goal

pub returns-clause-calls : goal.returns-clause-calls
returns-clause-calls g p is m callee at s by c operands t call to = calls_fill p is m callee at s by c operands t call to

pub returns-clause-runs : goal.returns-clause-runs
returns-clause-runs g p full x callee = runs_fill p full x callee

pub returns-clause-main : goal.returns-clause-main
returns-clause-main g p name m source h = main_fills p name m source h
