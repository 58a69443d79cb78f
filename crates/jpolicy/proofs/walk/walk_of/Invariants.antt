use Rattle.std.proofs.Common.{◌≡◌, ◌-◌, length}
use Rattle.jpolicy.specs.ListWalks.{walk}
use Rattle.jpolicy.proofs.walk.walk_of.Given as goal

abbrev pub invariant-loop : goal.invariant-loop
invariant-loop g l = walk (g.W.Walk.ends l.by) (g.W.Walk.goes l.by) (length l.items - l.counter) l.state l.rest ≡ walk (g.W.Walk.ends l.by) (g.W.Walk.goes l.by) (length l.items) l.fn.first l.items
