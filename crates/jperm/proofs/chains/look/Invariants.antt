use Rattle.std.proofs.Common.{◌≡◌, ◌-◌, fold, length}
use Rattle.jperm.specs.PermissionChains.{chain, looked, noted_at}
use Rattle.jperm.proofs.chains.look.Given as goal

abbrev pub invariant-loop-step : goal.invariant-loop-step
invariant-loop-step l =
    (l.steps ≡ length l.chains.older)
    × (fold (noted_at l.asked l.list) l.found (chain l.chains.older (l.steps - l.step) l.at) ≡ looked l.list l.chains l.asked l.fn.found l.key)
