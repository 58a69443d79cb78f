use Rattle.std.proofs.Common.{◌≡◌, drop, fold}
use Rattle.jperm.specs.PermissionChains.{looked}
use Rattle.jperm.specs.PermissionKeys.{keys_from, named_keys}
use Rattle.jperm.proofs.chains.look_named.Given as goal

abbrev pub invariant-loop-unit : goal.invariant-loop-unit
invariant-loop-unit l =
    fold (looked l.list l.chains l.asked) l.found (keys_from l.key (drop l.unit-index l.name))
    ≡ fold (looked l.list l.chains l.asked) l.fn.found (named_keys l.kind l.name)
