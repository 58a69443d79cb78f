use Rattle.std.proofs.Common.{◌≡◌, drop, fold}
use Rattle.jperm.specs.PermissionKeys.{stepped, text_key}
use Rattle.jperm.proofs.chains.text_key.Given as goal

abbrev pub invariant-loop-unit : goal.invariant-loop-unit
invariant-loop-unit l = fold stepped l.key (drop l.unit-index l.text) ≡ text_key l.kind l.text
