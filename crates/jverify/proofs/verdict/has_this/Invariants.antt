use Rattle.std.proofs.Common.{◌≡◌, drop}
use Rattle.std.specs.List.{list_any}
use Rattle.jtyping.specs.jrule.TypeSubstitution.{is_this}
use Rattle.jverify.proofs.verdict.has_this.Given as goal

abbrev pub invariant-loop-kind : goal.invariant-loop-kind
invariant-loop-kind l = list_any is_this (drop l.kind-index l.values) ≡ list_any is_this l.values
