use Rattle.std.proofs.Common.{◌≡◌, drop}
use Rattle.std.specs.List.{list_any}
use Rattle.jtyping.specs.jrule.TypeSubstitution.{is_for}
use Rattle.jtyping.proofs.jrule.unready.Unready.is_among.Given as goal

abbrev pub invariant-loop-t : goal.invariant-loop-t
invariant-loop-t l = list_any (is_for l.self) (drop l.t-index l.types) ≡ list_any (is_for l.self) l.types
