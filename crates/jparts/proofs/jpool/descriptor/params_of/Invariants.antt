use Rattle.std.proofs.Common.{◌≡◌, ◌-◌, length}
use Rattle.jparts.specs.jpool.Descriptors.{params_at}
use Rattle.jparts.proofs.JpoolProofs.Params.{behind}
use Rattle.jparts.proofs.jpool.descriptor.params_of.Given as goal

abbrev pub invariant-loop : goal.invariant-loop
invariant-loop l = behind l.params (params_at (length l.text - l.counter) l.rest) ≡ params_at (length l.text) l.text
