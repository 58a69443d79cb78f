use Rattle.std.proofs.Common.{◌≡◌, drop}
use Rattle.jparts.specs.jpool.ClassNames.{is_class_name}
use Rattle.jparts.proofs.JpoolProofs.NameScans.{goes_on}
use Rattle.jparts.proofs.jpool.names.is_class_name.Given as goal

abbrev pub invariant-loop-b : goal.invariant-loop-b
invariant-loop-b l = goes_on l.begun (drop l.b-index l.text) ≡ is_class_name l.text
