use Rattle.std.proofs.Common.{◌≡◌, drop}
use Rattle.jground.specs.jbase.FirstFaults.{first_some}
use Rattle.jclass.specs.MemberFormat.{body_of}
use Rattle.jresolution.specs.jprogram.ClassFileParts.{code_of}
use Rattle.jmoveclass.proofs.body.code_in.Given as goal

abbrev pub invariant-loop-attribute : goal.invariant-loop-attribute
invariant-loop-attribute l = first_some body_of (drop l.attribute-index l.method.attributes) ≡ code_of l.method
