use Rattle.std.proofs.Common.{◌≡◌, drop}
use Rattle.std.specs.Prelude.{is_some}
use Rattle.jground.specs.jbase.FirstFaults.{first_some}
use Rattle.jclass.specs.MemberFormat.{body_of}
use Rattle.jresolution.specs.jprogram.ClassFileParts.{has_code}
use Rattle.jresolution.proofs.jprogram.parts.has_code.Given as goal

abbrev pub invariant-loop-attribute : goal.invariant-loop-attribute
invariant-loop-attribute l = is_some (first_some body_of (drop l.attribute-index l.method.attributes)) ≡ has_code l.method
