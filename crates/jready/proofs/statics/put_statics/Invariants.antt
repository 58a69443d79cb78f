use Rattle.std.proofs.Common.{List, ◌++◌, take}
use Rattle.jclass.specs.declared.class.MemberInfo.{MemberInfo}
use Rattle.jresolution.specs.declared.jprogram.part.CodePart.{CodePart}
use Rattle.jready.specs.Statics.{AreStatics}
use Rattle.jready.proofs.StaticDefaults.{own}
use Rattle.jready.proofs.statics.put_statics.Given as goal

abbrev pub invariant-loop-field : goal.invariant-loop-field
invariant-loop-field l = (before : List (CodePart × MemberInfo)) → AreStatics l.p before l.fn.rows
    → AreStatics l.p (before ++ own l.part (take l.field-index l.part.class.fields)) l.rows
