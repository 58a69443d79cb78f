-- Rows without numbers.
use Rattle.std.proofs.Common.{ℕ, List, arith}
use Rattle.jresolution.specs.jprogram.ProgramClasses.{Program}
use Rattle.jlibcalls.specs.jconstants.StringConstants.{AreKnown, AreNone}

pub none_known : (p : Program) (constants : List (List ℕ × ℕ)) (rows : List (List ℕ)) → AreNone rows → AreKnown p constants rows
none_known p constants rows none class i some = let zero_is = none class i in absurd (omega (arith, zero_is, some))
