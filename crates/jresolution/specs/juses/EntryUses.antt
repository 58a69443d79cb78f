-- The table of what the entries of a program's pools stand for.
use Rattle.jresolution.specs.jprogram.ProgramClasses.{Program}
use Rattle.jresolution.specs.declared.juses.uses.Uses.{Uses}
use Rattle.jresolution.specs.juses.PoolTables.{ArePartsKept}

-- A table is that of a program.
abbrev pub AreUses : Program → Uses → Type 0
AreUses p u = ArePartsKept p u.types p.parts u.parts
