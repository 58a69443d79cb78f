-- How the member of a reference is looked for, by the kind of its entry (JVMS 5.4.3).
use Rattle.std.specs.Prelude.{ℕ, List}
use Rattle.jresolution.specs.jprogram.ProgramClasses.{Program}
use Rattle.jresolution.specs.jprogram.MemberResolution.{LookUp, resolve_field, resolve_method}
use Rattle.jlinking.specs.declared.jreferring.judged.MemberUse.{MemberUse}
use Rattle.jlinking.specs.declared.jreferring.judged.Sort.{Sort}
use Rattle.jlinking.specs.declared.jreferring.judged.Sort.TheVariants as sort
use Rattle.jlinking.specs.jreferring.ReferenceUses.{member_use}

abbrev pub look_by : Program → Sort → LookUp
look_by p sort.Field = resolve_field p
look_by p sort.Method = resolve_method p
look_by p sort.InterfaceMethod = resolve_method p

-- a reference by its texts
unfoldable pub named_use : Program → List ℕ → Sort → List ℕ → List ℕ → List ℕ → MemberUse
named_use p from kind owner name desc = member_use p from kind (look_by p kind owner name desc) owner name desc
