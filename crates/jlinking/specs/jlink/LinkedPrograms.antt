-- Which programs link (JVMS 5.4): those in which no rule of the four phases is broken, each of them looked for in all classes in order
-- before the next.
use Rattle.std.specs.Prelude.{◌≡◌, ◌≤◌, ℕ, Bool, true, ◌&&◌, IsTrue, List, [], ◌∷◌, length, Option, Some, None, nat_le, nat_lt}
use Rattle.jground.specs.jbase.FirstFaults.{or_else}
use Rattle.jresolution.specs.declared.jprogram.fault.LinkFault.{LinkFault}
use Rattle.jresolution.specs.declared.jprogram.part.CodePart.{CodePart}
use Rattle.jresolution.specs.jprogram.ProgramClasses.{Program}
use Rattle.jresolution.specs.jprogram.NameChecks.{naming_fault}
use Rattle.jresolution.specs.jprogram.SuperChecks.{supers_fault}
use Rattle.jlinking.specs.jmembers.MemberDeclarations.{members_fault}
use Rattle.jlinking.specs.jreferring.CodeChecks.{code_fault}
use Rattle.jlinking.specs.declared.jlink.error.LinkError.{LinkError}
use Rattle.jlinking.specs.declared.jlink.error.LinkError.TheVariants.{At, Memory}

-- ---- what is linked

-- the domains of parts don't fall, and there are at most 4,096 of them
unfoldable pub domains_rise : ℕ → List CodePart → Bool
domains_rise least [] = true
domains_rise least (part ∷ parts) = nat_le least part.domain && (nat_lt part.domain 4096 && domains_rise part.domain parts)

pub record AreParts (parts : List CodePart) : Type 0 where
  pub few : length parts ≤ 0xffff
  pub domains : IsTrue (domains_rise 0 parts)

-- ---- the first broken rule

-- the names of classes, what classes extend, what they declare, and what their code names
unfoldable pub link_fault : Program → Option LinkFault
link_fault p = or_else (naming_fault p) (or_else (supers_fault p) (or_else (members_fault p) (code_fault p)))

pub record Links (p : Program) : Type 0 where
  pub parts : AreParts p.parts
  pub rules : link_fault p ≡ None

-- an error says which rule is broken first; want of memory says nothing
abbrev pub LinkErrorIs : Option LinkFault → LinkError → Type 0
LinkErrorIs found (At fault) = found ≡ Some fault
LinkErrorIs found Memory = Unit {0}
