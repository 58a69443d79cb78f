-- The moved program: each class is moved, and then it is written for the passing side.
use Rattle.std.specs.Prelude.{◌≡◌, ℕ, map, Option, Some, None}
use Rattle.jground.specs.jbase.FirstFaults.{first_along}
use Rattle.jlib.specs.declared.side.Side.TheVariants.{Passing}
use Rattle.jresolution.specs.declared.jprogram.part.CodePart.{CodePart}
use Rattle.jresolution.specs.jprogram.ProgramClasses.{Program, program}
use Rattle.jmoveclass.specs.declared.limit.ClassError.{ClassError}
use Rattle.jmoveclass.specs.declared.limit.ClassError.TheVariants as errors
use Rattle.jmoveclass.specs.declared.limit.Limit.{Limit}
use Rattle.jmoveclass.specs.ClassLimits.{class_limit}
use Rattle.jmoveclass.specs.MovedClasses.{moved_part}
use Rattle.jrewriting.specs.declared.jrewrite.error.RewriteError.{RewriteError}
use Rattle.jrewriting.specs.declared.jrewrite.error.RewriteError.TheVariants.{At, Memory}
use Rattle.jrewriting.specs.declared.jrewrite.part.MovedPart.{MovedPart}
use Rattle.jrewriting.specs.declared.jrewrite.part.Place.{Place}

-- It doesn't depend on a policy, a schedule or a bound.
unfoldable pub moved : Program → Program
moved p = program Passing (map (moved_part p) p.parts)

-- a part of it
abbrev pub seen_part : MovedPart → CodePart
seen_part part = record { domain = part.domain; class = part.class }

-- ---- limits

abbrev pub at_class : ℕ → Option Limit → Option Place
at_class i = elim [ None ↦ None | Some limit ↦ Some (record { class = i; limit = limit }) ]

-- the first limit that a class breaks, class by class
unfoldable pub limits : Program → Option Place
limits p = first_along (λ i part. at_class i (class_limit p part.domain part.class)) 0 p.parts

-- an error says which limit is broken first; want of memory says nothing
abbrev pub RewriteErrorIs : Option Place → RewriteError → Type 0
RewriteErrorIs found (At class method kind) = found ≡ Some (record { class = class; limit = record { method = method; kind = kind } })
RewriteErrorIs found Memory = Unit {0}

-- the error of a class, with its place
abbrev pub error_at : ℕ → ClassError → RewriteError
error_at class (errors.At limit) = At class limit.method limit.kind
error_at class errors.Memory = Memory
