-- How a job's program is rewritten: the moved program, or the refusal by the first limit that is broken.
use Rattle.std.specs.Prelude.{ℕ, List, [], Option, Some, None, option_map, Result, Ok, Err, slice_get}
use Rattle.jclass.specs.declared.class.ClassParts.{ClassParts}
use Rattle.jmoveclass.specs.declared.limit.Limit.{Limit}
use Rattle.jresolution.specs.declared.jprogram.part.CodePart.{CodePart}
use Rattle.jresolution.specs.jprogram.ClassFileParts.{this_name}
use Rattle.jresolution.specs.jprogram.ProgramClasses.{Program}
use Rattle.jrewriting.specs.declared.jrewrite.part.Place.{Place}
use Rattle.jrewriting.specs.jrewrite.RewrittenPrograms.{limits, moved}
use Rattle.jshow.specs.declared.refusal.Refusal.{Refusal}
use Rattle.jshow.specs.declared.refusal.Refusal.TheVariants.{BadRewrite}
use Rattle.jtasks.specs.jstages.CheckStage.{method_told}
use Rattle.jtasks.specs.jstages.LinkStage.{units_in}
use Rattle.jtasks.specs.jstages.Stages.{Stopped, Refused}

-- ---- the refusal

-- a method by its place among those of its class, where a limit is a method's
abbrev pub limited_told : ClassParts → Option ℕ → Option (List ℕ)
limited_told c o = option_map (λ method. method_told c (slice_get c.methods method)) o

abbrev pub limit_told : Limit → Option CodePart → Refusal
limit_told limit None = BadRewrite [] None limit.kind
limit_told limit (Some part) = BadRewrite (units_in (this_name part.class)) (limited_told part.class limit.method) limit.kind

-- the refusal of parts by a limit that is broken, with the class and the method that break it
abbrev pub limit_refusal : List CodePart → Place → Refusal
limit_refusal parts place = limit_told place.limit (slice_get parts place.class)

abbrev pub unless_limited : Program → Option Place → Result Program Stopped
unless_limited p = elim [ Some place ↦ Err (Refused (limit_refusal p.parts place)) | None ↦ Ok (moved p) ]

-- the moved program, or the refusal of a program that can't be moved
unfoldable pub rewritten : Program → Result Program Stopped
rewritten p = unless_limited p (limits p)
