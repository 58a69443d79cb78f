-- A program of the source side that links stands in order and names nothing that is kept.
use Rattle.std.proofs.Common.{◌≡◌, ℕ, suc, List, [], ◌∷◌, Some, refl}
use Rattle.std.specs.Prelude.{IsTrue, slice_get}
use Rattle.jclass.specs.Class.{class_file}
use Rattle.jresolution.specs.declared.jprogram.part.CodePart.{CodePart}
use Rattle.jresolution.specs.jprogram.ProgramClasses.{Program}
use Rattle.jlinking.specs.jlink.ClassOrder.{in_order}
use Rattle.jrewriting.specs.jrewrite.LinkageLaws.{IsLinked}
use Rattle.jrewriting.proofs.JrewriteProofs.ClassLookup.{AllNamed, named_of}
use Rattle.jrewriting.proofs.JrewriteProofs.HierarchyPhases.{IsPlain}

all_named : (parts : List CodePart) → ((i : ℕ) (part : CodePart) → slice_get parts i ≡ Some part → IsTrue (class_file.fits part.class)) → AllNamed parts
all_named [] h = tt
all_named (part ∷ parts) h = (named_of part.class (h 0 part refl), all_named parts (λ i x at. h (suc i) x at))

pub is_plain : (p : Program) → IsLinked p → IsPlain p
is_plain p is =
    let order = in_order p is.links in
    record { source = is.source; all = all_named p.parts is.files; naming = order.named; extending = order.extended }
