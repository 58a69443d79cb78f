-- The parts of a moved program are class files.
use Rattle.std.proofs.Common.{◌≡◌, ℕ, ◌<◌, Option, Some, None, refl, ap, sym, ◌∙◌, subst, arith}
use Rattle.std.specs.Prelude.{IsTrue, option_map, slice_get}
use Rattle.jclass.specs.declared.class.ClassParts.{ClassParts}
use Rattle.jclass.specs.Class.{class_file}
use Rattle.jresolution.specs.declared.jprogram.part.CodePart.{CodePart}
use Rattle.jresolution.specs.jprogram.ProgramClasses.{Program}
use Rattle.jtyping.specs.jwelltyped.VerifierTests.{WellTyped}
use Rattle.jmoveclass.specs.MovedClasses.{moved_class, moved_part}
use Rattle.jrewriting.specs.jmoveclass_laws.MovedFiles.{CanBeFile}
use Rattle.jrewriting.proofs.JmoveclassLawsProofs.ClassTail.{file_from}
use Rattle.jrewriting.specs.jrewrite.LinkageLaws.{IsLinked}
use Rattle.jrewriting.specs.jrewrite.RewrittenPrograms.{limits, moved}
use Rattle.jrewriting.proofs.JrewriteProofs.ClassLookup.{part_moved}
use Rattle.jrewriting.proofs.JrewriteProofs.MovableClasses.{can_move, domain_small, frames_stand, short_at}
use Rattle.jrewriting.proofs.JrewriteProofs.ParameterSlots.{all_few, class_none, have_room}

pub can_be_file : (p : Program) → IsLinked p → WellTyped p → limits p ≡ None → (i : ℕ) (part : CodePart) → slice_get p.parts i ≡ Some part → CanBeFile p part.domain part.class
can_be_file p is typed none i part at =
    let good = is.files i part at in
    let domain : part.domain < 4096 = domain_small p i part is.links at in
    record {
      good = good;
      short = short_at p i part is.links is.source at;
      room = have_room p part.class (all_few p none is.files);
      can = can_move p i part is.links typed good at;
      stand = frames_stand p i part is.links typed good at;
      small = omega arith;
      none = class_none p i part none at;
    }

file_by : (p : Program) → IsLinked p → WellTyped p → limits p ≡ None → (i : ℕ) (o : Option CodePart) (part : CodePart) → slice_get p.parts i ≡ o → option_map (moved_part p) o ≡ Some part → IsTrue (class_file.fits part.class)
file_by p is typed none i None part at e = absurd cc
file_by p is typed none i (Some x) part at e =
    let same : moved_part p x ≡ part = cc in
    let class : moved_class p x.domain x.class ≡ part.class = ap (λ (y : CodePart). y.class) same in
    subst (λ (c : ClassParts). IsTrue (class_file.fits c)) class (file_from p x.domain x.class (can_be_file p is typed none i x at))

pub parts_are_files : (p : Program) → IsLinked p → WellTyped p → limits p ≡ None → (i : ℕ) (part : CodePart) → slice_get (moved p).parts i ≡ Some part → IsTrue (class_file.fits part.class)
unfolding moved
parts_are_files p is typed none i part at = file_by p is typed none i (slice_get p.parts i) part refl (sym (part_moved p p.parts i) ∙ at)
