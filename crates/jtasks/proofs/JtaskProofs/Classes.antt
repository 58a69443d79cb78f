-- What was read for a run are parts that may be linked, each of them a class file.
use Rattle.std.proofs.Common.{◌≡◌, ◌∙◌, List, Ok, Err, sym, subst}
use Rattle.std.specs.Prelude.{OnOk, ℕ, Result}
use Rattle.jground.specs.jbase.ListMaps.{each}
use Rattle.joutput.specs.jio.ShelfFiles.{File}
use Rattle.jresolution.specs.declared.jprogram.part.CodePart.{CodePart}
use Rattle.jtasks.specs.declared.jstages.job_setup.JobSetup.{JobSetup}
use Rattle.jtasks.specs.jstages.LinkStage.{AreClasses}
use Rattle.jtasks.specs.jstages.ReadStage.{ground_at, part_at}
use Rattle.jtasks.specs.jtask.Tasks.{GroundClasses, JobClasses}

pub ok_then : {A F : Type 0} {P Q : Type 0} (result : Result A F) → (P → Q) → OnOk result P → OnOk result Q
ok_then (Ok x) f p = f p
ok_then (Err e) f p = tt

same_ok : {A F : Type 0} (x : Result A F) (a b : A) → x ≡ Ok a → x ≡ Ok b → a ≡ b
same_ok x a b at there = let both : Ok a ≡ Ok b = sym at ∙ there in cc

pub of_ground : (files : List File) (g : JobSetup) (parts : List CodePart) → each (part_at files) g.classes ≡ Ok parts → AreClasses parts → GroundClasses files g
of_ground files g parts read are others again = subst AreClasses (same_ok (each (part_at files) g.classes) parts others read again) are

pub of_job : (files : List File) (path : List ℕ) (g : JobSetup) → ground_at files path ≡ Ok g → GroundClasses files g → JobClasses files path
of_job files path g at are other again = subst (GroundClasses files) (same_ok (ground_at files path) g other at again) are
