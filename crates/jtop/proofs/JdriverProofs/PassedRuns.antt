-- What is so of each run in the pass form: its program links, is of class files and well typed, and so is what the pass theorem asks for.
use Rattle.std.proofs.Common.{◌≡◌, ℕ, List, refl}
use Rattle.joutput.specs.jio.ShelfFiles.{File}
use Rattle.jperm.specs.declared.permission.Permission.{Permission}
use Rattle.jdomain.specs.Domains.{has}
use Rattle.jlib.specs.declared.side.Side.TheVariants.{Passing}
use Rattle.jresolution.specs.jprogram.ProgramClasses.{Program}
use Rattle.jtyping.specs.jwelltyped.VerifierTests.{WellTyped}
use Rattle.jrewriting.specs.jrewrite.LinkageLaws.{IsLinked}
use Rattle.jrewriting.specs.jrewrite.ReferenceLaws.{LinksStay}
use Rattle.jrewriting.specs.jrewrite.RewrittenPrograms.{moved}
use Rattle.jmoved_laws.specs.types.MovedTypes.{TypesStay}
use Rattle.jjob.specs.declared.command.Command.{Command}
use Rattle.jjob_laws.specs.StoredJobs.{JobIsSmall}
use Rattle.jsemantics.specs.declared.jmachine.plan.Plan.{Plan}
use Rattle.jpass_laws.specs.PassSimulation.{MovedPasses}
use Rattle.jtasks.specs.jtask.Tasks.{JobClasses}
use Rattle.jtasks.proofs.JtaskProofs.Sources.{Sources, linked_in, main_in, sources, typed_in}
use Rattle.jtop.specs.jdriver.Headline.{RunsPassed}
use Rattle.jtop.specs.jdriver.JobProgress.{BothGoOn, HoldBytes}
use Rattle.jtop.specs.jdriver.PassedRuns.{AlwaysPassedSo, MovedIsChecked, NeitherIsStuck, RunsAgree}
use Rattle.jtop.proofs.JdriverProofs.ProgramParts.{SpellsWhole, all_fit, are_parts, are_parts_of}
use Rattle.jtop.proofs.JdriverProofs.RunProgress.{fine_at}

moved_side : (p : Program) → (moved p).side ≡ Passing
unfolding moved
moved_side p = refl

module _ (few : JobIsSmall) (spells : SpellsWhole) where
  -- the class files that a job names are parts that may be linked
  classes_are : (files : List File) (path : List ℕ) → HoldBytes files → JobClasses files path
  classes_are files path bytes g at parts read =
      let of_classes = are_parts_of files g.classes parts bytes spells read in
      let fine = fine_at few files path g at in
      record { parts = are_parts g.classes parts of_classes fine.few fine.rise; files = all_fit g.classes parts of_classes }

  module _ (c : Command) (files : List File) (bytes : HoldBytes files) (p : Program) (domains : List (List Permission)) (plan : Plan) (is : RunsPassed c files p domains plan) where
    source : Sources files is.path p domains plan
    source = sources files is.path p domains plan is.job

    linked : IsLinked p
    linked = linked_in files is.path p domains plan source (classes_are files is.path bytes)

    typed : WellTyped p
    typed = typed_in files is.path p domains plan source

    agree : MovedPasses → RunsAgree p domains plan
    agree law =
        let main = main_in files is.path p domains plan source in
        law (has domains) p plan main.0 linked typed is.small main.1

    checked : LinksStay → TypesStay → MovedIsChecked p domains plan
    checked links types = record { side = moved_side p; links = links p linked typed is.small; typed = types p linked typed is.small }

  pub all_agree : MovedPasses → AlwaysPassedSo RunsAgree
  all_agree law c files bytes p domains plan is = agree c files bytes p domains plan is law

  pub all_checked : LinksStay → TypesStay → AlwaysPassedSo MovedIsChecked
  all_checked links types c files bytes p domains plan is = checked c files bytes p domains plan is links types

pub none_stuck : BothGoOn → AlwaysPassedSo NeitherIsStuck
none_stuck law c files bytes p domains plan is = law c files p domains plan bytes is
