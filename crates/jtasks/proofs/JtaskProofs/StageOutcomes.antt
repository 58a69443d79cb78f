-- What the classes of a job come to, stage by stage: where one of them halts, and where all go well.
use Rattle.std.proofs.Common.{◌≡◌, ℕ, List, Ok, refl}
use Rattle.std.specs.List.{flat_map}
use Rattle.jground.specs.jtext.Modified.{group}
use Rattle.jlib.specs.declared.side.Side.{Side}
use Rattle.jlib.specs.declared.side.Side.TheVariants.{Source}
use Rattle.jresolution.specs.declared.jprogram.member.MethodId.{MethodId}
use Rattle.jresolution.specs.declared.jprogram.part.CodePart.{CodePart}
use Rattle.jresolution.specs.jprogram.ProgramClasses.{Program, program}
use Rattle.jresolution.specs.jprogram.MemberResolution.{main_of}
use Rattle.jshow.specs.declared.refusal.Refusal.TheVariants.{NoMain}
use Rattle.jtasks.specs.declared.jstages.halt.Halt.{Halt}
use Rattle.jtasks.specs.declared.jstages.halt.Halt.TheVariants as halts
use Rattle.jtasks.specs.declared.jtask.task.Task.TheVariants as tasks
use Rattle.jtasks.specs.jstages.CheckStage.{checked}
use Rattle.jtasks.specs.jstages.LinkStage.{linked}
use Rattle.jtasks.specs.jstages.RewriteStage.{rewritten}
use Rattle.jtasks.specs.jstages.Stages.{Halts, judged}
use Rattle.jtasks.specs.jtask.Tasks.{check_of_parts, moved_of_parts, runnable}

-- ---- a run

module _ (side : Side) (name : List ℕ) (parts : List CodePart) where
  pub run_unlinked : (halt : Halt) → Halts halt (linked (program side parts)) → Halts halt (runnable side name parts)
  run_unlinked halts.Read h = tt
  run_unlinked halts.Memory h = tt
  run_unlinked (halts.Refused refusal) h = rw h refl

  pub run_unnamed : (halt : Halt) (p : Program) → linked (program side parts) ≡ Ok p → Halts halt (judged (NoMain name) (main_of p (flat_map group name))) → Halts halt (runnable side name parts)
  run_unnamed halts.Read p links h = tt
  run_unnamed halts.Memory p links h = tt
  run_unnamed (halts.Refused refusal) p links h = rw (links, h) refl

  pub run_untyped : (halt : Halt) (p : Program) (main : MethodId) → linked (program side parts) ≡ Ok p → judged (NoMain name) (main_of p (flat_map group name)) ≡ Ok main → Halts halt (checked p) → Halts halt (runnable side name parts)
  run_untyped halts.Read p main links named h = tt
  run_untyped halts.Memory p main links named h = tt
  run_untyped (halts.Refused refusal) p main links named h = rw (links, named, h) refl

  pub runs : (p q : Program) (main : MethodId) → linked (program side parts) ≡ Ok p → judged (NoMain name) (main_of p (flat_map group name)) ≡ Ok main → checked p ≡ Ok q → runnable side name parts ≡ Ok (q, main)
  runs p q main links named typed = rw (links, named, typed) refl

-- ---- a check

module _ (side : Side) (parts : List CodePart) where
  pub check_unlinked : (halt : Halt) → Halts halt (linked (program side parts)) → Halts halt (check_of_parts side parts)
  check_unlinked halts.Read h = tt
  check_unlinked halts.Memory h = tt
  check_unlinked (halts.Refused refusal) h = rw h refl

  pub check_untyped : (halt : Halt) (p : Program) → linked (program side parts) ≡ Ok p → Halts halt (checked p) → Halts halt (check_of_parts side parts)
  check_untyped halts.Read p links h = tt
  check_untyped halts.Memory p links h = tt
  check_untyped (halts.Refused refusal) p links h = rw (links, h) refl

  pub checks : (p q : Program) → linked (program side parts) ≡ Ok p → checked p ≡ Ok q → check_of_parts side parts ≡ Ok (tasks.Check q)
  checks p q links typed = rw (links, typed) refl

-- ---- a rewriting

module _ (parts : List CodePart) where
  pub move_unlinked : (halt : Halt) → Halts halt (linked (program Source parts)) → Halts halt (moved_of_parts parts)
  move_unlinked halts.Read h = tt
  move_unlinked halts.Memory h = tt
  move_unlinked (halts.Refused refusal) h = rw h refl

  pub move_untyped : (halt : Halt) (p : Program) → linked (program Source parts) ≡ Ok p → Halts halt (checked p) → Halts halt (moved_of_parts parts)
  move_untyped halts.Read p links h = tt
  move_untyped halts.Memory p links h = tt
  move_untyped (halts.Refused refusal) p links h = rw (links, h) refl

  pub moves : (p q : Program) → linked (program Source parts) ≡ Ok p → checked p ≡ Ok q → moved_of_parts parts ≡ rewritten q
  moves p q links typed = rw (links, typed) refl
