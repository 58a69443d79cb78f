use Rattle.std.proofs.Common.{◌≡◌, drop, true}
use Rattle.std.specs.List.{list_all}
use Rattle.jparts.specs.jcode.InstructionForms.{branches, seen as seen_form}
use Rattle.jtyping.specs.jrule.InternedFrames.{seen}
use Rattle.jtyping.specs.jwelltyped.ProofNames
use Rattle.jverify.specs.CheckedMethods.{branch_test, frames_of, program_of}
use Rattle.jverify.proofs.walk.Checking.branches_fit.Given as goal

abbrev pub invariant-loop-i : goal.invariant-loop-i
invariant-loop-i l = record {
  rest : list_all (ProofNames.branch_fits (program_of l.self) (frames_of l.self) l.at (seen (program_of l.self) l.g.frame)) (drop l.i (branches (seen_form l.form))) ≡ list_all (ProofNames.branch_fits (program_of l.self) (frames_of l.self) l.at (seen (program_of l.self) l.g.frame)) (branches (seen_form l.form));
  fitting : branch_test (ProofNames.branch_fits (program_of l.self) (frames_of l.self) l.at (seen (program_of l.self) l.g.frame)) l.fitting ≡ true;
}
