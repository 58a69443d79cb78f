use Rattle.std.proofs.Common.{◌<◌, drop, sym, ap, subst, ◌∙◌, add-one}
use Rattle.std.specs.List.{list_all}
use Rattle.jparts.specs.jcode.InstructionForms.{branches, seen as seen_form}
use Rattle.jtyping.specs.jrule.InternedFrames.{seen}
use Rattle.jtyping.specs.jwelltyped.ProofNames.{branch_fits}
use Rattle.jverify.specs.CheckedMethods.{branch_test, frames_of, program_of}
use Rattle.jverify.proofs.InstructionTargets.{fails_at, passes_at}
use Rattle.jverify.proofs.walk.Checking.branches_fit.Goals as goal

pub returns-then-not-branch_fits_too : goal.returns-then-not-branch_fits_too
returns-then-not-branch_fits_too c =
    sym (fails_at (branch_fits (program_of c.args.self.now) (frames_of c.args.self.now) c.args.at (seen (program_of c.args.self.now) c.args.g.now.frame)) (branches (seen_form c.args.form.now)) c.loop-i.i
    (subst (λ n. c.loop-i.i < n) c.branch_count-i-end.ensures c.loop-i-test.true) (ap (branch_test (branch_fits (program_of c.args.self.now) (frames_of c.args.self.now) c.args.at (seen (program_of c.args.self.now) c.args.g.now.frame))) (sym c.branch_at-by.ensures) ∙ sym c.branch_fits_too.ensures ∙ c.if-not-branch_fits_too.true))
    ∙ c.loop-i.invariant.rest

pub loop-i-preserved : goal.loop-i-preserved
loop-i-preserved c = record {
  rest =
      ap (λ n. list_all (branch_fits (program_of c.args.self.now) (frames_of c.args.self.now) c.args.at (seen (program_of c.args.self.now) c.args.g.now.frame)) (drop n (branches (seen_form c.args.form.now)))) (add-one c.loop-i.i)
      ∙ sym (passes_at (branch_fits (program_of c.args.self.now) (frames_of c.args.self.now) c.args.at (seen (program_of c.args.self.now) c.args.g.now.frame)) (branches (seen_form c.args.form.now)) c.loop-i.i
      (subst (λ n. c.loop-i.i < n) c.branch_count-i-end.ensures c.loop-i-test.true) (ap (branch_test (branch_fits (program_of c.args.self.now) (frames_of c.args.self.now) c.args.at (seen (program_of c.args.self.now) c.args.g.now.frame))) (sym c.branch_at-by.ensures) ∙ sym c.branch_fits_too.ensures ∙ c.if-not-branch_fits_too.false))
      ∙ c.loop-i.invariant.rest;
  fitting = sym c.branch_fits_too.ensures ∙ c.if-not-branch_fits_too.false;
}
