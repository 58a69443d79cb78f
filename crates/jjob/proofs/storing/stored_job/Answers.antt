use Rattle.std.proofs.Common.{◌++◌, ◌∙◌, rules, ap, List, ℕ, sym}
use Rattle.jjob.specs.Jobs.{lines_of}
use Rattle.jjob.specs.StoredJobText.{lines_with, stored_job}
use Rattle.jjob.proofs.StoredLines.{put_more}
use Rattle.jjob.proofs.storing.stored_job.Goals as goal

pub loop-line-preserved : goal.loop-line-preserved
loop-line-preserved c = (
  search rules,
  put_more c.loop-line.out c.put_line.new.out c.loop-line.left.now c.in_ok-left.left.now c.loop-line.rest.now c.in-Some.line.now c.in-Some.more.now (lines_with c.args.paths.now (lines_of c.args.text.now))
      c.in-Some.ensures.some c.in_ok-left.ensures.out c.in_ok-left.ensures.left c.loop-line.invariant.1,
)

pub returns : goal.returns
unfolding stored_job
returns c = c.in_ok-put_last.ensures ∙ ap (λ (lines : List (List ℕ)). c.loop-line.out ++ lines_with c.loop-line.left.now lines) (sym c.in_default.ensures.none) ∙ c.loop-line.invariant.1
