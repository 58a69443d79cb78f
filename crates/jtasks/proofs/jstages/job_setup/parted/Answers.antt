use Rattle.std.proofs.Common.{◌+◌, ◌++◌, [], ◌∷◌, ℕ, List, length, sym, ap, ◌∙◌, arith, length-append}
use Rattle.std.proofs.lemmas.List.{map-append}
use Rattle.url.specs.Parts.{Parts}
use Rattle.jjob.specs.declared.job.JobSource.{JobSource}
use Rattle.jtasks.specs.declared.jstages.job_setup.ClassPath.{ClassPath}
use Rattle.jtasks.specs.jstages.JobPlans.{paths_with}
use Rattle.jtasks.proofs.JstagesProofs.Paths.{paths_more}
use Rattle.jtasks.proofs.jstages.job_setup.parted.Goals as goal

pub loop-one-preserved : goal.loop-one-preserved
loop-one-preserved c = record {
  urls = c.in_ok-push.ensures.ok ∙ ap (λ (done : List Parts). done ++ c.in-Some.one.source ∷ []) c.loop-one.invariant.urls ∙ sym (map-append (λ (s : JobSource). s.source) c.loop-one.yielded (c.in-Some.one ∷ []));
  classes = c.in_ok-add_paths.ensures ∙ ap (λ (done : List ClassPath). done ++ paths_with c.loop-one.domain c.in-Some.one.classes) c.loop-one.invariant.classes ∙ paths_more c.loop-one.domain c.loop-one.yielded c.in-Some.one c.loop-one.invariant.count;
  room = omega (arith, c.loop-one.invariant.room, ap length c.in-Some.ensures.steps.0);
  count = ap (λ (n : ℕ). n + 1) c.loop-one.invariant.count ∙ sym (length-append c.loop-one.yielded (c.in-Some.one ∷ []));
}

pub overflow_add-domain : goal.overflow_add-domain
overflow_add-domain c = omega (arith, c.loop-one.invariant.room, ap length c.in-Some.ensures.steps.0)
