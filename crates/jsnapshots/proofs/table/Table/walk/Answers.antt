use Rattle.std.proofs.Common.{◌∙◌, arith}
use Rattle.jdomain.specs.Domains.{has}
use Rattle.jsnapshots.specs.SnapshotMeanings.{things, stack_at}
use Rattle.jsnapshots.proofs.MarkResolution.{granted_none, pushed_last, settles_some, settles_none}
use Rattle.jsnapshots.proofs.table.Table.walk.Goals as goal

pub returns-in-Some : goal.returns-in-Some
returns-in-Some c =
    let base = stack_at (things c.args.self.now) c.args.inherited in
    settles_some (has c.args.domains.now) c.args.asked.now (things c.args.self.now) _ _ _ c.in_ok-verdict.field-0 c.in-Some.verdict
    (pushed_last (things c.args.self.now) c.args.marks.now base c.loop-i.i _ c.loop-i-test.true c.loop-i.invariant.in_range)
    c.in_ok-verdict.ensures.end c.in-Some.is
    ∙ c.loop-i.invariant.same

pub loop-i-preserved : goal.loop-i-preserved
loop-i-preserved c =
    let base = stack_at (things c.args.self.now) c.args.inherited in
    record {
      knows = c.in_ok-verdict.ensures.knows;
      within = c.in_ok-verdict.ensures.within;
      granted =
          granted_none (has c.args.domains.now) c.args.asked.now (things c.args.self.now) _ c.in_ok-verdict.field-0
          c.in_ok-verdict.ensures.end c.in_default.is;
      in_range = omega arith;
      same =
          settles_none (has c.args.domains.now) c.args.asked.now (things c.args.self.now) _ _ _ c.in_ok-verdict.field-0
          (pushed_last (things c.args.self.now) c.args.marks.now base c.loop-i.i _ c.loop-i-test.true c.loop-i.invariant.in_range)
          c.in_ok-verdict.ensures.end c.in_default.is
          ∙ c.loop-i.invariant.same;
    }
