use Rattle.std.proofs.Common.{◌==◌, rules}
use Rattle.std.specs.List.{slice_split}
use Rattle.jjob.specs.JobNumbers.{number_up_to}
use Rattle.jjob.proofs.TextSplits.{part_more, part_stops, part_last}
use Rattle.jjob.proofs.number.numbers_up_to.Goals as goal

pub returns-in_default-small_up_to : goal.returns-in_default-small_up_to
returns-in_default-small_up_to c =
    part_stops (number_up_to c.args.most) c.loop-first.numbers _ (slice_split (λ b. b == 32) c.in-Some.more.now) c.in-Some.first.now _ c.in-Some.ensures.some (search rules) c.loop-first.invariant.1

pub loop-first-preserved : goal.loop-first-preserved
loop-first-preserved c = (search rules, search (rules, part_more (number_up_to c.args.most) c.loop-first.numbers _ (slice_split (λ b. b == 32) c.in-Some.more.now) c.in-Some.first.now c.in-Some-small_up_to.number _ c.in-Some.ensures.some (search rules) c.loop-first.invariant.1))

pub returns-in_default-small_up_to-2 : goal.returns-in_default-small_up_to-2
returns-in_default-small_up_to-2 c =
    part_stops (number_up_to c.args.most) c.loop-first.numbers _ _ c.loop-first.rest.now _ c.in_default.ensures.none (search rules) c.loop-first.invariant.1

pub returns : goal.returns
returns c = search (rules, part_last (number_up_to c.args.most) c.loop-first.numbers _ c.loop-first.rest.now c.in-Some-small_up_to-2.number _ c.in_default.ensures.none (search rules) c.loop-first.invariant.1)
