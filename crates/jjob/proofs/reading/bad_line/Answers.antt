use Rattle.std.proofs.Common.{◌≡◌, ◌+◌, arith, false, rules, true}
use Rattle.jjob.specs.Jobs.{lines_of}
use Rattle.jjob.proofs.JobParser.{along_bad, along_begins, along_more, along_skips, ends_so}
use Rattle.jjob.proofs.reading.bad_line.Goals as goal

pub loop-line-init : goal.loop-line-init
loop-line-init c =
    let all = lines_of c.args.text.now in
    let names = c.new-digests.result.items in (
      search rules,
      omega (arith, c.behind_skipped-number.ensures.small),
      along_skips all 1 all c.behind_skipped-number.result.1 (lines_of c.behind_skipped-number.result.0.now) c.args.told.now names
          (along_begins all c.args.told.now names c.new-digests.ensures.items c.requires.empty) c.behind_skipped-number.ensures.skips,
    )

pub returns-then-not-taken : goal.returns-then-not-taken
returns-then-not-taken c =
    let was : c.in_ok-taken.taken ≡ false = search rules in
    along_bad (lines_of c.args.text.now) c.loop-line.number (lines_of c.loop-line.rest.now) c.in-Some.line.now (lines_of c.in-Some.more.now) c.loop-line.told c.take.new.told
    c.loop-line.digests.items c.take.new.digests.items c.in_ok-taken.taken c.in_ok-line.line c.loop-line.invariant.2 c.in-Some.ensures.some
    c.in_ok-taken.ensures.taken was c.in_ok-taken.ensures.noted c.in_ok-line.ensures

pub loop-line-preserved : goal.loop-line-preserved
loop-line-preserved c =
    let was : c.in_ok-taken.taken ≡ true = search rules in
    let all = lines_of c.args.text.now in
    let noted = c.take.new.digests.items in (
      search rules,
      omega (arith, c.loop-line.invariant.1, c.in-Some.ensures.shorter, c.behind_skipped-place.ensures.small),
      along_skips all (c.loop-line.number + 1) (lines_of c.in-Some.more.now) c.behind_skipped-place.result.1 (lines_of c.behind_skipped-place.result.0.now) c.take.new.told noted
          (along_more all c.loop-line.number (lines_of c.loop-line.rest.now) c.in-Some.line.now (lines_of c.in-Some.more.now) c.loop-line.told c.take.new.told
          c.loop-line.digests.items noted c.in_ok-taken.taken c.loop-line.invariant.2 c.in-Some.ensures.some c.in_ok-taken.ensures.taken was c.in_ok-taken.ensures.noted)
          c.behind_skipped-place.ensures.skips,
    )

pub returns-then-not-taken-2 : goal.returns-then-not-taken-2
returns-then-not-taken-2 c =
    let was : c.in_ok-taken-2.taken ≡ false = search rules in
    along_bad (lines_of c.args.text.now) c.loop-line.number (lines_of c.loop-line.rest.now) c.loop-line.rest.now _ c.loop-line.told c.take-2.new.told
    c.loop-line.digests.items c.take-2.new.digests.items c.in_ok-taken-2.taken c.in_ok-line-2.line c.loop-line.invariant.2 c.in_default.ensures.none
    c.in_ok-taken-2.ensures.taken was c.in_ok-taken-2.ensures.noted c.in_ok-line-2.ensures

pub returns : goal.returns
returns c =
    let was : c.in_ok-taken-2.taken ≡ true = search rules in
    ends_so (lines_of c.args.text.now) c.loop-line.number (lines_of c.loop-line.rest.now) c.loop-line.rest.now c.loop-line.told c.take-2.new.told
    c.loop-line.digests.items c.take-2.new.digests.items c.in_ok-taken-2.taken c.first_again_by.result c.loop-line.invariant.2 c.in_default.ensures.none
    c.in_ok-taken-2.ensures.taken was c.in_ok-taken-2.ensures.noted c.first_again_by.ensures
