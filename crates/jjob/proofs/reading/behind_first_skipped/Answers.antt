use Rattle.std.proofs.Common.{Some, lit<}
use Rattle.std.proofs.lemmas.Str.Pattern.{strip_prefix_char}
use Rattle.jjob.specs.Jobs.{lines_of}
use Rattle.jjob.proofs.JobParser.{skipped_empty, skipped_mark}
use Rattle.jjob.proofs.reading.behind_first_skipped.Goals as goal

pub returns-in-Some-clause-skipped : goal.returns-in-Some-clause-skipped
returns-in-Some-clause-skipped c = skipped_empty c.args.text.now c.in-Some.more.now (strip_prefix_char 10 c.args.text.now (Some c.in-Some.more) c.in-Some.ensures.cases (lit< tt))

pub returns-clause-skipped : goal.returns-clause-skipped
returns-clause-skipped c =
    let mark = strip_prefix_char 35 c.args.text.now (Some c.in-Some-strip_prefix.rest) c.in-Some-strip_prefix.ensures.cases (lit< tt) in
    skipped_mark c.args.text.now c.in-Some-strip_prefix.rest.now c.in-Some-first_line.field-0-0.now (lines_of c.in-Some-first_line.more.now) mark c.in-Some-first_line.ensures.some
