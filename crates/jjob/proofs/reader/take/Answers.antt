use Rattle.std.proofs.Common.{rules}
use Rattle.jjob.proofs.JobParser.{digest_skipped, takes_skipped}
use Rattle.jjob.proofs.reader.take.Goals as goal

pub returns-then-not-is_kept-clause-taken : goal.returns-then-not-is_kept-clause-taken
returns-then-not-is_kept-clause-taken c = λ lines is. takes_skipped lines c.args.line.now c.args.told.now (search rules) is

pub returns-then-not-is_kept-clause-noted : goal.returns-then-not-is_kept-clause-noted
returns-then-not-is_kept-clause-noted c = digest_skipped c.args.line.now c.args.digests.now.items (search rules)
