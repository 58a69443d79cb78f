use Rattle.std.proofs.Common.{◌∙◌, sym}
use Rattle.jjob.proofs.StoredLines.{last_some}
use Rattle.jjob.proofs.storing.put_last.Goals as goal

pub returns : goal.returns
returns c = last_some c.args.paths.now c.args.line.now c.args.out.now c.put_line.new.out (sym c.is_empty.ensures ∙ c.if-is_empty.false) c.in_ok-put_line.ensures.out
