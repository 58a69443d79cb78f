use Rattle.std.proofs.Common.{rules, arith}
use Rattle.jjob.specs.Jobs.{lines_of}
use Rattle.jjob.specs.JobNames.{notes}
use Rattle.jjob.proofs.JobNames.{notes_end, notes_more}
use Rattle.jjob.proofs.names.notes.Goals as goal

pub loop-line-preserved : goal.loop-line-preserved
loop-line-preserved c = (
  search rules,
  omega (arith, c.loop-line.invariant.1, c.in-Some.ensures.shorter),
  notes_more c.loop-line.names.items c.note.new.names.items c.loop-line.number (lines_of c.loop-line.rest.now) c.in-Some.line.now (lines_of c.in-Some.more.now) (notes 1 (lines_of c.args.text.now))
      c.in-Some.ensures.some c.in_ok-note.ensures c.loop-line.invariant.2,
)

pub returns : goal.returns
returns c = notes_end c.loop-line.names.items c.note-2.new.names.items c.loop-line.number (lines_of c.loop-line.rest.now) c.loop-line.rest.now (notes 1 (lines_of c.args.text.now)) c.in_default.ensures.none c.in_ok-note-2.ensures c.loop-line.invariant.2
