use Rattle.std.proofs.Common.{map, rules}
use Rattle.jjob.specs.JobNames.{plain}
use Rattle.jjob.proofs.JobNames.{note_skipped}
use Rattle.jjob.proofs.names.note.Goals as goal

pub returns-then-not-is_kept : goal.returns-then-not-is_kept
returns-then-not-is_kept c = note_skipped (map plain c.args.names.now.items) c.args.number c.args.line.now (search rules)
