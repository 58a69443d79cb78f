use Rattle.std.proofs.Common.{sym, subst}
use Rattle.jlibcalls.specs.jchecks.PermissionVerdicts.{Judges}
use Rattle.jlibcalls.specs.declared.jchecks.judging.Judged.TheVariants as ways
use Rattle.jlibcalls.proofs.JchecksProofs.CheckOutcomes.{granted_so}
use Rattle.jlibcalls.proofs.jchecks.judging.judge.Goals as goal

pub returns-in-Granted-clause-row : goal.returns-in-Granted-clause-row
returns-in-Granted-clause-row g c =
    subst (λ v. Judges c.args.marks.now (g.H.Handlers.goes c.args.handlers.now) c.args.asked.now v c.args.count c.args.frames.now c.args.heap.now ways.Granted
    c.go_on.new.frames c.args.heap.now) (sym c.in-Granted.is)
    (granted_so c.args.marks.now (g.H.Handlers.goes c.args.handlers.now) c.args.asked.now c.args.count c.args.frames.now c.go_on.new.frames c.args.heap.now
    c.args.heap.now c.go_on.ensures)
