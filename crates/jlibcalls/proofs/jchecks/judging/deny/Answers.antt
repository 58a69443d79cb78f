use Rattle.std.proofs.Common.{◌≡◌, ◌∙◌, ℕ, List, subst}
use Rattle.jlib.specs.declared.classes.LibClass.TheVariants as lib
use Rattle.jsemantics.specs.jmachine.Security.{denial_message}
use Rattle.jrows.specs.jcalls.MessageThrows.{TellsHeap}
use Rattle.jlibcalls.proofs.JchecksProofs.CheckOutcomes.{denied_so, denied_stands}
use Rattle.jlibcalls.proofs.jchecks.judging.deny.Goals as goal

pub returns-clause-row : goal.returns-clause-row
returns-clause-row g c =
    denied_so c.args.marks.now (g.H.Handlers.goes c.args.handlers.now) c.args.asked.now c.args.count c.args.frames.now c.raise_with.new.frames c.args.heap.now
    c.raise_with.new.heap c.shrink.new.self c.shrink.ensures c.args.domain c.in_ok-way.way c.as_slice.result.now (c.as_slice.ensures ∙ c.in_ok-units.ensures)
    c.in_ok-way.ensures.row

pub returns-clause-stand : goal.returns-clause-stand
returns-clause-stand g c = denied_stands c.args.count c.args.frames.now c.shrink.new.self c.raise_with.new.frames c.shrink.ensures c.in_ok-way.ensures.stand

pub returns-clause-heap : goal.returns-clause-heap
returns-clause-heap g c =
    let message : c.as_slice.result.now ≡ denial_message c.args.asked.now = c.as_slice.ensures ∙ c.in_ok-units.ensures in
    subst (λ (us : List ℕ). TellsHeap lib.AccessControlException us c.args.heap.now c.raise_with.new.heap) message c.in_ok-way.ensures.heap
