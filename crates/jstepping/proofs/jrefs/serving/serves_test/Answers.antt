use Rattle.std.proofs.Common.{ap, ◌∙◌}
use Rattle.std.specs.Prelude.{is_some}
use Rattle.jparts.specs.jcode.InstructionForms.{compared}
use Rattle.jtyping.specs.jrule.StackEffects.{of_kinds}
use Rattle.jsemantics.specs.jmachine.TakenOperands.{taken}
use Rattle.jsemantics.specs.jmachine.World.{World}
use Rattle.jruntime.specs.jstate.HeapMeanings.{store_by}
use Rattle.jstepping.proofs.JrefsProofs.Stores.{store_is}
use Rattle.jstepping.proofs.jrefs.serving.serves_test.Goals as goal

pub returns : goal.returns
returns g c others constants at seen same =
    let s = store_by c.args.x.now.ancestors.now c.args.x.now.shapes.now others constants c.args.heap.now in
    ap (λ (w : World). is_some (taken w s (of_kinds (compared c.args.test)) c.args.frames.now.newest.operands)) same
    ∙ c.refs_serve.ensures c.args.x.now.ancestors.now s
    (record { things = seen.things; constants = constants; counted = seen.counted; seen = store_is c.args.x.now c.args.counts c.args.heap.now others constants seen })
