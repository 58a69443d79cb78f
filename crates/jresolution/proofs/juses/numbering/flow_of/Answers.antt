use Rattle.std.proofs.Common.{rules, ap, sym, ◌∙◌}
use Rattle.jparts.specs.jcode.InstructionForms.{seen_flow}
use Rattle.jresolution.specs.juses.IndexedInstructions.{Always, If, IfInt, IfRef, flow, jump}
use Rattle.jresolution.proofs.juses.numbering.flow_of.Goals as goal

pub returns-in-If : goal.returns-in-If
returns-in-If c = c.jump.ensures ∙ ap (jump c.args.ops.now c.args.at (If c.in-If.test)) (search rules) ∙ sym (ap (λ f. flow c.args.ops.now c.args.at (seen_flow f)) c.in-If.is)

pub returns-in-IfInt : goal.returns-in-IfInt
returns-in-IfInt c = c.jump-in-IfInt.ensures ∙ ap (jump c.args.ops.now c.args.at (IfInt c.in-IfInt.test)) (search rules) ∙ sym (ap (λ f. flow c.args.ops.now c.args.at (seen_flow f)) c.in-IfInt.is)

pub returns-in-IfRef : goal.returns-in-IfRef
returns-in-IfRef c = c.jump-in-IfRef.ensures ∙ ap (jump c.args.ops.now c.args.at (IfRef c.in-IfRef.test)) (search rules) ∙ sym (ap (λ f. flow c.args.ops.now c.args.at (seen_flow f)) c.in-IfRef.is)

pub returns-in-Goto : goal.returns-in-Goto
returns-in-Goto c = c.jump-in-Goto.ensures ∙ ap (jump c.args.ops.now c.args.at (Always)) (search rules) ∙ sym (ap (λ f. flow c.args.ops.now c.args.at (seen_flow f)) c.in-Goto.is)
