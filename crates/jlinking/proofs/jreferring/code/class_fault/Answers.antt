use Rattle.jlinking.proofs.JreferringProofs.MethodCounts.{few_in}
use Rattle.jlinking.proofs.jreferring.code.class_fault.Goals as goal

pub methods_fault-requires : goal.methods_fault-requires
methods_fault-requires c = few_in c.args.class.now c.parts-parts.result.now c.as_slice-2.result.now c.parts-parts.ensures.same c.as_slice-2.ensures c.parts-parts.ensures.kept
