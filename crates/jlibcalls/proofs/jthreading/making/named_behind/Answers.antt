use Rattle.std.proofs.Common.{◌∙◌, ◌+◌, Some, sym, ap, arith}
use Rattle.jlibcalls.proofs.JthreadingProofs.ThreadCreation.{may_less, object_is, object_same}
use Rattle.jlibcalls.proofs.jthreading.making.named_behind.Goals as goal

pub operand_at-requires : goal.operand_at-requires
operand_at-requires g c = may_less (c.args.first + 2) (c.args.first + 1 + 1) c.args.guests.now (omega arith) c.requires.may

pub operand_at-requires-2 : goal.operand_at-requires-2
operand_at-requires-2 g c = may_less (c.args.first + 2) (c.args.first + 1) c.args.guests.now (omega arith) c.requires.may

pub returns-in-Ref : goal.returns-in-Ref
returns-in-Ref g c f frames =
    let thread = sym c.thread_object.ensures ∙ c.in_ok-thread.was in
    record {
      runnable = c.operand_at-2.ensures f frames ∙ ap Some c.in-Ref.is;
      named = c.operand_at.ensures f frames ∙ ap Some (object_is c.args.heap.now c.operand_at.result c.in_ok-thread.thread thread);
      thread = object_same c.args.heap.now c.operand_at.result c.in_ok-thread.thread thread;
    }
