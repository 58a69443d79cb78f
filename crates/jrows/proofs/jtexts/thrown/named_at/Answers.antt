use Rattle.std.proofs.Common.{◌∙◌, ◌%◌, ◌^◌, ap, sym}
use Rattle.jmemory.specs.jheap.Heaps.{cells_at}
use Rattle.jrows.proofs.JtextsProofs.ThrownRows.{first_drop, number_in}
use Rattle.jrows.proofs.jtexts.thrown.named_at.Goals as goal

pub returns-in-Ref : goal.returns-in-Ref
returns-in-Ref c = ap number_in c.in-Ref.ensures ∙ ap (λ n. n % 2 ^ 32) (sym (first_drop (cells_at c.args.heap.now c.args.o) c.args.at))
