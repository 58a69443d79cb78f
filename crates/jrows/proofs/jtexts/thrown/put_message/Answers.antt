use Rattle.jrows.proofs.JtextsProofs.MessageRows.{cell_there}
use Rattle.jrows.proofs.jtexts.thrown.put_message.Goals as goal

pub len-requires : goal.len-requires
len-requires c = cell_there c.args.heap.now c.args.o c.args.at c.requires
