use Rattle.std.proofs.Common.{Some, sym}
use Rattle.jparts.proofs.JcodeProofs.OpcodeTables.{table_at, left_out_at, unknown_at}
use Rattle.jparts.proofs.jcode.table.head_of.Goals as goal

pub returns-in-Some : goal.returns-in-Some
returns-in-Some c = sym (table_at c.args.opcode c.from.result (Some c.in-Some.head) c.from.ensures c.ranges.opcode.fits c.in-Some.is)

pub returns-then-opcode-lt202 : goal.returns-then-opcode-lt202
returns-then-opcode-lt202 c = left_out_at c.args.opcode c.from.result c.from.ensures c.ranges.opcode.fits c.in-None.is c.if-opcode-lt202.true

pub returns-else-opcode-lt202 : goal.returns-else-opcode-lt202
returns-else-opcode-lt202 c = unknown_at c.args.opcode c.from.result c.from.ensures c.ranges.opcode.fits c.in-None.is c.if-opcode-lt202.false
