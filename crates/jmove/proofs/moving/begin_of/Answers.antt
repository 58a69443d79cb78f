use Rattle.jmove.proofs.Bounds.{prologue_reach}
use Rattle.jmove.proofs.moving.begin_of.Goals as goal

pub returns : goal.returns
returns c = λ domain enter. prologue_reach c.args.slots c.args.local domain enter c.move_size.result c.move_size-2.result c.move_size.ensures.value c.move_size-2.ensures.value
