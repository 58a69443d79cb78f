use Rattle.jmove.proofs.CodeLayout.{code_laid}
use Rattle.jmove.proofs.moving.places_in.Goals as goal

pub places_of-requires-clause-laid : goal.places_of-requires-clause-laid
places_of-requires-clause-laid c = rw c.code_length.ensures (code_laid c.args.ops.now c.requires.is_code)
