use Rattle.jground.proofs.JtextProofs.Groups.{any_fits}
use Rattle.jground.proofs.jtext.modified.bytes_of.Goals as goal

pub put_each-requires : goal.put_each-requires
put_each-requires c = any_fits c.as_slice.result.now
