use Rattle.std.proofs.Common.{arith}
use Rattle.jstore.proofs.Names.{path_utf8}
use Rattle.jstore.proofs.storing.class_path.Goals as goal

pub text_in-requires : goal.text_in-requires
text_in-requires c = rw (c.as_slice.ensures, c.in_ok-path.ensures) (path_utf8 c.args.to.now c.args.domain c.args.name.now c.utf8.to (omega arith))
