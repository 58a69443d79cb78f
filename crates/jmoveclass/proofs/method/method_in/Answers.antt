use Rattle.jmoveclass.specs.MovableClasses.{seen_body}
use Rattle.jmoveclass.proofs.MethodContents.{frames_fit, has_code, is_method_of}
use Rattle.jmoveclass.proofs.method.method_in.Goals as goal

pub in_full-requires : goal.in_full-requires
in_full-requires c = rw c.frames_in.ensures (frames_fit c.args.class.now (seen_body c.args.b) (has_code c.args.class.now c.args.m.now (seen_body c.args.b) c.requires.good c.requires.code))

pub slots-requires-clause-few : goal.slots-requires-clause-few
slots-requires-clause-few c = (is_method_of c.args.class.now c.args.m.now c.requires.good c.requires.code.method).few
