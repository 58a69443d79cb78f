use Rattle.std.proofs.Common.{ap, sym, ◌∙◌}
use Rattle.std.specs.Prelude.{option_map}
use Rattle.jmoveclass.specs.MovableClasses.{seen_body}
use Rattle.jmoveclass.proofs.MethodContents.{found_code, is_method_of}
use Rattle.jmoveclass.proofs.limits.method_limit.Goals as goal

pub code_limit-requires-clause-code : goal.code_limit-requires-clause-code
code_limit-requires-clause-code c = found_code c.args.c.now.class.now c.args.m.now (seen_body c.in-Some.b) c.requires.method (sym c.code_in.ensures ∙ ap (option_map seen_body) c.in-Some.is)

pub slots_limit-requires-clause-few : goal.slots_limit-requires-clause-few
slots_limit-requires-clause-few c = (is_method_of c.args.c.now.class.now c.args.m.now c.requires.moving.good c.requires.method).few
