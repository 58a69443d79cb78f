use Rattle.jmoveclass.specs.MovableClasses.{seen_body}
use Rattle.jmoveclass.proofs.limits.code_limit.Goals as goal

pub limit_of-requires : goal.limit_of-requires
limit_of-requires c =
    let code = c.requires.code in
    rw (c.as_slice-kinds.ensures, c.in_ok-kinds.ensures, c.in_ok-method.ensures, c.as_slice.ensures, c.in_ok-first.ensures) (c.requires.moving.can c.args.m.now code.attribute (seen_body c.args.b) code.method code.there code.is_body)
