use Rattle.std.proofs.Common.{refl}
use Rattle.jrewriting.proofs.JrewriteProofs.MovableClasses.{can_move, domain_small, short_at}
use Rattle.jrewriting.proofs.jrewrite.moved.class_of.Goals as goal

pub moved_class-requires : goal.moved_class-requires
moved_class-requires c =
    rw (c.named.ensures.same, c.parts.ensures.same) (record {
      uses = c.uses.ensures;
      part = rw c.requires.part refl;
      domain = domain_small c.args.p.now c.args.i c.args.part.now c.requires.links c.requires.part;
      good = c.parts.ensures.kept;
      short = short_at c.args.p.now c.args.i c.args.part.now c.requires.links c.requires.side c.requires.part;
      can = can_move c.args.p.now c.args.i c.args.part.now c.requires.links c.requires.typed c.parts.ensures.kept c.requires.part;
    })

pub returns : goal.returns
returns c = rw (c.named.ensures.same, c.parts.ensures.same) at c.moved_class.ensures
