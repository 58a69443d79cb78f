use Rattle.std.specs.Prelude.{reverse}
use Rattle.jsemantics.specs.jmachine.AccessQueries.{Inherits}
use Rattle.jguard.specs.GuardQueries.{given_by}
use Rattle.jguard.proofs.GuardAnswers.{kind_is}
use Rattle.jguard.proofs.asking.ask_inherit.Goals as goal

pub kept_in-requires : goal.kept_in-requires
kept_in-requires g c =
    kind_is (g.G.Guard.kept c.args.guard.now) (g.G.Guard.kept c.secure.new.self) (g.G.Guard.entry c.args.guard.now) (g.G.Guard.entry c.secure.new.self)
    (g.G.Guard.rules c.args.guard.now) (Inherits c.args.ctx) (reverse c.args.marks.now) c.args.inherited
    (given_by c.in_ok-answer.answer) c.requires.ask c.requires.marks c.requires.inherited c.in_ok-answer.ensures.answer
