use Rattle.std.specs.Prelude.{reverse}
use Rattle.std.specs.Option.{option_copied}
use Rattle.jsemantics.specs.jmachine.AccessQueries.{Privileges}
use Rattle.jguard.specs.GuardQueries.{given_by}
use Rattle.jguard.proofs.GuardAnswers.{kind_is}
use Rattle.jguard.proofs.asking.ask_privilege.Goals as goal

pub marked_in-requires : goal.marked_in-requires
marked_in-requires g c =
    kind_is (g.G.Guard.kept c.args.guard.now) (g.G.Guard.kept c.secure.new.self) (g.G.Guard.entry c.args.guard.now) (g.G.Guard.entry c.secure.new.self)
    (g.G.Guard.rules c.args.guard.now) (Privileges c.args.domain c.args.ctx c.args.given (option_copied c.args.limits)) (reverse c.args.marks.now) c.args.inherited
    (given_by c.in_ok-answer.answer) c.requires.ask c.requires.marks c.requires.inherited c.in_ok-answer.ensures.answer
