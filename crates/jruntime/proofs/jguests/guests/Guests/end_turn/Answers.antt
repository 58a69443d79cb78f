use Rattle.jruntime.proofs.JguestsProofs.ThreadMembership.{ended_stay}
use Rattle.jruntime.proofs.JguestsProofs.ThreadLiveness.{turned_live}
use Rattle.jruntime.proofs.jguests.guests.Guests.end_turn.Goals as goal

pub returns-clause-stay : goal.returns-clause-stay
returns-clause-stay g c = ended_stay c.turn.result c.args.failed _ c.args.self.now c.end_running.new.self c.turn.new.self c.end_running.ensures.table c.turn.ensures.stay

pub returns-clause-lives : goal.returns-clause-lives
returns-clause-lives g c =
    turned_live c.turn.result c.end_running.new.self.table c.turn.new.self.table c.turn.new.self.at c.end_running.ensures.wait c.turn.ensures.runs c.turn.ensures.wait
