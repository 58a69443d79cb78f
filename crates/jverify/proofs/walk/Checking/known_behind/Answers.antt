use Rattle.std.proofs.Common.{refl, subst}
use Rattle.jverify.specs.CheckedMethods.{frames_of, method_of, program_of}
use Rattle.jverify.specs.FrameFacts.{Rests, held_seen, unknown}
use Rattle.jverify.proofs.ServedFrames.{known_moved, none_known}
use Rattle.jverify.proofs.walk.Checking.known_behind.Goals as goal

pub returns-then-not-rests : goal.returns-then-not-rests
returns-then-not-rests c here pool g is =
    none_known (program_of c.args.self.now) (method_of c.args.self.now) (frames_of c.args.self.now) g.locals g.flag unknown refl

pub returns : goal.returns
returns c here pool g is =
    let f = held_seen (program_of c.args.self.now) c.args.f.now in
    known_moved (program_of c.args.self.now) (method_of c.args.self.now) (frames_of c.args.self.now) f g _
    (subst (Rests f) is (c.rests.ensures c.if-not-rests.false here pool))
    (record { from = c.requires.held.known.from; served = c.served_at.ensures })
