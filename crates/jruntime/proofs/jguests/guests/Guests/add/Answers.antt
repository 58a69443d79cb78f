use Rattle.std.proofs.Common.{◌∙◌, List, map, refl, sym, ap, subst}
use Rattle.std.specs.Prelude.{slice_set}
use Rattle.jthreads.specs.declared.thread.Thread.{Thread}
use Rattle.jruntime.specs.jguests.GuestThreads.{IsLive, guest_by}
use Rattle.jruntime.proofs.JguestsProofs.ThreadLists.{one_more}
use Rattle.jruntime.proofs.JguestsProofs.ThreadMembership.{more_stay}
use Rattle.jruntime.proofs.JguestsProofs.ThreadLiveness.{more_live}
use Rattle.jruntime.proofs.jguests.guests.Guests.add.Goals as goal

pub returns-clause-one_more : goal.returns-clause-one_more
returns-clause-one_more g c =
    ap (λ xs. slice_set (map guest_by xs) c.args.self.now.at (guest_by c.args.self.now.running)) c.in_ok-push.ensures.items
    ∙ one_more c.args.self.now.others.items c.args.self.now.at c.args.self.now.running _ c.requires.at

pub returns-clause-stay : goal.returns-clause-stay
returns-clause-stay g c = more_stay c.args.self.now _ _ _ refl refl c.in_ok-push.ensures.items

pub returns-clause-lives : goal.returns-clause-lives
returns-clause-lives g c live =
    let at = c.args.self.now.at in
    subst (λ (ts : List Thread). IsLive ts at) (sym c.in_ok-number.ensures.ok) (more_live c.args.self.now.table at live)
