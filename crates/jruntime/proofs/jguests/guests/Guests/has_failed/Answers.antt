use Rattle.std.proofs.Common.{◌∙◌, ◌||◌, sym, ap}
use Rattle.jruntime.specs.jguests.GuestThreads.{have_failed}
use Rattle.jruntime.proofs.JguestsProofs.ThreadLists.{failed_is}
use Rattle.jruntime.proofs.jguests.guests.Guests.has_failed.Goals as goal

pub returns : goal.returns
returns g c store =
    c.some_failed.ensures ∙ ap have_failed c.as_slice.ensures.value
    ∙ sym (failed_is c.args.self.now c.requires ∙ ap (λ b. b || have_failed c.args.self.now.others.items) c.if-self.false)
