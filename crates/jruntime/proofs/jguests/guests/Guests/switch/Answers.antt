use Rattle.std.proofs.Common.{◌∙◌, map, refl, sym, ap}
use Rattle.std.specs.Prelude.{slice_get, slice_set}
use Rattle.jruntime.specs.declared.jguests.guests.Guest.{Guest}
use Rattle.jruntime.specs.jguests.GuestThreads.{guest_by}
use Rattle.jruntime.proofs.JguestsProofs.ThreadLists.{found, switched}
use Rattle.jruntime.proofs.JguestsProofs.ThreadMembership.{switched_stay}
use Rattle.jruntime.proofs.jguests.guests.Guests.switch.Goals as goal

pub returns-clause-all : goal.returns-clause-all
returns-clause-all g c =
    switched c.args.self.now.others.items c.args.self.now.at c.args.t c.replace-own.result c.replace.result c.replace.new.dest _
    (c.replace.ensures.value ∙ c.index_mut-2.ensures.value) c.requires.there
    ∙ ap (λ (x : Guest g.row.M.Denot). slice_set (map guest_by c.args.self.now.others.items) c.args.self.now.at (guest_by x)) c.replace-own.ensures.value

pub returns-clause-now : goal.returns-clause-now
returns-clause-now g c =
    ap (λ (x : Guest g.row.M.Denot). slice_get (slice_set (map guest_by c.args.self.now.others.items) c.args.self.now.at (guest_by x)) c.args.t) (sym c.replace-own.ensures.value)
    ∙ found c.args.self.now.others.items c.args.self.now.at c.args.t c.replace-own.result c.replace.result _
    (c.replace.ensures.value ∙ c.index_mut-2.ensures.value) c.requires.there

pub returns-clause-stay : goal.returns-clause-stay
returns-clause-stay g c =
    switched_stay c.args.self.now c.replace.result _ c.args.t c.replace-own.result c.replace.new.dest _ c.replace-own.ensures.value (ap (λ y. y.frames) (c.replace.ensures.after ∙ c.husk-2.ensures)) c.requires.there
    (c.replace.ensures.value ∙ c.index_mut-2.ensures.value) refl
