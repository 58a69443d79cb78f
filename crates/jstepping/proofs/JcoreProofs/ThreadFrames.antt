-- Frames of threads stand while turns are taken.
use Rattle.std.proofs.Common.{◌≡◌, ℕ, Bool, None, refl, inl, inr}
use Rattle.std.specs.Prelude.{◌⊎◌}
use Rattle.jruntime.specs.declared.jguests.guests.Guest.{Guest}
use Rattle.jruntime.specs.declared.jguests.guests.Guests.{Guests}
use Rattle.jruntime.specs.jguests.GuestThreads.{HaveStayed, IsOf, ended_as, with_running}
use Rattle.jstepping.specs.jcore.MachineInvariants.{GuestStands, OthersStand}

-- one without frames stands
none_stands : {E : Type 0} (classes : ℕ) (x : Guest E) → x.frames ≡ None → GuestStands classes x
none_stands classes x none f some = absurd (let a = none in let b = some in cc)

of_ended : {E : Type 0} (classes : ℕ) (failed : Bool) (g : Guests E) (x : Guest E) → OthersStand classes g.others.items
    → IsOf x (with_running (ended_as failed g.running) g) → GuestStands classes x
of_ended classes failed g x others (inl is) = none_stands classes x (rw is refl)
of_ended classes failed g x others (inr (i, at)) = others x i at

one_stayed : {E : Type 0} (classes : ℕ) (failed : Bool) (g : Guests E) (x : Guest E) → OthersStand classes g.others.items
    → (x.frames ≡ None) ⊎ IsOf x (with_running (ended_as failed g.running) g) → GuestStands classes x
one_stayed classes failed g x others (inl none) = none_stands classes x none
one_stayed classes failed g x others (inr of) = of_ended classes failed g x others of

-- Where the running thread has ended all that are left stand, the one that runs
pub running_stands : {E : Type 0} (classes : ℕ) (failed : Bool) (g h : Guests E) → OthersStand classes g.others.items
    → HaveStayed (with_running (ended_as failed g.running) g) h → GuestStands classes h.running
running_stands classes failed g h others stayed = one_stayed classes failed g h.running others (stayed h.running (inl refl))

-- and the others.
pub others_stand : {E : Type 0} (classes : ℕ) (failed : Bool) (g h : Guests E) → OthersStand classes g.others.items
    → HaveStayed (with_running (ended_as failed g.running) g) h → OthersStand classes h.others.items
others_stand classes failed g h others stayed x i at = one_stayed classes failed g x others (stayed x (inr (i, at)))
