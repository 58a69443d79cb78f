-- Threads behind a call of Thread stand between steps.
use Rattle.std.proofs.Common.{◌≡◌, ◌∙◌, ℕ, Option, Some, None, sym, ap, subst, inl, inr}
use Rattle.std.specs.Prelude.{◌⊎◌, option_map, slice_get}
use Rattle.jruntime.specs.jstate.FrameLists.{Framed, all}
use Rattle.jrows.specs.jcalls.FrameMarks.{AreStanding, Stand}
use Rattle.jruntime.specs.declared.jguests.guests.Guest.{Guest}
use Rattle.jruntime.specs.declared.jguests.guests.Guests.{Guests}
use Rattle.jruntime.specs.jguests.GuestThreads.{IsOf}
use Rattle.jlibcalls.specs.declared.jthreading.switching.Threaded.{Threaded}
use Rattle.jlibcalls.specs.declared.jthreading.switching.Threaded.TheVariants as threaded
use Rattle.jlibcalls.specs.jthreading.ThreadEffects.{StayBehind, left_by}
use Rattle.jlibcalls.specs.jthreading.ThreadFrames.{gone, lost}
use Rattle.jlibcalls.specs.jthreading.ThreadMethods.{MayCall}
use Rattle.jstepping.specs.declared.jcore.machine.Machine.{Machine}
use Rattle.jstepping.specs.jcore.AnsweredCalls.{Calling}
use Rattle.jstepping.specs.jcore.MachineInvariants.{GuestStands, classes_of}

pub may_call : {E : Type 0} (m : Machine E) (count : ℕ) → Calling m count → MayCall count m.guests
may_call m count c = record { frames = c.frames; runs = c.runs; few = c.few; place = c.stand.0.place }

pub same_frames : {A : Type 0} (o : Option A) (x y : A) → o ≡ Some x → o ≡ Some y → x ≡ y
same_frames o x y a b = let e : Some x ≡ Some y = sym a ∙ b in cc

none_stands : {E : Type 0} (classes : ℕ) (x : Guest E) → x.frames ≡ None → GuestStands classes x
none_stands classes x none f some = absurd (let a = none in let b = some in cc)

module _ {E : Type 0} (classes count : ℕ) (f : Framed E) (stand : Stand classes (all f)) where
  own_stands : AreStanding classes f
  own_stands = (stand.0.class, stand.1)

  gone_stands : AreStanding classes (gone count f)
  gone_stands = (stand.0.class, stand.1)

  lost_between : AreStanding classes (lost count f)
  lost_between = (stand.0.class, stand.1)

  -- without its operands it may go on as before
  pub lost_stand : Stand classes (all (lost count f))
  lost_stand = (record { class = stand.0.class; place = stand.0.place }, stand.1)

  -- a thread with these frames stands
  framed_stands : (x : Guest E) (g : Framed E) → x.frames ≡ Some g → AreStanding classes g → GuestStands classes x
  framed_stands x g is standing h some =
      subst (λ (y : Framed E). AreStanding classes y) (same_frames x.frames g h is some) standing

module _ {E : Type 0} (m : Machine E) (count : ℕ) (c : Calling m count) where
  abbrev f : Framed E
  f = c.frames

  abbrev classes : ℕ
  classes = classes_of m

  -- the one that called, by what was done
  one_stands : (done : Threaded) (x : Guest E) → x ≡ (left_by count done m.guests).running → GuestStands classes x
  one_stands threaded.Went x is =
      framed_stands classes count f c.stand x (gone count f)
      (ap (λ (y : Guest E). y.frames) is ∙ ap (option_map (gone count)) c.runs) (gone_stands classes count f c.stand)
  one_stands (threaded.Turned done) x is =
      framed_stands classes count f c.stand x (gone count f)
      (ap (λ (y : Guest E). y.frames) is ∙ ap (option_map (gone count)) c.runs) (gone_stands classes count f c.stand)
  one_stands (threaded.Raises class) x is =
      framed_stands classes count f c.stand x (lost count f)
      (ap (λ (y : Guest E). y.frames) is ∙ ap (option_map (lost count)) c.runs) (lost_between classes count f c.stand)
  one_stands threaded.Stuck x is =
      framed_stands classes count f c.stand x f (ap (λ (y : Guest E). y.frames) is ∙ c.runs) (own_stands classes count f c.stand)

  others_there : (done : Threaded) (x : Guest E) (i : ℕ) → slice_get (left_by count done m.guests).others.items i ≡ Some x → GuestStands classes x
  others_there threaded.Went x i at = c.machine.others x i at
  others_there (threaded.Turned done) x i at = c.machine.others x i at
  others_there (threaded.Raises class) x i at = c.machine.others x i at
  others_there threaded.Stuck x i at = c.machine.others x i at

  -- Each that there is stands.
  pub each_stands : (done : Threaded) (g : Guests E) → StayBehind count done m.guests g → (x : Guest E) → IsOf x g → GuestStands classes x
  each_stands done g stay x of = by (stay x of)
    where
      by : (x.frames ≡ None) ⊎ IsOf x (left_by count done m.guests) → GuestStands classes x
      by (inl none) = none_stands classes x none
      by (inr (inl is)) = one_stands done x is
      by (inr (inr (i, at))) = others_there done x i at
