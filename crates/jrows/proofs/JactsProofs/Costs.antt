-- Rows that cost nothing.
use Rattle.std.proofs.Common.{◌≡◌, ℕ, ◌-◌, List, [], ap, arith}
use Rattle.std.specs.Prelude.{nat_le, if◌then◌else◌, Result, Ok, Err, IfOk, OnOk}
use Rattle.std.proofs.Math.Dec.{leb-zero}
use Rattle.joutput.specs.declared.jtrace.event.Event.{Event}
use Rattle.jresolution.specs.juses.IndexedInstructions.{Instruction}
use Rattle.jsemantics.specs.jmachine.MachineStates.{FrameOf}
use Rattle.jsemantics.specs.jmachine.Store.{Store, paid}
use Rattle.jruntime.specs.jstate.FrameLists.{Framed, with_newest}
use Rattle.jrows.specs.jacts.RowOutcomes.{Does, leaves}
use Rattle.jrows.specs.declared.jacts.way.Way.{Way}
use Rattle.jrows.specs.declared.jacts.way.Way.TheVariants as ways

pub unpaid : {K : Type 0} (s : Store K) → s ≡ paid 0 s
unpaid s = let e : s.left ≡ s.left - 0 = omega arith in ap (λ n. record { objects = s.objects; statics = s.statics; constants = s.constants; left = n }) e

-- the store is another one
pub goes_free : {E : Type 0} (f : FrameOf ℕ E) (s t : Store ℕ) (told : List Event) (g : FrameOf ℕ E)
    → leaves ways.Went told g t ≡ (if nat_le 0 s.left then leaves ways.Went told g (paid 0 t) else leaves ways.Full [] f s)
goes_free f s t told g = rw (leb-zero s.left) (ap (leaves ways.Went told g) (unpaid t))

pub at_no_cost : {E : Type 0} (f : FrameOf ℕ E) (s : Store ℕ) (told : List Event) (g : FrameOf ℕ E)
    → leaves ways.Went told g s ≡ (if nat_le 0 s.left then leaves ways.Went told g (paid 0 s) else leaves ways.Full [] f s)
at_no_cost f s told g = goes_free f s s told g

-- where memory was there, its frame went on
pub if_went : {E F : Type 0} (r : Result Way F) (i : Instruction) (f g : FrameOf ℕ E) (old new : Framed E) → IfOk r (λ way. way ≡ ways.Went) → OnOk r (new ≡ with_newest g old) → Does i f ways.Went g
    → IfOk r (λ way. Does i f way new.newest)
if_went (Ok w) i f g old new went is did = rw (went, is) did
if_went (Err e) i f g old new went is did = tt
