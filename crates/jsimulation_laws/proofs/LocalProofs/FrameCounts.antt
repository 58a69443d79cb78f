-- The frames of all threads behind a step: what invokes no method leaves no more of them.
use Rattle.std.proofs.Common.{◌≡◌, ℕ, zero, suc, ◌+◌, ◌<◌, ◌≤◌, Bool, true, false, List, [], ◌∷◌, ◌++◌, length, take, drop, Option, Some, None, refl, sym, ap, ◌∙◌, arith}
use Rattle.std.specs.Prelude.{slice_get}
use Rattle.std.specs.List.{sum_by}
use Rattle.std.specs.Option.{unwrap_or}
use Rattle.std.proofs.lemmas.List.Sums.{sum_by-append, sum_by-cons}
use Rattle.jthreads.specs.Schedule.{picked}
use Rattle.jthreads.specs.ThreadTables.{runnable_numbers}
use Rattle.jvalues.specs.declared.jops.value.Value.{Value}
use Rattle.jtypes.specs.declared.vtype.VType.{VType}
use Rattle.joutput.specs.declared.jtrace.event.Event.{Event}
use Rattle.joutput.specs.declared.jtrace.event.Event.TheVariants.{Throw, Uncaught}
use Rattle.jresolution.specs.jprogram.ProgramClasses.{Program}
use Rattle.jsemantics.specs.declared.jmachine.plan.Plan.{Plan}
use Rattle.jsemantics.specs.jmachine.MachineStates.{FrameOf, GuestOf, State, Outcome, Went, Over, NoStep}
use Rattle.jsemantics.specs.jmachine.MachineSteps.{left, thrown, thrown_to}
use Rattle.jsemantics.specs.jmachine.HeapObjects.{Object, class_of}
use Rattle.jsemantics.specs.jmachine.Security.{Rules}
use Rattle.jsemantics.specs.jmachine.Store.{Store}
use Rattle.jsemantics.specs.jmachine.ThreadTurns.{ended, given_to, guests, run_by, thread_of, turn_of, turned, with_ended, with_guest, with_running}
use Rattle.jsemantics.specs.jmachine.Unwinding.{caught, handler_at, resumed, told_name, unwound}
use Rattle.jsemantics.specs.jmachine.World.{world}
use Rattle.jsimulation_laws.specs.relation.StepCounts.{frames_of}

none_some : {X : Type 0} {P : Type 0} (x : X) → None ≡ Some x → P
none_some x e = absurd cc

pub zero_le : (n : ℕ) → 0 ≤ n
zero_le n = omega arith

same_le : (n : ℕ) → n ≤ n
same_le n = omega arith

next_le : (n : ℕ) → n ≤ suc n
next_le n = omega arith

module _ {K E : Type 0} where
  -- ---- the frames of some threads

  abbrev total : List (GuestOf K E) → ℕ
  total gs = sum_by (λ (g : GuestOf K E). length g.frames) gs

  total_on : (g : GuestOf K E) (gs : List (GuestOf K E)) → total (g ∷ gs) ≡ length g.frames + total gs
  total_on g gs = sum_by-cons (λ (g : GuestOf K E). length g.frames) g gs

  pub split : (xs ys : List (GuestOf K E)) (g : GuestOf K E) → total (xs ++ g ∷ ys) ≡ total xs + (length g.frames + total ys)
  split xs ys g = sum_by-append (λ (g : GuestOf K E). length g.frames) xs (g ∷ ys) ∙ ap (λ n. total xs + n) (total_on g ys)

  -- a thread is put back where it was
  put_back : (n : ℕ) (xs : List (GuestOf K E)) (g : GuestOf K E) → slice_get xs n ≡ Some g → total (take n xs ++ g ∷ drop (suc n) xs) ≡ total xs
  put_back n [] g is = none_some g is
  put_back zero (x ∷ xs) g is = let e : x ≡ g = ap (λ (o : Option (GuestOf K E)). unwrap_or o x) is in ap (λ y. total (y ∷ xs)) (sym e)
  put_back (suc n) (x ∷ xs) g is =
      total_on x (take n xs ++ g ∷ drop (suc n) xs) ∙ ap (λ k. length x.frames + k) (put_back n xs g is) ∙ sym (total_on x xs)

  -- ---- states

  -- an outcome leaves no more than so many frames
  abbrev pub NoMore : ℕ → Outcome (State K E) → Type 0
  NoMore n (Went s events) = frames_of s ≤ n
  NoMore n (Over s events end) = Unit {0}
  NoMore n NoStep = Unit {0}

  -- with another thread in the place of the running one
  instead : (s : State K E) (g : GuestOf K E) → length g.frames ≤ length s.running.frames → total (s.earlier ++ g ∷ s.later) ≤ frames_of s
  instead s g le =
      let a : frames_of s ≡ total s.earlier + (length s.running.frames + total s.later) = split s.earlier s.later s.running in
      let b = split s.earlier s.later g in omega (arith, a, b, le)

  pub running_less : (s : State K E) (fs : List (FrameOf K E)) (x : Store K) → length fs ≤ length s.running.frames → frames_of (with_running s fs x) ≤ frames_of s
  running_less s fs x le = instead s (record s.running { frames = fs }) le

  pub running_more : (s : State K E) (fs : List (FrameOf K E)) (x : Store K) → length fs ≡ suc (length s.running.frames) → frames_of s < frames_of (with_running s fs x)
  running_more s fs x more =
      let g : GuestOf K E = record s.running { frames = fs } in
      let a : frames_of s ≡ total s.earlier + (length s.running.frames + total s.later) = split s.earlier s.later s.running in
      let b : frames_of (with_running s fs x) ≡ total s.earlier + (length fs + total s.later) = split s.earlier s.later g in omega (arith, a, b, more)

  -- one more thread has none
  pub made_less : (s : State K E) (fs : List (FrameOf K E)) (x : Store K) (y : GuestOf K E) → y.frames ≡ [] → length fs ≤ length s.running.frames
      → frames_of (with_guest (with_running s fs x) y) ≤ frames_of s
  made_less s fs x y none le =
      let g : GuestOf K E = record s.running { frames = fs } in
      let a : frames_of s ≡ total s.earlier + (length s.running.frames + total s.later) = split s.earlier s.later s.running in
      let b : frames_of (with_guest (with_running s fs x) y) ≡ total s.earlier + (length fs + total (s.later ++ y ∷ [])) = split s.earlier (s.later ++ y ∷ []) g in
      let c : total (s.later ++ y ∷ []) ≡ total s.later + (length y.frames + 0) = split s.later [] y in
      let d : length y.frames ≡ 0 = ap (λ (xs : List (FrameOf K E)). length xs) none in omega (arith, a, b, c, d, le)

  -- ---- turns

  given_less : (n : ℕ) (s : State K E) (events : List Event) (t : ℕ) (o : Option (GuestOf K E)) → slice_get (guests s) t ≡ o → frames_of s ≤ n → NoMore n (given_to s events t o)
  given_less n s events t None is le = tt
  given_less n s events t (Some g) is le =
      let behind : t + 1 ≡ suc t = omega arith in
      let same : frames_of (run_by s t g) ≡ frames_of s = ap (λ k. total (take t (guests s) ++ g ∷ drop k (guests s))) behind ∙ put_back t (guests s) g is in
      let less : frames_of (run_by s t g) ≤ n = omega (arith, same, le) in less

  turn_less : (n : ℕ) (s : State K E) (events : List Event) (o : Option ℕ) → frames_of s ≤ n → NoMore n (turn_of s events o)
  turn_less n s events None le = tt
  turn_less n s events (Some t) le = given_less n s events t (slice_get (guests s) t) refl le

  pub turned_less : (n : ℕ) (schedule : List ℕ) (s : State K E) (events : List Event) → frames_of s ≤ n → NoMore n (turned schedule s events)
  unfolding turned
  turned_less n schedule s events le = turn_less n s events (picked schedule s.turns (runnable_numbers s.table)) le

  pub ended_less : (schedule : List ℕ) (s : State K E) (x : Store K) (failed : Bool) (events : List Event) → NoMore (frames_of s) (ended schedule s x failed events)
  ended_less schedule s x failed events =
      turned_less (frames_of s) schedule (with_ended s x failed) events (instead s (record s.running { frames = []; failed = failed }) (zero_le (length s.running.frames)))

  -- ---- exceptions

  -- no more than so many frames are left
  abbrev AtMost : ℕ → Option (List (FrameOf K E)) → Type 0
  AtMost n None = Unit {0}
  AtMost n (Some fs) = length fs ≤ n

  at_most : (n m : ℕ) (o : Option (List (FrameOf K E))) → n ≤ m → AtMost n o → AtMost m o
  at_most n m None le few = tt
  at_most n m (Some fs) le few = omega (arith, le, few)

  caught_less : (entry_of : ℕ → E) (p : Program) (n : ℕ) (f : FrameOf K E) (below : List (FrameOf K E)) (to : Option ℕ) (rest : Option (List (FrameOf K E))) → AtMost (length below) rest
      → AtMost (length (f ∷ below)) (caught entry_of p n f below to rest)
  caught_less entry_of p n f below (Some to) rest few = same_le (suc (length below))
  caught_less entry_of p n f below None rest few = at_most (length below) (length (f ∷ below)) rest (next_le (length below)) few

  unwound_less : (entry_of : ℕ → E) (p : Program) (class : VType) (n : ℕ) (frames : List (FrameOf K E)) → AtMost (length frames) (unwound entry_of p class n frames)
  unfolding unwound
  unwound_less entry_of p class n [] = tt
  unwound_less entry_of p class n (f ∷ below) =
      caught_less entry_of p n f below (handler_at p class f.method f.place) (unwound entry_of p class n below) (unwound_less entry_of p class n below)

  module _ (r : Rules K E) (p : Program) (plan : Plan) (s : State K E) where
    thrown_to_less : (x : Store K) (events : List Event) (class : VType) (o : Option (List (FrameOf K E))) → AtMost (length s.running.frames) o
        → NoMore (frames_of s) (thrown_to r p plan s x events class o)
    thrown_to_less x events class None few =
        ended_less plan.schedule s x true (events ++ Throw (thread_of s) (told_name class) ∷ Uncaught (thread_of s) (told_name class) ∷ [])
    thrown_to_less x events class (Some frames) few = running_less s frames x few

    pub thrown_less : (frames : List (FrameOf K E)) (x : Store K) (events : List Event) (n : ℕ) (o : Option (Object K)) → length frames ≤ length s.running.frames
        → NoMore (frames_of s) (thrown r p plan s frames x events n o)
    thrown_less frames x events n None le = tt
    thrown_less frames x events n (Some y) le =
        let class = class_of (world p).named y in
        thrown_to_less x events class (unwound r.entry_of p class n frames)
        (at_most (length frames) (length s.running.frames) (unwound r.entry_of p class n frames) le (unwound_less r.entry_of p class n frames))

    -- ---- returns

    pub left_less : (below : List (FrameOf K E)) (x : Store K) (values : List (Value K)) → length below ≤ length s.running.frames
        → NoMore (frames_of s) (left r p plan s below x values)
    left_less [] x values le = ended_less plan.schedule s x false []
    left_less (g ∷ below) x values le = running_less s (resumed r.entry_of p g (g.place + 1) (values ++ g.operands) ∷ below) x le
