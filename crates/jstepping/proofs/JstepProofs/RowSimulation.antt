-- What is made of what a row left is the machine's step.
use Rattle.std.proofs.Common.{◌≡◌, ◌∙◌, ℕ, ◌+◌, Bool, true, false, List, [], ◌∷◌, Option, Some, None, refl, sym, ap, arith}
use Rattle.std.proofs.Math.Dec.{leb-zero}
use Rattle.std.specs.Prelude.{◌-◌, length, nat_le, if◌then◌else◌}
use Rattle.joutput.specs.declared.jtrace.event.Event.{Event}
use Rattle.joutput.specs.declared.jtrace.event.End.TheVariants.{HeapFull}
use Rattle.jtypes.specs.declared.vtype.VType.{VType}
use Rattle.jlib.specs.declared.classes.LibClass.{LibClass}
use Rattle.jvalues.specs.declared.jops.value.Value.{Value}
use Rattle.jresolution.specs.jprogram.ProgramClasses.{Program}
use Rattle.jsemantics.specs.declared.jmachine.plan.Plan.{Plan}
use Rattle.jsemantics.specs.jmachine.MachineStates.{Act, FrameOf, Goes, Jumps, Leaves, Calls, Raises, Throws, Switches, Makes, Row, State, Outcome, Over, two}
use Rattle.jsemantics.specs.jmachine.InstructionActions.{Doing}
use Rattle.jsemantics.specs.jmachine.FrameOperations.{onward, standing, with_operands}
use Rattle.jsemantics.specs.jmachine.HeapObjects.{Object, class_of}
use Rattle.jsemantics.specs.jmachine.Security.{Rules}
use Rattle.jsemantics.specs.jmachine.MachineSteps.{acted, applied, done, thrown, thrown_at, thrown_to, went}
use Rattle.jsemantics.specs.jmachine.Store.{Store, object_at, paid}
use Rattle.jsemantics.specs.jmachine.Unwinding.{caught, handler_at, unwound, with_raised}
use Rattle.jsemantics.specs.jmachine.World.{world}
use Rattle.jrows.specs.declared.jacts.way.Way.TheVariants as ways
use Rattle.jrows.specs.jacts.RowOutcomes.{Acted, Comes, IsSame, Left, leaves}
use Rattle.jstepping.specs.jstep.RowSuccessors.{Follows, behind}

module _ {E : Type 0} (r : Rules ℕ E) (p : Program) (plan : Plan) (s : State ℕ E) (f : FrameOf ℕ E) (below : List (FrameOf ℕ E)) where
  abbrev Made : Outcome (State ℕ E) → Left E → Type 0
  Made o l = o ≡ behind r p plan s below l.way l

  -- ---- unwinding doesn't look at the newest frame's operands

  caught_alike : (n : ℕ) (x : FrameOf ℕ E) (operands : List (Value ℕ)) (o : Option ℕ) (rest : Option (List (FrameOf ℕ E)))
      → caught r.entry_of p n x below o rest ≡ caught r.entry_of p n (with_operands x operands) below o rest
  caught_alike n x operands None rest = refl
  caught_alike n x operands (Some to) rest = refl

  unwound_alike : (class : VType) (n : ℕ) (x g : FrameOf ℕ E) → IsSame x g → unwound r.entry_of p class n (x ∷ below) ≡ unwound r.entry_of p class n (g ∷ below)
  unfolding unwound
  unwound_alike class n x g same =
      caught_alike n x g.operands (handler_at p class x.method x.place) (unwound r.entry_of p class n below)
      ∙ ap (λ (y : FrameOf ℕ E). unwound r.entry_of p class n (y ∷ below)) (sym same)

  thrown_alike : (x g : FrameOf ℕ E) → IsSame x g → (store : Store ℕ) (events : List Event) (n : ℕ) (o : Option (Object ℕ))
      → thrown r p plan s (x ∷ below) store events n o ≡ thrown r p plan s (g ∷ below) store events n o
  thrown_alike x g same store events n None = refl
  thrown_alike x g same store events n (Some y) =
      let class = class_of (world p).named y in
      ap (thrown_to r p plan s store events class) (unwound_alike class n x g same)

  at_alike : (x g : FrameOf ℕ E) → IsSame x g → (store : Store ℕ) (events : List Event) (n : ℕ)
      → thrown_at r p plan s (x ∷ below) store events n ≡ thrown_at r p plan s (g ∷ below) store events n
  at_alike x g same store events n = thrown_alike x g same store events n (object_at store n)

  -- ---- what an act comes to

  chosen : (b : Bool) (a c l : Left E) → l ≡ (if b then a else c) → (o q : Outcome (State ℕ E)) → Made o a → Made q c → Made (if b then o else q) l
  chosen true a c l is o q first second = rw is first
  chosen false a c l is o q first second = rw is second

  abbrev row : ℕ → Act ℕ E → Row ℕ E
  row cells act = record { charge = cells; act = act }

  goes : (x : FrameOf ℕ E) (cells : ℕ) (u : Store ℕ) (values : List (Value ℕ)) (events : List Event) (l : Left E)
      → Acted f s.store x cells (Goes u values events) l → Made (applied r p plan s (x ∷ below) (row cells (Goes u values events))) l
  unfolding applied acted
  goes x cells u values events l is =
      let none : cells + 0 ≡ cells = omega arith in
      rw none
      (chosen (nat_le cells s.store.left) (leaves ways.Went events (onward x values) (paid cells u)) (leaves ways.Full [] f s.store) l is
      (went r p plan s (onward x values ∷ below) (paid cells u) events) (Over s [] HeapFull) refl refl)

  unpaid : (store : Store ℕ) → paid 0 store ≡ store
  unpaid store = let e : store.left - 0 ≡ store.left = omega arith in ap (λ n. record { objects = store.objects; statics = store.statics; constants = store.constants; left = n }) e

  jumps : (x : FrameOf ℕ E) (to : ℕ) (l : Left E) → l ≡ leaves ways.Went [] (standing x to x.operands) s.store
      → Made (applied r p plan s (x ∷ below) (row 0 (Jumps to))) l
  unfolding applied acted
  jumps x to l is = rw (is, leb-zero s.store.left, unpaid s.store) refl

  throws : (x : FrameOf ℕ E) (n : ℕ) (l : Left E) → l.way ≡ ways.Throws n → IsSame x l.frame → l.store ≡ s.store
      → Made (applied r p plan s (x ∷ below) (row 0 (Throws n))) l
  unfolding applied acted
  throws x n l way same store = rw (leb-zero s.store.left, unpaid s.store, way, store) (at_alike x l.frame same s.store [] n)

  raises : (x : FrameOf ℕ E) (events : List Event) (class : LibClass) (l : Left E) → l.way ≡ ways.Raises class → l.told ≡ events → IsSame x l.frame
      → l.store ≡ s.store → Made (applied r p plan s (x ∷ below) (row 0 (Raises events class None))) l
  unfolding applied acted
  raises x events class l way told same store =
      let raised_store = with_raised (paid two s.store) class None in
      rw (way, told, store)
      (ap (λ o. if nat_le two s.store.left then o else Over s [] HeapFull) (at_alike x l.frame same raised_store events (length raised_store.objects)))

  acts : (act : Act ℕ E) (x : FrameOf ℕ E) (cells : ℕ) (l : Left E) → Acted f s.store x cells act l → Made (applied r p plan s (x ∷ below) (row cells act)) l
  acts (Goes u values events) x cells l is = goes x cells u values events l is
  acts (Jumps to) x cells l is = rw is.0 (jumps x to l is.1)
  acts (Leaves values) x cells l is = absurd is
  acts (Calls m arguments entry) x cells l is = absurd is
  acts (Raises events class message) x cells l (none, no_message, way, told, same, store) = rw (none, no_message) (raises x events class l way told same store)
  acts (Throws n) x cells l (none, way, told, same, store) = rw none (throws x n l way same store)
  acts (Switches table) x cells l is = absurd is
  acts (Makes u runnable k) x cells l is = absurd is

  came : (o : Option (Doing ℕ E)) (l : Left E) → Comes f s.store o l → Made (done r p plan s below o) l
  came None l is = rw is refl
  came (Some d) l is = acts d.row.act d.frame d.row.charge l is

pub follows : {E : Type 0} → Follows E
follows r p plan s f below o l is = came r p plan s f below o l is
