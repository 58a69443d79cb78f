-- What a row, a call or a throw left to do is done.
use Rattle.std.proofs.Common.{◌≡◌, ◌∙◌, ◌+◌, ◌<◌, ◌≤◌, ◌^◌, ℕ, List, [], length, Option, Some, None, refl, sym, ap, subst}
use Rattle.std.specs.Prelude.{IfOk, Ok, Err, Result, nat_le, option_map, if◌then◌else◌}
use Rattle.std.specs.List.{AllByRecursion}
use Rattle.jmemory.specs.declared.jheap.cell.Kind.{Kind}
use Rattle.jmemory.specs.declared.jheap.cell.Kind.TheVariants as kinds
use Rattle.jmemory.specs.jheap.Heaps as heaps
use Rattle.jmemory.specs.jheap.Heaps.{Heaped, kind_at}
use Rattle.jlib.specs.declared.calls.LibCall.{LibCall}
use Rattle.jlib.specs.declared.classes.LibClass.{LibClass}
use Rattle.jlib.specs.declared.classes.LibClass.TheVariants as lib
use Rattle.jlib.specs.declared.classes.Thrown.{Thrown as ThrownClass}
use Rattle.joutput.specs.declared.jtrace.event.End.TheVariants.{HeapFull}
use Rattle.jtypes.specs.declared.vtype.VType.{VType}
use Rattle.jresolution.specs.declared.jprogram.member.MethodId.{MethodId}
use Rattle.jresolution.specs.declared.jprogram.part.ClassRef.{ClassRef}
use Rattle.jresolution.specs.declared.jprogram.part.ClassRef.TheVariants as refs
use Rattle.jresolution.specs.jprogram.ProgramClasses.{Program}
use Rattle.jsemantics.specs.declared.jmachine.plan.Plan.{Plan}
use Rattle.jsemantics.specs.jmachine.MachineStates.{FrameOf, Outcome, Over, State, two}
use Rattle.jsemantics.specs.jmachine.HeapObjects.{Object, class_of}
use Rattle.jsemantics.specs.jmachine.Security.{Rules}
use Rattle.jsemantics.specs.jmachine.MachineSteps.{raised, thrown, thrown_at, went}
use Rattle.jsemantics.specs.jmachine.Store.{Store, object_at, paid}
use Rattle.jsemantics.specs.jmachine.Unwinding.{handler_at, with_raised}
use Rattle.jsemantics.specs.jmachine.World.{world}
use Rattle.jruntime.specs.declared.jstate.shapes.Shapes.{Shapes}
use Rattle.jruntime.specs.jstate.FrameLists.{Framed, all}
use Rattle.jruntime.specs.jstate.ClassNumbers.{class_numbered}
use Rattle.jruntime.specs.jstate.HeapMeanings.{Things, object_by, store_by}
use Rattle.jruntime.specs.jstate.HeapMeaningLaws.{SeesEach}
use Rattle.jrows.specs.declared.jacts.way.Way.{Way}
use Rattle.jrows.specs.declared.jacts.way.Way.TheVariants as ways
use Rattle.jrows.specs.declared.jcalls.calls.Called.{Called}
use Rattle.jrows.specs.declared.jcalls.calls.Called.TheVariants as calls
use Rattle.jrows.specs.declared.jcalls.raising.Raised.{Raised}
use Rattle.jrows.specs.declared.jcalls.raising.Raised.TheVariants as raised_ways
use Rattle.jrows.specs.jcalls.MethodCalls.{Came, CallLeaves}
use Rattle.jrows.specs.jcalls.FrameMarks.{Stand}
use Rattle.jrows.specs.jcalls.Throws.{LeavesStanding, RaisedAs, Raises, Throws, raising}
use Rattle.jrows.specs.jcalls.Unwinds.{IsTold}
use Rattle.jserving.specs.jinvoke.Answers.{number_by}
use Rattle.jserving.specs.jinvoke.InvokeLaws.{HasType}
use Rattle.jserving.specs.jinvoke.HandlerLookUps.{Told}
use Rattle.jstepping.specs.declared.jstep.outcomes.Stepped.{Stepped}
use Rattle.jstepping.specs.declared.jstep.outcomes.Stepped.TheVariants as steps
use Rattle.jstepping.specs.jstep.InstructionRows.{MayRaise, Stays}
use Rattle.jstepping.specs.jstep.StepRelation.{CallCameTo, CallLeft, IsQuiet, RaisesAs, Settles, SettlesCall, StandsFor, SteppedAs, StoodAs, ThrowsAs, stepped_as, type_of}

-- ---- frames that stand

module _ {E : Type 0} where
  pub stood : (classes : ℕ) (done : Raised) (came : Stepped) (class : ClassRef) (f g : Framed E) → came ≡ stepped_as done class → LeavesStanding f g
      → Stand classes (all f) → StoodAs classes came g
  stood classes raised_ways.Full came class f g is left s = rw is tt
  stood classes raised_ways.Handled came class f g is left s = rw is (left classes s)
  stood classes raised_ways.Uncaught came class f g is left s = rw is tt

  -- behind a row
  pub may_raise : (f g : Framed E) (way : Way) → Stays way f.newest g.newest → MayRaise way
  may_raise f g ways.Went is = tt
  may_raise f g (ways.Raises class) is = is.0
  may_raise f g (ways.Throws n) is = absurd is
  may_raise f g ways.Full is = tt
  may_raise f g ways.Stuck is = tt

  pub stands_for : (f g : Framed E) (classes : ℕ) (way : Way) → Stays way f.newest g.newest → g.below ≡ f.below → Stand classes (all f)
      → StandsFor classes way g
  stands_for f g classes ways.Went is below s =
      let P : MethodId → Type 0 = λ m. m.class < classes in
      let B : List (FrameOf ℕ E) → Type 0 = λ fs. Stand classes fs in
      (subst P (sym is) s.0.class, subst B (sym below) s.1)
  stands_for f g classes (ways.Raises class) is below s =
      let P : MethodId → Type 0 = λ m. m.class < classes in
      let Q : ℕ → Type 0 = λ n. n + 1 < 2 ^ 32 in
      let B : List (FrameOf ℕ E) → Type 0 = λ fs. Stand classes fs in
      (record { class = subst P (sym is.1) s.0.class; place = subst Q (sym is.2) s.0.place }, subst B (sym below) s.1)
  stands_for f g classes (ways.Throws n) is below s = tt
  stands_for f g classes ways.Full is below s = tt
  stands_for f g classes ways.Stuck is below s = tt

  -- behind a call
  pub call_left : (f g : Framed E) (way : Called) (count : ℕ) → CallLeaves f way g → count ≤ length f.newest.operands → CallLeft way count g
  call_left f g calls.Begun count leaves few = tt
  call_left f g (calls.Raises class) count leaves few = leaves
  call_left f g (calls.Runs call) count leaves few = let P : Framed E → Type 0 = λ v. count ≤ length v.newest.operands in subst P (sym leaves) few
  call_left f g calls.Stuck count leaves few = tt

-- ---- what asks nothing

pub quiet_raised : (done : Raised) (class : ClassRef) (came : Stepped) → came ≡ stepped_as done class → IsQuiet came
quiet_raised raised_ways.Full class came is = rw is tt
quiet_raised raised_ways.Handled class came is = rw is tt
quiet_raised raised_ways.Uncaught class came is = rw is tt

module _ {E : Type 0} (r : Rules ℕ E) (p : Program) (plan : Plan) (s : State ℕ E) (f : Framed E) (count : ℕ) where
  quiet_call : (done : Stepped) (g : Framed E) (t : Store ℕ) (came : Came E) → IsQuiet done → SteppedAs r p plan s done g t came.outcome → came.asked ≡ None
      → CallCameTo r p plan s f count done g t came
  quiet_call steps.Went g t came quiet is none = record { outcome = is; asked = none; reached = tt }
  quiet_call steps.Ended g t came quiet is none = record { outcome = is; asked = none; reached = tt }
  quiet_call (steps.Handled class) g t came quiet is none = record { outcome = is; asked = none; reached = tt }
  quiet_call (steps.Uncaught class) g t came quiet is none = record { outcome = is; asked = none; reached = tt }
  quiet_call (steps.Asks call n) g t came quiet is none = absurd quiet
  quiet_call steps.Full g t came quiet is none = record { outcome = is; asked = none; reached = tt }
  quiet_call steps.Stuck g t came quiet is none = record { outcome = is; asked = none; reached = tt }

-- ---- what is raised

as_settled : {E : Type 0} (r : Rules ℕ E) (p : Program) (plan : Plan) (s : State ℕ E) (done : Raised) (class : ClassRef) (type : VType) (g : Framed E)
    (t : Store ℕ) (o : Outcome (State ℕ E)) → type ≡ type_of p class → RaisedAs r p plan s [] type t done g o
    → SteppedAs r p plan s (stepped_as done class) g t o
as_settled r p plan s raised_ways.Full class type g t o e is = is
as_settled r p plan s raised_ways.Handled class type g t o e is = rw (← e) is
as_settled r p plan s raised_ways.Uncaught class type g t o e is = rw (← e) is

module _ {E : Type 0} (marks : List E) (p : Program) (f g : Framed E) (h k : Heaped) where
  pub raises_as : Told E → (class : ThrownClass) (done : Raised) (came : Stepped) → came ≡ stepped_as done (refs.Lib (lib.Thrown class))
      → Raises marks (handler_at p (type_of p (refs.Lib (lib.Thrown class)))) (lib.Thrown class) f h done g k → RaisesAs marks p class f h came g k
  raises_as told class done came is raises r plan s shapes things constants marked seen =
      let type = type_of p (refs.Lib (lib.Thrown class)) in
      let T : Store ℕ = store_by p shapes things constants k in
      let o : Outcome (State ℕ E) = raising r p plan s (all f) [] (lib.Thrown class) in
      let outcome : RaisedAs r p plan s [] type T done g o = raises r p plan s [] shapes things constants marked seen (told p type (all f)) in
      let P : Stepped → Type 0 = λ x. SteppedAs r p plan s x g T o in
      subst P (sym is) (as_settled r p plan s done (refs.Lib (lib.Thrown class)) type g T o refl outcome)

  pub raises_settle : (class : ThrownClass) (came : Stepped) → RaisesAs marks p class f h came g k → Settles marks p (ways.Raises (lib.Thrown class)) f h came g k
  raises_settle class came raises r plan s shapes things constants marked same =
      let seen : s.store ≡ store_by p shapes things constants h = same tt in
      let Q : Store ℕ → Type 0 = λ t. SteppedAs r p plan s came g (store_by p shapes things constants k)
      (if nat_le two s.store.left then raised r p plan s (all f) [] (with_raised (paid two t) (lib.Thrown class) None) else Over s [] HeapFull) in
      subst Q seen (raises r plan s shapes things constants marked seen)

  pub raises_call : (class : ThrownClass) (count : ℕ) (came : Stepped) → IsQuiet came → RaisesAs marks p class f h came g k
      → SettlesCall marks p (calls.Raises (lib.Thrown class)) count f h came g k
  raises_call class count came quiet raises r plan s shapes things constants e both marked top seen is =
      let Q : Outcome (State ℕ E) → Type 0 = λ o. SteppedAs r p plan s came g (store_by p shapes things constants k) o in
      quiet_call r p plan s e count came g (store_by p shapes things constants k) both quiet
      (subst Q (sym is.0) (raises r plan s shapes things constants marked seen)) is.1

-- a class that can be thrown is one
module _ {E F : Type 0} (marks : List E) (p : Program) (f g : Framed E) (h k : Heaped) (class : ThrownClass) (c : LibClass) where
  pub ok_settles : (way : Way) (r : Result Stepped F) → way ≡ ways.Raises c → c ≡ lib.Thrown class → IfOk r (λ done. RaisesAs marks p class f h done g k)
      → IfOk r (λ done. Settles marks p way f h done g k)
  ok_settles way (Ok done) is thrown raises = rw (is, thrown) (raises_settle marks p f g h k class done raises)
  ok_settles way (Err e) is thrown raises = tt

  pub ok_call : (way : Called) (count : ℕ) (r : Result Stepped F) → way ≡ calls.Raises c → c ≡ lib.Thrown class
      → IfOk r IsQuiet → IfOk r (λ done. RaisesAs marks p class f h done g k) → IfOk r (λ done. SettlesCall marks p way count f h done g k)
  ok_call way count (Ok done) is thrown quiet raises = rw (is, thrown) (raises_call marks p f g h k class count done quiet raises)
  ok_call way count (Err e) is thrown quiet raises = tt

-- ---- a call that raised nothing

module _ {E : Type 0} (marks : List E) (p : Program) (f : Framed E) (h : Heaped) (count : ℕ) where
  pub call_begun : SettlesCall marks p calls.Begun count f h steps.Went f h
  call_begun r plan s shapes things constants e both marked top seen is =
      record { outcome = is.0 ∙ ap (λ (t : Store ℕ). went r p plan s (all f) t []) seen; asked = is.1; reached = tt }

  pub call_stuck : SettlesCall marks p calls.Stuck count f h steps.Stuck f h
  call_stuck r plan s shapes things constants e both marked top seen is = record { outcome = is.0; asked = is.1; reached = tt }

  pub call_runs : (call : LibCall) → SettlesCall marks p (calls.Runs call) count f h (steps.Asks call count) f h
  call_runs call r plan s shapes things constants e both marked top seen is =
      record {
        outcome = rw is.0 (sym top, sym seen, ap (λ (c : Came E). c.outcome) is.1);
        asked = ap (λ (c : Came E). c.asked) is.1;
        reached = (refl, ap (λ (c : Came E). c.reached) is.1);
      }

-- ---- what is thrown

module _ {E : Type 0} (marks : List E) (p : Program) (n : ℕ) (f g : Framed E) (h : Heaped) (law : SeesEach) where
  nothing_there : (o : Option heaps.Object) → option_map (λ (x : heaps.Object). x.kind) o ≡ None → o ≡ None
  nothing_there None e = refl
  nothing_there (Some x) e = cc

  pub none_thrown : (kind : Option Kind) → kind ≡ None → kind ≡ kind_at h n → ThrowsAs marks p n f h steps.Stuck g
  none_thrown kind none is r plan s shapes things constants marked seen object =
      let gone = nothing_there (heaps.object_at h n) (sym is ∙ none) in
      let missing : object_at s.store n ≡ None =
      ap (λ (t : Store ℕ). object_at t n) seen ∙ law p shapes things constants h n ∙ ap (option_map (object_by p shapes h.objects things)) gone in
      rw missing refl

  an_array : (kind : Kind) → number_by kind ≡ None → (a : ℕ) × (kind ≡ kinds.Array a)
  an_array (kinds.Object m) e = absurd cc
  an_array (kinds.Array a) e = (a, refl)
  an_array kinds.Text e = absurd cc
  an_array kinds.Piece e = absurd cc

  pub array_thrown : (kind : Kind) → Some kind ≡ kind_at h n → None ≡ number_by kind → ThrowsAs marks p n f h steps.Stuck g
  array_thrown kind is e r plan s shapes things constants marked seen object =
      let array = an_array kind (sym e) in absurd (object array.0 (sym is ∙ ap (λ (k : Kind). Some k) array.1))

  there : (shapes : Shapes) (things : Things) (constants : List (List ℕ × ℕ)) (kind : Kind) (o : Option heaps.Object) → heaps.object_at h n ≡ o
      → option_map (λ (x : heaps.Object). x.kind) o ≡ Some kind → (x : Object ℕ) × (object_at (store_by p shapes things constants h) n ≡ Some x)
  there shapes things constants kind None at e = absurd cc
  there shapes things constants kind (Some x) at e =
      (object_by p shapes h.objects things x, law p shapes things constants h n ∙ ap (option_map (object_by p shapes h.objects things)) at)

  pub object_thrown : Told E → HasType → (kind : Kind) (number : ℕ) (class : ClassRef) (done : Raised) (came : Stepped) → Some kind ≡ kind_at h n
      → Some number ≡ number_by kind → class ≡ class_numbered number → came ≡ stepped_as done class
      → Throws marks (handler_at p (type_of p class)) n f done g → ThrowsAs marks p n f h came g
  object_thrown told typed kind number class done came is numbered named stepped throws r plan s shapes things constants marked seen object =
      let x = there shapes things constants kind (heaps.object_at h n) refl (sym is) in
      let held : object_at s.store n ≡ Some x.0 = ap (λ (t : Store ℕ). object_at t n) seen ∙ x.1 in
      let type : class_of (world p).named x.0 ≡ type_of p class =
      typed p shapes things constants h n number kind x.0 (sym is) (sym numbered) x.1 ∙ ap (type_of p) (sym named) in
      let A : VType → Type 0 = λ y. AllByRecursion (IsTold p y (handler_at p (type_of p class))) (all f) in
      let o : Outcome (State ℕ E) = thrown_at r p plan s (all f) s.store [] n in
      let outcome = throws r p plan s [] s.store x.0 marked held (subst A (sym type) (told p (type_of p class) (all f))) in
      let P : Stepped → Type 0 = λ y. SteppedAs r p plan s y g s.store o in
      subst P (sym stepped) (as_settled r p plan s done class (class_of (world p).named x.0) g s.store o type outcome)
