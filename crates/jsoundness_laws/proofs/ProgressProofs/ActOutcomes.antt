-- What an act comes to, by what it leaves.
use Rattle.std.proofs.Common.{◌≡◌, ◌≢◌, ℕ, suc, ◌+◌, arith, Bool, true, false, List, [], ◌∷◌, ◌++◌, length, Option, Some, None, refl, sym, ap, subst, ◌∙◌}
use Rattle.std.specs.Option.{option_to_list}
use Rattle.std.specs.Prelude.{nat_le, if◌then◌else◌}
use Rattle.std.proofs.lemmas.List.{length-append}
use Rattle.jlib.specs.declared.classes.LibClass.{LibClass}
use Rattle.jlib.specs.declared.classes.LibClass.TheVariants as lib
use Rattle.jvalues.specs.declared.jops.value.Value.{Value}
use Rattle.jvalues.specs.declared.jops.value.Value.TheVariants.{Ref}
use Rattle.joutput.specs.declared.jtrace.event.Event.{Event}
use Rattle.joutput.specs.declared.jtrace.event.End.TheVariants.{HeapFull}
use Rattle.jtypes.specs.declared.vtype.VType.{VType}
use Rattle.jresolution.specs.declared.jprogram.member.MethodId.{MethodId}
use Rattle.jresolution.specs.jprogram.ProgramClasses.{Program}
use Rattle.jtyping.specs.jrule.PoolEffects.{throwable}
use Rattle.jtyping.specs.ProofNames.{string}
use Rattle.jsemantics.specs.declared.jmachine.plan.Plan.{Plan}
use Rattle.jsemantics.specs.jmachine.MachineStates.{Act, Calls, FrameOf, Goes, Jumps, Leaves, Makes, Over, Raises, Row, State, Switches, Throws, charge_of}
use Rattle.jsemantics.specs.jmachine.FrameOperations.{all_marked, begun, domain_of, frame_of, marked, onward, standing}
use Rattle.jsemantics.specs.jmachine.HeapObjects.{Object, Text, Thrown, class_of}
use Rattle.jsemantics.specs.jmachine.Security.{Rules}
use Rattle.jsemantics.specs.jmachine.MachineSteps.{acted, applied, left, pushed, raised, thrown, thrown_at, thrown_to}
use Rattle.jsemantics.specs.jmachine.Store.{Store, next_number, object_at, paid, with_made}
use Rattle.jsemantics.specs.jmachine.ThreadTurns.{with_running, with_table}
use Rattle.jsemantics.specs.jmachine.Unwinding.{resumed, unwound, with_raised}
use Rattle.jsemantics.specs.jmachine.World.{world}
use Rattle.jsoundness_laws.specs.typed.TypedCalls.{IsGiven, method}
use Rattle.jsoundness_laws.specs.typed.ControlFlow.{inside}
use Rattle.jsoundness_laws.specs.typed.StoreGrowth.{Grows}
use Rattle.jsoundness_laws.specs.typed.FrameStacks.{AreGuarded, AreStacked, Awaits, Guarded, Older, Stands, returns_at}
use Rattle.jsoundness_laws.specs.typed.TypedStores.{IsStored}
use Rattle.jsoundness_laws.specs.typed.TypedUses.{static_types}
use Rattle.jsoundness_laws.specs.typed.TypedValues.{AreOf, CanBeThrown, IsA}
use Rattle.jsoundness_laws.proofs.TypedProofs.StoreMonotonicity.{all_kept, grows_itself, grows_made, grows_on, serves_kept}
use Rattle.jsoundness_laws.proofs.TypedProofs.States.{frames_resume, frames_unwind, older_later, returns_is, stacked_later}
use Rattle.jsoundness_laws.proofs.TypedProofs.ObjectAllocation.{stored_made}
use Rattle.jsoundness_laws.proofs.LibraryProofs.StoreExtension.{is_named, made_at}
use Rattle.jsoundness_laws.proofs.LibraryProofs.Objects.{named}
use Rattle.jsoundness_laws.proofs.LibraryProofs.Orders.{orders}
use Rattle.jsoundness_laws.proofs.LibraryProofs.LibraryCallRows.{a_null}
use Rattle.jsoundness_laws.proofs.ProgressProofs.ProgramPremises.{IsFounded}
use Rattle.jsoundness_laws.specs.progress.TypedStates.{ComesTo, IsTypedState, MayBegin}
use Rattle.jsoundness_laws.proofs.ProgressProofs.PushedFrames.{begun_is, frame_stands}
use Rattle.jsoundness_laws.proofs.ProgressProofs.StoreCharges.{grows_paid, stored_paid}
use Rattle.jsoundness_laws.proofs.ProgressProofs.RaisedExceptions.{raised_fits}
use Rattle.jsoundness_laws.proofs.ProgressProofs.Threads.{ended_stays, joined_by, may_later, ran, tabled, turned_stays}

-- ---- exceptions that are raised

last_at : {K : Type 0} (s : Store K) (x : Object K) → length (with_made s x).objects ≡ next_number s
last_at s x = length-append s.objects (x ∷ [])

module _ {K : Type 0} (p : Program) (sound : IsFounded p) (statics : List VType) where
  -- a store with a new exception, which is its last object
  pub record IsRaised (s t : Store K) (class : LibClass) : Type 0 where
    pub grows : Grows (world p) s t
    pub stored : IsStored (world p) t statics
    pub message : ℕ
    pub there : object_at t (length t.objects) ≡ Some (Thrown class message)
    pub whole : IsA (world p) t throwable (Ref (length t.objects))

  made_thrown : (s : Store K) (class : LibClass) (message : ℕ) → IsStored (world p) s statics → CanBeThrown class → IsA (world p) s string (Ref message)
      → IsRaised s (with_made s (Thrown class message)) class
  made_thrown s class message stored can told =
      let x = Thrown class message in
      let t = with_made s x in
      let there : object_at t (length t.objects) ≡ Some x = ap (object_at t) (last_at s x) ∙ made_at (world p) statics s x in
      record {
        grows = grows_made K (world p) s x;
        stored = stored_made K (world p) s x statics stored (can, serves_kept (world p) s t (grows_made K (world p) s x) _ (Ref message) told);
        message = message;
        there = there;
        whole = is_named (world p) statics t throwable (length t.objects) x there refl (raised_fits p sound.stands class can);
      }

  pub raised_is : (s : Store K) (class : LibClass) (message : Option (List ℕ)) → IsStored (world p) s statics → CanBeThrown class → IsRaised s (with_raised s class message) class
  raised_is s class None stored can = made_thrown s class 0 stored can (a_null (world p) s _)
  raised_is s class (Some units) stored can =
      let t = with_made s (Text (Some units)) in
      let first = stored_made K (world p) s (Text (Some units)) statics stored tt in
      let told =
      is_named (world p) statics t string (next_number s) (Text (Some units)) (made_at (world p) statics s (Text (Some units))) refl ((orders p sound.stands).own lib.String) in
      let x = made_thrown t class (next_number s) first can told in
      record {
        grows = grows_on K (world p) s t (with_raised s class (Some units)) (grows_made K (world p) s (Text (Some units))) x.grows;
        stored = x.stored;
        message = x.message;
        there = x.there;
        whole = x.whole;
      }

-- ---- acts

module _ {K E : Type 0} (r : Rules K E) (p : Program) (plan : Plan) (s : State K E) (sound : IsFounded p) (state : IsTypedState p r.side s) where
  -- what stands above, and awaits what it called
  abbrev pub IsPushed : MethodId → List (Value K) → FrameOf K E → Type 0
  IsPushed m arguments f = (ret : Option VType) × IsGiven p s.store m ret arguments × Awaits p s.store ret f

  -- what an act leaves, where a frame has its operands taken
  abbrev pub After : FrameOf K E → Act K E → Type 0
  After f (Goes t values events) = Grows (world p) s.store t × IsStored (world p) t (static_types p) × Stands p t (onward f values)
  After f (Jumps to) = Stands p s.store (standing f to f.operands)
  After f (Leaves values) = AreOf (world p) s.store (option_to_list (returns_at p f.method)) values
  After f (Calls m arguments entry) = IsPushed m arguments f
  After f (Raises events class message) = CanBeThrown class × Guarded p s.store f
  After f (Throws n) = IsA (world p) s.store throwable (Ref n) × (n ≢ 0) × Guarded p s.store f
  After f (Switches table) = (length table ≡ length s.table) × Stands p s.store (onward f [])
  After f (Makes t runnable kept) = Grows (world p) s.store t × IsStored (world p) t (static_types p) × Stands p t (onward f [])
      × MayBegin {K = K} {E = E} p r.side t (record { frames = []; inherited = Some kept; runnable = runnable; failed = false })

  statics : List VType
  statics = static_types p

  -- ---- the same frames in the store that is paid

  abbrev Stacked : Store K → List (FrameOf K E) → Type 0
  Stacked t frames = AreStacked p t frames

  paid_state : (cells : ℕ) (t : Store K) (frames : List (FrameOf K E)) → Grows (world p) s.store t → IsStored (world p) t (static_types p) → Stacked t frames
      → IsTypedState p r.side (with_running s frames (paid cells t))
  paid_state cells t frames grows stored are =
      ran p r.side s frames (paid cells t) state (grows_on K (world p) s.store t (paid cells t) grows (grows_paid (world p) cells t)) (stored_paid (world p) cells t (static_types p) stored)
      (stacked_later K E p t (paid cells t) frames (grows_paid (world p) cells t) are)

  stacked_on : (f : FrameOf K E) (below : List (FrameOf K E)) (t : Store K) → Grows (world p) s.store t → Stands p t f → Older p s.store (returns_at p f.method) below
      → Stacked t (f ∷ below)
  stacked_on f below t grows is older = (is, older_later p s.store t grows (returns_at p f.method) below older)

  same : Grows (world p) s.store s.store
  same = grows_itself K (world p) s.store

  -- ---- exceptions

  guarded_later : (t : Store K) → Grows (world p) s.store t → (f : FrameOf K E) → Guarded p s.store f → Guarded p t f
  guarded_later t grows f x = record {
    coded = x.coded;
    is_typed = x.is_typed;
    news = x.news;
    shape = x.shape;
    there = x.there;
    locals = all_kept (world p) s.store t grows (inside p (method p f.method x.coded)) x.news x.shape.locals f.locals x.locals;
  }

  guards_later : (t : Store K) → Grows (world p) s.store t → (fs : List (FrameOf K E)) → AreGuarded p s.store fs → AreGuarded p t fs
  guards_later t grows [] h = tt
  guards_later t grows (f ∷ fs) h = (guarded_later t grows f h.0, older_later p s.store t grows (returns_at p f.method) fs h.1)

  thrown_stays : (frames : List (FrameOf K E)) (t : Store K) (events : List Event) (n : ℕ) (x : Object K) → Grows (world p) s.store t → IsStored (world p) t (static_types p)
      → AreGuarded p t frames
      → object_at t n ≡ Some x → IsA (world p) t throwable (Ref n) → ComesTo p r.side (thrown r p plan s frames t events n (Some x))
  thrown_stays frames t events n x grows stored are at whole = go (unwound r.entry_of p (class_of (world p).named x) n frames) refl
    where
      go : (o : Option (List (FrameOf K E))) → unwound r.entry_of p (class_of (world p).named x) n frames ≡ o
          → ComesTo p r.side (thrown_to r p plan s t events (class_of (world p).named x) o)
      go None e = ended_stays p r.side plan.schedule s t true _ state grows stored
      go (Some rest) e = ran p r.side s rest t state grows stored (frames_unwind K E p t r.entry_of n x frames rest sound.stands are at whole e)

  thrown_at_stays : (frames : List (FrameOf K E)) (t : Store K) (events : List Event) (n : ℕ) (x : Object K) → Grows (world p) s.store t
      → IsStored (world p) t (static_types p) → AreGuarded p t frames
      → object_at t n ≡ Some x → IsA (world p) t throwable (Ref n) → ComesTo p r.side (thrown_at r p plan s frames t events n)
  thrown_at_stays frames t events n x grows stored are at whole =
      subst (λ o. ComesTo p r.side (thrown r p plan s frames t events n o)) (sym at) (thrown_stays frames t events n x grows stored are at whole)

  pub raised_stays : (frames : List (FrameOf K E)) (cells : ℕ) (events : List Event) (class : LibClass) (message : Option (List ℕ)) → CanBeThrown class
      → AreGuarded p s.store frames
      → ComesTo p r.side (raised r p plan s frames events (with_raised (paid cells s.store) class message))
  raised_stays frames cells events class message can are =
      let x = raised_is p sound (static_types p) (paid cells s.store) class message (stored_paid (world p) cells s.store (static_types p) state.stored) can in
      let t = with_raised (paid cells s.store) class message in
      let grows = grows_on K (world p) s.store (paid cells s.store) t (grows_paid (world p) cells s.store) x.grows in
      thrown_at_stays frames t events (length t.objects) (Thrown class x.message) grows x.stored (guards_later t grows frames are) x.there x.whole

  -- ---- calls

  -- marks change nothing
  awaits_marked : (ret : Option VType) (entry : Option E) (f : FrameOf K E) → Awaits p s.store ret f → Awaits p s.store ret (marked entry f)
  awaits_marked ret None f x = x
  awaits_marked ret (Some e) f x = record {
    coded = x.coded;
    is_typed = x.is_typed;
    news = x.news;
    at = x.at;
    returns = x.returns;
    before = record { locals = x.before.locals; operands = x.before.operands };
    after = record { locals = x.after.locals; operands = x.after.operands };
  }

  older_marked : (ret : Option VType) (entry : Option E) (f : FrameOf K E) (below : List (FrameOf K E)) → Awaits p s.store ret f → Older p s.store (returns_at p f.method) below
      → Older p s.store ret (all_marked entry (f ∷ below))
  older_marked ret None f below x older = (x, older)
  older_marked ret (Some e) f below x older = (awaits_marked ret (Some e) f x, older)

  pub pushed_stays : (frames : List (FrameOf K E)) (cells : ℕ) (m : MethodId) (arguments : List (Value K)) (ret : Option VType) → IsGiven p s.store m ret arguments
      → Older p s.store ret frames
      → ComesTo p r.side (pushed r p plan s frames (paid cells s.store) (begun p m (r.entry_of (domain_of p m)) arguments))
  pushed_stays frames cells m arguments ret given older =
      let entry = r.entry_of (domain_of p m) in
      let new = frame_of m entry arguments given.coded.body in
      let is = frame_stands p sound s.store m ret entry arguments given in
      subst (λ o. ComesTo p r.side (pushed r p plan s frames (paid cells s.store) o)) (sym (begun_is p m given.coded entry arguments))
      (paid_state cells s.store (new ∷ frames) same state.stored (is, subst (λ ret. Older p s.store ret frames) (sym (returns_is p m given.coded ∙ given.returns)) older))

  -- ---- all acts

  suc_is : (n : ℕ) → n + 1 ≡ suc n
  suc_is n = omega arith

  left_stays : (f : FrameOf K E) (below : List (FrameOf K E)) (cells : ℕ) (values : List (Value K)) → Older p s.store (returns_at p f.method) below
      → AreOf (world p) s.store (option_to_list (returns_at p f.method)) values → ComesTo p r.side (left r p plan s below (paid cells s.store) values)
  left_stays f [] cells values older are = ended_stays p r.side plan.schedule s (paid cells s.store) false [] state (grows_paid (world p) cells s.store) (stored_paid (world p) cells s.store (static_types p) state.stored)
  left_stays f (g ∷ below) cells values older are =
      paid_state cells s.store (resumed r.entry_of p g (g.place + 1) (values ++ g.operands) ∷ below) same state.stored
      (frames_resume K E p s.store r.entry_of f.method g values sound.stands older.0 are, older.1)

  pub acted_stays : (f : FrameOf K E) (below : List (FrameOf K E)) (cells : ℕ) (act : Act K E) → Older p s.store (returns_at p f.method) below → After f act
      → ComesTo p r.side (acted r p plan s (f ∷ below) cells act)
  unfolding acted
  acted_stays f below cells (Goes t values events) older h = paid_state cells t (onward f values ∷ below) h.0 h.1 (stacked_on (onward f values) below t h.0 h.2 older)
  acted_stays f below cells (Jumps to) older h = paid_state cells s.store (standing f to f.operands ∷ below) same state.stored (h, older)
  acted_stays f below cells (Leaves values) older h = left_stays f below cells values older h
  acted_stays f below cells (Calls m arguments entry) older h = pushed_stays (all_marked entry (f ∷ below)) cells m arguments h.0 h.1 (older_marked h.0 entry f below h.2 older)
  acted_stays f below cells (Raises events class message) older h = raised_stays (f ∷ below) cells events class message h.0 (h.1, older)
  acted_stays f below cells (Throws n) older h =
      let x = named (world p) s.store throwable n h.1 h.0 in
      let t = paid cells s.store in
      let grows = grows_paid (world p) cells s.store in
      let later = grows n x.object x.there in
      thrown_at_stays (f ∷ below) t [] n later.0 grows (stored_paid (world p) cells s.store (static_types p) state.stored) (guards_later t grows (f ∷ below) (h.2, older)) later.1
      (serves_kept (world p) s.store t grows _ (Ref n) h.0)
  acted_stays f below cells (Switches table) older h =
      turned_stays p r.side plan.schedule (with_table (with_running s (onward f [] ∷ below) (paid cells s.store)) table) []
      (tabled p r.side (with_running s (onward f [] ∷ below) (paid cells s.store)) table (paid_state cells s.store (onward f [] ∷ below) same state.stored (h.1, older)) h.0)
  acted_stays f below cells (Makes t runnable kept) older h =
      joined_by p r.side (with_running s (onward f [] ∷ below) (paid cells t)) (record { frames = []; inherited = Some kept; runnable = runnable; failed = false })
      (paid_state cells t (onward f [] ∷ below) h.0 h.1 (stacked_on (onward f []) below t h.0 h.2 older))
      (tt, may_later {K = K} {E = E} p r.side t (paid cells t) (grows_paid (world p) cells t) (record { frames = []; inherited = Some kept; runnable = runnable; failed = false }) h.3)

  -- a charge above what is left ends the run
  pub applied_stays : (frames : List (FrameOf K E)) (row : Row K E) → ((cells : ℕ) → ComesTo p r.side (acted r p plan s frames cells row.act))
      → ComesTo p r.side (applied r p plan s frames row)
  unfolding applied
  applied_stays frames row h = go (nat_le (charge_of row) s.store.left)
    where
      go : (b : Bool) → ComesTo p r.side (if b then acted r p plan s frames (charge_of row) row.act else Over s [] HeapFull)
      go true = h (charge_of row)
      go false = state
