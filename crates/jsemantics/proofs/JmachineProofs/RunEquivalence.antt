-- Runs of machines that answer alike are the same, but for what is kept.
use Rattle.std.proofs.Common.{◌≡◌, ◌∙◌, ℕ, zero, suc, ◌-◌, false, List, [], ◌∷◌, ◌++◌, map, Option, Some, None, option_map, refl, ap}
use Rattle.std.specs.Prelude.{unwrap_or}
use Rattle.std.specs.List.{flat_map}
use Rattle.std.proofs.lemmas.List.{map-append}
use Rattle.jparts.specs.declared.jpool.entry.Entry.{Entry}
use Rattle.jparts.specs.declared.jpool.entry.Entry.TheVariants as entries
use Rattle.jlib.specs.declared.classes.LibClass.TheVariants as lib
use Rattle.jlib.specs.declared.side.Side.{Side}
use Rattle.jvalues.specs.declared.jops.value.Value.{Value}
use Rattle.jvalues.specs.declared.jops.value.Value.TheVariants.{Ref}
use Rattle.jclass.specs.declared.class.ClassParts.{ClassParts}
use Rattle.jclass.specs.declared.class.MemberInfo.{MemberInfo}
use Rattle.jresolution.specs.declared.jprogram.member.MethodId.{MethodId}
use Rattle.jresolution.specs.declared.jprogram.part.CodePart.{CodePart}
use Rattle.jresolution.specs.jprogram.ProgramClasses.{Program}
use Rattle.jresolution.specs.jprogram.ClassFileParts.{member_desc, text}
use Rattle.jthreads.specs.ThreadTables as threads
use Rattle.joutput.specs.declared.jtrace.event.End.{End}
use Rattle.jsemantics.specs.declared.jmachine.plan.Plan.{Plan}
use Rattle.jsemantics.specs.jmachine.MachineStates.{FrameOf, State, Outcome, Went, Over, NoStep}
use Rattle.jsemantics.specs.jmachine.FrameOperations.{begun, domain_of}
use Rattle.jresolution.specs.jlayout.FieldLayout.{element, field_type, statics_of}
use Rattle.jsemantics.specs.jmachine.Machine.{opening, run}
use Rattle.jsemantics.specs.jmachine.ObjectInstructions.{units_of}
use Rattle.jsemantics.specs.jmachine.StateMaps.{frame_map, frames_map, object_map, outcome_map, run_map, state_map, store_map, value_map, values_map}
use Rattle.jsemantics.specs.jmachine.Narrowing.{default, narrowed}
use Rattle.jsemantics.specs.jmachine.NaturalityLaws.{EntriesAgree, OpeningAlike, RulesAgree, RunAlike}
use Rattle.jsemantics.specs.jmachine.HeapObjects.{Object, Array, Bare, Text}
use Rattle.jsemantics.specs.jmachine.OpeningState.{arguments_number, arguments_type, constant_of, constants_of, first_objects, first_value, main_frame, opening_charge, opening_state, opening_store, strings, value_of, values_in}
use Rattle.jsemantics.specs.jmachine.RunTraces.{next_at, Run, after, next, run_from}
use Rattle.jsemantics.specs.jmachine.Security.{Rules, handed}
use Rattle.jsemantics.specs.jmachine.MachineSteps.{step}
use Rattle.jsemantics.specs.jmachine.Store.{Store, constant_at}
use Rattle.jsemantics.proofs.JmachineProofs.RowApplication.{begun_alike}
use Rattle.jsemantics.proofs.JmachineProofs.StepIndependence.{handed_alike, step_alike}
use Rattle.jsemantics.proofs.JmachineProofs.Stores.{default_alike, narrowed_alike}
use Rattle.std.specs.Option.{option_to_list}

-- ---- runs of any machines that step alike

module _ {S T : Type 0} (h : S → T) (one : S → Outcome S) (other : T → Outcome T) (alike : (s : S) → outcome_map h (one s) ≡ other (h s)) where
  after_alike : (r : Run S) (o : Outcome S) → run_map h (after one r o) ≡ after other (run_map h r) (outcome_map h o)
  after_alike r (Went s events) = refl
  after_alike r (Over s events end) = refl
  after_alike r NoStep = refl

  next_alike : (r : Run S) (end : Option End) → run_map h (next_at one r end) ≡ next_at other (run_map h r) end
  next_alike r (Some end) = refl
  next_alike r None = after_alike r (one r.state) ∙ ap (after other (run_map h r)) (alike r.state)

  course_alike : (k : ℕ) (r : Run S) → run_map h (run_from one k r) ≡ run_from other k (run_map h r)
  unfolding run_from
  course_alike zero r = refl
  course_alike (suc k) r = course_alike k (next one r) ∙ ap (run_from other k) (next_alike r r.end)

-- ---- the state in which a run begins

module _ {K L : Type 0} (f : K → L) where
  string_alike : (o : Option ℕ) → option_map (value_map f) (option_map Ref o) ≡ option_map Ref o
  string_alike None = refl
  string_alike (Some n) = refl

  value_alike : (constants : List (List ℕ × ℕ)) (c : ClassParts) (o : Option Entry) → option_map (value_map f) (value_of constants c o) ≡ value_of constants c o
  value_alike constants c None = refl
  value_alike constants c (Some (entries.Integer n)) = refl
  value_alike constants c (Some (entries.Long n)) = refl
  value_alike constants c (Some (entries.Str i)) = string_alike (constant_at constants (units_of (text c.pool i)))
  value_alike constants c (Some entries.Unused) = refl
  value_alike constants c (Some (entries.Utf8 t)) = refl
  value_alike constants c (Some (entries.Float n)) = refl
  value_alike constants c (Some (entries.Double n)) = refl
  value_alike constants c (Some (entries.Class n)) = refl
  value_alike constants c (Some (entries.Field n m)) = refl
  value_alike constants c (Some (entries.Method n m)) = refl
  value_alike constants c (Some (entries.InterfaceMethod n m)) = refl
  value_alike constants c (Some (entries.NameAndType n m)) = refl
  value_alike constants c (Some (entries.MethodHandle n m)) = refl
  value_alike constants c (Some (entries.MethodType n)) = refl
  value_alike constants c (Some (entries.InvokeDynamic n m)) = refl

  or_alike : (o : Option (Value K)) (v : Value K) → value_map f (unwrap_or o v) ≡ unwrap_or (option_map (value_map f) o) (value_map f v)
  or_alike None v = refl
  or_alike (Some u) v = refl

  static_alike : (p : Program) (constants : List (List ℕ × ℕ)) (c : ClassParts) (m : MemberInfo) → value_map f (first_value p constants c m) ≡ first_value p constants c m
  static_alike p constants c m =
      narrowed_alike f (element (member_desc c m)) (unwrap_or (value_of constants c (constant_of c m)) (default (field_type p c m)))
      ∙ ap (narrowed (element (member_desc c m)))
      (or_alike (value_of constants c (constant_of c m)) (default (field_type p c m))
      ∙ ap (λ (o : Option (Value L)). unwrap_or o (value_map f (default (field_type p c m)))) (value_alike constants c (constant_of c m))
      ∙ ap (λ (v : Value L). unwrap_or (value_of constants c (constant_of c m)) v) (default_alike f (field_type p c m)))

  fields_alike : (p : Program) (constants : List (List ℕ × ℕ)) (c : ClassParts) (ms : List MemberInfo) → values_map f (map (first_value p constants c) ms) ≡ map (first_value p constants c) ms
  fields_alike p constants c [] = refl
  fields_alike p constants c (m ∷ ms) =
      ap (λ (v : Value L). v ∷ values_map f (map (first_value p constants c) ms)) (static_alike p constants c m)
      ∙ ap (λ (vs : List (Value L)). first_value p constants c m ∷ vs) (fields_alike p constants c ms)

  statics_alike : (p : Program) (constants : List (List ℕ × ℕ)) (parts : List CodePart) → values_map f (flat_map (values_in p constants) parts) ≡ flat_map (values_in p constants) parts
  statics_alike p constants [] = refl
  statics_alike p constants (part ∷ parts) =
      map-append (value_map f) (values_in p constants part) (flat_map (values_in p constants) parts)
      ∙ ap (λ (vs : List (Value L)). vs ++ values_map f (flat_map (values_in p constants) parts)) (fields_alike p constants part.class (statics_of part))
      ∙ ap (λ (vs : List (Value L)). values_in p constants part ++ vs) (statics_alike p constants parts)

  abbrev behind : {J : Type 0} → List (List ℕ) → List (Object J)
  behind texts = map (λ t. Text (Some t)) texts ++ Array arguments_type [] ∷ []

  texts_alike : (texts : List (List ℕ)) → map (object_map f) (behind texts) ≡ behind texts
  texts_alike [] = refl
  texts_alike (t ∷ texts) = ap (λ (xs : List (Object L)). Text (Some t) ∷ xs) (texts_alike texts)

  store_alike : (p : Program) (heap : ℕ) → store_map f (opening_store p heap) ≡ opening_store p heap
  store_alike p heap =
      ap (λ (xs : List (Object L)). store_with xs (values_map f (flat_map (values_in p (constants_of (strings p))) p.parts))) (ap (λ (xs : List (Object L)). bare ∷ xs) (texts_alike (strings p)))
      ∙ ap (λ (vs : List (Value L)). store_with (first_objects (strings p)) vs) (statics_alike p (constants_of (strings p)) p.parts)
    where
      store_with : List (Object L) → List (Value L) → Store L
      store_with objects values = record { objects = objects; statics = values; constants = constants_of (strings p); left = heap - opening_charge p }

      bare : Object L
      bare = Bare lib.PrintStream

module _ {K L E F : Type 0} (f : K → L) (g : E → F) (r : Rules K E) (q : Rules L F) (same : r.side ≡ q.side) (agree : EntriesAgree g r q) (first : option_map f r.first ≡ q.first) (p : Program) where
  arguments_alike : values_map f (handed r.side r.first ++ Ref (arguments_number p) ∷ []) ≡ handed q.side q.first ++ Ref (arguments_number p) ∷ []
  arguments_alike =
      map-append (value_map f) (handed r.side r.first) (Ref (arguments_number p) ∷ [])
      ∙ ap (λ (vs : List (Value L)). vs ++ Ref (arguments_number p) ∷ []) (handed_alike f r.side r.first
      ∙ ap (λ (o : Option L). handed r.side o) first
      ∙ ap (λ (side : Side). handed side q.first) same)

  main_alike : (m : MethodId) → option_map (frame_map f g) (main_frame r p m) ≡ main_frame q p m
  main_alike m =
      begun_alike f g p m (r.entry_of (domain_of p m)) (handed r.side r.first ++ Ref (arguments_number p) ∷ [])
      ∙ ap (λ (e : F). begun p m e (values_map f (handed r.side r.first ++ Ref (arguments_number p) ∷ []))) (agree (domain_of p m))
      ∙ ap (begun p m (q.entry_of (domain_of p m))) arguments_alike

  only_alike : (o : Option (FrameOf K E)) → frames_map f g (option_to_list o) ≡ option_to_list (option_map (frame_map f g) o)
  only_alike None = refl
  only_alike (Some x) = refl

  abbrev began : ℕ → List (FrameOf L F) → Store L → State L F
  began heap frames store = record {
    earlier = [];
    running = record { frames = frames; inherited = None; runnable = 0; failed = false };
    later = [];
    table = threads.opened;
    store = store;
    turns = 0;
  }

  pub state_alike : (m : MethodId) (heap : ℕ) → state_map f g (opening_state r p m heap) ≡ opening_state q p m heap
  unfolding opening_state
  state_alike m heap =
      ap (λ (frames : List (FrameOf L F)). began heap frames (store_map f (opening_store p heap))) (only_alike (main_frame r p m) ∙ ap option_to_list (main_alike m))
      ∙ ap (λ (store : Store L). began heap (option_to_list (main_frame q p m)) store) (store_alike f p heap)

module _ {K L E F : Type 0} (f : K → L) (g : E → F) (r : Rules K E) (q : Rules L F) (agree : RulesAgree f g r q) (p : Program) where
  abbrev opened : Plan → State L F → Run (State L F)
  opened plan s = record { state = s; events = []; end = (opening q p plan).end }

  run_alike : (plan : Plan) (k : ℕ) → run_map (state_map f g) (run r p plan k) ≡ run q p plan k
  unfolding run
  run_alike plan k =
      course_alike (state_map f g) (step r p plan) (step q p plan) (step_alike f g r q agree p plan) k (opening r p plan)
      ∙ ap (λ (s : State L F). run_from (step q p plan) k (opened plan s)) (state_alike f g r q agree.side agree.entries agree.first p plan.main plan.heap)

pub run_law : (K L E F : Type 0) → RunAlike K L E F
run_law K L E F f g r q agree p plan k = run_alike f g r q agree p plan k

pub opening_law : (K L E F : Type 0) → OpeningAlike K L E F
opening_law K L E F f g r q same agree first p main heap = state_alike f g r q same agree first p main heap
