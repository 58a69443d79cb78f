-- Calls leave frames that stand or await what they called.
use Rattle.std.proofs.Common.{◌≡◌, ℕ, suc, ◌+◌, inr, arith, Bool, true, false, List, [], ◌∷◌, ◌++◌, length, Option, Some, None, refl, sym, ap, subst, ◌∙◌}
use Rattle.std.specs.List.{AllByRecursion}
use Rattle.std.specs.Option.{option_to_list}
use Rattle.std.specs.Prelude.{if◌then◌else◌}
use Rattle.std.specs.Str.{bytes_eq}
use Rattle.jlib.specs.declared.calls.LibCall.{LibCall}
use Rattle.jlib.specs.declared.calls.LibCall.TheVariants as calls
use Rattle.jlib.specs.declared.classes.LibClass.TheVariants as lib
use Rattle.jlib.specs.declared.side.Side.{Side}
use Rattle.jlib.specs.declared.side.Side.TheVariants.{Source, Passing}
use Rattle.jlib.specs.LibraryMembers as library_calls
use Rattle.jvalues.specs.declared.jops.value.Value.{Value}
use Rattle.jvalues.specs.declared.jops.value.Value.TheVariants.{Ref}
use Rattle.jtypes.specs.declared.vtype.VType.{VType}
use Rattle.jtypes.specs.declared.vtype.VType.TheVariants as types
use Rattle.jresolution.specs.declared.jprogram.member.Member.{Member}
use Rattle.jresolution.specs.declared.jprogram.member.MethodId.{MethodId}
use Rattle.jresolution.specs.jprogram.ProgramClasses.{Program}
use Rattle.jresolution.specs.jprogram.MemberResolution.{init}
use Rattle.jresolution.specs.declared.juses.meaning.InvokeKind.{InvokeKind}
use Rattle.jresolution.specs.declared.juses.meaning.InvokeKind.TheVariants as how
use Rattle.jresolution.specs.juses.InstructionMeanings.{CallMeaning}
use Rattle.jresolution.specs.juses.DescriptorTypes.{Called, Typed, typed}
use Rattle.jtyping.specs.jrule.InstructionContext.{Here}
use Rattle.jtyping.specs.jrule.PoolEffects.{of_library}
use Rattle.jtyping.specs.jwelltyped.MethodPremises.{here_of}
use Rattle.jsemantics.specs.declared.jmachine.plan.Plan.{Plan}
use Rattle.jsemantics.specs.jmachine.MachineStates.{Act, Calls, FrameOf, Goes, Makes, Raises, Row, State, Switches, free, raises}
use Rattle.jsemantics.specs.jmachine.CallTargets.{Fails, Pushes, Runs, Target, by_interface}
use Rattle.jsemantics.specs.jmachine.InstructionActions.{called}
use Rattle.jsemantics.specs.jmachine.FrameOperations.{onward, with_operands}
use Rattle.jsemantics.specs.jmachine.HeapObjects.{Object}
use Rattle.jsemantics.specs.jmachine.PrivilegeActions.{run_action}
use Rattle.jsemantics.specs.jmachine.Security.{Rules, handed}
use Rattle.jsemantics.specs.jmachine.InstructionSites.{Site}
use Rattle.jsemantics.specs.jmachine.Store.{Store}
use Rattle.jsemantics.specs.jmachine.World.{world}
use Rattle.jsoundness_laws.specs.typed.TypedCalls.{Coded, IsGiven, IsInitTarget, IsTarget, method}
use Rattle.jsoundness_laws.specs.typed.TypedFrames.{AllHave, AllHold, Has, Holds, News}
use Rattle.jsoundness_laws.specs.typed.StoreGrowth.{Grows}
use Rattle.jsoundness_laws.specs.typed.FrameStacks.{Awaits, Guarded, Stands}
use Rattle.jsoundness_laws.specs.typed.TypedStores.{IsStored}
use Rattle.jsoundness_laws.specs.typed.TypedUses.{static_types}
use Rattle.jsoundness_laws.specs.typed.TypedValues.{AreOf, HasDimensions, IsA}
use Rattle.jsoundness_laws.proofs.TypedProofs.Dimensions.{IsTypedNamed}
use Rattle.jsoundness_laws.proofs.TypedProofs.StoreMonotonicity.{grows_itself}
use Rattle.jsoundness_laws.proofs.TypedProofs.States.{awaits_later, returned_suits}
use Rattle.jsoundness_laws.specs.library.LibraryArguments.{way_of}
use Rattle.jsoundness_laws.specs.library.YieldLaws.{AreSided}
use Rattle.jsoundness_laws.specs.library.LibraryResults.{IsAction, IsReadied, YieldsOf, run_given}
use Rattle.jsoundness_laws.proofs.LibraryProofs.LibraryCalls.{inits_yield, runs_yield}
use Rattle.jsoundness_laws.proofs.LibraryProofs.LibraryCallRows.{a_context}
use Rattle.jsoundness_laws.proofs.ProgressProofs.ProgramPremises.{IsFounded}
use Rattle.jsoundness_laws.specs.progress.TypedStates.{IsTypedState}
use Rattle.jsoundness_laws.proofs.ProgressProofs.ActOutcomes.{After}
use Rattle.jsoundness_laws.proofs.ProgressProofs.InstructionPreservation.{stands_by}
use Rattle.jsoundness_laws.proofs.ProgressProofs.Interfaces.{interface_comes}
use Rattle.jsoundness_laws.proofs.ProgressProofs.RunMethods.{action_run}

-- ---- at another place of the method

module _ {K : Type 0} (p : Program) (s : Store K) (m : MethodId) (x : Coded p m) (a b : ℕ) (news : News) where
  abbrev First : Here
  First = here_of p (method p m x) a

  abbrev Other : Here
  Other = here_of p (method p m x) b

  has_there : (t : VType) (v : Value K) → Has (world p) s First news t v → Has (world p) s Other news t v
  has_there types.Top v h = tt
  has_there types.UninitThis v h = h
  has_there (types.Uninit o) v h = h
  has_there types.Int v h = h
  has_there types.Long v h = h
  has_there types.Null v h = h
  has_there (types.Object c) v h = h
  has_there (types.Array d) v h = h
  has_there types.Ctx v h = h

  pub have_there : (ts : List VType) (vs : List (Value K)) → AllHave (world p) s First news ts vs → AllHave (world p) s Other news ts vs
  have_there [] [] h = tt
  have_there [] (v ∷ vs) h = absurd h
  have_there (t ∷ ts) [] h = absurd h
  have_there (t ∷ ts) (v ∷ vs) h = (has_there t v h.0, have_there ts vs h.1)

  hold_there : (t : VType) (y : Option (Value K)) → Holds (world p) s First news t y → Holds (world p) s Other news t y
  hold_there t None h = h
  hold_there t (Some v) h = has_there t v h

  pub all_there : (ts : List VType) (ls : List (Option (Value K))) → AllHold (world p) s First news ts ls → AllHold (world p) s Other news ts ls
  all_there [] [] h = tt
  all_there [] (y ∷ ls) h = absurd h
  all_there (t ∷ ts) [] h = absurd h
  all_there (t ∷ ts) (y ∷ ls) h = (hold_there t y h.0, all_there ts ls h.1)

-- ---- what is returned

pub ret_dimensions : (p : Program) (t : Typed) (params : List VType) (ret : Option VType) → t ≡ Called params ret → IsTypedNamed p t
    → AllByRecursion HasDimensions (option_to_list ret)
ret_dimensions p t params ret e h = go ret (subst (λ t. IsTypedNamed p t) e h)
  where
    go : (ret : Option VType) → IsTypedNamed p (Called params ret) → AllByRecursion HasDimensions (option_to_list ret)
    go None h = tt
    go (Some t) h = (h.1.0.1, tt)

-- ---- frames that await

-- with what was awaited, a frame goes on
pub goes_onward : {K E : Type 0} (p : Program) → IsFounded p → (t : Store K) (f : FrameOf K E) (ret : Option VType) (values : List (Value K)) → (x : Awaits p t ret f)
    → AreOf (world p) t (option_to_list ret) values → AllByRecursion HasDimensions (option_to_list ret) → Stands p t (onward f values)
goes_onward p sound t f ret values x are dims =
    stands_by p f.method x.coded x.is_typed x.news t (suc f.place) (onward f values) (returned_suits p t ret f x values sound.stands are dims) refl (sym (suc_is f.place))
  where
    suc_is : (n : ℕ) → n + 1 ≡ suc n
    suc_is n = omega arith

-- what a thread inherits is what `run` is given
handed_kept : {K : Type 0} (p : Program) (t : Store K) (side : Side) (kept : K) → AreOf (world p) t (run_given side) (handed side (Some kept))
handed_kept p t Source kept = tt
handed_kept p t Passing kept = (a_context (world p) t kept, tt)

-- ---- what the library's rows leave

module _ {K E : Type 0} (r : Rules K E) (p : Program) (plan : Plan) (s : State K E) (sound : IsFounded p) (state : IsTypedState p r.side s) (on_side : r.side ≡ p.side) where
  abbrev Left : FrameOf K E → Act K E → Type 0
  Left f act = After r p plan s sound state f act

  -- frames that await, in each store behind in which the object of an `<init>` may be used
  abbrev AwaitsThen : InvokeKind → List (Value K) → Option VType → FrameOf K E → Type 0
  AwaitsThen by values ret f = (t : Store K) → Grows (world p) s.store t → IsReadied by values t → Awaits p t ret f

  pushed_given : (at : Site) → at.world ≡ world p → (m : MethodId) (arguments : List (Value K)) → IsAction r.side at s.store m arguments
      → IsGiven p s.store m (Some (of_library lib.Object)) arguments
  pushed_given at in_world m arguments a =
      let typed : AreOf (world p) s.store (run_given p.side) a.given =
      subst (λ side. AreOf (world p) s.store (run_given side) a.given) on_side (subst (λ w. AreOf w s.store (run_given r.side) a.given) in_world a.typed) in
      let comes = interface_comes p lib.PrivilegedAction (calls.RunAction p.side) (Some (of_library lib.Object)) (action_run p sound) sound at s.store in_world a.given a.number a.object a.there typed
      (subst (λ w. IsA w s.store (of_library lib.PrivilegedAction) (Ref a.number)) in_world a.action) in
      let chosen : by_interface at.world at.full (run_action p.side) a.object ≡ Pushes m =
      ap (λ side. by_interface at.world at.full (run_action side) a.object) (sym on_side) ∙ a.chosen in
      subst (λ values. IsGiven p s.store m (Some (of_library lib.Object)) values) (sym a.are)
      (subst (λ t. IsTarget p s.store (Some (of_library lib.Object)) (a.given ++ Ref a.number ∷ []) t) chosen comes)

  -- what a row of the library yields leaves frames that stand
  pub yields_left : (at : Site) → at.world ≡ world p → at.table ≡ s.table → (by : InvokeKind) (values : List (Value K)) (ret : Option VType) (f : FrameOf K E) (act : Act K E)
      → AllByRecursion HasDimensions (option_to_list ret) → AwaitsThen by values ret f → Guarded p s.store f → YieldsOf r.side at s.store (static_types p) by values ret act
      → Left f act
  yields_left at in_world table by values ret f (Goes t results events) dims awaits guarded h =
      let grows = subst (λ w. Grows w s.store t) in_world h.0.grows in (
        grows,
        subst (λ w. IsStored w t (static_types p)) in_world h.0.stored,
        goes_onward p sound t f ret results (awaits t grows h.2) (subst (λ w. AreOf w t (option_to_list ret) results) in_world h.1) dims,
      )
  yields_left at in_world table by values ret f (Calls m arguments entry) dims awaits guarded h =
      (ret, subst (λ ret. IsGiven p s.store m ret arguments) (sym h.0) (pushed_given at in_world m arguments h.1), awaits s.store (grows_itself K (world p) s.store) h.2)
  yields_left at in_world table by values ret f (Raises events class message) dims awaits guarded h = (h, guarded)
  yields_left at in_world table by values ret f (Switches other) dims awaits guarded h =
      (h.1 ∙ ap length table, nothing_more s.store h.0 (awaits s.store (grows_itself K (world p) s.store) h.2))
    where
      nothing_more : (t : Store K) → ret ≡ None → Awaits p t ret f → Stands p t (onward f [])
      nothing_more t none x = goes_onward p sound t f None [] (subst (λ ret. Awaits p t ret f) none x) tt tt
  yields_left at in_world table by values ret f (Makes t runnable kept) dims awaits guarded h =
      let grows = subst (λ w. Grows w s.store t) in_world h.1.grows in (
        grows,
        subst (λ w. IsStored w t (static_types p)) in_world h.1.stored,
        goes_onward p sound t f None [] (subst (λ ret. Awaits p t ret f) h.0 (awaits t grows h.3)) tt tt,
        inr (subst (λ w. IsA w t (of_library lib.Runnable) (Ref runnable)) in_world h.2, handed_kept p t r.side kept),
      )
  yields_left at in_world table by values ret f act dims awaits guarded h = absurd h

  -- ---- what a call comes to

  -- a row that is done leaves frames that stand
  pub record IsDone (f : FrameOf K E) (found : Option (Row K E)) : Type 0 where
    pub row : Row K E
    pub is : found ≡ Some row
    pub after : Left f row.act

  -- with the operands taken
  abbrev Taken : FrameOf K E → List (Value K) → FrameOf K E
  Taken f under = with_operands f under

  module _ (sided : AreSided r) (at : Site) (own : Member → Bool) (entries : List E) (inherited : Option K) (in_world : at.world ≡ world p) (table : at.table ≡ s.table) where
    stored : IsStored at.world s.store (static_types p)
    stored = subst (λ w. IsStored w s.store (static_types p)) (sym in_world) state.stored

    pub target_done : (by : InvokeKind) (ret : Option VType) (values : List (Value K)) (f : FrameOf K E) (t : Target) → AllByRecursion HasDimensions (option_to_list ret)
        → Awaits p s.store ret f → Guarded p s.store f → IsTarget p s.store ret values t → IsDone f (called r at own s.store entries inherited values t)
    target_done by ret values f (Fails class) dims awaits guarded h = record { row = raises class; is = refl; after = (h, guarded) }
    target_done by ret values f (Pushes m) dims awaits guarded h = record { row = free (Calls m values None); is = refl; after = (ret, h, awaits) }
    target_done by ret values f (Runs call) dims awaits guarded h =
        let x = runs_yield K E r at own s.store entries inherited p (static_types p) call ret values sound.stands in_world on_side sided stored h in record {
          row = x.row;
          is = x.is;
          after = yields_left at in_world table (way_of call) values ret f x.row.act dims (λ t grows ready. awaits_later p s.store t grows ret f awaits) guarded x.act;
        }

    -- and for an `<init>`
    init_way : (call : LibCall) → library_calls.is_static call ≡ false → bytes_eq (library_calls.name_of_call call) init ≡ true → way_of call ≡ how.Init
    init_way call static named =
        ap (λ b. if b then how.Static else (if bytes_eq (library_calls.name_of_call call) init then how.Init else how.Virtual)) static
        ∙ ap (λ b. if b then how.Init else how.Virtual) named

    pub init_done : (c : CallMeaning) (values : List (Value K)) (f : FrameOf K E) (t : Target) → AllByRecursion HasDimensions (option_to_list c.ret)
        → AwaitsThen how.Init values c.ret f → ((m : MethodId) → t ≡ Pushes m → Awaits p s.store c.ret f) → Guarded p s.store f → IsInitTarget p s.store c values t
        → IsDone f (called r at own s.store entries inherited values t)
    init_done c values f (Fails class) dims awaits now guarded h = record { row = raises class; is = refl; after = (h, guarded) }
    init_done c values f (Pushes m) dims awaits now guarded h = record { row = free (Calls m values None); is = refl; after = (c.ret, h, now m refl) }
    init_done c values f (Runs call) dims awaits now guarded h =
        let x = inits_yield K E r at own s.store entries inherited p (static_types p) c.owner call c.ret values sound.stands in_world on_side sided stored (init_way call h.static h.named) h in record {
          row = x.row;
          is = x.is;
          after = yields_left at in_world table how.Init values c.ret f x.row.act dims awaits guarded x.act;
        }
