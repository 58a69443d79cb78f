-- What is chosen where `run` of an action or of a Runnable is called: a method of a user, or an exception comes that can be thrown.
use Rattle.std.proofs.Common.{◌≡◌, ℕ, Bool, true, false, List, [], ◌∷◌, Option, Some, None, refl, sym, ap, subst, ◌∙◌}
use Rattle.std.specs.Bool.{⊤}
use Rattle.std.specs.Prelude.{not, codes, option_and_then, if◌then◌else◌}
use Rattle.std.specs.List.{cons_option, find}
use Rattle.std.specs.Option.{option_map}
use Rattle.std.specs.Str.{bytes_eq}
use Rattle.jground.specs.jbase.FirstFaults.{fault_if, or_else}
use Rattle.jlib.specs.declared.calls.BuilderCall.TheVariants as builders
use Rattle.jlib.specs.declared.calls.ControllerCall.TheVariants as controllers
use Rattle.jlib.specs.declared.calls.LibCall.{LibCall}
use Rattle.jlib.specs.declared.calls.LibCall.TheVariants as calls
use Rattle.jlib.specs.declared.calls.PermissionInit.TheVariants as inits
use Rattle.jlib.specs.declared.calls.PrintedType.TheVariants as pieces
use Rattle.jlib.specs.declared.calls.RtCall.TheVariants as rt
use Rattle.jlib.specs.declared.calls.StringCall.TheVariants as strings
use Rattle.jlib.specs.declared.calls.ThreadCall.TheVariants as thread_calls
use Rattle.jlib.specs.declared.calls.ThrownInit.TheVariants as given
use Rattle.jlib.specs.declared.classes.LibClass.TheVariants as lib
use Rattle.jlib.specs.declared.side.Side.{Side}
use Rattle.jlib.specs.declared.side.Side.TheVariants.{Source, Passing}
use Rattle.jlib.specs.LibraryMembers.{desc_of as desc_of_call, is_field, member_named, name_of_call, owner}
use Rattle.jlib.specs.LibraryClasses as library
use Rattle.jlib.proofs.LibraryLookup.{call_found}
use Rattle.jtypes.specs.declared.vtype.VType.TheVariants as types
use Rattle.jresolution.specs.declared.jprogram.member.CallKind.TheVariants as kinds
use Rattle.jresolution.specs.declared.jprogram.member.ClassId.{ClassId}
use Rattle.jresolution.specs.declared.jprogram.member.Member.{Member}
use Rattle.jresolution.specs.declared.jprogram.member.Member.TheVariants.{Field, Method, LibField, LibMethod}
use Rattle.jresolution.specs.declared.jprogram.member.MethodId.{MethodId}
use Rattle.jresolution.specs.declared.jprogram.member.Selected.{Selected}
use Rattle.jresolution.specs.declared.jprogram.member.Selected.TheVariants as selected
use Rattle.jresolution.specs.jprogram.ProgramClasses as classes
use Rattle.jresolution.specs.jprogram.ProgramClasses.{Class, Lib, Program, User}
use Rattle.jresolution.specs.jprogram.MemberResolution.{as_selected, desc_of, first_by, is_abstract, is_static, lib_method, method_id, method_at, method_in, methods_along, name_of, name_of_id, select}
use Rattle.jresolution.specs.jprogram.OrderedPrograms.{StandsInOrder}
use Rattle.jresolution.specs.juses.InstructionMeanings.{CallMeaning}
use Rattle.jresolution.specs.juses.DescriptorTypes.{Called, typed}
use Rattle.jtyping.specs.jrule.PoolEffects.{of_library}
use Rattle.jsemantics.specs.jmachine.CallTargets.{Target, Fails, Runs, by_interface, is_hidden, no_access, reached, unless, wrong_class}
use Rattle.jsemantics.specs.jmachine.HeapObjects.{Object, class_of, id_of}
use Rattle.jsemantics.specs.jmachine.PrivilegeActions.{run_action}
use Rattle.jsemantics.specs.jmachine.World.{World, is_instance, world}
use Rattle.jsoundness_laws.specs.typed.ProgressLaws.{HasCode}
use Rattle.jsoundness_laws.specs.typed.TypedValues.{CanBeThrown}
use Rattle.jsoundness_laws.proofs.TypedProofs.Codes.{selected_coded}
use Rattle.jsoundness_laws.specs.library.YieldLaws.{ActionSays, InterfaceRaises, RunIsUsers, RunSays, run_call}
use Rattle.jsoundness_laws.specs.library.LibraryResults.{run_given}
use Rattle.jsoundness_laws.proofs.LibraryProofs.MemberDescriptors as signed

-- ---- exceptions

abbrev RaisesOnly : Target → Type 0
RaisesOnly (Fails class) = CanBeThrown class
RaisesOnly t = ⊤

reached_only : (full : Bool) (found : Selected) → RaisesOnly (reached full found)
reached_only true (selected.Method m) = tt
reached_only false (selected.Method m) = tt
reached_only full (selected.Lib call) = tt
reached_only full (selected.Abstract m) = tt
reached_only full selected.Missing = tt

tested_only : (a b : Bool) (t : Target) → RaisesOnly t → RaisesOnly (unless (or_else (fault_if a wrong_class) (fault_if b no_access)) t)
tested_only true b t h = tt
tested_only false true t h = tt
tested_only false false t h = h

-- a call by an interface raises what can be thrown
interface_only : {K : Type 0} (w : World) (full : Bool) (c : CallMeaning) (x : Object K) → RaisesOnly (by_interface w full c x)
interface_only w full c x =
    let found = w.select (id_of x) c.member kinds.Interface in
    tested_only (not (is_instance w (class_of w.named x) (types.Object c.owner))) (is_hidden w found) (reached full found) (reached_only full found)

pub interface_raises : (K : Type 0) → InterfaceRaises K
interface_raises K w full c x class e = subst RaisesOnly e (interface_only w full c x)

-- ---- what is selected has the name

reached_lib : (full : Bool) (found : Selected) (call : LibCall) → reached full found ≡ Runs call → found ≡ selected.Lib call
reached_lib true (selected.Method m) call e = absurd (cc)
reached_lib false (selected.Method m) call e = absurd (cc)
reached_lib full (selected.Lib other) call e = cc
reached_lib full (selected.Abstract m) call e = absurd (cc)
reached_lib full selected.Missing call e = absurd (cc)

tested_runs : (a b : Bool) (t : Target) (call : LibCall) → unless (or_else (fault_if a wrong_class) (fault_if b no_access)) t ≡ Runs call → t ≡ Runs call
tested_runs true b t call e = absurd (cc)
tested_runs false true t call e = absurd (cc)
tested_runs false false t call e = e

interface_selected : {K : Type 0} (w : World) (full : Bool) (c : CallMeaning) (x : Object K) (call : LibCall) → by_interface w full c x ≡ Runs call
    → w.select (id_of x) c.member kinds.Interface ≡ selected.Lib call
interface_selected w full c x call e =
    let found = w.select (id_of x) c.member kinds.Interface in
    reached_lib full found call (tested_runs (not (is_instance w (class_of w.named x) (types.Object c.owner))) (is_hidden w found) (reached full found) call e)

module _ (p : Program) where
  some_is : {A : Type 0} (a b : A) → Some a ≡ Some b → a ≡ b
  some_is a b e = cc

  no_method : (b : Bool) (m : Member) (n : MethodId) (call : LibCall) → (if b then selected.Abstract m else selected.Method n) ≡ selected.Lib call → ⊥
  no_method true m n call e = cc
  no_method false m n call e = cc

  same_call : (b : Bool) (m : Member) (a call : LibCall) → (if b then selected.Abstract m else selected.Lib a) ≡ selected.Lib call → a ≡ call
  same_call true m a call e = absurd (cc)
  same_call false m a call e = cc

  selected_member : (o : Option Member) (call : LibCall) → as_selected p o ≡ selected.Lib call → o ≡ Some (LibMethod call)
  unfolding is_abstract
  selected_member None call e = absurd (cc)
  selected_member (Some (Field i j)) call e = absurd (cc)
  selected_member (Some LibField) call e = absurd (cc)
  selected_member (Some (Method m)) call e = absurd (no_method (is_abstract p (Method m)) (Method m) m call e)
  selected_member (Some (LibMethod m)) call e = ap (λ m. Some (LibMethod m)) (same_call (library.is_interface (owner m)) (LibMethod m) m call e)

  -- a method that is found along classes is declared by one
  abbrev IsDeclared : List ℕ → List ℕ → Member → Type 0
  IsDeclared name desc m = (c : List ℕ) × (method_at p name desc c ≡ Some m)

  found_here : (t : Member → Bool) (name desc c : List ℕ) (x m : Member) (rest : List Member) → method_at p name desc c ≡ Some x → (find t rest ≡ Some m → IsDeclared name desc m)
      → (b : Bool) → (if b then Some x else find t rest) ≡ Some m → IsDeclared name desc m
  found_here t name desc c x m rest is more true e = (c, is ∙ e)
  found_here t name desc c x m rest is more false e = more e

  found_first : (t : Member → Bool) (name desc c : List ℕ) (m : Member) (rest : List Member) → (find t rest ≡ Some m → IsDeclared name desc m)
      → (o : Option Member) → method_at p name desc c ≡ o → find t (cons_option o rest) ≡ Some m → IsDeclared name desc m
  found_first t name desc c m rest more None is e = more e
  found_first t name desc c m rest more (Some x) is e = found_here t name desc c x m rest is more (t x) e

  found_along : (t : Member → Bool) (name desc : List ℕ) (names : List (List ℕ)) (m : Member) → find t (methods_along p name desc names) ≡ Some m → IsDeclared name desc m
  found_along t name desc [] m e = absurd (cc)
  found_along t name desc (c ∷ names) m e = found_first t name desc c m (methods_along p name desc names) (λ e. found_along t name desc names m e) (method_at p name desc c) refl e

  no_user : (o : Option ℕ) (i : ℕ) (call : LibCall) → option_map (λ j. Method (method_id i j)) o ≡ Some (LibMethod call) → ⊥
  no_user None i call e = cc
  no_user (Some j) i call e = cc

  declared_in : (name desc : List ℕ) (c : Class) (call : LibCall) → method_in p.side c name desc ≡ Some (LibMethod call) → name_of_call call ≡ name
  declared_in name desc (User i part) call e = absurd (no_user _ i call e)
  declared_in name desc (Lib c) call e = go (member_named p.side (library.name_of c) name desc) refl e
    where
      method : (m : LibCall) (b : Bool) → (if b then None else Some (LibMethod m)) ≡ Some (LibMethod call) → m ≡ call
      method m true e = absurd (cc)
      method m false e = cc

      go : (o : Option LibCall) → member_named p.side (library.name_of c) name desc ≡ o → option_and_then lib_method o ≡ Some (LibMethod call) → name_of_call call ≡ name
      go None is e = absurd (cc)
      go (Some m) is e = ap name_of_call (sym (method m (is_field m) e)) ∙ (call_found p.side (library.name_of c) name desc m is).1

  declared_name : (name desc : List ℕ) (call : LibCall) → IsDeclared name desc (LibMethod call) → name_of_call call ≡ name
  declared_name name desc call d = go (classes.find p d.0) d.1
    where
      go : (o : Option Class) → option_and_then (λ c. method_in p.side c name desc) o ≡ Some (LibMethod call) → name_of_call call ≡ name
      go None e = absurd (cc)
      go (Some c) e = declared_in name desc c call e

  selected_name : (on : ClassId) (m : Member) (call : LibCall) → select p on m kinds.Interface ≡ selected.Lib call → name_of_call call ≡ name_of p m
  unfolding select
  selected_name on m call e =
      let first = selected_member (first_by p kinds.Interface m (methods_along p (name_of p m) (desc_of p m) (classes.up p (name_of_id p on)))) call e in
      declared_name (name_of p m) (desc_of p m) call (found_along (λ m. not (is_static p m)) (name_of p m) (desc_of p m) (classes.up p (name_of_id p on)) (LibMethod call) first)

-- ---- no member of the library with code is called `run`

abbrev IsCalledRun : LibCall → Type 0
IsCalledRun call = bytes_eq (name_of_call call) (codes "run") ≡ true

no_run : (call : LibCall) → IsCalledRun call → HasCode call → ⊥
no_run calls.ObjectInit e h = absurd (cc)
no_run (calls.ThrownInit one given.Message) e h = absurd (cc)
no_run (calls.ThrownInit one given.Nothing) e h = absurd (cc)
no_run calls.AccessControlInit e h = absurd (cc)
no_run calls.GetMessage e h = absurd (cc)
no_run (calls.String strings.Length) e h = absurd (cc)
no_run (calls.String strings.CharAt) e h = absurd (cc)
no_run (calls.String strings.Equals) e h = absurd (cc)
no_run (calls.String strings.Concat) e h = absurd (cc)
no_run (calls.Builder builders.Init) e h = absurd (cc)
no_run (calls.Builder builders.InitText) e h = absurd (cc)
no_run (calls.Builder (builders.Append pieces.Int)) e h = absurd (cc)
no_run (calls.Builder (builders.Append pieces.Long)) e h = absurd (cc)
no_run (calls.Builder (builders.Append pieces.Char)) e h = absurd (cc)
no_run (calls.Builder (builders.Append pieces.Bool)) e h = absurd (cc)
no_run (calls.Builder (builders.Append pieces.Text)) e h = absurd (cc)
no_run (calls.Builder builders.ToString) e h = absurd (cc)
no_run calls.Out e h = absurd (cc)
no_run calls.PrintEnd e h = absurd (cc)
no_run (calls.Print pieces.Int) e h = absurd (cc)
no_run (calls.Print pieces.Long) e h = absurd (cc)
no_run (calls.Print pieces.Char) e h = absurd (cc)
no_run (calls.Print pieces.Bool) e h = absurd (cc)
no_run (calls.Print pieces.Text) e h = absurd (cc)
no_run (calls.Run Source) e h = absurd (cc)
no_run (calls.Run Passing) e h = absurd (cc)
no_run (calls.Thread (thread_calls.Init Source)) e h = absurd (cc)
no_run (calls.Thread (thread_calls.Init Passing)) e h = absurd (cc)
no_run (calls.Thread thread_calls.Start) e h = absurd (cc)
no_run (calls.Thread thread_calls.Join) e h = absurd (cc)
no_run (calls.Thread thread_calls.Yield) e h = absurd (cc)
no_run (calls.RunAction Source) e h = absurd (cc)
no_run (calls.RunAction Passing) e h = absurd (cc)
no_run (calls.Controller controllers.Check) e h = absurd (cc)
no_run (calls.Controller controllers.Snapshot) e h = absurd (cc)
no_run (calls.Controller controllers.Privileged) e h = absurd (cc)
no_run (calls.Controller controllers.PrivilegedWith) e h = absurd (cc)
no_run (calls.Controller controllers.PrivilegedLimited) e h = absurd (cc)
no_run calls.ContextCheck e h = absurd (cc)
no_run (calls.PermissionInit inits.All) e h = absurd (cc)
no_run (calls.PermissionInit inits.Runtime) e h = absurd (cc)
no_run (calls.PermissionInit inits.RuntimeActions) e h = absurd (cc)
no_run (calls.PermissionInit inits.Security) e h = absurd (cc)
no_run (calls.PermissionInit inits.SecurityActions) e h = absurd (cc)
no_run (calls.PermissionInit inits.Property) e h = absurd (cc)
no_run (calls.PermissionInit inits.File) e h = absurd (cc)
no_run (calls.Rt rt.Enter) e h = absurd (cc)
no_run (calls.Rt rt.Check) e h = absurd (cc)
no_run (calls.Rt rt.Snapshot) e h = absurd (cc)
no_run (calls.Rt rt.Privileged) e h = absurd (cc)
no_run (calls.Rt rt.PrivilegedWith) e h = absurd (cc)
no_run (calls.Rt rt.PrivilegedLimited) e h = absurd (cc)

run_named : (p : Program) (side : Side) → bytes_eq (name_of p (LibMethod (calls.Run side))) (codes "run") ≡ true
unfolding name_of
run_named p Source = refl
run_named p Passing = refl

action_named : (p : Program) (side : Side) → bytes_eq (name_of p (LibMethod (calls.RunAction side))) (codes "run") ≡ true
unfolding name_of
action_named p Source = refl
action_named p Passing = refl

never_by : (p : Program) (on : ClassId) (m : Member) (call : LibCall) → bytes_eq (name_of p m) (codes "run") ≡ true → select p on m kinds.Interface ≡ selected.Lib call → ⊥
never_by p on m call named e = no_run call (ap (λ n. bytes_eq n (codes "run")) (selected_name p on m call e) ∙ named) (selected_coded p on m kinds.Interface call e)

select_of : (p : Program) (on : ClassId) (m : Member) (found : Selected) → (world p).select on m kinds.Interface ≡ found → select p on m kinds.Interface ≡ found
unfolding world
select_of p on m found e = e

pub action_users : (K : Type 0) → RunIsUsers K run_action
action_users K p full side x call e =
    never_by p (id_of x) (LibMethod (calls.RunAction side)) call (action_named p side)
    (select_of p (id_of x) (LibMethod (calls.RunAction side)) (selected.Lib call) (interface_selected (world p) full (run_action side) x call e))

pub run_users : (K : Type 0) → RunIsUsers K run_call
run_users K p full side x call e =
    never_by p (id_of x) (LibMethod (calls.Run side)) call (run_named p side)
    (select_of p (id_of x) (LibMethod (calls.Run side)) (selected.Lib call) (interface_selected (world p) full (run_call side) x call e))

-- ---- descriptors

run_on : (p : Program) → StandsInOrder p → (side : Side) → p.side ≡ side → typed p (desc_of_call (calls.Run side)) ≡ Called (run_given side) None
run_on p good Source is = signed.nothing_says p good
run_on p good Passing is = signed.run_passed_says p good (ap (λ side. library.stands_on side lib.Ctx) is)

pub run_says : RunSays
run_says p good = run_on p good p.side refl

action_on : (p : Program) → StandsInOrder p → (side : Side) → p.side ≡ side → typed p (desc_of_call (calls.RunAction side)) ≡ Called (run_given side) (Some (of_library lib.Object))
action_on p good Source is = signed.run_says p good
action_on p good Passing is = signed.action_passed_says p good (ap (λ side. library.stands_on side lib.Ctx) is)

pub action_says : ActionSays
action_says p good = action_on p good p.side refl
