-- What a machine has to know of a program and of the moved program, and nothing of bytes, pools and descriptors: that they have the same
-- classes and fields; which instructions stand for which, and which handlers; that calls come to the same methods; and that a method is
-- given as many values as it has places for. The simulation stands on this alone.
use Rattle.std.specs.Prelude.{◌≡◌, ◌<◌, ◌≤◌, ◌+◌, ℕ, Bool, true, List, [], ◌∷◌, length, Some, None, option_map, slice_get}
use Rattle.jlib.specs.declared.side.Side.{Side}
use Rattle.jlib.specs.declared.side.Side.TheVariants.{Source, Passing}
use Rattle.jlib.specs.declared.calls.ControllerCall.{ControllerCall}
use Rattle.jlib.specs.declared.calls.LibCall.TheVariants as calls
use Rattle.jlib.specs.declared.calls.RtCall.{RtCall}
use Rattle.jlib.specs.declared.classes.LibClass.TheVariants as lib
use Rattle.jtypes.specs.declared.vtype.Name.{Name}
use Rattle.jtypes.specs.declared.vtype.VType.{VType}
use Rattle.jclass.specs.declared.class.CodeBody.{CodeBody}
use Rattle.jresolution.specs.declared.jprogram.member.Member.{Member}
use Rattle.jresolution.specs.declared.jprogram.member.Member.TheVariants.{LibMethod}
use Rattle.jresolution.specs.declared.jprogram.member.MethodId.{MethodId}
use Rattle.jresolution.specs.declared.jprogram.member.Selected.TheVariants as selected
use Rattle.jresolution.specs.jprogram.ProgramClasses.{Program}
use Rattle.jresolution.specs.jprogram.MemberResolution.{main_of}
use Rattle.jresolution.specs.declared.juses.meaning.InvokeKind.{InvokeKind}
use Rattle.jresolution.specs.declared.juses.meaning.InvokeKind.TheVariants as how
use Rattle.jresolution.specs.juses.IndexedInstructions.{Instruction, Used, code_at}
use Rattle.jresolution.specs.juses.InstructionMeanings.{Call, CallMeaning, Make}
use Rattle.jvalues.specs.declared.jops.value.Value.{Value}
use Rattle.jvalues.specs.declared.jops.value.Value.TheVariants.{Ctx}
use Rattle.jctx.specs.declared.item.Item.{Item}
use Rattle.jsemantics.specs.jmachine.AccessQueries.{call_taken}
use Rattle.jsemantics.specs.jmachine.CallTargets.{Target, Pushes, by_interface, target}
use Rattle.jsemantics.specs.jmachine.FrameOperations.{domain_of, places_of}
use Rattle.jsemantics.specs.jmachine.HeapObjects.{Object, library_name}
use Rattle.jsemantics.specs.jmachine.TakenOperands.{Taken}
use Rattle.jsemantics.specs.jmachine.PrivilegeActions.{run_action}
use Rattle.jsemantics.specs.jmachine.OpeningState.{opening_charge, opening_store, strings}
use Rattle.jsemantics.specs.jmachine.InstructionSites.{Site}
use Rattle.jsemantics.specs.jmachine.MachineSteps.{fetched, own_fields}
use Rattle.jsemantics.specs.jmachine.Store.{Store}
use Rattle.jsemantics.specs.jmachine.Unwinding.{handler_at}
use Rattle.jsemantics.specs.jmachine.World.{World, world}
use Rattle.jsimulation_laws.specs.relation.InstructionExpansion.{Alone, Handed, Place, asking_params, comes_alone, comes_handed, expanded, handed, moved_target, prologue, way_of}

-- ---- classes and fields

-- Two worlds have the same classes and fields. In what calls ask, and in the names that are found, they may differ.
pub record SameClasses (w v : World) : Type 0 where
  pub tree : v.tree ≡ w.tree
  pub named : v.named ≡ w.named
  pub implements : v.implements ≡ w.implements
  pub layout : v.layout ≡ w.layout
  pub slot : v.slot ≡ w.slot
  pub element : v.element ≡ w.element

-- ---- the code of a method

-- a method's code and what it became: `at` says with which number the expansion of each instruction begins
pub record MovedCode (p q : Program) (m : MethodId) (body : CodeBody) : Type 0 where
  -- those of the parameters and of `this`, behind which the caller's context is handed
  pub slots : ℕ
  pub place : Place
  pub at : ℕ → ℕ
  pub moved : CodeBody
  pub is : code_at q m ≡ Some moved
  pub domain : place.domain ≡ domain_of p m
  -- the context's local is the last, behind the old locals and the parameters
  pub most : moved.max_locals ≡ place.local + 1
  pub behind : body.max_locals ≤ place.local
  pub behind_slots : slots < place.local
  -- behind the prologue, one expansion stands behind the other
  pub first : (j : ℕ) (i : Instruction) → slice_get (prologue slots place) j ≡ Some i → fetched q m j ≡ Some i
  pub begins : at 0 ≡ 4
  pub next : (n : ℕ) (i : Instruction) → fetched p m n ≡ Some i → at (n + 1) ≡ at n + length (expanded place at i)
  pub fetches : (n j : ℕ) (i x : Instruction) → fetched p m n ≡ Some i → slice_get (expanded place at i) j ≡ Some x → fetched q m (at n + j) ≡ Some x
  -- what is thrown in an expansion goes on where what its instruction throws does
  pub handles : (class : VType) (n j : ℕ) (i : Instruction) → fetched p m n ≡ Some i → j < length (expanded place at i)
      → handler_at q class m (at n + j) ≡ option_map at (handler_at p class m n)

-- ---- calls

-- the same place of an instruction, in another program
abbrev pub there : Program → Site → Site
there q at = record at { world = world q }

-- a call stands at a number in a method, and took these of the operands
pub record Calling (p : Program) (m : MethodId) (at : Site) (s : Store (List Item)) (by : InvokeKind) (c : CallMeaning)
    (operands : List (Value (List Item)))
    (t : Taken (List Item)) : Type 0 where
  pub number : ℕ
  pub is : fetched p m number ≡ Some (Used (Call by c))
  pub in_program : at.world ≡ world p
  pub in_class : at.class ≡ m.class
  pub taken : call_taken Source at s by c operands ≡ Some t

-- a method of AccessController is called as it was declared
pub record AsDeclared (by : InvokeKind) (c : CallMeaning) (call : ControllerCall) : Type 0 where
  pub static : by ≡ how.Static
  pub params : c.params ≡ asking_params call

-- Runnable's `run`, as a thread begins with it
abbrev pub run_of : Side → CallMeaning
run_of side = record { owner = library_name lib.Runnable; params = []; ret = None; member = LibMethod (calls.Run side) }

-- what calls come to in a program and in the moved one
pub record SameCalls (p q : Program) : Type 0 where
  -- A call that hands on a context comes to the same method, or to the same member of the library as the passing side has it,
  pub handed : (m : MethodId) (at : Site) (s : Store (List Item)) (by : InvokeKind) (c : CallMeaning) (operands : List (Value (List Item)))
      (t : Taken (List Item)) (k : List Item)
      → Calling p m at s by c operands t → way_of c.member ≡ Handed
      → target (there q at) s by (handed c) (Ctx k ∷ t.values) ≡ option_map moved_target (target at s by c t.values)
  pub to_handed : (m : MethodId) (at : Site) (s : Store (List Item)) (by : InvokeKind) (c : CallMeaning) (operands : List (Value (List Item)))
      (t : Taken (List Item)) (to : Target)
      → Calling p m at s by c operands t → way_of c.member ≡ Handed → target at s by c t.values ≡ Some to → comes_handed to ≡ true
  -- and one that hands on none to the same member, which knows of none.
  pub alone : (m : MethodId) (at : Site) (s : Store (List Item)) (by : InvokeKind) (c : CallMeaning) (operands : List (Value (List Item)))
      (t : Taken (List Item))
      → Calling p m at s by c operands t → way_of c.member ≡ Alone
      → target (there q at) s by c t.values ≡ target at s by c t.values
  pub to_alone : (m : MethodId) (at : Site) (s : Store (List Item)) (by : InvokeKind) (c : CallMeaning) (operands : List (Value (List Item)))
      (t : Taken (List Item)) (to : Target)
      → Calling p m at s by c operands t → way_of c.member ≡ Alone → target at s by c t.values ≡ Some to → comes_alone to ≡ true
  -- a method of AccessController, and what stands for it
  pub asks : (m : MethodId) (n : ℕ) (by : InvokeKind) (c : CallMeaning) (call : ControllerCall)
      → fetched p m n ≡ Some (Used (Call by c)) → c.member ≡ LibMethod (calls.Controller call) → AsDeclared by c call
  pub controller : (call : ControllerCall) → (world p).itself (LibMethod (calls.Controller call)) ≡ selected.Lib (calls.Controller call)
  pub rt : (call : RtCall) → (world q).itself (LibMethod (calls.Rt call)) ≡ selected.Lib (calls.Rt call)
  -- `run` of an action and of a Runnable, which are called without an instruction
  pub actions : (full : Bool) (x : Object (List Item)) → by_interface (world q) full (run_action Passing) x
      ≡ moved_target (by_interface (world p) full (run_action Source) x)
  pub runs : (full : Bool) (x : Object (List Item)) → by_interface (world q) full (run_of Passing) x
      ≡ moved_target (by_interface (world p) full (run_of Source) x)

-- how many slots a method has, where a call comes to it: those that its values take, and one for `run`, which is given its object, and for `main`
pub record Fills (p q : Program) (codes : (m : MethodId) (body : CodeBody) → code_at p m ≡ Some body → MovedCode p q m body) : Type 0 where
  pub calls : (m callee : MethodId) (at : Site) (s : Store (List Item)) (by : InvokeKind) (c : CallMeaning) (operands : List (Value (List Item)))
      (t : Taken (List Item))
      (body : CodeBody) (is : code_at p callee ≡ Some body)
      → Calling p m at s by c operands t → target at s by c t.values ≡ Some (Pushes callee) → places_of t.values ≡ (codes callee body is).slots
  pub actions : (full : Bool) (x : Object (List Item)) (callee : MethodId) (body : CodeBody) (is : code_at p callee ≡ Some body)
      → by_interface (world p) full (run_action Source) x ≡ Pushes callee → (codes callee body is).slots ≡ 1
  pub runs : (full : Bool) (x : Object (List Item)) (callee : MethodId) (body : CodeBody) (is : code_at p callee ≡ Some body)
      → by_interface (world p) full (run_of Source) x ≡ Pushes callee → (codes callee body is).slots ≡ 1
  pub main : (name : List ℕ) (m : MethodId) (body : CodeBody) (is : code_at p m ≡ Some body) → main_of p name ≡ Some m → (codes m body is).slots ≡ 1

-- ---- both

pub record Moves (p q : Program) : Type 0 where
  pub side : p.side ≡ Source
  pub passing : q.side ≡ Passing
  pub classes : SameClasses (world p) (world q)
  pub codes : (m : MethodId) (body : CodeBody) → code_at p m ≡ Some body → MovedCode p q m body
  pub domains : (m : MethodId) → domain_of q m ≡ domain_of p m
  pub own : (m : MethodId) (field : Member) → own_fields q m field ≡ own_fields p m field
  -- what `new` makes
  pub makes : (m : MethodId) (n : ℕ) (c : Name) → fetched p m n ≡ Some (Used (Make c)) → (world q).class c ≡ (world p).class c
  pub calls : SameCalls p q
  pub fills : Fills p q codes
  -- how a run begins
  pub begins : (name : List ℕ) (m : MethodId) → main_of p name ≡ Some m → (body : CodeBody) × (code_at p m ≡ Some body)
  pub charge : opening_charge q ≡ opening_charge p
  pub texts : strings q ≡ strings p
  pub opens : (heap : ℕ) → opening_store {K = List Item} q heap ≡ opening_store p heap
