-- How many slots a method has, and that a call's values fill them.
use Rattle.std.specs.Prelude.{◌≡◌, ℕ, Bool, List, Option, Some, None}
use Rattle.jclass.specs.declared.class.ClassParts.{ClassParts}
use Rattle.jclass.specs.declared.class.MemberInfo.{MemberInfo}
use Rattle.jctx.specs.declared.item.Item.{Item}
use Rattle.jlib.specs.declared.side.Side.TheVariants.{Source}
use Rattle.jsemantics.specs.jmachine.CallTargets.{Pushes, by_interface, target}
use Rattle.jsemantics.specs.jmachine.FrameOperations.{places_of}
use Rattle.jsemantics.specs.jmachine.HeapObjects.{Object}
use Rattle.jsemantics.specs.jmachine.TakenOperands.{Taken}
use Rattle.jsemantics.specs.jmachine.PrivilegeActions.{run_action}
use Rattle.jsemantics.specs.jmachine.InstructionSites.{Site}
use Rattle.jsemantics.specs.jmachine.Store.{Store}
use Rattle.jsemantics.specs.jmachine.World.{world}
use Rattle.jmoveclass.specs.EntryLocals.{slots}
use Rattle.jvalues.specs.declared.jops.value.Value.{Value}
use Rattle.jresolution.specs.declared.jprogram.member.Member.TheVariants.{Method}
use Rattle.jresolution.specs.declared.jprogram.member.MethodId.{MethodId}
use Rattle.jresolution.specs.jprogram.ProgramClasses.{Program}
use Rattle.jresolution.specs.jprogram.MemberResolution.{info_of, main_of}
use Rattle.jresolution.specs.declared.juses.meaning.InvokeKind.{InvokeKind}
use Rattle.jresolution.specs.juses.InstructionMeanings.{CallMeaning}
use Rattle.jrewriting.specs.jrewrite.LinkageLaws.{IsLinked}
use Rattle.jsimulation_laws.specs.relation.ProgramRelation.{Calling, run_of}

abbrev pub slots_in : Option (ClassParts × MemberInfo) → ℕ
slots_in None = 0
slots_in (Some one) = slots one.0 one.1

-- those of its parameters, and of `this`
abbrev pub slots_at : Program → MethodId → ℕ
slots_at p m = slots_in (info_of p (Method m))

-- ---- laws

-- In a program that links, the values that a call took, where it comes to a user's method, take as many places as that one has slots.
abbrev pub CallsFill : Type 0
CallsFill = (p : Program) → IsLinked p → (m callee : MethodId) (at : Site) (s : Store (List Item)) (by : InvokeKind) (c : CallMeaning)
    → (operands : List (Value (List Item))) (t : Taken (List Item)) → Calling p m at s by c operands t
    → target at s by c t.values ≡ Some (Pushes callee) → places_of t.values ≡ slots_at p callee

-- `run` of an action and of a Runnable has one slot, for its object,
abbrev pub RunsFill : Type 0
RunsFill = (p : Program) (full : Bool) (x : Object (List Item)) (callee : MethodId)
    → (by_interface (world p) full (run_action Source) x ≡ Pushes callee → slots_at p callee ≡ 1)
    × (by_interface (world p) full (run_of Source) x ≡ Pushes callee → slots_at p callee ≡ 1)

-- and so has `main`, for its array.
abbrev pub MainFills : Type 0
MainFills = (p : Program) (name : List ℕ) (m : MethodId) → p.side ≡ Source → main_of p name ≡ Some m → slots_at p m ≡ 1
