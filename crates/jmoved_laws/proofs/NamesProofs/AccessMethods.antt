-- The methods of AccessController and of `sps/Rt`, as calls name them.
use Rattle.std.proofs.Common.{◌≡◌, ℕ, true, List, Option, Some, None, refl, ap, sym, ◌∙◌}
use Rattle.std.specs.Prelude.{codes}
use Rattle.jground.specs.jbase.ListMaps.{each_some}
use Rattle.jparts.specs.jpool.Descriptors.{base_at, class_at, closing_at, descriptor_of, field_of, method_of, params_at, return_at, slots_of, type_at}
use Rattle.jparts.specs.jpool.ClassNames.{is_class_name}
use Rattle.jlib.specs.declared.calls.ControllerCall.{ControllerCall}
use Rattle.jlib.specs.declared.calls.ControllerCall.TheVariants as controller
use Rattle.jlib.specs.declared.calls.LibCall.TheVariants as calls
use Rattle.jlib.specs.declared.calls.RtCall.{RtCall}
use Rattle.jlib.specs.declared.calls.RtCall.TheVariants as rt
use Rattle.jlib.specs.declared.classes.LibClass.TheVariants as lib
use Rattle.jlib.specs.declared.classes.PermissionClass.TheVariants as permissions
use Rattle.jlib.specs.LibraryMembers as library
use Rattle.jtypes.specs.declared.vtype.VType.{VType}
use Rattle.jresolution.specs.declared.jprogram.member.Member.TheVariants.{LibMethod}
use Rattle.jresolution.specs.declared.jprogram.member.MethodId.{MethodId}
use Rattle.jresolution.specs.declared.jprogram.member.Selected.TheVariants as selected
use Rattle.jresolution.specs.jprogram.ProgramClasses.{Lib, Program, find}
use Rattle.jresolution.specs.jprogram.MemberResolution.{desc_of, is_abstract, is_static}
use Rattle.jresolution.specs.jprogram.OrderedPrograms.{StandsInOrder}
use Rattle.jresolution.proofs.JprogramProofs.ClassHeights.{lib_find, not_taken}
use Rattle.jresolution.specs.declared.juses.meaning.InvokeKind.{InvokeKind}
use Rattle.jresolution.specs.juses.IndexedInstructions.{Used}
use Rattle.jresolution.specs.juses.InstructionMeanings.{Call, CallMeaning}
use Rattle.jresolution.specs.juses.DescriptorTypes.{Called, type_in, typed}
use Rattle.jtyping.specs.jrule.PoolEffects.{of_library}
use Rattle.jsemantics.specs.jmachine.MachineSteps.{fetched}
use Rattle.jsemantics.specs.jmachine.World.{world}
use Rattle.jrewriting.specs.jrewrite.LinkageLaws.{IsLinked}
use Rattle.jrewriting.proofs.JrewriteProofs.PlainPrograms.{is_plain}
use Rattle.jsimulation_laws.specs.relation.InstructionExpansion.{asking_params, context}
use Rattle.jsimulation_laws.specs.relation.ProgramRelation.{AsDeclared}
use Rattle.jmoved_laws.specs.names.ResolvedCalls.{calls_static}
use Rattle.jmoved_laws.proofs.NamesProofs.CallOutcomes.{fetched_at}
use Rattle.jmoved_laws.proofs.NamesProofs.Classes.{ordered}
use Rattle.jmoved_laws.proofs.NamesProofs.LinkedCalls.{call_says}
use Rattle.jmoved_laws.proofs.TypesProofs.AccessCalls.{static_is}

-- ---- a method as it is

pub controller_itself : (p : Program) (call : ControllerCall) → (world p).itself (LibMethod (calls.Controller call)) ≡ selected.Lib (calls.Controller call)
unfolding world is_abstract
controller_itself p controller.Check = refl
controller_itself p controller.Snapshot = refl
controller_itself p controller.Privileged = refl
controller_itself p controller.PrivilegedWith = refl
controller_itself p controller.PrivilegedLimited = refl

pub rt_itself : (p : Program) (call : RtCall) → (world p).itself (LibMethod (calls.Rt call)) ≡ selected.Lib (calls.Rt call)
unfolding world is_abstract
rt_itself p rt.Enter = refl
rt_itself p rt.Check = refl
rt_itself p rt.Snapshot = refl
rt_itself p rt.Privileged = refl
rt_itself p rt.PrivilegedWith = refl
rt_itself p rt.PrivilegedLimited = refl

controller_static : (p : Program) (call : ControllerCall) → is_static p (LibMethod (calls.Controller call)) ≡ true
unfolding is_static
controller_static p controller.Check = refl
controller_static p controller.Snapshot = refl
controller_static p controller.Privileged = refl
controller_static p controller.PrivilegedWith = refl
controller_static p controller.PrivilegedLimited = refl

-- ---- its types

abbrev controller_ret : ControllerCall → Option VType
controller_ret controller.Check = None
controller_ret controller.Snapshot = Some context
controller_ret call = Some (of_library lib.Object)

module _ (p : Program) (good : StandsInOrder p) where
  permission_find : find p (codes "java/security/Permission") ≡ Some (Lib (lib.Permission permissions.Permission))
  permission_find = lib_find p (not_taken p good) (lib.Permission permissions.Permission) refl

  context_find : find p (codes "java/security/AccessControlContext") ≡ Some (Lib lib.AccessControlContext)
  context_find = lib_find p (not_taken p good) lib.AccessControlContext refl

  action_find : find p (codes "java/security/PrivilegedAction") ≡ Some (Lib lib.PrivilegedAction)
  action_find = lib_find p (not_taken p good) lib.PrivilegedAction refl

  top_find : find p (codes "java/lang/Object") ≡ Some (Lib lib.Object)
  top_find = lib_find p (not_taken p good) lib.Object refl

  controller_typed : (call : ControllerCall) → typed p (library.desc_of (calls.Controller call)) ≡ Called (asking_params call) (controller_ret call)
  unfolding typed type_in each_some descriptor_of method_of field_of params_at closing_at type_at base_at class_at return_at slots_of is_class_name
  controller_typed controller.Check = rw (permission_find) refl
  controller_typed controller.Snapshot = rw (context_find) refl
  controller_typed controller.Privileged = rw (action_find, top_find) refl
  controller_typed controller.PrivilegedWith = rw (action_find, context_find, top_find) refl
  controller_typed controller.PrivilegedLimited = rw (action_find, context_find, permission_find, top_find) refl

called_params : (ps qs : List VType) (a b : Option VType) → Called ps a ≡ Called qs b → ps ≡ qs
called_params ps qs a b e = cc

module _ (p : Program) (linked : IsLinked p) where
  desc_is : (c : CallMeaning) (call : ControllerCall) → c.member ≡ LibMethod (calls.Controller call) → desc_of p c.member ≡ library.desc_of (calls.Controller call)
  unfolding desc_of
  desc_is c call e = ap (desc_of p) e

  pub asks_so : (m : MethodId) (n : ℕ) (by : InvokeKind) (c : CallMeaning) (call : ControllerCall) → fetched p m n ≡ Some (Used (Call by c)) → c.member ≡ LibMethod (calls.Controller call) → AsDeclared by c call
  asks_so m n by c call e member =
      let says = (call_says p linked m n by c (fetched_at p m n (Used (Call by c)) e)).says in
      let static : calls_static by ≡ true = sym says.static ∙ ap (is_static p) member ∙ controller_static p call in
      let types : Called (asking_params call) (controller_ret call) ≡ Called c.params c.ret =
      sym (controller_typed p (ordered p (is_plain p linked)) call) ∙ ap (typed p) (sym (desc_is c call member)) ∙ says.types in
      record { static = static_is by static; params = sym (called_params (asking_params call) c.params (controller_ret call) c.ret types) }
