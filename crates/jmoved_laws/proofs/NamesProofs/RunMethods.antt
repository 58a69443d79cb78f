-- `run` of an action and of a Runnable, which are called without an instruction.
use Rattle.std.proofs.Common.{◌≡◌, ℕ, Bool, true, false, List, Some, refl, ap, sym, ◌∙◌}
use Rattle.std.specs.Prelude.{option_and_then, slice_get}
use Rattle.jlib.specs.declared.calls.LibCall.{LibCall}
use Rattle.jlib.specs.declared.calls.LibCall.TheVariants as calls
use Rattle.jlib.specs.declared.classes.LibClass.{LibClass}
use Rattle.jlib.specs.declared.classes.LibClass.TheVariants as lib
use Rattle.jlib.specs.declared.side.Side.{Side}
use Rattle.jlib.specs.declared.side.Side.TheVariants.{Passing, Source}
use Rattle.jlib.specs.LibraryMembers as library
use Rattle.jlib.specs.LibraryClasses as library_classes
use Rattle.jlib.proofs.LibraryLookup.{call_only}
use Rattle.jtypes.specs.declared.vtype.VType.TheVariants as types
use Rattle.jresolution.specs.declared.jprogram.member.CallKind.TheVariants as kinds
use Rattle.jresolution.specs.declared.jprogram.member.Member.TheVariants.{LibMethod}
use Rattle.jresolution.specs.jprogram.ProgramClasses.{Lib, Program, find, holds, is_interface}
use Rattle.jresolution.specs.jprogram.MemberResolution.{desc_of, lib_method, method_at, method_in, name_of}
use Rattle.jresolution.specs.jprogram.OrderedPrograms.{StandsInOrder}
use Rattle.jresolution.proofs.JprogramProofs.SuperclassOrder.{up_is}
use Rattle.jresolution.proofs.JprogramProofs.ClassHeights.{lib_find, not_taken}
use Rattle.jlinking.specs.jlink.LinkedPrograms.{Links}
use Rattle.jsemantics.specs.jmachine.CallTargets.{by_interface}
use Rattle.jsemantics.specs.jmachine.HeapObjects.{Object, class_of, id_of, library_name}
use Rattle.jsemantics.specs.jmachine.PrivilegeActions.{run_action}
use Rattle.jsemantics.specs.jmachine.World.{is_instance, world}
use Rattle.jrewriting.specs.jrewrite.RewrittenPrograms.{moved}
use Rattle.jrewriting.proofs.JrewriteProofs.FinalOverrides.{AllMoving}
use Rattle.jrewriting.proofs.JrewriteProofs.HierarchyPhases.{IsPlain}
use Rattle.jsimulation_laws.specs.relation.InstructionExpansion.{moved_target}
use Rattle.jsimulation_laws.specs.relation.ProgramRelation.{run_of}
use Rattle.jmoved_laws.specs.names.SelectionLaws.{moved_selected}
use Rattle.jmoved_laws.proofs.NamesProofs.ReceiverDispatch.{interface_moved}
use Rattle.jmoved_laws.proofs.NamesProofs.ContextCalls.{has_selects}
use Rattle.jmoved_laws.proofs.NamesProofs.MethodResolution.{Above, Resolved}

module _ (p : Program) (is : IsPlain p) (good : StandsInOrder p) (links : Links p) (all : AllMoving p) where
  face_find : (l : LibClass) → library_classes.stands_on p.side l ≡ true → find p (library_classes.name_of l) ≡ Some (Lib l)
  face_find l on = lib_find p (not_taken p good) l on

  declares : (l : LibClass) (y : LibCall) → library_classes.stands_on p.side l ≡ true → library.call_stands_on Source y ≡ true → library.owner y ≡ l → library.is_field y ≡ false
      → method_at p (library.name_of_call y) (library.desc_of y) (library_classes.name_of l) ≡ Some (LibMethod y)
  declares l y on stands owned method =
      ap (option_and_then (λ d. method_in p.side d (library.name_of_call y) (library.desc_of y))) (face_find l on)
      ∙ ap (λ (s : Side). method_in s (Lib l) (library.name_of_call y) (library.desc_of y)) is.source
      ∙ ap (λ (c : LibClass). option_and_then lib_method (library.member_named Source (library_classes.name_of c) (library.name_of_call y) (library.desc_of y))) (sym owned)
      ∙ ap (option_and_then lib_method) (call_only Source y stands)
      ∙ rw method refl

  named_there : (l : LibClass) (y : LibCall) → library_classes.stands_on p.side l ≡ true → library.call_stands_on Source y ≡ true → library.owner y ≡ l → library.is_field y ≡ false
      → Resolved p (library_classes.name_of l) (name_of p (LibMethod y)) (desc_of p (LibMethod y)) (LibMethod y)
  unfolding name_of desc_of
  named_there l y on stands owned method = record {
    class = library_classes.name_of l;
    place = Above (0, ap (λ (xs : List (List ℕ)). slice_get xs 0) (up_is p good (library_classes.name_of l)));
    here = declares l y on stands owned method;
  }

  is_face : (l : LibClass) → library_classes.stands_on p.side l ≡ true → library_classes.is_interface l ≡ true → holds is_interface (find p (library_classes.name_of l)) ≡ true
  is_face l on face = ap (holds is_interface) (face_find l on) ∙ face

  action_selects : {K : Type 0} (x : Object K) → is_instance (world p) (class_of (world p).named x) (types.Object (library_name lib.PrivilegedAction)) ≡ true
      → (world (moved p)).select (id_of x) (LibMethod (calls.RunAction Passing)) kinds.Interface ≡ moved_selected ((world p).select (id_of x) (LibMethod (calls.RunAction Source)) kinds.Interface)
  unfolding world name_of
  action_selects x h =
      has_selects p is good links all (library_classes.name_of lib.PrivilegedAction) refl (LibMethod (calls.RunAction Source)) refl refl (named_there lib.PrivilegedAction (calls.RunAction Source) refl refl refl refl)
      (is_face lib.PrivilegedAction refl refl) x kinds.Interface h

  run_selects : {K : Type 0} (x : Object K) → is_instance (world p) (class_of (world p).named x) (types.Object (library_name lib.Runnable)) ≡ true
      → (world (moved p)).select (id_of x) (LibMethod (calls.Run Passing)) kinds.Interface ≡ moved_selected ((world p).select (id_of x) (LibMethod (calls.Run Source)) kinds.Interface)
  unfolding world name_of
  run_selects x h =
      has_selects p is good links all (library_classes.name_of lib.Runnable) refl (LibMethod (calls.Run Source)) refl refl (named_there lib.Runnable (calls.Run Source) refl refl refl refl)
      (is_face lib.Runnable refl refl) x kinds.Interface h

  pub actions_so : {K : Type 0} (full : Bool) (x : Object K) → by_interface (world (moved p)) full (run_action Passing) x ≡ moved_target (by_interface (world p) full (run_action Source) x)
  actions_so full x = interface_moved p is all full (library_name lib.PrivilegedAction) (LibMethod (calls.RunAction Source)) x (action_selects x)

  pub runs_so : {K : Type 0} (full : Bool) (x : Object K) → by_interface (world (moved p)) full (run_of Passing) x ≡ moved_target (by_interface (world p) full (run_of Source) x)
  runs_so full x = interface_moved p is all full (library_name lib.Runnable) (LibMethod (calls.Run Source)) x (run_selects x)
