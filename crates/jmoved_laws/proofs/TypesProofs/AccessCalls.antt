-- The methods of AccessController, where an instruction of a program that links calls them: they are static, and take and give what they
-- declare.
use Rattle.std.proofs.Common.{◌≡◌, ℕ, true, List, Option, Some, refl, ap, sym, ◌∙◌}
use Rattle.std.specs.Prelude.{codes}
use Rattle.jground.specs.jbase.ListMaps.{each_some}
use Rattle.jparts.specs.jpool.Descriptors.{base_at, class_at, closing_at, descriptor_of, field_of, method_of, params_at, return_at, slots_of, type_at}
use Rattle.jparts.specs.jpool.ClassNames.{is_class_name}
use Rattle.jlib.specs.declared.calls.ControllerCall.{ControllerCall}
use Rattle.jlib.specs.declared.calls.ControllerCall.TheVariants as controller
use Rattle.jlib.specs.declared.calls.LibCall.{LibCall}
use Rattle.jlib.specs.declared.calls.LibCall.TheVariants as calls
use Rattle.jlib.specs.declared.calls.ThreadCall.TheVariants as threads
use Rattle.jlib.specs.declared.classes.LibClass.TheVariants as lib
use Rattle.jlib.specs.declared.classes.PermissionClass.TheVariants as permissions
use Rattle.jlib.specs.LibraryMembers as library
use Rattle.jtypes.specs.declared.vtype.VType.{VType}
use Rattle.jresolution.specs.declared.jprogram.member.Member.{Member}
use Rattle.jresolution.specs.declared.jprogram.member.Member.TheVariants.{LibField, LibMethod, Field, Method}
use Rattle.jresolution.specs.declared.jprogram.member.MethodId.{MethodId}
use Rattle.jresolution.specs.jprogram.ProgramClasses.{Lib, Program, find}
use Rattle.jresolution.specs.jprogram.MemberResolution.{desc_of, is_static}
use Rattle.jresolution.specs.jprogram.OrderedPrograms.{StandsInOrder}
use Rattle.jresolution.proofs.JprogramProofs.ClassHeights.{lib_find, not_taken}
use Rattle.jresolution.specs.declared.juses.meaning.InvokeKind.{InvokeKind}
use Rattle.jresolution.specs.declared.juses.meaning.InvokeKind.TheVariants as how
use Rattle.jresolution.specs.juses.IndexedInstructions.{Used, instruction_at}
use Rattle.jresolution.specs.juses.InstructionMeanings.{Call, CallMeaning}
use Rattle.jresolution.specs.juses.DescriptorTypes.{Called, type_in, typed}
use Rattle.jrewriting.specs.jrewrite.LinkageLaws.{IsLinked}
use Rattle.jrewriting.proofs.JrewriteProofs.PlainPrograms.{is_plain}
use Rattle.jsimulation_laws.specs.relation.InstructionExpansion.{Asking, asking_params, library_way, way_of}
use Rattle.jmoved_laws.specs.names.ResolvedCalls.{calls_static}
use Rattle.jmoved_laws.proofs.NamesProofs.Classes.{ordered}
use Rattle.jmoved_laws.proofs.NamesProofs.LinkedCalls.{call_says}
use Rattle.jmoved_laws.proofs.TypesProofs.InstructionPreservation.{IsAsked, asked_ret}

-- what asks is a method of AccessController
asking_library : (x : LibCall) (call : ControllerCall) → library_way x ≡ Asking call → x ≡ calls.Controller call
asking_library (calls.Controller one) call h = let same : one ≡ call = cc in ap (λ (z : ControllerCall). calls.Controller z) same
asking_library (calls.Run side) call h = absurd cc
asking_library (calls.RunAction side) call h = absurd cc
asking_library (calls.Thread (threads.Init side)) call h = absurd cc
asking_library (calls.Thread threads.Start) call h = absurd cc
asking_library (calls.Thread threads.Join) call h = absurd cc
asking_library (calls.Thread threads.Yield) call h = absurd cc
asking_library calls.ObjectInit call h = absurd cc
asking_library (calls.ThrownInit t i) call h = absurd cc
asking_library calls.AccessControlInit call h = absurd cc
asking_library calls.GetMessage call h = absurd cc
asking_library (calls.String one) call h = absurd cc
asking_library (calls.Builder one) call h = absurd cc
asking_library calls.Out call h = absurd cc
asking_library calls.PrintEnd call h = absurd cc
asking_library (calls.Print piece) call h = absurd cc
asking_library calls.ContextCheck call h = absurd cc
asking_library (calls.PermissionInit one) call h = absurd cc
asking_library (calls.Rt one) call h = absurd cc

asking_is : (x : Member) (call : ControllerCall) → way_of x ≡ Asking call → x ≡ LibMethod (calls.Controller call)
asking_is (LibMethod x) call h = ap (λ (z : LibCall). LibMethod z) (asking_library x call h)
asking_is (Method m) call h = absurd cc
asking_is (Field i j) call h = absurd cc
asking_is LibField call h = absurd cc

static_there : (p : Program) (call : ControllerCall) → is_static p (LibMethod (calls.Controller call)) ≡ true
unfolding is_static
static_there p controller.Check = refl
static_there p controller.Snapshot = refl
static_there p controller.Privileged = refl
static_there p controller.PrivilegedWith = refl
static_there p controller.PrivilegedLimited = refl

pub static_is : (by : InvokeKind) → calls_static by ≡ true → by ≡ how.Static
static_is how.Static h = refl
static_is how.Virtual h = absurd cc
static_is how.Special h = absurd cc
static_is how.Interface h = absurd cc
static_is how.Init h = absurd cc

module _ (p : Program) (good : StandsInOrder p) where
  permission_find : find p (codes "java/security/Permission") ≡ Some (Lib (lib.Permission permissions.Permission))
  permission_find = lib_find p (not_taken p good) (lib.Permission permissions.Permission) refl

  context_find : find p (codes "java/security/AccessControlContext") ≡ Some (Lib lib.AccessControlContext)
  context_find = lib_find p (not_taken p good) lib.AccessControlContext refl

  action_find : find p (codes "java/security/PrivilegedAction") ≡ Some (Lib lib.PrivilegedAction)
  action_find = lib_find p (not_taken p good) lib.PrivilegedAction refl

  top_find : find p (codes "java/lang/Object") ≡ Some (Lib lib.Object)
  top_find = lib_find p (not_taken p good) lib.Object refl

  types_there : (call : ControllerCall) → typed p (library.desc_of (calls.Controller call)) ≡ Called (asking_params call) (asked_ret call)
  unfolding typed type_in each_some descriptor_of method_of field_of params_at closing_at type_at base_at class_at return_at slots_of is_class_name
  types_there controller.Check = rw (permission_find) refl
  types_there controller.Snapshot = rw (context_find) refl
  types_there controller.Privileged = rw (action_find, top_find) refl
  types_there controller.PrivilegedWith = rw (action_find, context_find, top_find) refl
  types_there controller.PrivilegedLimited = rw (action_find, context_find, permission_find, top_find) refl

called_params : (ps qs : List VType) (a b : Option VType) → Called ps a ≡ Called qs b → ps ≡ qs
called_params ps qs a b e = cc

called_ret : (ps qs : List VType) (a b : Option VType) → Called ps a ≡ Called qs b → a ≡ b
called_ret ps qs a b e = cc

pub asked : (p : Program) → IsLinked p → (m : MethodId) (n : ℕ) (by : InvokeKind) (c : CallMeaning) (call : ControllerCall) → instruction_at p m n ≡ Some (Used (Call by c))
    → way_of c.member ≡ Asking call → IsAsked by c call
unfolding desc_of
asked p linked m n by c call e way =
    let says = (call_says p linked m n by c e).says in
    let member = asking_is c.member call way in
    let static : calls_static by ≡ true = sym says.static ∙ ap (is_static p) member ∙ static_there p call in
    let types : Called (asking_params call) (asked_ret call) ≡ Called c.params c.ret =
    sym (types_there p (ordered p (is_plain p linked)) call) ∙ ap (typed p) (sym (ap (desc_of p) member)) ∙ says.types in
    record {
      static = static_is by static;
      params = sym (called_params (asking_params call) c.params (asked_ret call) c.ret types);
      ret = sym (called_ret (asking_params call) c.params (asked_ret call) c.ret types);
    }
