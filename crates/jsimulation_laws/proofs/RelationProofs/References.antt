-- What references of class files mean on either side, computed: those of moved class files mean what calls become.
use Rattle.std.proofs.Common.{◌≡◌, ℕ, List, [], ◌∷◌, Option, Some, None, refl}
use Rattle.std.specs.Prelude.{codes}
use Rattle.jground.specs.jbase.ListMaps.{each_some}
use Rattle.jground.specs.jbase.FirstFaults.{first_some}
use Rattle.jparts.specs.jpool.Descriptors.{base_at, class_at, closing_at, descriptor_of, field_of, method_of, params_at, return_at, slots_of, type_at}
use Rattle.jparts.specs.jpool.ClassNames.{is_class_name}
use Rattle.jlib.specs.declared.side.Side.{Side}
use Rattle.jlib.specs.declared.side.Side.TheVariants.{Source, Passing}
use Rattle.jlib.specs.declared.calls.ControllerCall.{ControllerCall}
use Rattle.jlib.specs.declared.calls.ControllerCall.TheVariants as controller
use Rattle.jlib.specs.declared.calls.LibCall.{LibCall}
use Rattle.jlib.specs.declared.calls.LibCall.TheVariants as calls
use Rattle.jlib.specs.declared.calls.RtCall.TheVariants as rt
use Rattle.jlib.specs.declared.calls.ThreadCall.TheVariants as threads
use Rattle.jlib.specs.declared.classes.LibClass.{LibClass}
use Rattle.jlib.specs.declared.classes.LibClass.TheVariants as lib
use Rattle.jlib.specs.LibraryClasses as library
use Rattle.jtypes.specs.declared.vtype.VType.{VType}
use Rattle.jresolution.specs.declared.jprogram.member.Member.TheVariants.{LibMethod}
use Rattle.jresolution.specs.jprogram.ProgramClasses.{chain, find, place_of, program}
use Rattle.jresolution.specs.jprogram.MemberResolution.{resolve_method}
use Rattle.jresolution.specs.juses.InstructionMeanings.{CallMeaning, call_meant}
use Rattle.jresolution.specs.juses.DescriptorTypes.{type_in, typed}
use Rattle.jtyping.specs.jrule.PoolEffects.{of_library}
use Rattle.jsemantics.specs.jmachine.HeapObjects.{library_name}
use Rattle.jsimulation_laws.specs.relation.InstructionExpansion.{asking_params, handed, rt_meaning}

-- a reference in a program without classes of its own means this
abbrev Means : Side → LibClass → List ℕ → List ℕ → CallMeaning → Type 0
Means side owner name desc c = call_meant (program side []) (record { owner = library.name_of owner; name = name; desc = desc }) ≡ Some c

abbrev meaning : LibClass → List VType → Option VType → LibCall → CallMeaning
meaning owner params ret call = record { owner = library_name owner; params = params; ret = ret; member = LibMethod call }

abbrev object : VType
object = of_library lib.Object

-- the methods of `sps/Rt`
passing : Means Passing lib.Rt (codes "enter") (codes "(Lsps/Ctx;I)Lsps/Ctx;") (rt_meaning rt.Enter)
    × Means Passing lib.Rt (codes "check") (codes "(Ljava/security/Permission;Lsps/Ctx;)V") (rt_meaning rt.Check)
    × Means Passing lib.Rt (codes "snapshot") (codes "(Lsps/Ctx;)Ljava/security/AccessControlContext;") (rt_meaning rt.Snapshot)
    × Means Passing lib.Rt (codes "priv") (codes "(Ljava/security/PrivilegedAction;I)Ljava/lang/Object;") (rt_meaning rt.Privileged)
    × Means Passing lib.Rt (codes "privWith") (codes "(Ljava/security/PrivilegedAction;Ljava/security/AccessControlContext;I)Ljava/lang/Object;") (rt_meaning rt.PrivilegedWith)
    × Means Passing lib.Rt (codes "privLimited")
    (codes "(Ljava/security/PrivilegedAction;Ljava/security/AccessControlContext;[Ljava/security/Permission;Lsps/Ctx;I)Ljava/lang/Object;")
    (rt_meaning rt.PrivilegedLimited)
unfolding call_meant resolve_method find place_of chain first_some typed type_in each_some descriptor_of field_of method_of
    params_at closing_at type_at base_at class_at return_at slots_of is_class_name
passing = (refl, refl, refl, refl, refl, refl)

abbrev asks : ControllerCall → Option VType → CallMeaning
asks one ret = meaning lib.AccessController (asking_params one) ret (calls.Controller one)

-- the methods of AccessController, for which they stand
asking : Means Source lib.AccessController (codes "checkPermission") (codes "(Ljava/security/Permission;)V") (asks controller.Check None)
    × Means Source lib.AccessController (codes "getContext") (codes "()Ljava/security/AccessControlContext;")
    (asks controller.Snapshot (Some (of_library lib.AccessControlContext)))
    × Means Source lib.AccessController (codes "doPrivileged") (codes "(Ljava/security/PrivilegedAction;)Ljava/lang/Object;") (asks controller.Privileged (Some object))
    × Means Source lib.AccessController (codes "doPrivileged") (codes "(Ljava/security/PrivilegedAction;Ljava/security/AccessControlContext;)Ljava/lang/Object;")
    (asks controller.PrivilegedWith (Some object))
    × Means Source lib.AccessController (codes "doPrivileged")
    (codes "(Ljava/security/PrivilegedAction;Ljava/security/AccessControlContext;[Ljava/security/Permission;)Ljava/lang/Object;")
    (asks controller.PrivilegedLimited (Some object))
unfolding call_meant resolve_method find place_of chain first_some typed type_in each_some descriptor_of field_of method_of
    params_at closing_at type_at base_at class_at return_at slots_of is_class_name
asking = (refl, refl, refl, refl, refl)

abbrev run : CallMeaning
run = meaning lib.Runnable [] None (calls.Run Source)

abbrev run_action : CallMeaning
run_action = meaning lib.PrivilegedAction [] (Some object) (calls.RunAction Source)

abbrev init : CallMeaning
init = meaning lib.Thread (of_library lib.Runnable ∷ []) None (calls.Thread (threads.Init Source))

-- what else is handed a context
handing : Means Source lib.Runnable (codes "run") (codes "()V") run
    × Means Passing lib.Runnable (codes "run") (codes "(Lsps/Ctx;)V") (handed run)
    × Means Source lib.PrivilegedAction (codes "run") (codes "()Ljava/lang/Object;") run_action
    × Means Passing lib.PrivilegedAction (codes "run") (codes "(Lsps/Ctx;)Ljava/lang/Object;") (handed run_action)
    × Means Source lib.Thread (codes "<init>") (codes "(Ljava/lang/Runnable;)V") init
    × Means Passing lib.Thread (codes "<init>") (codes "(Ljava/lang/Runnable;Lsps/Ctx;)V") (handed init)
unfolding call_meant resolve_method find place_of chain first_some typed type_in each_some descriptor_of field_of method_of
    params_at closing_at type_at base_at class_at return_at slots_of is_class_name
handing = (refl, refl, refl, refl, refl, refl)
