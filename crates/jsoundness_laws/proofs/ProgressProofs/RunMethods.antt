-- Both `run`: of an action, and of a Runnable.
use Rattle.std.proofs.Common.{◌≡◌, false, Some, None, refl}
use Rattle.jlib.specs.declared.calls.LibCall.TheVariants as calls
use Rattle.jlib.specs.declared.classes.LibClass.TheVariants as lib
use Rattle.jlib.specs.declared.side.Side.{Side}
use Rattle.jlib.specs.declared.side.Side.TheVariants.{Source, Passing}
use Rattle.jlib.specs.LibraryMembers as library_calls
use Rattle.jresolution.specs.jprogram.ProgramClasses.{Program}
use Rattle.jresolution.specs.jprogram.MemberResolution.{init}
use Rattle.jtyping.specs.jrule.PoolEffects.{of_library}
use Rattle.std.specs.Str.{bytes_eq}
use Rattle.jsoundness_laws.specs.typed.ProgressLaws.{HasCode}
use Rattle.jsoundness_laws.proofs.LibraryProofs.RunSelection.{action_says, run_says}
use Rattle.jsoundness_laws.proofs.ProgressProofs.ProgramPremises.{IsFounded}
use Rattle.jsoundness_laws.proofs.ProgressProofs.Interfaces.{IsRunOf}

run_static : (side : Side) → library_calls.is_static (calls.Run side) ≡ false
run_static Source = refl
run_static Passing = refl

run_code : (side : Side) → HasCode (calls.Run side) → ⊥
run_code Source h = cc
run_code Passing h = cc

run_named : (side : Side) → bytes_eq (library_calls.name_of_call (calls.Run side)) init ≡ false
run_named Source = refl
run_named Passing = refl

pub thread_run : (p : Program) → IsFounded p → IsRunOf p lib.Runnable (calls.Run p.side) None
thread_run p sound = record { says = run_says p sound.stands; static = run_static p.side; code = run_code p.side; named = run_named p.side }

action_static : (side : Side) → library_calls.is_static (calls.RunAction side) ≡ false
action_static Source = refl
action_static Passing = refl

action_code : (side : Side) → HasCode (calls.RunAction side) → ⊥
action_code Source h = cc
action_code Passing h = cc

action_named : (side : Side) → bytes_eq (library_calls.name_of_call (calls.RunAction side)) init ≡ false
action_named Source = refl
action_named Passing = refl

pub action_run : (p : Program) → IsFounded p → IsRunOf p lib.PrivilegedAction (calls.RunAction p.side) (Some (of_library lib.Object))
action_run p sound = record { says = action_says p sound.stands; static = action_static p.side; code = action_code p.side; named = action_named p.side }
