-- Laws: each call of the library with values of its descriptor's types has a row, and what it gives is of the type that it returns.
use Rattle.std.specs.Prelude.{◌≡◌, ℕ, Bool, List, [], Option, Some, None, is_some}
use Rattle.jperm.specs.declared.permission.Permission.{Permission}
use Rattle.jlib.specs.declared.calls.LibCall.{LibCall}
use Rattle.jlib.specs.declared.calls.LibCall.TheVariants as calls
use Rattle.jlib.specs.declared.classes.LibClass.{LibClass}
use Rattle.jlib.specs.declared.classes.LibClass.TheVariants as lib
use Rattle.jlib.specs.declared.side.Side.{Side}
use Rattle.jlib.specs.declared.side.Side.TheVariants.{Passing}
use Rattle.jlib.specs.LibraryMembers.{desc_of}
use Rattle.jlib.specs.LibraryClasses.{same_side}
use Rattle.jvalues.specs.declared.jops.value.Value.{Value}
use Rattle.jtypes.specs.declared.vtype.Name.{Name}
use Rattle.jtypes.specs.declared.vtype.VType.{VType}
use Rattle.jresolution.specs.declared.jprogram.member.Member.{Member}
use Rattle.jresolution.specs.declared.jprogram.member.Member.TheVariants.{LibMethod}
use Rattle.jresolution.specs.jprogram.ProgramClasses.{Program}
use Rattle.jresolution.specs.jprogram.OrderedPrograms.{StandsInOrder}
use Rattle.jresolution.specs.declared.juses.meaning.InvokeKind.TheVariants as how
use Rattle.jresolution.specs.juses.InstructionMeanings.{CallMeaning}
use Rattle.jresolution.specs.juses.DescriptorTypes.{Called, typed}
use Rattle.jtyping.specs.jrule.PoolEffects.{of_library}
use Rattle.jsemantics.specs.jmachine.CallTargets.{Fails, Runs, by_interface}
use Rattle.jsemantics.specs.jmachine.InstructionActions.{run}
use Rattle.jsemantics.specs.jmachine.HeapObjects.{Object, library_name}
use Rattle.jsemantics.specs.jmachine.Security.{Rules}
use Rattle.jsemantics.specs.jmachine.InstructionSites.{Site}
use Rattle.jsemantics.specs.jmachine.Store.{Store}
use Rattle.jsemantics.specs.jmachine.World.{World, world}
use Rattle.jsoundness_laws.specs.typed.TypedCalls.{IsBegunBy, IsRun}
use Rattle.jsoundness_laws.specs.typed.ProgressLaws.{HasCode}
use Rattle.jsoundness_laws.specs.typed.TypedStores.{IsStored}
use Rattle.jsoundness_laws.specs.typed.TypedValues.{CanBeThrown}
use Rattle.jsoundness_laws.specs.library.LibraryArguments.{AreGiven, way_of}
use Rattle.jsoundness_laws.specs.library.LibraryResults.{Yields, run_given}

-- ---- rules

-- Contexts are handed over on the passing side alone, and always there.
pub record AreSided {K E : Type 0} (r : Rules K E) : Type 0 where
  pub first : is_some r.first ≡ same_side r.side Passing
  pub handed : (domain : Option ℕ) (ctx given : Option K) (limits : Option (List Permission)) (entries : List E)
      → is_some (r.privileged domain ctx given limits entries).context ≡ same_side r.side Passing

-- ---- `run`

-- `run` of a Runnable, as the beginning of a thread calls it
abbrev pub run_call : Side → CallMeaning
run_call side = record { owner = library_name lib.Runnable; params = []; ret = None; member = LibMethod (calls.Run side) }

-- Where it is called, or `run` of an action, no member of the library does it: a frame of a user's method is pushed,
abbrev pub RunIsUsers : Type 0 → (Side → CallMeaning) → Type 0
RunIsUsers K meaning = (p : Program) (full : Bool) (side : Side) (x : Object K) (call : LibCall)
    → by_interface (world p) full (meaning side) x ≡ Runs call → ⊥

-- or an exception comes that can be thrown.
abbrev pub InterfaceRaises : Type 0 → Type 0
InterfaceRaises K = (w : World) (full : Bool) (c : CallMeaning) (x : Object K) (class : LibClass) → by_interface w full c x ≡ Fails class
    → CanBeThrown class

-- What the descriptors of both `run` say.
abbrev pub RunSays : Type 0
RunSays = (p : Program) → StandsInOrder p → typed p (desc_of (calls.Run p.side)) ≡ Called (run_given p.side) None

abbrev pub ActionSays : Type 0
ActionSays = (p : Program) → StandsInOrder p → typed p (desc_of (calls.RunAction p.side)) ≡ Called (run_given p.side) (Some (of_library lib.Object))

-- ---- calls

-- A call of a member of the library with code, with values of the types that its descriptor says, has a row that yields what it says.
abbrev pub CallYields : Type 0 → Type 0 → LibCall → Type 0
CallYields K E call = (r : Rules K E) (at : Site) (own : Member → Bool) (s : Store K) (entries : List E) (inherited : Option K)
    (p : Program) (statics params : List VType) (ret : Option VType) (values : List (Value K))
    → StandsInOrder p → at.world ≡ world p → r.side ≡ p.side → AreSided r → IsStored at.world s statics
    → HasCode call → typed p (desc_of call) ≡ Called params ret → AreGiven at.world s call params values
    → Yields r.side at s statics (way_of call) values ret (run r at own s entries inherited call values)

-- ---- calls as instructions make them

-- So does a member of the library to which a call comes with values that it may be given,
abbrev pub RunsYield : Type 0 → Type 0 → Type 0
RunsYield K E = (r : Rules K E) (at : Site) (own : Member → Bool) (s : Store K) (entries : List E) (inherited : Option K)
    (p : Program) (statics : List VType) (call : LibCall) (ret : Option VType) (values : List (Value K))
    → StandsInOrder p → at.world ≡ world p → r.side ≡ p.side → AreSided r → IsStored at.world s statics → IsRun p s call ret values
    → Yields r.side at s statics (way_of call) values ret (run r at own s entries inherited call values)

-- and an `<init>` of the library, which is called on an object that may hold nothing yet.
abbrev pub InitsYield : Type 0 → Type 0 → Type 0
InitsYield K E = (r : Rules K E) (at : Site) (own : Member → Bool) (s : Store K) (entries : List E) (inherited : Option K)
    (p : Program) (statics : List VType) (owner : Name) (call : LibCall) (ret : Option VType) (values : List (Value K))
    → StandsInOrder p → at.world ≡ world p → r.side ≡ p.side → AreSided r → IsStored at.world s statics → way_of call ≡ how.Init
    → IsBegunBy p s owner call ret values
    → Yields r.side at s statics how.Init values ret (run r at own s entries inherited call values)
