-- What the rows of calls of the library yield.
use Rattle.std.specs.Prelude.{◌≡◌, ⊤, ℕ, true, List, [], ◌∷◌, ◌++◌, length, Option, Some, None}
use Rattle.std.specs.Option.{option_to_list}
use Rattle.jlib.specs.declared.classes.LibClass.TheVariants as lib
use Rattle.jlib.specs.declared.side.Side.{Side}
use Rattle.jlib.specs.declared.side.Side.TheVariants.{Source, Passing}
use Rattle.jvalues.specs.declared.jops.value.Value.{Value}
use Rattle.jvalues.specs.declared.jops.value.Value.TheVariants.{Ref}
use Rattle.jtypes.specs.declared.vtype.VType.{VType}
use Rattle.jtypes.specs.declared.vtype.VType.TheVariants as types
use Rattle.jresolution.specs.declared.jprogram.member.MethodId.{MethodId}
use Rattle.jresolution.specs.declared.juses.meaning.InvokeKind.{InvokeKind}
use Rattle.jresolution.specs.declared.juses.meaning.InvokeKind.TheVariants as how
use Rattle.jtyping.specs.jrule.PoolEffects.{of_library}
use Rattle.jsemantics.specs.jmachine.MachineStates.{Act, Calls, Goes, Makes, Raises, Row, Switches}
use Rattle.jsemantics.specs.jmachine.CallTargets.{Pushes, by_interface, receiver}
use Rattle.jsemantics.specs.jmachine.HeapObjects.{Object}
use Rattle.jsemantics.specs.jmachine.PrivilegeActions.{run_action}
use Rattle.jsemantics.specs.jmachine.InstructionSites.{Site}
use Rattle.jsemantics.specs.jmachine.Store.{Store, object_at}
use Rattle.jsemantics.specs.jmachine.World.{World}
use Rattle.jsoundness_laws.specs.typed.StoreGrowth.{Grows}
use Rattle.jsoundness_laws.specs.typed.TypedStores.{IsStored}
use Rattle.jsoundness_laws.specs.typed.TypedValues.{AreOf, CanBeThrown, IsA, is_whole}

-- the types of what `run` is given besides its object: a context on the passing side
abbrev pub run_given : Side → List VType
run_given Source = []
run_given Passing = types.Ctx ∷ []

-- ---- stores

-- A store comes behind another, and all that it holds is typed.
pub record Follows {K : Type 0} (w : World) (statics : List VType) (s t : Store K) : Type 0 where
  pub grows : Grows w s t
  pub stored : IsStored w t statics

-- an object that may be used
abbrev pub IsWhole : {K : Type 0} → Store K → ℕ → Type 0
IsWhole {K} t n = (x : Object K) × (object_at t n ≡ Some x) × (is_whole x ≡ true)

-- the object of an `<init>`, which is the oldest of the values, may be used
abbrev pub IsReadied : {K : Type 0} → InvokeKind → List (Value K) → Store K → Type 0
IsReadied how.Init values t = (n : ℕ) × (receiver values ≡ Some (Ref n)) × IsWhole t n
IsReadied by values t = ⊤

-- ---- acts

module _ {K : Type 0} (side : Side) (at : Site) (s : Store K) where
  -- a method and its arguments are `run` of an action that is there, and what it is given
  pub record IsAction (m : MethodId) (arguments : List (Value K)) : Type 0 where
    pub number : ℕ
    pub object : Object K
    pub there : object_at s number ≡ Some object
    pub action : IsA at.world s (of_library lib.PrivilegedAction) (Ref number)
    pub chosen : by_interface at.world at.full (run_action side) object ≡ Pushes m
    pub given : List (Value K)
    pub are : arguments ≡ (given ++ Ref number ∷ [])
    pub typed : AreOf at.world s (run_given side) given

module _ {K E : Type 0} (side : Side) (at : Site) (s : Store K) (statics : List VType) where
  -- An act of a member of the library with these values, which is to give this: what it gives is of this type, and the store behind is
  -- typed; or it calls `run` of an action, which gives it; it raises what can be raised; or it leaves as many threads as there are, or
  -- makes one with a Runnable.
  abbrev pub YieldsOf : InvokeKind → List (Value K) → Option VType → Act K E → Type 0
  YieldsOf by values ret (Goes t results events) = Follows at.world statics s t × AreOf at.world t (option_to_list ret) results
      × IsReadied by values t
  YieldsOf by values ret (Calls m arguments entry) = (ret ≡ Some (of_library lib.Object)) × IsAction side at s m arguments × IsReadied by values s
  YieldsOf by values ret (Raises events class message) = CanBeThrown class
  YieldsOf by values ret (Switches table) = (ret ≡ None) × (length table ≡ length at.table) × IsReadied by values s
  YieldsOf by values ret (Makes t runnable kept) = (ret ≡ None) × Follows at.world statics s t
      × IsA at.world t (of_library lib.Runnable) (Ref runnable) × IsReadied by values t
  YieldsOf by values ret act = ⊥

  -- There is a row, and it yields this.
  pub record Yields (by : InvokeKind) (values : List (Value K)) (ret : Option VType) (found : Option (Row K E)) : Type 0 where
    pub row : Row K E
    pub is : found ≡ Some row
    pub act : YieldsOf by values ret row.act
