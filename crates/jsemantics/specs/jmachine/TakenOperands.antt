-- Taking operands: which values serve where an instruction wants something, by the table that types are checked by.
use Rattle.std.specs.Prelude.{ℕ, zero, Bool, false, ◌||◌, List, [], ◌∷◌, Option, Some, None, option_map, if◌then◌else◌}
use Rattle.jtypes.specs.declared.vtype.VType.{VType}
use Rattle.jtypes.specs.declared.vtype.VType.TheVariants as types
use Rattle.jvalues.specs.declared.jops.value.Value.{Value}
use Rattle.jvalues.specs.declared.jops.value.Value.TheVariants.{Int, Long, Ref, Ctx}
use Rattle.jtyping.specs.jrule.StackEffects.{Want, Of, Fits, Holds, OrThis, holds, is_of}
use Rattle.jsemantics.specs.jmachine.HeapObjects.{Object, class_of, is_ready}
use Rattle.jsemantics.specs.jmachine.Store.{Store, object_at}
use Rattle.jsemantics.specs.jmachine.World.{World, fits}

-- ---- the types of values

-- an object that holds nothing yet is of no type that could serve
abbrev pub ready_type : {K : Type 0} → World → Object K → Option VType
ready_type w x = if is_ready x then Some (class_of w.named x) else None

abbrev pub found_type : {K : Type 0} → World → Option (Object K) → Option VType
found_type w y = elim y [ None ↦ None | Some x ↦ ready_type w x ]

abbrev pub reference_type : {K : Type 0} → World → Store K → ℕ → Option VType
reference_type w s zero = Some types.Null
reference_type w s n = found_type w (object_at s n)

-- the type of a value: of a reference that of the object or array that it names
abbrev pub type_of : {K : Type 0} → World → Store K → Value K → Option VType
type_of w s y = elim y [ Int x ↦ Some types.Int | Long x ↦ Some types.Long | Ref n ↦ reference_type w s n | Ctx k ↦ Some types.Ctx ]

-- ---- what is wanted

-- a type meets what is wanted, as a machine lets types fit
abbrev pub meets : World → Want → VType → Bool
meets w (Of k) a = is_of k a
meets w (Fits b) a = fits w a b
meets w (Holds e) a = holds e a
meets w (OrThis c this) a = fits w a (types.Object c) || fits w a (types.Object this)

abbrev pub serves_as : World → Want → Option VType → Bool
serves_as w want = elim [ None ↦ false | Some a ↦ meets w want a ]

-- a value serves where this is wanted
abbrev pub serves : {K : Type 0} → World → Store K → Want → Value K → Bool
serves w s want v = serves_as w want (type_of w s v)

-- ---- taking

-- values that were taken, and those below them, each the newest first
pub record Taken (K : Type 0) : Type 0 where
  pub values : List (Value K)
  pub below : List (Value K)

abbrev pub with_value : {K : Type 0} → Value K → Taken K → Taken K
with_value v t = record { values = v ∷ t.values; below = t.below }

-- the newest operands, where they serve for what is wanted
unfoldable pub taken : {K : Type 0} → World → Store K → List Want → List (Value K) → Option (Taken K)
taken w s [] operands = Some (record { values = []; below = operands })
taken w s (want ∷ wants) [] = None
taken w s (want ∷ wants) (v ∷ operands) = if serves w s want v then option_map (with_value v) (taken w s wants operands) else None
