-- Which values are of which types, where a machine runs.
use Rattle.std.specs.Prelude.{◌≡◌, ◌≢◌, ⊤, ℕ, zero, Bool, true, false, List, [], ◌∷◌, Option, Some, None, if◌then◌else◌}
use Rattle.jlib.specs.declared.classes.LibClass.{LibClass}
use Rattle.jlib.specs.declared.classes.LibClass.TheVariants as lib
use Rattle.jvalues.specs.declared.jops.value.Value.{Value}
use Rattle.jvalues.specs.declared.jops.value.Value.TheVariants.{Int, Long, Ref, Ctx}
use Rattle.jtypes.specs.declared.vtype.VType.{VType}
use Rattle.jtypes.specs.declared.vtype.VType.TheVariants as types
use Rattle.jtyping.specs.jrule.StackEffects.{Want, Fits}
use Rattle.jsemantics.specs.jmachine.HeapObjects.{Object, Piece, class_of, is_ready}
use Rattle.jsemantics.specs.jmachine.TakenOperands.{meets}
use Rattle.jsemantics.specs.jmachine.Store.{Store, object_at}
use Rattle.jsemantics.specs.jmachine.World.{World}

-- ---- objects

-- a class of the library whose objects can be thrown
abbrev pub CanBeThrown : LibClass → Type 0
CanBeThrown (lib.Thrown c) = ⊤
CanBeThrown lib.AccessControlException = ⊤
CanBeThrown c = ⊥

-- one whose objects hold nothing
abbrev pub IsBare : LibClass → Type 0
IsBare (lib.Thrown c) = ⊥
IsBare lib.AccessControlException = ⊥
IsBare lib.String = ⊥
IsBare lib.StringBuilder = ⊥
IsBare (lib.Permission c) = ⊥
IsBare lib.AccessControlContext = ⊥
IsBare lib.Thread = ⊥
IsBare c = ⊤

abbrev pub is_piece : {K : Type 0} → Object K → Bool
is_piece (Piece units) = true
is_piece x = false

-- An object that values may name under a type: it may be used, and it is no piece of a builder, which nothing names.
abbrev pub is_whole : {K : Type 0} → Object K → Bool
is_whole (Piece units) = false
is_whole x = is_ready x

-- ---- values

-- an array has one dimension at least
abbrev pub HasDimensions : VType → Type 0
HasDimensions (types.Array a) = a.depth ≢ 0
HasDimensions t = ⊤

module _ {K : Type 0} (w : World) (s : Store K) where
  abbrev pub whole_type : Option (Object K) → Option VType
  whole_type None = None
  whole_type (Some x) = if is_whole x then Some (class_of w.named x) else None

  abbrev pub named_type : ℕ → Option VType
  named_type zero = Some types.Null
  named_type n = whole_type (object_at s n)

  -- the type of a value, as `type_of` has it, but for what nothing may name
  abbrev pub known : Value K → Option VType
  known (Int x) = Some types.Int
  known (Long x) = Some types.Long
  known (Ref n) = named_type n
  known (Ctx k) = Some types.Ctx

  -- A value serves where this is wanted, and may be named.
  pub record Serves (want : Want) (v : Value K) : Type 0 where
    pub type : VType
    pub is : known v ≡ Some type
    pub met : meets w want type ≡ true

  -- A value is of a type.
  abbrev pub IsA : VType → Value K → Type 0
  IsA t v = Serves (Fits t) v

  abbrev pub AllServe : List Want → List (Value K) → Type 0
  AllServe [] [] = ⊤
  AllServe [] (v ∷ values) = ⊥
  AllServe (want ∷ wants) [] = ⊥
  AllServe (want ∷ wants) (v ∷ values) = Serves want v × AllServe wants values

  abbrev pub AreOf : List VType → List (Value K) → Type 0
  AreOf [] [] = ⊤
  AreOf [] (v ∷ values) = ⊥
  AreOf (t ∷ ts) [] = ⊥
  AreOf (t ∷ ts) (v ∷ values) = IsA t v × AreOf ts values
