-- Rows of instructions with arrays (JVMS 6.5). Of several exceptions of one access that of a null array comes first, then that of the
-- index, then that of the stored value's class.
use Rattle.std.specs.Prelude.{ℕ, zero, ℤ, pos, List, [], ◌∷◌, length, replicate, Option, Some, None, option_map, option_and_then, slice_get, slice_set, nat_lt, if◌then◌else◌}
use Rattle.jlib.specs.declared.classes.Thrown.TheVariants as thrown
use Rattle.jlib.specs.declared.classes.LibClass.TheVariants as lib
use Rattle.jtypes.specs.declared.vtype.ArrayType.{ArrayType}
use Rattle.jtypes.specs.declared.vtype.VType.{VType}
use Rattle.jtypes.specs.declared.vtype.VType.TheVariants as types
use Rattle.jvalues.specs.declared.jops.value.Value.{Value}
use Rattle.jvalues.specs.declared.jops.value.Value.TheVariants.{Int, Ref}
use Rattle.jparts.specs.declared.jcode.op_form.ArrayForm.{ArrayForm}
use Rattle.jparts.specs.declared.jcode.op_form.ArrayForm.TheVariants as forms
use Rattle.jtyping.specs.jrule.ArrayRule.{component, of_numbers}
use Rattle.jsemantics.specs.jmachine.HeapObjects.{Object, Array}
use Rattle.jsemantics.specs.jmachine.Store.{Store, next_number, object_at, with_made, with_object}
use Rattle.jsemantics.specs.jmachine.MachineStates.{Row, Goes, cells_of, costs, gives, null, raises}
use Rattle.jsemantics.specs.jmachine.Narrowing.{default, held_by, narrowed, place}
use Rattle.jsemantics.specs.jmachine.TakenOperands.{type_of}
use Rattle.jsemantics.specs.jmachine.World.{World}
use Rattle.jsemantics.specs.jmachine.ObjectInstructions.{is_one}

-- ---- making

abbrev pub made_of : {K : Type 0} → ArrayType → ℕ → Object K
made_of a n = Array a (replicate n (default (component a)))

abbrev pub made : {K E : Type 0} → Store K → ArrayType → Option ℕ → Row K E
made s a None = raises (lib.Thrown thrown.NegativeArraySizeException)
made s a (Some n) = costs (cells_of n) (Goes (with_made s (made_of a n)) (Ref (next_number s) ∷ []) [])

-- newarray and anewarray: an array of so many items, each 0 or null
unfoldable pub make : {K E : Type 0} → Store K → VType → List (Value K) → Option (Row K E)
make s (types.Array a) (Int n ∷ []) = Some (made s a (place n))
make s t values = None

-- ---- access

-- the type and the items of an array
pub record Items (K : Type 0) : Type 0 where
  pub type : ArrayType
  pub items : List (Value K)

abbrev pub items_in : {K : Type 0} → Option (Object K) → Option (Items K)
items_in (Some (Array a items)) = Some (record { type = a; items = items })
items_in x = None

-- the index of an item that is there
abbrev pub within : ℕ → Option ℕ → Option ℕ
within count = elim [ None ↦ None | Some i ↦ if nat_lt i count then Some i else None ]

abbrev pub outside : {K E : Type 0} → Row K E
outside = raises (lib.Thrown thrown.ArrayIndexOutOfBoundsException)

abbrev pub load_at : {K E : Type 0} → Store K → Items K → Option ℕ → Option (Row K E)
load_at s x y = elim y [ None ↦ Some outside | Some i ↦ option_map (λ v. gives s (v ∷ [])) (slice_get x.items i) ]

abbrev pub load : {K E : Type 0} → Store K → ℤ → Items K → Option (Row K E)
load s i x = load_at s x (within (length x.items) (place i))

-- ---- stores

abbrev pub with_item : {K : Type 0} → Store K → ℕ → Items K → ℕ → Value K → Store K
with_item s n x i v = with_object s n (Array x.type (slice_set x.items i (narrowed (held_by x.type) v)))

-- a value may be stored: a number always, and an object that is one of what the array holds
abbrev pub store_at : {K E : Type 0} → World → Store K → ℕ → Value K → Items K → Option ℕ → Row K E
store_at w s n v x None = outside
store_at w s n v x (Some i) =
    if is_one w (component x.type) (type_of w s v) then gives (with_item s n x i v) [] else raises (lib.Thrown thrown.ArrayStoreException)

abbrev pub store : {K E : Type 0} → World → Store K → ℕ → ℤ → Value K → Items K → Row K E
store w s n i v x = store_at w s n v x (within (length x.items) (place i))

-- ---- all

-- an array of references is made by an entry of the pool
unfoldable pub array : {K E : Type 0} → World → Store K → ArrayForm → List (Value K) → Option (Row K E)
array w s (forms.New kind) values = make s (types.Array (record { depth = 1; element = of_numbers kind })) values
array w s (forms.Load e) (Int i ∷ Ref zero ∷ []) = Some null
array w s (forms.Load e) (Int i ∷ Ref n ∷ []) = option_and_then (load s i) (items_in (object_at s n))
array w s (forms.Store e) (v ∷ Int i ∷ Ref zero ∷ []) = Some null
array w s (forms.Store e) (v ∷ Int i ∷ Ref n ∷ []) = option_map (store w s n i v) (items_in (object_at s n))
array w s forms.Length (Ref zero ∷ []) = Some null
array w s forms.Length (Ref n ∷ []) = option_map (λ x. gives s (Int (pos (length x.items)) ∷ [])) (items_in (object_at s n))
array w s form values = None
