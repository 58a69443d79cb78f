-- Stores of which each object, static and string constant holds what the program says.
use Rattle.std.specs.Prelude.{◌≡◌, ⊤, ℕ, List, [], ◌∷◌, Some}
use Rattle.jlib.specs.declared.classes.LibClass.TheVariants as lib
use Rattle.jclass.specs.FileContents.{IsIn}
use Rattle.jvalues.specs.declared.jops.value.Value.{Value}
use Rattle.jvalues.specs.declared.jops.value.Value.TheVariants.{Ref}
use Rattle.jtypes.specs.declared.vtype.VType.{VType}
use Rattle.jtypes.specs.declared.vtype.VType.TheVariants as types
use Rattle.jtyping.specs.jrule.ArrayRule.{component}
use Rattle.jtyping.specs.ProofNames.{string}
use Rattle.jsemantics.specs.jmachine.FieldInstructions.{out}
use Rattle.jsemantics.specs.jmachine.HeapObjects.{Object, Instance, Thrown, Text, Bare, Array}
use Rattle.jsemantics.specs.jmachine.Store.{Store, object_at, with_made}
use Rattle.jsemantics.specs.jmachine.World.{World}
use Rattle.jsoundness_laws.specs.typed.TypedValues.{AreOf, CanBeThrown, HasDimensions, IsA, IsBare}

module _ {K : Type 0} (w : World) (s : Store K) where
  -- values that are all of one type
  abbrev pub EachOf : VType → List (Value K) → Type 0
  EachOf t [] = ⊤
  EachOf t (v ∷ values) = IsA w s t v × EachOf t values

  -- a message: a string, or none
  abbrev pub IsMessage : ℕ → Type 0
  IsMessage n = IsA w s string (Ref n)

  -- an object holds what its class says
  abbrev pub IsObject : Object K → Type 0
  IsObject (Instance class message fields) = IsMessage message × AreOf w s (w.layout class) fields
  IsObject (Thrown c message) = CanBeThrown c × IsMessage message
  IsObject (Bare c) = IsBare c
  IsObject (Array a items) = HasDimensions (types.Array a) × EachOf (component a) items
  IsObject x = ⊤

  -- What all threads share, where the statics are of these types: what each object holds, each static, and each string constant that was
  -- made, which is that string; and the first object is `System.out`.
  pub record IsStored (statics : List VType) : Type 0 where
    pub objects : (n : ℕ) (x : Object K) → object_at s n ≡ Some x → IsObject x
    pub statics_of : AreOf w s statics s.statics
    pub constants : (c : List ℕ × ℕ) → IsIn c s.constants → object_at s c.1 ≡ Some (Text (Some c.0))
    pub out_is : object_at s out ≡ Some (Bare lib.PrintStream)

-- ---- laws

-- with one more object, which holds what its class says
abbrev pub StoredMade : Type 0 → Type 0
StoredMade K = (w : World) (s : Store K) (x : Object K) (statics : List VType) → IsStored w s statics → IsObject w (with_made s x) x
    → IsStored w (with_made s x) statics
