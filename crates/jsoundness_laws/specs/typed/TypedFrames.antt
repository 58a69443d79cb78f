-- What a frame holds, by the frame that typing gives to its instruction.
use Rattle.std.specs.Prelude.{◌≡◌, ◌≢◌, ⊤, ℕ, false, List, [], ◌∷◌, Option, Some, None}
use Rattle.std.specs.List.{AllByRecursion}
use Rattle.jvalues.specs.declared.jops.value.Value.{Value}
use Rattle.jvalues.specs.declared.jops.value.Value.TheVariants.{Ref}
use Rattle.jtypes.specs.declared.vtype.Name.{Name}
use Rattle.jtypes.specs.declared.vtype.VType.{VType}
use Rattle.jtypes.specs.declared.vtype.VType.TheVariants as types
use Rattle.jtypes.specs.TypeFrames.{Frame}
use Rattle.jtyping.specs.jrule.InstructionContext.{Here}
use Rattle.jsemantics.specs.jmachine.MachineStates.{FrameOf}
use Rattle.jsemantics.specs.jmachine.HeapObjects.{Object, class_of}
use Rattle.jsemantics.specs.jmachine.Store.{Store, object_at}
use Rattle.jsemantics.specs.jmachine.World.{World}
use Rattle.jsoundness_laws.specs.typed.TypedValues.{HasDimensions, IsA, is_piece}

-- The objects, by their numbers, on which no `<init>` was called yet: what the `new` at each place made last, and `this`.
pub record News : Type 0 where
  pub made : ℕ → ℕ
  pub this : ℕ

-- the arrays of a frame have dimensions
abbrev pub AllHaveDimensions : Frame → Type 0
AllHaveDimensions shape = AllByRecursion HasDimensions shape.locals × AllByRecursion HasDimensions shape.stack

module _ {K : Type 0} (w : World) (s : Store K) where
  -- The object of a number is there, of just this class and no piece,
  abbrev pub IsMade : Option Name → ℕ → Type 0
  IsMade None n = ⊥
  IsMade (Some c) n = (x : Object K) × (object_at s n ≡ Some x) × (class_of w.named x ≡ types.Object c) × (is_piece x ≡ false)

  -- or of this class or one below it; a user's object may be used before its `<init>`.
  abbrev pub IsBelow : Name → ℕ → Type 0
  IsBelow c n = IsA w s (types.Object c) (Ref n) × (n ≢ 0)

  -- what is known of a value in a frame of a method, whose class and whose `new`s `here` says
  abbrev pub Has : Here → News → VType → Value K → Type 0
  Has here news types.Top v = ⊤
  Has here news types.UninitThis v = (v ≡ Ref news.this) × IsBelow here.class news.this
  Has here news (types.Uninit o) v = (v ≡ Ref (news.made o)) × IsMade (here.makes o) (news.made o)
  Has here news (types.Array a) v = IsA w s (types.Array a) v × HasDimensions (types.Array a)
  Has here news t v = IsA w s t v

  abbrev pub AllHave : Here → News → List VType → List (Value K) → Type 0
  AllHave here news [] [] = ⊤
  AllHave here news [] (v ∷ values) = ⊥
  AllHave here news (t ∷ ts) [] = ⊥
  AllHave here news (t ∷ ts) (v ∷ values) = Has here news t v × AllHave here news ts values

  -- a local that holds nothing is of no type
  abbrev pub Holds : Here → News → VType → Option (Value K) → Type 0
  Holds here news t None = t ≡ types.Top
  Holds here news t (Some v) = Has here news t v

  abbrev pub AllHold : Here → News → List VType → List (Option (Value K)) → Type 0
  AllHold here news [] [] = ⊤
  AllHold here news [] (v ∷ locals) = ⊥
  AllHold here news (t ∷ ts) [] = ⊥
  AllHold here news (t ∷ ts) (v ∷ locals) = Holds here news t v × AllHold here news ts locals

  -- A frame of the machine holds what one of typing says.
  pub record Suits {E : Type 0} (here : Here) (news : News) (shape : Frame) (f : FrameOf K E) : Type 0 where
    pub locals : AllHold here news shape.locals f.locals
    pub operands : AllHave here news shape.stack f.operands
