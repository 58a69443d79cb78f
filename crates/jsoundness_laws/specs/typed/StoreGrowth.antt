-- Stores that come behind others: objects stay of their classes, and what may be used stays so.
use Rattle.std.specs.Prelude.{◌≡◌, ℕ, true, Some}
use Rattle.jtypes.specs.TypeFrames.{Frame}
use Rattle.jtyping.specs.jrule.InstructionContext.{Here}
use Rattle.jsemantics.specs.jmachine.MachineStates.{FrameOf}
use Rattle.jsemantics.specs.jmachine.HeapObjects.{Object, class_of}
use Rattle.jsemantics.specs.jmachine.Store.{Store, object_at, with_made, with_object}
use Rattle.jsemantics.specs.jmachine.World.{World}
use Rattle.jsoundness_laws.specs.typed.TypedFrames.{News, Suits}
use Rattle.jsoundness_laws.specs.typed.TypedValues.{is_piece, is_whole}

-- what may stand in an object's place later on
pub record Becomes {K : Type 0} (w : World) (x y : Object K) : Type 0 where
  pub class : class_of w.named y ≡ class_of w.named x
  pub whole : is_whole x ≡ true → is_whole y ≡ true
  pub piece : is_piece y ≡ is_piece x

-- each object is there in the later store, in its place
abbrev pub Grows : {K : Type 0} → World → Store K → Store K → Type 0
Grows {K} w s t = (n : ℕ) (x : Object K) → object_at s n ≡ Some x → (y : Object K) × (object_at t n ≡ Some y) × Becomes w x y

-- ---- laws

-- what a frame holds suits it in each store behind
abbrev pub SuitsLater : Type 0 → Type 0 → Type 0
SuitsLater K E = (w : World) (s t : Store K) (here : Here) (news : News) (shape : Frame) (f : FrameOf K E) → Grows w s t
    → Suits w s here news shape f → Suits w t here news shape f

abbrev pub GrowsItself : Type 0 → Type 0
GrowsItself K = (w : World) (s : Store K) → Grows w s s

abbrev pub GrowsOn : Type 0 → Type 0
GrowsOn K = (w : World) (s t u : Store K) → Grows w s t → Grows w t u → Grows w s u

-- with one more object
abbrev pub GrowsMade : Type 0 → Type 0
GrowsMade K = (w : World) (s : Store K) (x : Object K) → Grows w s (with_made s x)

-- with another object in the place of one that may become it
abbrev pub GrowsChanged : Type 0 → Type 0
GrowsChanged K = (w : World) (s : Store K) (n : ℕ) (x y : Object K) → object_at s n ≡ Some x → Becomes w x y → Grows w s (with_object s n y)
