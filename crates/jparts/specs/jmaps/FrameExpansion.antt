-- Frames in full, one at a time: each from the place and the locals of the one before.
use Rattle.std.specs.Prelude.{◌≡◌, ℕ, ◌+◌, Bool, true, false, List, [], ◌∷◌, Option, Some, None, Result, Ok, Err}
use Rattle.jparts.specs.declared.jmaps.types.MapType.{MapType}
use Rattle.jparts.specs.declared.jmaps.types.RawFrame.{RawFrame}
use Rattle.jparts.specs.declared.jmaps.fault.ExpandError.{ExpandError}
use Rattle.jparts.specs.declared.jmaps.fault.ExpandError.TheVariants.{Chop, Memory}
use Rattle.jparts.specs.jmaps.ExpandedFrames.{locals_after, place_from}

-- the newest frame that was expanded, before the first one its first locals alone; the number of the next one, and the frames from it on
pub record Expanded : Type 0 where
  pub at : Option ℕ
  pub locals : List MapType
  pub stack : List MapType
  pub number : ℕ
  pub left : List RawFrame

-- before the first frame
abbrev pub opening : List MapType → List RawFrame → Expanded
opening first frames = record { at = None; locals = first; stack = []; number = 0; left = frames }

abbrev pub with_locals : Expanded → RawFrame → List RawFrame → Option (List MapType) → Result (Option Expanded) ℕ
with_locals e f fs None = Err e.number
with_locals e f fs (Some locals) =
    Ok (Some (record { at = Some (place_from e.at f.delta); locals = locals; stack = f.stack; number = e.number + 1; left = fs }))

-- The next frame in full, None where none is left, or the number of a frame that takes away more locals than there are.
abbrev pub next_from : Expanded → List RawFrame → Result (Option Expanded) ℕ
next_from e [] = Ok None
next_from e (f ∷ fs) = with_locals e f fs (locals_after f.form f.locals e.locals)

abbrev pub next : Expanded → Result (Option Expanded) ℕ
next e = next_from e e.left

-- The locals became these, where there are any.
abbrev pub Became : Bool → Option (List MapType) → List MapType → Type 0
Became true (Some locals) new = new ≡ locals
Became false None new = Unit {0}
Became _ _ new = ⊥

-- The call went on to the next frame, and answers whether there is one.
abbrev pub GoesOn : Result (Option Expanded) ℕ → Expanded → Expanded → Result Bool ExpandError → Type 0
GoesOn (Ok None) old new (Ok false) = new ≡ old
GoesOn (Ok (Some e)) old new (Ok true) = new ≡ e
GoesOn (Err i) old new (Err (Chop frame)) = frame ≡ i
GoesOn _ old new (Err Memory) = Unit {0}
GoesOn _ old new _ = ⊥
