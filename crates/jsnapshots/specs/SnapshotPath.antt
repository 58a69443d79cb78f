-- The stack that was kept last, frame by frame from the oldest on.
use Rattle.std.specs.Prelude.{ℕ, ◌≡◌, ⊤, List, [], ◌∷◌, Option, Some, map, slice_get}
use Rattle.jsnapshots.specs.declared.mark.InspectMark.{InspectMark}
use Rattle.jsnapshots.specs.declared.entry.KeptEntry.{KeptEntry}
use Rattle.jsnapshots.specs.declared.entry.KeptEntry.TheVariants.{Frame}
use Rattle.jsnapshots.specs.declared.path.NumberedFrame.{NumberedFrame}

-- the marks of frames
abbrev pub marks_of : List NumberedFrame → List InspectMark
marks_of frames = map (λ f. f.mark) frames

-- the number of the stack of frames on that of a number
abbrev pub newest : Option ℕ → List NumberedFrame → Option ℕ
newest under [] = under
newest under (f ∷ frames) = newest (Some f.number) frames

-- each frame's number has the entry of its mark on the stack of the frame before
abbrev pub Lies : List KeptEntry → Option ℕ → List NumberedFrame → Type 0
Lies entries under [] = ⊤
Lies entries under (f ∷ frames) =
    (slice_get entries f.number ≡ Some (Frame (record { mark = f.mark; older = under }))) × Lies entries (Some f.number) frames
