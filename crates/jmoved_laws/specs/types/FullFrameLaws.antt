-- Frames in full, as they are read.
use Rattle.std.specs.Prelude.{◌≡◌, ℕ, List, map, reverse, Some, None, Ok, IsTrue}
use Rattle.std.specs.List.{AllByRecursion}
use Rattle.jparts.specs.declared.jpool.entry.Entry.{Entry}
use Rattle.jparts.specs.declared.jmaps.types.FullFrame.{FullFrame}
use Rattle.jparts.specs.declared.jmaps.types.MapType.{MapType}
use Rattle.jparts.specs.declared.jmaps.types.RawFrame.{RawFrame}
use Rattle.jparts.specs.jmaps.ExpandedFrames.{can_write, expand_from, full_forms}
use Rattle.jtypes.specs.declared.vtype.VType.{VType}
use Rattle.jresolution.specs.jprogram.ProgramClasses.{Program}
use Rattle.jtyping.specs.jwelltyped.DeclaredFrames.{Written, frame_of, item, written_from}

-- what a frame in full says of so many locals, by what its items stand for
abbrev pub in_full : (MapType → VType) → ℕ → FullFrame → Written
in_full of most f = record { at = f.at; frame = Some (frame_of most (map of f.locals) (reverse (map of f.stack))) }

-- Frames that are written full are read as they were, whatever the method begins with.
abbrev pub AreReadBack : Type 0
AreReadBack = (p : Program) (pool : List Entry) (most : ℕ) (before : List VType) (fs : List FullFrame) → IsTrue (can_write fs)
    → written_from p pool most None before (full_forms None fs) ≡ map (in_full (item p pool) most) fs

-- the items of a frame stand for this in a program
abbrev pub StandFor : Program → List Entry → (MapType → VType) → List MapType → Type 0
StandFor p pool of ts = AllByRecursion (λ t. item p pool t ≡ of t) ts

-- Frames that can be said in full are read as they say it.
abbrev pub SaysFull : Type 0
SaysFull = (p : Program) (pool : List Entry) (of : MapType → VType) (most : ℕ) (first : List MapType) (rs : List RawFrame) (fs : List FullFrame)
    → expand_from first 0 None rs ≡ Ok fs → AllByRecursion (λ r. StandFor p pool of r.locals × StandFor p pool of r.stack) rs
    → written_from p pool most None (map of first) rs ≡ map (in_full of most) fs
