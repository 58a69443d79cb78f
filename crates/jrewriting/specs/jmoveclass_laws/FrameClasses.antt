-- Frames whose items name classes that are there (JVMS 4.7.4).
use Rattle.std.specs.Prelude.{List, None, IsTrue}
use Rattle.std.specs.List.{AllByRecursion, list_all}
use Rattle.jparts.specs.declared.jpool.entry.Entry.{Entry}
use Rattle.jparts.specs.declared.jmaps.types.FullFrame.{FullFrame}
use Rattle.jparts.specs.declared.jmaps.types.MapType.{MapType}
use Rattle.jparts.specs.jmaps.ExpandedFrames.{can_write, full_forms, items_fit}
use Rattle.jclass.specs.declared.class.CodeBody.{CodeBody}
use Rattle.jclass.specs.CodeFormat.{maps, named_type, frames_in}
use Rattle.jmoveclass.specs.MovedMembers.{frames_of}

-- the classes that the items of frames name stand in a pool
abbrev pub AreThere : List Entry → List FullFrame → Type 0
AreThere pool fs = AllByRecursion (λ f. IsTrue (list_all (named_type pool).fits f.locals) × IsTrue (list_all (named_type pool).fits f.stack)) fs

-- Frames in full name classes that are there, where those do from which they are made,
abbrev pub FullFrames : Type 0
FullFrames = (pool : List Entry) (first : List MapType) (b : CodeBody) → IsTrue (list_all (named_type pool).fits first)
    → IsTrue ((maps pool).fits (frames_in b)) → AreThere pool (frames_of first b)

-- and where they can be written they are frames of a class file with this pool.
abbrev pub FramesFit : Type 0
FramesFit = (pool : List Entry) (fs : List FullFrame) → IsTrue (can_write fs) → IsTrue (items_fit fs) → AreThere pool fs
    → IsTrue ((maps pool).fits (full_forms None fs))
