-- The laws of stack maps as they are written.
use Rattle.std.specs.Prelude.{◌≡◌, IsTrue, List, ℕ, Ok}
use Rattle.jground.specs.jformat.Format.{IsBytes}
use Rattle.jparts.specs.declared.jmaps.types.RawFrame.{RawFrame}
use Rattle.jparts.specs.jmaps.StackMapFormat.{maps}

-- bytes spell these frames
abbrev pub Spells : List ℕ → List RawFrame → Type 0
Spells bytes fs = IsTrue (maps.fits fs) × (bytes ≡ maps.spell fs)

abbrev pub NoFaultWhereSpelled : Type 0
NoFaultWhereSpelled = (bytes : List ℕ) (fs : List RawFrame) → Spells bytes fs → maps.read bytes ≡ Ok fs

abbrev pub SpelledWhereNoFault : Type 0
SpelledWhereNoFault = (bytes : List ℕ) (fs : List RawFrame) → IsBytes bytes → maps.read bytes ≡ Ok fs → Spells bytes fs

abbrev pub OneReading : Type 0
OneReading = (bytes : List ℕ) (fs others : List RawFrame) → Spells bytes fs → Spells bytes others → fs ≡ others

abbrev pub OneSpelling : Type 0
OneSpelling = (bytes others : List ℕ) (fs : List RawFrame) → Spells bytes fs → Spells others fs → bytes ≡ others
