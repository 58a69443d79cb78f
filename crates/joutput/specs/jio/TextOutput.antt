-- How a text is written in a line, and how a line goes out in pieces.
use Rattle.std.specs.Prelude.{◌≡◌, ℕ, ◌*◌, ◌/◌, ◌%◌, List, [], ◌∷◌, ◌++◌, length, take, drop, Option, Result, IfErr, nat_le, ◌==◌, ◌&&◌, if◌then◌else◌, false, codes}
use Rattle.std.specs.Fmt.{digit_glyph}
use Rattle.std.specs.Str.{byte}
use Rattle.jground.specs.jbase.FaultCauses.{appended}
use Rattle.joutput.specs.jio.PartialOutput.{IsCutAt}
use Rattle.joutput.specs.declared.jio.sink.PutFault.{PutFault}

-- One UTF-16 unit: a printable one of ASCII stands for itself, but a backslash is written twice; any other is `\u` and
-- four lower-case hexadecimal digits.
abbrev pub written_unit : ℕ → List ℕ
written_unit unit = if unit == byte "\\" then codes "\\\\" else (if nat_le 0x20 unit && nat_le unit 0x7e then unit ∷ [] else
    byte "\\" ∷ byte "u" ∷ digit_glyph false (unit / 0x1000) ∷ digit_glyph false (unit / 0x100 % 16) ∷ digit_glyph false (unit / 16 % 16)
    ∷ digit_glyph false (unit % 16) ∷ [])

-- A text, unit by unit.
unfoldable pub written : List ℕ → List ℕ
written [] = []
written (unit ∷ units) = written_unit unit ++ written units

-- ---- a line in pieces

-- The bytes of a piece.
abbrev pub piece : ℕ
piece = 256

-- How many bytes of a line have gone out, of so many that it has so far: whole pieces.
abbrev pub whole : ℕ → ℕ
whole count = count / piece * piece

-- A line that isn't ended: how many of its bytes have gone out, and the bytes behind these.
pub record LineState : Type 0 where
  pub written : ℕ
  pub pending : List ℕ

-- A line of these bytes so far.
abbrev pub under_way : List ℕ → LineState
under_way bytes = record { written = whole (length bytes); pending = drop (whole (length bytes)) bytes }

-- Of a line that has these bytes so far, what isn't pending went out behind `start`.
pub record IsUnderWay (start now : Option (List ℕ)) (state : LineState) (bytes : List ℕ) : Type 0 where
  pub line : state ≡ under_way bytes
  pub out : now ≡ appended start (take (whole (length bytes)) bytes)

-- These bytes came behind the line's: it goes on so, whatever it had before.
abbrev pub Goes : Option (List ℕ) → Option (List ℕ) → LineState → LineState → List ℕ → Type 0
Goes before now line next bytes =
    (start : Option (List ℕ)) (text : List ℕ) → IsUnderWay start before line text → IsUnderWay start now next (text ++ bytes)

-- At a fault that came at these bytes: of the line, whatever it had before and would have behind them, so many bytes went out.
abbrev pub Breaks : {T : Type 0} → Option (List ℕ) → Option (List ℕ) → LineState → List ℕ → Result T PutFault → Type 0
Breaks before now line bytes result =
    (start : Option (List ℕ)) (text more : List ℕ) → IsUnderWay start before line text
    → IfErr result (λ e. IsCutAt start now (text ++ bytes ++ more) e.written)

-- At a fault that came where the line was ended: of all its bytes so many went out.
abbrev pub BreaksAtEnd : {T : Type 0} → Option (List ℕ) → Option (List ℕ) → LineState → Result T PutFault → Type 0
BreaksAtEnd before now line result = (start : Option (List ℕ)) (text : List ℕ) → IsUnderWay start before line text
    → IfErr result (λ e. IsCutAt start now text e.written)
