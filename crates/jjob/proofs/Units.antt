-- The units of a text of ASCII.
use Rattle.std.proofs.Common.{◌≡◌, ◌∙◌, ℕ, suc, List, [], ◌∷◌, ◌++◌, ◌<◌, IsAscii, refl, ap, arith}
use Rattle.std.specs.List.{flat_map}
use Rattle.std.specs.Char.Escape.{encode_utf16}
use Rattle.std.proofs.lemmas.Bool.{lt-ltb}
use Rattle.std.proofs.lemmas.Str.{chars-IsAscii}
use Rattle.jground.specs.jtext.Texts.{units_of_text}

one_unit : (b : ℕ) → b < 128 → encode_utf16 b ≡ b ∷ []
one_unit b small = rw (lt-ltb b 0x1_0000 (omega arith)) refl

each_unit : (bytes : List ℕ) → IsAscii bytes → flat_map encode_utf16 bytes ≡ bytes
each_unit [] ascii = refl
each_unit (b ∷ bytes) ascii =
    ap (λ (l : List ℕ). l ++ flat_map encode_utf16 bytes) (one_unit b (ascii 0)) ∙ ap (λ (l : List ℕ). b ∷ l) (each_unit bytes (λ i. ascii (suc i)))

-- they are its bytes
pub ascii_units : (text : List ℕ) → IsAscii text → units_of_text text ≡ text
ascii_units text ascii = ap (flat_map encode_utf16) (chars-IsAscii text ascii) ∙ each_unit text ascii
