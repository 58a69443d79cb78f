-- Modified UTF-8 (JVMS 4.4.7): a text of UTF-16 units, one group of bytes for each unit.
use Rattle.std.specs.Prelude.{ℕ, ◌+◌, ◌-◌, ◌*◌, ◌/◌, ◌%◌, Bool, ◌&&◌, ◌||◌, List, [], ◌∷◌, nat_lt, nat_le, ◌==◌, if◌then◌else◌, Ok}
use Rattle.jground.specs.jformat.Format.{Answer, Format, fault}
use Rattle.jground.specs.jformat.BodyFormats.{Body, many}

-- The group of a unit: the shortest of one, two or three bytes that holds it, and two bytes for unit 0.
abbrev pub group : ℕ → List ℕ
group u =
    if u == 0 then 0xc0 ∷ 0x80 ∷ [] else
    (if nat_lt u 0x80 then u ∷ [] else
    (if nat_lt u 0x800 then (0xc0 + u / 0x40) ∷ (0x80 + u % 0x40) ∷ [] else
    (0xe0 + u / 0x1000) ∷ (0x80 + u / 0x40 % 0x40) ∷ (0x80 + u % 0x40) ∷ []))

-- a byte behind the first of a group
abbrev pub goes_on : ℕ → Bool
goes_on b = nat_le 0x80 b && nat_lt b 0xc0

abbrev pub two : ℕ → ℕ → ℕ
two a b = (a - 0xc0) * 0x40 + (b - 0x80)

abbrev pub three : ℕ → ℕ → ℕ → ℕ
three a b c = (a - 0xe0) * 0x1000 + (b - 0x80) * 0x40 + (c - 0x80)

abbrev pub two_at : List ℕ → ℕ → List ℕ → Answer (Unit {0}) ℕ
two_at bytes a (b ∷ rest) = if goes_on b && (two a b == 0 || nat_le 0x80 (two a b)) then Ok (two a b, rest) else fault tt bytes
two_at bytes a _ = fault tt bytes

abbrev pub three_at : List ℕ → ℕ → List ℕ → Answer (Unit {0}) ℕ
three_at bytes a (b ∷ c ∷ rest) = if goes_on b && (goes_on c && nat_le 0x800 (three a b c)) then Ok (three a b c, rest) else fault tt bytes
three_at bytes a _ = fault tt bytes

-- Where no unit's group stands, the fault is at the first byte.
abbrev pub unit_at : List ℕ → Answer (Unit {0}) ℕ
unit_at [] = fault tt []
unit_at (a ∷ rest) =
    if nat_lt 0 a && nat_lt a 0x80 then Ok (a, rest) else
    (if nat_le 0xc0 a && nat_lt a 0xe0 then two_at (a ∷ rest) a rest else
    (if nat_le 0xe0 a && nat_lt a 0xf0 then three_at (a ∷ rest) a rest else fault tt (a ∷ rest)))

abbrev pub unit : Format (Unit {0}) ℕ
unit = record { spell = group; fits = λ u. nat_lt u 0x1_0000; read = unit_at }

-- a text: its units' groups, one behind the other
abbrev pub text : Body (Unit {0}) (List ℕ)
text = many tt unit
