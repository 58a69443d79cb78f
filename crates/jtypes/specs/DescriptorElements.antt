-- What the parts of a field descriptor name (JVMS 4.3.2): how many brackets stand in front, the letter behind them, and the class's name
-- behind `L`.
use Rattle.std.specs.Prelude.{ℕ, zero, suc, ◌==◌, Option, Some, None, if◌then◌else◌}
use Rattle.std.specs.Str.{byte}
use Rattle.jtypes.specs.declared.vtype.Name.{Name}
use Rattle.jtypes.specs.declared.vtype.Element.{Element}
use Rattle.jtypes.specs.declared.vtype.Element.TheVariants as elements
use Rattle.jtypes.specs.declared.vtype.VType.{VType}
use Rattle.jtypes.specs.declared.vtype.VType.TheVariants.{Int, Long, Object, Array}

-- what a letter stands for; the letters of float and double are left out
abbrev pub element_of : ℕ → Name → Option Element
element_of letter class =
    if letter == byte "Z" then Some elements.Boolean else (
    if letter == byte "C" then Some elements.Char else (
    if letter == byte "B" then Some elements.Byte else (
    if letter == byte "S" then Some elements.Short else (
    if letter == byte "I" then Some elements.Int else (
    if letter == byte "J" then Some elements.Long else (
    if letter == byte "L" then Some (elements.Class class) else None))))))

-- a boolean, byte, char or short outside of arrays is an int
abbrev pub alone : Element → VType
alone = elim [ elements.Long ↦ Long | elements.Class c ↦ Object c | _ ↦ Int ]

abbrev pub in_brackets : ℕ → Element → VType
in_brackets zero x = alone x
in_brackets (suc d) x = Array (record { depth = suc d; element = x })
