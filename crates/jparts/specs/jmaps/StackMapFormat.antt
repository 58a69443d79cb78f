-- Stack maps as they are written: the content of a StackMapTable (JVMS 4.7.4).
use Rattle.std.specs.Prelude.{ℕ, ◌-◌, ◌==◌, nat_lt, true, if◌then◌else◌, List, [], Option, Some, None, Ok, ok_or}
use Rattle.std.specs.Int.{w16}
use Rattle.jground.specs.jformat.Format.{Answer, Format, number, ◌·◌, via}
use Rattle.jground.specs.jformat.BodyFormats.{Body, counted, whole}
use Rattle.jground.specs.jformat.UnionFormats.{Cases, case, sole, ◌∣◌, union}
use Rattle.jground.specs.jformat.TagTables.{rows}
use Rattle.jparts.specs.declared.jmaps.fault.Kinds.{Kinds}
use Rattle.jparts.specs.declared.jmaps.fault.MapFault.{MapFault}
use Rattle.jparts.specs.declared.jmaps.fault.MapFault.TheVariants as kinds
use Rattle.jparts.specs.declared.jmaps.types.MapType.{MapType}
use Rattle.jparts.specs.declared.jmaps.types.MapType.TheVariants.{Top, Int, Long, Null, UninitThis, Uninit, Object}
use Rattle.jparts.specs.declared.jmaps.types.RawFrame.{RawFrame}
use Rattle.jparts.specs.declared.jmaps.types.Number.{Number}
use Rattle.jparts.specs.declared.jmaps.types.Number.TheVariants.{Given, Written}
use Rattle.jparts.specs.declared.jmaps.types.Row.{Row}

-- ---- types

-- the tags of types; 2 is float's and 3 is double's
abbrev pub tag : MapType → ℕ
tag = elim [ Top ↦ 0 | Int ↦ 1 | Long ↦ 4 | Null ↦ 5 | UninitThis ↦ 6 | Object n ↦ 7 | Uninit n ↦ 8 ]

-- a type that is its tag alone
abbrev pub alone : {K : Type 0} → MapType → Cases K MapType
alone one = sole (tag one) one (λ other. tag other == tag one)

abbrev pub type_cases : {K : Type 0} → K → Cases K MapType
type_cases cut = alone Top ∣ alone Int ∣ alone Long ∣ alone Null ∣ alone UninitThis
    ∣ case 7 Object (elim [ Object n ↦ Some n | _ ↦ None ]) (number w16 cut) ∣ case 8 Uninit (elim [ Uninit n ↦ Some n | _ ↦ None ]) (number w16 cut)

abbrev pub no_type : {K : Type 0} → Kinds K → ℕ → K
no_type kinds t = if t == 2 then kinds.left_out else (if t == 3 then kinds.left_out else kinds.bad_tag)

unfoldable pub map_type : {K : Type 0} → Kinds K → Format K MapType
map_type kinds = union kinds.truncated (no_type kinds) (type_cases kinds.truncated)

-- ---- frames

-- What a type byte says: the delta, how many locals, how many stack items.
unfoldable pub row : ℕ → Option Row
row t =
    if nat_lt t 64 then Some (record { delta = Given t; locals = Given 0; stack = Given 0 }) else (
    if nat_lt t 128 then Some (record { delta = Given (t - 64); locals = Given 0; stack = Given 1 }) else (
    if nat_lt t 247 then None else (
    if nat_lt t 248 then Some (record { delta = Written; locals = Given 0; stack = Given 1 }) else (
    if nat_lt t 252 then Some (record { delta = Written; locals = Given 0; stack = Given 0 }) else (
    if nat_lt t 255 then Some (record { delta = Written; locals = Given (t - 251); stack = Given 0 }) else (
    Some (record { delta = Written; locals = Written; stack = Written })))))))

-- a number that takes no bytes
abbrev pub given : {K : Type 0} → ℕ → Format K ℕ
given n = record { spell = λ _. []; fits = λ m. m == n; read = λ bytes. Ok (n, bytes) }

abbrev pub part : {K : Type 0} → K → Number → Format K ℕ
part cut x = elim x [ Given n ↦ given n | Written ↦ number w16 cut ]

-- behind the type byte
abbrev pub body : {K : Type 0} → K → Format K MapType → Row → Format K (ℕ × (List MapType × List MapType))
body cut item r = part cut r.delta · counted (part cut r.locals) item · counted (part cut r.stack) item

-- a frame, whose items have this format
unfoldable pub frame : {K : Type 0} → Kinds K → Format K MapType → Format K RawFrame
frame kinds item = via (λ p. record { form = p.0; delta = p.1.0; locals = p.1.1.0; stack = p.1.1.1 }) (λ f. (f.form, (f.delta, (f.locals, f.stack))))
    (rows kinds.truncated (λ t. ok_or (row t) kinds.reserved) (body kinds.truncated item))

-- the frames, behind their number, and nothing behind them
unfoldable pub frames : {K : Type 0} → Kinds K → Format K MapType → Body K (List RawFrame)
frames kinds item = whole kinds.trailing (counted (number w16 kinds.truncated) (frame kinds item))

-- ---- by their own names of faults

abbrev pub map_kinds : Kinds MapFault
map_kinds = record {
  truncated = kinds.Truncated;
  reserved = kinds.Reserved;
  bad_tag = kinds.BadTag;
  left_out = kinds.LeftOut;
  trailing =
      kinds.Trailing;
}

abbrev pub own_type : Format MapFault MapType
own_type = map_type map_kinds

abbrev pub own_frame : Format MapFault RawFrame
own_frame = frame map_kinds own_type

-- the content of a StackMapTable
unfoldable pub maps : Body MapFault (List RawFrame)
maps = frames map_kinds own_type

-- how a value is read, where no more is told of its format
abbrev pub read_alone : {K A : Type 0} → (List ℕ → Answer K A) → Format K A
read_alone read = record { spell = λ _. []; fits = λ _. true; read = read }
