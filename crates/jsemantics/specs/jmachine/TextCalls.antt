-- Rows of calls of String, StringBuilder and PrintStream (class documentation of these). Values stand newest first, the object last.
-- A receiver that is null has raised before.
use Rattle.std.specs.Prelude.{ℕ, zero, ◌%◌, ◌^◌, pos, Bool, true, false, List, [], ◌∷◌, ◌++◌, length, Option, Some, None, option_map, option_and_then, slice_get, codes}
use Rattle.std.specs.Fmt.{signed_decimal}
use Rattle.std.specs.Int.{w32, cast_unsigned}
use Rattle.std.specs.Ordering.{int_eq}
use Rattle.std.specs.Str.{bytes_eq}
use Rattle.jlib.specs.declared.calls.PrintedType.{PrintedType}
use Rattle.jlib.specs.declared.calls.PrintedType.TheVariants as pieces
use Rattle.jlib.specs.declared.calls.StringCall.{StringCall}
use Rattle.jlib.specs.declared.calls.StringCall.TheVariants as strings
use Rattle.jlib.specs.declared.calls.BuilderCall.{BuilderCall}
use Rattle.jlib.specs.declared.calls.BuilderCall.TheVariants as builders
use Rattle.jlib.specs.declared.classes.Thrown.TheVariants as thrown
use Rattle.jlib.specs.declared.classes.LibClass.TheVariants as lib
use Rattle.jvalues.specs.declared.jops.value.Value.{Value}
use Rattle.jvalues.specs.declared.jops.value.Value.TheVariants.{Int, Long, Ref}
use Rattle.joutput.specs.declared.jtrace.event.Event.TheVariants.{Out}
use Rattle.jsemantics.specs.jmachine.HeapObjects.{Text, Builder, Piece as Appended}
use Rattle.jsemantics.specs.jmachine.Store.{Store, object_at, object_of, with_made, with_object}
use Rattle.jsemantics.specs.jmachine.MachineStates.{Row, Goes, cells_of, costs, free, gives, null, raises}
use Rattle.jsemantics.specs.jmachine.ObjectInstructions.{tested, text_made}
use Rattle.jsemantics.specs.jmachine.Narrowing.{place}

-- ---- texts

-- the units of a string
abbrev pub units : {K : Type 0} → Store K → Value K → Option (List ℕ)
units s v = option_and_then (elim [ Text us ↦ us | _ ↦ None ]) (object_of s v)

-- of null the word that is printed in its place
abbrev pub units_or_null : {K : Type 0} → Store K → Value K → Option (List ℕ)
units_or_null s (Ref zero) = Some (codes "null")
units_or_null s v = units s v

-- What a value is printed as, and appended as: of a char the lowest 16 bits of its int, and of a boolean `false` where its int is 0.
unfoldable pub printed : {K : Type 0} → Store K → PrintedType → Value K → Option (List ℕ)
printed s pieces.Int (Int x) = Some (signed_decimal x)
printed s pieces.Long (Long x) = Some (signed_decimal x)
printed s pieces.Char (Int x) = Some ((cast_unsigned w32 x % 2 ^ 16) ∷ [])
printed s pieces.Bool (Int x) = Some (elim (int_eq x (pos 0)) [ true ↦ codes "false" | false ↦ codes "true" ])
printed s pieces.Text v = units_or_null s v
printed s piece v = None

-- ---- String

abbrev pub unit_given : {K E : Type 0} → Store K → Option ℕ → Row K E
unit_given s x = elim x [ None ↦ raises (lib.Thrown thrown.StringIndexOutOfBoundsException) | Some u ↦ gives s (Int (pos u) ∷ []) ]

-- it is a string of the same units
abbrev pub equals : List ℕ → Option (List ℕ) → Bool
equals us = elim [ None ↦ false | Some vs ↦ bytes_eq us vs ]

unfoldable pub string : {K E : Type 0} → Store K → StringCall → List (Value K) → Option (Row K E)
string s strings.Length (v ∷ []) = option_map (λ us. gives s (Int (pos (length us)) ∷ [])) (units s v)
string s strings.CharAt (Int i ∷ v ∷ []) = option_map (λ us. unit_given s (option_and_then (slice_get us) (place i))) (units s v)
string s strings.Equals (other ∷ v ∷ []) = option_map (λ us. tested s (equals us (units s other))) (units s v)
string s strings.Concat (Ref zero ∷ v ∷ []) = Some null
string s strings.Concat (other ∷ v ∷ []) = option_and_then (λ us. option_map (λ more. text_made s (us ++ more)) (units s other)) (units s v)
string s call values = None

-- ---- StringBuilder

-- what a builder of a number holds
abbrev pub built : {K : Type 0} → Store K → ℕ → Option (List ℕ)
built s n = option_and_then (elim [ Builder us ↦ Some us | _ ↦ None ]) (object_at s n)

-- the builder of a number holds these units with more behind them, and what was appended takes cells of its own
abbrev pub appended : {K E : Type 0} → Store K → ℕ → List (Value K) → List ℕ → List ℕ → Row K E
appended s n results us more = costs (cells_of (length more)) (Goes (with_made (with_object s n (Builder (us ++ more))) (Appended more)) results [])

unfoldable pub builder : {K E : Type 0} → Store K → BuilderCall → List (Value K) → Option (Row K E)
builder s builders.Init (Ref n ∷ []) = option_map (λ us. gives (with_object s n (Builder [])) []) (built s n)
builder s builders.InitText (Ref zero ∷ Ref n ∷ []) = Some null
builder s builders.InitText (v ∷ Ref n ∷ []) = option_and_then (λ us. option_map (appended s n [] []) (units s v)) (built s n)
builder s (builders.Append piece) (v ∷ Ref n ∷ []) = option_and_then (λ us. option_map (appended s n (Ref n ∷ []) us) (printed s piece v)) (built s n)
builder s builders.ToString (Ref n ∷ []) = option_map (text_made s) (built s n)
builder s call values = None

-- ---- PrintStream

abbrev pub line : {K E : Type 0} → Store K → ℕ → List ℕ → Row K E
line s thread us = free (Goes s [] (Out thread us ∷ []))

unfoldable pub print : {K E : Type 0} → Store K → ℕ → PrintedType → List (Value K) → Option (Row K E)
print s thread piece (v ∷ stream ∷ []) = option_map (line s thread) (printed s piece v)
print s thread piece values = None

unfoldable pub print_end : {K E : Type 0} → Store K → ℕ → List (Value K) → Option (Row K E)
print_end s thread (stream ∷ []) = Some (line s thread [])
print_end s thread values = None
