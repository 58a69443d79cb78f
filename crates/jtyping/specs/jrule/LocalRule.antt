-- The rule of loads and stores of locals (JVMS 4.10.1.7, 4.10.1.9). A long fills two locals, and the second is Top.
use Rattle.std.specs.Prelude.{ℕ, zero, suc, ◌+◌, Bool, true, false, ◌&&◌, List, [], ◌∷◌, length, Option, Some, None, slice_get, slice_set, nat_le, if◌then◌else◌}
use Rattle.jvalues.specs.declared.jnames.kinds.Kind.{Kind}
use Rattle.jparts.specs.declared.jcode.names.Access.TheVariants.{Load, Store}
use Rattle.jparts.specs.declared.jcode.op_form.LocalForm.{LocalForm}
use Rattle.jparts.specs.declared.jcode.op_form.LocalForm.TheVariants.{Move, Increment}
use Rattle.jparts.specs.jcode.InstructionForms as forms
use Rattle.jtypes.specs.declared.vtype.VType.{VType}
use Rattle.jtypes.specs.declared.vtype.VType.TheVariants.{Top}
use Rattle.jtypes.specs.TypeFrames.{Frame, is_long, places}
use Rattle.jtyping.specs.jrule.StackEffects.{is_int, is_of}
use Rattle.jtyping.specs.jrule.StackOperands.{pushed}

-- a local is there, and passes
abbrev pub passes : (VType → Bool) → Option VType → Bool
passes test = elim [ None ↦ false | Some a ↦ test a ]

abbrev pub is_top : VType → Bool
is_top = elim [ Top ↦ true | _ ↦ false ]

-- ---- loads

-- the second place of a long
abbrev pub is_whole : List VType → ℕ → VType → Bool
is_whole locals n a = if is_long a then passes is_top (slice_get locals (n + 1)) else true

abbrev pub load_from : ℕ → Kind → ℕ → Frame → Option VType → Option Frame
load_from most k n f = elim [ None ↦ None | Some a ↦ if is_of k a && is_whole f.locals n a then pushed most a f else None ]

-- ---- stores

-- a long that begins in front of a local loses its second place
abbrev pub broken : List VType → ℕ → List VType
broken locals zero = locals
broken locals (suc n) = if passes is_long (slice_get locals n) then slice_set locals n Top else locals

abbrev pub with_second : VType → ℕ → List VType → List VType
with_second a n locals = if is_long a then slice_set locals (n + 1) Top else locals

-- the locals with a value from a place on
unfoldable pub with_local : List VType → ℕ → VType → List VType
with_local locals n a = with_second a n (slice_set (broken locals n) n a)

abbrev pub store_on : Kind → ℕ → Frame → List VType → Option Frame
store_on k n f [] = None
store_on k n f (a ∷ stack) =
    if is_of k a && nat_le (n + length (places a)) (length f.locals)
    then Some (record { locals = with_local f.locals n a; stack = stack; flag = f.flag }) else None

-- ---- all

abbrev pub increment : ℕ → Frame → Option Frame
increment n f = if passes is_int (slice_get f.locals n) then Some f else None

abbrev pub local : ℕ → LocalForm → Frame → Option Frame
local most (Move Load kind n) = λ f. load_from most (forms.local kind) n f (slice_get f.locals n)
local most (Move Store kind n) = λ f. store_on (forms.local kind) n f f.stack
local most (Increment n by) = increment n
