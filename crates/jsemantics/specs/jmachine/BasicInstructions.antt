-- Rows of instructions that compute, jump, return and throw, and of those with a local or with the newest items of the stack (JVMS 6.5).
-- Values that were taken stand newest first.
use Rattle.std.specs.Prelude.{ℕ, zero, ℤ, pos, ◌+ℤ◌, ◌+◌, Bool, true, false, ◌&&◌, List, [], ◌∷◌, ◌++◌, length, map, drop, Option, Some, None, option_map, option_and_then, Result, Ok, Err, slice_get, slice_set, nat_le, if◌then◌else◌}
use Rattle.std.specs.Ordering.{int_eq}
use Rattle.jvalues.specs.declared.jnames.kinds.Kind.{Kind}
use Rattle.jvalues.specs.declared.jnames.names.Compare.TheVariants as compares
use Rattle.jvalues.specs.declared.jnames.names.Shuffle.{Shuffle}
use Rattle.jvalues.specs.declared.jops.value.Value.{Value}
use Rattle.jvalues.specs.declared.jops.value.Value.TheVariants.{Int, Long, Ref}
use Rattle.jvalues.specs.declared.jops.value.DivideByZero.{DivideByZero}
use Rattle.jvalues.specs.jops.ValueKinds.{is_of}
use Rattle.jvalues.specs.jops.Operations as operations
use Rattle.jvalues.specs.jops.Operations.{divide, int, one, two}
use Rattle.jvalues.specs.jops.Shuffles.{Move, is_long, item, shuffle}
use Rattle.jparts.specs.declared.jcode.names.Access.TheVariants.{Load, Store as Keep}
use Rattle.jparts.specs.declared.jcode.names.RefTest.TheVariants as refs
use Rattle.jparts.specs.declared.jcode.op_form.Simple.{Simple}
use Rattle.jparts.specs.declared.jcode.op_form.Simple.TheVariants as simples
use Rattle.jparts.specs.declared.jcode.op_form.LocalForm.{LocalForm}
use Rattle.jparts.specs.declared.jcode.op_form.LocalForm.TheVariants.{Move as Moves, Increment}
use Rattle.jparts.specs.jcode.InstructionForms as forms
use Rattle.jlib.specs.declared.classes.Thrown.TheVariants as thrown
use Rattle.jlib.specs.declared.classes.LibClass.TheVariants as lib
use Rattle.jresolution.specs.juses.IndexedInstructions.{Test, Always, If, IfInt, IfRef}
use Rattle.jsemantics.specs.jmachine.MachineStates.{Row, Jumps, Leaves, Throws, free, gives, raises}
use Rattle.jsemantics.specs.jmachine.Store.{Store}

-- ---- operands alone

-- a value, where there is one
abbrev pub gives_one : {K E : Type 0} → Store K → Option (Value K) → Option (Row K E)
gives_one s v = option_map (λ x. gives s (x ∷ [])) v

abbrev pub quotient : {K E : Type 0} → Store K → Result (Value K) DivideByZero → Row K E
quotient s x = elim x [ Ok v ↦ gives s (v ∷ []) | Err e ↦ raises (lib.Thrown thrown.ArithmeticException) ]

unfoldable pub simple : {K E : Type 0} → Store K → Simple → List (Value K) → Option (Row K E)
simple s simples.Nothing [] = Some (gives s [])
simple s simples.Null [] = Some (gives s (Ref 0 ∷ []))
simple s (simples.Int n) [] = Some (gives s (Int n ∷ []))
simple s (simples.Long n) [] = Some (gives s (Long n ∷ []))
simple s (simples.Two op) (b ∷ a ∷ []) = gives_one s (two op a b)
simple s (simples.Divide op) (b ∷ a ∷ []) = option_map (quotient s) (divide op a b)
simple s (simples.One op) (a ∷ []) = gives_one s (one op a)
simple s form values = None

-- ---- jumps

-- whether a branch is taken
abbrev pub holds : {K : Type 0} → Test → List (Value K) → Option Bool
holds Always [] = Some true
holds (If test) (a ∷ []) = operations.test test a (Int (pos 0))
holds (IfInt test) (b ∷ a ∷ []) = operations.test test a b
holds (IfRef refs.Same) (b ∷ a ∷ []) = operations.test compares.Eq a b
holds (IfRef refs.Other) (b ∷ a ∷ []) = operations.test compares.Ne a b
holds (IfRef refs.Null) (a ∷ []) = operations.test compares.Eq a (Ref 0)
holds (IfRef refs.NonNull) (a ∷ []) = operations.test compares.Ne a (Ref 0)
holds test values = None

abbrev pub branched : {K E : Type 0} → Store K → ℕ → Bool → Row K E
branched s to x = elim x [ true ↦ free (Jumps to) | false ↦ gives s [] ]

unfoldable pub jump : {K E : Type 0} → Store K → Test → ℕ → List (Value K) → Option (Row K E)
jump s test to values = option_map (branched s to) (holds test values)

-- where a switch goes on: at the first case of the key, else at the other number
unfoldable pub case_of : ℤ → List (ℤ × ℕ) → ℕ → ℕ
case_of key [] other = other
case_of key (c ∷ cases) other = if int_eq c.0 key then c.1 else case_of key cases other

unfoldable pub switch : {K E : Type 0} → List (ℤ × ℕ) → ℕ → List (Value K) → Option (Row K E)
switch cases other (Int key ∷ []) = Some (free (Jumps (case_of key cases other)))
switch cases other values = None

-- ---- returns and throws

-- what was taken is returned
abbrev pub leave : {K E : Type 0} → List (Value K) → Option (Row K E)
leave values = Some (free (Leaves values))

unfoldable pub throw : {K E : Type 0} → List (Value K) → Option (Row K E)
throw (Ref zero ∷ []) = Some (raises (lib.Thrown thrown.NullPointerException))
throw (Ref n ∷ []) = Some (free (Throws n))
throw values = None

-- ---- locals and the stack, which are more than operands that are taken

-- what a frame holds
pub record Held (K : Type 0) : Type 0 where
  pub locals : List (Option (Value K))
  pub operands : List (Value K)

abbrev pub holding : {K : Type 0} → List (Option (Value K)) → List (Value K) → Held K
holding locals operands = record { locals = locals; operands = operands }

-- what a local holds, where it holds something
abbrev pub local_at : {K : Type 0} → List (Option (Value K)) → ℕ → Option (Value K)
local_at locals n = option_and_then (λ v. v) (slice_get locals n)

abbrev pub loaded : {K : Type 0} → Kind → Held K → Value K → Option (Held K)
loaded kind h v = if is_of kind v then Some (holding h.locals (v ∷ h.operands)) else None

-- the locals that a value takes
abbrev pub places : {K : Type 0} → Value K → List (Option (Value K))
places v = if is_long v then Some v ∷ None ∷ [] else Some v ∷ []

-- the second local of a long holds nothing
abbrev pub with_local : {K : Type 0} → List (Option (Value K)) → ℕ → Value K → List (Option (Value K))
with_local locals n v = if is_long v then slice_set (slice_set locals n (Some v)) (n + 1) None else slice_set locals n (Some v)

abbrev pub stored : {K : Type 0} → Kind → ℕ → List (Option (Value K)) → List (Value K) → Option (Held K)
stored kind n locals [] = None
stored kind n locals (v ∷ operands) = if is_of kind v && nat_le (n + length (places v)) (length locals) then Some
    (holding (with_local locals n v) operands) else None

abbrev pub increased : {K : Type 0} → Held K → ℕ → ℤ → Value K → Option (Held K)
increased h n by y = elim y [ Int x ↦ Some (holding (slice_set h.locals n (Some (int (x +ℤ by)))) h.operands) | _ ↦ None ]

unfoldable pub local : {K : Type 0} → LocalForm → Held K → Option (Held K)
local (Moves Load kind n) h = option_and_then (loaded (forms.local kind) h) (local_at h.locals n)
local (Moves Keep kind n) h = stored (forms.local kind) n h.locals h.operands
local (Increment n by) h = option_and_then (increased h n by) (local_at h.locals n)

abbrev pub moved : {V : Type 0} → List V → Move V → List V
moved operands m = m.put ++ drop m.taken operands

unfoldable pub stack : {K : Type 0} → Shuffle → Held K → Option (Held K)
stack op h = option_map (λ m. holding h.locals (moved h.operands m)) (shuffle op (map item h.operands))
