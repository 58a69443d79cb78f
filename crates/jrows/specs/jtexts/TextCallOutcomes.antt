-- What a call of the library came to, by what the machine's definition says that it does.
use Rattle.std.specs.Prelude.{◌≡◌, ℕ, pos, Bool, true, false, List, [], ◌∷◌, Option, Some, None, nat_le, if◌then◌else◌}
use Rattle.jvalues.specs.declared.jops.value.Value.{Value}
use Rattle.jvalues.specs.declared.jops.value.Value.TheVariants.{Int}
use Rattle.joutput.specs.declared.jtrace.event.Event.{Event}
use Rattle.jsemantics.specs.jmachine.MachineStates.{Act, Goes, Raises, Row}
use Rattle.jsemantics.specs.jmachine.Store.{Store, paid}
use Rattle.jrows.specs.declared.jtexts.ran.Ran.{Ran}
use Rattle.jrows.specs.declared.jtexts.ran.Ran.TheVariants as rans

-- what a call left: what it came to, what it told, and the store
pub record Left : Type 0 where
  pub ran : Ran
  pub told : List Event
  pub store : Store ℕ

abbrev pub leaves : Ran → List Event → Store ℕ → Left
leaves ran told store = record { ran = ran; told = told; store = store }

-- No call of the library gives more than one value.
abbrev pub gave : List (Value ℕ) → Ran
gave [] = rans.Went
gave (v ∷ []) = rans.Gave v
gave values = rans.Stuck

-- An act, where so many cells are to be paid. What is above the cells that are left changes nothing.
abbrev pub Acted : {E : Type 0} → Store ℕ → ℕ → Act ℕ E → Left → Type 0
Acted s cells (Goes u values events) l = l ≡ (if nat_le cells s.left then leaves (gave values) events (paid cells u) else leaves rans.Full [] s)
Acted s cells (Raises [] class None) l = (cells ≡ 0) × (l ≡ leaves (rans.Raises class) [] s)
Acted s cells act l = ⊥

-- what a row does, where there is one; a state without a step is stuck
abbrev pub Comes : {E : Type 0} → Store ℕ → Option (Row ℕ E) → Left → Type 0
Comes s None l = l ≡ leaves rans.Stuck [] s
Comes s (Some r) l = Acted s r.charge r.act l

-- a boolean as a value
abbrev pub flag : Bool → Value ℕ
flag true = Int (pos 1)
flag false = Int (pos 0)

-- A call that costs nothing leaves the store that it made.
abbrev pub GoesFree : Type 0
GoesFree = (s t : Store ℕ) (ran : Ran) (told : List Event) (full : Left)
    → leaves ran told t ≡ (if nat_le 0 s.left then leaves ran told (paid 0 t) else full)
