-- What a row came to, by what the machine's definition says that its instruction does.
use Rattle.std.specs.Prelude.{◌≡◌, ⊤, ◌+◌, ℕ, ℤ, slice_get, Bool, true, false, List, [], Option, Some, None, nat_le, if◌then◌else◌}
use Rattle.jvalues.specs.declared.jops.value.Value.{Value}
use Rattle.jvalues.specs.declared.jops.value.Value.TheVariants.{Int}
use Rattle.joutput.specs.declared.jtrace.event.Event.{Event}
use Rattle.jresolution.specs.declared.jprogram.member.Member.{Member}
use Rattle.jresolution.specs.juses.IndexedInstructions.{Instruction, Switch}
use Rattle.jsemantics.specs.jmachine.MachineStates.{Act, FrameOf, Goes, Jumps, Raises, Throws}
use Rattle.jsemantics.specs.jmachine.InstructionActions.{Doing, doing}
use Rattle.jsemantics.specs.jmachine.FrameOperations.{onward, standing, with_operands}
use Rattle.jsemantics.specs.jmachine.Security.{Rules}
use Rattle.jsemantics.specs.jmachine.InstructionSites.{Site}
use Rattle.jsemantics.specs.jmachine.Store.{Store, paid}
use Rattle.jrows.specs.declared.jacts.way.Way.{Way}
use Rattle.jrows.specs.declared.jacts.way.Way.TheVariants as ways

-- what a row left: what is to be done behind it, what it told, its frame, and the store
pub record Left (E : Type 0) : Type 0 where
  pub way : Way
  pub told : List Event
  pub frame : FrameOf ℕ E
  pub store : Store ℕ

abbrev pub leaves : {E : Type 0} → Way → List Event → FrameOf ℕ E → Store ℕ → Left E
leaves way told frame store = record { way = way; told = told; frame = frame; store = store }

-- a frame that has only lost operands, or got others
abbrev pub IsSame : {E : Type 0} → FrameOf ℕ E → FrameOf ℕ E → Type 0
IsSame f g = g ≡ with_operands f g.operands

-- An act of a frame whose operands were taken, where so many cells are to be paid. What is above the cells that are left changes nothing.
-- The operands of a frame that raises or throws aren't looked at any more.
abbrev pub Acted : {E : Type 0} → (f : FrameOf ℕ E) (s : Store ℕ) (taken : FrameOf ℕ E) → ℕ → Act ℕ E → Left E → Type 0
Acted f s taken cells (Goes u values events) l =
    l ≡ (if nat_le cells s.left then leaves ways.Went events (onward taken values) (paid cells u) else leaves ways.Full [] f s)
Acted f s taken cells (Jumps to) l = (cells ≡ 0) × (l ≡ leaves ways.Went [] (standing taken to taken.operands) s)
Acted f s taken cells (Raises events class message) l =
    (cells ≡ 0) × (message ≡ None) × (l.way ≡ ways.Raises class) × (l.told ≡ events) × IsSame taken l.frame × (l.store ≡ s)
Acted f s taken cells (Throws n) l = (cells ≡ 0) × (l.way ≡ ways.Throws n) × (l.told ≡ []) × IsSame taken l.frame × (l.store ≡ s)
Acted f s taken cells act l = ⊥

-- what an instruction does at a frame; a state without a step is stuck
abbrev pub Comes : {E : Type 0} → FrameOf ℕ E → Store ℕ → Option (Doing ℕ E) → Left E → Type 0
Comes f s None l = l.way ≡ ways.Stuck
Comes f s (Some d) l = Acted f s d.frame d.row.charge d.row.act l

-- A row did what its instruction does, whatever the store is, which it leaves as it is.
abbrev pub Does : {E : Type 0} → Instruction → FrameOf ℕ E → Way → FrameOf ℕ E → Type 0
Does {E} i f way g =
    (r : Rules ℕ E) (at : Site) (own : Member → Bool) (s : Store ℕ) (entries : List E) (inherited : Option ℕ)
    → Comes f s (doing r at own s entries inherited i f) (leaves way [] g s)

-- a frame with these operands goes on at a number where a test holds, else behind its instruction
abbrev pub branched : {E : Type 0} → Bool → ℕ → FrameOf ℕ E → List (Value ℕ) → FrameOf ℕ E
branched true to f operands = standing f to operands
branched false to f operands = standing f (f.place + 1) operands

-- the number of an int
abbrev pub int_in : Option (Value ℕ) → Option ℤ
int_in (Some (Int x)) = Some x
int_in v = None

-- A switch that finds no key is stuck.
abbrev pub NoKey : Type 0 → Type 0
NoKey E = (cases : List (ℤ × ℕ)) (other : ℕ) (f g : FrameOf ℕ E) → int_in (slice_get f.operands 0) ≡ None → Does (Switch cases other) f ways.Stuck g

-- A row of an instruction did what it does, wherever the instruction stands: the stores before and behind it are told.
abbrev pub Acts : {E : Type 0} → Instruction → FrameOf ℕ E → Store ℕ → Left E → Type 0
Acts {E} i f s l =
    (r : Rules ℕ E) (at : Site) (own : Member → Bool) (entries : List E) (inherited : Option ℕ) → Comes f s (doing r at own s entries inherited i f) l

-- A row that costs nothing goes on with the store that it made.
abbrev pub GoesFree : Type 0 → Type 0
GoesFree E = (f : FrameOf ℕ E) (s t : Store ℕ) (told : List Event) (g : FrameOf ℕ E)
    → leaves ways.Went told g t ≡ (if nat_le 0 s.left then leaves ways.Went told g (paid 0 t) else leaves ways.Full [] f s)

-- A row of an instruction did what it does wherever this holds of the place.
abbrev pub ActsWhere : {E : Type 0} → (Site → (Member → Bool) → Type 0) → Instruction → FrameOf ℕ E → Store ℕ → Left E → Type 0
ActsWhere {E} C i f s l =
    (r : Rules ℕ E) (at : Site) (own : Member → Bool) (entries : List E) (inherited : Option ℕ) → C at own
    → Comes f s (doing r at own s entries inherited i f) l

-- ---- what doesn't go on

-- What raises, throws or finds too few cells has left this as it was.
abbrev pub Rests : {A : Type 0} → Way → A → A → Type 0
Rests ways.Went x y = ⊤
Rests ways.Stuck x y = ⊤
Rests way x y = y ≡ x
