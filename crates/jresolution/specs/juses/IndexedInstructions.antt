-- Instructions by number: what each is, with the numbers of those to which it may lead, and with what it means in its class (JVMS 6.5).
use Rattle.std.specs.Prelude.{ℕ, ℤ, pos, ◌+ℤ◌, Bool, true, false, List, [], ◌∷◌, map, Option, Some, option_map, option_and_then, slice_get}
use Rattle.std.specs.List.{position}
use Rattle.std.specs.Ordering.{int_eq}
use Rattle.jground.specs.jbase.ListMaps.{each_some}
use Rattle.jvalues.specs.declared.jnames.names.Compare.{Compare}
use Rattle.jvalues.specs.declared.jnames.names.Shuffle.{Shuffle}
use Rattle.jparts.specs.declared.jpool.entry.Entry.{Entry}
use Rattle.jparts.specs.declared.jcode.names.RefTest.{RefTest}
use Rattle.jparts.specs.declared.jcode.names.Returned.{Returned}
use Rattle.jparts.specs.declared.jcode.op.Placed.{Placed}
use Rattle.jparts.specs.declared.jcode.op.Switch.{Switch as SwitchOp}
use Rattle.jparts.specs.declared.jcode.op.Switch.TheVariants as switches
use Rattle.jparts.specs.declared.jcode.op_form.OpForm.{OpForm}
use Rattle.jparts.specs.declared.jcode.op_form.OpForm.TheVariants as forms
use Rattle.jparts.specs.declared.jcode.op_form.Simple.{Simple as SimpleForm}
use Rattle.jparts.specs.declared.jcode.op_form.LocalForm.{LocalForm}
use Rattle.jparts.specs.declared.jcode.op_form.Flow.{Flow}
use Rattle.jparts.specs.declared.jcode.op_form.Flow.TheVariants as flows
use Rattle.jparts.specs.declared.jcode.op_form.ArrayForm.{ArrayForm}
use Rattle.jparts.specs.declared.jcode.op_form.ArrayForm.TheVariants as arrays
use Rattle.jparts.specs.jcode.InstructionForms.{form}
use Rattle.jresolution.specs.declared.jprogram.member.MethodId.{MethodId}
use Rattle.jclass.specs.declared.class.CodeBody.{CodeBody}
use Rattle.jclass.specs.declared.class.ClassParts.{ClassParts}
use Rattle.jresolution.specs.jprogram.ClassFileParts.{code_of}
use Rattle.jresolution.specs.jprogram.ProgramClasses.{Program}
use Rattle.jresolution.specs.jprogram.MemberResolution.{part_of}
use Rattle.jresolution.specs.juses.InstructionMeanings.{Meaning, array_meant, meant}

-- when a branch is taken
pub data Test : Type 0 where
  Always : Test
  -- an int against zero
  If : Compare → Test
  -- an int against another
  IfInt : Compare → Test
  IfRef : RefTest → Test

-- A number of an instruction is its place among those of its method, counted from 0.
pub data Instruction : Type 0 where
  -- with operands alone
  Simple : SimpleForm → Instruction
  -- with a local
  Local : LocalForm → Instruction
  -- moves the newest items of the stack
  Stack : Shuffle → Instruction
  -- goes on at a number where the test holds
  Jump : Test → ℕ → Instruction
  -- keys, each with the number at which it goes on, and the number for all others
  Switch : List (ℤ × ℕ) → ℕ → Instruction
  Return : Returned → Instruction
  Throw : Instruction
  -- with an array
  Array : ArrayForm → Instruction
  -- by an entry of the pool
  Used : Meaning → Instruction

-- ---- the numbers of targets

-- the number of the instruction to which a branch from a place leads
abbrev pub target : List Placed → ℕ → ℤ → Option ℕ
target ops at by = position (λ one. int_eq (pos one.at) (pos at +ℤ by)) ops

abbrev pub jump : List Placed → ℕ → Test → ℤ → Option Instruction
jump ops at test by = option_map (Jump test) (target ops at by)

-- keys that rise by one from the least, each with its branch's number
unfoldable pub keyed : List Placed → ℕ → ℤ → List ℤ → Option (List (ℤ × ℕ))
keyed ops at key [] = Some []
keyed ops at key (by ∷ branches) = option_and_then (λ to. option_map (λ rest. (key, to) ∷ rest) (keyed ops at (key +ℤ pos 1) branches))
    (target ops at by)

abbrev pub cases : List Placed → ℕ → SwitchOp → Option (List (ℤ × ℕ))
cases ops at (switches.Table s) = keyed ops at s.low s.branches
cases ops at (switches.Lookup s) = each_some (λ c. option_map (λ to. (c.key, to)) (target ops at c.branch)) s.cases

abbrev pub default : SwitchOp → ℤ
default = elim [ switches.Table s ↦ s.default | switches.Lookup s ↦ s.default ]

abbrev pub switch : List Placed → ℕ → SwitchOp → Option Instruction
switch ops at s = option_and_then (λ found. option_map (Switch found) (target ops at (default s))) (cases ops at s)

-- ---- instructions

abbrev pub flow : List Placed → ℕ → Flow SwitchOp → Option Instruction
flow ops at (flows.If test by) = jump ops at (If test) by
flow ops at (flows.IfInt test by) = jump ops at (IfInt test) by
flow ops at (flows.IfRef test by) = jump ops at (IfRef test) by
flow ops at (flows.Goto by) = jump ops at Always by
flow ops at (flows.Switch s) = switch ops at s
flow ops at (flows.Return kind) = Some (Return kind)
flow ops at flows.Throw = Some Throw

abbrev pub by_form : Program → List Entry → List Placed → ℕ → OpForm SwitchOp → Option Instruction
by_form p pool ops at (forms.Simple f) = Some (Simple f)
by_form p pool ops at (forms.Local f) = Some (Local f)
by_form p pool ops at (forms.Stack f) = Some (Stack f)
by_form p pool ops at (forms.Flow f) = flow ops at f
by_form p pool ops at (forms.Array f) = elim f [ arrays.NewRef i ↦ option_map Used (array_meant p pool i) | f ↦ Some (Array f) ]
by_form p pool ops at (forms.Pool f) = option_map Used (meant p pool f)

-- what an instruction among those of its method is; none where it leads to none, or where its entry stands for nothing
unfoldable pub instruction : Program → List Entry → List Placed → Placed → Option Instruction
instruction p pool ops one = by_form p pool ops one.at (form one.op)

-- ---- the code of a method

abbrev pub body_in : ClassParts → ℕ → Option CodeBody
body_in c j = option_and_then code_of (slice_get c.methods j)

abbrev pub code_at : Program → MethodId → Option CodeBody
code_at p m = option_and_then (λ c. body_in c m.method) (part_of p m.class)

abbrev pub instruction_in : Program → ClassParts → ℕ → CodeBody → Option Instruction
instruction_in p c i body = option_and_then (instruction p c.pool body.ops) (slice_get body.ops i)

-- the instruction of a number in a method
unfoldable pub instruction_at : Program → MethodId → ℕ → Option Instruction
instruction_at p m i = option_and_then (λ c. option_and_then (instruction_in p c i) (body_in c m.method)) (part_of p m.class)

-- ---- where a method goes on

abbrev pub targets : Instruction → List ℕ
targets (Jump test to) = to ∷ []
targets (Switch found other) = other ∷ map (λ c. c.1) found
targets _ = []

-- the instruction behind it may follow
abbrev pub goes_on : Instruction → Bool
goes_on (Jump Always to) = false
goes_on (Switch found other) = false
goes_on (Return kind) = false
goes_on Throw = false
goes_on _ = true
