-- What instructions stand for whose classes and types are said by number.
use Rattle.std.specs.Prelude.{◌≤◌, ℕ, ℤ, pos, ◌+ℤ◌, List, [], ◌∷◌, length, map, Option, option_map}
use Rattle.jparts.specs.declared.jpool.entry.Entry.{Entry}
use Rattle.jparts.specs.declared.jcode.op.Case.{Case}
use Rattle.jparts.specs.declared.jcode.op.Placed.{Placed}
use Rattle.jparts.specs.jcode.Instructions.{Rises}
use Rattle.jclass.specs.declared.class.CodeBody.{CodeBody}
use Rattle.jresolution.specs.jprogram.ProgramClasses.{Program}
use Rattle.jresolution.specs.declared.juses.code.CodeRef.{CodeRef}
use Rattle.jresolution.specs.declared.juses.numbered.FlowRef.{FlowRef}
use Rattle.jresolution.specs.declared.juses.numbered.FlowRef.TheVariants as flows
use Rattle.jresolution.specs.declared.juses.numbered.InstructionRef.{InstructionRef}
use Rattle.jresolution.specs.declared.juses.numbered.InstructionRef.TheVariants as refs
use Rattle.jresolution.specs.declared.juses.numbered.Key.{Key}
use Rattle.jresolution.specs.declared.juses.numbered.Keys.{Keys}
use Rattle.jresolution.specs.declared.juses.numbered.Keys.TheVariants as keys
use Rattle.jresolution.specs.declared.juses.numbered.Condition.{Condition}
use Rattle.jresolution.specs.declared.juses.numbered.Condition.TheVariants as when
use Rattle.jresolution.specs.declared.juses.types.TypeRef.{TypeRef}
use Rattle.jresolution.specs.juses.IndexedInstructions.{Instruction, Simple, Local, Stack, Jump, Switch, Return, Throw, Array, Used, Test, Always, If, IfInt, IfRef, target}
use Rattle.jresolution.specs.juses.InstructionMeanings.{meaning_of}

abbrev pub test_of : Condition → Test
test_of when.Always = Always
test_of (when.If test) = If test
test_of (when.IfInt test) = IfInt test
test_of (when.IfRef test) = IfRef test

-- keys that rise by one from the least, each with its number
unfoldable pub keys_from : ℤ → List ℕ → List (ℤ × ℕ)
keys_from key [] = []
keys_from key (to ∷ rest) = (key, to) ∷ keys_from (key +ℤ pos 1) rest

abbrev pub keyed_as : Key → ℤ × ℕ
keyed_as k = (k.key, k.to)

-- a case with the number to which its branch leads
abbrev pub key_at : List Placed → ℕ → Case → Option Key
key_at ops at c = option_map (λ to. record { key = c.key; to = to }) (target ops at c.branch)

abbrev pub keys_of : Keys → List (ℤ × ℕ)
keys_of (keys.From low numbers) = keys_from low numbers
keys_of (keys.Each all) = map keyed_as all

abbrev pub flow_named : FlowRef → Instruction
flow_named (flows.Jump test to) = Jump (test_of test) to
flow_named (flows.Switch found other) = Switch (keys_of found) other
flow_named (flows.Return kind) = Return kind
flow_named flows.Throw = Throw

-- by a program, the pool of its class, and the list in which the types of parameters stand
abbrev pub instruction_named : Program → List Entry → List TypeRef → InstructionRef → Instruction
instruction_named p pool types (refs.Simple f) = Simple f
instruction_named p pool types (refs.Local f) = Local f
instruction_named p pool types (refs.Stack f) = Stack f
instruction_named p pool types (refs.Flow f) = flow_named f
instruction_named p pool types (refs.Array f) = Array f
instruction_named p pool types (refs.Used u) = Used (meaning_of p pool types u)

-- ---- code

-- the code of a method, lent
abbrev pub seen_code : CodeRef → CodeBody
seen_code c = record { max_stack = c.max_stack; max_locals = c.max_locals; ops = c.ops.now; handlers = c.handlers.now; attributes = c.attributes.now }

-- The instructions of a method's code: their places rise, and they are fewer than 2 ^ 16.
pub record AreCode (ops : List Placed) : Type 0 where
  pub rises : Rises ops
  pub few : length ops ≤ 0xffff
