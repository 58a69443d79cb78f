-- Which instruction of the definition an instruction by number stands for (JVMS 6.5), by the tables, and by the class in which it stands.
use Rattle.std.specs.Prelude.{ℕ, ◌+◌, List, map, Option, Some, None, option_map, slice_get}
use Rattle.jparts.specs.declared.jpool.entry.Entry.{Entry}
use Rattle.jparts.specs.declared.jcode.op_form.ArrayForm.TheVariants as arrays
use Rattle.jparts.specs.declared.jcode.op_form.PoolForm.{PoolForm}
use Rattle.jparts.specs.declared.jcode.op_form.PoolForm.TheVariants as forms
use Rattle.jparts.specs.declared.jcode.op_form.Simple.TheVariants as simples
use Rattle.jparts.specs.declared.jcode.names.CallOp.TheVariants as calls
use Rattle.jresolution.specs.jprogram.ProgramClasses.{Program}
use Rattle.jresolution.specs.jprogram.ClassFileParts.{text}
use Rattle.jresolution.specs.declared.juses.meaning.InvokeKind.{InvokeKind}
use Rattle.jresolution.specs.declared.juses.meaning.InvokeKind.TheVariants as how
use Rattle.jresolution.specs.juses.IndexedInstructions.{Instruction, Simple, Local, Stack, Jump, Switch, Return, Throw, Array, Used}
use Rattle.jresolution.specs.juses.InstructionMeanings as meanings
use Rattle.jresolution.specs.juses.InstructionMeanings.{Pushed, array_meant}
use Rattle.jresolution.specs.juses.InternedInstructions.{keyed_as, keys_from, test_of}
use Rattle.jresolution.specs.juses.PoolTables.{pool_at}
use Rattle.jready.specs.declared.instr.ArrayInstr.{ArrayInstr}
use Rattle.jready.specs.declared.instr.ArrayInstr.TheVariants as array
use Rattle.jready.specs.declared.instr.FlowInstr.{FlowInstr}
use Rattle.jready.specs.declared.instr.FlowInstr.TheVariants as flow
use Rattle.jready.specs.declared.instr.Instr.{Instr}
use Rattle.jready.specs.declared.instr.Instr.TheVariants as instr
use Rattle.jready.specs.declared.instr.Lookup.{Lookup}
use Rattle.jready.specs.declared.instr.ObjectInstr.{ObjectInstr}
use Rattle.jready.specs.declared.instr.ObjectInstr.TheVariants as object
use Rattle.jready.specs.declared.instr.OperandOp.{OperandOp}
use Rattle.jready.specs.declared.instr.OperandOp.TheVariants as plain
use Rattle.jready.specs.declared.instr.Push.{Push}
use Rattle.jready.specs.declared.instr.Push.TheVariants as push
use Rattle.jready.specs.declared.instr.Table.{Table}
use Rattle.jready.specs.declared.tables.Tables.{Tables}
use Rattle.jready.specs.TableGrowth.{part}

-- ---- with operands alone, and where the method goes on

abbrev pub plain_meant : Tables → OperandOp → Option Instruction
plain_meant t plain.Nothing = Some (Simple simples.Nothing)
plain_meant t plain.Null = Some (Simple simples.Null)
plain_meant t (plain.Int n) = Some (Simple (simples.Int n))
plain_meant t (plain.Long k) = option_map (λ n. Simple (simples.Long n)) (slice_get t.longs k)
plain_meant t (plain.Two op) = Some (Simple (simples.Two op))
plain_meant t (plain.Divide op) = Some (Simple (simples.Divide op))
plain_meant t (plain.One op) = Some (Simple (simples.One op))

abbrev pub flow_meant : FlowInstr → Instruction
flow_meant (flow.Jump test to) = Jump (test_of test) to
flow_meant (flow.Return kind) = Return kind
flow_meant flow.Throw = Throw

-- the target of other keys stands first
abbrev pub table_meant : Tables → Table → Option Instruction
table_meant t c = option_map (Switch (keys_from c.low (part t.targets (c.first + 1) c.count))) (slice_get t.targets c.first)

abbrev pub lookup_meant : Tables → Lookup → Instruction
lookup_meant t c = Switch (map keyed_as (part t.keys c.first c.count)) c.other

abbrev pub array_instr : ArrayInstr → Instruction
array_instr (array.New kind) = Array (arrays.New kind)
array_instr (array.Load e) = Array (arrays.Load e)
array_instr (array.Store e) = Array (arrays.Store e)
array_instr array.Length = Array arrays.Length

-- ---- by an entry of the pool

-- the form of a call
abbrev pub call_form : InvokeKind → ℕ → PoolForm
call_form how.Virtual i = forms.Call calls.Virtual i
call_form how.Special i = forms.Call calls.Special i
call_form how.Static i = forms.Call calls.Static i
call_form how.Interface i = forms.CallInterface i 0
call_form how.Init i = forms.Call calls.Special i

module _ (p : Program) (pool : List Entry) where
  -- what a form means
  abbrev pub by_pool : PoolForm → Option Instruction
  by_pool f = option_map Used (meanings.meant p pool f)

  abbrev pub pushed : Pushed → Instruction
  pushed c = Used (meanings.Push c)

  abbrev pub push_meant : Tables → Push → Option Instruction
  push_meant t (push.Int n) = Some (pushed (meanings.Int n))
  push_meant t (push.Long k) = option_map (λ n. pushed (meanings.Long n)) (slice_get t.longs k)
  push_meant t (push.Text i) = Some (pushed (meanings.Text (text pool i)))

  abbrev pub object_meant : ObjectInstr → Option Instruction
  object_meant (object.New i class) = by_pool (forms.New i)
  object_meant (object.NewLibrary i class) = by_pool (forms.New i)
  object_meant (object.NewArray i array) = option_map Used (array_meant p pool i)
  object_meant (object.CastClass op i class) = by_pool (forms.Cast op i)
  object_meant (object.Cast op i) = by_pool (forms.Cast op i)
  object_meant (object.Out op i) = by_pool (forms.Field op i)

-- ---- all

-- the instruction for which one by number stands that is of the class at a place; none where there is no step
unfoldable pub meant : Program → Tables → ℕ → Instr → Option Instruction
meant p t class instr.Off = None
meant p t class (instr.Plain f) = plain_meant t f
meant p t class (instr.Push f) = push_meant p (pool_at p class) t f
meant p t class (instr.Local f) = Some (Local f)
meant p t class (instr.Stack f) = Some (Stack f)
meant p t class (instr.Flow f) = Some (flow_meant f)
meant p t class (instr.Table c) = table_meant t c
meant p t class (instr.Lookup c) = Some (lookup_meant t c)
meant p t class (instr.Array f) = Some (array_instr f)
meant p t class (instr.Object f) = object_meant p (pool_at p class) f
meant p t class (instr.Field op cell narrow i slot owner) = by_pool p (pool_at p class) (forms.Field op i)
meant p t class (instr.Call way i params method) = by_pool p (pool_at p class) (call_form way i)
meant p t class (instr.Library way i params call) = by_pool p (pool_at p class) (call_form way i)
