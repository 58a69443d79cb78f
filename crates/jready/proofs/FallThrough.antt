-- An instruction that goes on needs one behind it.
use Rattle.std.proofs.Common.{◌≡◌, ℕ, Bool, true, false, List, Option, Some, None, refl, sym, ap, subst}
use Rattle.std.specs.Prelude.{not, ◌||◌, option_map, slice_get, if◌then◌else◌}
use Rattle.jparts.specs.declared.jpool.entry.Entry.{Entry}
use Rattle.jresolution.specs.jprogram.ProgramClasses.{Program}
use Rattle.jresolution.specs.declared.juses.numbered.Condition.TheVariants as when
use Rattle.jresolution.specs.juses.IndexedInstructions.{Instruction, Used, goes_on}
use Rattle.jresolution.specs.juses.InstructionMeanings.{Meaning}
use Rattle.jresolution.specs.juses.PoolTables.{pool_at}
use Rattle.jready.specs.declared.instr.ArrayInstr.{ArrayInstr}
use Rattle.jready.specs.declared.instr.ArrayInstr.TheVariants as array
use Rattle.jready.specs.declared.instr.FlowInstr.TheVariants as flow
use Rattle.jready.specs.declared.instr.Instr.{Instr}
use Rattle.jready.specs.declared.instr.Instr.TheVariants as instr
use Rattle.jready.specs.declared.instr.ObjectInstr.{ObjectInstr}
use Rattle.jready.specs.declared.instr.ObjectInstr.TheVariants as object
use Rattle.jready.specs.declared.instr.OperandOp.{OperandOp}
use Rattle.jready.specs.declared.instr.OperandOp.TheVariants as plain
use Rattle.jready.specs.declared.instr.Push.{Push}
use Rattle.jready.specs.declared.instr.Push.TheVariants as push
use Rattle.jready.specs.declared.tables.Tables.{Tables}
use Rattle.jready.specs.CodeLayout.{followed, instr_goes_on}
use Rattle.jready.specs.DecodedInstructions.{array_instr, meant, object_meant, plain_meant, push_meant}

-- what an instruction by number stands for goes on alike
abbrev goes : Bool → Option Instruction → Type 0
goes b None = Unit {0}
goes b (Some it) = goes_on it ≡ b

goes_used : (o : Option Meaning) → goes true (option_map Used o)
goes_used None = tt
goes_used (Some m) = refl

goes_mapped : {A : Type 0} (f : A → Instruction) (b : Bool) → ((x : A) → goes_on (f x) ≡ b) → (o : Option A) → goes b (option_map f o)
goes_mapped f b h None = tt
goes_mapped f b h (Some x) = h x

goes_plain : (t : Tables) (f : OperandOp) → goes true (plain_meant t f)
goes_plain t plain.Nothing = refl
goes_plain t plain.Null = refl
goes_plain t (plain.Int n) = refl
goes_plain t (plain.Long k) = goes_mapped _ true (λ n. refl) (slice_get t.longs k)
goes_plain t (plain.Two op) = refl
goes_plain t (plain.Divide op) = refl
goes_plain t (plain.One op) = refl

goes_array : (f : ArrayInstr) → goes true (Some (array_instr f))
goes_array (array.New kind) = refl
goes_array (array.Load e) = refl
goes_array (array.Store e) = refl
goes_array array.Length = refl

goes_push : (p : Program) (pool : List Entry) (t : Tables) (f : Push) → goes true (push_meant p pool t f)
goes_push p pool t (push.Int n) = refl
goes_push p pool t (push.Long k) = goes_mapped _ true (λ n. refl) (slice_get t.longs k)
goes_push p pool t (push.Text i) = refl

goes_object : (p : Program) (pool : List Entry) (f : ObjectInstr) → goes true (object_meant p pool f)
goes_object p pool (object.New i class) = goes_used _
goes_object p pool (object.NewLibrary i class) = goes_used _
goes_object p pool (object.NewArray i array) = goes_used _
goes_object p pool (object.CastClass op i class) = goes_used _
goes_object p pool (object.Cast op i) = goes_used _
goes_object p pool (object.Out op i) = goes_used _

goes_instr : (p : Program) (t : Tables) (class : ℕ) (i : Instr) → goes (instr_goes_on i) (meant p t class i)
unfolding meant
goes_instr p t class instr.Off = tt
goes_instr p t class (instr.Plain f) = goes_plain t f
goes_instr p t class (instr.Push f) = goes_push p (pool_at p class) t f
goes_instr p t class (instr.Local f) = refl
goes_instr p t class (instr.Stack f) = refl
goes_instr p t class (instr.Flow (flow.Jump when.Always to)) = refl
goes_instr p t class (instr.Flow (flow.Jump (when.If test) to)) = refl
goes_instr p t class (instr.Flow (flow.Jump (when.IfInt test) to)) = refl
goes_instr p t class (instr.Flow (flow.Jump (when.IfRef test) to)) = refl
goes_instr p t class (instr.Flow (flow.Return kind)) = refl
goes_instr p t class (instr.Flow flow.Throw) = refl
goes_instr p t class (instr.Table c) = goes_mapped _ false (λ to. refl) (slice_get t.targets c.first)
goes_instr p t class (instr.Lookup c) = refl
goes_instr p t class (instr.Array f) = goes_array f
goes_instr p t class (instr.Object f) = goes_object p (pool_at p class) f
goes_instr p t class (instr.Field op cell narrow i declared field) = goes_used _
goes_instr p t class (instr.Call how i params method) = goes_used _
goes_instr p t class (instr.Library how i params call) = goes_used _

-- ---- behind it

by_more : (b : Bool) (it : Instruction) → Some it ≡ (if b || true then Some it else None)
by_more true it = refl
by_more false it = refl

followed_more : (o : Option Instruction) → o ≡ followed true o
followed_more None = refl
followed_more (Some it) = by_more (not (goes_on it)) it

followed_last : (o : Option Instruction) → goes true o → None ≡ followed false o
followed_last None h = refl
followed_last (Some it) h = ap (λ (b : Bool). if not b || false then Some it else None) (sym h)

followed_end : (o : Option Instruction) → goes false o → o ≡ followed false o
followed_end None h = refl
followed_end (Some it) h = ap (λ (b : Bool). if not b || false then Some it else None) (sym h)

pub more_stays : (p : Program) (t : Tables) (class : ℕ) (i : Instr) → meant p t class i ≡ followed true (meant p t class i)
more_stays p t class i = followed_more (meant p t class i)

pub last_stops : (p : Program) (t : Tables) (class : ℕ) (i : Instr) → instr_goes_on i ≡ true → None ≡ followed false (meant p t class i)
last_stops p t class i e = followed_last (meant p t class i) (subst (λ (b : Bool). goes b (meant p t class i)) e (goes_instr p t class i))

pub last_stays : (p : Program) (t : Tables) (class : ℕ) (i : Instr) → instr_goes_on i ≡ false → meant p t class i ≡ followed false (meant p t class i)
last_stays p t class i e = followed_end (meant p t class i) (subst (λ (b : Bool). goes b (meant p t class i)) e (goes_instr p t class i))
