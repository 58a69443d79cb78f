-- What is known of a call by the place where it is made and by the class of its object: what is selected, and what an interface asks.
use Rattle.std.specs.Prelude.{◌≡◌, ℕ, Bool, false, List, Option, Some, None, is_some, option_map}
use Rattle.jmemory.specs.declared.jheap.cell.Kind.{Kind}
use Rattle.jmemory.specs.declared.jheap.cell.Kind.TheVariants as kinds
use Rattle.jlib.specs.declared.classes.LibClass.TheVariants as lib
use Rattle.jtypes.specs.declared.vtype.Name.{Name}
use Rattle.jtypes.specs.Assignability.{class_fits, is_above_arrays}
use Rattle.jclass.specs.declared.class.CodeBody.{CodeBody}
use Rattle.jresolution.specs.declared.jprogram.member.ClassId.{ClassId}
use Rattle.jresolution.specs.declared.jprogram.member.ClassId.TheVariants as id
use Rattle.jresolution.specs.declared.jprogram.member.Selected.{Selected}
use Rattle.jresolution.specs.declared.jprogram.member.Selected.TheVariants as selected
use Rattle.jresolution.specs.declared.jprogram.part.ClassRef.{ClassRef}
use Rattle.jresolution.specs.jprogram.ProgramClasses.{Program}
use Rattle.jresolution.specs.declared.juses.meaning.CallUse.{CallUse}
use Rattle.jresolution.specs.declared.juses.meaning.InvokeKind.{InvokeKind}
use Rattle.jresolution.specs.declared.juses.meaning.InvokeKind.TheVariants as how
use Rattle.jresolution.specs.declared.juses.types.TypeRef.{TypeRef}
use Rattle.jresolution.specs.juses.IndexedInstructions.{code_at}
use Rattle.jresolution.specs.juses.InstructionMeanings.{Call, CallMeaning, Meaning, call_named, meant}
use Rattle.jresolution.specs.juses.PoolTables.{pool_at}
use Rattle.jresolution.specs.juses.InternedTypes.{class_named}
use Rattle.jsemantics.specs.jmachine.CallTargets.{is_hidden}
use Rattle.jsemantics.specs.jmachine.World.{class_id, own_tree, world}
use Rattle.jready.specs.DecodedInstructions.{call_form}
use Rattle.jruntime.specs.jstate.ClassNumbers.{class_numbered, library_number}
use Rattle.jrows.specs.jcalls.MethodCalls.{selected_on}
use Rattle.jserving.specs.declared.jinvoke.choosing.Answer.{Answer}
use Rattle.jserving.specs.declared.jinvoke.choosing.CallKey.{CallKey}
use Rattle.jserving.specs.declared.jinvoke.choosing.Chosen.{Chosen}
use Rattle.jserving.specs.declared.jinvoke.choosing.Chosen.TheVariants as chosens

-- ---- classes of objects

-- the heap's number for the class of an object of a kind; arrays have none
abbrev pub number_by : Kind → Option ℕ
number_by (kinds.Object n) = Some n
number_by (kinds.Array a) = None
number_by kinds.Text = Some (library_number lib.String)
number_by kinds.Piece = Some (library_number lib.StringBuilder)

-- the class at which the methods of such an object are looked for
abbrev pub id_on : Option ℕ → ClassId
id_on None = id.Array
id_on (Some n) = class_id (class_numbered n)

-- such an object is one of a class or an interface
abbrev pub is_one_of : Program → Option ℕ → Name → Bool
is_one_of p None d = is_above_arrays d
is_one_of p (Some n) d = class_fits (own_tree (world p)) (class_named p (class_numbered n)) d

-- ---- answers

abbrev pub locals_in : Option CodeBody → ℕ
locals_in None = 0
locals_in (Some body) = body.max_locals

abbrev pub stack_in : Option CodeBody → ℕ
stack_in None = 0
stack_in (Some body) = body.max_stack

-- what is selected, and how many locals and operands its frames have at most where it has code
abbrev pub chosen : Program → Selected → Chosen
chosen p (selected.Method m) = chosens.Method m (is_some (code_at p m)) (locals_in (code_at p m)) (stack_in (code_at p m))
chosen p (selected.Lib call) = chosens.Lib call
chosen p (selected.Abstract m) = chosens.Abstract
chosen p selected.Missing = chosens.Missing

-- the object has the interface by which it is called
abbrev pub has : Program → InvokeKind → CallMeaning → Option ℕ → Bool
has p how.Interface c on = is_one_of p on c.owner
has p by c on = false

-- what is selected by an interface isn't public
abbrev pub hides : Program → InvokeKind → Selected → Bool
hides p how.Interface s = is_hidden (world p) s
hides p by s = false

abbrev pub with_selected : Program → CallKey → CallMeaning → Selected → Answer
with_selected p k c s = record { what = chosen p s; has = has p k.by c k.on; hidden = hides p k.by s }

abbrev pub answer_by : Program → CallKey → CallMeaning → Answer
answer_by p k c = with_selected p k c (selected_on (world p) k.class k.by c (id_on k.on))

-- nothing is selected
abbrev pub nothing : Answer
nothing = record { what = chosens.Missing; has = false; hidden = false }

abbrev pub answer_to : Program → CallKey → Option CallMeaning → Answer
answer_to p k None = nothing
answer_to p k (Some c) = answer_by p k c

-- the method that the entry at an index of the pool of a class names
abbrev pub in_meaning : Option Meaning → Option CallMeaning
in_meaning (Some (Call by c)) = Some c
in_meaning m = None

abbrev pub called_at : Program → CallKey → Option CallMeaning
called_at p k = in_meaning (meant p (pool_at p k.class) (call_form k.by k.pool))

-- the answer for a call by that entry
unfoldable pub answer : Program → CallKey → Answer
answer p k = answer_to p k (called_at p k)

-- what is asked about a call by such an entry
abbrev pub key : (class : ℕ) → InvokeKind → (pool : ℕ) → Option ℕ → CallKey
key class by pool on = record { class = class; pool = pool; by = by; on = on }

-- This is what a key's entry names, by the types that parameters have.
abbrev pub IsCallAt : Program → CallKey → Option CallUse → Type 0
IsCallAt p k call = (types : List TypeRef) × (option_map (call_named p types) call ≡ called_at p k)

-- This is the class by which the entry at an index of a class's pool names the method of a call, if it names one.
abbrev pub OwnerIs : Program → (class : ℕ) → InvokeKind → (pool : ℕ) → Option ClassRef → Type 0
OwnerIs p class by pool owner = (way : InvokeKind) (c : CallMeaning) → meant p (pool_at p class) (call_form by pool) ≡ Some (Call way c)
    → (r : ClassRef) × (owner ≡ Some r) × (c.owner ≡ class_named p r)
