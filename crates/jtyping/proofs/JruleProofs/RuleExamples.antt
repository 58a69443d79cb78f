-- What the rule says of small frames, computed.
use Rattle.std.proofs.Common.{◌≡◌, ℕ, true, false, List, [], ◌∷◌, Option, Some, None, refl}
use Rattle.std.specs.Prelude.{◌==◌, codes, if◌then◌else◌}
use Rattle.jvalues.specs.declared.jnames.kinds.Kind.TheVariants as kinds
use Rattle.jvalues.specs.declared.jnames.names.Shuffle.TheVariants.{Dup2, DupX1, Pop2, Swap}
use Rattle.jparts.specs.declared.jcode.names.Element.TheVariants as items
use Rattle.jparts.specs.declared.jcode.names.Returned.TheVariants as results
use Rattle.jvalues.specs.jops.Shuffles.{shuffle}
use Rattle.jtypes.specs.declared.vtype.Name.{Name}
use Rattle.jtypes.specs.declared.vtype.Element.TheVariants as elements
use Rattle.jtypes.specs.declared.vtype.VType.{VType}
use Rattle.jtypes.specs.declared.vtype.VType.TheVariants.{Top, Int, Long, Null, UninitThis, Uninit, Object, Array}
use Rattle.jtypes.specs.TypeFrames.{Frame, all_fit, slots}
use Rattle.jtypes.specs.ClassTrees.{Tree}
use Rattle.jtyping.specs.jrule.ArrayRule as array
use Rattle.jtyping.specs.jrule.InstructionContext.{Here}
use Rattle.jtyping.specs.ProofNames
use Rattle.jtyping.specs.jrule.LocalRule.{with_local}
use Rattle.jtyping.specs.jrule.StackMoveRule as moves
use Rattle.jtyping.specs.jrule.ObjectRule as objects
use Rattle.jtyping.specs.jrule.StackOperands.{below, taken}
use Rattle.jtyping.specs.jrule.PreciseFrames.{frame_precise, locals_precise, precise}
use Rattle.jtyping.specs.jrule.BasicRule as straight

abbrev frame : List VType → List VType → Frame
frame locals stack = record { locals = locals; stack = stack; flag = false }

abbrev begun : List VType → List VType → Frame
begun locals stack = record { locals = locals; stack = stack; flag = true }

abbrev name : List ℕ → Name
name text = record { 0 = text }

-- ---- locals

-- an int over the second half of a long
second_half : with_local (Long ∷ Top ∷ Int ∷ []) 1 Int ≡ Top ∷ Int ∷ Int ∷ []
unfolding with_local
second_half = refl

-- a long over the first half of another
first_half : with_local (Int ∷ Long ∷ Top ∷ []) 0 Long ≡ Long ∷ Top ∷ Top ∷ []
unfolding with_local
first_half = refl

-- a long doesn't fit into the last local
last_local : ProofNames.store kinds.Long 1 (frame (Int ∷ Int ∷ []) (Long ∷ [])) ≡ None
last_local = refl

load_needs_room : ProofNames.load 1 kinds.Long 0 (frame (Long ∷ Top ∷ []) []) ≡ None
unfolding slots
load_needs_room = refl

load_long : ProofNames.load 2 kinds.Long 0 (frame (Long ∷ Top ∷ []) []) ≡ Some (frame (Long ∷ Top ∷ []) (Long ∷ []))
unfolding slots
load_long = refl

-- aload moves an object before its `<init>`, and no int
load_uninit : ProofNames.load 2 kinds.Held 0 (frame (Uninit 4 ∷ []) []) ≡ Some (frame (Uninit 4 ∷ []) (Uninit 4 ∷ []))
unfolding slots
load_uninit = refl

load_int : ProofNames.load 2 kinds.Held 0 (frame (Int ∷ []) []) ≡ None
load_int = refl

-- ---- moves of the stack

dup2_of_a_long : moves.move 4 Dup2 (frame [] (Long ∷ [])) ≡ Some (frame [] (Long ∷ Long ∷ []))
unfolding slots shuffle moves.items
dup2_of_a_long = refl

dup2_without_room : moves.move 3 Dup2 (frame [] (Long ∷ [])) ≡ None
unfolding slots shuffle moves.items
dup2_without_room = refl

dup_x1_over_a_long : moves.move 9 DupX1 (frame [] (Int ∷ Long ∷ [])) ≡ None
unfolding shuffle moves.items
dup_x1_over_a_long = refl

swap_of_two : moves.move 9 Swap (frame [] (Null ∷ Int ∷ [])) ≡ Some (frame [] (Int ∷ Null ∷ []))
unfolding slots shuffle moves.items
swap_of_two = refl

pop2_of_top : moves.move 9 Pop2 (frame [] (Int ∷ Top ∷ [])) ≡ None
unfolding shuffle moves.items
pop2_of_top = refl

-- ---- arrays

null_loaded : (t : Tree) → array.load t 2 items.Ref (frame [] (Int ∷ Null ∷ [])) ≡ Some (frame [] (Null ∷ []))
unfolding slots taken below
null_loaded t = refl

ints_loaded : (t : Tree) → array.load t 2 items.Ref (frame [] (Int ∷ Array (record { depth = 2; element = elements.Int }) ∷ [])) ≡ Some (frame [] (Array (record { depth = 1; element = elements.Int }) ∷ []))
unfolding slots taken below
ints_loaded t = refl

-- booleans are held as bytes
boolean_loaded : (t : Tree) → array.load t 2 items.Byte (frame [] (Int ∷ Array (record { depth = 1; element = elements.Boolean }) ∷ [])) ≡ Some (frame [] (Int ∷ []))
unfolding slots taken below
boolean_loaded t = refl

chars_as_ints : (t : Tree) → array.load t 2 items.Int (frame [] (Int ∷ Array (record { depth = 1; element = elements.Char }) ∷ [])) ≡ None
unfolding taken below
chars_as_ints t = refl

-- ---- objects

abbrev object : Name
object = name (codes "java/lang/Object")

abbrev main : Name
main = name (codes "Main")

-- in an `<init>` of Main, with a `new` of Object at 4
abbrev made : ℕ → Option Name
made n = if n == 4 then Some object else None

abbrev here : Here
here = record { class = main; above = Some object; is_init = true; returns = None; max_stack = 3; at = 4; covered = false; makes = made }

-- the object of an earlier turn is lost where a local holds it, and refused on the stack
made_again : objects.make 3 4 (frame (Uninit 4 ∷ Uninit 7 ∷ []) (Int ∷ [])) ≡ Some (frame (Top ∷ Uninit 7 ∷ []) (Uninit 4 ∷ Int ∷ []))
unfolding slots
made_again = refl

made_on_stack : objects.make 3 4 (frame [] (Uninit 4 ∷ [])) ≡ None
made_on_stack = refl

-- every copy is of the class
readied : ProofNames.init_of here object (frame (Uninit 4 ∷ Uninit 7 ∷ []) (Uninit 4 ∷ Uninit 4 ∷ [])) ≡ Some (frame (Object object ∷ Uninit 7 ∷ []) (Object object ∷ []))
readied = refl

-- `this` is of its own class, also behind an `<init>` of the class above
this_readied : ProofNames.init_of here object (begun (UninitThis ∷ []) (UninitThis ∷ [])) ≡ Some (frame (Object main ∷ []) [])
this_readied = refl

other_class : ProofNames.init_of here main (frame [] (Uninit 4 ∷ [])) ≡ None
other_class = refl

-- ---- returns

return_too_early : (t : Tree) → straight.leave t true None results.Nothing (begun (UninitThis ∷ []) []) ≡ None
return_too_early t = refl

return_int_early : (t : Tree) → straight.leave t true (Some Int) results.Int (begun (UninitThis ∷ []) (Int ∷ [])) ≡ Some (begun (UninitThis ∷ []) [])
unfolding taken below
return_int_early t = refl

return_nothing_for_int : (t : Tree) → straight.leave t false (Some Int) results.Nothing (frame [] (Int ∷ [])) ≡ None
return_nothing_for_int t = refl

-- ---- frames of more precise types

int_for_top : (t : Tree) → frame_precise t (frame (Int ∷ []) []) (frame (Top ∷ []) []) ≡ true
unfolding frame_precise locals_precise all_fit
int_for_top t = refl

-- on the stack Top alone does for Top
int_for_top_on_stack : (t : Tree) → frame_precise t (frame [] (Int ∷ [])) (frame [] (Top ∷ [])) ≡ false
unfolding frame_precise locals_precise all_fit
int_for_top_on_stack t = refl

-- a long's second place stays Top
int_for_second_half : (t : Tree) → frame_precise t (frame (Long ∷ Int ∷ []) []) (frame (Long ∷ Top ∷ []) []) ≡ false
unfolding frame_precise locals_precise all_fit
int_for_second_half t = refl

-- an array fits Object, and isn't one that is more precise
array_for_object : (t : Tree) → precise t (Array (record { depth = 1; element = elements.Int })) (Object object) ≡ false
array_for_object t = refl
