-- Names by which proofs and the contracts of inner functions call what the definitions say in place. What `javasec` and `dispatch` promise
-- reaches none of them.
use Rattle.std.specs.Prelude.{ℕ, Option, slice_get, ◌++◌, List, drop, option_map, if◌then◌else◌, ◌∷◌, []}
use Rattle.jtypes.specs.declared.vtype.VType.{VType}
use Rattle.jvalues.specs.declared.jnames.kinds.Kind.{Kind}
use Rattle.jtypes.specs.TypeFrames.{Frame}
use Rattle.jvalues.specs.jops.Shuffles.{Move, shuffle}
use Rattle.jvalues.specs.declared.jnames.names.Shuffle.{Shuffle}
use Rattle.jtypes.specs.declared.vtype.Name.{Name}
use Rattle.jtypes.specs.ClassTrees.{Tree}
use Rattle.jparts.specs.declared.jcode.names.CastOp.{CastOp}
use Rattle.jtypes.specs.declared.vtype.VType.TheVariants.{Int}
use Rattle.jparts.specs.declared.jcode.names.Element as elements
use Rattle.jvalues.specs.declared.jnames.kinds.Kind.TheVariants as kinds
use Rattle.jlib.specs.declared.classes.LibClass.TheVariants as lib
use Rattle.jparts.specs.declared.jcode.names.CastOp.TheVariants as casts
use Rattle.jtyping.specs.jrule.StackEffects.{Want, Holds, Of, Fits, Exchange, gives}
use Rattle.jtyping.specs.jrule.LocalRule.{load_from, store_on}
use Rattle.jtyping.specs.jrule.StackMoveRule.{items}
use Rattle.jtyping.specs.declared.jrule.unready.Unready.{Unready}
use Rattle.jtyping.specs.jrule.ObjectRule.{is_it, init_on}
use Rattle.jtyping.specs.jrule.InstructionContext.{Here}
use Rattle.jtyping.specs.jrule.StackOperands.{taken}
use Rattle.jtyping.specs.jrule.PoolEffects.{throwable, of_library}

-- ---- of jrule.ArrayRule

-- an operand of a kind; the array is one with items of the instruction's
abbrev pub wanted : elements.Element → Kind → Want
wanted e = elim [ kinds.Array ↦ Holds e | k ↦ Of k ]

-- ---- of jrule.LocalRule

abbrev pub load : ℕ → Kind → ℕ → Frame → Option Frame
load most k n f = load_from most k n f (slice_get f.locals n)

abbrev pub store : Kind → ℕ → Frame → Option Frame
store k n f = store_on k n f f.stack

-- ---- of jrule.StackMoveRule

abbrev pub moved : List VType → Move VType → List VType
moved stack m = m.put ++ drop m.taken stack

-- the operands behind a move
abbrev pub shuffled : Shuffle → List VType → Option (List VType)
shuffled s stack = option_map (λ m. m.put ++ drop m.taken stack) (shuffle s (items stack))

-- ---- of jrule.ObjectRule

-- what stands for the object stands for another type
abbrev pub replaced : Unready → VType → VType → VType
replaced old new a = if is_it old a then new else a

-- an `<init>` of a class, where its arguments are gone and the object is the newest operand
abbrev pub init_of : Here → Name → Frame → Option Frame
init_of here owner f = init_on here owner f f.stack

-- ---- of jrule.BasicRule

abbrev pub switch : Tree → Frame → Option Frame
switch t = taken t (Of kinds.Int ∷ [])

abbrev pub throw : Tree → Frame → Option Frame
throw t = taken t (Fits throwable ∷ [])

-- ---- of jrule.PoolEffects

abbrev pub string : VType
string = of_library lib.String

abbrev pub of_cast : CastOp → VType → Exchange
of_cast x t = elim x [ casts.CheckCast ↦ gives (Of kinds.Ref ∷ []) t | casts.InstanceOf ↦ gives (Of kinds.Ref ∷ []) Int ]
