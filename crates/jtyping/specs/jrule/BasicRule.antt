-- The rule of instructions that compute, jump, return and throw (JVMS 4.10.1.9).
use Rattle.std.specs.Prelude.{ℕ, Bool, true, false, ◌&&◌, not, [], ◌∷◌, map, Option, Some, None, if◌then◌else◌}
use Rattle.std.specs.Option.{option_to_list}
use Rattle.jvalues.specs.declared.jnames.kinds.Kind.TheVariants as kinds
use Rattle.jvalues.specs.declared.jnames.kinds.Kinds.{Kinds}
use Rattle.jvalues.specs.declared.jnames.kinds.Kinds.TheVariants as taken_kinds
use Rattle.jparts.specs.declared.jcode.names.Returned.{Returned}
use Rattle.jparts.specs.declared.jcode.names.Returned.TheVariants as results
use Rattle.jparts.specs.declared.jcode.op_form.Simple.{Simple}
use Rattle.jparts.specs.declared.jcode.op_form.Flow.{Flow}
use Rattle.jparts.specs.declared.jcode.op_form.Flow.TheVariants as flows
use Rattle.jparts.specs.jcode.InstructionForms.{compared, simple_effect}
use Rattle.jtypes.specs.declared.vtype.VType.{VType}
use Rattle.jtypes.specs.declared.vtype.VType.TheVariants.{Int, Long}
use Rattle.jtypes.specs.TypeFrames.{Frame}
use Rattle.jtypes.specs.ClassTrees.{Tree}
use Rattle.jresolution.specs.juses.IndexedInstructions.{Test, Always, If, IfInt, IfRef}
use Rattle.jtyping.specs.jrule.StackEffects.{Fits, Of, by_effect, is_ref, of_kinds}
use Rattle.jtyping.specs.jrule.StackOperands.{exchanged, taken}
use Rattle.jtyping.specs.jrule.PoolEffects.{throwable}

abbrev pub simple : Tree → ℕ → Simple → Frame → Option Frame
simple t most s = exchanged t most (by_effect (simple_effect s))

-- ---- jumps

abbrev pub tested : Test → Kinds
tested = elim [ Always ↦ taken_kinds.None | If t ↦ taken_kinds.One kinds.Int | IfInt t ↦ taken_kinds.Two kinds.Int kinds.Int | IfRef t ↦ compared t ]

abbrev pub jump : Tree → Test → Frame → Option Frame
jump t test = taken t (of_kinds (tested test))

-- ---- returns and throws

-- what is returned is what the method returns
abbrev pub returns : Returned → Option VType → Bool
returns results.Int (Some Int) = true
returns results.Long (Some Long) = true
returns results.Ref (Some a) = is_ref a
returns results.Nothing None = true
returns kind t = false

-- an `<init>` doesn't end by `return` before another was called on `this`
abbrev pub may_leave : Bool → Returned → Bool → Bool
may_leave is_init x flag = elim x [ results.Nothing ↦ not (is_init && flag) | _ ↦ true ]

-- from a method that returns such a type
abbrev pub leave : Tree → Bool → Option VType → Returned → Frame → Option Frame
leave t is_init ret kind f = if returns kind ret && may_leave is_init kind f.flag then taken t (map Fits (option_to_list ret)) f else None

-- ---- all

-- of a form, wherever it leads
abbrev pub flow : {S : Type 0} → Tree → Bool → Option VType → Flow S → Frame → Option Frame
flow t is_init ret (flows.If test by) = jump t (If test)
flow t is_init ret (flows.IfInt test by) = jump t (IfInt test)
flow t is_init ret (flows.IfRef test by) = jump t (IfRef test)
flow t is_init ret (flows.Goto by) = jump t Always
flow t is_init ret (flows.Switch s) = taken t (Of kinds.Int ∷ [])
flow t is_init ret (flows.Return kind) = leave t is_init ret kind
flow t is_init ret flows.Throw = taken t (Fits throwable ∷ [])
