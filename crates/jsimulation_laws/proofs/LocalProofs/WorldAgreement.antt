-- What rows see of a world: a program and the moved program have the same classes and fields, and rows that don't call look at nothing else.
use Rattle.std.proofs.Common.{◌≡◌, ℕ, List, refl, ap, ◌∙◌}
use Rattle.jparts.specs.declared.jcode.op_form.ArrayForm.{ArrayForm}
use Rattle.jparts.specs.declared.jcode.names.CastOp.{CastOp}
use Rattle.jparts.specs.declared.jcode.names.FieldOp.{FieldOp}
use Rattle.jvalues.specs.declared.jops.value.Value.{Value}
use Rattle.jlib.specs.declared.side.Side.TheVariants.{Source, Passing}
use Rattle.jresolution.specs.declared.jprogram.member.Member.{Member}
use Rattle.jtypes.specs.declared.vtype.Name.{Name}
use Rattle.jtypes.specs.declared.vtype.VType.{VType}
use Rattle.jresolution.specs.declared.juses.meaning.InvokeKind.{InvokeKind}
use Rattle.jresolution.specs.declared.juses.meaning.InvokeKind.TheVariants as how
use Rattle.jresolution.specs.juses.InstructionMeanings.{CallMeaning}
use Rattle.jtyping.specs.jrule.StackEffects.{Want}
use Rattle.jtyping.specs.jrule.PoolEffects.{of_call}
use Rattle.jsemantics.specs.jmachine.ArrayInstructions as arrays
use Rattle.jsemantics.specs.jmachine.AccessQueries.{call_taken}
use Rattle.jsemantics.specs.jmachine.CallTargets.{init_taken}
use Rattle.jsemantics.specs.jmachine.FieldInstructions.{field}
use Rattle.jsemantics.specs.jmachine.ObjectInstructions.{cast}
use Rattle.jsemantics.specs.jmachine.TakenOperands.{taken}
use Rattle.jsemantics.specs.jmachine.InstructionSites.{Site}
use Rattle.jsemantics.specs.jmachine.Store.{Store}
use Rattle.jsemantics.specs.jmachine.World.{World}
use Rattle.jsimulation_laws.specs.relation.ProgramRelation.{SameClasses}

-- with another's ways to select methods and to find names
abbrev pub calling_as : World → World → World
calling_as w v = record w { class = v.class; above = v.above; select = v.select; itself = v.itself; is_public = v.is_public }

pub world_is : (w v : World) → SameClasses w v → v ≡ calling_as w v
world_is w v same =
    ap (λ x. record v { tree = x }) same.tree
    ∙ ap (λ x. record v { tree = w.tree; named = x }) same.named
    ∙ ap (λ x. record v { tree = w.tree; named = w.named; implements = x }) same.implements
    ∙ ap (λ x. record v { tree = w.tree; named = w.named; implements = w.implements; layout = x }) same.layout
    ∙ ap (λ x. record v { tree = w.tree; named = w.named; implements = w.implements; layout = w.layout; slot = x }) same.slot
    ∙ ap (λ x. record v { tree = w.tree; named = w.named; implements = w.implements; layout = w.layout; slot = w.slot; element = x }) same.element

module _ {K : Type 0} (w v : World) (same : SameClasses w v) where
  taken_seen : (s : Store K) (wants : List Want) (operands : List (Value K)) → taken (calling_as w v) s wants operands ≡ taken w s wants operands
  unfolding taken
  taken_seen s wants operands = refl

  pub taken_same : (s : Store K) (wants : List Want) (operands : List (Value K)) → taken v s wants operands ≡ taken w s wants operands
  taken_same s wants operands = ap (λ x. taken x s wants operands) (world_is w v same) ∙ taken_seen s wants operands

  init_seen : (s : Store K) (c : CallMeaning) (operands : List (Value K)) → init_taken (calling_as w v) s c operands ≡ init_taken w s c operands
  unfolding init_taken taken
  init_seen s c operands = refl

  init_same : (s : Store K) (c : CallMeaning) (operands : List (Value K)) → init_taken v s c operands ≡ init_taken w s c operands
  init_same s c operands = ap (λ x. init_taken x s c operands) (world_is w v same) ∙ init_seen s c operands

-- what calls take is the same
module _ {K : Type 0} (at : Site) (v : World) (same : SameClasses at.world v) (s : Store K) where
  by_this : (by : InvokeKind) (c : CallMeaning) (operands : List (Value K))
      → taken v s (of_call (v.named at.class) by c).takes operands ≡ taken at.world s (of_call (at.world.named at.class) by c).takes operands
  by_this by c operands =
      ap (λ (named : ℕ → Name). taken v s (of_call (named at.class) by c).takes operands) same.named
      ∙ taken_same at.world v same s (of_call (at.world.named at.class) by c).takes operands

  pub call_taken_same : (by : InvokeKind) (c : CallMeaning) (operands : List (Value K))
      → call_taken Passing (record at { world = v }) s by c operands ≡ call_taken Source at s by c operands
  call_taken_same how.Virtual c operands = by_this how.Virtual c operands
  call_taken_same how.Special c operands = by_this how.Special c operands
  call_taken_same how.Static c operands = by_this how.Static c operands
  call_taken_same how.Interface c operands = by_this how.Interface c operands
  call_taken_same how.Init c operands = init_same at.world v same s c operands

module _ {K E : Type 0} (w v : World) (same : SameClasses w v) where
  array_seen : (s : Store K) (form : ArrayForm) (values : List (Value K)) → arrays.array {E = E} (calling_as w v) s form values ≡ arrays.array w s form values
  unfolding arrays.array
  array_seen s form values = refl

  pub array_same : (s : Store K) (form : ArrayForm) (values : List (Value K)) → arrays.array {E = E} v s form values ≡ arrays.array w s form values
  array_same s form values = ap (λ x. arrays.array x s form values) (world_is w v same) ∙ array_seen s form values

  field_seen : (s : Store K) (op : FieldOp) (m : Member) (values : List (Value K)) → field {E = E} (calling_as w v) s op m values ≡ field w s op m values
  unfolding field
  field_seen s op m values = refl

  pub field_same : (s : Store K) (op : FieldOp) (m : Member) (values : List (Value K)) → field {E = E} v s op m values ≡ field w s op m values
  field_same s op m values = ap (λ x. field x s op m values) (world_is w v same) ∙ field_seen s op m values

  cast_seen : (s : Store K) (op : CastOp) (t : VType) (values : List (Value K)) → cast {E = E} (calling_as w v) s op t values ≡ cast w s op t values
  unfolding cast
  cast_seen s op t values = refl

  pub cast_same : (s : Store K) (op : CastOp) (t : VType) (values : List (Value K)) → cast {E = E} v s op t values ≡ cast w s op t values
  cast_same s op t values = ap (λ x. cast x s op t values) (world_is w v same) ∙ cast_seen s op t values
