-- A value that is of a type may stand where a frame says it.
use Rattle.std.proofs.Common.{◌≡◌, ℕ, true, List, [], ◌∷◌, ◌++◌, Option, Some, None}
use Rattle.std.specs.Prelude.{option_to_list}
use Rattle.jvalues.specs.declared.jops.value.Value.{Value}
use Rattle.jtypes.specs.declared.vtype.VType.{VType}
use Rattle.jtypes.specs.declared.vtype.VType.TheVariants as types
use Rattle.jtyping.specs.jrule.InstructionContext.{Here}
use Rattle.jsemantics.specs.jmachine.Store.{Store}
use Rattle.jsemantics.specs.jmachine.World.{World, fits}
use Rattle.jsoundness_laws.specs.typed.RuntimeAssignability.{IsValueType}
use Rattle.jsoundness_laws.specs.typed.TypedFrames.{AllHave, Has, News}
use Rattle.jsoundness_laws.specs.typed.TypedValues.{HasDimensions, IsA}
use Rattle.jsoundness_laws.proofs.TypedProofs.ValueKinds.{known_value}

no_this : (w : World) (a : VType) → IsValueType a → fits w a types.UninitThis ≡ true → ⊥
no_this w types.UninitThis h e = h
no_this w types.Top h e = h
no_this w _ h e = cc

no_new : (w : World) (o : ℕ) (a : VType) → IsValueType a → fits w a (types.Uninit o) ≡ true → ⊥
no_new w o (types.Uninit n) h e = h
no_new w o types.Top h e = h
no_new w o _ h e = cc

module _ {K : Type 0} (w : World) (s : Store K) (here : Here) (news : News) where
  pub has_of : (a : VType) (v : Value K) → IsA w s a v → HasDimensions a → Has w s here news a v
  has_of types.Top v x d = tt
  has_of types.UninitThis v x d = absurd (no_this w x.type (known_value w s v x.type x.is) x.met)
  has_of (types.Uninit o) v x d = absurd (no_new w o x.type (known_value w s v x.type x.is) x.met)
  has_of types.Int v x d = x
  has_of types.Long v x d = x
  has_of types.Null v x d = x
  has_of (types.Object c) v x d = x
  has_of (types.Array b) v x d = (x, d)
  has_of types.Ctx v x d = x

  -- what is given stands on what was left
  pub have_given : (gives : Option VType) (values : List (Value K)) (rest : List VType) (operands : List (Value K)) → AllHave w s here news (option_to_list gives) values
      → AllHave w s here news rest operands → AllHave w s here news (option_to_list gives ++ rest) (values ++ operands)
  have_given None [] rest operands x h = h
  have_given None (v ∷ values) rest operands x h = absurd x
  have_given (Some a) [] rest operands x h = absurd x
  have_given (Some a) (v ∷ []) rest operands x h = (x.0, h)
  have_given (Some a) (v ∷ u ∷ values) rest operands x h = absurd x.1
