-- The handlers of a method by number are those of the machine's definition.
use Rattle.std.proofs.Common.{◌≡◌, ◌∙◌, ℕ, List, [], ◌∷◌, Option, Some, None, refl, sym, ap, ap₂}
use Rattle.std.specs.Prelude.{option_and_then, option_map, slice_get}
use Rattle.std.specs.List.{AllByRecursion}
use Rattle.jrows.specs.jcalls.Unwinds.{IsTold}
use Rattle.jclass.specs.declared.class.ClassParts.{ClassParts}
use Rattle.jclass.specs.declared.class.CodeBody.{CodeBody}
use Rattle.jsemantics.specs.jmachine.MachineStates.{FrameOf}
use Rattle.jsemantics.specs.jmachine.Unwinding.{handler_at, handler_from, handler_in}
use Rattle.jresolution.specs.declared.jprogram.member.MethodId.{MethodId}
use Rattle.jresolution.specs.declared.jprogram.part.CodePart.{CodePart}
use Rattle.jresolution.specs.jprogram.ProgramClasses.{Program}
use Rattle.jready.specs.declared.handlers.HandlerRow.{HandlerRow}
use Rattle.jready.specs.declared.methods.MethodRow.{MethodRow}
use Rattle.jready.specs.HandlerTables.{handled}
use Rattle.jtypes.specs.declared.vtype.VType.{VType}
use Rattle.jresolution.specs.juses.IndexedInstructions.{body_in, code_at}
use Rattle.jresolution.specs.juses.PoolTables.{pool_at, pool_in}

abbrev part_class : CodePart → ClassParts
part_class part = part.class

module _ (p : Program) (thrown : VType) (m : MethodId) (i : ℕ) where
  -- where a code goes on
  abbrev in_body : CodeBody → Option ℕ
  in_body body = option_and_then (handler_from p (pool_at p m.class) thrown body) (slice_get body.ops i)

  by_part : (o : Option CodePart)
      → option_and_then (λ c. option_and_then (handler_in p thrown i c) (body_in c m.method)) (option_map part_class o)
      ≡ option_and_then (λ (body : CodeBody). option_and_then (handler_from p (pool_in o) thrown body) (slice_get body.ops i))
      (option_and_then (λ c. body_in c m.method) (option_map part_class o))
  by_part None = refl
  by_part (Some part) = refl

  by_code : handler_at p thrown m i ≡ option_and_then in_body (code_at p m)
  unfolding handler_at
  by_code = by_part (slice_get p.parts m.class)

  pub unhandled : code_at p m ≡ None → handler_at p thrown m i ≡ None
  unhandled none = by_code ∙ ap (option_and_then in_body) none

module _ (p q : Program) (same : q ≡ p) (thrown : VType) (m : MethodId) (i : ℕ) where
  pub without_code : code_at q m ≡ None → None ≡ handler_at p thrown m i
  without_code none = sym (unhandled p thrown m i (ap (λ x. code_at x m) (sym same) ∙ none))

  module _ (row : MethodRow) (own : row.id ≡ m) where
    pub behind_code : handler_at q thrown row.id i ≡ None → None ≡ handler_at p thrown m i
    behind_code none = sym (ap₂ (λ x n. handler_at x thrown n i) (sym same) (sym own) ∙ none)

    pub within_code : (rows : List HandlerRow) (to : Option ℕ) → handler_at q thrown row.id i ≡ handled q (pool_at q row.id.class) thrown i rows
        → to ≡ handled p (pool_at p m.class) thrown i rows → to ≡ handler_at p thrown m i
    within_code rows to is goes =
        goes ∙ sym (ap₂ (λ x n. handler_at x thrown n i) (sym same) (sym own) ∙ is
        ∙ ap₂ (λ x (n : MethodId). handled x (pool_at x n.class) thrown i rows) same own)

-- where it is told that frames go on is where they do
pub all_told : {E : Type 0} (p : Program) (thrown : VType) (frames : List (FrameOf ℕ E)) → AllByRecursion (IsTold p thrown (handler_at p thrown)) frames
all_told p thrown [] = tt
all_told p thrown (f ∷ frames) = (refl, all_told p thrown frames)
