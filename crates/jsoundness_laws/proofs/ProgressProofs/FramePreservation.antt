-- What is done by an instruction keeps its frame's method and place, and the locals where it doesn't go on.
use Rattle.std.proofs.Common.{◌≡◌, ◌⊎◌, inl, inr, Bool, List, [], ◌∷◌, Option, Some, None, option_map, refl, subst}
use Rattle.std.specs.Bool.{⊤}
use Rattle.jvalues.specs.declared.jops.value.Value.{Value}
use Rattle.jresolution.specs.declared.jprogram.member.Member.{Member}
use Rattle.jresolution.specs.declared.juses.meaning.InvokeKind.TheVariants as how
use Rattle.jresolution.specs.juses.IndexedInstructions.{Instruction, Simple, Local, Stack, Jump, Switch, Return, Throw, Array, Used}
use Rattle.jresolution.specs.juses.InstructionMeanings as meanings
use Rattle.jresolution.specs.juses.InstructionMeanings.{Meaning}
use Rattle.jvalues.specs.declared.jnames.kinds.Kind.TheVariants as kinds
use Rattle.jparts.specs.jcode.InstructionForms.{returned, simple_effect}
use Rattle.jtyping.specs.jrule.StackEffects.{Fits, Of, of_kinds}
use Rattle.jtyping.specs.jrule.BasicRule.{tested}
use Rattle.jtyping.specs.jrule.PoolEffects.{throwable}
use Rattle.jsemantics.specs.jmachine.ArrayInstructions as array_rows
use Rattle.jsemantics.specs.jmachine.CallTargets.{init_taken}
use Rattle.jsemantics.specs.jmachine.FieldInstructions.{field}
use Rattle.jsemantics.specs.jmachine.ObjectInstructions.{cast, make, push}
use Rattle.jsemantics.specs.jmachine.MachineStates.{Act, FrameOf, Goes, Row, gives}
use Rattle.jsemantics.specs.jmachine.InstructionActions.{Doing, array_wants, by_held, by_taken, call, doing, used, wants_of}
use Rattle.jsemantics.specs.jmachine.FrameOperations.{with_held, with_operands}
use Rattle.jsemantics.specs.jmachine.TakenOperands.{Taken, taken}
use Rattle.jsemantics.specs.jmachine.Security.{Rules}
use Rattle.jsemantics.specs.jmachine.InstructionSites.{Site}
use Rattle.jsemantics.specs.jmachine.Store.{Store}
use Rattle.jsemantics.specs.jmachine.BasicInstructions.{Held, holding, jump, leave, local, simple, stack, switch, throw}

some_is : {A : Type 0} (a b : A) → Some a ≡ Some b → a ≡ b
some_is a b e = cc

module _ {K E : Type 0} where
  abbrev pub IsGoing : Act K E → Type 0
  IsGoing (Goes t values events) = ⊤
  IsGoing act = ⊥

  pub record Keeps (f : FrameOf K E) (d : Doing K E) : Type 0 where
    pub method : f.method ≡ d.frame.method
    pub place : f.place ≡ d.frame.place
    pub locals : IsGoing d.row.act ⊎ (f.locals ≡ d.frame.locals)

  module _ (r : Rules K E) (at : Site) (own : Member → Bool) (s : Store K) (entries : List E) (inherited : Option K) where
    row_keeps : (f : FrameOf K E) (t : Taken K) (d : Doing K E) (o : Option (Row K E)) → option_map (λ x. record { frame = with_operands f t.below; row = x }) o ≡ Some d
        → Keeps f d
    row_keeps f t d None e = absurd (cc)
    row_keeps f t d (Some x) e = subst (Keeps f) (some_is (record { frame = with_operands f t.below; row = x }) d e) (record { method = refl; place = refl; locals = inr refl })

    taken_keeps : (f : FrameOf K E) (t : Option (Taken K)) (row : List (Value K) → Option (Row K E)) (d : Doing K E) → by_taken r at own s entries inherited f t row ≡ Some d
        → Keeps f d
    taken_keeps f None row d e = absurd (cc)
    taken_keeps f (Some t) row d e = row_keeps f t d (row t.values) e

    held_keeps : (f : FrameOf K E) (h : Option (Held K)) (d : Doing K E) → by_held r at own s entries inherited f h ≡ Some d → Keeps f d
    held_keeps f None d e = absurd (cc)
    held_keeps f (Some h) d e = subst (Keeps f) (some_is (record { frame = with_held f h; row = gives s [] }) d e) (record { method = refl; place = refl; locals = inl tt })

    used_keeps : (m : Meaning) (f : FrameOf K E) (d : Doing K E) → used r at own s entries inherited m f ≡ Some d → Keeps f d
    unfolding used
    used_keeps (meanings.Push c) f d e = taken_keeps f (taken at.world s (wants_of r at own s entries inherited (meanings.Push c)) f.operands) (push s c) d e
    used_keeps (meanings.Field op m) f d e =
        taken_keeps f (taken at.world s (wants_of r at own s entries inherited (meanings.Field op m)) f.operands) (field at.world s op m.member) d e
    used_keeps (meanings.Call how.Init c) f d e = taken_keeps f (init_taken at.world s c f.operands) (call r at own s entries inherited how.Init c) d e
    used_keeps (meanings.Call how.Virtual c) f d e =
        taken_keeps f (taken at.world s (wants_of r at own s entries inherited (meanings.Call how.Virtual c)) f.operands) (call r at own s entries inherited how.Virtual c) d e
    used_keeps (meanings.Call how.Special c) f d e =
        taken_keeps f (taken at.world s (wants_of r at own s entries inherited (meanings.Call how.Special c)) f.operands) (call r at own s entries inherited how.Special c) d e
    used_keeps (meanings.Call how.Static c) f d e =
        taken_keeps f (taken at.world s (wants_of r at own s entries inherited (meanings.Call how.Static c)) f.operands) (call r at own s entries inherited how.Static c) d e
    used_keeps (meanings.Call how.Interface c) f d e =
        taken_keeps f (taken at.world s (wants_of r at own s entries inherited (meanings.Call how.Interface c)) f.operands) (call r at own s entries inherited how.Interface c) d e
    used_keeps (meanings.Make c) f d e = taken_keeps f (taken at.world s (wants_of r at own s entries inherited (meanings.Make c)) f.operands) (make at.world s c) d e
    used_keeps (meanings.MakeArray t) f d e = taken_keeps f (taken at.world s (wants_of r at own s entries inherited (meanings.MakeArray t)) f.operands) (array_rows.make s t) d e
    used_keeps (meanings.Cast op t) f d e = taken_keeps f (taken at.world s (wants_of r at own s entries inherited (meanings.Cast op t)) f.operands) (cast at.world s op t) d e

    pub doing_keeps : (i : Instruction) (f : FrameOf K E) (d : Doing K E) → doing r at own s entries inherited i f ≡ Some d → Keeps f d
    unfolding doing
    doing_keeps (Simple form) f d e = taken_keeps f (taken at.world s (of_kinds (simple_effect form).takes) f.operands) (simple s form) d e
    doing_keeps (Local form) f d e = held_keeps f (local form (holding f.locals f.operands)) d e
    doing_keeps (Stack op) f d e = held_keeps f (stack op (holding f.locals f.operands)) d e
    doing_keeps (Jump test to) f d e = taken_keeps f (taken at.world s (of_kinds (tested test)) f.operands) (jump s test to) d e
    doing_keeps (Switch cases other) f d e = taken_keeps f (taken at.world s (Of kinds.Int ∷ []) f.operands) (switch cases other) d e
    doing_keeps (Return kind) f d e = taken_keeps f (taken at.world s (of_kinds (returned kind)) f.operands) (leave) d e
    doing_keeps Throw f d e = taken_keeps f (taken at.world s (Fits throwable ∷ []) f.operands) (throw) d e
    doing_keeps (Array form) f d e = taken_keeps f (taken at.world s (array_wants form) f.operands) (array_rows.array at.world s form) d e
    doing_keeps (Used m) f d e = used_keeps m f d e
