-- Calls in typed frames.
use Rattle.std.proofs.Common.{◌≡◌, suc, Bool, false, List, [], ◌∷◌, ◌++◌, length, drop, map, Option, Some, refl, sym, ap, subst, ◌∙◌}
use Rattle.std.specs.List.{AllByRecursion}
use Rattle.std.specs.Prelude.{option_and_then, option_map}
use Rattle.jtypes.specs.declared.vtype.Name.{Name}
use Rattle.jtypes.specs.declared.vtype.VType.{VType}
use Rattle.jtypes.specs.declared.vtype.VType.TheVariants as types
use Rattle.jtypes.specs.TypeFrames.{Frame}
use Rattle.jresolution.specs.declared.jprogram.member.Member.{Member}
use Rattle.jresolution.specs.jprogram.ProgramClasses.{Program, tree}
use Rattle.jresolution.specs.jprogram.OrderedPrograms.{StandsInOrder}
use Rattle.jlinking.specs.jlink.NamedCalls.{begins}
use Rattle.jresolution.specs.declared.juses.meaning.InvokeKind.{InvokeKind}
use Rattle.jresolution.specs.declared.juses.meaning.InvokeKind.TheVariants as how
use Rattle.jresolution.specs.juses.IndexedInstructions.{Used}
use Rattle.jresolution.specs.juses.InstructionMeanings as meanings
use Rattle.jresolution.specs.juses.InstructionMeanings.{CallMeaning}
use Rattle.jtyping.specs.jrule.StackEffects.{Fits, Want}
use Rattle.jtyping.specs.jrule.InstructionContext.{Here}
use Rattle.jtyping.specs.jrule.StackOperands.{exchanged}
use Rattle.jtyping.specs.jrule.TypingRule.{rule}
use Rattle.jtyping.specs.jrule.PoolEffects.{arguments, exchange, of_call, receiver}
use Rattle.jsemantics.specs.jmachine.MachineStates.{FrameOf}
use Rattle.jsemantics.specs.jmachine.CallTargets.{target}
use Rattle.jsemantics.specs.jmachine.InstructionActions.{by_taken, call, called, doing, used}
use Rattle.jsemantics.specs.jmachine.FrameOperations.{with_operands}
use Rattle.jsemantics.specs.jmachine.TakenOperands.{taken}
use Rattle.jsemantics.specs.jmachine.Security.{Rules}
use Rattle.jsemantics.specs.jmachine.InstructionSites.{Site}
use Rattle.jsemantics.specs.jmachine.Store.{Store}
use Rattle.jsemantics.specs.jmachine.World.{world}
use Rattle.jsoundness_laws.specs.typed.TypedCalls.{AllHaveCode, CallsDo, CanCall, IsCall, operand_count}
use Rattle.jsoundness_laws.specs.typed.RuntimeAssignability.{IsValueType}
use Rattle.jsoundness_laws.specs.typed.TypedFrames.{AllHave, AllHold, News, Suits}
use Rattle.jsoundness_laws.specs.typed.ProgressLaws.{IsAt}
use Rattle.jsoundness_laws.specs.typed.TypedValues.{AllServe}
use Rattle.jsoundness_laws.proofs.TypedProofs.CallTargets.{calls_come}
use Rattle.jsoundness_laws.proofs.TypedProofs.OperandExchange.{exchange_leaves}
use Rattle.jsoundness_laws.proofs.TypedProofs.Orders.{in_order}
use Rattle.jsoundness_laws.proofs.TypedProofs.TakenOperands.{AreServed, IsServed, below_drop, took}
use Rattle.jsoundness_laws.proofs.TypedProofs.WantedOperands.{has_want}

-- ---- how many are wanted

with_one : (ts : List VType) (want : Want) → length (map Fits ts ++ want ∷ []) ≡ suc (length ts)
with_one [] want = refl
with_one (t ∷ ts) want = ap (λ n. suc n) (with_one ts want)

with_none : (ts : List VType) → length (map Fits ts ++ []) ≡ length ts
with_none [] = refl
with_none (t ∷ ts) = ap (λ n. suc n) (with_none ts)

-- as many are wanted as a call takes
count_is : (this : Name) (by : InvokeKind) (c : CallMeaning) → begins by ≡ false → length (arguments c ++ receiver this by c.owner) ≡ operand_count by c
count_is this how.Virtual c plain = with_one c.params (Fits (types.Object c.owner))
count_is this how.Special c plain = with_one c.params (Fits (types.Object this))
count_is this how.Static c plain = with_none c.params
count_is this how.Interface c plain = with_one c.params (Fits (types.Object c.owner))
count_is this how.Init c plain = absurd (cc)

-- ---- operands that serve

module _ {K : Type 0} (p : Program) (good : StandsInOrder p) (s : Store K) (here : Here) (news : News) where
  pub fit_served : (b : VType) → IsValueType b → IsServed (world p) s here news (tree p) (Fits b)
  unfolding world
  fit_served b value = λ a v x m. has_want (world p) s (in_order p good) here news (Fits b) a v value x m

  all_served : (ts : List VType) (more : List Want) → AllByRecursion IsValueType ts → AreServed (world p) s here news (tree p) more → AreServed (world p) s here news (tree p) (map Fits ts ++ more)
  all_served [] more h rest = rest
  all_served (t ∷ ts) more h rest = (fit_served t h.0, all_served ts more h.1 rest)

  object_served : (this owner : Name) (by : InvokeKind) → AreServed (world p) s here news (tree p) (receiver this by owner)
  object_served this owner how.Virtual = (fit_served (types.Object owner) tt, tt)
  object_served this owner how.Special = (fit_served (types.Object this) tt, tt)
  object_served this owner how.Static = tt
  object_served this owner how.Interface = (fit_served (types.Object owner) tt, tt)
  object_served this owner how.Init = tt

module _ {K E : Type 0} (r : Rules K E) (at : Site) (own : Member → Bool) (s : Store K) (entries : List E) (inherited : Option K) (p : Program) (here : Here) (news : News) (by : InvokeKind) (c : CallMeaning)
    (shape behind : Frame) (f : FrameOf K E) (good : StandsInOrder p) (coded : AllHaveCode p) (place : IsAt p at own here) (plain : begins by ≡ false) (linked : IsCall p by c)
    (suits : Suits (world p) s here news shape f) where
  abbrev wants : Name → List Want
  wants this = arguments c ++ receiver this by c.owner

  call_does : doing r at own s entries inherited (Used (meanings.Call by c)) f
      ≡ by_taken r at own s entries inherited f (taken at.world s (wants (at.world.named at.class)) f.operands) (call r at own s entries inherited by c)
      → exchanged (tree p) here.max_stack (of_call here.class by c) shape ≡ Some behind → CanCall r at own s entries inherited p here news by c shape behind f
  call_does unfolded h =
      let x = exchange_leaves (tree p) here.max_stack (of_call here.class by c) shape behind h in
      let have = took (world p) s here news (tree p) (wants here.class) (all_served p good s here news c.params (receiver here.class by c.owner) linked.values (object_served p good s here news here.class c.owner by))
      shape.stack f.operands x.rest suits.operands x.is in
      let serve : AllServe (world p) s (wants (at.world.named at.class)) have.values = subst (λ this. AllServe (world p) s (wants this) have.values) (sym place.class) have.serve in
      let comes = calls_come K p at s by c have.values good coded place.program plain linked serve in
      let is : taken at.world s (wants (at.world.named at.class)) f.operands ≡ Some (record { values = have.values; below = have.under }) =
      ap (λ w. taken w s (wants (at.world.named at.class)) f.operands) place.program ∙ ap (λ this. taken (world p) s (wants this) f.operands) place.class ∙ have.is in
      let left : drop (operand_count by c) shape.stack ≡ x.rest =
      ap (λ n. drop n shape.stack) (sym (count_is here.class by c plain)) ∙ below_drop (tree p) (wants here.class) shape.stack x.rest x.is in
      record {
        values = have.values;
        under = have.under;
        left = subst (λ ts. AllHave (world p) s here news ts have.under) (sym left) have.fit;
        target = comes.0;
        comes = comes.2;
        rest = x.rest;
        stack = x.stack;
        locals = subst (λ ts. AllHold (world p) s here news ts f.locals) (sym x.locals) suits.locals;
        operands = have.fit;
        does = unfolded ∙ ap (λ o. by_taken r at own s entries inherited f o (call r at own s entries inherited by c)) is
            ∙ ap (λ t. option_map (λ row. record { frame = with_operands f have.under; row = row }) (option_and_then (called r at own s entries inherited have.values) t)) comes.1;
      }

pub calls_do : (K E : Type 0) → CallsDo K E
unfolding rule doing used exchange
calls_do K E r at own s entries inherited p here news how.Virtual c shape behind f good coded place plain linked suits h =
    call_does r at own s entries inherited p here news how.Virtual c shape behind f good coded place plain linked suits refl h
calls_do K E r at own s entries inherited p here news how.Special c shape behind f good coded place plain linked suits h =
    call_does r at own s entries inherited p here news how.Special c shape behind f good coded place plain linked suits refl h
calls_do K E r at own s entries inherited p here news how.Static c shape behind f good coded place plain linked suits h =
    call_does r at own s entries inherited p here news how.Static c shape behind f good coded place plain linked suits refl h
calls_do K E r at own s entries inherited p here news how.Interface c shape behind f good coded place plain linked suits h =
    call_does r at own s entries inherited p here news how.Interface c shape behind f good coded place plain linked suits refl h
calls_do K E r at own s entries inherited p here news how.Init c shape behind f good coded place plain linked suits h = absurd (cc)
