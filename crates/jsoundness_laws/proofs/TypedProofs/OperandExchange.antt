-- From the typing rule's frame to the machine's row, for instructions that take operands.
use Rattle.std.proofs.Common.{◌≡◌, ℕ, Bool, true, false, List, ◌∷◌, ◌++◌, Option, Some, None, option_map, refl, sym, ap, subst, ◌∙◌}
use Rattle.std.specs.Prelude.{option_and_then, option_to_list, if◌then◌else◌}
use Rattle.jvalues.specs.declared.jops.value.Value.{Value}
use Rattle.jtypes.specs.declared.vtype.VType.{VType}
use Rattle.jtypes.specs.TypeFrames.{Frame, within}
use Rattle.jtypes.specs.ClassTrees.{Tree}
use Rattle.jresolution.specs.declared.jprogram.member.Member.{Member}
use Rattle.jresolution.specs.juses.IndexedInstructions.{Instruction}
use Rattle.jtyping.specs.jrule.StackEffects.{Exchange, Want}
use Rattle.jtyping.specs.jrule.InstructionContext.{Here}
use Rattle.jtyping.specs.jrule.StackOperands.{below, exchanged, given, taken as types_taken, with_stack}
use Rattle.jsemantics.specs.jmachine.MachineStates.{FrameOf, Row}
use Rattle.jsemantics.specs.jmachine.InstructionActions.{Doing, by_taken}
use Rattle.jsemantics.specs.jmachine.FrameOperations.{with_operands}
use Rattle.jsemantics.specs.jmachine.TakenOperands.{taken}
use Rattle.jsemantics.specs.jmachine.Security.{Rules}
use Rattle.jsemantics.specs.jmachine.InstructionSites.{Site}
use Rattle.jsemantics.specs.jmachine.Store.{Store}
use Rattle.jsoundness_laws.specs.typed.TypedActions.{CanDo}
use Rattle.jsoundness_laws.specs.typed.TypedFrames.{AllHold, News, Suits}
use Rattle.jsoundness_laws.specs.typed.TypedValues.{AllServe}
use Rattle.jsoundness_laws.proofs.TypedProofs.Simples.{HasRow}
use Rattle.jsoundness_laws.proofs.TypedProofs.TakenOperands.{AreServed, took}

-- ---- what is left

-- the frame behind has the same locals, and what is given on what was left
pub record Exchanged (t : Tree) (wants : List Want) (gives : Option VType) (f g : Frame) : Type 0 where
  pub rest : List VType
  pub is : below t wants f.stack ≡ Some rest
  pub locals : g.locals ≡ f.locals
  pub stack : g.stack ≡ (option_to_list gives ++ rest)

some_is : {A : Type 0} (a b : A) → Some a ≡ Some b → a ≡ b
some_is a b e = cc

pub roomy : (most : ℕ) (f : Frame) (stack : List VType) (g : Frame) → (if within most stack then Some (with_stack f stack) else None) ≡ Some g → g ≡ with_stack f stack
roomy most f stack g e = go (within most stack) e
  where
    go : (b : Bool) → (if b then Some (with_stack f stack) else None) ≡ Some g → g ≡ with_stack f stack
    go true e = cc
    go false e = absurd (cc)

pub given_leaves : (t : Tree) (most : ℕ) (wants : List Want) (f g : Frame) (rest : List VType) → below t wants f.stack ≡ Some rest → (gives : Option VType)
    → given most gives (with_stack f rest) ≡ Some g → Exchanged t wants gives f g
given_leaves t most wants f g rest is None h =
    let at = some_is (with_stack f rest) g h in
    record { rest = rest; is = is; locals = ap (λ x. x.locals) (sym at); stack = ap (λ x. x.stack) (sym at) }
given_leaves t most wants f g rest is (Some a) h =
    let at = roomy most (with_stack f rest) (a ∷ rest) g h in
    record { rest = rest; is = is; locals = ap (λ x. x.locals) at; stack = ap (λ x. x.stack) at }

pub exchange_leaves : (t : Tree) (most : ℕ) (e : Exchange) (f g : Frame) → exchanged t most e f ≡ Some g → Exchanged t e.takes e.gives f g
unfolding types_taken
exchange_leaves t most e f g h = go (below t e.takes f.stack) refl h
  where
    go : (o : Option (List VType)) → below t e.takes f.stack ≡ o → option_and_then (given most e.gives) (option_map (with_stack f) o) ≡ Some g → Exchanged t e.takes e.gives f g
    go None is h = absurd (cc)
    go (Some rest) is h = given_leaves t most e.takes f g rest is e.gives h

pub taken_leaves : (t : Tree) (wants : List Want) (f g : Frame) → types_taken t wants f ≡ Some g → Exchanged t wants None f g
unfolding types_taken
taken_leaves t wants f g h = go (below t wants f.stack) refl h
  where
    go : (o : Option (List VType)) → below t wants f.stack ≡ o → option_map (with_stack f) o ≡ Some g → Exchanged t wants None f g
    go None is h = absurd (cc)
    go (Some rest) is h = given_leaves t 0 wants f g rest is None h

-- ---- one lemma for all that take operands

module _ {K E : Type 0} (r : Rules K E) (at : Site) (own : Member → Bool) (s : Store K) (entries : List E) (inherited : Option K) (statics : List VType) (here : Here)
    (news : News) (i : Instruction) where
  abbrev doing_of : FrameOf K E → Row K E → Doing K E
  doing_of f row = record { frame = f; row = row }

  abbrev pub AllHaveRow : List Want → Option VType → (List (Value K) → Option (Row K E)) → Type 0
  AllHaveRow wants gives row = (given : List (Value K)) → AllServe at.world s wants given → HasRow {K = K} {E = E} at.world s statics here news i gives (row given)

  -- operands serve, and the row gives what is said
  pub taken_does : (t : Tree) (wants : List Want) (gives : Option VType) → AreServed at.world s here news t wants
      → (row : List (Value K) → Option (Row K E)) → AllHaveRow wants gives row
      → (shape behind : Frame) (f : FrameOf K E) → Suits at.world s here news shape f → Exchanged t wants gives shape behind
      → CanDo at.world s statics here i behind (by_taken r at own s entries inherited f (taken at.world s wants f.operands) row)
  taken_does t wants gives served row rows shape behind f suits x =
      let have = took at.world s here news t wants served shape.stack f.operands x.rest suits.operands x.is in
      let found = rows have.values have.serve in record {
        done = doing_of (with_operands f have.under) found.row;
        is = ap (λ o. by_taken r at own s entries inherited f o row) have.is ∙ ap (option_map (doing_of (with_operands f have.under))) found.is;
        news = news;
        does = record {
          gives = gives;
          rest = x.rest;
          stack = x.stack;
          locals = subst (λ ts. AllHold at.world s here news ts f.locals) (sym x.locals) suits.locals;
          operands = have.fit;
          act = found.act;
        };
      }
