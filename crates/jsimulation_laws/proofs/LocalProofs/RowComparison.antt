-- Groups of instructions: what each takes is the same on both sides, so that its rows alone are compared.
use Rattle.std.proofs.Common.{◌≡◌, ℕ, suc, ◌+◌, Bool, true, false, List, [], ◌∷◌, length, Option, Some, None, option_map, Result, Ok, Err, refl, sym, ap, ◌∙◌, subst, arith}
use Rattle.std.specs.Prelude.{slice_get}
use Rattle.jvalues.specs.declared.jops.value.DivideByZero.{DivideByZero}
use Rattle.jvalues.specs.jops.Operations.{divide, one, two}
use Rattle.jparts.specs.declared.jcode.op_form.Simple.{Simple as SimpleForm}
use Rattle.jparts.specs.declared.jcode.op_form.Simple.TheVariants as simples
use Rattle.jparts.specs.jcode.InstructionForms.{simple_effect}
use Rattle.jresolution.specs.juses.IndexedInstructions.{Instruction, Simple, Jump, Test}
use Rattle.jctx.specs.declared.item.Item.{Item}
use Rattle.jtyping.specs.jrule.StackEffects.{Want, of_kinds}
use Rattle.jtyping.specs.jrule.BasicRule.{tested}
use Rattle.jsemantics.specs.jmachine.MachineStates.{Act, Goes, Jumps, Leaves, Calls, Raises, Throws, Switches, Makes, Row, Outcome}
use Rattle.jsemantics.specs.jmachine.InstructionActions.{by_taken, doing}
use Rattle.jsemantics.specs.jmachine.FrameOperations.{with_operands}
use Rattle.jsemantics.specs.jmachine.TakenOperands.{Taken, taken}
use Rattle.jsemantics.specs.jmachine.InstructionSites.{Site}
use Rattle.jsemantics.specs.jmachine.MachineSteps.{executed, fetched, own_fields, site, step, step_at}
use Rattle.jsemantics.specs.jmachine.Store.{Store}
use Rattle.jsemantics.specs.jmachine.BasicInstructions.{branched, gives_one, holds, jump, quotient, simple}
use Rattle.jsemantics.specs.jmachine.World.{world}
use Rattle.jsimulation_laws.specs.between.BetweenMachines.{Noted, shadowed, sourced, unmarked}
use Rattle.jsimulation_laws.specs.relation.InstructionExpansion.{expanded}
use Rattle.jsimulation_laws.specs.relation.StateRelation.{Frame, Point, Word, entries}
use Rattle.jsimulation_laws.specs.relation.StepCounts.{next_in, steps_of}
use Rattle.jsimulation_laws.proofs.RelationProofs.ExpansionLengths.{expanded_law}
use Rattle.jsimulation_laws.proofs.StutteringProofs.Silences.{Silently}
use Rattle.jsimulation_laws.proofs.LocalProofs.WorldAgreement.{taken_same}
use Rattle.jsimulation_laws.proofs.LocalProofs.RowActs as straights
use Rattle.jsimulation_laws.proofs.LocalProofs.RelatedStates.{Newest, Scene, answered, done_here, done_there, follows, other, stepped}
use Rattle.jsimulation_laws.proofs.LocalProofs.MovedStates.{does, row_led, spot, stands_at}

-- ---- rows that call nothing

abbrev pub CallsNothing : Act (List Item) Noted → Type 0
CallsNothing (Calls m arguments entry) = ⊥
CallsNothing act = Unit {0}

-- the other machine's row is this one's, but for the number of a jump
abbrev pub Led : (ℕ → ℕ) → Option (Row (List Item) Noted) → Option (Row (List Item) Noted) → Type 0
Led to None row = Unit {0}
Led to (Some r) row = CallsNothing r.act × (row ≡ Some (row_led to [] r))

module _ (to : ℕ → ℕ) (s : Store (List Item)) where
  abbrev Itself : Option (Row (List Item) Noted) → Type 0
  Itself row = Led to row row

  one_led : (o : Option Word) → Itself (gives_one s o)
  one_led None = tt
  one_led (Some v) = (tt, refl)

  quotient_led : (o : Option (Result Word DivideByZero)) → Itself (option_map (quotient s) o)
  quotient_led None = tt
  quotient_led (Some (Ok v)) = (tt, refl)
  quotient_led (Some (Err e)) = (tt, refl)

  pub simple_led : (form : SimpleForm) (values : List Word) → Itself (simple s form values)
  unfolding simple
  simple_led simples.Nothing [] = (tt, refl)
  simple_led simples.Nothing (v ∷ vs) = tt
  simple_led simples.Null [] = (tt, refl)
  simple_led simples.Null (v ∷ vs) = tt
  simple_led (simples.Int n) [] = (tt, refl)
  simple_led (simples.Int n) (v ∷ vs) = tt
  simple_led (simples.Long n) [] = (tt, refl)
  simple_led (simples.Long n) (v ∷ vs) = tt
  simple_led (simples.Two op) [] = tt
  simple_led (simples.Two op) (b ∷ []) = tt
  simple_led (simples.Two op) (b ∷ a ∷ []) = one_led (two op a b)
  simple_led (simples.Two op) (b ∷ a ∷ v ∷ vs) = tt
  simple_led (simples.Divide op) [] = tt
  simple_led (simples.Divide op) (b ∷ []) = tt
  simple_led (simples.Divide op) (b ∷ a ∷ []) = quotient_led (divide op a b)
  simple_led (simples.Divide op) (b ∷ a ∷ v ∷ vs) = tt
  simple_led (simples.One op) [] = tt
  simple_led (simples.One op) (a ∷ []) = one_led (one op a)
  simple_led (simples.One op) (a ∷ v ∷ vs) = tt

  -- a jump leads to where the expansion of its target begins
  branch_led : (n : ℕ) (o : Option Bool) → Led to (option_map (branched s n) o) (option_map (branched s (to n)) o)
  branch_led n None = tt
  branch_led n (Some true) = (tt, refl)
  branch_led n (Some false) = (tt, refl)

  pub jump_led : (test : Test) (n : ℕ) (values : List Word) → Led to (jump s test n values) (jump s test (to n) values)
  unfolding jump
  jump_led test n values = branch_led n (holds test values)

-- ---- the newest frames

module _ (z : Scene) where
  abbrev pub A : Outcome Point → List Frame → Type 0
  A o gs0 = straights.A z o gs0

  abbrev pub at_before : Frame → List Frame → Site
  at_before f fs = site (sourced z.has) z.p z.plan z.s f fs

  abbrev pub at_behind : Frame → List Frame → Site
  at_behind g gs = site (shadowed z.has) z.q z.plan (other z (g ∷ gs)) g gs

  pub before_is : (f : Frame) (fs : List Frame) (i : Instruction) → z.s.running.frames ≡ f ∷ fs → fetched z.p f.method f.place ≡ Some i
      → stepped z ≡ done_here z fs (doing (sourced z.has) (at_before f fs) (own_fields z.p f.method) z.s.store (entries (f ∷ fs)) z.s.running.inherited i f)
  unfolding step
  before_is f fs i here at = ap (step_at (sourced z.has) z.p z.plan z.s) here ∙ ap (executed (sourced z.has) z.p z.plan z.s f fs) at

  pub behind_is : (g : Frame) (gs : List Frame) (x : Instruction) → fetched z.q g.method g.place ≡ Some x
      → answered z (g ∷ gs) ≡ done_there z (g ∷ gs) gs
      (doing (shadowed z.has) (at_behind g gs) (own_fields z.q g.method) z.s.store (entries (g ∷ gs)) z.s.running.inherited x g)
  unfolding step
  behind_is g gs x at = ap (executed (shadowed z.has) z.q z.plan (other z (g ∷ gs)) g gs) at

  module _ (top : Newest z) (i : Instruction) (at : fetched z.p top.f.method top.f.place ≡ Some i) where
    abbrev g : Frame
    g = spot top.f top.place top.ys

    abbrev to : ℕ → ℕ
    to = top.new.frame.code.at

    pub can_do : (n : ℕ) (xs : List Word) (act : Act (List Item) Noted) → CallsNothing act
        → straights.Can z.p z.q z.moves z.s.running.inherited i n top.fs (with_operands top.f xs) act []
    can_do n xs (Calls m arguments entry) free = absurd free
    can_do n xs (Goes x values events) free = tt
    can_do n xs (Jumps k) free = tt
    can_do n xs (Leaves values) free = tt
    can_do n xs (Raises events class message) free = tt
    can_do n xs (Throws k) free = tt
    can_do n xs (Switches table) free = tt
    can_do n xs (Makes x runnable k) free = tt

    -- after n silent steps the last instruction of the expansion takes its operands and does what this one's row is led to
    module _ (n : ℕ) (gs1 : List Frame) (quiet : Silently (follows z) n (other z (g ∷ top.gs)) (other z gs1)) (at' : ℕ)
        (place-is : at' ≡ to top.f.place + n) (last : length (expanded top.new.frame.code.place to i) ≡ n + 1) where
      pub next : next_in z.p z.s.running.frames ≡ Some i
      next = ap (λ (xs : List Frame). next_in z.p xs) top.here ∙ at

      -- where no method is invoked the answer takes as many steps as there are instructions
      pub counts : steps_of (next_in z.p z.s.running.frames) false ≡ suc n
      counts =
          let a : steps_of (next_in z.p z.s.running.frames) false ≡ length (expanded top.new.frame.code.place to i)
          = ap (λ o. steps_of o false) next ∙ sym (expanded_law top.new.frame.code.place to i) in
          omega (arith, a, last)

      pub led_row : (c : List Item) (xs : List Word) (r : Row (List Item) Noted) → straights.Can z.p z.q z.moves z.s.running.inherited i n top.fs (with_operands top.f xs) r.act c
          → answered z gs1 ≡ done_there z gs1 top.gs (Some (does (spot (with_operands top.f xs) at' top.ys) (row_led to c r)))
          → A (done_here z top.fs (Some (does (with_operands top.f xs) (r)))) (g ∷ top.gs)
      led_row c xs r can is =
          straights.finish z (g ∷ top.gs) gs1 n counts quiet n top.fs top.gs (with_operands top.f xs) at' top.ys
          (stands_at z.p z.q z.s.running.inherited top.fs 0 top.f g top.new.frame n top.f.place at' xs xs place-is refl)
          (top.new.bare ∙ ap unmarked (sym top.new.frame.domain)) top.below i at last next
          (ap (λ (xs : List Frame). length xs) top.here) r.charge r.act c can is

      pub led_by : (xs : List Word) (o o' : Option (Row (List Item) Noted)) → Led to o o'
          → answered z gs1 ≡ done_there z gs1 top.gs (option_map (does (spot (with_operands top.f xs) at' top.ys)) o')
          → A (done_here z top.fs (option_map (does (with_operands top.f xs)) o)) (g ∷ top.gs)
      led_by xs None o' l is = tt
      led_by xs (Some r) o' l is =
          led_row [] xs r (can_do n xs r.act l.0)
          (is ∙ ap (λ (x : Option (Row (List Item) Noted)). done_there z gs1 top.gs (option_map (does (spot (with_operands top.f xs) at' top.ys)) x)) l.1)

    -- ---- one instruction for one

    pub alone : (x : Instruction) → expanded top.new.frame.code.place to i ≡ x ∷ [] → (o : Option (Taken (List Item))) (row row' : List Word → Option (Row (List Item) Noted))
        → ((values : List Word) → Led to (row values) (row' values))
        → answered z (g ∷ top.gs) ≡ done_there z (g ∷ top.gs) top.gs
        (by_taken (shadowed z.has) (at_behind g top.gs) (own_fields z.q g.method) z.s.store (entries (g ∷ top.gs)) z.s.running.inherited g o row')
        → A
        (done_here z top.fs
        (by_taken (sourced z.has) (at_before top.f top.fs) (own_fields z.p top.f.method) z.s.store (entries (top.f ∷ top.fs)) z.s.running.inherited top.f o row))
        (g ∷ top.gs)
    alone x becomes None row row' leads is = tt
    alone x becomes (Some t) row row' leads is =
        led_by 0 (g ∷ top.gs) refl top.place top.new.frame.place (ap (λ (xs : List Instruction). length xs) becomes) t.below (row t.values) (row' t.values)
        (leads t.values) is

    pub fetches : (x : Instruction) → expanded top.new.frame.code.place to i ≡ x ∷ [] → fetched z.q g.method g.place ≡ Some x
    fetches x becomes =
        ap (λ k. fetched z.q top.f.method k) top.new.frame.place ∙ top.new.frame.code.fetches top.f.place 0 i x at (ap (λ (xs : List Instruction). slice_get xs 0) becomes)

    -- what is taken is the same
    pub taken_by : (wants : List Want) (x : Instruction) → expanded top.new.frame.code.place to i ≡ x ∷ [] → (row row' : List Word → Option (Row (List Item) Noted))
        → ((values : List Word) → Led to (row values) (row' values))
        → stepped z ≡ done_here z top.fs
        (by_taken (sourced z.has) (at_before top.f top.fs) (own_fields z.p top.f.method) z.s.store (entries (top.f ∷ top.fs)) z.s.running.inherited top.f
        (taken (world z.p) z.s.store wants top.f.operands) row)
        → answered z (g ∷ top.gs) ≡ done_there z (g ∷ top.gs) top.gs
        (by_taken (shadowed z.has) (at_behind g top.gs) (own_fields z.q g.method) z.s.store (entries (g ∷ top.gs)) z.s.running.inherited g
        (taken (world z.q) z.s.store wants top.f.operands) row')
        → A (stepped z) (g ∷ top.gs)
    taken_by wants x becomes row row' leads before-is behind-is =
        subst (λ (o : Outcome Point). A o (g ∷ top.gs)) (sym before-is)
        (alone x becomes (taken (world z.p) z.s.store wants top.f.operands) row row' leads
        (behind-is
        ∙ ap
        (λ (o : Option (Taken (List Item))). done_there z (g ∷ top.gs) top.gs
        (by_taken (shadowed z.has) (at_behind g top.gs) (own_fields z.q g.method) z.s.store (entries (g ∷ top.gs)) z.s.running.inherited g o row'))
        (taken_same (world z.p) (world z.q) z.moves.classes z.s.store wants top.f.operands)))

  -- ---- groups: an instruction with operands alone is answered by itself, and a jump by a jump

  module _ (top : Newest z) where
    pub simple_follows : (form : SimpleForm) → fetched z.p top.f.method top.f.place ≡ Some (Simple form) → A (stepped z) (spot top.f top.place top.ys ∷ top.gs)
    unfolding doing
    simple_follows form at =
        taken_by top (Simple form) at (of_kinds (simple_effect form).takes) (Simple form) refl (simple z.s.store form) (simple z.s.store form)
        (simple_led top.new.frame.code.at z.s.store form)
        (before_is top.f top.fs (Simple form) top.here at)
        (behind_is (spot top.f top.place top.ys) top.gs (Simple form) (fetches top (Simple form) at (Simple form) refl))

    pub jump_follows : (test : Test) (n : ℕ) → fetched z.p top.f.method top.f.place ≡ Some (Jump test n) → A (stepped z) (spot top.f top.place top.ys ∷ top.gs)
    unfolding doing
    jump_follows test n at =
        taken_by top (Jump test n) at (of_kinds (tested test)) (Jump test (top.new.frame.code.at n)) refl (jump z.s.store test n)
        (jump z.s.store test (top.new.frame.code.at n)) (jump_led top.new.frame.code.at z.s.store test n)
        (before_is top.f top.fs (Jump test n) top.here at)
        (behind_is (spot top.f top.place top.ys) top.gs (Jump test (top.new.frame.code.at n)) (fetches top (Jump test n) at (Jump test (top.new.frame.code.at n)) refl))
