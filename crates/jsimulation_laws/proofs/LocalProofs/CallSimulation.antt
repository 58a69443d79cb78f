-- A call, and what stands for it: silent steps that put values on the operands, and a call that takes these with the others.
use Rattle.std.proofs.Common.{◌≡◌, ℕ, zero, suc, ◌+◌, Bool, List, [], ◌∷◌, ◌++◌, length, Option, Some, None, option_map, refl, sym, ap, ◌∙◌, subst, arith}
use Rattle.std.specs.Prelude.{slice_get}
use Rattle.jperm.specs.declared.permission.Permission.{Permission as Perm}
use Rattle.jdomain.specs.declared.verdict.Verdict.{Verdict}
use Rattle.jdomain.specs.declared.verdict.Verdict.TheVariants.{Granted, Denied}
use Rattle.jlib.specs.declared.side.Side.{Side}
use Rattle.jlib.specs.declared.side.Side.TheVariants.{Source, Passing}
use Rattle.jvalues.specs.declared.jops.value.Value.TheVariants.{Int, Long, Ref, Ctx}
use Rattle.jresolution.specs.declared.jprogram.member.Member.{Member}
use Rattle.jresolution.specs.declared.juses.meaning.InvokeKind.{InvokeKind}
use Rattle.jresolution.specs.declared.juses.meaning.InvokeKind.TheVariants as how
use Rattle.jresolution.specs.juses.IndexedInstructions.{Instruction, Used}
use Rattle.jresolution.specs.juses.InstructionMeanings.{Call, CallMeaning}
use Rattle.jctx.specs.declared.item.Item.{Item}
use Rattle.jctx.specs.Contexts.{enter}
use Rattle.jtyping.specs.jrule.PoolEffects.{exchange}
use Rattle.jsemantics.specs.jmachine.MachineStates.{Act, FrameOf, Outcome, Row}
use Rattle.jsemantics.specs.jmachine.AccessQueries.{call_taken}
use Rattle.jsemantics.specs.jmachine.InstructionActions.{by_taken, call, doing, used}
use Rattle.jsemantics.specs.jmachine.FrameOperations.{domain_of, standing, with_operands}
use Rattle.jsemantics.specs.jmachine.TakenOperands.{Taken}
use Rattle.jsemantics.specs.jmachine.Security.{Rules, checked, judged, permission_in}
use Rattle.jsemantics.specs.jmachine.InstructionSites.{Site}
use Rattle.jsemantics.specs.jmachine.MachineSteps.{done, fetched, own_fields, site}
use Rattle.jsemantics.specs.jmachine.Store.{object_at, Store}
use Rattle.jsimulation_laws.specs.between.BetweenMachines.{Noted, context_of, shadowed, sourced}
use Rattle.jsimulation_laws.proofs.StutteringProofs.Silences.{Silently}
use Rattle.jsimulation_laws.specs.relation.InstructionExpansion.{expanded}
use Rattle.jsimulation_laws.specs.relation.ProgramRelation as moved
use Rattle.jsimulation_laws.specs.relation.ProgramRelation.{MovedCode, Moves}
use Rattle.jsimulation_laws.specs.relation.StateRelation.{Frame, Point, Word, entries}
use Rattle.jsimulation_laws.proofs.LocalProofs.RelatedStates.{Newest, Scene, below_long, done_here, follows, other, sites_same, stepped}
use Rattle.jsimulation_laws.proofs.LocalProofs.MovedStates.{does, row_led, spot}
use Rattle.jsimulation_laws.proofs.LocalProofs.RowActs as straights
use Rattle.jsimulation_laws.proofs.LocalProofs.RowComparison as taking
use Rattle.jsimulation_laws.proofs.LocalProofs.RowComparison.{Led}

-- ---- what is done at a call

pub used_is : {K E : Type 0} (r : Rules K E) (side : Side) (at : Site) (own : Member → Bool) (s : Store K) (entries : List E) (inherited : Option K) (by : InvokeKind)
    (c : CallMeaning) (f : FrameOf K E)
    → doing r at own s entries inherited (Used (Call by c)) f ≡ by_taken r at own s entries inherited f (call_taken side at s by c f.operands)
    (call r at own s entries inherited by c)
unfolding doing used exchange
used_is r side at own s entries inherited how.Virtual c f = refl
used_is r side at own s entries inherited how.Special c f = refl
used_is r side at own s entries inherited how.Static c f = refl
used_is r side at own s entries inherited how.Interface c f = refl
used_is r side at own s entries inherited how.Init c f = refl

-- with values in front of those that were taken
abbrev pub with_front : List Word → Taken (List Item) → Taken (List Item)
with_front front t = record { values = front ++ t.values; below = t.below }

-- ---- rows, of which one may call

abbrev pub Rows : Type 0
Rows = Option (Row (List Item) Noted)

-- the other machine's row is this one's, but for the number of a jump and the context that a call hands on, of which this is known
abbrev pub LedTo : (ℕ → ℕ) → (Act (List Item) Noted → List Item → Type 0) → Rows → Rows → Type 0
LedTo to can None o = Unit {0}
LedTo to can (Some r) o = (k : List Item) × can r.act k × (o ≡ Some (row_led to k r))

module _ (z : Scene) (top : Newest z) (by : InvokeKind) (c : CallMeaning) (at : fetched z.p top.f.method top.f.place ≡ Some (Used (Call by c))) where
  abbrev A : Outcome Point → List Frame → Type 0
  A o gs0 = taking.A z o gs0

  abbrev g : Frame
  g = spot top.f top.place top.ys

  abbrev code : MovedCode z.p z.q top.f.method top.new.frame.body
  code = top.new.frame.code

  abbrev i : Instruction
  i = Used (Call by c)

  -- what the frame's local holds
  abbrev pub k : List Item
  k = enter (context_of (entries top.fs) z.s.running.inherited) (domain_of z.p top.f.method)

  abbrev S : List Frame → Point
  S xs = other z xs

  abbrev pub here_at : Site
  here_at = site (sourced z.has) z.p z.plan z.s top.f top.fs

  abbrev pub taken_here : Option (Taken (List Item))
  taken_here = call_taken Source here_at z.s.store by c top.f.operands

  abbrev pub row_before : List Word → Rows
  row_before values = call (sourced z.has) here_at (own_fields z.p top.f.method) z.s.store (entries (top.f ∷ top.fs)) z.s.running.inherited by c values

  pub before_so : stepped z ≡ done_here z top.fs
      (by_taken (sourced z.has) here_at (own_fields z.p top.f.method) z.s.store (entries (top.f ∷ top.fs)) z.s.running.inherited top.f taken_here row_before)
  before_so =
      taking.before_is z top.f top.fs i top.here at
      ∙ ap (done_here z top.fs) (used_is (sourced z.has) Source here_at (own_fields z.p top.f.method) z.s.store (entries (top.f ∷ top.fs)) z.s.running.inherited by c top.f)

  -- the instruction of a number in the expansion
  pub nth : (j : ℕ) (x : Instruction) → slice_get (expanded code.place code.at i) j ≡ Some x → fetched z.q top.f.method (top.place + j) ≡ Some x
  nth j x is =
      let e : top.place + j ≡ code.at top.f.place + j = (let h = top.new.frame.place in omega (arith, h)) in
      ap (λ n. fetched z.q top.f.method n) e ∙ code.fetches top.f.place j i x at is

  -- the frame behind some silent steps, which have put values in front of its operands
  abbrev pub ready : ℕ → List Word → Frame
  ready n front = standing g (top.place + n) (front ++ top.f.operands)

  abbrev pub row_behind : InvokeKind → CallMeaning → ℕ → List Word → List Word → Rows
  row_behind by' c' n front values =
      call (shadowed z.has) (moved.there z.q here_at) (own_fields z.q top.f.method) z.s.store (entries (ready n front ∷ top.gs)) z.s.running.inherited by' c' values

  -- what is known of an act, where these operands are left
  abbrev pub CanDo : ℕ → Taken (List Item) → Act (List Item) Noted → List Item → Type 0
  CanDo n t act k' = straights.Can z.p z.q z.moves z.s.running.inherited i n top.fs (with_operands top.f t.below) act k'

  -- a row that neither calls nor jumps
  pub from_led : (n : ℕ) (t : Taken (List Item)) (o o' : Rows) → Led code.at o o' → LedTo code.at (CanDo n t) o o'
  from_led n t None o' l = tt
  from_led n t (Some r) o' l = ([], taking.can_do z top i at n t.below r.act l.0, l.1)

  -- a check that is decided alike
  module _ (n : ℕ) (t : Taken (List Item)) where
    judged_led : (asked : Perm) (v : Verdict) → LedTo code.at (CanDo n t) (Some (judged z.s.store here_at.thread asked v)) (Some (judged z.s.store here_at.thread asked v))
    judged_led asked Granted = (k, tt, refl)
    judged_led asked (Denied domain) = (k, tt, refl)

    held_led : (decides : Perm → Verdict) (o : Option Perm)
        → LedTo code.at (CanDo n t) (option_map (λ asked. judged z.s.store here_at.thread asked (decides asked)) o)
        (option_map (λ asked. judged z.s.store here_at.thread asked (decides asked)) o)
    held_led decides None = tt
    held_led decides (Some asked) = judged_led asked (decides asked)

    pub checked_led : (decides : Perm → Verdict) (v : Word)
        → LedTo code.at (CanDo n t) (checked here_at z.s.store decides v) (checked (moved.there z.q here_at) z.s.store decides v)
    checked_led decides (Int x) = tt
    checked_led decides (Long x) = tt
    checked_led decides (Ctx x) = tt
    checked_led decides (Ref zero) = (k, tt, refl)
    checked_led decides (Ref (suc i)) = held_led decides (permission_in (object_at z.s.store (suc i)))

  module _ (by' : InvokeKind) (c' : CallMeaning) (front : List Word) (n : ℕ) (quiet : Silently (follows z) n (S (g ∷ top.gs)) (S (ready n front ∷ top.gs)))
      (at' : fetched z.q top.f.method (top.place + n) ≡ Some (Used (Call by' c'))) (last : length (expanded code.place code.at i) ≡ n + 1)
      (takes : call_taken Passing (moved.there z.q here_at) z.s.store by' c' (front ++ top.f.operands) ≡ option_map (with_front front) taken_here)
      (rows : (t : Taken (List Item)) → taken_here ≡ Some t → LedTo code.at (CanDo n t) (row_before t.values) (row_behind by' c' n front (front ++ t.values))) where
    abbrev done_by : Site → Option (Taken (List Item)) → Outcome Point
    done_by x o = done (shadowed z.has) z.q z.plan (S (ready n front ∷ top.gs)) top.gs
        (by_taken (shadowed z.has) x (own_fields z.q top.f.method) z.s.store (entries (ready n front ∷ top.gs)) z.s.running.inherited (ready n front) o
        (call (shadowed z.has) x (own_fields z.q top.f.method) z.s.store (entries (ready n front ∷ top.gs)) z.s.running.inherited by' c'))

    behind_so : follows z (S (ready n front ∷ top.gs)) ≡ done_by (moved.there z.q here_at) (option_map (with_front front) taken_here)
    behind_so =
        let there_at = taking.at_behind z (ready n front) top.gs in
        taking.behind_is z (ready n front) top.gs (Used (Call by' c')) at'
        ∙ ap (done (shadowed z.has) z.q z.plan (S (ready n front ∷ top.gs)) top.gs)
        (used_is (shadowed z.has) Passing there_at (own_fields z.q top.f.method) z.s.store (entries (ready n front ∷ top.gs)) z.s.running.inherited by' c' (ready n front))
        ∙ ap (λ (x : Site). done_by x (call_taken Passing x z.s.store by' c' (front ++ top.f.operands)))
        (sites_same z top.f (ready n front) top.fs top.gs (ready n front ∷ top.gs) refl (below_long z.p z.q z.s.running.inherited top.fs top.gs top.below))
        ∙ ap (done_by (moved.there z.q here_at)) takes

    led : (xs : List Word) (o o' : Rows) → LedTo code.at (λ act k'. straights.Can z.p z.q z.moves z.s.running.inherited i n top.fs (with_operands top.f xs) act k') o o'
        → follows z (S (ready n front ∷ top.gs)) ≡ done (shadowed z.has) z.q z.plan (S (ready n front ∷ top.gs)) top.gs
        (option_map (does (spot (with_operands top.f xs) (top.place + n) top.ys)) o')
        → A (done_here z top.fs (option_map (does (with_operands top.f xs)) o)) (g ∷ top.gs)
    led xs None o' l is = tt
    led xs (Some r) o' l is =
        taking.led_row z top i at n (ready n front ∷ top.gs) quiet (top.place + n) (let h = top.new.frame.place in omega (arith, h)) last l.0 xs r l.1
        (is
        ∙ ap
        (λ (x : Rows). done (shadowed z.has) z.q z.plan (S (ready n front ∷ top.gs)) top.gs (option_map (does (spot (with_operands top.f xs) (top.place + n) top.ys)) x))
        l.2)

    by_what_is_taken : (o : Option (Taken (List Item))) → taken_here ≡ o
        → follows z (S (ready n front ∷ top.gs)) ≡ done_by (moved.there z.q here_at) (option_map (with_front front) o)
        → A
        (done_here z top.fs
        (by_taken (sourced z.has) here_at (own_fields z.p top.f.method) z.s.store (entries (top.f ∷ top.fs)) z.s.running.inherited top.f o row_before)) (g ∷ top.gs)
    by_what_is_taken None e is = tt
    by_what_is_taken (Some t) e is = led t.below (row_before t.values) (row_behind by' c' n front (front ++ t.values)) (rows t e) is

    -- the call is answered by the silent steps and one more, and where it pushes a frame by the prologue's four
    pub call_follows : A (stepped z) (g ∷ top.gs)
    call_follows = subst (λ (o : Outcome Point). A o (g ∷ top.gs)) (sym before_so) (by_what_is_taken taken_here refl behind_so)
