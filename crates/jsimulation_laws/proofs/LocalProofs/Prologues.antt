-- The silent steps of a moved program: a context is loaded, a domain is pushed, a context is entered and kept; and the four of them with which
-- each method begins.
use Rattle.std.proofs.Common.{◌≡◌, ℕ, ◌+◌, ◌-◌, ◌≤◌, pos, Bool, List, [], ◌∷◌, length, Option, Some, None, option_map, refl, ap, ◌∙◌, arith}
use Rattle.std.specs.Prelude.{option_and_then, slice_set, if◌then◌else◌}
use Rattle.std.proofs.lemmas.Bool.{le-leb}
use Rattle.jperm.specs.declared.permission.Permission.{Permission}
use Rattle.jvalues.specs.declared.jnames.kinds.Kind.TheVariants as kinds
use Rattle.jparts.specs.declared.jcode.names.Access.TheVariants.{Load, Store as Keep}
use Rattle.jparts.specs.declared.jcode.names.LocalKind.TheVariants as locals
use Rattle.jparts.specs.declared.jcode.op_form.LocalForm.{LocalForm}
use Rattle.jparts.specs.declared.jcode.op_form.LocalForm.TheVariants.{Move}
use Rattle.jlib.specs.declared.calls.LibCall.TheVariants as calls
use Rattle.jlib.specs.declared.calls.RtCall.{RtCall}
use Rattle.jlib.specs.declared.calls.RtCall.TheVariants as rt
use Rattle.jvalues.specs.declared.jops.value.Value.TheVariants.{Ctx, Int}
use Rattle.joutput.specs.declared.jtrace.event.End.TheVariants.{HeapFull}
use Rattle.jclass.specs.declared.class.CodeBody.{CodeBody}
use Rattle.jresolution.specs.declared.jprogram.member.Member.TheVariants.{LibMethod}
use Rattle.jresolution.specs.declared.jprogram.member.MethodId.{MethodId}
use Rattle.jresolution.specs.declared.jprogram.member.Selected.{Selected}
use Rattle.jresolution.specs.declared.jprogram.member.Selected.TheVariants as selected
use Rattle.jresolution.specs.jprogram.ProgramClasses.{Program}
use Rattle.jresolution.specs.juses.IndexedInstructions.{Local}
use Rattle.jctx.specs.declared.item.Item.{Item}
use Rattle.jctx.specs.Contexts.{enter}
use Rattle.jtyping.specs.jrule.PoolEffects.{exchange}
use Rattle.jsemantics.specs.declared.jmachine.plan.Plan.{Plan}
use Rattle.jsemantics.specs.jmachine.MachineStates.{Outcome, Went, Over, gives}
use Rattle.jsemantics.specs.jmachine.AccessCallRows.{rt_row}
use Rattle.jsemantics.specs.jmachine.CallTargets.{reached, target}
use Rattle.jsemantics.specs.jmachine.InstructionActions.{by_held, called, doing, used}
use Rattle.jsemantics.specs.jmachine.FrameOperations.{onward, standing, with_held}
use Rattle.jsemantics.specs.jmachine.TakenOperands.{taken}
use Rattle.jsemantics.specs.jmachine.MachineSteps.{acted, applied, done, executed, fetched, own_fields, site, step}
use Rattle.jsemantics.specs.jmachine.Store.{Store, paid}
use Rattle.jsemantics.specs.jmachine.BasicInstructions.{Held, holding, loaded, local, local_at, simple}
use Rattle.jsemantics.specs.jmachine.ThreadTurns.{with_running}
use Rattle.jsemantics.specs.jmachine.World.{world}
use Rattle.jsimulation_laws.specs.between.BetweenMachines.{Noted, shadowed}
use Rattle.jsimulation_laws.specs.relation.InstructionExpansion.{call_rt, keep, load, push}
use Rattle.jsimulation_laws.specs.relation.ProgramRelation.{MovedCode}
use Rattle.jsimulation_laws.specs.relation.StateRelation.{Frame, Guest, Point, Word, behind, entries}
use Rattle.jsimulation_laws.proofs.StutteringProofs.Silences.{Silently}
use Rattle.jsimulation_laws.proofs.LocalProofs.MovedStates.{does, there}

pub paid_none : (x : Store (List Item)) → paid 0 x ≡ x
paid_none x = ap (λ n. record x { left = n }) (no_less x.left)
  where
    no_less : (n : ℕ) → n - 0 ≡ n
    no_less n = omega arith

abbrev pub Itself : Program → Type 0
Itself q = (call : RtCall) → (world q).itself (LibMethod (calls.Rt call)) ≡ selected.Lib (calls.Rt call)

module _ (has : ℕ → Permission → Bool) (q : Program) (plan : Plan) (itself : Itself q) (s : Point) (es ls : List Guest) where
  abbrev S : List Frame → Point
  S gs = there s es gs ls

  -- what costs nothing and tells nothing
  gives_on : (gs0 : List Frame) (g : Frame) (gs : List Frame) (values : List Word)
      → applied (shadowed has) q plan (S gs0) (g ∷ gs) (gives s.store values) ≡ Went (S (onward g values ∷ gs)) []
  unfolding applied acted
  gives_on gs0 g gs values =
      ap (λ b. if b then Went (with_running (S gs0) (onward g values ∷ gs) (paid 0 s.store)) [] else Over (S gs0) [] HeapFull) (le-leb 0 s.store.left (omega arith))
      ∙ ap (λ (x : Store (List Item)). Went (with_running (S gs0) (onward g values ∷ gs) x) []) (paid_none s.store)

  local_step : (g : Frame) (gs : List Frame) (form : LocalForm) (h : Held (List Item)) → fetched q g.method g.place ≡ Some (Local form)
      → local form (holding g.locals g.operands) ≡ Some h
      → behind has q plan (S (g ∷ gs)) ≡ Went (S (onward (with_held g h) [] ∷ gs)) []
  unfolding step doing
  local_step g gs form h at is =
      ap (executed (shadowed has) q plan (S (g ∷ gs)) g gs) at
      ∙ ap
      (λ (o : Option (Held (List Item))). done (shadowed has) q plan (S (g ∷ gs)) gs
      (by_held (shadowed has) (site (shadowed has) q plan (S (g ∷ gs)) g gs) (own_fields q g.method) s.store (entries (g ∷ gs)) s.running.inherited g o)) is
      ∙ gives_on (g ∷ gs) (with_held g h) gs []

  pub load_step : (g : Frame) (gs : List Frame) (n : ℕ) (k : List Item) → fetched q g.method g.place ≡ Some (load n) → local_at g.locals n ≡ Some (Ctx k)
      → behind has q plan (S (g ∷ gs)) ≡ Went (S (standing g (g.place + 1) (Ctx k ∷ g.operands) ∷ gs)) []
  unfolding local
  load_step g gs n k at is =
      local_step g gs (Move Load locals.Ref n) (holding g.locals (Ctx k ∷ g.operands)) at
      (ap (λ (o : Option Word). option_and_then (loaded kinds.Held (holding g.locals g.operands)) o) is)

  abbrev kept_if : Frame → ℕ → List Item → List Word → Bool → Option (Held (List Item))
  kept_if g n k xs b = if b then Some (holding (slice_set g.locals n (Some (Ctx k))) xs) else None

  pub keep_step : (g : Frame) (gs : List Frame) (n : ℕ) (k : List Item) (xs : List Word) → fetched q g.method g.place ≡ Some (keep n) → g.operands ≡ Ctx k ∷ xs
      → n + 1 ≤ length g.locals
      → behind has q plan (S (g ∷ gs)) ≡ Went (S (onward (with_held g (holding (slice_set g.locals n (Some (Ctx k))) xs)) [] ∷ gs)) []
  unfolding local
  keep_step g gs n k xs at is le =
      local_step g gs (Move Keep locals.Ref n) (holding (slice_set g.locals n (Some (Ctx k))) xs) at
      (ap (λ (ys : List Word). local (Move Keep locals.Ref n) (holding g.locals ys)) is ∙ ap (kept_if g n k xs) (le-leb (n + 1) (length g.locals) le))

  pub push_step : (g : Frame) (gs : List Frame) (d : ℕ) → fetched q g.method g.place ≡ Some (push d)
      → behind has q plan (S (g ∷ gs)) ≡ Went (S (onward g (Int (pos d) ∷ []) ∷ gs)) []
  unfolding step doing taken simple
  push_step g gs d at = ap (executed (shadowed has) q plan (S (g ∷ gs)) g gs) at ∙ gives_on (g ∷ gs) g gs (Int (pos d) ∷ [])

  pub enter_step : (g : Frame) (gs : List Frame) (n d : ℕ) (k : List Item) (xs : List Word) → fetched q g.method n ≡ Some (call_rt rt.Enter)
      → behind has q plan (S (standing g n (Int (pos d) ∷ Ctx k ∷ xs) ∷ gs)) ≡ Went (S (standing g (n + 1) (Ctx (enter k d) ∷ xs) ∷ gs)) []
  unfolding step doing used exchange taken target rt_row shadowed
  enter_step g gs n d k xs at =
      let h = standing g n (Int (pos d) ∷ Ctx k ∷ xs) in
      let where_is = site (shadowed has) q plan (S (h ∷ gs)) h gs in
      let values : List Word = Int (pos d) ∷ Ctx k ∷ [] in
      let done_by : Selected → Outcome Point
      = λ x. done (shadowed has) q plan (S (h ∷ gs)) gs
      (option_map (does (standing g n xs))
      (called (shadowed has) where_is (own_fields q g.method) s.store (entries (h ∷ gs)) s.running.inherited values (reached where_is.full x))) in
      ap (executed (shadowed has) q plan (S (h ∷ gs)) h gs) at
      ∙ ap done_by (itself rt.Enter)
      ∙ gives_on (h ∷ gs) (standing g n xs) gs (Ctx (enter k d) ∷ [])

  -- the frame behind the prologue
  abbrev pub ready : Frame → ℕ → List Item → Frame
  ready g local k = record { method = g.method; place = 4; locals = slice_set g.locals local (Some (Ctx k)); operands = []; entry = g.entry }

  -- the four steps
  pub prologue_steps : (p : Program) (m : MethodId) (body : CodeBody) (code : MovedCode p q m body) (ys : List (Option Word)) (entry : Noted) (k : List Item) (gs : List Frame)
      → local_at ys code.slots ≡ Some (Ctx k) → length ys ≡ code.place.local + 1
      → let g : Frame = record { method = m; place = 0; locals = ys; operands = []; entry = entry } in
      Silently (behind has q plan) 4 (S (g ∷ gs)) (S (ready g code.place.local (enter k code.place.domain) ∷ gs))
  prologue_steps p m body code ys entry k gs handed long =
      let g : Frame = record { method = m; place = 0; locals = ys; operands = []; entry = entry } in
      let d = code.place.domain in
      let a = standing g 1 (Ctx k ∷ []) in
      let b = standing g 2 (Int (pos d) ∷ Ctx k ∷ []) in
      let c = standing g 3 (Ctx (enter k d) ∷ []) in (
        S (a ∷ gs),
        load_step g gs code.slots k (code.first 0 (load code.slots) refl) handed,
        (
          S (b ∷ gs),
          push_step a gs d (code.first 1 (push d) refl),
          (
            S (c ∷ gs),
            enter_step g gs 2 d k [] (code.first 2 (call_rt rt.Enter) refl),
            (
              S (ready g code.place.local (enter k d) ∷ gs),
              keep_step c gs code.place.local (enter k d) [] (code.first 3 (keep code.place.local) refl) refl
                  (omega (arith, long)),
              refl,
            ),
          ),
        ),
      )
