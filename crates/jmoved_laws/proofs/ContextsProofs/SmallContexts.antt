-- Contexts that are kept and have domains of a program's classes alone are small; and so are all that stand in the states of a moved program's run.
use Rattle.std.proofs.Common.{◌≡◌, ◌≤◌, ℕ, ℤ, pos, zero, suc, Bool, true, false, List, [], ◌∷◌, length, map, Option, Some, None, option_map, refl, sym, ap, subst, ◌∙◌, arith}
use Rattle.std.specs.Prelude.{◌==◌, ◌||◌, IfSome, if◌then◌else◌}
use Rattle.std.specs.Cmp.{nat_eq_equiv}
use Rattle.std.specs.List.{AllByRecursion, list_any}
use Rattle.std.proofs.lemmas.Bool.{eqb-true}
use Rattle.std.proofs.lemmas.List.{length-map}
use Rattle.std.proofs.lemmas.Map.Made.{length-le_from_is_member}
use Rattle.jperm.specs.declared.permission.Permission.{Permission}
use Rattle.jlib.specs.declared.side.Side.TheVariants.{Passing}
use Rattle.jvalues.specs.declared.jops.value.Value.{Value}
use Rattle.jvalues.specs.declared.jops.value.Value.TheVariants.{Int, Long, Ref, Ctx}
use Rattle.joutput.specs.declared.jtrace.event.End.{End}
use Rattle.jresolution.specs.declared.jprogram.part.CodePart.{CodePart}
use Rattle.jresolution.specs.jprogram.ProgramClasses.{Program}
use Rattle.jctx.specs.declared.item.Item.{Item}
use Rattle.jctx.specs.ContextLaws.{domains}
use Rattle.jctx.proofs.MinimalContexts.{distinct_domains-keep}
use Rattle.jsemantics.specs.declared.jmachine.plan.Plan.{Plan}
use Rattle.jsemantics.specs.jmachine.MachineStates.{FrameOf, Outcome, Went, Over, NoStep, State}
use Rattle.jsemantics.specs.jmachine.AccessQueries.{AgreeWhere, Ask, asks, carried}
use Rattle.jsemantics.specs.jmachine.FrameOperations.{domain_of}
use Rattle.jsemantics.specs.jmachine.Machine.{opening, run}
use Rattle.jsemantics.specs.jmachine.StateMaps.{frames_map, outcome_map, state_map, values_map}
use Rattle.jsemantics.specs.jmachine.NaturalityLaws.{EntriesAgree, OpeningAlike, StepAlikeAt}
use Rattle.jsemantics.specs.jmachine.OpeningState.{opening_state}
use Rattle.jsemantics.specs.jmachine.RunTraces.{next_at, Run, run_from, state_behind}
use Rattle.jsemantics.specs.jmachine.MachineSteps.{step}
use Rattle.jsemantics.specs.jrules.PlainRules as plain
use Rattle.jrewriting.specs.jrewrite.RewrittenPrograms.{moved}
use Rattle.jrewriting.proofs.JrewriteProofs.FinalOverrides.{moved_side}
use Rattle.jmoveclass.specs.MovedClasses.{moved_part}
use Rattle.jmoved_laws.specs.contexts.StateContexts.{contexts}
use Rattle.jmoved_laws.specs.contexts.ReducedContexts.{Everywhere, Fine}
use Rattle.jmoved_laws.specs.contexts.SmallContexts.{ContextsStaySmall, HasSmall, IsSmall, class_domains, each_once}
use Rattle.jmoved_laws.proofs.ContextsProofs.Asks.{AskWell, IsDomain, NewestPushed, asks_well}
use Rattle.jmoved_laws.proofs.ContextsProofs.ContextRules.{agree_at, context_at, fine_rules, same_entry}
use Rattle.jmoved_laws.proofs.ContextsProofs.DomainPushes.{Guards, moved_guards}
use Rattle.jmoved_laws.proofs.ContextsProofs.StateContexts.{contexts_all}
use Rattle.jmoved_laws.proofs.ContextsProofs.JumplessRows.{Point}
use Rattle.jmoved_laws.proofs.ContextsProofs.FrameInvariant.{AreGuarded, ComesGuarded, IsGuardedState, opens_guarded, step_stays}

-- ---- few items

either : {P : Type 0} (a b : Bool) → (a || b) ≡ true → (a ≡ true → P) → (b ≡ true → P) → P
either true b h f g = f refl
either false b h f g = g h

either_true : (a b : Bool) → b ≡ true → (a || b) ≡ true
either_true true b h = refl
either_true false b h = h

-- each number stands among those of a list, each once
once_there : (d : ℕ) (ds : List ℕ) → list_any (◌==◌ d) ds ≡ true → list_any (◌==◌ d) (each_once ds) ≡ true
once_there d [] h = h
once_there d (x ∷ ds) h = by (list_any (◌==◌ x) ds) refl (once_there d ds)
  where
    by : (b : Bool) → list_any (◌==◌ x) ds ≡ b → (list_any (◌==◌ d) ds ≡ true → list_any (◌==◌ d) (each_once ds) ≡ true)
        → list_any (◌==◌ d) (if b then each_once ds else x ∷ each_once ds) ≡ true
    by true e later = either (d == x) (list_any (◌==◌ d) ds) h (λ same. later (subst (λ (n : ℕ). list_any (◌==◌ n) ds ≡ true) (sym (eqb-true d x same)) e)) later
    by false e later =
        either (d == x) (list_any (◌==◌ d) ds) h (λ same. ap (λ (b : Bool). b || list_any (◌==◌ d) (each_once ds)) same)
        (λ rest. either_true (d == x) (list_any (◌==◌ d) (each_once ds)) (later rest))

domains_in : (ds : List ℕ) (c : List Item) → AllByRecursion (λ i. list_any (◌==◌ i.domain) ds ≡ true) c → (d : ℕ) → list_any (◌==◌ d) (domains c) ≡ true → list_any (◌==◌ d) ds ≡ true
domains_in ds [] all d h = absurd cc
domains_in ds (i ∷ c) all d h =
    either (d == i.domain) (list_any (◌==◌ d) (domains c)) h
    (λ same. subst (λ (n : ℕ). list_any (◌==◌ n) ds ≡ true) (sym (eqb-true d i.domain same)) all.0)
    (λ rest. domains_in ds c all.1 d rest)

small_of : (p : Program) (x : Fine (class_domains p)) → IsSmall p x.context
small_of p x = record {
  kept = x.kept;
  within = domains_in (class_domains p) x.context x.within;
  few = λ none. (
      let ds = class_domains p in
      let many = length-le_from_is_member nat_eq_equiv (domains x.context) (each_once ds) (distinct_domains-keep x.context x.kept none)
      (λ d h. once_there d ds (domains_in ds x.context x.within d h)) in
      let same : length (domains x.context) ≡ length x.context = length-map x.context (λ i. i.domain) in
      omega (arith, many, same));
}

-- ---- the moved program's classes have the domains of the program's

parts_domains : (p : Program) (parts : List CodePart) → map (λ part. part.domain) (map (moved_part p) parts) ≡ map (λ part. part.domain) parts
parts_domains p [] = refl
parts_domains p (part ∷ parts) = ap (λ (ds : List ℕ). part.domain ∷ ds) (parts_domains p parts)

domains_stay : (p : Program) → class_domains (moved p) ≡ class_domains p
unfolding moved
domains_stay p = parts_domains p p.parts

-- ---- outcomes of machines that do the same

behind_map : {S T : Type 0} (h : S → T) (s : S) (o : Outcome S) → h (state_behind s o) ≡ state_behind (h s) (outcome_map h o)
behind_map h s (Went t events) = refl
behind_map h s (Over t events end) = refl
behind_map h s NoStep = refl

-- ---- runs

module _ (at : StepAlikeAt Everywhere (List Item) (Unit {0}) (Unit {0})) (opens : OpeningAlike Everywhere (List Item) (Unit {0}) (Unit {0}))
    (has : ℕ → Permission → Bool) (q : Program) (passing : q.side ≡ Passing) (guards : Guards q) (plan : Plan) where
  abbrev ds : List ℕ
  ds = class_domains q

  abbrev FinePoint : Type 0
  FinePoint = State Everywhere (Unit {0})

  abbrev FineFrame : Type 0
  FineFrame = FrameOf Everywhere (Unit {0})

  abbrev plainly : FinePoint → Point
  plainly s = state_map (context_at ds) same_entry s

  abbrev plain_step : Point → Outcome Point
  plain_step s = step (plain.rules has) q plan s

  -- A state of the plain machine is one of a machine whose contexts are fine, and its frames are guarded.
  record IsFine (s : Point) : Type 0 where
    fine : FinePoint
    is_fine : plainly fine ≡ s
    guarded : IsGuardedState q guards s

  -- ---- what a step asks

  abbrev HasFirst : {K : Type 0} → ℕ → List (Value K) → Type 0
  HasFirst {K = K} d values = (rest : List (Value K)) × (values ≡ Int (pos d) ∷ rest)

  first_back : (d : ℕ) (vs : List (Value Everywhere)) → HasFirst d (values_map (context_at ds) vs) → HasFirst d vs
  first_back d [] h = absurd (let e = h.1 in cc)
  first_back d (Int x ∷ vs) h =
      let both : Int x ∷ values_map (context_at ds) vs ≡ Int (pos d) ∷ h.0 = h.1 in
      let same : x ≡ pos d = cc in
      (vs, ap (λ (y : ℤ). Int y ∷ vs) same)
  first_back d (Long x ∷ vs) h = absurd (let e = h.1 in cc)
  first_back d (Ref n ∷ vs) h = absurd (let e = h.1 in cc)
  first_back d (Ctx k ∷ vs) h = absurd (let e = h.1 in cc)

  pushed_back : (s : FinePoint) (fs : List FineFrame) → AreGuarded q guards (frames_map (context_at ds) same_entry fs) → NewestPushed q passing plan s fs
  pushed_back s [] h = tt
  pushed_back s (f ∷ below) h = λ told. first_back (domain_of q f.method) f.operands (h.0 told)

  fine_asks : (s : Point) (x : IsFine s) → IfSome (asks Passing q plan x.fine) (AskWell {K = Everywhere} (IsDomain q))
  fine_asks s x =
      asks_well q passing plan x.fine
      (pushed_back x.fine x.fine.running.frames (subst (λ (t : Point). AreGuarded q guards t.running.frames) (sym x.is_fine) x.guarded.running))

  all_agree : (s : FinePoint) (o : Option (Ask Everywhere)) → IfSome o (AskWell {K = Everywhere} (IsDomain q))
      → AgreeWhere (context_at ds) same_entry (fine_rules ds has) (plain.rules has) (carried s) s.running.inherited o
  all_agree s None h = tt
  all_agree s (Some ask) h = agree_at ds has (carried s) s.running.inherited ask h

  -- ---- both machines do the same

  same_side : (fine_rules ds has).side ≡ (plain.rules has).side
  unfolding plain.rules
  same_side = refl

  entries_agree : EntriesAgree same_entry (fine_rules ds has) (plain.rules has)
  unfolding plain.rules
  entries_agree d = refl

  first_agree : option_map (context_at ds) (fine_rules ds has).first ≡ (plain.rules has).first
  unfolding plain.rules
  first_agree = refl

  fine_step : (s : Point) (x : IsFine s) → outcome_map plainly (step (fine_rules ds has) q plan x.fine) ≡ plain_step s
  fine_step s x =
      at (context_at ds) same_entry (fine_rules ds has) (plain.rules has) same_side entries_agree q plan x.fine (all_agree x.fine (asks Passing q plan x.fine) (fine_asks s x))
      ∙ ap plain_step x.is_fine

  guarded_behind : (s : Point) (o : Outcome Point) → IsGuardedState q guards s → ComesGuarded q guards o → IsGuardedState q guards (state_behind s o)
  guarded_behind s (Went t events) h k = k
  guarded_behind s (Over t events end) h k = k
  guarded_behind s NoStep h k = h

  fine_behind : (s : Point) → IsFine s → IsFine (state_behind s (plain_step s))
  fine_behind s x =
      let o = step (fine_rules ds has) q plan x.fine in
      record {
        fine = state_behind x.fine o;
        is_fine = behind_map plainly x.fine o ∙ ap (λ (t : Point). state_behind t (outcome_map plainly o)) x.is_fine ∙ ap (state_behind s) (fine_step s x);
        guarded = guarded_behind s (plain_step s) x.guarded (step_stays q guards (plain.rules has) plan s x.guarded);
      }

  fine_next : (r : Run Point) (end : Option End) → IsFine r.state → IsFine (next_at plain_step r end).state
  fine_next r (Some end) x = x
  fine_next r None x = fine_behind r.state x

  fine_run : (k : ℕ) (r : Run Point) → IsFine r.state → IsFine (run_from plain_step k r).state
  unfolding run_from
  fine_run zero r x = x
  fine_run (suc k) r x = fine_run k (next_at plain_step r r.end) (fine_next r r.end x)

  fine_opening : IsFine (opening_state (plain.rules has) q plan.main plan.heap)
  fine_opening = record {
    fine = opening_state (fine_rules ds has) q plan.main plan.heap;
    is_fine = opens (context_at ds) same_entry (fine_rules ds has) (plain.rules has) same_side entries_agree first_agree q plan.main plan.heap;
    guarded = opens_guarded q guards (plain.rules has) plan.main plan.heap;
  }

  fine_all : (k : ℕ) → IsFine (run (plain.rules has) q plan k).state
  unfolding run
  fine_all k = fine_run k (opening (plain.rules has) q plan) fine_opening

  all_small : (k : ℕ) → HasSmall q (run (plain.rules has) q plan k).state
  all_small k =
      let x = fine_all k in
      subst (λ (s : Point). HasSmall q s) x.is_fine (contexts_all (context_at ds) same_entry (IsSmall q) (λ y. small_of q (y ds)) x.fine)

-- ---- the law

-- of another program, whose classes have the same domains
as_other : (p q : Program) → class_domains q ≡ class_domains p → (c : List Item) → IsSmall q c → IsSmall p c
as_other p q same c x = record {
  kept = x.kept;
  within = λ d h. ap (λ (ds : List ℕ). list_any (◌==◌ d) ds) (sym same) ∙ x.within d h;
  few = λ none. subst (λ (ds : List ℕ). length c ≤ length (each_once ds)) same (x.few none);
}

all_as : (p q : Program) → class_domains q ≡ class_domains p → (cs : List (List Item)) → AllByRecursion (IsSmall q) cs → AllByRecursion (IsSmall p) cs
all_as p q same [] h = tt
all_as p q same (c ∷ cs) h = (as_other p q same c h.0, all_as p q same cs h.1)

pub stay_small : StepAlikeAt Everywhere (List Item) (Unit {0}) (Unit {0}) → OpeningAlike Everywhere (List Item) (Unit {0}) (Unit {0}) → ContextsStaySmall
stay_small at opens has p plan k linked typed few =
    all_as p (moved p) (domains_stay p) (contexts (run (plain.rules has) (moved p) plan k).state)
    (all_small at opens has (moved p) (moved_side p) (moved_guards p linked typed few) plan k)
