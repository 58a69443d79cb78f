-- The laws of counting: what a run of the slower machine tells, and in how many steps.
use Rattle.std.proofs.Common.{◌≡◌, ℕ, zero, suc, ◌+◌, ◌-◌, ◌*◌, ◌<◌, ◌≤◌, List, ◌++◌, Some, None, refl, sym, ap, ◌∙◌, arith, inl, inr}
use Rattle.std.proofs.lemmas.Bool.{cases_lt}
use Rattle.joutput.specs.declared.jtrace.event.Event.{Event}
use Rattle.joutput.specs.declared.jtrace.event.End.{End}
use Rattle.jsemantics.specs.jmachine.MachineStates.{Outcome, Went, Over, NoStep}
use Rattle.jsemantics.specs.jmachine.RunTraces.{next_at, Run, after, run_from}
use Rattle.jsemantics.proofs.JmachineProofs.Courses.{later}
use Rattle.jsimulation_laws.specs.stuttering.StutteringRuns.{Answers, Ends, EndsAll, Follows, IsSilent, IsUnstuck, Keeps, KeepsAll, Leads, LeadsOut, going}

module _ {S : Type 0} (step : S → Outcome S) where
  -- one step more in front
  pub one_more : (k : ℕ) (told : List Event) (s : S) (o : Outcome S) → step s ≡ o → run_from step (suc k) (going told s) ≡ run_from step k (after step (going told s) o)
  unfolding run_from
  one_more k told s o is = ap (λ (x : Outcome S). run_from step k (after step (going told s) x)) is

  pub none_yet : (r : Run S) → run_from step 0 r ≡ r
  unfolding run_from
  none_yet r = refl

  pub no_more : (k : ℕ) (r : Run S) (end : End) → r.end ≡ Some end → run_from step k r ≡ r
  unfolding run_from
  no_more zero r end e = refl
  no_more (suc k) r end e = ap (λ (x : Run S). run_from step k x) (ap (next_at step r) e) ∙ no_more k r end e

  pub stuck : {P : Type 0} (told : List Event) (s : S) (m : ℕ) → 1 ≤ m → step s ≡ NoStep → IsUnstuck step (going told s) m → P
  stuck told s m le is free =
      let here = none_yet (going told s) in
      absurd (free 0 le (ap (λ (r : Run S). r.end) here) (ap (λ (r : Run S). step r.state) here ∙ is))

  -- what goes on is unstuck for one step less
  pub free_on : (told : List Event) (s s' : S) (events : List Event) (n m : ℕ) → step s ≡ Went s' events → suc n ≤ m → IsUnstuck step (going told s) m
      → IsUnstuck step (going (told ++ events) s') n
  free_on told s s' events n m is le free k within e none =
      let on = one_more k told s (Went s' events) is in
      free (suc k) (omega arith) (ap (λ (r : Run S). r.end) on ∙ e) (ap (λ (r : Run S). step r.state) on ∙ none)

no_end : {P : Type 0} (end : End) → None ≡ Some end → P
no_end end e = absurd cc

module _ {S T : Type 0} (R : S → T → Type 0) (fast : S → Outcome S) (slow : T → Outcome T) (most : ℕ) (local : Follows R fast slow most) where
  -- before the last of the steps that answer one
  early : (m : ℕ) (told : List Event) (s : S) (t : T) (j : ℕ) → j ≤ most → m < j → IsSilent told (run_from slow m (going told t))
      → Keeps fast slow most (going told s) (going told t) m
  early m told s t j small lt quiet =
      let zero_is = none_yet fast (going told s) in
      record {
        k = 0;
        within = omega arith;
        events = quiet.events ∙ sym (ap (λ (r : Run S). r.events) zero_is);
        end = quiet.goes ∙ sym (ap (λ (r : Run S). r.end) zero_is);
        near = λ e. omega arith;
      }

  onward : (fuel m : ℕ) (told : List Event) (s : S) (t : T) (s' : S) (events : List Event) → fast s ≡ Went s' events → m ≤ suc fuel → (j : ℕ) → 0 < j → j ≤ most → j ≤ m
      → (u : T) → Leads slow j t events u
      → Keeps fast slow most (going (told ++ events) s') (going (told ++ events) u) (m - j) → Keeps fast slow most (going told s) (going told t) m
  onward fuel m told s t s' events is le j some small ge u leads ih =
      let m-is : m ≡ j + (m - j) = omega arith in
      let slow-is : run_from slow m (going told t) ≡ run_from slow (m - j) (going (told ++ events) u)
      = later slow j (m - j) m (going told t) m-is ∙ ap (λ (r : Run T). run_from slow (m - j) r) (leads.comes told) in
      let fast-is : run_from fast (suc ih.k) (going told s) ≡ run_from fast ih.k (going (told ++ events) s') = one_more fast ih.k told s (Went s' events) is in
      record {
        k = suc ih.k;
        within = omega (arith, ih.within);
        events = ap (λ (r : Run T). r.events) slow-is ∙ ih.events ∙ sym (ap (λ (r : Run S). r.events) fast-is);
        end = ap (λ (r : Run T). r.end) slow-is ∙ ih.end ∙ sym (ap (λ (r : Run S). r.end) fast-is);
        near = λ e. (let n = ih.near (sym (ap (λ (r : Run S). r.end) fast-is) ∙ e) in omega (arith, n));
      }

  over : (m : ℕ) (told : List Event) (s : S) (t : T) (s' : S) (events : List Event) (end : End) → fast s ≡ Over s' events end → (j : ℕ) → 0 < j → j ≤ m
      → LeadsOut slow j t events end
      → Keeps fast slow most (going told s) (going told t) m
  over m told s t s' events end is j some ge leads =
      let m-is : m ≡ j + (m - j) = omega arith in
      let done = leads.comes told in
      let slow-is : run_from slow m (going told t) ≡ run_from slow j (going told t)
      = later slow j (m - j) m (going told t) m-is ∙ no_more slow (m - j) (run_from slow j (going told t)) end done.ends in
      let fast-is : run_from fast 1 (going told s) ≡ record { state = s'; events = told ++ events; end = Some end } = one_more fast 0 told s (Over s' events end) is
      ∙ none_yet fast (after fast (going told s) (Over s' events end)) in
      record {
        k = 1;
        within = omega arith;
        events = ap (λ (r : Run T). r.events) slow-is ∙ done.events ∙ sym (ap (λ (r : Run S). r.events) fast-is);
        end = ap (λ (r : Run T). r.end) slow-is ∙ done.ends ∙ sym (ap (λ (r : Run S). r.end) fast-is);
        near = λ e. (let no : None ≡ Some end = sym e ∙ ap (λ (r : Run S). r.end) fast-is in no_end end no);
      }

  abbrev Again : ℕ → Type 0
  Again fuel = (n : ℕ) (told : List Event) (s : S) (t : T) → n ≤ fuel → R s t → IsUnstuck fast (going told s) n → Keeps fast slow most (going told s) (going told t) n

  keeps_on : (fuel m : ℕ) (told : List Event) (s : S) (t : T) (o : Outcome S) → fast s ≡ o → 1 ≤ m → m ≤ suc fuel → Answers R slow most o t → IsUnstuck fast (going told s) m
      → Again fuel
      → Keeps fast slow most (going told s) (going told t) m
  keeps_on fuel m told s t (Went s' events) is some le a free again =
      elim (cases_lt m a.0) as (λ _. Keeps fast slow most (going told s) (going told t) m) [
        | inl lt ↦ early m told s t a.0 a.2 lt (a.4.before m lt told)
        | inr ge ↦ onward fuel m told s t s' events is le a.0 a.1 a.2 ge a.3 a.4
            (again (m - a.0) (told ++ events) s' a.3 (omega (arith, a.1)) a.5 (free_on fast told s s' events (m - a.0) m is (omega (arith, a.1)) free))
      ]
  keeps_on fuel m told s t (Over s' events end) is some le a free again =
      elim (cases_lt m a.0) as (λ _. Keeps fast slow most (going told s) (going told t) m) [
        | inl lt ↦ early m told s t a.0 a.2 lt (a.3.before m lt told)
        | inr ge ↦ over m told s t s' events end is a.0 a.1 ge a.3
      ]
  keeps_on fuel m told s t NoStep is some le a free again = stuck fast told s m some is free

  -- the fuel is a bound of m
  pub keeps : (fuel m : ℕ) (told : List Event) (s : S) (t : T) → 0 < most → m ≤ fuel → R s t → IsUnstuck fast (going told s) m
      → Keeps fast slow most (going told s) (going told t) m
  keeps fuel zero told s t pos le r free =
      let fast-is = none_yet fast (going told s) in
      let slow-is = none_yet slow (going told t) in
      record {
        k = 0;
        within = omega arith;
        events = ap (λ (x : Run T). x.events) slow-is ∙ sym (ap (λ (x : Run S). x.events) fast-is);
        end = ap (λ (x : Run T). x.end) slow-is ∙ sym (ap (λ (x : Run S). x.end) fast-is);
        near = λ e. omega arith;
      }
  keeps zero (suc m) told s t pos le r free = absurd (omega arith)
  keeps (suc fuel) (suc m) told s t pos le r free =
      keeps_on fuel (suc m) told s t (fast s) refl (omega arith) le (local s t r) free (λ n told' s' t' le' r' free'. keeps fuel n told' s' t' pos le' r' free')

  -- ---- runs that end

  over_bound : (n j : ℕ) → j ≤ most → j ≤ most * suc n
  over_bound n j le = omega arith

  ends_on : (n : ℕ) (told : List Event) (s : S) (t : T) (o : Outcome S) → fast s ≡ o → Answers R slow most o t → (end : End)
      → (run_from fast (suc n) (going told s)).end ≡ Some end → IsUnstuck fast (going told s) (suc n)
      → ((told' : List Event) (s' : S) (t' : T) → R s' t' → (run_from fast n (going told' s')).end ≡ Some end → IsUnstuck fast (going told' s') n
      → Ends fast slow most (going told' s') (going told' t') n)
      → Ends fast slow most (going told s) (going told t) (suc n)
  ends_on n told s t (Went s' events) is a end e free again =
      let fast-is = one_more fast n told s (Went s' events) is in
      let ih = again (told ++ events) s' a.3 a.5 (sym (ap (λ (r : Run S). r.end) fast-is) ∙ e) (free_on fast told s s' events n (suc n) is (omega arith) free) in
      let slow-is : run_from slow (a.0 + ih.j) (going told t) ≡ run_from slow ih.j (going (told ++ events) a.3)
      = later slow a.0 ih.j (a.0 + ih.j) (going told t) refl ∙ ap (λ (r : Run T). run_from slow ih.j r) (a.4.comes told) in
      record {
        j = a.0 + ih.j;
        within = omega (arith, ih.within, a.2);
        events = ap (λ (r : Run T). r.events) slow-is ∙ ih.events ∙ sym (ap (λ (r : Run S). r.events) fast-is);
        end = ap (λ (r : Run T). r.end) slow-is ∙ ih.end ∙ sym (ap (λ (r : Run S). r.end) fast-is);
      }
  ends_on n told s t (Over s' events close) is a end e free again =
      let done = a.3.comes told in
      let fast-is : run_from fast (suc n) (going told s) ≡ record { state = s'; events = told ++ events; end = Some close }
      = one_more fast n told s (Over s' events close) is ∙ no_more fast n (after fast (going told s) (Over s' events close)) close refl in
      record {
        j = a.0;
        within = over_bound n a.0 a.2;
        events = done.events ∙ sym (ap (λ (r : Run S). r.events) fast-is);
        end = done.ends ∙ sym (ap (λ (r : Run S). r.end) fast-is);
      }
  ends_on n told s t NoStep is a end e free again = stuck fast told s (suc n) (omega arith) is free

  pub ends_so : (n : ℕ) (told : List Event) (s : S) (t : T) (end : End) → R s t → (run_from fast n (going told s)).end ≡ Some end → IsUnstuck fast (going told s) n
      → Ends fast slow most (going told s) (going told t) n
  ends_so zero told s t end r e free = no_end end (sym (ap (λ (x : Run S). x.end) (none_yet fast (going told s))) ∙ e)
  ends_so (suc n) told s t end r e free = ends_on n told s t (fast s) refl (local s t r) end e free (λ told' s' t' r' e' free'. ends_so n told' s' t' end r' e' free')

pub keeps_law : {S T : Type 0} (R : S → T → Type 0) → KeepsAll R
keeps_law R fast slow most pos local m told s t r free = keeps R fast slow most local m m told s t pos (omega arith) r free

pub ends_law : {S T : Type 0} (R : S → T → Type 0) → EndsAll R
ends_law R fast slow most local n told s t end r e free = ends_so R fast slow most local n told s t end r e free
