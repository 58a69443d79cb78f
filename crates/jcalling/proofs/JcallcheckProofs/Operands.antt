-- What a call checks, by its operands.
use Rattle.std.proofs.Common.{◌≡◌, ◌∙◌, ℕ, zero, suc, ◌≤◌, List, [], ◌∷◌, length, take, Option, Some, None, refl, sym, ap, arith}
use Rattle.std.specs.Prelude.{slice_get}
use Rattle.jlib.specs.declared.calls.ControllerCall.TheVariants as controller
use Rattle.jlib.specs.declared.calls.LibCall.TheVariants as calls
use Rattle.jlib.specs.declared.calls.RtCall.TheVariants as rt
use Rattle.jlib.specs.declared.side.Side.{Side}
use Rattle.jvalues.specs.declared.jops.value.Value.{Value}
use Rattle.jvalues.specs.declared.jops.value.Value.TheVariants.{Int, Long, Ref, Ctx}
use Rattle.jsemantics.specs.jmachine.MachineStates.{Row}
use Rattle.jsemantics.specs.jmachine.AccessQueries.{Ask, Checks, checks, checks_kept, context_asks, controller_asks, rt_asks}
use Rattle.jsemantics.specs.jmachine.AccessCallRows.{context_row, controller_row, kept_checked, rt_row}
use Rattle.jsemantics.specs.jmachine.Security.{Rules, checked, kept_in}
use Rattle.jsemantics.specs.jmachine.InstructionSites.{Site}
use Rattle.jsemantics.specs.jmachine.MachineSteps.{entries, site}
use Rattle.jsemantics.specs.jmachine.Store.{Store, object_of}
use Rattle.jruntime.specs.jstate.FrameLists.{Framed, all}
use Rattle.jstepping.specs.declared.jcore.machine.Machine.{Machine}
use Rattle.jstepping.specs.jcore.AnsweredCalls.{Calling}
use Rattle.jstepping.specs.jcore.MachineInvariants.{state_of, store_of}
use Rattle.jcalling.specs.declared.jcallcheck.finding.CheckSubject.TheVariants as whom
use Rattle.jcalling.proofs.JcallcheckProofs.InvariantPreservation.{few_of}
use Rattle.jcalling.specs.jcallcheck.CheckRequests.{Finds, FindsNothing, context_in, here, row_of}

-- ---- so many operands

many : (count : ℕ) (values : List (Value ℕ)) → count ≤ length values → length (take count values) ≡ count
many zero values le = refl
many (suc n) [] le = absurd (omega (arith, le))
many (suc n) (v ∷ values) le = ap suc (many n values (omega (arith, le)))

-- as many are taken as a call has
taken_are : {E : Type 0} (m : Machine E) (count : ℕ) (f : Framed E) → Calling m count → m.guests.running.frames ≡ Some f → length (take count f.newest.operands) ≡ count
taken_are m count f calling runs =
    many count f.newest.operands (few_of m count f calling runs)

one_taken : (values : List (Value ℕ)) (v : Value ℕ) → slice_get values 0 ≡ Some v → take 1 values ≡ v ∷ []
one_taken [] v at = absurd cc
one_taken (x ∷ values) v at = let e : x ≡ v = cc in ap (λ y. y ∷ []) e

two_taken : (values : List (Value ℕ)) (v w : Value ℕ) → slice_get values 0 ≡ Some v → slice_get values 1 ≡ Some w → take 2 values ≡ v ∷ w ∷ []
two_taken [] v w at next = absurd cc
two_taken (x ∷ values) v w at next = let e : x ≡ v = cc in ap (λ ys. x ∷ ys) (one_taken values w next) ∙ ap (λ y. y ∷ w ∷ []) e

-- ---- rows

module _ {E : Type 0} (r : Rules ℕ E) (at : Site) (s : Store ℕ) (es : List E) (inherited : Option ℕ) where
  one_row : (values : List (Value ℕ)) → (length values ≡ 1 → ⊥) → controller_row r at s es inherited controller.Check values ≡ None
  unfolding controller_row
  one_row [] other = refl
  one_row (v ∷ []) other = absurd (other refl)
  one_row (v ∷ w ∷ values) other = refl

  passing_row : (values : List (Value ℕ)) → (length values ≡ 2 → ⊥) → rt_row r at s es inherited rt.Check values ≡ None
  unfolding rt_row
  passing_row [] other = refl
  passing_row (Int x ∷ values) other = refl
  passing_row (Long x ∷ values) other = refl
  passing_row (Ref x ∷ values) other = refl
  passing_row (Ctx k ∷ []) other = refl
  passing_row (Ctx k ∷ v ∷ []) other = absurd (other refl)
  passing_row (Ctx k ∷ v ∷ w ∷ values) other = refl

  -- by the context that is given
  abbrev passing_checked : Value ℕ → Option ℕ → Option (Row ℕ E)
  passing_checked v None = None
  passing_checked v (Some k) = checked at s (λ asked. r.check asked (Some k) es inherited) v

  passing_row_by : (w v : Value ℕ) (o : Option ℕ) → context_in w ≡ o → rt_row r at s es inherited rt.Check (w ∷ v ∷ []) ≡ passing_checked v o
  unfolding rt_row
  passing_row_by (Int x) v o is = ap (passing_checked v) is
  passing_row_by (Long x) v o is = ap (passing_checked v) is
  passing_row_by (Ref x) v o is = ap (passing_checked v) is
  passing_row_by (Ctx k) v o is = ap (passing_checked v) is

  kept_row : (values : List (Value ℕ)) → (length values ≡ 2 → ⊥) → context_row r at s es inherited values ≡ None
  unfolding context_row
  kept_row [] other = refl
  kept_row (v ∷ []) other = refl
  kept_row (v ∷ Int x ∷ values) other = refl
  kept_row (v ∷ Long x ∷ values) other = refl
  kept_row (v ∷ Ctx x ∷ values) other = refl
  kept_row (v ∷ Ref n ∷ []) other = absurd (other refl)
  kept_row (v ∷ Ref n ∷ w ∷ values) other = refl

  -- by what the context keeps
  kept_row_by : (v w : Value ℕ) (o : Option ℕ) → kept_in (object_of s w) ≡ o → context_row r at s es inherited (v ∷ w ∷ []) ≡ kept_checked r at s es inherited v o
  unfolding context_row
  kept_row_by v (Int x) o is = ap (kept_checked r at s es inherited v) is
  kept_row_by v (Long x) o is = ap (kept_checked r at s es inherited v) is
  kept_row_by v (Ctx x) o is = ap (kept_checked r at s es inherited v) is
  kept_row_by v (Ref n) o is = ap (kept_checked r at s es inherited v) is

-- ---- asks

module _ (side : Side) (at : Site) (s : Store ℕ) where
  one_asks : (values : List (Value ℕ)) → (length values ≡ 1 → ⊥) → controller_asks side at s controller.Check values ≡ None
  unfolding controller_asks
  one_asks [] other = refl
  one_asks (v ∷ []) other = absurd (other refl)
  one_asks (v ∷ w ∷ values) other = refl

  passing_asks : (values : List (Value ℕ)) → (length values ≡ 2 → ⊥) → rt_asks side at s rt.Check values ≡ None
  unfolding rt_asks
  passing_asks [] other = refl
  passing_asks (Int x ∷ values) other = refl
  passing_asks (Long x ∷ values) other = refl
  passing_asks (Ref x ∷ values) other = refl
  passing_asks (Ctx k ∷ []) other = refl
  passing_asks (Ctx k ∷ v ∷ []) other = absurd (other refl)
  passing_asks (Ctx k ∷ v ∷ w ∷ values) other = refl

  abbrev passing_checks : Value ℕ → Option ℕ → Option (Ask ℕ)
  passing_checks v None = None
  passing_checks v (Some k) = checks side at s (λ asked. Checks asked (Some k)) v

  passing_asks_by : (w v : Value ℕ) (o : Option ℕ) → context_in w ≡ o → rt_asks side at s rt.Check (w ∷ v ∷ []) ≡ passing_checks v o
  unfolding rt_asks
  passing_asks_by (Int x) v o is = ap (passing_checks v) is
  passing_asks_by (Long x) v o is = ap (passing_checks v) is
  passing_asks_by (Ref x) v o is = ap (passing_checks v) is
  passing_asks_by (Ctx k) v o is = ap (passing_checks v) is

  kept_asks : (values : List (Value ℕ)) → (length values ≡ 2 → ⊥) → context_asks side at s values ≡ None
  unfolding context_asks
  kept_asks [] other = refl
  kept_asks (v ∷ []) other = refl
  kept_asks (v ∷ Int x ∷ values) other = refl
  kept_asks (v ∷ Long x ∷ values) other = refl
  kept_asks (v ∷ Ctx x ∷ values) other = refl
  kept_asks (v ∷ Ref n ∷ []) other = absurd (other refl)
  kept_asks (v ∷ Ref n ∷ w ∷ values) other = refl

  kept_asks_by : (v w : Value ℕ) (o : Option ℕ) → kept_in (object_of s w) ≡ o → context_asks side at s (v ∷ w ∷ []) ≡ checks_kept side at s v o
  unfolding context_asks
  kept_asks_by v (Int x) o is = ap (checks_kept side at s v) is
  kept_asks_by v (Long x) o is = ap (checks_kept side at s v) is
  kept_asks_by v (Ctx x) o is = ap (checks_kept side at s v) is
  kept_asks_by v (Ref n) o is = ap (checks_kept side at s v) is

-- ---- what is found

-- fewer operands are there too
pub fewer : {E : Type 0} (m : Machine E) (count n : ℕ) → n ≤ count → Calling m count → Calling m n
fewer m count n le calling = record {
  machine = calling.machine;
  lives = calling.lives;
  frames = calling.frames;
  runs = calling.runs;
  few = let few = calling.few in omega (arith, le, few);
  stand = calling.stand;
}

module _ {E : Type 0} (m : Machine E) (f : Framed E) (count : ℕ) where
  abbrev taken : List (Value ℕ)
  taken = take count f.newest.operands

  abbrev place : Rules ℕ E → Site
  place r = site r m.calls m.plan.now (state_of m) f.newest f.below

  abbrev marks : Rules ℕ E → List E
  marks r = entries r m.calls m.plan.now (state_of m) (all f)

  -- another number of operands
  pub check_none : Calling m count → m.guests.running.frames ≡ Some f → (count ≡ 1 → ⊥) → FindsNothing m f (calls.Controller controller.Check) count
  check_none calling runs other =
      let len = taken_are m count f calling runs in record {
        asked = one_asks m.side (here m f) (store_of m) taken (λ e. other (sym len ∙ e));
        row = λ r. one_row r (place r) (store_of m) (marks r) m.guests.running.inherited taken (λ e. other (sym len ∙ e));
      }

  pub passing_none : Calling m count → m.guests.running.frames ≡ Some f → (count ≡ 2 → ⊥) → FindsNothing m f (calls.Rt rt.Check) count
  passing_none calling runs other =
      let len = taken_are m count f calling runs in record {
        asked = passing_asks m.side (here m f) (store_of m) taken (λ e. other (sym len ∙ e));
        row = λ r. passing_row r (place r) (store_of m) (marks r) m.guests.running.inherited taken (λ e. other (sym len ∙ e));
      }

  pub kept_none : Calling m count → m.guests.running.frames ≡ Some f → (count ≡ 2 → ⊥) → FindsNothing m f calls.ContextCheck count
  kept_none calling runs other =
      let len = taken_are m count f calling runs in record {
        asked = kept_asks m.side (here m f) (store_of m) taken (λ e. other (sym len ∙ e));
        row = λ r. kept_row r (place r) (store_of m) (marks r) m.guests.running.inherited taken (λ e. other (sym len ∙ e));
      }

  -- so many are taken
  abbrev first_of : ℕ → List (Value ℕ)
  first_of n = take n f.newest.operands

  pub check_found : (v : Value ℕ) → count ≡ 1 → slice_get f.newest.operands 0 ≡ Some v
      → Finds m f (calls.Controller controller.Check) count (record { operand = v; whom = whom.Thread None })
  unfolding controller_row controller_asks
  check_found v is first =
      let these : taken ≡ v ∷ [] = ap first_of is ∙ one_taken f.newest.operands v first in record {
        asked = ap (controller_asks m.side (here m f) (store_of m) controller.Check) these;
        row = λ r. ap (row_of m f (calls.Controller controller.Check) r) these;
      }

  module _ (v w : Value ℕ) (two : count ≡ 2) where
    both : slice_get f.newest.operands 0 ≡ Some v → slice_get f.newest.operands 1 ≡ Some w → taken ≡ v ∷ w ∷ []
    both first next = ap first_of two ∙ two_taken f.newest.operands v w first next

    pub passing_found : (k : ℕ) → slice_get f.newest.operands 0 ≡ Some v → slice_get f.newest.operands 1 ≡ Some w → context_in v ≡ Some k
        → Finds m f (calls.Rt rt.Check) count (record { operand = w; whom = whom.Thread (Some k) })
    passing_found k first next is = record {
      asked = ap (rt_asks m.side (here m f) (store_of m) rt.Check) (both first next) ∙ passing_asks_by m.side (here m f) (store_of m) v w (Some k) is;
      row = λ r. ap (row_of m f (calls.Rt rt.Check) r) (both first next)
          ∙ passing_row_by r (place r) (store_of m) (marks r) m.guests.running.inherited v w (Some k) is;
    }

    pub passing_other : slice_get f.newest.operands 0 ≡ Some v → slice_get f.newest.operands 1 ≡ Some w → context_in v ≡ None
        → FindsNothing m f (calls.Rt rt.Check) count
    passing_other first next is = record {
      asked = ap (rt_asks m.side (here m f) (store_of m) rt.Check) (both first next) ∙ passing_asks_by m.side (here m f) (store_of m) v w None is;
      row = λ r. ap (row_of m f (calls.Rt rt.Check) r) (both first next)
          ∙ passing_row_by r (place r) (store_of m) (marks r) m.guests.running.inherited v w None is;
    }

    pub kept_found : (k : ℕ) → slice_get f.newest.operands 0 ≡ Some v → slice_get f.newest.operands 1 ≡ Some w → kept_in (object_of (store_of m) w) ≡ Some k
        → Finds m f calls.ContextCheck count (record { operand = v; whom = whom.Kept k })
    kept_found k first next is = record {
      asked = ap (context_asks m.side (here m f) (store_of m)) (both first next) ∙ kept_asks_by m.side (here m f) (store_of m) v w (Some k) is;
      row = λ r. ap (row_of m f calls.ContextCheck r) (both first next)
          ∙ kept_row_by r (place r) (store_of m) (marks r) m.guests.running.inherited v w (Some k) is;
    }

    pub kept_other : slice_get f.newest.operands 0 ≡ Some v → slice_get f.newest.operands 1 ≡ Some w → kept_in (object_of (store_of m) w) ≡ None
        → FindsNothing m f calls.ContextCheck count
    kept_other first next is = record {
      asked = ap (context_asks m.side (here m f) (store_of m)) (both first next) ∙ kept_asks_by m.side (here m f) (store_of m) v w None is;
      row = λ r. ap (row_of m f calls.ContextCheck r) (both first next)
          ∙ kept_row_by r (place r) (store_of m) (marks r) m.guests.running.inherited v w None is;
    }
