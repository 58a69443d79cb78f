-- What steps of a machine came to, by what steps of the definition come to; and runs that begin somewhere.
use Rattle.std.specs.Prelude.{◌≡◌, ◌<◌, ◌≤◌, ◌+◌, ⊤, ℕ, zero, suc, [], Option, Some, None}
use Rattle.jsemantics.specs.jmachine.MachineStates.{Outcome, Went, Over, NoStep}
use Rattle.jsemantics.specs.jmachine.RunTraces.{Run}
use Rattle.jruntime.specs.declared.jrun.came.Came.{Came}
use Rattle.jruntime.specs.declared.jrun.came.Came.TheVariants as done
use Rattle.jruntime.specs.declared.jrun.stepping.Stepped.{Stepped}
use Rattle.jruntime.specs.declared.jrun.stepping.Stepped.TheVariants as stepped
use Rattle.jruntime.specs.declared.jrun.stepping.Stretch.{Stretch}

-- ---- one step

-- The state behind it stands for what the definition's step leaves, and the same was told.
abbrev pub ComesTo : {S : Type 0} → (S → Type 0) → Outcome S → Came → Type 0
ComesTo {S} stands o (done.Went events) = (s : S) × (o ≡ Went s events) × stands s
ComesTo {S} stands o (done.Ended events end) = (s : S) × (o ≡ Over s events end)
ComesTo {S} stands o done.Stuck = o ≡ NoStep

-- Where the run goes on, this holds.
abbrev pub WhereWent : Type 0 → Came → Type 0
WhereWent P (done.Went events) = P
WhereWent P came = ⊤

-- where there was a step
abbrev pub came_as : Stepped → Came
came_as (stepped.Went events) = done.Went events
came_as (stepped.Ended events end) = done.Ended events end

-- ---- some steps

-- So many steps from a state to another went on and told nothing.
unfoldable pub Quietly : {S : Type 0} → (S → Outcome S) → ℕ → S → S → Type 0
Quietly step zero s t = t ≡ s
Quietly {S} step (suc k) s t = (u : S) × Quietly step k s u × (step u ≡ Went t [])

-- The one behind them, if there was one, came to this.
abbrev pub LastCame : {S : Type 0} → (S → Type 0) → (S → Outcome S) → S → Option Stepped → Type 0
LastCame stands step t None = stands t
LastCame stands step t (Some came) = ComesTo stands (step t) (came_as came)

-- Some steps from a state were made.
abbrev pub Goes : {S : Type 0} → (S → Type 0) → (S → Outcome S) → S → Stretch → Type 0
Goes {S} stands step s made = (t : S) × Quietly step made.quiet s t × LastCame stands step t made.last

abbrev pub count_of : Option Stepped → ℕ
count_of None = 0
count_of (Some came) = 1

-- how many they were
abbrev pub steps_in : Stretch → ℕ
steps_in made = made.quiet + count_of made.last

-- They are at least one, and at most so many.
abbrev pub AreFew : ℕ → Stretch → Type 0
AreFew most made = (0 < steps_in made) × (steps_in made ≤ most)

abbrev pub WhereGoes : Type 0 → Option Stepped → Type 0
WhereGoes P None = P
WhereGoes P (Some came) = WhereWent P (came_as came)

-- ---- runs

-- A run that has not begun: nothing was told, and it has not ended.
pub record Begins {S : Type 0} (stands : S → Type 0) (r : Run S) : Type 0 where
  pub state : stands r.state
  pub events : r.events ≡ []
  pub end : r.end ≡ None
