-- Rows, frames and states of a moved program, as those of the program with other places, locals and numbers.
use Rattle.std.proofs.Common.{◌≡◌, ℕ, ◌+◌, List, ◌∷◌, Option, arith}
use Rattle.jvalues.specs.declared.jops.value.Value.TheVariants.{Ctx}
use Rattle.jresolution.specs.jprogram.ProgramClasses.{Program}
use Rattle.jctx.specs.declared.item.Item.{Item}
use Rattle.jsemantics.specs.jmachine.MachineStates.{Act, Jumps, Calls, Row}
use Rattle.jsemantics.specs.jmachine.InstructionActions.{Doing}
use Rattle.jsemantics.specs.jmachine.FrameOperations.{standing}
use Rattle.jsimulation_laws.specs.between.BetweenMachines.{Noted}
use Rattle.jsimulation_laws.specs.relation.StateRelation.{Frame, FrameStands, Guest, Point, Word}

-- ---- rows

abbrev pub act_led : (ℕ → ℕ) → List Item → Act (List Item) Noted → Act (List Item) Noted
act_led to c (Jumps n) = Jumps (to n)
act_led to c (Calls m arguments entry) = Calls m (Ctx c ∷ arguments) entry
act_led to c act = act

abbrev pub row_by : ℕ → Act (List Item) Noted → Row (List Item) Noted
row_by charge act = record { charge = charge; act = act }

-- the row of the last instruction of an expansion; `to` says with which number each expansion begins, and `c` is what a call hands on
abbrev pub row_led : (ℕ → ℕ) → List Item → Row (List Item) Noted → Row (List Item) Noted
row_led to c r = row_by r.charge (act_led to c r.act)

abbrev pub does : Frame → Row (List Item) Noted → Doing (List Item) Noted
does f r = record { frame = f; row = r }

-- ---- frames

-- the first instruction of an expansion
pub zero_more : (n : ℕ) → n ≡ n + 0
zero_more n = omega arith

-- the moved program's frame: the same, at a place of its own and with locals of its own
abbrev pub spot : Frame → ℕ → List (Option Word) → Frame
spot f at ys = record { method = f.method; place = at; locals = ys; operands = f.operands; entry = f.entry }

module _ (p q : Program) (inherited : Option (List Item)) (below : List Frame) where
  -- the same frames elsewhere
  abbrev pub stands_at : (more : ℕ) (f g : Frame) → (st : FrameStands p q inherited more below f g) → (less n m : ℕ) (xs ys : List Word) → m ≡ st.code.at n + less → ys ≡ xs
      → FrameStands p q inherited less below (standing f n xs) (standing g m ys)
  stands_at more f g st less n m xs ys at same = record {
    body = st.body;
    is = st.is;
    code = st.code;
    method = st.method;
    entry = st.entry;
    domain = st.domain;
    operands = same;
    place = at;
    short = st.short;
    long = st.long;
    locals = st.locals;
    context = st.context;
  }

-- ---- states

-- the moved program's state: the same, with threads and frames of its own
abbrev pub there : Point → List Guest → List Frame → List Guest → Point
there s es gs ls = record {
  earlier = es;
  running = record { frames = gs; inherited = s.running.inherited; runnable = s.running.runnable; failed = s.running.failed };
  later = ls;
  table = s.table;
  store = s.store;
  turns = s.turns;
}
