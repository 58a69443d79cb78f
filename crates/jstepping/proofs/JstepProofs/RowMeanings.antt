-- Every instruction by number that is here stands for one, whose row is here.
use Rattle.std.proofs.Common.{◌≡◌, ◌+◌, ◌<◌, ◌≤◌, ℕ, ℤ, zero, suc, Bool, false, List, [], ◌∷◌, length, Option, Some, None, refl, arith}
use Rattle.std.specs.Prelude.{IfOk, Ok, Err, Result, option_map, slice_get}
use Rattle.jparts.specs.declared.jcode.op_form.LocalForm.{LocalForm}
use Rattle.jparts.specs.declared.jcode.op_form.Simple.TheVariants as simples
use Rattle.jdomain.specs.declared.verdict.Verdict.TheVariants.{Granted}
use Rattle.jmemory.specs.jheap.Heaps.{Heaped}
use Rattle.jlib.specs.declared.side.Side.TheVariants.{Passing}
use Rattle.jvalues.specs.declared.jnames.names.Shuffle.{Shuffle}
use Rattle.jparts.specs.declared.jpool.entry.Entry.{Entry}
use Rattle.jresolution.specs.jprogram.ProgramClasses.{Program}
use Rattle.jresolution.specs.declared.jprogram.member.Member.{Member}
use Rattle.jresolution.specs.juses.IndexedInstructions.{Instruction, Simple, Local, Stack, Switch, Used}
use Rattle.jresolution.specs.juses.InstructionMeanings as meanings
use Rattle.jresolution.specs.juses.InternedInstructions.{keys_from}
use Rattle.jresolution.specs.juses.PoolTables.{pool_at}
use Rattle.jsemantics.specs.jmachine.MachineStates.{FrameOf}
use Rattle.jsemantics.specs.jmachine.InstructionActions.{doing}
use Rattle.jsemantics.specs.jmachine.Security.{Rules}
use Rattle.jsemantics.specs.jmachine.InstructionSites.{Site}
use Rattle.jsemantics.specs.jmachine.Store.{Store}
use Rattle.jsemantics.specs.jmachine.World.{world}
use Rattle.jready.specs.declared.instr.ArrayInstr.{ArrayInstr}
use Rattle.jready.specs.declared.instr.ArrayInstr.TheVariants as array
use Rattle.jready.specs.declared.instr.FlowInstr.{FlowInstr}
use Rattle.jready.specs.declared.instr.FlowInstr.TheVariants as flow
use Rattle.jready.specs.declared.instr.Instr.{Instr}
use Rattle.jready.specs.declared.instr.Instr.TheVariants as instr
use Rattle.jready.specs.declared.instr.Lookup.{Lookup}
use Rattle.jready.specs.declared.instr.OperandOp.{OperandOp}
use Rattle.jready.specs.declared.instr.OperandOp.TheVariants as plain
use Rattle.jready.specs.declared.instr.Push.{Push}
use Rattle.jready.specs.declared.instr.Push.TheVariants as push
use Rattle.jready.specs.declared.instr.Table.{Table}
use Rattle.jready.specs.declared.tables.Tables.{Tables}
use Rattle.jready.specs.CodeLayout.{PlainWithin, PushWithin, Within}
use Rattle.jready.specs.DecodedInstructions.{array_instr, flow_meant, lookup_meant, meant, plain_meant, push_meant, table_meant}
use Rattle.jready.specs.TableGrowth.{part}
use Rattle.jruntime.specs.declared.jstate.shapes.Shapes.{Shapes}
use Rattle.jruntime.specs.jstate.HeapMeanings.{Things, store_by}
use Rattle.jrows.specs.jacts.RowOutcomes.{Acts, Does, leaves}
use Rattle.jrows.specs.declared.jacts.way.Way.{Way}
use Rattle.jserving.specs.jcells.ObjectEquivalence.{LeavesAlike, RowsStayAlike}
use Rattle.jstepping.specs.jstep.InstructionRows.{DoesAs, IsHere, Runs, Stays}
use Rattle.jstepping.proofs.JstepProofs.RowExceptions.{IsBasic, comes_stays, doing_only}

-- ---- what an instruction by number stands for

-- It is an instruction whose row is here.
abbrev pub Means : Option Instruction → Type 0
Means o = (i : Instruction) × (o ≡ Some i) × IsBasic i

there : {A : Type 0} (xs : List A) (k : ℕ) → k < length xs → (x : A) × (slice_get xs k ≡ Some x)
there [] k less = let no : ⊥ = omega (arith, less) in absurd no
there (x ∷ xs) zero less = (x, refl)
there (x ∷ xs) (suc k) less = let below : k < length xs = omega (arith, less) in there xs k below

long_means : (make : ℤ → Instruction) → ((n : ℤ) → IsBasic (make n)) → (o : Option ℤ) → (n : ℤ) × (o ≡ Some n) → Means (option_map make o)
long_means make basic o (n, is) = rw is (make n, refl, basic n)

plain_means : (t : Tables) (f : OperandOp) → PlainWithin t f → Means (plain_meant t f)
plain_means t plain.Nothing within = (_, refl, tt)
plain_means t plain.Null within = (_, refl, tt)
plain_means t (plain.Int n) within = (_, refl, tt)
plain_means t (plain.Long k) within = long_means (λ n. Simple (simples.Long n)) (λ n. tt) (slice_get t.longs k) (there t.longs k within)
plain_means t (plain.Two op) within = (_, refl, tt)
plain_means t (plain.Divide op) within = (_, refl, tt)
plain_means t (plain.One op) within = (_, refl, tt)

push_means : (p : Program) (pool : List Entry) (t : Tables) (f : Push) → PushWithin t f → Means (push_meant p pool t f)
push_means p pool t (push.Int n) within = (_, refl, tt)
push_means p pool t (push.Long k) within = long_means (λ n. Used (meanings.Push (meanings.Long n))) (λ n. tt) (slice_get t.longs k) (there t.longs k within)
push_means p pool t (push.Text i) within = (_, refl, tt)

table_means : (t : Tables) (c : Table) → (c.first + 1) + c.count ≤ length t.targets → Means (table_meant t c)
table_means t c within =
    let less : c.first < length t.targets = omega (arith, within) in
    with_other (slice_get t.targets c.first) (there t.targets c.first less)
  where
    with_other : (o : Option ℕ) → (n : ℕ) × (o ≡ Some n) → Means (option_map (Switch (keys_from c.low (part t.targets (c.first + 1) c.count))) o)
    with_other o (n, is) = rw is (_, refl, tt)

array_means : (f : ArrayInstr) → IsBasic (array_instr f)
array_means (array.New kind) = tt
array_means (array.Load e) = tt
array_means (array.Store e) = tt
array_means array.Length = tt

pub means : (p : Program) (t : Tables) (class : ℕ) (one : Instr) → IsHere one → Within t one → Means (meant p t class one)
unfolding meant
means p t class instr.Off here within = absurd here
means p t class (instr.Plain f) here within = plain_means t f within
means p t class (instr.Push f) here within = push_means p (pool_at p class) t f within
means p t class (instr.Local f) here within = (_, refl, tt)
means p t class (instr.Stack f) here within = (_, refl, tt)
means p t class (instr.Flow (flow.Jump test to)) here within = (_, refl, tt)
means p t class (instr.Flow (flow.Return kind)) here within = absurd here
means p t class (instr.Flow flow.Throw) here within = absurd here
means p t class (instr.Table c) here within = table_means t c within
means p t class (instr.Lookup c) here within = (_, refl, tt)
means p t class (instr.Array f) here within = (_, refl, array_means f)
means p t class (instr.Object f) here within = absurd here
means p t class (instr.Field op cell narrow i slot owner) here within = absurd here
means p t class (instr.Call way i params method) here within = absurd here
means p t class (instr.Library way i params call) here within = absurd here

-- ---- whatever is told, a frame that raises stands where it stood

rules : {E : Type 0} → E → Rules ℕ E
rules e = record {
  side = Passing;
  entry_of = λ domain. e;
  first = None;
  enter = λ k domain. k;
  check = λ asked given entries inherited. Granted;
  check_kept = λ asked k. Granted;
  snapshot = λ given entries inherited. 0;
  inherit = λ given entries inherited. 0;
  privileged = λ domain given context limits entries. record { caller = e; context = None };
}

program : Program
program = record { side = Passing; parts = [] }

site : Site
site = record { world = world program; class = 0; thread = 0; full = false; cwd = []; table = [] }

module _ {E : Type 0} (tables : Tables) (shapes : Shapes) (one : Instr) (f : FrameOf ℕ E) (h : Heaped) (way : Way) (g : FrameOf ℕ E) (k : Heaped) where
  pub stays : IsHere one → Within tables one → Runs tables shapes one f h way g k → Stays way f g
  stays here within runs = by_meaning (means program tables 0 one here within)
    where
      things : Things
      things = record { permissions = []; kept = [] }

      s : Store ℕ
      s = store_by program shapes things [] h

      own : Member → Bool
      own m = false

      by_meaning : Means (meant program tables 0 one) → Stays way f g
      by_meaning (i, is, basic) =
          comes_stays f s (doing (rules f.entry) site own s [] None i f) (leaves way [] g (store_by program shapes things [] k))
          (doing_only (rules f.entry) site own s [] None f i basic)
          (runs program 0 things [] i is (rules f.entry) site own [] None)

pub ok_stays : {E F : Type 0} (r : Result Way F) (tables : Tables) (shapes : Shapes) (one : Instr) (f g : FrameOf ℕ E) (h k : Heaped)
    → IsHere one → Within tables one → IfOk r (λ way. Runs tables shapes one f h way g k) → IfOk r (λ way. Stays way f g)
ok_stays (Ok w) tables shapes one f g h k here within runs = stays tables shapes one f h w g k here within runs
ok_stays (Err e) tables shapes one f g h k here within runs = tt

-- ---- what a row names

module _ {E : Type 0} (law : RowsStayAlike E) (tables : Tables) (shapes : Shapes) (one : Instr) (f g : FrameOf ℕ E) (h k : Heaped) where
  runs_alike : (way : Way) → IsHere one → Within tables one → Runs tables shapes one f h way g k → (p : Program) (things : Things)
      → LeavesAlike p shapes things way h.objects k.objects
  runs_alike way here within runs p things = by_meaning (means p tables 0 one here within)
    where
      by_meaning : Means (meant p tables 0 one) → LeavesAlike p shapes things way h.objects k.objects
      by_meaning (i, is, basic) =
          law p shapes things h k f g way [] [] [] i site (λ m. false) (λ others e r entries inherited.
          runs p 0 others [] i is r site (λ m. false) entries inherited)

  pub ok_alike : {F : Type 0} (r : Result Way F) → IsHere one → Within tables one → IfOk r (λ way. Runs tables shapes one f h way g k)
      → IfOk r (λ way. (p : Program) (things : Things) → LeavesAlike p shapes things way h.objects k.objects)
  ok_alike (Ok way) here within runs = runs_alike way here within runs
  ok_alike (Err e) here within runs = tt

-- ---- the rows

module _ {E : Type 0} (tables : Tables) (shapes : Shapes) (f g : FrameOf ℕ E) (h : Heaped) where
  pub runs_plain : {F : Type 0} (r : Result Way F) (x : OperandOp) → IfOk r (λ way. DoesAs (plain_meant tables x) f way g)
      → IfOk r (λ way. Runs tables shapes (instr.Plain x) f h way g h)
  unfolding meant
  runs_plain (Ok w) x did = λ p class things constants i is r at own entries inherited.
      did i is r at own (store_by p shapes things constants h) entries inherited
  runs_plain (Err e) x did = tt

  pub runs_push : {F : Type 0} (r : Result Way F) (x : Push)
      → IfOk r (λ way. (p : Program) (pool : List Entry) → DoesAs (push_meant p pool tables x) f way g)
      → IfOk r (λ way. Runs tables shapes (instr.Push x) f h way g h)
  unfolding meant
  runs_push (Ok w) x did = λ p class things constants i is r at own entries inherited.
      did p (pool_at p class) i is r at own (store_by p shapes things constants h) entries inherited
  runs_push (Err e) x did = tt

  -- one that is always the same
  pub runs_as : (one : Instr) (j : Instruction) (w : Way) → ((p : Program) (class : ℕ) → meant p tables class one ≡ Some j) → Does j f w g
      → Runs tables shapes one f h w g h
  runs_as one j w always did p class things constants i is r at own entries inherited =
      let also = always p class in
      let same : i ≡ j = cc in
      rw same (did r at own (store_by p shapes things constants h) entries inherited)

  pub ok_runs_as : {F : Type 0} (r : Result Way F) (one : Instr) (j : Instruction) → ((p : Program) (class : ℕ) → meant p tables class one ≡ Some j)
      → IfOk r (λ way. Does j f way g) → IfOk r (λ way. Runs tables shapes one f h way g h)
  ok_runs_as (Ok w) one j always did = runs_as one j w always did
  ok_runs_as (Err e) one j always did = tt

  pub local_means : (x : LocalForm) (p : Program) (class : ℕ) → meant p tables class (instr.Local x) ≡ Some (Local x)
  unfolding meant
  local_means x p class = refl

  pub stack_means : (x : Shuffle) (p : Program) (class : ℕ) → meant p tables class (instr.Stack x) ≡ Some (Stack x)
  unfolding meant
  stack_means x p class = refl

  pub flow_means : (x : FlowInstr) (p : Program) (class : ℕ) → meant p tables class (instr.Flow x) ≡ Some (flow_meant x)
  unfolding meant
  flow_means x p class = refl

  pub lookup_means : (x : Lookup) (p : Program) (class : ℕ) → meant p tables class (instr.Lookup x) ≡ Some (lookup_meant tables x)
  unfolding meant
  lookup_means x p class = refl

  pub runs_table : (w : Way) (x : Table) → DoesAs (table_meant tables x) f w g → Runs tables shapes (instr.Table x) f h w g h
  unfolding meant
  runs_table w x did p class things constants i is r at own entries inherited = did i is r at own (store_by p shapes things constants h) entries inherited

  pub runs_array : {F : Type 0} (r : Result Way F) (x : ArrayInstr) (k : Heaped)
      → IfOk r (λ way. (p : Program) (things : Things) (constants : List (List ℕ × ℕ)) →
      Acts (array_instr x) f (store_by p shapes things constants h) (leaves way [] g (store_by p shapes things constants k)))
      → IfOk r (λ way. Runs tables shapes (instr.Array x) f h way g k)
  unfolding meant
  runs_array (Ok w) x k did = λ p class things constants i is r at own entries inherited.
      let same : i ≡ array_instr x = cc in
      rw same (did p things constants r at own entries inherited)
  runs_array (Err e) x k did = tt
