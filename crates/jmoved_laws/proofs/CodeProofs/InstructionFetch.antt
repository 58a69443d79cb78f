-- What is fetched of moved code: each expansion says what its instruction becomes, and goes on where that one does.
use Rattle.std.proofs.Common.{◌≡◌, ℕ, zero, suc, ◌+◌, ◌<◌, Bool, true, false, List, [], ◌∷◌, length, take, Option, Some, None, refl, ap, sym, ◌∙◌, subst, inl, inr, arith}
use Rattle.std.specs.Prelude.{IsTrue, not, option_and_then, slice_get, nat_lt, ◌||◌, ◌⊎◌, if◌then◌else◌}
use Rattle.std.proofs.lemmas.Bool.{cases_Bool, lt-ltb, ltb-true}
use Rattle.jparts.proofs.JpoolProofs.PoolLaws.{at_index}
use Rattle.jparts.specs.declared.jcode.op.Op.{Op}
use Rattle.jparts.specs.declared.jcode.op.Placed.{Placed}
use Rattle.jparts.specs.jcode.Instructions as jcode
use Rattle.jclass.specs.declared.class.ClassParts.{ClassParts}
use Rattle.jclass.specs.declared.class.CodeBody.{CodeBody}
use Rattle.jclass.specs.PoolOperands.{names_well}
use Rattle.jclass.proofs.FittingClasses.{code_fits, code_items}
use Rattle.jmove.specs.declared.method.Expand.{Expand}
use Rattle.jmove.specs.declared.method.Setting.{Setting}
use Rattle.jmove.specs.declared.naming.Security.TheVariants as security
use Rattle.jmove.specs.PoolAdditions.{numbered}
use Rattle.jmove.specs.AssemblyLines.{reach}
use Rattle.jmove.specs.MethodExpansion.{expansion}
use Rattle.jmove.proofs.CodeLayout.{code_laid}
use Rattle.jmoveclass.specs.EntryLocals.{slots}
use Rattle.jmoveclass.specs.CallExpansion.{expand_by}
use Rattle.jmoveclass.specs.MovedClasses.{moved_class}
use Rattle.jrewriting.specs.jmove_laws.InstructionNumbers as numbers
use Rattle.jrewriting.specs.jmove_laws.InstructionNumbers.{IsNth, index_of, new_place, standing}
use Rattle.jrewriting.proofs.JmoveLawsProofs.BranchTargets.{first_of, within}
use Rattle.jrewriting.proofs.JmoveLawsProofs.InstructionNumbers.{begun, fetched, next}
use Rattle.jrewriting.proofs.JmoveLawsProofs.HandlerRanges.{there}
use Rattle.jrewriting.proofs.JmoveclassLawsProofs.CodeFormat.{begin_of, new_body, set_of}
use Rattle.jrewriting.proofs.JmoveclassLawsProofs.PoolFormat.{ops_named}
use Rattle.jresolution.specs.declared.jprogram.member.MethodId.{MethodId}
use Rattle.jresolution.specs.jprogram.ProgramClasses.{Program}
use Rattle.jresolution.proofs.JprogramProofs.NameReachability.{or_right}
use Rattle.jresolution.specs.juses.IndexedInstructions as uses
use Rattle.jresolution.specs.juses.IndexedInstructions.{Always, Array, Instruction, Jump, Local, Return, Simple, Stack, Switch, Test, Throw, Used, goes_on, instruction, instruction_at}
use Rattle.jlinking.proofs.JlinkProofs.PresentValues.{then_is}
use Rattle.jsemantics.specs.jmachine.MachineSteps as steps
use Rattle.jsemantics.specs.jmachine.MachineSteps.{has_next, is_followed, unless_last}
use Rattle.jrewriting.specs.jrewrite.RewrittenPrograms.{moved}
use Rattle.jrewriting.proofs.JrewriteProofs.CodeNames.{stands_for}
use Rattle.jrewriting.proofs.JrewriteProofs.Security.{rt_of}
use Rattle.jsimulation_laws.specs.relation.InstructionExpansion.{Place, expanded, prologue, rt_meaning}
use Rattle.jmoved_laws.proofs.CodeProofs.MovedMethodCode.{Both, IsThere, code_there, first_there, has_bytes, instruction_there, numbered_at, same_count}
use Rattle.jmoved_laws.proofs.CodeProofs.ExpansionMeanings.{Each, Means, keep_means, load_means, op_row, push_means, static_means}
use Rattle.jmoved_laws.proofs.CodeProofs.Rt.{method_rt}

-- ---- lists that correspond

record Nth (P : Op → Instruction → Type 0) (os : List Op) (j : ℕ) (x : Instruction) : Type 0 where
  pub op : Op
  pub there : slice_get os j ≡ Some op
  pub is : P op x

nth : (P : Op → Instruction → Type 0) (os : List Op) (xs : List Instruction) → Each P os xs → (j : ℕ) (x : Instruction) → slice_get xs j ≡ Some x → Nth P os j x
nth P os [] h j x at = absurd cc
nth P [] (y ∷ xs) h j x at = absurd h
nth P (o ∷ os) (y ∷ xs) h zero x at = let same : y ≡ x = cc in record { op = o; there = refl; is = subst (P o) same h.0 }
nth P (o ∷ os) (y ∷ xs) h (suc j) x at =
    let r = nth P os xs h.1 j x at in
    record { op = r.op; there = r.there; is = r.is }

as_many : (P : Op → Instruction → Type 0) (os : List Op) (xs : List Instruction) → Each P os xs → length os ≡ length xs
as_many P [] [] h = refl
as_many P [] (x ∷ xs) h = absurd h
as_many P (o ∷ os) [] h = absurd h
as_many P (o ∷ os) (x ∷ xs) h = ap suc (as_many P os xs h.1)

-- ---- what a machine fetches

pub record Got (p : Program) (c : ClassParts) (b : CodeBody) (n : ℕ) (it : Instruction) : Type 0 where
  pub i : Placed
  pub stands : slice_get b.ops n ≡ Some i
  pub means : instruction p c.pool b.ops i ≡ Some it
  pub followed : (not (goes_on it) || nat_lt (n + 1) (length b.ops)) ≡ true

if_some : {A : Type 0} (t : Bool) (x y : A) → (if t then Some x else None) ≡ Some y → (t ≡ true) × (x ≡ y)
if_some true x y h = (refl, cc)
if_some false x y h = absurd cc

pub got : (p : Program) (m : MethodId) (c : ClassParts) (b : CodeBody) → IsThere p m c b → (n : ℕ) (it : Instruction) → steps.fetched p m n ≡ Some it → Got p c b n it
unfolding steps.fetched
got p m c b t n it h =
    let u = then_is (unless_last p m n) (instruction_at p m n) it h in
    let v = if_some (is_followed p m n u.0) u.0 it u.2 in
    let w = then_is (instruction p c.pool b.ops) (slice_get b.ops n) u.0 (sym (instruction_there p m c b t n) ∙ u.1) in
    record {
      i = w.0;
      stands = w.1;
      means = w.2 ∙ ap (λ (x : Instruction). Some x) v.1;
      followed = ap (λ (x : Instruction). not (goes_on x) || nat_lt (n + 1) (length b.ops)) (sym v.1) ∙ ap (λ (o : Option CodeBody). not (goes_on u.0) || has_next o n) (sym (code_there p m c b t)) ∙ v.0;
    }

pub gets : (p : Program) (m : MethodId) (c : ClassParts) (b : CodeBody) → IsThere p m c b → (n : ℕ) (i : Placed) (it : Instruction) → slice_get b.ops n ≡ Some i → instruction p c.pool b.ops i ≡ Some it → (not (goes_on it) || nat_lt (n + 1) (length b.ops)) ≡ true
    → steps.fetched p m n ≡ Some it
unfolding steps.fetched
gets p m c b t n i it at means followed =
    ap (option_and_then (unless_last p m n)) (instruction_there p m c b t n ∙ ap (option_and_then (instruction p c.pool b.ops)) at ∙ means)
    ∙ ap (λ (t : Bool). if t then Some it else None) (ap (λ (o : Option CodeBody). not (goes_on it) || has_next o n) (code_there p m c b t) ∙ followed)

-- ---- where code goes on

stopped_jump : (place : Place) (to : ℕ → ℕ) (test : Test) (n : ℕ) → goes_on (Jump test n) ≡ false → (j : ℕ) (x : Instruction) → slice_get (expanded place to (Jump test n)) j ≡ Some x → goes_on x ≡ false
stopped_jump place to Always n h zero x at = let same : Jump Always (to n) ≡ x = cc in ap goes_on (sym same)
stopped_jump place to Always n h (suc j) x at = absurd cc
stopped_jump place to (uses.If op) n h j x at = absurd cc
stopped_jump place to (uses.IfInt op) n h j x at = absurd cc
stopped_jump place to (uses.IfRef op) n h j x at = absurd cc

alone_stops : (y : Instruction) → goes_on y ≡ false → (j : ℕ) (x : Instruction) → slice_get (y ∷ []) j ≡ Some x → goes_on x ≡ false
alone_stops y h zero x at = let same : y ≡ x = cc in ap goes_on (sym same) ∙ h
alone_stops y h (suc j) x at = absurd cc

-- what doesn't go on becomes one that doesn't
stopped : (place : Place) (to : ℕ → ℕ) (it : Instruction) → goes_on it ≡ false → (j : ℕ) (x : Instruction) → slice_get (expanded place to it) j ≡ Some x → goes_on x ≡ false
stopped place to (Jump test n) h j x at = stopped_jump place to test n h j x at
stopped place to (Switch cases other) h j x at = alone_stops _ refl j x at
stopped place to (Return kind) h j x at = alone_stops (Return kind) refl j x at
stopped place to Throw h j x at = alone_stops Throw refl j x at
stopped place to (Simple f) h j x at = absurd cc
stopped place to (Local f) h j x at = absurd cc
stopped place to (Stack f) h j x at = absurd cc
stopped place to (Array f) h j x at = absurd cc
stopped place to (Used m) h j x at = absurd cc

either : (j n : ℕ) → j < n → (j + 1 < n) ⊎ (j + 1 ≡ n)
either j n h = grind (arith, h)

-- ---- the moved code

module _ (p : Program) (m : MethodId) (b : CodeBody) (r : Both p m b) where
  abbrev c : ClassParts
  c = r.part.class

  abbrev d : ClassParts
  d = moved_class p r.part.domain c

  abbrev q : Program
  q = moved p

  abbrev s : Setting
  s = set_of c r.method b r.part.domain r.first

  abbrev begin : List Op
  begin = begin_of c r.method b r.part.domain r.first r.enter

  abbrev now : CodeBody
  now = new_body c r.method b r.part.domain r.first r.enter r.ms r.context

  abbrev new : List Placed
  new = numbers.moved begin s r.ms b.ops

  abbrev to : ℕ → ℕ
  to = new_place begin s r.ms b.ops

  abbrev pub number : ℕ → ℕ
  number = index_of begin s r.ms b.ops

  abbrev pub place : Place
  place = record { local = s.local; domain = s.domain }

  pub fits : IsTrue (jcode.code.fits b.ops)
  fits = (code_items c.pool b (code_fits c b r.has)).0

  pub each : length r.ms ≡ length b.ops
  each = same_count p c d.pool b.ops r.ms r.numbers

  -- an instruction, and what its expansion means
  pub record Row (n : ℕ) (i : Placed) (it : Instruction) : Type 0 where
    pub kind : Expand
    pub is_nth : IsNth r.ms b.ops n kind i
    pub row : Each (Means q d.pool new to i.at) (expansion s kind i.op) (expanded place number it)

  pub row_at : (n : ℕ) (i : Placed) (it : Instruction) → slice_get b.ops n ≡ Some i → instruction p c.pool b.ops i ≡ Some it → Row n i it
  unfolding instruction
  row_at n i it at means =
      let x = expand_by (stands_for p c) i.op in
      let y = numbered_at p c d.pool b.ops r.ms r.numbers n i at in
      let well = at_index (λ (z : Placed). names_well c.pool z.op) b.ops n i (ops_named c.pool b (code_fits c b r.has)) at in
      record {
        kind = numbered x y.j;
        is_nth = record { kind = y.kind; old = at };
        row = op_row p c d r.known begin s r.ms b.ops fits each i.at i.op x y.j refl y.is well it means;
      }

  -- the first instruction of an expansion
  begins_at : (n : ℕ) (i : Placed) → slice_get b.ops n ≡ Some i → (z : Placed) × (slice_get new (number n) ≡ Some z)
  begins_at n i at =
      let k = there r.ms n (omega (arith, each, within b.ops n i at)) in
      let one = first_of s k.0 i.op in
      let none : number n + 0 ≡ number n = omega arith in
      (standing to i.at (to i.at) (expansion s k.0 i.op) 0 one.0, sym (ap (slice_get new) none) ∙ fetched begin s r.ms b.ops fits n 0 k.0 i one.0 (record { kind = k.1; old = at }) one.1)

  has_one : (n l : ℕ) (z : Placed) → l ≡ n + 1 → slice_get new l ≡ Some z → nat_lt (n + 1) (length new) ≡ true
  has_one n l z e at =
      let less : l < length new = within new l z at in
      lt-ltb (n + 1) (length new) (omega arith)

  -- behind each instruction of an expansion another one stands, where one stands behind its old instruction
  next_there : (n j : ℕ) (i : Placed) (it : Instruction) (x : Row n i it) → j < length (expansion s x.kind i.op) → nat_lt (n + 1) (length b.ops) ≡ true → nat_lt (number n + j + 1) (length new) ≡ true
  next_there n j i it x lt more = elim (either j (length (expansion s x.kind i.op)) lt) [
    | inl inside ↦ (
        let os = expansion s x.kind i.op in
        let op = there os (j + 1) inside in
        let e : number n + (j + 1) ≡ number n + j + 1 = omega arith in
        has_one (number n + j) (number n + (j + 1)) _ e (fetched begin s r.ms b.ops fits n (j + 1) x.kind i op.0 x.is_nth op.1)
        )
    | inr last ↦ (
        let y = there b.ops (n + 1) (ltb-true (n + 1) (length b.ops) more) in
        let z = begins_at (n + 1) y.0 y.1 in
        let step : number (n + 1) ≡ number n + length (expansion s x.kind i.op) = next begin s r.ms b.ops n x.kind i x.is_nth in
        let e : number (n + 1) ≡ number n + j + 1 = omega arith in
        has_one (number n + j) (number (n + 1)) z.0 e z.1
        )
  ]

  pub many : (n : ℕ) (i : Placed) (it : Instruction) (x : Row n i it) → length (expansion s x.kind i.op) ≡ length (expanded place number it)
  many n i it x = as_many (Means q d.pool new to i.at) (expansion s x.kind i.op) (expanded place number it) x.row

  pub next_law : (n : ℕ) (it : Instruction) → steps.fetched p m n ≡ Some it → number (n + 1) ≡ number n + length (expanded place number it)
  next_law n it h =
      let g = got p m c b r.old n it h in
      let x = row_at n g.i it g.stands g.means in
      next begin s r.ms b.ops n x.kind g.i x.is_nth ∙ ap (λ (l : ℕ). number n + l) (many n g.i it x)

  goes_where : (n j : ℕ) (i : Placed) (it y : Instruction) (x : Row n i it) → j < length (expansion s x.kind i.op) → slice_get (expanded place number it) j ≡ Some y → (not (goes_on it) || nat_lt (n + 1) (length b.ops)) ≡ true
      → (not (goes_on y) || nat_lt (number n + j + 1) (length new)) ≡ true
  goes_where n j i it y x lt at followed = elim (cases_Bool (goes_on it)) [
    | inl on ↦ (
        let more : nat_lt (n + 1) (length b.ops) ≡ true = sym (ap (λ (t : Bool). not t || nat_lt (n + 1) (length b.ops)) on) ∙ followed in
        or_right (not (goes_on y)) (nat_lt (number n + j + 1) (length new)) (next_there n j i it x lt more)
        )
    | inr off ↦ ap (λ (t : Bool). not t || nat_lt (number n + j + 1) (length new)) (stopped place number it off j y at)
  ]

  pub fetches_law : (n j : ℕ) (it y : Instruction) → steps.fetched p m n ≡ Some it → slice_get (expanded place number it) j ≡ Some y → steps.fetched q m (number n + j) ≡ Some y
  fetches_law n j it y h at =
      let g = got p m c b r.old n it h in
      let x = row_at n g.i it g.stands g.means in
      let os = expansion s x.kind g.i.op in
      let one = nth (Means q d.pool new to g.i.at) os (expanded place number it) x.row j y at in
      let stands = fetched begin s r.ms b.ops fits n j x.kind g.i one.op x.is_nth one.there in
      gets q m d now r.new (number n + j) (standing to g.i.at (to g.i.at) os j one.op) y stands (one.is (reach (to g.i.at) (take j os))) (goes_where n j g.i it y x (within os j one.op one.there) at g.followed)

  -- ---- what it begins with

  first_row : Each (Means q d.pool new to 0) begin (prologue (slots c r.method) place)
  first_row = (
    load_means q d.pool new to 0 (slots c r.method),
    (
      push_means q d.pool new to 0 s.domain,
      (static_means q d.pool new to 0 r.enter (rt_meaning (rt_of security.Enter)) (method_rt q r.known.passing security.Enter d.pool r.enter r.enters), (keep_means q d.pool new to 0 s.local, tt)),
    ),
  )

  begun_next : (j : ℕ) → j < 4 → nat_lt (j + 1) (length new) ≡ true
  begun_next j lt = elim (either j 4 lt) [
    | inl inside ↦ (let op = there begin (j + 1) inside in has_one j (j + 1) _ refl (begun begin s r.ms b.ops (j + 1) op.0 op.1))
    | inr last ↦ (
        let i = first_there b.ops (length (jcode.code.spell b.ops)) (code_laid b.ops fits) (has_bytes c.pool b (code_fits c b r.has)) in
        let z = begins_at 0 i.0 i.1 in
        let e : number 0 ≡ j + 1 = omega (arith, last) in
        has_one j (number 0) z.0 e z.1
        )
  ]

  pub first_law : (j : ℕ) (y : Instruction) → slice_get (prologue (slots c r.method) place) j ≡ Some y → steps.fetched q m j ≡ Some y
  first_law j y at =
      let one = nth (Means q d.pool new to 0) begin (prologue (slots c r.method) place) first_row j y at in
      let stands = begun begin s r.ms b.ops j one.op one.there in
      let less : j < 4 = within begin j one.op one.there in
      gets q m d now r.new j (standing to 0 0 begin j one.op) y stands (one.is (reach 0 (take j begin))) (or_right (not (goes_on y)) (nat_lt (j + 1) (length new)) (begun_next j less))
