-- Where an instruction leads by number, a branch of its form leads.
use Rattle.std.proofs.Common.{◌≡◌, ℕ, zero, suc, Bool, true, false, List, [], ◌∷◌, map, Option, Some, None, get_or, refl, sym, ap, ◌∙◌}
use Rattle.std.specs.Prelude.{ℤ, pos, ◌+ℤ◌, option_and_then, option_map, slice_get}
use Rattle.std.specs.Ordering.{int_eq}
use Rattle.std.proofs.lemmas.Bool.Decides.{Decides-int_eq}
use Rattle.std.proofs.lemmas.List.Quantifiers.{position-Some}
use Rattle.std.proofs.lemmas.Option.{slice_get-get_or}
use Rattle.jground.specs.jbase.ListMaps.{each_some, put_front}
use Rattle.jparts.specs.declared.jpool.entry.Entry.{Entry}
use Rattle.jparts.specs.declared.jcode.op.Case.{Case}
use Rattle.jparts.specs.declared.jcode.op.Placed.{Placed}
use Rattle.jparts.specs.declared.jcode.op.Switch.{Switch}
use Rattle.jparts.specs.declared.jcode.op.Switch.TheVariants as switches
use Rattle.jparts.specs.declared.jcode.op_form.OpForm.{OpForm}
use Rattle.jparts.specs.declared.jcode.op_form.OpForm.TheVariants as forms
use Rattle.jparts.specs.declared.jcode.op_form.Flow.{Flow}
use Rattle.jparts.specs.declared.jcode.op_form.Flow.TheVariants as flows
use Rattle.jparts.specs.declared.jcode.op_form.ArrayForm.{ArrayForm}
use Rattle.jparts.specs.declared.jcode.op_form.ArrayForm.TheVariants as arrays
use Rattle.jparts.specs.jcode.InstructionForms.{branches, flow_branches, goes_on, switch_branches}
use Rattle.jclass.specs.FileContents.{IsIn}
use Rattle.jresolution.specs.jprogram.ProgramClasses.{Program}
use Rattle.jresolution.specs.juses.IndexedInstructions as instructions
use Rattle.jresolution.specs.ProofNames
use Rattle.jresolution.specs.juses.IndexedInstructions.{Instruction, Test, keyed, target, targets}
use Rattle.jresolution.specs.juses.InstructionMeanings.{Meaning, array_meant, meant}
use Rattle.jtyping.proofs.JwelltypedProofs.Tests.{some_is}

-- ---- what is found

found_as : {A B : Type 0} (o : Option A) (g : A → B) (i : B) → option_map g o ≡ Some i → (a : A) × ((o ≡ Some a) × (g a ≡ i))
found_as None g i e = cc
found_as (Some a) g i e = (a, (refl, some_is (g a) i e))

both_as : {A B : Type 0} (o : Option A) (g : A → Option B) (i : B) → option_and_then g o ≡ Some i → (a : A) × ((o ≡ Some a) × (g a ≡ Some i))
both_as None g i e = cc
both_as (Some a) g i e = (a, (refl, e))

fronted : {B : Type 0} (o : Option B) (os : Option (List B)) (zs : List B) → put_front o os ≡ Some zs → (y : B) × ((ys : List B) × ((o ≡ Some y) × ((os ≡ Some ys) × (y ∷ ys ≡ zs))))
fronted None os zs e = cc
fronted (Some y) None zs e = cc
fronted (Some y) (Some ys) zs e = (y, (ys, (refl, (refl, some_is (y ∷ ys) zs e))))

-- ---- one that leads nowhere

never : (xs : List ℕ) (n k : ℕ) → xs ≡ [] → slice_get xs n ≡ Some k → ⊥
never [] n k e at = cc
never (x ∷ xs) n k e at = cc

nowhere : (i j : Instruction) (k : ℕ) → j ≡ i → targets j ≡ [] → IsIn k (targets i) → ⊥
nowhere i j k e t is = never (targets i) is.0 k (ap targets (sym e) ∙ t) is.1

-- ---- jumps and switches

-- a branch leads to a number, from a place
abbrev pub Led : List Placed → ℕ → List ℤ → ℕ → Type 0
Led ops at bys k = (by : ℤ) × (IsIn by bys × (target ops at by ≡ Some k))

to_one : (ops : List Placed) (at : ℕ) (by : ℤ) (to n k : ℕ) → target ops at by ≡ Some to → slice_get (to ∷ []) n ≡ Some k → Led ops at (by ∷ []) k
to_one ops at by to zero k e is = (by, ((0, refl), e ∙ is))
to_one ops at by to (suc n) k e is = absurd cc

jump_led : (ops : List Placed) (at : ℕ) (test : Test) (by : ℤ) (i : Instruction) (k : ℕ) → instructions.jump ops at test by ≡ Some i → IsIn k (targets i) → Led ops at (by ∷ []) k
jump_led ops at test by i k e is =
    let found = found_as (target ops at by) (instructions.Jump test) i e in
    to_one ops at by found.0 is.0 k found.1.0 (ap (λ (j : Instruction). slice_get (targets j) is.0) found.1.1 ∙ is.1)

-- the branch that stands where the number does
abbrev LedAt : List Placed → ℕ → List ℤ → ℕ → ℕ → Type 0
LedAt ops at bys n k = (by : ℤ) × ((slice_get bys n ≡ Some by) × (target ops at by ≡ Some k))

abbrev numbers : List (ℤ × ℕ) → List ℕ
numbers found = map (λ c. c.1) found

keyed_led : (ops : List Placed) (at : ℕ) (key : ℤ) (bys : List ℤ) (found : List (ℤ × ℕ)) (n k : ℕ) → keyed ops at key bys ≡ Some found → slice_get (numbers found) n ≡ Some k → LedAt ops at bys n k
unfolding keyed
keyed_led ops at key [] found n k e is = absurd (never (numbers found) n k (ap numbers (sym (some_is [] found e))) is)
keyed_led ops at key (by ∷ bys) found zero k e is =
    let one = both_as (target ops at by) (λ to. option_map (λ rest. (key, to) ∷ rest) (keyed ops at (key +ℤ pos 1) bys)) found e in
    let others = found_as (keyed ops at (key +ℤ pos 1) bys) (λ rest. (key, one.0) ∷ rest) found one.1.1 in
    (by, (refl, one.1.0 ∙ (ap (λ (cs : List (ℤ × ℕ)). slice_get (numbers cs) 0) others.1.1 ∙ is)))
keyed_led ops at key (by ∷ bys) found (suc n) k e is =
    let one = both_as (target ops at by) (λ to. option_map (λ rest. (key, to) ∷ rest) (keyed ops at (key +ℤ pos 1) bys)) found e in
    let others = found_as (keyed ops at (key +ℤ pos 1) bys) (λ rest. (key, one.0) ∷ rest) found one.1.1 in
    let more = keyed_led ops at (key +ℤ pos 1) bys others.0 n k others.1.0 (ap (λ (cs : List (ℤ × ℕ)). slice_get (numbers cs) (suc n)) others.1.1 ∙ is) in
    (more.0, (more.1.0, more.1.1))

-- a case with the number of its branch
abbrev numbered : List Placed → ℕ → Case → Option (ℤ × ℕ)
numbered ops at c = option_map (λ to. (c.key, to)) (target ops at c.branch)

cases_led : (ops : List Placed) (at : ℕ) (cases : List Case) (found : List (ℤ × ℕ)) (n k : ℕ) → each_some (numbered ops at) cases ≡ Some found → slice_get (numbers found) n ≡ Some k
    → LedAt ops at (map (λ c. c.branch) cases) n k
unfolding each_some
cases_led ops at [] found n k e is = absurd (never (numbers found) n k (ap numbers (sym (some_is [] found e))) is)
cases_led ops at (c ∷ cases) found zero k e is =
    let parts = fronted (numbered ops at c) (each_some (numbered ops at) cases) found e in
    let one = found_as (target ops at c.branch) (λ to. (c.key, to)) parts.0 parts.1.1.0 in
    let to : Some parts.0.1 ≡ Some k = ap (λ (cs : List (ℤ × ℕ)). slice_get (numbers cs) 0) parts.1.1.1.1 ∙ is in
    (c.branch, (refl, one.1.0 ∙ (ap (λ (x : ℤ × ℕ). Some x.1) one.1.1 ∙ to)))
cases_led ops at (c ∷ cases) found (suc n) k e is =
    let parts = fronted (numbered ops at c) (each_some (numbered ops at) cases) found e in
    let more = cases_led ops at cases parts.1.0 n k parts.1.1.1.0 (ap (λ (cs : List (ℤ × ℕ)). slice_get (numbers cs) (suc n)) parts.1.1.1.1 ∙ is) in
    (more.0, (more.1.0, more.1.1))

found_led : (ops : List Placed) (at : ℕ) (s : Switch) (found : List (ℤ × ℕ)) (other n k : ℕ) → instructions.cases ops at s ≡ Some found → target ops at (instructions.default s) ≡ Some other
    → slice_get (other ∷ numbers found) n ≡ Some k → Led ops at (switch_branches s) k
found_led ops at (switches.Table s) found other zero k e o is = (s.default, ((0, refl), o ∙ is))
found_led ops at (switches.Table s) found other (suc n) k e o is =
    let r = keyed_led ops at s.low s.branches found n k e is in
    (r.0, ((suc n, r.1.0), r.1.1))
found_led ops at (switches.Lookup s) found other zero k e o is = (s.default, ((0, refl), o ∙ is))
found_led ops at (switches.Lookup s) found other (suc n) k e o is =
    let r = cases_led ops at s.cases found n k e is in
    (r.0, ((suc n, r.1.0), r.1.1))

switch_led : (ops : List Placed) (at : ℕ) (s : Switch) (i : Instruction) (k : ℕ) → instructions.switch ops at s ≡ Some i → IsIn k (targets i) → Led ops at (switch_branches s) k
switch_led ops at s i k e is =
    let cases = both_as (instructions.cases ops at s) (λ found. option_map (instructions.Switch found) (target ops at (instructions.default s))) i e in
    let other = found_as (target ops at (instructions.default s)) (instructions.Switch cases.0) i cases.1.1 in
    found_led ops at s cases.0 other.0 is.0 k cases.1.0 other.1.0 (ap (λ (j : Instruction). slice_get (targets j) is.0) other.1.1 ∙ is.1)

-- ---- instructions

flow_led : (ops : List Placed) (at : ℕ) (form : Flow Switch) (i : Instruction) (k : ℕ) → instructions.flow ops at form ≡ Some i → IsIn k (targets i) → Led ops at (flow_branches form) k
flow_led ops at (flows.If test by) i k e is = jump_led ops at (instructions.If test) by i k e is
flow_led ops at (flows.IfInt test by) i k e is = jump_led ops at (instructions.IfInt test) by i k e is
flow_led ops at (flows.IfRef test by) i k e is = jump_led ops at (instructions.IfRef test) by i k e is
flow_led ops at (flows.Goto by) i k e is = jump_led ops at instructions.Always by i k e is
flow_led ops at (flows.Switch s) i k e is = switch_led ops at s i k e is
flow_led ops at (flows.Return kind) i k e is = absurd (nowhere i (instructions.Return kind) k (some_is (instructions.Return kind) i e) refl is)
flow_led ops at flows.Throw i k e is = absurd (nowhere i instructions.Throw k (some_is instructions.Throw i e) refl is)

used_nowhere : (m : Option Meaning) (i : Instruction) (k : ℕ) → option_map instructions.Used m ≡ Some i → IsIn k (targets i) → ⊥
used_nowhere m i k e is = let found = found_as m instructions.Used i e in nowhere i (instructions.Used found.0) k found.1.1 refl is

array_nowhere : (p : Program) (pool : List Entry) (form : ArrayForm) (i : Instruction) (k : ℕ) → ProofNames.array p pool form ≡ Some i → IsIn k (targets i) → ⊥
array_nowhere p pool (arrays.NewRef n) i k e is = used_nowhere (array_meant p pool n) i k e is
array_nowhere p pool (arrays.New kind) i k e is = nowhere i (instructions.Array (arrays.New kind)) k (some_is (instructions.Array (arrays.New kind)) i e) refl is
array_nowhere p pool (arrays.Load items) i k e is = nowhere i (instructions.Array (arrays.Load items)) k (some_is (instructions.Array (arrays.Load items)) i e) refl is
array_nowhere p pool (arrays.Store items) i k e is = nowhere i (instructions.Array (arrays.Store items)) k (some_is (instructions.Array (arrays.Store items)) i e) refl is
array_nowhere p pool arrays.Length i k e is = nowhere i (instructions.Array arrays.Length) k (some_is (instructions.Array arrays.Length) i e) refl is

pub form_led : (p : Program) (pool : List Entry) (ops : List Placed) (at : ℕ) (form : OpForm Switch) (i : Instruction) (k : ℕ)
    → instructions.by_form p pool ops at form ≡ Some i → IsIn k (targets i) → Led ops at (branches form) k
unfolding branches
form_led p pool ops at (forms.Simple f) i k e is = absurd (nowhere i (instructions.Simple f) k (some_is (instructions.Simple f) i e) refl is)
form_led p pool ops at (forms.Local f) i k e is = absurd (nowhere i (instructions.Local f) k (some_is (instructions.Local f) i e) refl is)
form_led p pool ops at (forms.Stack f) i k e is = absurd (nowhere i (instructions.Stack f) k (some_is (instructions.Stack f) i e) refl is)
form_led p pool ops at (forms.Flow f) i k e is = flow_led ops at f i k e is
form_led p pool ops at (forms.Array f) i k e is = absurd (array_nowhere p pool f i k e is)
form_led p pool ops at (forms.Pool f) i k e is = absurd (used_nowhere (meant p pool f) i k e is)

-- ---- the instruction of a number

-- an instruction of a number, which stands at a place
abbrev pub IsAt : List Placed → ℕ → ℤ → Type 0
IsAt ops k at = (to : Placed) × ((slice_get ops k ≡ Some to) × (pos to.at ≡ at))

pub at_target : (ops : List Placed) (at : ℕ) (by : ℤ) (k : ℕ) (o : Placed) → target ops at by ≡ Some k → IsAt ops k (pos at +ℤ by)
at_target ops at by k o e =
    let found = position-Some (λ one. int_eq (pos one.at) (pos at +ℤ by)) ops k o e in
    (get_or ops k o, (slice_get-get_or ops k o found.0, (Decides-int_eq (pos (get_or ops k o).at) (pos at +ℤ by)).0 found.1))

-- ---- what goes on

alike : (i j : Instruction) (goes : Bool) → j ≡ i → instructions.goes_on j ≡ goes → instructions.goes_on i ≡ goes
alike i j goes e h = ap instructions.goes_on (sym e) ∙ h

goes_flow : (ops : List Placed) (at : ℕ) (form : Flow Switch) (i : Instruction) → instructions.flow ops at form ≡ Some i → instructions.goes_on i ≡ goes_on (forms.Flow form)
unfolding goes_on
goes_flow ops at (flows.If test by) i e = let r = found_as (target ops at by) (instructions.Jump (instructions.If test)) i e in alike i (instructions.Jump (instructions.If test) r.0) true r.1.1 refl
goes_flow ops at (flows.IfInt test by) i e = let r = found_as (target ops at by) (instructions.Jump (instructions.IfInt test)) i e in alike i (instructions.Jump (instructions.IfInt test) r.0) true r.1.1 refl
goes_flow ops at (flows.IfRef test by) i e = let r = found_as (target ops at by) (instructions.Jump (instructions.IfRef test)) i e in alike i (instructions.Jump (instructions.IfRef test) r.0) true r.1.1 refl
goes_flow ops at (flows.Goto by) i e = let r = found_as (target ops at by) (instructions.Jump instructions.Always) i e in alike i (instructions.Jump instructions.Always r.0) false r.1.1 refl
goes_flow ops at (flows.Switch s) i e =
    let cases = both_as (instructions.cases ops at s) (λ found. option_map (instructions.Switch found) (target ops at (instructions.default s))) i e in
    let other = found_as (target ops at (instructions.default s)) (instructions.Switch cases.0) i cases.1.1 in
    alike i (instructions.Switch cases.0 other.0) false other.1.1 refl
goes_flow ops at (flows.Return kind) i e = alike i (instructions.Return kind) false (some_is (instructions.Return kind) i e) refl
goes_flow ops at flows.Throw i e = alike i instructions.Throw false (some_is instructions.Throw i e) refl

goes_used : (m : Option Meaning) (i : Instruction) → option_map instructions.Used m ≡ Some i → instructions.goes_on i ≡ true
goes_used m i e = let found = found_as m instructions.Used i e in alike i (instructions.Used found.0) true found.1.1 refl

goes_array : (p : Program) (pool : List Entry) (form : ArrayForm) (i : Instruction) → ProofNames.array p pool form ≡ Some i → instructions.goes_on i ≡ true
goes_array p pool (arrays.NewRef n) i e = goes_used (array_meant p pool n) i e
goes_array p pool (arrays.New kind) i e = alike i (instructions.Array (arrays.New kind)) true (some_is (instructions.Array (arrays.New kind)) i e) refl
goes_array p pool (arrays.Load items) i e = alike i (instructions.Array (arrays.Load items)) true (some_is (instructions.Array (arrays.Load items)) i e) refl
goes_array p pool (arrays.Store items) i e = alike i (instructions.Array (arrays.Store items)) true (some_is (instructions.Array (arrays.Store items)) i e) refl
goes_array p pool arrays.Length i e = alike i (instructions.Array arrays.Length) true (some_is (instructions.Array arrays.Length) i e) refl

pub goes_alike : (p : Program) (pool : List Entry) (ops : List Placed) (at : ℕ) (form : OpForm Switch) (i : Instruction)
    → instructions.by_form p pool ops at form ≡ Some i → instructions.goes_on i ≡ goes_on form
unfolding goes_on
goes_alike p pool ops at (forms.Simple f) i e = alike i (instructions.Simple f) true (some_is (instructions.Simple f) i e) refl
goes_alike p pool ops at (forms.Local f) i e = alike i (instructions.Local f) true (some_is (instructions.Local f) i e) refl
goes_alike p pool ops at (forms.Stack f) i e = alike i (instructions.Stack f) true (some_is (instructions.Stack f) i e) refl
goes_alike p pool ops at (forms.Flow f) i e = goes_flow ops at f i e
goes_alike p pool ops at (forms.Array f) i e = goes_array p pool f i e
goes_alike p pool ops at (forms.Pool f) i e = goes_used (meant p pool f) i e
