-- Each branch of an instruction leads to an instruction of its method, which has a number.
use Rattle.std.proofs.Common.{◌≡◌, ℕ, ◌<◌, ◌||◌, Bool, true, false, List, [], ◌∷◌, length, map, Option, Some, refl, subst, arith}
use Rattle.std.specs.Prelude.{ℤ, pos, ◌+ℤ◌, option_and_then, option_map}
use Rattle.std.specs.List.{AllByRecursion, list_all, list_any, position, position_or_len}
use Rattle.std.specs.Option.{IsSome}
use Rattle.std.specs.Ordering.{int_eq}
use Rattle.std.proofs.lemmas.Bool.{lt-ltb}
use Rattle.std.proofs.lemmas.List.Quantifiers.{position-Some}
use Rattle.jground.specs.jbase.ListMaps.{each_some}
use Rattle.jground.proofs.JformatProofs.ReadingSteps.{first_true, second_true}
use Rattle.jresolution.proofs.JprogramProofs.ClassHeights.{all_of_map}
use Rattle.jparts.specs.declared.jcode.op_form.Flow.{Flow}
use Rattle.jparts.specs.declared.jcode.op_form.Flow.TheVariants as flows
use Rattle.jparts.specs.declared.jcode.op.Case.{Case}
use Rattle.jparts.specs.declared.jcode.op.Placed.{Placed}
use Rattle.jparts.specs.declared.jcode.op.Switch.{Switch as SwitchOp}
use Rattle.jparts.specs.declared.jcode.op.Switch.TheVariants as switches
use Rattle.jparts.specs.jcode.InstructionForms.{flow_branches}
use Rattle.jparts.specs.jcode.Instructions.{lands}
use Rattle.jresolution.specs.juses.IndexedInstructions.{Always, If, IfInt, IfRef, Instruction, Jump, Return, Switch, Test, Throw, cases, default, flow, jump, keyed, switch, target, targets}
use Rattle.jlinking.proofs.JlinkProofs.PresentValues.{each_has, each_is, map_has, map_is, then_has, then_is}

-- ---- a branch has a number

before_by : {X : Type 0} (p : X → Bool) (x : X) (xs : List X) (b : Bool) → p x ≡ b → (b || list_any p xs) ≡ true → (list_any p xs ≡ true → position_or_len p xs < length xs) → position_or_len p (x ∷ xs) < length (x ∷ xs)
before_by p x xs true is h more = rw is (omega arith)
before_by p x xs false is h more = let rest = more h in rw is (omega arith)

before_end : {X : Type 0} (p : X → Bool) (xs : List X) → list_any p xs ≡ true → position_or_len p xs < length xs
before_end p [] h = absurd cc
before_end p (x ∷ xs) h = before_by p x xs (p x) refl h (before_end p xs)

target_there : (ops : List Placed) (at : ℕ) (by : ℤ) → lands ops at by ≡ true → IsSome (target ops at by)
target_there ops at by h =
    let within = lt-ltb _ _ (before_end (λ one. int_eq (pos one.at) (pos at +ℤ by)) ops h) in
    rw within refl

jump_there : (ops : List Placed) (at : ℕ) (test : Test) (by : ℤ) → list_all (lands ops at) (by ∷ []) ≡ true → IsSome (jump ops at test by)
jump_there ops at test by h = map_has (Jump test) (target ops at by) (target_there ops at by (first_true (lands ops at by) true h))

keyed_there : (ops : List Placed) (at : ℕ) (key : ℤ) (branches : List ℤ) → list_all (lands ops at) branches ≡ true → IsSome (keyed ops at key branches)
unfolding keyed
keyed_there ops at key [] h = refl
keyed_there ops at key (by ∷ branches) h =
    then_has (λ to. option_map (λ rest. (key, to) ∷ rest) (keyed ops at (key +ℤ pos 1) branches)) (target ops at by)
    (target_there ops at by (first_true (lands ops at by) (list_all (lands ops at) branches) h))
    (λ to e. map_has (λ rest. (key, to) ∷ rest) (keyed ops at (key +ℤ pos 1) branches) (keyed_there ops at (key +ℤ pos 1) branches (second_true (lands ops at by) (list_all (lands ops at) branches) h)))

abbrev key_with : ℤ → ℕ → ℤ × ℕ
key_with key to = (key, to)

case_there : (ops : List Placed) (at : ℕ) (c : Case) → lands ops at c.branch ≡ true → IsSome {T = ℤ × ℕ} (option_map (λ to. (c.key, to)) (target ops at c.branch))
case_there ops at c h = map_has (key_with c.key) (target ops at c.branch) (target_there ops at c.branch h)

all_cases : (ops : List Placed) (at : ℕ) (cs : List Case) → list_all (lands ops at) (map (λ c. c.branch) cs) ≡ true → AllByRecursion (λ c. IsSome {T = ℤ × ℕ} (option_map (λ to. (c.key, to)) (target ops at c.branch))) cs
all_cases ops at [] h = tt
all_cases ops at (c ∷ cs) h =
    let one : IsSome {T = ℤ × ℕ} (option_map (λ to. (c.key, to)) (target ops at c.branch)) = case_there ops at c (first_true (lands ops at c.branch) (list_all (lands ops at) (map (λ c. c.branch) cs)) h) in
    (one, all_cases ops at cs (second_true (lands ops at c.branch) (list_all (lands ops at) (map (λ c. c.branch) cs)) h))

switch_by : (ops : List Placed) (at : ℕ) (found : Option (List (ℤ × ℕ))) (by : ℤ) → IsSome found → lands ops at by ≡ true → IsSome (option_and_then (λ f. option_map (Switch f) (target ops at by)) found)
switch_by ops at found by have h = then_has (λ f. option_map (Switch f) (target ops at by)) found have (λ f e. map_has (Switch f) (target ops at by) (target_there ops at by h))

switch_there : (ops : List Placed) (at : ℕ) (s : SwitchOp) → list_all (lands ops at) (flow_branches (flows.Switch s)) ≡ true → IsSome (switch ops at s)
switch_there ops at (switches.Table s) h =
    switch_by ops at (keyed ops at s.low s.branches) s.default (keyed_there ops at s.low s.branches (second_true (lands ops at s.default) (list_all (lands ops at) s.branches) h))
    (first_true (lands ops at s.default) (list_all (lands ops at) s.branches) h)
switch_there ops at (switches.Lookup s) h =
    switch_by ops at (each_some (λ c. option_map (λ to. (c.key, to)) (target ops at c.branch)) s.cases) s.default
    (each_has (λ c. option_map (λ to. (c.key, to)) (target ops at c.branch)) s.cases (all_cases ops at s.cases (second_true (lands ops at s.default) (list_all (lands ops at) (map (λ c. c.branch) s.cases)) h)))
    (first_true (lands ops at s.default) (list_all (lands ops at) (map (λ c. c.branch) s.cases)) h)

-- an instruction that says where its method goes on, where each of its branches leads to an instruction
pub flow_there : (ops : List Placed) (at : ℕ) (f : Flow SwitchOp) → list_all (lands ops at) (flow_branches f) ≡ true → IsSome (flow ops at f)
flow_there ops at (flows.If test by) h = jump_there ops at (If test) by h
flow_there ops at (flows.IfInt test by) h = jump_there ops at (IfInt test) by h
flow_there ops at (flows.IfRef test by) h = jump_there ops at (IfRef test) by h
flow_there ops at (flows.Goto by) h = jump_there ops at Always by h
flow_there ops at (flows.Switch s) h = switch_there ops at s h
flow_there ops at (flows.Return kind) h = refl
flow_there ops at flows.Throw h = refl

-- ---- the numbers are those of instructions

abbrev Within : List Placed → Instruction → Type 0
Within ops one = AllByRecursion (λ to. to < length ops) (targets one)

target_within : (ops : List Placed) (at : ℕ) (by : ℤ) (to : ℕ) → target ops at by ≡ Some to → to < length ops
target_within [] at by to e = absurd cc
target_within (d ∷ ops) at by to e = (position-Some (λ one. int_eq (pos one.at) (pos at +ℤ by)) (d ∷ ops) to d e).0

jump_within : (ops : List Placed) (at : ℕ) (test : Test) (by : ℤ) (one : Instruction) → jump ops at test by ≡ Some one → Within ops one
jump_within ops at test by one e =
    let m = map_is (Jump test) (target ops at by) one e in
    subst (Within ops) m.2 (target_within ops at by m.0 m.1, tt)

keyed_within : (ops : List Placed) (at : ℕ) (key : ℤ) (branches : List ℤ) (found : List (ℤ × ℕ)) → keyed ops at key branches ≡ Some found → AllByRecursion (λ c. c.1 < length ops) found
unfolding keyed
keyed_within ops at key [] found e =
    let same : [] ≡ found = cc in
    subst (AllByRecursion (λ (c : ℤ × ℕ). c.1 < length ops)) same tt
keyed_within ops at key (by ∷ branches) found e =
    let one = then_is (λ to. option_map (λ rest. (key, to) ∷ rest) (keyed ops at (key +ℤ pos 1) branches)) (target ops at by) found e in
    let rest = map_is (λ rest. (key, one.0) ∷ rest) (keyed ops at (key +ℤ pos 1) branches) found one.2 in
    subst (AllByRecursion (λ (c : ℤ × ℕ). c.1 < length ops)) rest.2 (target_within ops at by one.0 one.1, keyed_within ops at (key +ℤ pos 1) branches rest.0 rest.1)

case_within : (ops : List Placed) (at : ℕ) (c : Case) (k : ℤ × ℕ) → option_map (λ to. (c.key, to)) (target ops at c.branch) ≡ Some k → k.1 < length ops
case_within ops at c k e =
    let m = map_is (λ to. (c.key, to)) (target ops at c.branch) k e in
    subst (λ (x : ℤ × ℕ). x.1 < length ops) m.2 (target_within ops at c.branch m.0 m.1)

cases_within : (ops : List Placed) (at : ℕ) (s : SwitchOp) (found : List (ℤ × ℕ)) → cases ops at s ≡ Some found → AllByRecursion (λ c. c.1 < length ops) found
cases_within ops at (switches.Table s) found e = keyed_within ops at s.low s.branches found e
cases_within ops at (switches.Lookup s) found e = each_is (λ c. c.1 < length ops) (λ c. option_map (λ to. (c.key, to)) (target ops at c.branch)) (case_within ops at) s.cases found e

switch_within : (ops : List Placed) (at : ℕ) (s : SwitchOp) (one : Instruction) → switch ops at s ≡ Some one → Within ops one
switch_within ops at s one e =
    let found = then_is (λ f. option_map (Switch f) (target ops at (default s))) (cases ops at s) one e in
    let other = map_is (Switch found.0) (target ops at (default s)) one found.2 in
    subst (Within ops) other.2 (target_within ops at (default s) other.0 other.1, all_of_map (λ to. to < length ops) (λ c. c.1) found.0 (cases_within ops at s found.0 found.1))

pub flow_within : (ops : List Placed) (at : ℕ) (f : Flow SwitchOp) (one : Instruction) → flow ops at f ≡ Some one → Within ops one
flow_within ops at (flows.If test by) one e = jump_within ops at (If test) by one e
flow_within ops at (flows.IfInt test by) one e = jump_within ops at (IfInt test) by one e
flow_within ops at (flows.IfRef test by) one e = jump_within ops at (IfRef test) by one e
flow_within ops at (flows.Goto by) one e = jump_within ops at Always by one e
flow_within ops at (flows.Switch s) one e = switch_within ops at s one e
flow_within ops at (flows.Return kind) one e =
    let same : Return kind ≡ one = cc in
    subst (Within ops) same tt
flow_within ops at flows.Throw one e =
    let same : Throw ≡ one = cc in
    subst (Within ops) same tt
