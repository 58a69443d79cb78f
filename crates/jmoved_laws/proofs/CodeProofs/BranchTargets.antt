-- The branches of moved code, by numbers: each leads to where the expansion begins of the instruction to which it led.
use Rattle.std.proofs.Common.{◌≡◌, ℕ, ℤ, pos, ◌+ℤ◌, Bool, true, false, eqb, get_or, List, [], ◌∷◌, length, map, Option, Some, None, refl, ap, sym, ◌∙◌, inl, inr, arith}
use Rattle.std.specs.Prelude.{IsTrue, option_and_then, option_map, slice_get, ◌==◌}
use Rattle.std.specs.List.{position, position_or_len}
use Rattle.std.specs.Ordering.{int_eq}
use Rattle.std.proofs.lemmas.Bool.{cases_Bool, eq-eqb, eqb-true}
use Rattle.std.proofs.lemmas.Bool.Decides.{Decides-int_eq}
use Rattle.std.proofs.lemmas.Int.{ints}
use Rattle.std.proofs.lemmas.List.Quantifiers.{position-Some}
use Rattle.std.proofs.lemmas.Option.{slice_get-get_or}
use Rattle.jground.specs.jbase.ListMaps.{each_some, put_front}
use Rattle.jparts.specs.declared.jcode.op.Case.{Case}
use Rattle.jparts.specs.declared.jcode.op.Op.{Op}
use Rattle.jparts.specs.declared.jcode.op.Placed.{Placed}
use Rattle.jparts.specs.declared.jcode.op.Switch.{Switch as SwitchOp}
use Rattle.jparts.specs.declared.jcode.op.Switch.TheVariants as switches
use Rattle.jparts.specs.jcode.Instructions.{code}
use Rattle.jmove.specs.declared.method.Expand.{Expand}
use Rattle.jmove.specs.declared.method.Setting.{Setting}
use Rattle.jmove.specs.AssemblyLines.{switch_with}
use Rattle.jmove.specs.ProofNames.{case_with, distance}
use Rattle.jrewriting.specs.jmove_laws.InstructionNumbers.{index_of, moved, new_place}
use Rattle.jrewriting.proofs.JmoveLawsProofs.BranchTargets.{jumps, leads, within}
use Rattle.jrewriting.proofs.JmoveLawsProofs.HandlerRanges.{there}
use Rattle.jresolution.proofs.JprogramProofs.NameReachability.{clash}
use Rattle.jresolution.specs.juses.IndexedInstructions.{Instruction, Jump, Switch, Test, cases, default, jump, keyed, switch, target}
use Rattle.jlinking.proofs.JlinkProofs.PresentValues.{map_is, then_is}
use Rattle.jsimulation_laws.specs.relation.InstructionExpansion.{led_case}

-- ---- the instruction to which a branch leads

record Aimed (is : List Placed) (at : ℕ) (by : ℤ) (n : ℕ) : Type 0 where
  pub one : Placed
  pub stands : slice_get is n ≡ Some one
  pub place : pos at +ℤ by ≡ pos one.at

aimed : (is : List Placed) (at : ℕ) (by : ℤ) (n : ℕ) → target is at by ≡ Some n → Aimed is at by n
aimed [] at by n e = absurd cc
aimed (d ∷ is) at by n e =
    let p = position-Some (λ one. int_eq (pos one.at) (pos at +ℤ by)) (d ∷ is) n d e in
    let one = get_or (d ∷ is) n d in
    record { one = one; stands = slice_get-get_or (d ∷ is) n d p.0; place = sym ((Decides-int_eq (pos one.at) (pos at +ℤ by)).0 p.1) }

-- ---- places as numbers

no_int : (a b : ℕ) → ((a ≡ b) → ⊥) → int_eq (pos a) (pos b) ≡ false
no_int a b h = elim (cases_Bool (int_eq (pos a) (pos b))) [ inl hit ↦ absurd (let e : pos a ≡ pos b = (Decides-int_eq (pos a) (pos b)).0 hit in h (omega (arith, ints))) | inr miss ↦ miss ]

same_place : (a b : ℕ) → int_eq (pos a) (pos b) ≡ (a == b)
same_place a b = elim (cases_Bool (eqb a b)) [
  | inl same ↦ (Decides-int_eq (pos a) (pos b)).1 (ap pos (eqb-true a b same)) ∙ sym same
  | inr other ↦ no_int a b (λ e. clash (eqb a b) (eq-eqb a b e) other) ∙ sym other
]

first_same : (f g : Placed → Bool) → ((x : Placed) → f x ≡ g x) → (xs : List Placed) → position_or_len f xs ≡ position_or_len g xs
first_same f g h [] = refl
first_same f g h (x ∷ xs) = rw (h x, first_same f g h xs) refl

positions_same : (f g : Placed → Bool) → ((x : Placed) → f x ≡ g x) → (xs : List Placed) → position f xs ≡ position g xs
positions_same f g h xs = rw (first_same f g h xs) refl

-- ---- what leads where

module _ (begin : List Op) (s : Setting) (ks : List Expand) (is : List Placed) (fits : IsTrue (code.fits is)) (each : length ks ≡ length is) where
  abbrev new : List Placed
  new = moved begin s ks is

  abbrev to : ℕ → ℕ
  to = new_place begin s ks is

  abbrev number : ℕ → ℕ
  number = index_of begin s ks is

  pub target_moved : (from at : ℕ) (by : ℤ) (n : ℕ) → target is from by ≡ Some n → target new at (distance to from at by) ≡ Some (number n)
  target_moved from at by n e =
      let a = aimed is from by n e in
      let k = there ks n (omega (arith, each, within is n a.one a.stands)) in
      ap (λ (z : ℤ). position (λ one. int_eq (pos one.at) z) new) (leads to from at a.one.at by a.place)
      ∙ positions_same (λ one. int_eq (pos one.at) (pos (to a.one.at))) (λ one. one.at == to a.one.at) (λ one. same_place one.at (to a.one.at)) new
      ∙ jumps begin s ks is fits n k.0 a.one (record { kind = k.1; old = a.stands })

  abbrev led : Instruction → Instruction
  led (Jump test n) = Jump test (number n)
  led (Switch found other) = Switch (map (led_case number) found) (number other)
  led i = i

  pub jump_moved : (from at : ℕ) (test : Test) (by : ℤ) (it : Instruction) → jump is from test by ≡ Some it → jump new at test (distance to from at by) ≡ Some (led it)
  jump_moved from at test by it e =
      let m = map_is (Jump test) (target is from by) it e in
      ap (option_map (Jump test)) (target_moved from at by m.0 m.1) ∙ ap (λ (x : Instruction). Some (led x)) m.2

  keyed_moved : (from at : ℕ) (key : ℤ) (branches : List ℤ) (found : List (ℤ × ℕ)) → keyed is from key branches ≡ Some found
      → keyed new at key (map (distance to from at) branches) ≡ Some (map (led_case number) found)
  unfolding keyed
  keyed_moved from at key [] found e =
      let same : [] ≡ found = cc in
      ap (λ (l : List (ℤ × ℕ)). Some (map (led_case number) l)) same
  keyed_moved from at key (by ∷ branches) found e =
      let one = then_is (λ n. option_map (λ rest. (key, n) ∷ rest) (keyed is from (key +ℤ pos 1) branches)) (target is from by) found e in
      let rest = map_is (λ rest. (key, one.0) ∷ rest) (keyed is from (key +ℤ pos 1) branches) found one.2 in
      ap (option_and_then (λ n. option_map (λ rest. (key, n) ∷ rest) (keyed new at (key +ℤ pos 1) (map (distance to from at) branches)))) (target_moved from at by one.0 one.1)
      ∙ ap (option_map (λ rest. (key, number one.0) ∷ rest)) (keyed_moved from at (key +ℤ pos 1) branches rest.0 rest.1)
      ∙ ap (λ (l : List (ℤ × ℕ)). Some (map (led_case number) l)) rest.2

  abbrev case_to : List Placed → ℕ → Case → Option (ℤ × ℕ)
  case_to ops at c = option_map (λ n. (c.key, n)) (target ops at c.branch)

  case_moved : (from at : ℕ) (c : Case) (x : ℤ × ℕ) → case_to is from c ≡ Some x → case_to new at (case_with (distance to from at) c) ≡ Some (led_case number x)
  case_moved from at c x e =
      let m = map_is (λ n. (c.key, n)) (target is from c.branch) x e in
      ap (option_map (λ n. (c.key, n))) (target_moved from at c.branch m.0 m.1) ∙ ap (λ (y : ℤ × ℕ). Some (led_case number y)) m.2

  record Front (o : Option (ℤ × ℕ)) (os : Option (List (ℤ × ℕ))) (found : List (ℤ × ℕ)) : Type 0 where
    one : ℤ × ℕ
    rest : List (ℤ × ℕ)
    first : o ≡ Some one
    others : os ≡ Some rest
    is_found : one ∷ rest ≡ found

  front : (o : Option (ℤ × ℕ)) (os : Option (List (ℤ × ℕ))) (found : List (ℤ × ℕ)) → put_front o os ≡ Some found → Front o os found
  front None os found e = absurd cc
  front (Some x) None found e = absurd cc
  front (Some x) (Some xs) found e = record { one = x; rest = xs; first = refl; others = refl; is_found = cc }

  cases_moved : (from at : ℕ) (cs : List Case) (found : List (ℤ × ℕ)) → each_some (case_to is from) cs ≡ Some found → each_some (case_to new at) (map (case_with (distance to from at)) cs) ≡ Some (map (led_case number) found)
  unfolding each_some
  cases_moved from at [] found e =
      let same : [] ≡ found = cc in
      ap (λ (l : List (ℤ × ℕ)). Some (map (led_case number) l)) same
  cases_moved from at (c ∷ cs) found e =
      let f = front (case_to is from c) (each_some (case_to is from) cs) found e in
      ap (λ (o : Option (ℤ × ℕ)). put_front o (each_some (case_to new at) (map (case_with (distance to from at)) cs))) (case_moved from at c f.one f.first)
      ∙ ap (put_front (Some (led_case number f.one))) (cases_moved from at cs f.rest f.others)
      ∙ ap (λ (l : List (ℤ × ℕ)). Some (map (led_case number) l)) f.is_found

  abbrev with_default : Option (List (ℤ × ℕ)) → Option ℕ → Option Instruction
  with_default found other = option_and_then (λ l. option_map (Switch l) other) found

  all_cases : (from at : ℕ) (w : SwitchOp) (found : List (ℤ × ℕ)) → cases is from w ≡ Some found → cases new at (switch_with (distance to from at) w) ≡ Some (map (led_case number) found)
  all_cases from at (switches.Table t) found e = keyed_moved from at t.low t.branches found e
  all_cases from at (switches.Lookup t) found e = cases_moved from at t.cases found e

  default_moved : (from at : ℕ) (w : SwitchOp) → default (switch_with (distance to from at) w) ≡ distance to from at (default w)
  default_moved from at (switches.Table t) = refl
  default_moved from at (switches.Lookup t) = refl

  pub switch_moved : (from at : ℕ) (w : SwitchOp) (it : Instruction) → switch is from w ≡ Some it → switch new at (switch_with (distance to from at) w) ≡ Some (led it)
  switch_moved from at w it e =
      let found = then_is (λ l. option_map (Switch l) (target is from (default w))) (cases is from w) it e in
      let other = map_is (Switch found.0) (target is from (default w)) it found.2 in
      ap (λ (o : Option (List (ℤ × ℕ))). with_default o (target new at (default (switch_with (distance to from at) w)))) (all_cases from at w found.0 found.1)
      ∙ ap (λ (by : ℤ). with_default (Some (map (led_case number) found.0)) (target new at by)) (default_moved from at w)
      ∙ ap (with_default (Some (map (led_case number) found.0))) (target_moved from at (default w) other.0 other.1)
      ∙ ap (λ (x : Instruction). Some (led x)) other.2
