-- What is asked of a frame, by the parts in which it is kept.
use Rattle.std.proofs.Common.{◌≡◌, ℕ, suc, ◌+◌, ◌-◌, ◌<◌, ◌≤◌, pos, Bool, true, false, ◌&&◌, ◌||◌, ltb, cond, ◌==◌, inl, inr, List, [], ◌∷◌, length, map, reverse, drop, get_or, Option, Some, None, refl, sym, ap, ◌∙◌, arith}
use Rattle.std.specs.Prelude.{is_some, nat_le}
use Rattle.std.specs.List.{list_all, list_any, position_or_len}
use Rattle.std.specs.Ordering.{int_eq}
use Rattle.std.proofs.Math.Seq.{drop-cons}
use Rattle.std.proofs.Math.ListN.{drop_of_length-le}
use Rattle.std.proofs.lemmas.Bool.{cases_Bool, eq-eqb, eqb-true}
use Rattle.std.proofs.lemmas.Bool.Decides.{Decides-int_eq, nat_tests}
use Rattle.std.proofs.lemmas.Int.{ints}
use Rattle.std.proofs.lemmas.List.Recursion.{is_position_or_len}
use Rattle.jparts.specs.declared.jcode.op.Placed.{Placed}
use Rattle.jparts.specs.jcode.Instructions.{place_of}
use Rattle.jclass.specs.declared.class.CodeBody.{CodeBody}
use Rattle.jclass.specs.CodeFormat.{begins}
use Rattle.jtypes.specs.TypeFrames.{places_of, within}
use Rattle.jresolution.specs.declared.jprogram.part.ClassRef.{ClassRef}
use Rattle.jresolution.specs.jprogram.ProgramClasses.{Program}
use Rattle.jresolution.specs.declared.juses.types.TypeRef.{TypeRef}
use Rattle.jresolution.specs.juses.InternedTypes.{named}
use Rattle.jtyping.specs.jrule.OperandSlots.{size, slot_count}
use Rattle.jtyping.specs.jwelltyped.DeclaredFrames.{filled, is_there}
use Rattle.jverify.specs.declared.chains.Node.{Node}
use Rattle.jverify.specs.declared.declared.Kept.{Kept}
use Rattle.jverify.specs.LocalChains.{chain, is_made, values}
use Rattle.jverify.specs.FrameTables.{given, is_good_in, written_named}
use Rattle.jverify.proofs.NumberedTypes.{count_reversed, makes_named, room_filled, stack_reversed, there_filled, there_reversed}

-- ---- an instruction at its place

some_where : (b : Bool) (n : ℕ) → is_some (cond b (Some n) None) ≡ b
some_where true n = refl
some_where false n = refl

-- the place of the first that passes
abbrev first_place : {A : Type 0} → (A → Bool) → List A → ℕ
first_place test [] = 0
first_place test (x ∷ xs) = cond (test x) 0 (1 + first_place test xs)

passes_or : (b : Bool) (k n : ℕ) (rest : Bool) → ltb k n ≡ rest → ltb (cond b 0 (1 + k)) (suc n) ≡ (b || rest)
passes_or true k n rest e = grind (arith, nat_tests)
passes_or false k n rest e = next k n ∙ e
  where
    next : (k n : ℕ) → ltb (1 + k) (suc n) ≡ ltb k n
    next k n = grind (arith, nat_tests)

any_within : {A : Type 0} (test : A → Bool) (xs : List A) → ltb (first_place test xs) (length xs) ≡ list_any test xs
any_within test [] = refl
any_within test (x ∷ xs) = passes_or (test x) (first_place test xs) (length xs) (list_any test xs) (any_within test xs)

any_same : {A : Type 0} (f g : A → Bool) → ((x : A) → f x ≡ g x) → (xs : List A) → list_any f xs ≡ list_any g xs
any_same f g same [] = refl
any_same f g same (x ∷ xs) = ap (λ b. b || list_any f xs) (same x) ∙ ap (λ b. g x || b) (any_same f g same xs)

same_place : (a b : ℕ) → (a == b) ≡ int_eq (pos a) (pos b)
same_place a b = elim (cases_Bool (a == b)) [
  | inl same ↦ same ∙ sym ((Decides-int_eq (pos a) (pos b)).1 (ap pos (eqb-true a b same)))
  | inr other ↦ other ∙ sym (no_int (λ e. differ (a == b) other (eq-eqb a b e)))
]
  where
    differ : (t : Bool) → t ≡ false → t ≡ true → ⊥
    differ t e f = cc

    no_int : ((a ≡ b) → ⊥) → int_eq (pos a) (pos b) ≡ false
    no_int h = elim (cases_Bool (int_eq (pos a) (pos b))) [ inl hit ↦ absurd (let e : pos a ≡ pos b = (Decides-int_eq (pos a) (pos b)).0 hit in h (omega (arith, ints))) | inr miss ↦ miss ]

stands_there : (ops : List Placed) (at : ℕ) → is_some (place_of ops at) ≡ begins ops at
stands_there ops at =
    let test : Placed → Bool = λ one. one.at == at in
    let place : position_or_len test ops ≡ first_place test ops = sym (is_position_or_len (first_place test) test refl (λ x xs. refl) ops) in
    some_where (ltb (position_or_len test ops) (length ops)) (position_or_len test ops)
    ∙ ap (λ n. ltb n (length ops)) place ∙ any_within test ops ∙ any_same test (λ one. int_eq (pos one.at) (pos at)) (λ one. same_place one.at at) ops

-- ---- all that is asked

abbrev pub good_parts : (ℕ → Option ClassRef) → CodeBody → List Node → Kept → Bool
good_parts makes body nodes k =
    is_some (place_of body.ops k.at) && ((nat_le (slot_count (chain nodes k.last)) body.max_locals && nat_le (slot_count k.stack) body.max_stack)
    && (list_all (is_made makes) (chain nodes k.last) && list_all (is_made makes) k.stack))

pub parts_good : (p : Program) (makes : ℕ → Option ClassRef) (body : CodeBody) (nodes : List Node) (k : Kept) →
    good_parts makes body nodes k ≡ is_good_in body (makes_named p makes) (written_named p body.max_locals (given nodes k))
parts_good p makes body nodes k =
    let vs = map (named p) (values nodes k.last) in
    let there = is_there (makes_named p makes) in
    let locals : nat_le (length (filled body.max_locals (places_of vs))) body.max_locals ≡ nat_le (slot_count (chain nodes k.last)) body.max_locals =
    room_filled body.max_locals (places_of vs) ∙ ap (λ n. nat_le n body.max_locals) (count_reversed p (chain nodes k.last)) in
    let stack : within body.max_stack (map (named p) (reverse k.stack)) ≡ nat_le (slot_count k.stack) body.max_stack = ap (λ n. nat_le n body.max_stack) (stack_reversed p k.stack) in
    let made : list_all there (filled body.max_locals (places_of vs)) ≡ list_all (is_made makes) (chain nodes k.last) =
    there_filled (makes_named p makes) body.max_locals vs ∙ there_reversed p makes (chain nodes k.last) in
    let others : list_all there (map (named p) (reverse k.stack)) ≡ list_all (is_made makes) k.stack = there_reversed p makes k.stack in
    sym (ap (λ b. begins body.ops k.at && ((b && within body.max_stack (map (named p) (reverse k.stack))) && (list_all there (filled body.max_locals (places_of vs)) && list_all there (map (named p) (reverse k.stack))))) locals
    ∙ ap (λ b. begins body.ops k.at && ((nat_le (slot_count (chain nodes k.last)) body.max_locals && b) && (list_all there (filled body.max_locals (places_of vs)) && list_all there (map (named p) (reverse k.stack))))) stack
    ∙ ap (λ b. begins body.ops k.at && ((nat_le (slot_count (chain nodes k.last)) body.max_locals && nat_le (slot_count k.stack) body.max_stack) && (b && list_all there (map (named p) (reverse k.stack))))) made
    ∙ ap (λ b. begins body.ops k.at && ((nat_le (slot_count (chain nodes k.last)) body.max_locals && nat_le (slot_count k.stack) body.max_stack) && (list_all (is_made makes) (chain nodes k.last) && b))) others
    ∙ ap (λ b. b && ((nat_le (slot_count (chain nodes k.last)) body.max_locals && nat_le (slot_count k.stack) body.max_stack) && (list_all (is_made makes) (chain nodes k.last) && list_all (is_made makes) k.stack))) (sym (stands_there body.ops k.at)))

first_bad : (b l s t u : Bool) → b ≡ false → false ≡ (b && ((l && s) && (t && u)))
first_bad b l s t u e = ap (λ c. c && ((l && s) && (t && u))) (sym e)

second_bad : (b l s t u : Bool) → l ≡ false → false ≡ (b && ((l && s) && (t && u)))
second_bad true l s t u e = ap (λ c. (c && s) && (t && u)) (sym e)
second_bad false l s t u e = refl

third_bad : (b l s t u : Bool) → s ≡ false → false ≡ (b && ((l && s) && (t && u)))
third_bad true true s t u e = ap (λ c. c && (t && u)) (sym e)
third_bad true false s t u e = refl
third_bad false l s t u e = refl

fourth_bad : (b l s t u : Bool) → t ≡ false → false ≡ (b && ((l && s) && (t && u)))
fourth_bad true true true t u e = ap (λ c. c && u) (sym e)
fourth_bad true true false t u e = refl
fourth_bad true false s t u e = refl
fourth_bad false l s t u e = refl

last_counts : (b l s t u : Bool) → b ≡ true → l ≡ true → s ≡ true → t ≡ true → u ≡ (b && ((l && s) && (t && u)))
last_counts b l s t u eb el es et =
    sym (ap (λ c. c && ((l && s) && (t && u))) eb ∙ ap (λ c. (c && s) && (t && u)) el ∙ ap (λ c. c && (t && u)) es ∙ ap (λ c. c && u) et)

abbrev stands : CodeBody → Kept → Bool
stands body k = is_some (place_of body.ops k.at)

abbrev has_locals : CodeBody → List Node → Kept → Bool
has_locals body nodes k = nat_le (slot_count (chain nodes k.last)) body.max_locals

abbrev has_slots : CodeBody → Kept → Bool
has_slots body k = nat_le (slot_count k.stack) body.max_stack

abbrev locals_made : (ℕ → Option ClassRef) → List Node → Kept → Bool
locals_made makes nodes k = list_all (is_made makes) (chain nodes k.last)

abbrev stack_made : (ℕ → Option ClassRef) → Kept → Bool
stack_made makes k = list_all (is_made makes) k.stack

pub bad_place : (makes : ℕ → Option ClassRef) (body : CodeBody) (nodes : List Node) (k : Kept) → is_some (place_of body.ops k.at) ≡ false → false ≡ good_parts makes body nodes k
bad_place makes body nodes k e = first_bad (stands body k) (has_locals body nodes k) (has_slots body k) (locals_made makes nodes k) (stack_made makes k) e

pub bad_locals : (makes : ℕ → Option ClassRef) (body : CodeBody) (nodes : List Node) (k : Kept) → nat_le (slot_count (chain nodes k.last)) body.max_locals ≡ false → false ≡ good_parts makes body nodes k
bad_locals makes body nodes k e = second_bad (stands body k) (has_locals body nodes k) (has_slots body k) (locals_made makes nodes k) (stack_made makes k) e

pub bad_stack : (makes : ℕ → Option ClassRef) (body : CodeBody) (nodes : List Node) (k : Kept) → nat_le (slot_count k.stack) body.max_stack ≡ false → false ≡ good_parts makes body nodes k
bad_stack makes body nodes k e = third_bad (stands body k) (has_locals body nodes k) (has_slots body k) (locals_made makes nodes k) (stack_made makes k) e

pub bad_news : (makes : ℕ → Option ClassRef) (body : CodeBody) (nodes : List Node) (k : Kept) → list_all (is_made makes) (chain nodes k.last) ≡ false → false ≡ good_parts makes body nodes k
bad_news makes body nodes k e = fourth_bad (stands body k) (has_locals body nodes k) (has_slots body k) (locals_made makes nodes k) (stack_made makes k) e

pub good_news : (makes : ℕ → Option ClassRef) (body : CodeBody) (nodes : List Node) (k : Kept) → is_some (place_of body.ops k.at) ≡ true → nat_le (slot_count (chain nodes k.last)) body.max_locals ≡ true →
    nat_le (slot_count k.stack) body.max_stack ≡ true → list_all (is_made makes) (chain nodes k.last) ≡ true → list_all (is_made makes) k.stack ≡ good_parts makes body nodes k
good_news makes body nodes k eb el es et = last_counts (stands body k) (has_locals body nodes k) (has_slots body k) (locals_made makes nodes k) (stack_made makes k) eb el es et

pub too_many : (n most count : ℕ) → count ≡ n → most < count → nat_le n most ≡ false
too_many n most count e lt = grind (arith, nat_tests)

pub few_enough : (n most count : ℕ) → count ≡ n → count ≤ most → nat_le n most ≡ true
few_enough n most count e le = grind (arith, nat_tests)

-- ---- slots that are left

pub within_stops : (items : List TypeRef) (i : ℕ) (d : TypeRef) (left count : ℕ) → i < length items → count ≡ size (get_or items i d) → left < count → nat_le (slot_count (drop i items)) left ≡ false
unfolding slot_count
within_stops items i d left count lt e more =
    let all : slot_count (drop i items) ≡ size (get_or items i d) + slot_count (drop (suc i) items) = ap slot_count (drop-cons items i d lt) in
    grind (arith, nat_tests)

pub within_more : (items : List TypeRef) (i : ℕ) (d : TypeRef) (left count : ℕ) → i < length items → count ≡ size (get_or items i d) → count ≤ left →
    nat_le (slot_count (drop (i + 1) items)) (left - count) ≡ nat_le (slot_count (drop i items)) left
unfolding slot_count
within_more items i d left count lt e less =
    let next : slot_count (drop (i + 1) items) ≡ slot_count (drop (suc i) items) = ap (λ k. slot_count (drop k items)) (let s : i + 1 ≡ suc i = omega arith in s) in
    let all : slot_count (drop i items) ≡ size (get_or items i d) + slot_count (drop (suc i) items) = ap slot_count (drop-cons items i d lt) in
    same (slot_count (drop (i + 1) items)) (left - count) (slot_count (drop i items)) left (omega arith)
  where
    same : (a b c d : ℕ) → (a + d ≡ c + b) → nat_le a b ≡ nat_le c d
    same a b c d e = grind (arith, nat_tests)

pub within_ends : (items : List TypeRef) (i left : ℕ) → length items ≤ i → nat_le (slot_count (drop i items)) left ≡ true
unfolding slot_count
within_ends items i left le = ap (λ xs. nat_le (slot_count xs) left) (drop_of_length-le items le) ∙ zero_le left
  where
    zero_le : (n : ℕ) → nat_le 0 n ≡ true
    zero_le n = grind (arith, nat_tests)
