-- What a descriptor's text is, and that it is read again.
use Rattle.std.proofs.Common.{◌≡◌, ℕ, zero, suc, ◌+◌, ◌≤◌, ◌<◌, ◌^◌, Bool, true, false, ◌&&◌, not, cond, ltb, leb, eqb, List, [], ◌∷◌, ◌++◌, length, get_or, take, drop, replicate, Option, Some, None, Result, Ok, Err, refl, sym, ap, subst, ◌∙◌, append_assoc, add-one, arith, inl, inr}
use Rattle.std.specs.Prelude.{IsTrue, IfOk, option_map, option_and_then, ◌==◌}
use Rattle.std.specs.List.{list_all, flat_map, prefix_len, position, position_or_len}
use Rattle.std.proofs.lemmas.Bool.{cases_Bool, eqb-true, lt-ltb}
use Rattle.std.proofs.lemmas.List.{take_at, drop_at, take-append-drop, length-append, length-replicate, append-nil, nil_from_length}
use Rattle.std.proofs.lemmas.List.Concat.{flat_map-cons}
use Rattle.std.proofs.lemmas.List.Quantifiers.{position-Some}
use Rattle.std.proofs.Math.Seq.{drop-cons}
use Rattle.jparts.specs.declared.jpool.descriptor.FieldType.{FieldType}
use Rattle.jparts.specs.declared.jpool.descriptor.Descriptor.{Descriptor}
use Rattle.jparts.specs.declared.jpool.descriptor.Descriptor.TheVariants as descriptors
use Rattle.jparts.specs.declared.jpool.descriptor.DescError.{DescError}
use Rattle.jparts.specs.jpool.ClassNames.{is_slash, is_name_byte, is_class_name}
use Rattle.jparts.specs.jpool.Descriptors.{Reads, is_bracket, is_semicolon, is_class_sign, is_opening, is_base, closing_at, closed_or, method, field, class_text, type_text, is_type, named, class_at, base_at, typed, type_at, params_at, return_at, ended, field_of, method_of, descriptor_of, slots_of, few_slots, returned, return_text, is_return, method_text, is_method, descriptor_text, is_well_formed}
use Rattle.jparts.proofs.JpoolProofs.NameScans.{goes_on, slash_goes_on, byte_goes_on, bad_goes_on, name_begins}
use Rattle.std.specs.Str.{byte}

-- ---- names for what definitions say in place

-- 'V'
abbrev is_void : ℕ → Bool
is_void b = b == byte "V"

abbrev is_closing : ℕ → Bool
is_closing b = b == byte ")"

-- ---- steps

abbrev IsThen : {A B : Type 0} → (A → Option B) → Option A → B → Type 0
IsThen {A} f o y = (x : A) × (o ≡ Some x) × (f x ≡ Some y)

then_some : {A B : Type 0} (f : A → Option B) (o : Option A) (y : B) → option_and_then f o ≡ Some y → IsThen f o y
then_some f (Some x) y e = (x, refl, e)
then_some f None y e = absurd cc

map_some : {A B : Type 0} (f : A → B) (o : Option A) (y : B) → option_map f o ≡ Some y → (x : A) × (o ≡ Some x) × (f x ≡ y)
map_some f (Some x) y e = (x, refl, cc)
map_some f None y e = absurd cc

when : {A : Type 0} (b : Bool) (x y : A) → cond b (Some x) None ≡ Some y → (b ≡ true) × (x ≡ y)
when true x y e = (refl, cc)
when false x y e = absurd cc

some_is : {A : Type 0} (x y : A) → Some x ≡ Some y → x ≡ y
some_is x y e = cc

both : (a b : Bool) → a ≡ true → b ≡ true → (a && b) ≡ true
both a b p q = rw (p, q) refl

first_true : (a b : Bool) → (a && b) ≡ true → a ≡ true
first_true true b h = refl
first_true false b h = h

second_true : (a b : Bool) → (a && b) ≡ true → b ≡ true
second_true true b h = h
second_true false b h = absurd cc

-- ---- class names

no_semicolon : (b : ℕ) → is_name_byte b ≡ true → not (is_semicolon b) ≡ true
no_semicolon b h = elim (cases_Bool (is_semicolon b)) [ inl hit ↦ let at : b ≡ 59 = eqb-true _ _ hit in let no : is_name_byte b ≡ false = rw at refl in let clash : false ≡ true = sym no ∙ h in absurd cc | inr miss ↦ rw miss refl ]

-- a class name has no semicolon
lacks : (begun : Bool) (name : List ℕ) → goes_on begun name ≡ true → list_all (λ b. not (is_semicolon b)) name ≡ true
lacks begun [] h = refl
lacks begun (b ∷ bs) h =
    elim (cases_Bool (is_slash b)) [
      | inl slash ↦
          let at : b ≡ 47 = eqb-true _ _ slash in
          let more : goes_on false bs ≡ true = second_true begun (goes_on false bs) (sym (slash_goes_on begun b bs slash) ∙ h) in
          both _ _ (rw at refl) (lacks false bs more)
      | inr other ↦
          elim (cases_Bool (is_name_byte b)) [
            | inl good ↦
                let more : goes_on true bs ≡ true = sym (byte_goes_on begun b bs other good) ∙ h in
                both _ _ (no_semicolon b good) (lacks true bs more)
            | inr bad ↦ let no : false ≡ true = sym (bad_goes_on begun b bs other bad) ∙ h in absurd cc
          ]
    ]

name_lacks : (name : List ℕ) → is_class_name name ≡ true → list_all (λ b. not (is_semicolon b)) name ≡ true
name_lacks name h = lacks false name (name_begins name ∙ h)

len_before : (name rest : List ℕ) → list_all (λ b. not (is_semicolon b)) name ≡ true → position_or_len is_semicolon (name ++ 59 ∷ rest) ≡ length name
len_before [] rest h = refl
len_before (b ∷ bs) rest h =
    let one : not (is_semicolon b) ≡ true = first_true _ _ h in
    let others : position_or_len is_semicolon (bs ++ 59 ∷ rest) ≡ length bs = len_before bs rest (second_true (not (is_semicolon b)) _ h) in
    rw one (omega (arith, others))

found_semicolon : (name rest : List ℕ) → list_all (λ b. not (is_semicolon b)) name ≡ true → position is_semicolon (name ++ 59 ∷ rest) ≡ Some (length name)
found_semicolon name rest h =
    let len = len_before name rest h in
    let within : ltb (length name) (length (name ++ 59 ∷ rest)) ≡ true = lt-ltb _ _ (omega (arith, length-append name (59 ∷ rest))) in
    rw (len, within) refl

class_again : (name rest : List ℕ) → is_class_name name ≡ true → class_at (name ++ 59 ∷ rest) ≡ Some ((76, name), rest)
unfolding class_at
class_again name rest h =
    let found = found_semicolon name rest (name_lacks name h) in
    let front : take (length name) (name ++ 59 ∷ rest) ≡ name = take_at name (59 ∷ rest) (length name) refl in
    let behind : drop (length name + 1) (name ++ 59 ∷ rest) ≡ rest = ap (drop (length name + 1)) (sym (append_assoc name (59 ∷ []) rest)) ∙ drop_at (name ++ 59 ∷ []) rest (length name + 1) (length-append name (59 ∷ [])) in
    rw (found, front, behind, h) refl

-- what a class name with its semicolon is
record IsClass (text : List ℕ) (x : (ℕ × List ℕ) × List ℕ) : Type 0 where
  sign : x.0.0 ≡ 76
  good : is_class_name x.0.1 ≡ true
  parts : text ≡ x.0.1 ++ 59 ∷ x.1

class_take : (text : List ℕ) (x : (ℕ × List ℕ) × List ℕ) → class_at text ≡ Some x → IsClass text x
unfolding class_at
class_take text x e =
    let a = then_some (λ i. named (take i text) (drop (i + 1) text)) (position is_semicolon text) x e in
    let i = a.0 in
    let p = position-Some is_semicolon text i 0 a.1 in
    let at : get_or text i 0 ≡ 59 = eqb-true _ _ p.1 in
    let g = when (is_class_name (take i text)) ((76, take i text), drop (i + 1) text) x a.2 in
    let lt : i < length text = p.0 in
    let behind : drop i text ≡ 59 ∷ drop (i + 1) text = rw (drop-cons text i 0, at, add-one) refl in
    let made : (ℕ × List ℕ) × List ℕ = ((76, take i text), drop (i + 1) text) in
    let all : IsClass text made = record {
      sign = refl;
      good = g.0;
      parts = sym (take-append-drop i text) ∙ ap (λ (r : List ℕ). take i text ++ r) behind;
    } in
    subst (λ (y : (ℕ × List ℕ) × List ℕ). IsClass text y) g.1 all

-- ---- bases

abbrev is_based : ℕ → List ℕ → Bool
is_based base class = cond (is_class_sign base) (is_class_name class) (is_base base && eqb (length class) 0)

record IsBased (text : List ℕ) (x : (ℕ × List ℕ) × List ℕ) : Type 0 where
  good : is_based x.0.0 x.0.1 ≡ true
  parts : text ≡ (x.0.0 ∷ class_text x.0.0 x.0.1) ++ x.1

base_take : (text : List ℕ) (x : (ℕ × List ℕ) × List ℕ) → base_at text ≡ Some x → IsBased text x
unfolding base_at
base_take [] x e = absurd cc
base_take (b ∷ rest) x e =
    elim (cases_Bool (is_class_sign b)) [
      | inl sign ↦
          let c = class_take rest x (rw sign at e) in
          let at : b ≡ 76 = eqb-true _ _ sign in
          let is : x.0.0 ≡ 76 = c.sign in
          record {
            good = rw is c.good;
            parts = rw (is, at) (ap (λ (r : List ℕ). 76 ∷ r) (c.parts ∙ sym (append_assoc x.0.1 (59 ∷ []) x.1)));
          }
      | inr other ↦
          let g = when (is_base b) ((b, []), rest) x (rw other at e) in
          let made : (ℕ × List ℕ) × List ℕ = ((b, []), rest) in
          let all : IsBased (b ∷ rest) made = record { good = rw other (both _ _ g.0 refl); parts = rw other refl } in
          subst (λ (y : (ℕ × List ℕ) × List ℕ). IsBased (b ∷ rest) y) g.1 all
    ]

base_again : (base : ℕ) (class rest : List ℕ) → is_based base class ≡ true → base_at ((base ∷ class_text base class) ++ rest) ≡ Some ((base, class), rest)
unfolding base_at
base_again base class rest h =
    elim (cases_Bool (is_class_sign base)) [
      | inl sign ↦
          let good : is_class_name class ≡ true = rw sign at h in
          let at : base ≡ 76 = eqb-true _ _ sign in
          rw (sign, append_assoc class (59 ∷ []) rest, class_again class rest good, at) refl
      | inr other ↦
          let good : (is_base base && eqb (length class) 0) ≡ true = rw other at h in
          let none : class ≡ [] = nil_from_length class (eqb-true _ _ (second_true (is_base base) (eqb (length class) 0) good)) in
          let sign : is_base base ≡ true = first_true (is_base base) (eqb (length class) 0) good in
          rw (other, sign, none) refl
    ]

-- a base's first byte is none of the signs that stand in front of a type, behind one or in place of one
record IsFirst (b : ℕ) : Type 0 where
  no_bracket : is_bracket b ≡ false
  no_closing : is_closing b ≡ false
  no_void : is_void b ≡ false
  no_opening : is_opening b ≡ false

sign_first : (b : ℕ) → is_class_sign b ≡ true → IsFirst b
sign_first b h =
    let at : 76 ≡ b = sym (eqb-true _ _ h) in
    let all : IsFirst 76 = record { no_bracket = refl; no_closing = refl; no_void = refl; no_opening = refl } in
    subst IsFirst at all

base_first : (b : ℕ) → is_base b ≡ true → IsFirst b
base_first b h = record {
  no_bracket = grind arith;
  no_closing = grind arith;
  no_void = grind arith;
  no_opening = grind arith;
}

based_first : (base : ℕ) (class : List ℕ) → is_based base class ≡ true → IsFirst base
based_first base class h =
    elim (cases_Bool (is_class_sign base)) [
      | inl sign ↦ sign_first base sign
      | inr other ↦ base_first base (first_true (is_base base) (eqb (length class) 0) (rw other at h))
    ]

-- ---- types

before_brackets : (text : List ℕ) → take (prefix_len is_bracket text) text ≡ replicate (prefix_len is_bracket text) 91
before_brackets [] = refl
before_brackets (b ∷ rest) =
    elim (cases_Bool (is_bracket b)) [
      | inl hit ↦
          let at : b ≡ 91 = eqb-true _ _ hit in
          let n : prefix_len is_bracket (b ∷ rest) ≡ suc (prefix_len is_bracket rest) = rw hit (omega arith) in
          let others = before_brackets rest in
          rw (n, at, others) refl
      | inr miss ↦ rw miss refl
    ]

count_brackets : (n : ℕ) (b : ℕ) (rest : List ℕ) → is_bracket b ≡ false → prefix_len is_bracket (replicate n 91 ++ b ∷ rest) ≡ n
count_brackets zero b rest h = rw h refl
count_brackets (suc n) b rest h = let others = count_brackets n b rest h in omega (arith, others)

pub record TakesType (text : List ℕ) (x : FieldType × List ℕ) : Type 0 where
  pub good : is_type x.0 ≡ true
  pub parts : text ≡ type_text x.0 ++ x.1

pub type_take : (text : List ℕ) (x : FieldType × List ℕ) → type_at text ≡ Some x → TakesType text x
unfolding type_at
type_take text x e =
    let n = prefix_len is_bracket text in
    let a = then_some (typed n) (base_at (drop n text)) x e in
    let based = base_take (drop n text) a.0 a.1 in
    let t : FieldType = record { depth = n; base = a.0.0.0; class = a.0.0.1 } in
    let g = when (ltb n (2 ^ 32)) (t, a.0.1) x a.2 in
    let made : FieldType × List ℕ = (t, a.0.1) in
    let all : TakesType text made = record {
      good = both _ _ g.0 based.good;
      parts = sym (take-append-drop n text) ∙ ap (λ (r : List ℕ). r ++ drop n text) (before_brackets text) ∙ ap (λ (r : List ℕ). replicate n 91 ++ r) based.parts
          ∙ sym (append_assoc (replicate n 91) (t.base ∷ class_text t.base t.class) a.0.1);
    } in
    subst (λ (y : FieldType × List ℕ). TakesType text y) g.1 all

pub type_again : (t : FieldType) (rest : List ℕ) → is_type t ≡ true → type_at (type_text t ++ rest) ≡ Some (t, rest)
unfolding type_at
type_again t rest h =
    let small : ltb t.depth (2 ^ 32) ≡ true = first_true _ _ h in
    let good : is_based t.base t.class ≡ true = second_true (ltb t.depth (2 ^ 32)) (is_based t.base t.class) h in
    let first = based_first t.base t.class good in
    let tail = (t.base ∷ class_text t.base t.class) ++ rest in
    let text : type_text t ++ rest ≡ replicate t.depth 91 ++ tail = append_assoc (replicate t.depth 91) (t.base ∷ class_text t.base t.class) rest in
    let n : prefix_len is_bracket (replicate t.depth 91 ++ tail) ≡ t.depth = count_brackets t.depth t.base (class_text t.base t.class ++ rest) first.no_bracket in
    let behind : drop t.depth (replicate t.depth 91 ++ tail) ≡ tail = drop_at (replicate t.depth 91) tail t.depth (length-replicate t.depth 91) in
    let base : base_at tail ≡ Some ((t.base, t.class), rest) = base_again t.base t.class rest good in
    rw (text, n, behind, base, small) refl

-- a type begins with a bracket or with its base
record Begins (t : FieldType) : Type 0 where
  first : ℕ
  more : List ℕ
  text : type_text t ≡ first ∷ more
  no_closing : is_closing first ≡ false
  no_void : is_void first ≡ false
  no_opening : is_opening first ≡ false

begins_at : (t : FieldType) (n : ℕ) → t.depth ≡ n → is_type t ≡ true → Begins t
begins_at t zero at h =
    let first = based_first t.base t.class (second_true (ltb t.depth (2 ^ 32)) (is_based t.base t.class) h) in
    record { first = t.base; more = class_text t.base t.class; text = rw at refl; no_closing = first.no_closing; no_void = first.no_void; no_opening = first.no_opening }
begins_at t (suc n) at h = record { first = 91; more = replicate n 91 ++ t.base ∷ class_text t.base t.class; text = rw at refl; no_closing = refl; no_void = refl; no_opening = refl }

begins : (t : FieldType) → is_type t ≡ true → Begins t
begins t h = begins_at t t.depth refl h

-- ---- parameters and what is returned

closing_some : (text rest : List ℕ) → closing_at text ≡ Some rest → text ≡ 41 ∷ rest
unfolding closing_at
closing_some [] rest e = absurd cc
closing_some (b ∷ bs) rest e =
    let g = when (is_closing b) bs rest e in
    let at : b ≡ 41 = eqb-true _ _ g.0 in
    rw (at, g.1) refl

closing_not : (b : ℕ) (rest : List ℕ) → is_closing b ≡ false → closing_at (b ∷ rest) ≡ None
unfolding closing_at
closing_not b rest h = rw h refl

record TakesTypes (text : List ℕ) (x : List FieldType × List ℕ) : Type 0 where
  good : list_all is_type x.0 ≡ true
  parts : text ≡ flat_map type_text x.0 ++ 41 ∷ x.1

abbrev Parsed : Type 0
Parsed = Option (List FieldType × List ℕ)

abbrev more_params : ℕ → FieldType × List ℕ → Parsed
more_params n x = option_map (λ y. (x.0 ∷ y.0, y.1)) (params_at n x.1)

params_cases : (n : ℕ) (text : List ℕ) (x : List FieldType × List ℕ) (closed : Option (List ℕ)) → closing_at text ≡ closed → closed_or closed (option_and_then (more_params n) (type_at text)) ≡ Some x
    → ((rest : List ℕ) (y : List FieldType × List ℕ) → params_at n rest ≡ Some y → TakesTypes rest y) → TakesTypes text x
params_cases n text x (Some rest) closed e ih =
    let made : List FieldType × List ℕ = ([], rest) in
    let all : TakesTypes text made = record { good = refl; parts = closing_some text rest closed } in
    subst (λ (y : List FieldType × List ℕ). TakesTypes text y) (some_is made x e) all
params_cases n text x None closed e ih =
    let a = then_some (more_params n) (type_at text) x e in
    let one = type_take text a.0 a.1 in
    let b = map_some (λ y. (a.0.0 ∷ y.0, y.1)) (params_at n a.0.1) x a.2 in
    let others = ih a.0.1 b.0 b.1 in
    let made : List FieldType × List ℕ = (a.0.0 ∷ b.0.0, b.0.1) in
    let all : TakesTypes text made = record {
      good = both _ _ one.good others.good;
      parts = rw flat_map-cons (one.parts ∙ ap (λ (r : List ℕ). type_text a.0.0 ++ r) others.parts ∙ sym (append_assoc (type_text a.0.0) (flat_map type_text b.0.0) (41 ∷ b.0.1)));
    } in
    subst (λ (y : List FieldType × List ℕ). TakesTypes text y) b.2 all

params_take : (n : ℕ) (text : List ℕ) (x : List FieldType × List ℕ) → params_at n text ≡ Some x → TakesTypes text x
unfolding params_at
params_take zero text x e = absurd cc
params_take (suc n) text x e = params_cases n text x (closing_at text) refl e (params_take n)

params_again : (ts : List FieldType) (n : ℕ) (rest : List ℕ) → length ts < n → list_all is_type ts ≡ true → params_at n (flat_map type_text ts ++ 41 ∷ rest) ≡ Some (ts, rest)
unfolding params_at closing_at
params_again ts zero rest lt h = absurd (omega arith)
params_again [] (suc n) rest lt h = refl
params_again (t ∷ ts) (suc n) rest lt h =
    let good : is_type t ≡ true = first_true _ _ h in
    let b = begins t good in
    let tail = flat_map type_text ts ++ 41 ∷ rest in
    let regrouped : flat_map type_text (t ∷ ts) ++ 41 ∷ rest ≡ type_text t ++ tail = ap (λ (r : List ℕ). r ++ 41 ∷ rest) (flat_map-cons type_text t ts) ∙ append_assoc (type_text t) (flat_map type_text ts) (41 ∷ rest) in
    let front : type_text t ++ tail ≡ b.first ∷ (b.more ++ tail) = ap (λ (r : List ℕ). r ++ tail) b.text in
    let still : closing_at (type_text t ++ tail) ≡ None = ap closing_at front ∙ closing_not b.first (b.more ++ tail) b.no_closing in
    let one : type_at (type_text t ++ tail) ≡ Some (t, tail) = type_again t tail good in
    let others : params_at n tail ≡ Some (ts, rest) = params_again ts n rest (omega arith) (second_true (is_type t) (list_all is_type ts) h) in
    ap (params_at (suc n)) regrouped ∙ rw (still, one, others) refl

-- each type has a byte
each_some : (ts : List FieldType) → list_all is_type ts ≡ true → length ts ≤ length (flat_map type_text ts)
each_some [] h = omega arith
each_some (t ∷ ts) h =
    let b = begins t (first_true (is_type t) (list_all is_type ts) h) in
    let others = each_some ts (second_true (is_type t) (list_all is_type ts) h) in
    let len : length (flat_map type_text (t ∷ ts)) ≡ length (type_text t) + length (flat_map type_text ts) = ap length (flat_map-cons type_text t ts) ∙ length-append (type_text t) (flat_map type_text ts) in
    omega (arith, len, others, ap length b.text)

record TakesReturn (text : List ℕ) (x : Option FieldType × List ℕ) : Type 0 where
  good : is_return x.0 ≡ true
  parts : text ≡ return_text x.0 ++ x.1

return_take : (text : List ℕ) (x : Option FieldType × List ℕ) → return_at text ≡ Some x → TakesReturn text x
unfolding return_at
return_take [] x e = absurd cc
return_take (b ∷ rest) x e =
    elim (cases_Bool (is_void b)) [
      | inl void ↦
          let at : b ≡ 86 = eqb-true _ _ void in
          let made : Option FieldType × List ℕ = (None, rest) in
          let all : TakesReturn (b ∷ rest) made = record { good = refl; parts = rw at refl } in
          subst (λ (y : Option FieldType × List ℕ). TakesReturn (b ∷ rest) y) (some_is made x (rw void at e)) all
      | inr other ↦
          let a = map_some (λ y. (Some y.0, y.1)) (type_at (b ∷ rest)) x (rw other at e) in
          let one = type_take (b ∷ rest) a.0 a.1 in
          let made : Option FieldType × List ℕ = (Some a.0.0, a.0.1) in
          let all : TakesReturn (b ∷ rest) made = record { good = one.good; parts = one.parts } in
          subst (λ (y : Option FieldType × List ℕ). TakesReturn (b ∷ rest) y) a.2 all
    ]

return_front : (text : List ℕ) (b : ℕ) (more : List ℕ) (x : FieldType × List ℕ) → text ≡ b ∷ more → is_void b ≡ false → type_at text ≡ Some x → return_at text ≡ Some (Some x.0, x.1)
unfolding return_at
return_front text b more x front h e =
    let one : type_at (b ∷ more) ≡ Some x = ap type_at (sym front) ∙ e in
    rw (front, h, one) refl

return_again : (ret : Option FieldType) (rest : List ℕ) → is_return ret ≡ true → return_at (return_text ret ++ rest) ≡ Some (ret, rest)
unfolding return_at
return_again None rest h = refl
return_again (Some t) rest h =
    let b = begins t h in
    return_front (type_text t ++ rest) b.first (b.more ++ rest) (t, rest) (ap (λ (r : List ℕ). r ++ rest) b.text) b.no_void (type_again t rest h)

-- ---- whole texts

ended_is : {A : Type 0} (x : A × List ℕ) (y : A) → ended x ≡ Some y → (x.1 ≡ []) × (x.0 ≡ y)
ended_is x y e = let g = when (eqb (length x.1) 0) x.0 y e in (nil_from_length x.1 (eqb-true _ _ g.0), g.1)

pub field_take : (text : List ℕ) (t : FieldType) → field_of text ≡ Some t → (is_type t ≡ true) × (text ≡ type_text t)
unfolding field_of
field_take text t e =
    let a = then_some ended (type_at text) t e in
    let s = type_take text a.0 a.1 in
    let g = ended_is a.0 t a.2 in
    let whole : text ≡ type_text a.0.0 = s.parts ∙ ap (λ (r : List ℕ). type_text a.0.0 ++ r) g.0 ∙ append-nil (type_text a.0.0) in
    subst (λ (y : FieldType). (is_type y ≡ true) × (text ≡ type_text y)) g.1 (s.good, whole)

pub field_again : (t : FieldType) → is_type t ≡ true → field_of (type_text t) ≡ Some t
unfolding field_of
field_again t h =
    let one : type_at (type_text t) ≡ Some (t, []) = ap type_at (sym (append-nil (type_text t))) ∙ type_again t [] h in
    rw one refl

record TakesMethod (text : List ℕ) (m : List FieldType × Option FieldType) : Type 0 where
  good : is_method m.0 m.1 ≡ true
  parts : text ≡ method_text m.0 m.1

method_take : (text : List ℕ) (m : List FieldType × Option FieldType) → method_of text ≡ Some m → TakesMethod text m
unfolding method_of
method_take [] m e = absurd cc
method_take (b ∷ rest) m e =
    elim (cases_Bool (is_opening b)) [
      | inl opening ↦
          let at : b ≡ 40 = eqb-true _ _ opening in
          let a = then_some returned (params_at (length rest) rest) m (rw opening at e) in
          let p = params_take (length rest) rest a.0 a.1 in
          let c = then_some few_slots (option_map (λ ret. (a.0.0, ret)) (option_and_then ended (return_at a.0.1))) m a.2 in
          let d = map_some (λ ret. (a.0.0, ret)) (option_and_then ended (return_at a.0.1)) c.0 c.1 in
          let f = then_some ended (return_at a.0.1) d.0 d.1 in
          let r = return_take a.0.1 f.0 f.1 in
          let g = ended_is f.0 d.0 f.2 in
          let few = when (leb (slots_of c.0.0) 255) c.0 m c.2 in
          let params : a.0.0 ≡ c.0.0 = ap (λ (y : List FieldType × Option FieldType). y.0) d.2 in
          let ret : d.0 ≡ c.0.1 = ap (λ (y : List FieldType × Option FieldType). y.1) d.2 in
          let slots : leb (slots_of a.0.0) 255 ≡ true = rw params few.0 in
          let made : List FieldType × Option FieldType = (a.0.0, f.0.0) in
          let same : made ≡ m = ap (λ (y : Option FieldType). (a.0.0, y)) g.1 ∙ d.2 ∙ few.1 in
          let end : a.0.1 ≡ return_text f.0.0 = r.parts ∙ ap (λ (y : List ℕ). return_text f.0.0 ++ y) g.0 ∙ append-nil (return_text f.0.0) in
          let all : TakesMethod (b ∷ rest) made = record {
            good = both _ _ (both _ _ p.good r.good) slots;
            parts = rw at (ap (λ (y : List ℕ). 40 ∷ y) (p.parts ∙ ap (λ (y : List ℕ). flat_map type_text a.0.0 ++ 41 ∷ y) end));
          } in
          subst (λ (y : List FieldType × Option FieldType). TakesMethod (b ∷ rest) y) same all
      | inr other ↦ let no : None ≡ Some m = rw other at e in absurd cc
    ]

method_again : (params : List FieldType) (ret : Option FieldType) → is_method params ret ≡ true → method_of (method_text params ret) ≡ Some (params, ret)
unfolding method_of
method_again params ret h =
    let front = first_true (list_all is_type params && is_return ret) (leb (slots_of params) 255) h in
    let few : leb (slots_of params) 255 ≡ true = second_true (list_all is_type params && is_return ret) (leb (slots_of params) 255) h in
    let good = first_true (list_all is_type params) (is_return ret) front in
    let good_ret = second_true (list_all is_type params) (is_return ret) front in
    let tail = flat_map type_text params ++ 41 ∷ return_text ret in
    let long : length params < length tail = omega (arith, length-append (flat_map type_text params) (41 ∷ return_text ret), each_some params good) in
    let one : params_at (length tail) tail ≡ Some (params, return_text ret) = params_again params (length tail) (return_text ret) long good in
    let two : return_at (return_text ret) ≡ Some (ret, []) = ap return_at (sym (append-nil (return_text ret))) ∙ return_again ret [] good_ret in
    rw (one, two, few) refl

pub descriptor_take : (text : List ℕ) (d : Descriptor) → descriptor_of text ≡ Some d → IsTrue (is_well_formed d) × (text ≡ descriptor_text d)
unfolding descriptor_of is_well_formed descriptor_text
descriptor_take [] d e = absurd cc
descriptor_take (b ∷ rest) d e =
    elim (cases_Bool (is_opening b)) [
      | inl opening ↦
          let a = map_some method (method_of (b ∷ rest)) d (rw opening at e) in
          let s = method_take (b ∷ rest) a.0 a.1 in
          subst (λ (y : Descriptor). IsTrue (is_well_formed y) × (b ∷ rest ≡ descriptor_text y)) a.2 (s.good, s.parts)
      | inr other ↦
          let a = map_some field (field_of (b ∷ rest)) d (rw other at e) in
          let s = field_take (b ∷ rest) a.0 a.1 in
          subst (λ (y : Descriptor). IsTrue (is_well_formed y) × (b ∷ rest ≡ descriptor_text y)) a.2 s
    ]

field_front : (text : List ℕ) (b : ℕ) (more : List ℕ) (t : FieldType) → text ≡ b ∷ more → is_opening b ≡ false → field_of text ≡ Some t → descriptor_of text ≡ Some (field t)
unfolding descriptor_of
field_front text b more t front h e =
    let one : field_of (b ∷ more) ≡ Some t = ap field_of (sym front) ∙ e in
    rw (front, h, one) refl

pub descriptor_again : (d : Descriptor) → IsTrue (is_well_formed d) → descriptor_of (descriptor_text d) ≡ Some d
unfolding descriptor_of is_well_formed descriptor_text
descriptor_again (descriptors.Field t) h = let b = begins t h in field_front (type_text t) b.first b.more t b.text b.no_opening (field_again t h)
descriptor_again (descriptors.Method params ret) h = let one = method_again params ret h in rw one refl

pub read_found : (text : List ℕ) (result : Result Descriptor DescError) → Reads (λ d. d) result (descriptor_of text) → IfOk result (λ d. IsTrue (is_well_formed d) × (text ≡ descriptor_text d))
read_found text (Ok d) h = descriptor_take text d h
read_found text (Err e) h = tt

pub read_only : (text : List ℕ) (result : Result Descriptor DescError) → Reads (λ d. d) result (descriptor_of text) → (d : Descriptor) → IsTrue (is_well_formed d) → text ≡ descriptor_text d → Reads (λ x. x) result (Some d)
read_only text result h d good is =
    let one : descriptor_of text ≡ Some d = ap descriptor_of is ∙ descriptor_again d good in
    subst (λ (o : Option Descriptor). Reads (λ x. x) result o) one h
