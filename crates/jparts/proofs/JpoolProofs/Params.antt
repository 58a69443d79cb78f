-- Going along the types of a method's parameters.
use Rattle.std.proofs.Common.{◌≡◌, ℕ, suc, ◌+◌, ◌-◌, ◌≤◌, ◌<◌, List, [], ◌∷◌, ◌++◌, length, get_or, drop, Option, Some, None, refl, sym, ap, ◌∙◌, append_assoc, add-one, arith}
use Rattle.std.specs.Prelude.{option_map}
use Rattle.std.proofs.lemmas.List.{append-nil}
use Rattle.std.proofs.Math.Seq.{drop-cons}
use Rattle.std.proofs.Math.ListN.{drop_of_length-le}
use Rattle.jparts.specs.declared.jpool.descriptor.FieldType.{FieldType}
use Rattle.jparts.specs.jpool.Descriptors.{type_at, closing_at, params_at, slots, slots_at, slots_of}

-- the types that are there, and those that are left
abbrev pub behind : List FieldType → Option (List FieldType × List ℕ) → Option (List FieldType × List ℕ)
behind done left = option_map (λ y. (done ++ y.0, y.1)) left

behind_none : (left : Option (List FieldType × List ℕ)) → behind [] left ≡ left
behind_none None = refl
behind_none (Some y) = refl

regroup : (done : List FieldType) (t : FieldType) (left : Option (List FieldType × List ℕ)) → behind done (option_map (λ y. (t ∷ y.0, y.1)) left) ≡ behind (done ++ t ∷ []) left
regroup done t None = refl
regroup done t (Some y) = ap (λ (ts : List FieldType). Some (ts, y.1)) (simp append_assoc)

pub params_begin : (m n : ℕ) (text : List ℕ) → m ≡ n → behind [] (params_at m text) ≡ params_at n text
params_begin m n text h = behind_none (params_at m text) ∙ ap (λ (k : ℕ). params_at k text) h

-- one more turn is left
left_over : (count i : ℕ) → i < count → count - i ≡ suc (count - (i + 1))
left_over count i lt = omega arith

pub params_close : (done : List FieldType) (count i : ℕ) (text rest : List ℕ) (total : Option (List FieldType × List ℕ)) → i < count → Some rest ≡ closing_at text → behind done (params_at (count - i) text) ≡ total → total ≡ Some (done, rest)
unfolding params_at
params_close done count i text rest total lt h so_far =
    let closed : closing_at text ≡ Some rest = sym h in
    let one : behind done (params_at (count - i) text) ≡ Some (done, rest) = rw (left_over count i lt, closed) (ap (λ (ts : List FieldType). Some (ts, rest)) (append-nil done)) in
    sym so_far ∙ one

pub params_bad : (done : List FieldType) (count i : ℕ) (text : List ℕ) (total : Option (List FieldType × List ℕ)) → i < count → None ≡ closing_at text → None ≡ type_at text → behind done (params_at (count - i) text) ≡ total → None ≡ total
unfolding params_at
params_bad done count i text total lt still h so_far =
    let none : type_at text ≡ None = sym h in
    let other : closing_at text ≡ None = sym still in
    let one : behind done (params_at (count - i) text) ≡ None = rw (left_over count i lt, other, none) refl in
    sym one ∙ so_far

pub params_more : (done : List FieldType) (count i : ℕ) (text after : List ℕ) (t : FieldType) (total : Option (List FieldType × List ℕ)) → i < count → None ≡ closing_at text → Some (t, after) ≡ type_at text → behind done (params_at (count - i) text) ≡ total → behind (done ++ t ∷ []) (params_at (count - (i + 1)) after) ≡ total
unfolding params_at
params_more done count i text after t total lt still h so_far =
    let some : type_at text ≡ Some (t, after) = sym h in
    let other : closing_at text ≡ None = sym still in
    let one : behind done (params_at (count - i) text) ≡ behind (done ++ t ∷ []) (params_at (count - (i + 1)) after) = rw (left_over count i lt, other, some) (regroup done t (params_at (count - (i + 1)) after)) in
    sym one ∙ so_far

pub params_over : (done : List FieldType) (count i : ℕ) (text : List ℕ) (total : Option (List FieldType × List ℕ)) → count ≤ i → behind done (params_at (count - i) text) ≡ total → None ≡ total
unfolding params_at
params_over done count i text total le so_far =
    let none : count - i ≡ 0 = omega arith in
    let one : behind done (params_at (count - i) text) ≡ None = rw none refl in
    sym one ∙ so_far

-- the slots of what is there, and of what is left
pub slots_none : (text : List ℕ) (n : ℕ) → None ≡ params_at n text → None ≡ slots_at n text
slots_none text n h = let none : params_at n text ≡ None = sym h in rw none refl

pub slots_some : (text rest : List ℕ) (n count : ℕ) (done : List FieldType) → count ≡ slots_of done → params_at n text ≡ Some (done, rest) → Some (count, rest) ≡ slots_at n text
slots_some text rest n count done is h = rw (h, is) refl

slots_more : (done : List FieldType) (t : FieldType) → slots_of (done ++ t ∷ []) ≡ slots_of done + slots t
unfolding slots_of
slots_more [] t = omega arith
slots_more (d ∷ ds) t = let others = slots_more ds t in omega (arith, others)

pub slots_begin : 0 ≡ slots_of []
unfolding slots_of
slots_begin = refl

pub slots_next : (done : List FieldType) (t : FieldType) (count more : ℕ) → count ≡ slots_of done → more ≡ slots t → count + more ≡ slots_of (done ++ t ∷ [])
slots_next done t count more is one = rw (is, one) (sym (slots_more done t))

pub slots_item : (types : List FieldType) (i count more : ℕ) (t : FieldType) → i < length types → t ≡ get_or types i t → more ≡ slots t → count + slots_of (drop i types) ≡ slots_of types → count + more + slots_of (drop (i + 1) types) ≡ slots_of types
unfolding slots_of
slots_item types i count more t lt is one so_far =
    let split : slots_of (drop i types) ≡ slots t + slots_of (drop (i + 1) types) = rw (drop-cons types i t, ← is, add-one) refl in
    omega (arith, split, one)

pub slots_end : (types : List FieldType) (i count : ℕ) → length types ≤ i → count + slots_of (drop i types) ≡ slots_of types → count ≡ slots_of types
unfolding slots_of
slots_end types i count le so_far =
    let none : slots_of (drop i types) ≡ 0 = rw (drop_of_length-le types le) refl in
    omega (arith, none)
