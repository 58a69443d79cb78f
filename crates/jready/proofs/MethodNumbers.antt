-- The numbers of methods.
use Rattle.std.proofs.Common.{◌≡◌, ℕ, zero, suc, ◌+◌, ◌^◌, ◌<◌, ◌≤◌, inl, inr, List, [], ◌∷◌, ◌++◌, length, get_or, take, Some, None, sym, ap, subst, ◌∙◌}
use Rattle.std.proofs.Common.{arith}
use Rattle.std.specs.Prelude.{slice_get}
use Rattle.std.specs.List.{flat_map}
use Rattle.std.proofs.lemmas.List.{append-nil, length-append, take_more}
use Rattle.std.proofs.lemmas.List.Concat.{flat_map-append}
use Rattle.jclass.specs.declared.class.MemberInfo.{MemberInfo}
use Rattle.jresolution.specs.declared.jprogram.member.MethodId.{MethodId}
use Rattle.jresolution.specs.declared.jprogram.part.CodePart.{CodePart}
use Rattle.jresolution.specs.jprogram.ProgramClasses.{Program}
use Rattle.jresolution.specs.juses.PoolTables.{Grows}
use Rattle.jready.specs.declared.methods.MethodRow.{MethodRow}
use Rattle.jready.specs.MethodNumbers.{AreFirsts, AreFirstsTo, IsFirst, count_at, count_in, method_count, methods_before}
use Rattle.jready.specs.PreparedPrograms.{AreNumbered, AreOwn, IsNumber}
use Rattle.jready.proofs.TableGrowth.{get_grown, get_more, get_put, some_inj, under}

-- ---- how many stand before those of a class

pub at_index : {A : Type 0} (xs : List A) (i : ℕ) (x : A) → i < length xs → x ≡ get_or xs i x → slice_get xs i ≡ Some x
at_index [] i x lt is = absurd (omega arith)
at_index (y ∷ xs) zero x lt is = ap (λ z. Some z) (sym is)
at_index (y ∷ xs) (suc i) x lt is = at_index xs i x (omega arith) is

before_more : (p : Program) (i : ℕ) (part : CodePart) → i < length p.parts → part ≡ get_or p.parts i part
    → methods_before p (i + 1) ≡ methods_before p i + method_count part
before_more p i part lt is =
    let f : CodePart → List MemberInfo = λ part. part.class.methods in
    let more : take (i + 1) p.parts ≡ take i p.parts ++ part ∷ [] = take_more p.parts i part lt ∙ ap (λ (z : CodePart). take i p.parts ++ z ∷ []) (sym is) in
    let all : flat_map f (take (i + 1) p.parts) ≡ flat_map f (take i p.parts) ++ flat_map f (part ∷ []) = ap (flat_map f) more
    ∙ flat_map-append f (take i p.parts) (part ∷ []) in
    let one : flat_map f (part ∷ []) ≡ part.class.methods = append-nil part.class.methods in
    ap length (all ∙ ap (λ (l : List MemberInfo). flat_map f (take i p.parts) ++ l) one) ∙ length-append (flat_map f (take i p.parts)) part.class.methods

count_is : (p : Program) (i : ℕ) (part : CodePart) → i < length p.parts → part ≡ get_or p.parts i part → count_at p i ≡ method_count part
count_is p i part lt is = ap count_in (at_index p.parts i part lt is)

-- ---- the numbers of the first methods

pub firsts_none : (p : Program) → AreFirstsTo p [] 0
firsts_none p c lt = absurd (omega arith)

first_grown : (p : Program) (firsts more : List ℕ) (c : ℕ) → c < length firsts → IsFirst p firsts c → IsFirst p (firsts ++ more) c
first_grown p firsts more c lt h = record { first = get_more firsts more c lt ∙ h.first; room = h.room }

pub firsts_more : (p : Program) (firsts : List ℕ) (i first behind : ℕ) (part : CodePart) → AreFirstsTo p firsts i → length firsts ≡ i
    → first ≡ methods_before p i → i < length p.parts → part ≡ get_or p.parts i part
    → behind ≡ first + method_count part → behind < 2 ^ 32 → AreFirstsTo p (firsts ++ first ∷ []) (i + 1)
firsts_more p firsts i first behind part so_far len is lt here end room c lt_c = elim (under c i (omega arith)) [
  | inl less ↦ first_grown p firsts (first ∷ []) c (omega arith) (so_far c less)
  | inr same ↦
      let put : slice_get (firsts ++ first ∷ []) i ≡ Some first = ap (slice_get (firsts ++ first ∷ [])) (sym len) ∙ get_put firsts first in
      let count = count_is p i part lt here in
      subst (IsFirst p (firsts ++ first ∷ [])) (sym same) (record { first = put ∙ ap (λ (n : ℕ). Some n) is; room = omega arith })
]

pub before_next : (p : Program) (i first behind : ℕ) (part : CodePart) → first ≡ methods_before p i → i < length p.parts → part ≡ get_or p.parts i part
    → behind ≡ first + method_count part → behind ≡ methods_before p (i + 1)
before_next p i first behind part is lt here end = let more = before_more p i part lt here in omega arith

pub firsts_end : (p : Program) (firsts : List ℕ) (i : ℕ) → length p.parts ≤ i → AreFirstsTo p firsts i → AreFirsts p firsts
firsts_end p firsts i le h c lt = h c (omega arith)

-- ---- the methods of a class

pub within : {A : Type 0} (xs : List A) (i : ℕ) (x : A) → slice_get xs i ≡ Some x → i < length xs
within [] i x e = absurd cc
within (y ∷ xs) zero x e = omega arith
within (y ∷ xs) (suc i) x e = let lt = within xs i x e in omega arith

number_grown : (rows more : List MethodRow) (k : ℕ) (m : MethodId) → Grows rows more → IsNumber rows k m → IsNumber more k m
number_grown rows more k m g h = record { row = h.row; at = get_grown rows more k g (within rows k h.row h.at) ∙ h.at; id = h.id }

pub own_none : (rows : List MethodRow) (first class : ℕ) → AreOwn rows first class 0
own_none rows first class j lt = absurd (omega arith)

pub own_grown : (rows more : List MethodRow) (first class count : ℕ) → Grows rows more → AreOwn rows first class count → AreOwn more first class count
own_grown rows more first class count g h j lt = number_grown rows more (first + j) (record { class = class; method = j }) g (h j lt)

pub own_more : (rows new : List MethodRow) (first class i : ℕ) (row : MethodRow) → AreOwn rows first class i → length rows ≡ first + i
    → new ≡ rows ++ row ∷ [] → row.id ≡ record { class = class; method = i } → AreOwn new first class (i + 1)
own_more rows new first class i row so_far len is id j lt = elim (under j i (omega arith)) [
  | inl less ↦ own_grown rows new first class i (row ∷ [], is) so_far j less
  | inr same ↦
      let put : slice_get new (first + i) ≡ Some row = ap (λ (l : List MethodRow). slice_get l (first + i)) is ∙ ap (slice_get (rows ++ row ∷ [])) (sym len)
      ∙ get_put rows row in
      subst (λ (n : ℕ). IsNumber new (first + n) (record { class = class; method = n })) (sym same) (record { row = row; at = put; id = id })
]

-- ---- those of all classes

pub numbered_none : (p : Program) (rows : List MethodRow) → AreNumbered p rows 0
numbered_none p rows c lt = absurd (omega arith)

pub numbered_more : (p : Program) (rows new : List MethodRow) (i first count : ℕ) (part : CodePart) → AreNumbered p rows i → Grows rows new
    → first ≡ methods_before p i → i < length p.parts → part ≡ get_or p.parts i part
    → count ≡ method_count part → AreOwn new first i count → AreNumbered p new (i + 1)
numbered_more p rows new i first count part so_far g is lt here n own c lt_c = elim (under c i (omega arith)) [
  | inl less ↦ own_grown rows new (methods_before p c) c (count_at p c) g (so_far c less)
  | inr same ↦
      let all : AreOwn new (methods_before p i) i (count_at p i) =
      subst (λ (k : ℕ). AreOwn new k i (count_at p i)) is (subst (AreOwn new first i) (n ∙ sym (count_is p i part lt here)) own) in
      subst (λ (c : ℕ). AreOwn new (methods_before p c) c (count_at p c)) (sym same) all
]

pub numbered_end : (p : Program) (rows : List MethodRow) (i : ℕ) → length p.parts ≤ i → AreNumbered p rows i → AreNumbered p rows (length p.parts)
numbered_end p rows i le h c lt = h c (omega arith)

-- ---- the number of one method

-- a class that is there has a first number, and its methods have numbers
pub first_is : (p : Program) (firsts : List ℕ) (m : MethodId) (first : ℕ) → AreFirsts p firsts → slice_get firsts m.class ≡ Some first
    → m.class < length p.parts → first ≡ methods_before p m.class
first_is p firsts m first are at lt = some_inj (sym at ∙ (are m.class lt).first)

pub first_there : {X : Type 0} (p : Program) (firsts : List ℕ) (m : MethodId) → AreFirsts p firsts → slice_get firsts m.class ≡ None
    → m.class < length p.parts → X
first_there p firsts m are none lt = absurd cc (sym none ∙ (are m.class lt).first)

pub number_fits : (p : Program) (firsts : List ℕ) (m : MethodId) (first : ℕ) → AreFirsts p firsts → slice_get firsts m.class ≡ Some first
    → m.class < length p.parts → m.method < count_at p m.class → first + m.method < 2 ^ 32
number_fits p firsts m first are at lt own = let is = first_is p firsts m first are at lt in let room = (are m.class lt).room in omega arith
