-- The tables of digests, as loops fill them: the first place of a digest stays. And what the first place of a digest says of a name and a
-- descriptor.
use Rattle.std.proofs.Common.{◌≡◌, ℕ, zero, suc, ◌+◌, ◌≤◌, ◌<◌, Bool, true, false, cond, not, List, [], ◌∷◌, ◌++◌, length, get_or, take, Option, Some, None, refl, sym, ap, subst, ◌∙◌, arith, add-one, inl, inr}
use Rattle.std.specs.Prelude.{is_some, nat_lt, slice_get}
use Rattle.std.specs.List.{position, position_or_len}
use Rattle.std.specs.Option.{option_or}
use Rattle.std.specs.Str.{bytes_eq}
use Rattle.std.specs.Ordering.{is_eq, nat_cmp}
use Rattle.std.specs.BTreeMap as tree
use Rattle.std.specs.BTreeMap.{BTreeMap}
use Rattle.std.specs.Map.{lookup}
use Rattle.std.proofs.lemmas.Bool.{and_parts, cases_Bool, le-ltb, lt-ltb, ltb-false}
use Rattle.std.proofs.lemmas.Bool.Decides.{nat_tests}
use Rattle.std.proofs.lemmas.Slice.Eq.{bytes_eq-Decides}
use Rattle.std.proofs.lemmas.List.{length-append, length-take-le, take_all}
use Rattle.std.proofs.Math.Seq.{take-suc}
use Rattle.jparts.proofs.JpoolProofs.Pushes.{or_none, position_push}
use Rattle.jclass.specs.declared.class.ClassParts.{ClassParts}
use Rattle.jclass.specs.declared.class.MemberInfo.{MemberInfo}
use Rattle.jresolution.specs.declared.jprogram.firsts.Firsts.{Firsts}
use Rattle.jresolution.specs.declared.jprogram.part.CodePart.{CodePart}
use Rattle.jresolution.specs.jprogram.ClassFileParts.{is_called, member_desc, member_name}
use Rattle.jresolution.specs.jprogram.MemberDigests.{AreFirst, AreFirsts, AreTold, HasFirsts, Tells, digest, digest_of, first_at, has_digest}
use Rattle.jresolution.proofs.JprogramProofs.InterfaceSearch.{slice_get-within, some_is}
use Rattle.jresolution.proofs.JprogramProofs.ImplementationRows.{position_most}
use Rattle.jresolution.proofs.JprogramProofs.NameTables.{or_some, none_is}

-- ---- one more digest

same_number : (a b : ℕ) → is_eq (nat_cmp a b) ≡ true → a ≡ b
same_number a b e = grind (arith, nat_tests)

number_same : (a : ℕ) → is_eq (nat_cmp a a) ≡ true
number_same a = grind (arith, nat_tests)

pub tells_new : (sum k : ℕ) (old new : BTreeMap ℕ ℕ) → is_some (first_at old sum) ≡ false → tree.UpdatesBy nat_cmp (nat_cmp sum) old new (Some k) → Tells sum k old new
tells_new sum k old new absent h q = elim (cases_Bool (is_eq (nat_cmp sum q))) [
  | inl y ↦
      let same : sum ≡ q = same_number sum q y in
      let none : first_at old q ≡ None = none_is (first_at old q) (subst (λ (t : ℕ). is_some (first_at old t) ≡ false) same absent) in
      let now : first_at new q ≡ Some k = h.0 q ∙ ap (λ (b : Bool). cond b (Some k) (first_at old q)) y in
      rw (now, none, y) refl
  | inr n ↦
      let now : first_at new q ≡ first_at old q = h.0 q ∙ ap (λ (b : Bool). cond b (Some k) (first_at old q)) n in
      rw (now, n) (sym (or_none (first_at old q)))
]

pub tells_before : (sum k : ℕ) (old : BTreeMap ℕ ℕ) → is_some (first_at old sum) ≡ true → Tells sum k old old
tells_before sum k old there q = elim (cases_Bool (is_eq (nat_cmp sum q))) [
  | inl y ↦
      let same : sum ≡ q = same_number sum q y in
      let some : is_some (first_at old q) ≡ true = subst (λ (t : ℕ). is_some (first_at old t) ≡ true) same there in
      sym (or_some (first_at old q) (cond (is_eq (nat_cmp sum q)) (Some k) None) some)
  | inr n ↦ rw n (sym (or_none (first_at old q)))
]

-- ---- the loop over members

pub first_none : (c : ClassParts) (places : BTreeMap ℕ ℕ) → tree.IsEmpty places → AreFirst c [] places
first_none c places e sum = ap (lookup (tree.is_at (nat_cmp sum))) e

pub first_next : (c : ClassParts) (ms : List MemberInfo) (k : ℕ) (one : MemberInfo) (sum : ℕ) (old new : BTreeMap ℕ ℕ) → k < length ms → one ≡ get_or ms k one → sum ≡ digest_of c one → AreFirst c (take k ms) old → Tells sum k old new → AreFirst c (take (k + 1) ms) new
first_next c ms k one sum old new lt is named found tells q =
    let test : MemberInfo → Bool = has_digest c q in
    let n : length (take k ms) ≡ k = length-take-le k ms (omega arith) in
    let more : take (k + 1) ms ≡ take k ms ++ one ∷ [] = rw (add-one, take-suc ms k one, ← is) refl in
    tells q ∙ ap (λ (o : Option ℕ). option_or o (cond (is_eq (nat_cmp sum q)) (Some k) None)) (found q)
    ∙ ap (λ (t : ℕ). option_or (position test (take k ms)) (cond (is_eq (nat_cmp t q)) (Some k) None)) named
    ∙ sym (ap (position test) more ∙ position_push test (take k ms) one ∙ ap (λ (j : ℕ). option_or (position test (take k ms)) (cond (test one) (Some j) None)) n)

pub first_end : (c : ClassParts) (ms : List MemberInfo) (k : ℕ) (places : BTreeMap ℕ ℕ) → length ms ≤ k → AreFirst c (take k ms) places → AreFirst c ms places
first_end c ms k places le found sum = found sum ∙ ap (position (has_digest c sum)) (take_all k ms le)

-- ---- the loop over parts

grown : (ps : List CodePart) (all : List Firsts) (one : CodePart) (firsts : Firsts) → length all ≡ length ps → AreTold ps all → AreFirsts one.class firsts → AreTold (ps ++ one ∷ []) (all ++ firsts ∷ [])
grown [] [] one firsts n told is zero part at = subst (λ (p : CodePart). AreFirsts p.class firsts) (some_is one part at) is
grown [] [] one firsts n told is (suc j) part at = absurd cc
grown [] (x ∷ xs) one firsts n told is j part at = absurd cc
grown (p ∷ ps) [] one firsts n told is j part at = absurd cc
grown (p ∷ ps) (x ∷ xs) one firsts n told is zero part at = told zero part at
grown (p ∷ ps) (x ∷ xs) one firsts n told is (suc j) part at = grown ps xs one firsts (omega (arith, n)) (λ k q h. told (suc k) q h) is j part at

pub told_none : (all : List Firsts) → AreTold [] all
told_none all i part at = absurd cc

pub told_next : (ps : List CodePart) (i : ℕ) (one : CodePart) (all : List Firsts) (firsts : Firsts) → i < length ps → one ≡ get_or ps i one → AreTold (take i ps) all → length all ≡ i → AreFirsts one.class firsts → AreTold (take (i + 1) ps) (all ++ firsts ∷ [])
told_next ps i one all firsts lt is told n here =
    let size : length (take i ps) ≡ i = length-take-le i ps (omega arith) in
    let more : take (i + 1) ps ≡ take i ps ++ one ∷ [] = rw (add-one, take-suc ps i one, ← is) refl in
    subst (λ (qs : List CodePart). AreTold qs (all ++ firsts ∷ [])) (sym more) (grown (take i ps) all one firsts (n ∙ sym size) told here)

pub told_end : (ps : List CodePart) (i : ℕ) (all : List Firsts) → length ps ≤ i → AreTold (take i ps) all → AreTold ps all
told_end ps i all le told = subst (λ (qs : List CodePart). AreTold qs all) (take_all i ps le) told

-- ---- looking a member up

called_digest : (c : ClassParts) (name desc : List ℕ) (m : MemberInfo) → is_called c name desc m ≡ true → has_digest c (digest name desc) m ≡ true
called_digest c name desc m e =
    let both = and_parts (bytes_eq (member_name c m) name) (bytes_eq (member_desc c m) desc) e in
    let n : member_name c m ≡ name = (bytes_eq-Decides (member_name c m) name).0 both.0 in
    let d : member_desc c m ≡ desc = (bytes_eq-Decides (member_desc c m) desc).0 both.1 in
    subst (λ (t : List ℕ). is_eq (nat_cmp (digest_of c m) (digest t desc)) ≡ true) n
    (subst (λ (t : List ℕ). is_eq (nat_cmp (digest_of c m) (digest (member_name c m) t)) ≡ true) d (number_same (digest_of c m)))

least_at : (b d : Bool) (m n : ℕ) → (b ≡ true → d ≡ true) → n ≤ m → cond (not d) (1 + n) 0 ≤ cond (not b) (1 + m) 0
least_at true true m n f le = omega arith
least_at true false m n f le = absurd (false_true (f refl))
  where
    false_true : false ≡ true → ⊥
    false_true e = cc
least_at false true m n f le = omega arith
least_at false false m n f le = omega (arith, le)

least : {A : Type 0} (p q : A → Bool) → ((x : A) → p x ≡ true → q x ≡ true) → (xs : List A) → position_or_len q xs ≤ position_or_len p xs
least p q f [] = omega arith
least p q f (x ∷ xs) = least_at (p x) (q x) (position_or_len p xs) (position_or_len q xs) (f x) (least p q f xs)

none_test : (b : Bool) (i : ℕ) → cond b (Some i) None ≡ None → b ≡ false
none_test true i e = absurd cc
none_test false i e = refl

some_test : (b : Bool) (m i : ℕ) → cond b (Some m) None ≡ Some i → m ≡ i
some_test true m i e = cc
some_test false m i e = absurd cc

pub no_position : {A : Type 0} (p q : A → Bool) → ((x : A) → p x ≡ true → q x ≡ true) → (xs : List A) → position q xs ≡ None → position p xs ≡ None
no_position p q f xs e =
    let past : length xs ≤ position_or_len q xs = ltb-false (position_or_len q xs) (length xs) (none_test (nat_lt (position_or_len q xs) (length xs)) (position_or_len q xs) e) in
    let le : position_or_len q xs ≤ position_or_len p xs = least p q f xs in
    ap (λ (b : Bool). cond b (Some (position_or_len p xs)) None) (le-ltb (position_or_len p xs) (length xs) (omega (arith, past, le)))

pub same_position : {A : Type 0} (p q : A → Bool) → ((x : A) → p x ≡ true → q x ≡ true) → (xs : List A) (i : ℕ) (x : A) → position q xs ≡ Some i → slice_get xs i ≡ Some x → p x ≡ true → position p xs ≡ Some i
same_position p q f xs i x e at is =
    let n : position_or_len q xs ≡ i = some_test (nat_lt (position_or_len q xs) (length xs)) (position_or_len q xs) i e in
    let le : position_or_len q xs ≤ position_or_len p xs = least p q f xs in
    let most : position_or_len p xs ≤ i = position_most p xs i x at is in
    let here : position_or_len p xs ≡ i = omega (arith, n, le, most) in
    let within : i < length xs = slice_get-within xs i x at in
    ap (λ (b : Bool). cond b (Some (position_or_len p xs)) None) (lt-ltb (position_or_len p xs) (length xs) (omega (arith, here, within))) ∙ ap (λ (k : ℕ). Some k) here

-- no member of the digest: none of the name and descriptor
pub none_told : (c : ClassParts) (ms : List MemberInfo) (places : BTreeMap ℕ ℕ) (name desc : List ℕ) → AreFirst c ms places → first_at places (digest name desc) ≡ None → position (is_called c name desc) ms ≡ None
none_told c ms places name desc found e =
    no_position (is_called c name desc) (has_digest c (digest name desc)) (λ m. called_digest c name desc m) ms (sym (found (digest name desc)) ∙ e)

-- the first member of the digest has the name and descriptor: it is the first that has
pub first_told : (c : ClassParts) (ms : List MemberInfo) (places : BTreeMap ℕ ℕ) (name desc : List ℕ) (i : ℕ) (m : MemberInfo) → AreFirst c ms places → first_at places (digest name desc) ≡ Some i → slice_get ms i ≡ Some m → is_called c name desc m ≡ true → position (is_called c name desc) ms ≡ Some i
first_told c ms places name desc i m found e at is =
    same_position (is_called c name desc) (has_digest c (digest name desc)) (λ x. called_digest c name desc x) ms i m (sym (found (digest name desc)) ∙ e) at is

-- ---- the tables of a part

pub told_there : (ps : List CodePart) (all : List Firsts) (i : ℕ) (part : CodePart) → AreTold ps all → slice_get ps i ≡ Some part → slice_get all i ≡ None → ⊥
told_there ps all i part told at none = subst (λ (o : Option Firsts). HasFirsts part.class o) none (told i part at)

pub told_are : (ps : List CodePart) (all : List Firsts) (i : ℕ) (part : CodePart) (firsts : Firsts) → AreTold ps all → slice_get ps i ≡ Some part → slice_get all i ≡ Some firsts → AreFirsts part.class firsts
told_are ps all i part firsts told at here = subst (λ (o : Option Firsts). HasFirsts part.class o) here (told i part at)

pub told_size : (all : List Firsts) (one : Firsts) (i : ℕ) → length all ≡ i → length (all ++ one ∷ []) ≡ i + 1
told_size all one i n = length-append all (one ∷ []) ∙ ap (λ (k : ℕ). k + 1) n
