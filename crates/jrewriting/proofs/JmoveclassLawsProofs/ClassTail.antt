-- What stands behind the pool of a moved class, but for its methods, meets what is asked of class files.
use Rattle.std.proofs.Common.{◌≡◌, ℕ, suc, ◌+◌, ◌≤◌, ◌<◌, Bool, true, false, List, [], ◌∷◌, ◌++◌, length, refl, arith}
use Rattle.std.specs.Prelude.{IsTrue, if◌then◌else◌}
use Rattle.std.specs.List.{filter, list_all}
use Rattle.std.proofs.lemmas.Bool.{lt-ltb, ltb-true}
use Rattle.std.proofs.lemmas.List.{length-append}
use Rattle.jground.specs.jformat.BodyFormats.{counted}
use Rattle.jground.proofs.JformatProofs.ReadingSteps.{both, first_true, second_true}
use Rattle.jparts.specs.declared.jpool.entry.Entry.{Entry}
use Rattle.jclass.specs.declared.class.Attribute.{Attribute}
use Rattle.jclass.specs.declared.class.ClassParts.{ClassParts}
use Rattle.jclass.specs.declared.class.MemberInfo.{MemberInfo}
use Rattle.jclass.specs.Attributes.{class_attribute}
use Rattle.jclass.specs.IndexFormats.{access, index, u2}
use Rattle.jclass.specs.Class.{class_file, class_parts, strict, tail}
use Rattle.jclass.specs.PoolChecks as judging
use Rattle.jclass.specs.MemberFormat.{field, method}
use Rattle.jclass.specs.FlagRules.{names_class, names_super}
use Rattle.jmove.specs.PoolAdditions.{IsFront, ◌>>◌}
use Rattle.jresolution.specs.jprogram.ProgramClasses.{Program}
use Rattle.jmoveclass.specs.KeptAttributes.{class_keeps}
use Rattle.jmoveclass.specs.MovedMembers.{with_method}
use Rattle.jmoveclass.specs.MovedClasses.{moved_class}
use Rattle.jmoveclass.specs.PoolPuts.{with_each}
use Rattle.jmoveclass.proofs.DemandPreservation.{all_on, class_attribute_on, field_on, index_on, names_class_on, names_super_on}
use Rattle.jmoveclass.proofs.MethodContents.{class_tail}
use Rattle.jrewriting.specs.jmoveclass_laws.MovedFiles.{CanBeFile}
use Rattle.jrewriting.proofs.JmoveclassLawsProofs.Methods.{methods_good}
use Rattle.jrewriting.proofs.JmoveclassLawsProofs.PoolFormat.{head_stays}
use Rattle.jrewriting.proofs.JrewriteProofs.ClassLookup.{pool_front}

-- ---- as many methods, and no more attributes

one_method : (p : Program) (c : ClassParts) (domain : ℕ) (m : MemberInfo) (pool : List Entry) → length (with_method p c domain m pool).0 ≡ 1
unfolding with_method ◌>>◌
one_method p c domain m pool = refl

length_join : {A : Type 0} (xs ys : List A) → length (xs ++ ys) ≡ length xs + length ys
length_join xs ys = length-append xs ys

as_many : (p : Program) (c : ClassParts) (domain : ℕ) (ms : List MemberInfo) (pool : List Entry) → length (with_each (with_method p c domain) ms pool).0 ≡ length ms
unfolding with_each ◌>>◌
as_many p c domain [] pool = refl
as_many p c domain (m ∷ ms) pool =
    let x = with_method p c domain m pool in
    let one : length x.0 ≡ 1 = one_method p c domain m pool in
    let others : length (with_each (with_method p c domain) ms x.1).0 ≡ length ms = as_many p c domain ms x.1 in
    let all : length (x.0 ++ (with_each (with_method p c domain) ms x.1).0) ≡ length x.0 + length (with_each (with_method p c domain) ms x.1).0 = length_join x.0 (with_each (with_method p c domain) ms x.1).0 in
    omega arith

one_less : {A : Type 0} (b : Bool) (x : A) (xs : List A) (n : ℕ) → length xs ≤ n → length (if b then x ∷ xs else xs) ≤ suc n
one_less true x xs n h = omega arith
one_less false x xs n h = omega arith

no_more : {A : Type 0} (p : A → Bool) (xs : List A) → length (filter p xs) ≤ length xs
no_more p [] = omega arith
no_more p (x ∷ xs) = one_less (p x) x (filter p xs) (length xs) (no_more p xs)

one_kept : {A : Type 0} (b : Bool) (q : A → Bool) (x : A) (xs : List A) → IsTrue (q x) → IsTrue (list_all q xs) → IsTrue (list_all q (if b then x ∷ xs else xs))
one_kept true q x xs h k = both (q x) (list_all q xs) h k
one_kept false q x xs h k = k

all_kept : {A : Type 0} (p q : A → Bool) (xs : List A) → IsTrue (list_all q xs) → IsTrue (list_all q (filter p xs))
all_kept p q [] h = refl
all_kept p q (x ∷ xs) h = one_kept (p x) q x (filter p xs) (first_true (q x) (list_all q xs) h) (all_kept p q xs (second_true (q x) (list_all q xs) h))

few_more : (m n : ℕ) → m ≤ n → IsTrue (u2.fits n) → IsTrue (u2.fits m)
few_more m n h k = let less : n < 65536 = ltb-true n 65536 k in lt-ltb m 65536 (omega arith)

-- ---- the parts

interfaces_on : (pool whole : List Entry) → IsFront pool whole → (is : List ℕ) → IsTrue ((counted u2 (index (names_class pool))).fits is) → IsTrue ((counted u2 (index (names_class whole))).fits is)
interfaces_on pool whole f is h =
    both (list_all (index (names_class whole)).fits is) (u2.fits (length is))
    (all_on (index (names_class pool)).fits (index (names_class whole)).fits (λ i g. index_on (names_class pool) (names_class whole) i (names_class_on pool whole f i) g) is (first_true (list_all (index (names_class pool)).fits is) (u2.fits (length is)) h))
    (second_true (list_all (index (names_class pool)).fits is) (u2.fits (length is)) h)

fields_on : (pool whole : List Entry) → IsFront pool whole → (ms : List MemberInfo) → IsTrue ((counted u2 (field pool)).fits ms) → IsTrue ((counted u2 (field whole)).fits ms)
fields_on pool whole f ms h =
    both (list_all (field whole).fits ms) (u2.fits (length ms)) (all_on (field pool).fits (field whole).fits (field_on pool whole f) ms (first_true (list_all (field pool).fits ms) (u2.fits (length ms)) h))
    (second_true (list_all (field pool).fits ms) (u2.fits (length ms)) h)

attributes_on : (pool whole : List Entry) → IsFront pool whole → (keeps : Attribute → Bool) (xs : List Attribute) → IsTrue ((counted u2 (class_attribute pool)).fits xs) → IsTrue ((counted u2 (class_attribute whole)).fits (filter keeps xs))
attributes_on pool whole f keeps xs h =
    both (list_all (class_attribute whole).fits (filter keeps xs)) (u2.fits (length (filter keeps xs)))
    (all_kept keeps (class_attribute whole).fits xs (all_on (class_attribute pool).fits (class_attribute whole).fits (class_attribute_on pool whole f) xs (first_true (list_all (class_attribute pool).fits xs) (u2.fits (length xs)) h)))
    (few_more (length (filter keeps xs)) (length xs) (no_more keeps xs) (second_true (list_all (class_attribute pool).fits xs) (u2.fits (length xs)) h))

-- ---- the whole, where the methods are good

tail_stays : (p : Program) (domain : ℕ) (c : ClassParts) → IsTrue ((tail c.pool).fits (class_parts c).1) → IsTrue (list_all (method (moved_class p domain c).pool).fits (moved_class p domain c).methods)
    → IsTrue ((tail (moved_class p domain c).pool).fits (class_parts (moved_class p domain c)).1)
unfolding tail moved_class
tail_stays p domain c t good =
    let pool = c.pool in
    let x = with_each (with_method p c domain) c.methods c.pool in
    let whole = x.1 in
    let f : IsFront pool whole = pool_front p domain c in
    let a = second_true (access.fits c.flags) _ t in
    let b = second_true ((index (names_class pool)).fits c.this_class) _ a in
    let d = second_true ((index (names_super pool)).fits c.super_class) _ b in
    let e = second_true ((counted u2 (index (names_class pool))).fits c.interfaces) _ d in
    let g = second_true ((counted u2 (field pool)).fits c.fields) _ e in
    let many : IsTrue (u2.fits (length x.0)) = few_more (length x.0) (length c.methods) (omega (arith, as_many p c domain c.methods c.pool)) (second_true (list_all (method pool).fits c.methods) (u2.fits (length c.methods)) (first_true ((counted u2 (method pool)).fits c.methods) _ g)) in
    both _ _ (first_true (access.fits c.flags) _ t)
    (both _ _ (index_on (names_class pool) (names_class whole) c.this_class (names_class_on pool whole f c.this_class) (first_true ((index (names_class pool)).fits c.this_class) _ a))
    (both _ _ (index_on (names_super pool) (names_super whole) c.super_class (names_super_on pool whole f c.super_class) (first_true ((index (names_super pool)).fits c.super_class) _ b))
    (both _ _ (interfaces_on pool whole f c.interfaces (first_true ((counted u2 (index (names_class pool))).fits c.interfaces) _ d))
    (both _ _ (fields_on pool whole f c.fields (first_true ((counted u2 (field pool)).fits c.fields) _ e))
    (both _ _ (both (list_all (method whole).fits x.0) (u2.fits (length x.0)) good many)
    (attributes_on pool whole f (class_keeps pool) c.attributes (second_true ((counted u2 (method pool)).fits c.methods) _ g)))))))

pub file_from : (p : Program) (domain : ℕ) (c : ClassParts) → CanBeFile p domain c → IsTrue (class_file.fits (moved_class p domain c))
unfolding class_file strict
file_from p domain c k =
    both (judging.head.fits (class_parts (moved_class p domain c)).0) ((tail (moved_class p domain c).pool).fits (class_parts (moved_class p domain c)).1) (head_stays p domain c k) (tail_stays p domain c (class_tail c k.good) (methods_good p domain c k))
