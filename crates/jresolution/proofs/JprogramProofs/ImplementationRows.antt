-- The table of what classes implement: that each row that is made is right, and that all come to be made.
use Rattle.std.proofs.Common.{◌≡◌, ℕ, zero, suc, drop, get_or, slice_index_or, ◌+◌, ◌<◌, ◌≤◌, ◌⊎◌, ◌||◌, ◌&&◌, Bool, true, false, cond, List, [], ◌∷◌, ◌++◌, length, map, Option, Some, None, refl, sym, ap, subst, ◌∙◌, arith, inl, inr}
use Rattle.std.specs.Prelude.{◌==◌, IsTrue, is_some, nat_lt, not, option_and_then, option_map, slice_get, slice_set}
use Rattle.std.specs.Option.{option_to_list}
use Rattle.std.specs.List.{list_all, list_any, position_or_len, AllByRecursion}
use Rattle.std.specs.Str.{bytes_eq}
use Rattle.std.proofs.lemmas.Bool.{and_parts, cases_eq, cases_lt, eq-eqb, eqb-true, false_from_ne_true, lt-ltb, ltb-false}
use Rattle.std.proofs.lemmas.Option.{slice_get-get_or}
use Rattle.jground.proofs.JbaseProofs.Firsts.{none_fails, none_of}
use Rattle.jlib.specs.declared.classes.LibClass.{LibClass}
use Rattle.jlib.specs.declared.classes.LibClass.TheVariants as lib
use Rattle.jlib.specs.declared.classes.Thrown.{Thrown}
use Rattle.jlib.specs.declared.classes.Thrown.TheVariants as thrown
use Rattle.jlib.specs.declared.classes.PermissionClass.{PermissionClass}
use Rattle.jlib.specs.declared.classes.PermissionClass.TheVariants as permission
use Rattle.jlib.specs.LibraryClasses as library
use Rattle.jlib.proofs.LibraryLookup.{class_above, class_found, class_implements, lower}
use Rattle.jclass.specs.declared.class.ClassParts.{ClassParts}
use Rattle.jresolution.specs.declared.jprogram.part.ClassRef.{ClassRef}
use Rattle.jresolution.specs.declared.jprogram.part.ClassRef.TheVariants as refs
use Rattle.jresolution.specs.declared.jprogram.part.CodePart.{CodePart}
use Rattle.jresolution.specs.declared.jprogram.fault.LinkKind.TheVariants.{Twice}
use Rattle.jresolution.specs.jprogram.ClassFileParts.{class_text, interface_names, super_name, this_name}
use Rattle.jresolution.specs.jprogram.BitSets.{Joins, has}
use Rattle.jresolution.specs.jprogram.DirectSupers.{supers_of}
use Rattle.jresolution.specs.jprogram.InterfaceNumbers.{face_number}
use Rattle.jresolution.specs.jprogram.ProgramClasses.{Class, Lib, Program, User, above, above_name, face_names, find, found_at, holds, implements, is_interface, known, name_at, place_of, ref_of, faces_of}
use Rattle.jresolution.specs.jprogram.ProofNames.{supers}
use Rattle.std.specs.Prelude.{Err, IfOk, IfSome, Ok, Result}
use denote.Ref.{Bor}
use Rattle.jresolution.specs.declared.jprogram.found_class.FoundClass.{FoundClass}
use Rattle.jresolution.specs.declared.jprogram.found_class.FoundClass.TheVariants as found
use Rattle.jresolution.specs.jprogram.FoundClasses.{seen}
use Rattle.jresolution.specs.jprogram.ImplementedInterfaces.{Adds, AreInterfaces, AreRows, IsNumber, IsRow, Keeps, Readies, number_at, row_has, IsRowOf, above_has, above_made, face_has, face_made, is_made, is_made_at, is_number, is_or_has, lib_number, listed_number, made_in, number_in, number_of, row_in, supers_have, supers_made}
use Rattle.jresolution.specs.jprogram.NameChecks.{in_class, naming_fault, naming_test, reserved_test, stands_before, taken_test}
use Rattle.jresolution.specs.jprogram.OrderedPrograms.{StandsInOrder}
use Rattle.jresolution.proofs.JprogramProofs.BitLaws.{has_nothing}
use Rattle.jresolution.proofs.JprogramProofs.CycleSearch.{all_weaken}
use Rattle.jresolution.proofs.JprogramProofs.SearchTermination.{above_faces, faces_at}
use Rattle.jresolution.proofs.JprogramProofs.InterfaceSearch.{only_runnable, place_there, slice_get-within, some_is}
use Rattle.jresolution.proofs.JprogramProofs.SuperclassOrder.{above_lower}
use Rattle.jresolution.proofs.JprogramProofs.InterfaceNumbers.{face_numbered, one_face}
use Rattle.jresolution.proofs.JprogramProofs.ImplementedInterfaces.{IsFace, faces_are, faces_lower, implements_next, or_no}
use Rattle.jresolution.proofs.JprogramProofs.NameReachability.{clash, name_equal, name_is, same_bool}
use Rattle.jresolution.proofs.JprogramProofs.ClassHeights.{Libs, Nowhere, Stands, Users, all_behind, fault_none, in_none, lib_find, lower_all, not_taken, or_none, stands, tall, tall_most}

-- ---- lists

any_of_map : {A B : Type 0} (t : B → Bool) (g : A → B) (xs : List A) → list_any t (map g xs) ≡ list_any (λ x. t (g x)) xs
any_of_map t g [] = refl
any_of_map t g (x ∷ xs) = ap (λ (b : Bool). t (g x) || b) (any_of_map t g xs)

none_in : {A : Type 0} (o : Option A) → length (option_to_list o) ≡ 0 → o ≡ None
none_in None e = refl
none_in (Some x) e = absurd (omega (arith, e))

get_there : {A : Type 0} (xs : List A) (i : ℕ) → i < length xs → (x : A) × (slice_get xs i ≡ Some x)
get_there [] i lt = absurd (omega (arith, lt))
get_there (x ∷ xs) zero lt = (x, refl)
get_there (x ∷ xs) (suc i) lt = get_there xs i (omega (arith, lt))

set_same : {A : Type 0} (xs : List A) (i : ℕ) (x : A) → i < length xs → slice_get (slice_set xs i x) i ≡ Some x
set_same [] i x lt = absurd (omega (arith, lt))
set_same (y ∷ ys) zero x lt = refl
set_same (y ∷ ys) (suc i) x lt = set_same ys i x (omega (arith, lt))

set_other : {A : Type 0} (xs : List A) (i j : ℕ) (x : A) → (j ≡ i → ⊥) → slice_get (slice_set xs i x) j ≡ slice_get xs j
set_other [] i j x apart = refl
set_other (y ∷ ys) zero zero x apart = absurd (apart refl)
set_other (y ∷ ys) zero (suc j) x apart = refl
set_other (y ∷ ys) (suc i) zero x apart = refl
set_other (y ∷ ys) (suc i) (suc j) x apart = set_other ys i j x (λ e. apart (ap (λ (k : ℕ). suc k) e))

set_length : {A : Type 0} (xs : List A) (i : ℕ) (x : A) → length (slice_set xs i x) ≡ length xs
set_length [] i x = refl
set_length (y ∷ ys) zero x = refl
set_length (y ∷ ys) (suc i) x = ap (λ (n : ℕ). suc n) (set_length ys i x)

-- ---- by number

number_from : (p : Program) (o : Option Class) → number_in p o ≡ option_and_then (number_at p) (option_map ref_of o)
number_from p None = refl
number_from p (Some (User i c)) = refl
number_from p (Some (Lib c)) = refl

pub number_is : (p : Program) (r : ClassRef) → IsNumber p r → number_of p (name_at p r) ≡ number_at p r
number_is p r e = number_from p (find p (name_at p r)) ∙ ap (option_and_then (number_at p)) e

user_from : (o : Option Class) (j : ℕ) → option_map ref_of o ≡ Some (refs.User j) → (q : ClassParts) × (o ≡ Some (User j q))
user_from None j e = absurd cc
user_from (Some (User i q)) j e = (q, ap (λ (k : ℕ). Some (User k q)) (user_same i j e))
  where
    user_same : (i j : ℕ) → Some (refs.User i) ≡ Some (refs.User j) → i ≡ j
    user_same i j e = cc
user_from (Some (Lib c)) j e = absurd cc

lib_from : (o : Option Class) (l : LibClass) → option_map ref_of o ≡ Some (refs.Lib l) → o ≡ Some (Lib l)
lib_from None l e = absurd cc
lib_from (Some (User i q)) l e = absurd cc
lib_from (Some (Lib c)) l e = ap (λ (x : LibClass). Some (Lib x)) (lib_same c l e)
  where
    lib_same : (c l : LibClass) → Some (refs.Lib c) ≡ Some (refs.Lib l) → c ≡ l
    lib_same c l e = cc

pub user_number_is : (p : Program) (j : ℕ) → IsNumber p (refs.User j) → (q : ClassParts) × (find p (name_at p (refs.User j)) ≡ Some (User j q))
user_number_is p j e = user_from (find p (name_at p (refs.User j))) j e

pub lib_number_found : (p : Program) (l : LibClass) → IsNumber p (refs.Lib l) → find p (name_at p (refs.Lib l)) ≡ Some (Lib l)
lib_number_found p l e = lib_from (find p (name_at p (refs.Lib l))) l e

-- ---- the first of a name

most_at : (b : Bool) (m j : ℕ) → m ≤ j → cond (not b) (1 + m) 0 ≤ suc j
most_at true m j le = omega arith
most_at false m j le = omega (arith, le)

pub position_most : {A : Type 0} (t : A → Bool) (xs : List A) (j : ℕ) (x : A) → slice_get xs j ≡ Some x → t x ≡ true → position_or_len t xs ≤ j
position_most t [] j x at is = absurd cc
position_most t (y ∷ ys) zero x at is =
    let here : t y ≡ true = ap t (some_is y x at) ∙ is in
    rw here (omega arith)
position_most t (y ∷ ys) (suc j) x at is = most_at (t y) (position_or_len t ys) j (position_most t ys j x at is)

-- ---- numbers

lib_at : ℕ → LibClass
lib_at zero = lib.Cloneable
lib_at (suc zero) = lib.Serializable
lib_at (suc (suc zero)) = lib.Runnable
lib_at (suc (suc (suc n))) = lib.PrivilegedAction

lib_number_is : (l : LibClass) (k : ℕ) → lib_number l ≡ Some k → (l ≡ lib_at k) × (k < 4)
unfolding lib_at
lib_number_is lib.Object k e = absurd cc
lib_number_is (lib.Thrown t) k e = absurd cc
lib_number_is lib.AccessControlException k e = absurd cc
lib_number_is lib.String k e = absurd cc
lib_number_is lib.StringBuilder k e = absurd cc
lib_number_is lib.System k e = absurd cc
lib_number_is lib.PrintStream k e = absurd cc
lib_number_is lib.Void k e = absurd cc
lib_number_is lib.Cloneable k e = let is : 0 ≡ k = some_is 0 k e in (ap lib_at is, omega (arith, is))
lib_number_is lib.Serializable k e = let is : 1 ≡ k = some_is 1 k e in (ap lib_at is, omega (arith, is))
lib_number_is lib.Runnable k e = let is : 2 ≡ k = some_is 2 k e in (ap lib_at is, omega (arith, is))
lib_number_is lib.Thread k e = absurd cc
lib_number_is lib.PrivilegedAction k e = let is : 3 ≡ k = some_is 3 k e in (ap lib_at is, omega (arith, is))
lib_number_is lib.AccessController k e = absurd cc
lib_number_is lib.AccessControlContext k e = absurd cc
lib_number_is (lib.Permission t) k e = absurd cc
lib_number_is lib.Rt k e = absurd cc
lib_number_is lib.Ctx k e = absurd cc

no_thrown : (t : Thrown) → library.is_interface (lib.Thrown t) ≡ true → ⊥
no_thrown thrown.Throwable e = cc
no_thrown thrown.Exception e = cc
no_thrown thrown.Error e = cc
no_thrown thrown.RuntimeException e = cc
no_thrown thrown.InterruptedException e = cc
no_thrown thrown.ArithmeticException e = cc
no_thrown thrown.NullPointerException e = cc
no_thrown thrown.ClassCastException e = cc
no_thrown thrown.NegativeArraySizeException e = cc
no_thrown thrown.ArrayStoreException e = cc
no_thrown thrown.IllegalArgumentException e = cc
no_thrown thrown.IllegalStateException e = cc
no_thrown thrown.IndexOutOfBoundsException e = cc
no_thrown thrown.SecurityException e = cc
no_thrown thrown.IllegalThreadStateException e = cc
no_thrown thrown.ArrayIndexOutOfBoundsException e = cc
no_thrown thrown.StringIndexOutOfBoundsException e = cc
no_thrown thrown.LinkageError e = cc
no_thrown thrown.VirtualMachineError e = cc
no_thrown thrown.IncompatibleClassChangeError e = cc
no_thrown thrown.AbstractMethodError e = cc
no_thrown thrown.IllegalAccessError e = cc
no_thrown thrown.StackOverflowError e = cc

no_permission : (t : PermissionClass) → library.is_interface (lib.Permission t) ≡ true → ⊥
no_permission permission.Permission e = cc
no_permission permission.BasicPermission e = cc
no_permission permission.AllPermission e = cc
no_permission permission.RuntimePermission e = cc
no_permission permission.SecurityPermission e = cc
no_permission permission.PropertyPermission e = cc
no_permission permission.FilePermission e = cc

no_number : (k : ℕ) → None ≡ Some k → ⊥
no_number k e = cc

-- the number behind the library's
behind_lib : (o : Option ℕ) (k : ℕ) → option_map (λ n. n + 4) o ≡ Some k → (n : ℕ) × ((o ≡ Some n) × (n + 4 ≡ k))
behind_lib None k e = absurd cc
behind_lib (Some n) k e = (n, (refl, some_is (n + 4) k e))

-- a number is that of one name
one_name_at : (p : Program) (i f : List ℕ) (k : ℕ) → number_of p i ≡ Some k → number_of p f ≡ Some k → Stands p i → Stands p f → i ≡ f
one_name_at p i f k e h (Users a part at name is) (Users b other there called so) =
    let one = behind_lib (face_number p.parts a) k (sym (ap (number_in p) is) ∙ e) in
    let two = behind_lib (face_number p.parts b) k (sym (ap (number_in p) so) ∙ h) in
    let first = one.1.1 in
    let second = two.1.1 in
    let numbers : two.0 ≡ one.0 = omega (arith, first, second) in
    let same : a ≡ b = one_face p.parts a b one.0 one.1.0 (two.1.0 ∙ ap (λ (n : ℕ). Some n) numbers) in
    let parts : part ≡ other = some_is part other (sym at ∙ ap (slice_get p.parts) same ∙ there) in
    sym name ∙ ap (λ (x : CodePart). this_name x.class) parts ∙ called
one_name_at p i f k e h (Users a part at name is) (Libs m named so) =
    let one = (behind_lib (face_number p.parts a) k (sym (ap (number_in p) is) ∙ e)).1.1 in
    let lt = (lib_number_is m k (sym (ap (number_in p) so) ∙ h)).1 in
    absurd (omega (arith, one, lt))
one_name_at p i f k e h (Users a part at name is) (Nowhere none) = absurd (no_number k (sym (ap (number_in p) none) ∙ h))
one_name_at p i f k e h (Libs l known is) (Users b other there called so) =
    let two = (behind_lib (face_number p.parts b) k (sym (ap (number_in p) so) ∙ h)).1.1 in
    let lt = (lib_number_is l k (sym (ap (number_in p) is) ∙ e)).1 in
    absurd (omega (arith, two, lt))
one_name_at p i f k e h (Libs l known is) (Libs m named so) =
    let one = (lib_number_is l k (sym (ap (number_in p) is) ∙ e)).0 in
    let two = (lib_number_is m k (sym (ap (number_in p) so) ∙ h)).0 in
    sym (class_found p.side i l known).0 ∙ ap library.name_of (one ∙ sym two) ∙ (class_found p.side f m named).0
one_name_at p i f k e h (Libs l known is) (Nowhere none) = absurd (no_number k (sym (ap (number_in p) none) ∙ h))
one_name_at p i f k e h (Nowhere none) s = absurd (no_number k (sym (ap (number_in p) none) ∙ e))

number_same : (p : Program) (i f : List ℕ) (k : ℕ) (o : Option ℕ) → number_of p i ≡ Some k → number_of p f ≡ o → is_number k o ≡ bytes_eq i f
number_same p i f k None e h = sym (false_from_ne_true (bytes_eq i f) (λ same. no_number k (sym h ∙ ap (number_of p) (sym (name_is i f same)) ∙ e)))
number_same p i f k (Some m) e h = same_bool (k == m) (bytes_eq i f)
    (λ same. let is : k ≡ m = eqb-true k m same in
    let names : i ≡ f = one_name_at p i f k e (h ∙ ap (λ (n : ℕ). Some n) (sym is)) (stands p i) (stands p f) in
    ap (bytes_eq i) (sym names) ∙ name_equal i)
    (λ same. eq-eqb k m (some_is k m (sym e ∙ ap (number_of p) (name_is i f same) ∙ h)))

-- the number of a name is put into a row
pub puts_name : (p : Program) (name : List ℕ) (o : Option ℕ) (old new : List ℕ) → o ≡ number_of p name → ((n : ℕ) → has new n ≡ (has old n || is_number n o)) → Adds p (λ i. bytes_eq i name) old new
puts_name p name o old new is h i k e = h k ∙ ap (λ (b : Bool). has old k || b) (number_same p i name k o e (sym is))

-- ---- what is found

user_place : (p : Program) (c : List ℕ) (j : ℕ) (k : ClassParts) (o : Option ℕ) → place_of p.parts c ≡ o → find p c ≡ Some (User j k) → place_of p.parts c ≡ Some j
unfolding find
user_place p c j k None e is = absurd (no_user (library.class_named p.side c) (sym (ap (found_at p c) e) ∙ is))
  where
    no_user : (o : Option LibClass) → option_map Lib o ≡ Some (User j k) → ⊥
    no_user None e = cc
    no_user (Some l) e = cc
user_place p c j k (Some i) e is = e ∙ same (slice_get p.parts i) (sym (ap (found_at p c) e) ∙ is)
  where
    same : (o : Option CodePart) → option_map (λ part. User i part.class) o ≡ Some (User j k) → Some i ≡ Some j
    same None e = absurd cc
    same (Some part) e = cc

pub place_found : (p : Program) (c : List ℕ) (j : ℕ) (k : ClassParts) → find p c ≡ Some (User j k) → place_of p.parts c ≡ Some j
place_found p c j k is = user_place p c j k (place_of p.parts c) refl is

row_some : (o : Option (Option (List ℕ))) (row : List ℕ) → row_in o ≡ Some row → o ≡ Some (Some row)
row_some None row e = absurd cc
row_some (Some None) row e = absurd cc
row_some (Some (Some r)) row e = ap (λ (x : List ℕ). Some (Some x)) (some_is r row e)

-- what is still to be put into a row
pub Rest : Program → (List ℕ → ℕ → Bool) → List ℕ → List ℕ → List ℕ → List ℕ → Type 0
Rest p t xs left row old = (i : List ℕ) (k : ℕ) → number_of p i ≡ Some k → (has row k || list_any (t i) left) ≡ (has old k || list_any (t i) xs)

or_assoc : (a b c : Bool) → ((a || b) || c) ≡ (a || (b || c))
or_assoc true b c = refl
or_assoc false b c = refl

pub rest_begin : (p : Program) (t : List ℕ → ℕ → Bool) (xs row : List ℕ) → Rest p t xs xs row row
unfolding Rest
rest_begin p t xs row i k e = refl

pub rest_next : (p : Program) (t : List ℕ → ℕ → Bool) (xs left rest row new old : List ℕ) (x : ℕ) → left ≡ x ∷ rest → Adds p (λ i. t i x) row new → Rest p t xs left row old → Rest p t xs rest new old
unfolding Rest
rest_next p t xs left rest row new old x is adds R i k e =
    ap (λ (b : Bool). b || list_any (t i) rest) (adds i k e) ∙ or_assoc (has row k) (t i x) (list_any (t i) rest) ∙ sym (ap (λ (ys : List ℕ). has row k || list_any (t i) ys) is) ∙ R i k e

pub rest_end : (p : Program) (t : List ℕ → ℕ → Bool) (xs left row old : List ℕ) → left ≡ [] → Rest p t xs left row old → Adds p (λ i. list_any (t i) xs) old row
unfolding Rest
rest_end p t xs left row old is R i k e = sym (or_no (has row k)) ∙ sym (ap (λ (ys : List ℕ). has row k || list_any (t i) ys) is) ∙ R i k e

drop_suc : (xs : List ℕ) (i d : ℕ) → i < length xs → drop i xs ≡ slice_index_or xs i d ∷ drop (suc i) xs
drop_suc [] i d lt = absurd (omega (arith, lt))
drop_suc (x ∷ xs) zero d lt = refl
drop_suc (x ∷ xs) (suc i) d lt = drop_suc xs i d (omega (arith, lt))

next_is : (i : ℕ) → suc i ≡ i + 1
next_is i = omega arith

drop_next : (xs ys : List ℕ) (i d : ℕ) → ys ≡ xs → i < length ys → drop i xs ≡ slice_index_or ys i d ∷ drop (i + 1) xs
drop_next xs ys i d e lt =
    let size : length ys ≡ length xs = ap (λ (zs : List ℕ). length zs) e in
    drop_suc xs i d (omega (arith, lt, size)) ∙ ap (λ (k : ℕ). slice_index_or xs i d ∷ drop k xs) (next_is i) ∙ ap (λ (zs : List ℕ). slice_index_or zs i d ∷ drop (i + 1) xs) (sym e)

drop_past : (xs : List ℕ) (i : ℕ) → length xs ≤ i → drop i xs ≡ []
drop_past [] zero le = refl
drop_past [] (suc i) le = refl
drop_past (x ∷ xs) zero le = absurd (omega (arith, le))
drop_past (x ∷ xs) (suc i) le = drop_past xs i (omega (arith, le))

pub drop_end : (xs ys : List ℕ) (i : ℕ) → ys ≡ xs → length ys ≤ i → drop i xs ≡ []
drop_end xs ys i e le = let size : length ys ≡ length xs = ap (λ (zs : List ℕ). length zs) e in drop_past xs i (omega (arith, le, size))

-- one more of the interfaces that a class lists
pub faces_next : (p : Program) (rows : List (Option (List ℕ))) (c : ClassParts) (ys : List ℕ) (i : ℕ) (name : List ℕ) (b : Bool) → ys ≡ c.interfaces → i < length ys → name ≡ class_text c.pool (slice_index_or ys i 0) → b ≡ true → b ≡ is_made p rows name
    → list_all (face_made p rows c) (drop i c.interfaces) ≡ list_all (face_made p rows c) c.interfaces → list_all (face_made p rows c) (drop (i + 1) c.interfaces) ≡ list_all (face_made p rows c) c.interfaces
faces_next p rows c ys i name b e lt is holds_so made so =
    let here : face_made p rows c (slice_index_or ys i 0) ≡ true = ap (is_made p rows) (sym is) ∙ sym made ∙ holds_so in
    sym (ap (list_all (face_made p rows c)) (drop_next c.interfaces ys i 0 e lt) ∙ ap (λ (x : Bool). x && list_all (face_made p rows c) (drop (i + 1) c.interfaces)) here) ∙ so

pub rest_face : (p : Program) (c : ClassParts) (ys : List ℕ) (i : ℕ) (name row new old : List ℕ) → ys ≡ c.interfaces → i < length ys → name ≡ class_text c.pool (slice_index_or ys i 0) → Adds p (λ k. is_or_has p k name) row new
    → Rest p (λ k. face_has p k c) c.interfaces (drop i c.interfaces) row old → Rest p (λ k. face_has p k c) c.interfaces (drop (i + 1) c.interfaces) new old
rest_face p c ys i name row new old e lt is adds R =
    rest_next p (λ k. face_has p k c) c.interfaces (drop i c.interfaces) (drop (i + 1) c.interfaces) row new old (slice_index_or ys i 0) (drop_next c.interfaces ys i 0 e lt) (subst (λ (n : List ℕ). Adds p (λ k. is_or_has p k n) row new) is adds) R

-- a name's number, and then what its class implements
pub adds_both : (p : Program) (s t : List ℕ → Bool) (old mid new : List ℕ) → Adds p s old mid → Adds p t mid new → Adds p (λ i. s i || t i) old new
adds_both p s t old mid new a b i k e = b i k e ∙ ap (λ (c : Bool). c || t i) (a i k e) ∙ or_assoc (has old k) (s i) (t i)

-- a row that was empty
pub row_made : (p : Program) (c : ClassParts) (none mid row : List ℕ) → none ≡ [] → Adds p (λ i. list_any (face_has p i c) c.interfaces) none mid → Adds p (λ i. above_has p i (super_name c)) mid row → IsRowOf p c row
unfolding has
row_made p c none mid row empty a b i k e = b i k e ∙ ap (λ (x : Bool). x || above_has p i (super_name c)) (a i k e ∙ ap (λ (xs : List ℕ). has xs k || list_any (face_has p i c) c.interfaces) empty ∙ ap (λ (x : Bool). x || list_any (face_has p i c) c.interfaces) (has_nothing k))

-- a row of a class is put into a row
pub adds_user : (p : Program) (rows : List (Option (List ℕ))) (name : List ℕ) (j : ℕ) (k : ClassParts) (other old new : List ℕ) → AreRows p rows → find p name ≡ Some (User j k) → row_in (slice_get rows j) ≡ Some other → Joins other old new → Adds p (λ i. implements p name i) old new
adds_user p rows name j k other old new A is at joins i n e =
    joins n ∙ ap (λ (b : Bool). has old n || b) (A.right name j other (place_found p name j k is) (row_some (slice_get rows j) other at) i n e)

-- ---- what is made

-- the rows of all classes that are less tall are made
pub MadeBelow : Program → ℕ → List (Option (List ℕ)) → Type 0
MadeBelow p n rows = (j : ℕ) (part : CodePart) → slice_get p.parts j ≡ Some part → tall p (this_name part.class) < n → is_made_at rows j ≡ true

pub below_none : (p : Program) (rows : List (Option (List ℕ))) → MadeBelow p 0 rows
unfolding MadeBelow
below_none p rows j part at lt = absurd (omega (arith, lt))

made_kept : (rows new : List (Option (List ℕ))) (o : Option Class) → Keeps rows new → made_in rows o ≡ true → made_in new o ≡ true
made_kept rows new None keep e = refl
made_kept rows new (Some (User i c)) keep e = keep i e
made_kept rows new (Some (Lib c)) keep e = refl

all_kept : {A : Type 0} (s t : A → Bool) (xs : List A) → ((x : A) → s x ≡ true → t x ≡ true) → list_all s xs ≡ true → list_all t xs ≡ true
all_kept s t [] h e = refl
all_kept s t (x ∷ xs) h e =
    let parts = and_parts (s x) (list_all s xs) e in
    let one : t x ≡ true = h x parts.0 in
    rw one (all_kept s t xs h parts.1)

above_kept : (p : Program) (rows new : List (Option (List ℕ))) (o : Option (List ℕ)) → Keeps rows new → above_made p rows o ≡ true → above_made p new o ≡ true
above_kept p rows new None keep e = refl
above_kept p rows new (Some name) keep e = made_kept rows new (find p name) keep e

supers_kept : (p : Program) (rows new : List (Option (List ℕ))) (c : ClassParts) → Keeps rows new → supers_made p rows c ≡ true → supers_made p new c ≡ true
supers_kept p rows new c keep e =
    let parts = and_parts (list_all (face_made p rows c) c.interfaces) (above_made p rows (super_name c)) e in
    let faces = all_kept (face_made p rows c) (face_made p new c) c.interfaces (λ k h. made_kept rows new (find p (class_text c.pool k)) keep h) parts.0 in
    let over = above_kept p rows new (super_name c) keep parts.1 in
    rw (faces, over) refl

-- a row is put into the table
made_set : (rows : List (Option (List ℕ))) (j : ℕ) (row : List ℕ) → j < length rows → is_made_at (slice_set rows j (Some row)) j ≡ true
made_set rows j row lt = ap (λ (o : Option (Option (List ℕ))). is_some (row_in o)) (set_same rows j (Some row) lt)

keeps_at : (rows : List (Option (List ℕ))) (j : ℕ) (row : List ℕ) (i : ℕ) → j < length rows → is_made_at rows i ≡ true → (i ≡ j) ⊎ (i ≡ j → ⊥) → is_made_at (slice_set rows j (Some row)) i ≡ true
keeps_at rows j row i lt e (inl same) = ap (is_made_at (slice_set rows j (Some row))) same ∙ made_set rows j row lt
keeps_at rows j row i lt e (inr apart) = ap (λ (o : Option (Option (List ℕ))). is_some (row_in o)) (set_other rows j i (Some row) apart) ∙ e

within_rows : (p : Program) (rows : List (Option (List ℕ))) (j : ℕ) (part : CodePart) → AreRows p rows → slice_get p.parts j ≡ Some part → j < length rows
within_rows p rows j part A at = let size = A.each in let lt = slice_get-within p.parts j part at in omega (arith, size, lt)

pub keeps_set : (p : Program) (rows new : List (Option (List ℕ))) (j : ℕ) (part : CodePart) (row : List ℕ) → AreRows p rows → slice_get p.parts j ≡ Some part → new ≡ slice_set rows j (Some row) → Keeps rows new
keeps_set p rows new j part row A at e i made = ap (λ (rs : List (Option (List ℕ))). is_made_at rs i) e ∙ keeps_at rows j row i (within_rows p rows j part A at) made (cases_eq i j)

pub readies_set : (p : Program) (rows new : List (Option (List ℕ))) (j : ℕ) (part : CodePart) (row : List ℕ) → AreRows p rows → slice_get p.parts j ≡ Some part → new ≡ slice_set rows j (Some row) → Readies p j rows new
readies_set p rows new j part row A at e other there made = ap (λ (rs : List (Option (List ℕ))). is_made_at rs j) e ∙ made_set rows j row (within_rows p rows j part A at)

-- the part at a place, by what a slice gives
pub part_at : (p : Program) (ys : List CodePart) (j : ℕ) (part : CodePart) → ys ≡ p.parts → j < length ys → part ≡ get_or ys j part → slice_get p.parts j ≡ Some part
part_at p ys j part e lt is = ap (λ (xs : List CodePart). slice_get xs j) (sym e) ∙ slice_get-get_or ys j part lt ∙ ap (λ (x : CodePart). Some x) (sym is)

-- no row is made where one that it takes isn't
pub readies_none : (p : Program) (rows seen_rows : List (Option (List ℕ))) (j : ℕ) (part : CodePart) (c : ClassParts) (o : Option (List ℕ)) → slice_get p.parts j ≡ Some part → c ≡ part.class → seen_rows ≡ rows → is_some o ≡ supers_made p seen_rows c → o ≡ None → Readies p j rows rows
readies_none p rows seen_rows j part c o at cls same made none other there ready =
    let one : part ≡ other = some_is part other (sym at ∙ there) in
    let here : supers_made p seen_rows c ≡ true = ap (supers_made p seen_rows) (cls ∙ ap (λ (x : CodePart). x.class) one) ∙ ap (λ (rs : List (Option (List ℕ))). supers_made p rs other.class) same ∙ ready in
    clash (is_some o) (made ∙ here) (ap is_some none)

pub steps_end : (n m k : ℕ) → n ≡ m + 1 → n ≤ k → m < k
steps_end n m k e le = omega (arith, e, le)

-- what a round has come to
pub record Rounding (p : Program) (old : List (Option (List ℕ))) (j : ℕ) (rows : List (Option (List ℕ))) : Type 0 where
  pub rows_are : AreRows p rows
  pub keeps : Keeps old rows
  pub made : (m : ℕ) → m < j → Readies p m old rows

pub round_begin : (p : Program) (rows : List (Option (List ℕ))) → AreRows p rows → Rounding p rows 0 rows
round_begin p rows A = record { rows_are = A; keeps = λ i e. e; made = λ m lt. absurd (omega (arith, lt)) }

round_made : (p : Program) (old : List (Option (List ℕ))) (j : ℕ) (rows new : List (Option (List ℕ))) → Rounding p old j rows → Keeps rows new → Readies p j rows new → (m : ℕ) → m < j + 1 → (m ≡ j) ⊎ (m ≡ j → ⊥) → Readies p m old new
round_made p old j rows new R keep ready m lt (inl same) part at made =
    subst (λ (i : ℕ). is_made_at new i ≡ true) (sym same) (ready part (ap (slice_get p.parts) (sym same) ∙ at) (supers_kept p old rows part.class R.keeps made))
round_made p old j rows new R keep ready m lt (inr apart) part at made = keep m (R.made m (less m j lt apart) part at made)
  where
    less : (m j : ℕ) → m < j + 1 → (m ≡ j → ⊥) → m < j
    less m j lt apart = elim (cases_lt m j) [ inl l ↦ l | inr g ↦ absurd (apart (omega (arith, lt, g))) ]

pub round_next : (p : Program) (old : List (Option (List ℕ))) (j : ℕ) (rows new : List (Option (List ℕ))) → Rounding p old j rows → AreRows p new → Keeps rows new → Readies p j rows new → Rounding p old (j + 1) new
round_next p old j rows new R A keep ready = record {
  rows_are = A;
  keeps = λ i e. keep i (R.keeps i e);
  made = λ m lt. round_made p old j rows new R keep ready m lt (cases_eq m j);
}

pub round_end : (p : Program) (old : List (Option (List ℕ))) (j : ℕ) (rows : List (Option (List ℕ))) → Rounding p old j rows → length p.parts ≤ j → (m : ℕ) → Readies p m old rows
round_end p old j rows R le m part at made = let within = slice_get-within p.parts m part at in R.made m (omega (arith, le, within)) part at made

-- ---- a table without rows

pub none_pushed : (rows : List (Option (List ℕ))) → ((i : ℕ) → is_made_at rows i ≡ false) → (i : ℕ) → is_made_at (rows ++ None ∷ []) i ≡ false
none_pushed [] h zero = refl
none_pushed [] h (suc i) = refl
none_pushed (row ∷ rows) h zero = h 0
none_pushed (row ∷ rows) h (suc i) = none_pushed rows (λ k. h (suc k)) i

pub none_rows : (p : Program) (rows : List (Option (List ℕ))) → length rows ≡ length p.parts → ((i : ℕ) → is_made_at rows i ≡ false) → AreRows p rows
none_rows p rows size none = record {
  each = size;
  right = λ c j row place at. clash (is_made_at rows j) (ap (λ (o : Option (Option (List ℕ))). is_some (row_in o)) at) (none j);
}

-- two facts of a result give a third
pub if_ok_both : {A E : Type 0} (r : Result A E) (P Q R : A → Type 0) → ((x : A) → P x → Q x → R x) → IfOk r P → IfOk r Q → IfOk r R
if_ok_both (Ok x) P Q R h a b = h x a b
if_ok_both (Err e) P Q R h a b = tt

adds_by : (p : Program) (rows : List (Option (List ℕ))) (name : List ℕ) (j : ℕ) (k : ClassParts) (old new : List ℕ) (o : Option (List ℕ)) (b : Bool) → AreRows p rows → find p name ≡ Some (User j k) → row_in (slice_get rows j) ≡ o → b ≡ is_some o → (b ≡ true → IfSome o (λ other. Joins other old new)) → b ≡ true → Adds p (λ i. implements p name i) old new
adds_by p rows name j k old new None b A is at made added e = clash b e made
adds_by p rows name j k old new (Some other) b A is at made added e = adds_user p rows name j k other old new A is at (added e)

pub adds_found : (p : Program) (rows : List (Option (List ℕ))) (name : List ℕ) (j : ℕ) (k : ClassParts) (old new : List ℕ) (b : Bool) → AreRows p rows → find p name ≡ Some (User j k) → b ≡ is_some (row_in (slice_get rows j)) → (b ≡ true → IfSome (row_in (slice_get rows j)) (λ other. Joins other old new)) → b ≡ true → Adds p (λ i. implements p name i) old new
adds_found p rows name j k old new b A is made added e = adds_by p rows name j k old new (row_in (slice_get rows j)) b A is refl made added e

-- what was found, by what it is seen as
pub seen_user : (p : Program) (name : List ℕ) (o : Option FoundClass) (f : FoundClass) (j : ℕ) (q : Bor ClassParts) → option_map seen o ≡ find p name → o ≡ Some f → f ≡ found.User j q → find p name ≡ Some (User j q.now)
seen_user p name o f j q e is same = sym e ∙ ap (option_map seen) is ∙ ap (λ (x : FoundClass). Some (seen x)) same

pub seen_lib : (p : Program) (name : List ℕ) (o : Option FoundClass) (f : FoundClass) (l : LibClass) → option_map seen o ≡ find p name → o ≡ Some f → f ≡ found.Lib l → find p name ≡ Some (Lib l)
seen_lib p name o f l e is same = sym e ∙ ap (option_map seen) is ∙ ap (λ (x : FoundClass). Some (seen x)) same

pub seen_none : (p : Program) (name : List ℕ) (o : Option FoundClass) → option_map seen o ≡ find p name → o ≡ None → find p name ≡ None
seen_none p name o e is = sym e ∙ ap (option_map seen) is

-- ---- programs whose classes stand in order

module _ (p : Program) (good : StandsInOrder p) where
  -- what a class implements, by what was found
  by_class : (i c : List ℕ) (o : Option Class) → find p c ≡ o → implements p c i ≡ (list_any (is_or_has p i) (faces_of o) || above_has p i (option_and_then above o))
  by_class i c o is = implements_next p good i c ∙ ap (λ (q : Option Class). list_any (is_or_has p i) (faces_of q) || above_has p i (option_and_then above q)) is

  -- ---- the library

  above_none : (i : List ℕ) (o : Option LibClass) → ((s : LibClass) → o ≡ Some s → implements p (library.name_of s) i ≡ false) → above_has p i (option_map library.name_of o) ≡ false
  above_none i None h = refl
  above_none i (Some s) h = h s refl

  no_faces : (l s : LibClass) → library.superclass l ≡ Some s → library.implemented s ≡ None
  no_faces l s e = none_in (library.implemented s) (ap faces_at (sym e) ∙ above_faces l)

  lib_none : (n : ℕ) (i c : List ℕ) (l : LibClass) → library.height l < n → library.implemented l ≡ None → find p c ≡ Some (Lib l) → implements p c i ≡ false
  lib_none zero i c l lt none is = absurd (omega (arith, lt))
  lib_none (suc n) i c l lt none is =
      by_class i c (Some (Lib l)) is
      ∙ ap (λ (o : Option LibClass). list_any (is_or_has p i) (option_to_list (option_map library.name_of o)) || above_has p i (option_map library.name_of (library.superclass l))) none
      ∙ above_none i (library.superclass l) (λ s e. let less = lower l s e in lib_none n i (library.name_of s) s (omega (arith, lt, less)) (no_faces l s e) (lib_find p (not_taken p good) s ((class_above p.side l s e).1)))

  lib_none_at : (i c : List ℕ) (l : LibClass) → library.implemented l ≡ None → find p c ≡ Some (Lib l) → implements p c i ≡ false
  lib_none_at i c l none is = lib_none (suc (library.height l)) i c l (omega arith) none is

  face_none : (l f : LibClass) → library.implemented l ≡ Some f → library.implemented f ≡ None
  face_none l f e = ap library.implemented (only_runnable l f e) ∙ runnable
    where
      runnable : library.implemented lib.Runnable ≡ None
      runnable = refl

  lib_face : (i : List ℕ) (k : ℕ) (l : LibClass) (o : Option LibClass) → number_of p i ≡ Some k → library.implemented l ≡ o → list_any (is_or_has p i) (option_to_list (option_map library.name_of o)) ≡ is_number k (option_and_then lib_number o)
  lib_face i k l None e is = refl
  lib_face i k l (Some f) e is =
      let at : find p (library.name_of f) ≡ Some (Lib f) = lib_find p (not_taken p good) f ((class_implements p.side l f is).1) in
      or_no (is_or_has p i (library.name_of f))
      ∙ ap (λ (b : Bool). bytes_eq i (library.name_of f) || b) (lib_none_at i (library.name_of f) f (face_none l f is) at)
      ∙ or_no (bytes_eq i (library.name_of f))
      ∙ sym (number_same p i (library.name_of f) k (lib_number f) e (ap (number_in p) at))

  -- what a class of the library implements: what it lists
  pub lib_has : (i c : List ℕ) (k : ℕ) (l : LibClass) → number_of p i ≡ Some k → find p c ≡ Some (Lib l) → implements p c i ≡ is_number k (listed_number l)
  lib_has i c k l e is =
      by_class i c (Some (Lib l)) is
      ∙ ap (λ (b : Bool). b || above_has p i (option_map library.name_of (library.superclass l))) (lib_face i k l (library.implemented l) e refl)
      ∙ ap (λ (b : Bool). is_number k (listed_number l) || b) (above_none i (library.superclass l) (λ s h. lib_none_at i (library.name_of s) s (no_faces l s h) (lib_find p (not_taken p good) s ((class_above p.side l s h).1))))
      ∙ or_no (is_number k (listed_number l))

  pub nowhere_has : (i c : List ℕ) → find p c ≡ None → implements p c i ≡ false
  nowhere_has i c none = by_class i c None none

  -- ---- rows

  pub adds_lib : (name : List ℕ) (l : LibClass) (old new : List ℕ) → find p name ≡ Some (Lib l) → ((n : ℕ) → has new n ≡ (has old n || is_number n (listed_number l))) → Adds p (λ i. implements p name i) old new
  adds_lib name l old new is h i k e = h k ∙ ap (λ (b : Bool). has old k || b) (sym (lib_has i name k l e is))

  pub adds_none : (name row : List ℕ) → find p name ≡ None → Adds p (λ i. implements p name i) row row
  adds_none name row none i k e = sym (ap (λ (b : Bool). has row k || b) (nowhere_has i name none) ∙ or_no (has row k))

  user_has : (i c : List ℕ) (j : ℕ) (k : ClassParts) → find p c ≡ Some (User j k) → implements p c i ≡ supers_have p i k
  user_has i c j k is = by_class i c (Some (User j k)) is ∙ ap (λ (b : Bool). b || above_has p i (super_name k)) (any_of_map (is_or_has p i) (class_text k.pool) k.interfaces)

  -- the part of a name
  pub found_part : (c : List ℕ) (j : ℕ) (part : CodePart) → place_of p.parts c ≡ Some j → slice_get p.parts j ≡ Some part → find p c ≡ Some (User j part.class)
  unfolding find
  found_part c j part e at = ap (found_at p c) e ∙ ap (option_map (λ (x : CodePart). User j x.class)) at

  set_right : (rows : List (Option (List ℕ))) (j : ℕ) (part : CodePart) (row : List ℕ) → AreRows p rows → slice_get p.parts j ≡ Some part → IsRowOf p part.class row
      → (c : List ℕ) (m : ℕ) (one : List ℕ) → place_of p.parts c ≡ Some m → slice_get (slice_set rows j (Some row)) m ≡ Some (Some one) → (m ≡ j) ⊎ (m ≡ j → ⊥) → IsRow p c one
  set_right rows j part row A at right c m one place made (inl same) i k e =
      let size = A.each in
      let within = slice_get-within p.parts j part at in
      let here : slice_get (slice_set rows j (Some row)) m ≡ Some (Some row) = ap (slice_get (slice_set rows j (Some row))) same ∙ set_same rows j (Some row) (omega (arith, size, within)) in
      let is : row ≡ one = some_is row one (some_is (Some row) (Some one) (sym here ∙ made)) in
      ap (λ (r : List ℕ). has r k) (sym is) ∙ right i k e ∙ sym (user_has i c j part.class (found_part c j part (place ∙ ap (λ (n : ℕ). Some n) same) at))
  set_right rows j part row A at right c m one place made (inr apart) i k e = A.right c m one place (sym (set_other rows j m (Some row) apart) ∙ made) i k e

  -- a row that is made is put into the table
  pub sets_row : (rows : List (Option (List ℕ))) (j : ℕ) (part : CodePart) (row : List ℕ) → AreRows p rows → slice_get p.parts j ≡ Some part → IsRowOf p part.class row → AreRows p (slice_set rows j (Some row))
  sets_row rows j part row A at right = record {
    each = set_length rows j (Some row) ∙ A.each;
    right = λ c m one place made. set_right rows j part row A at right c m one place made (cases_eq m j);
  }

  -- ---- all come to be made

  pub own_place : (j : ℕ) (part : CodePart) → slice_get p.parts j ≡ Some part → place_of p.parts (this_name part.class) ≡ Some j
  unfolding naming_fault taken_test place_of
  own_place j part at =
      let t = λ (x : CodePart). bytes_eq (this_name x.class) (this_name part.class) in
      let most : position_or_len t p.parts ≤ j = position_most t p.parts j part at (name_equal (this_name part.class)) in
      let within = slice_get-within p.parts j part at in
      let is : place_of p.parts (this_name part.class) ≡ Some (position_or_len t p.parts) = ap (λ (b : Bool). cond b (Some (position_or_len t p.parts)) None) (lt-ltb (position_or_len t p.parts) (length p.parts) (omega (arith, most, within))) in
      let one : naming_test p j part ≡ None = in_none j (naming_test p j part) (none_fails (λ i part. in_class i (naming_test p i part)) p.parts j part good.named at) in
      let two : taken_test p j part.class ≡ None = (none_of (reserved_test p part.class) (taken_test p j part.class) one).1 in
      let no : stands_before p.parts j (this_name part.class) ≡ false = (or_none (is_some (library.class_named p.side (this_name part.class))) (stands_before p.parts j (this_name part.class)) (fault_none (is_some (library.class_named p.side (this_name part.class)) || stands_before p.parts j (this_name part.class)) Twice two)).1 in
      let least : j ≤ position_or_len t p.parts = ltb-false (position_or_len t p.parts) j (sym (ap (is_before_at j) is) ∙ no) in
      is ∙ ap (λ (n : ℕ). Some n) (omega (arith, most, least))
    where
      is_before_at : ℕ → Option ℕ → Bool
      is_before_at i None = false
      is_before_at i (Some first) = nat_lt first i

  made_one : (n : ℕ) (rows : List (Option (List ℕ))) (s : List ℕ) → MadeBelow p n rows → tall p s < n → Stands p s → is_made p rows s ≡ true
  unfolding MadeBelow
  made_one n rows s h lt (Users j part at name is) = ap (made_in rows) is ∙ h j part at (subst (λ (c : List ℕ). tall p c < n) (sym name) lt)
  made_one n rows s h lt (Libs l named is) = ap (made_in rows) is
  made_one n rows s h lt (Nowhere none) = ap (made_in rows) none

  all_true : {A : Type 0} (t : A → Bool) (xs : List A) → AllByRecursion (λ x. t x ≡ true) xs → list_all t xs ≡ true
  all_true t [] all = refl
  all_true t (x ∷ xs) all = let one = all.0 in rw one (all_true t xs all.1)

  all_front : {A : Type 0} (P : A → Type 0) (xs ys : List A) → AllByRecursion P (xs ++ ys) → AllByRecursion P xs
  all_front P [] ys all = tt
  all_front P (x ∷ xs) ys all = (all.0, all_front P xs ys all.1)

  all_from_map : {A B : Type 0} (P : B → Type 0) (g : A → B) (xs : List A) → AllByRecursion P (map g xs) → AllByRecursion (λ x. P (g x)) xs
  all_from_map P g [] all = tt
  all_from_map P g (x ∷ xs) all = (all.0, all_from_map P g xs all.1)

  above_of : (rows : List (Option (List ℕ))) (o : Option (List ℕ)) → AllByRecursion (λ s. is_made p rows s ≡ true) (option_to_list o) → above_made p rows o ≡ true
  above_of rows None all = refl
  above_of rows (Some s) all = all.0

  -- then those of what stands directly above one that is taller by one are made
  pub supers_ready : (n : ℕ) (rows : List (Option (List ℕ))) (j : ℕ) (part : CodePart) → MadeBelow p n rows → slice_get p.parts j ≡ Some part → tall p (this_name part.class) < n + 1 → supers_made p rows part.class ≡ true
  supers_ready n rows j part h at lt =
      let is = found_part (this_name part.class) j part (own_place j part at) at in
      let all = all_weaken (λ s. tall p s < tall p (this_name part.class)) (λ s. is_made p rows s ≡ true) (λ s less. made_one n rows s h (omega (arith, lt, less)) (stands p s)) (supers p (this_name part.class)) (lower_all p good (this_name part.class)) in
      let here = subst (λ (o : Option Class). AllByRecursion (λ s. is_made p rows s ≡ true) (supers_of o)) is all in
      let faces = all_true (face_made p rows part.class) part.class.interfaces (all_from_map (λ s. is_made p rows s ≡ true) (class_text part.class.pool) part.class.interfaces (all_behind (λ s. is_made p rows s ≡ true) (option_to_list (super_name part.class)) (interface_names part.class) here)) in
      let over = above_of rows (super_name part.class) (all_front (λ s. is_made p rows s ≡ true) (option_to_list (super_name part.class)) (interface_names part.class) here) in
      rw (faces, over) refl

  some_made : (rows : List (Option (List ℕ))) → ((j : ℕ) → j < length rows → is_made_at rows j ≡ true) → list_all is_some rows ≡ true
  some_made [] h = refl
  some_made (row ∷ rows) h =
      let one = here row (h 0 (omega arith)) in
      rw one (some_made rows (λ j lt. h (suc j) (omega (arith, lt))))
    where
      here : (row : Option (List ℕ)) → is_some (row_in (Some row)) ≡ true → is_some row ≡ true
      here None e = e
      here (Some r) e = refl

  -- so as many rounds as there are known names, and one more, make all
  pub all_made : (rows : List (Option (List ℕ))) (n : ℕ) → length (known p) < n → AreRows p rows → MadeBelow p n rows → AreInterfaces p rows
  unfolding MadeBelow
  all_made rows n lt A h = record {
    made = A;
    all = some_made rows (λ j within.
        let size = A.each in
        let there = get_there p.parts j (omega (arith, size, within)) in
        let most = tall_most p (this_name there.0.class) in
        h j there.0 there.1 (omega (arith, most, lt)));
  }

  pub below_next : (n : ℕ) (rows new : List (Option (List ℕ))) → MadeBelow p n rows → ((j : ℕ) → Readies p j rows new) → MadeBelow p (n + 1) new
  unfolding MadeBelow
  below_next n rows new h ready j part at lt = ready j part at (supers_ready n rows j part h at lt)

  -- ---- what the table says

  face_of_lib : (l : LibClass) → library.is_interface l ≡ true → is_some (lib_number l) ≡ true
  face_of_lib lib.Object e = absurd cc
  face_of_lib (lib.Thrown t) e = absurd (no_thrown t e)
  face_of_lib lib.AccessControlException e = absurd cc
  face_of_lib lib.String e = absurd cc
  face_of_lib lib.StringBuilder e = absurd cc
  face_of_lib lib.System e = absurd cc
  face_of_lib lib.PrintStream e = absurd cc
  face_of_lib lib.Void e = absurd cc
  face_of_lib lib.Cloneable e = refl
  face_of_lib lib.Serializable e = refl
  face_of_lib lib.Runnable e = refl
  face_of_lib lib.Thread e = absurd cc
  face_of_lib lib.PrivilegedAction e = refl
  face_of_lib lib.AccessController e = absurd cc
  face_of_lib lib.AccessControlContext e = absurd cc
  face_of_lib (lib.Permission t) e = absurd (no_permission t e)
  face_of_lib lib.Rt e = absurd cc
  face_of_lib lib.Ctx e = absurd cc

  face_number_is : (f : List ℕ) → Stands p f → IsFace p good f → is_some (number_of p f) ≡ true
  face_number_is f (Users i part at name is) h =
      let some = face_numbered p.parts i part at (sym (ap (holds is_interface) is) ∙ h) in
      ap (λ (o : Option Class). is_some (number_in p o)) is ∙ ap (λ (o : Option ℕ). is_some (option_map (λ n. n + 4) o)) some
  face_number_is f (Libs l named is) h = ap (λ (o : Option Class). is_some (number_in p o)) is ∙ face_of_lib l (sym (ap (holds is_interface) is) ∙ h)
  face_number_is f (Nowhere none) h = clash (holds is_interface (find p f)) h (ap (holds is_interface) none)

  none_any : {A : Type 0} (t : A → Bool) (xs : List A) → AllByRecursion (λ x. t x ≡ false) xs → list_any t xs ≡ false
  none_any t [] all = refl
  none_any t (x ∷ xs) all = let one = all.0 in rw one (none_any t xs all.1)

  both_all : {A : Type 0} (P Q : A → Type 0) (xs : List A) → AllByRecursion P xs → AllByRecursion Q xs → AllByRecursion (λ x. P x × Q x) xs
  both_all P Q [] a b = tt
  both_all P Q (x ∷ xs) a b = ((a.0, b.0), both_all P Q xs a.1 b.1)

  above_has_none : (i : List ℕ) (o : Option (List ℕ)) → ((a : List ℕ) → o ≡ Some a → implements p a i ≡ false) → above_has p i o ≡ false
  above_has_none i None h = refl
  above_has_none i (Some a) h = h a refl

  not_same : (i f : List ℕ) → is_some (number_of p i) ≡ false → is_some (number_of p f) ≡ true → bytes_eq i f ≡ false
  not_same i f none some = false_from_ne_true (bytes_eq i f) (λ same. clash (is_some (number_of p f)) some (ap (λ (n : List ℕ). is_some (number_of p n)) (sym (name_is i f same)) ∙ none))

  or_both_no : (a b : Bool) → a ≡ false → b ≡ false → (a || b) ≡ false
  or_both_no a b x y = rw (x, y) refl

  unnumbered : (n : ℕ) (i c : List ℕ) → is_some (number_of p i) ≡ false → tall p c < n → implements p c i ≡ false
  unnumbered zero i c none lt = absurd (omega (arith, lt))
  unnumbered (suc n) i c none lt =
      implements_next p good i c
      ∙ or_both_no (list_any (is_or_has p i) (face_names p c)) (above_has p i (above_name p c))
      (none_any (is_or_has p i) (face_names p c) (all_weaken (λ f. (tall p f < tall p c) × IsFace p good f) (λ f. is_or_has p i f ≡ false)
      (λ f h. let less = h.0 in or_both_no (bytes_eq i f) (implements p f i) (not_same i f none (face_number_is f (stands p f) h.1)) (unnumbered n i f none (omega (arith, lt, less)))) (face_names p c)
      (both_all (λ f. tall p f < tall p c) (IsFace p good) (face_names p c) (faces_lower p good c) (faces_are p good c))))
      (above_has_none i (above_name p c) (λ a is. let less = above_lower p good c a is in unnumbered n i a none (omega (arith, lt, less))))

  -- what has no number isn't implemented
  pub no_number_none : (i c : List ℕ) → None ≡ number_of p i → false ≡ implements p c i
  no_number_none i c none = sym (unnumbered (suc (tall p c)) i c (ap is_some (sym none)) (omega arith))

  made_there : (rows : List (Option (List ℕ))) (j : ℕ) → IsTrue (list_all is_some rows) → j < length rows → (row : List ℕ) × (slice_get rows j ≡ Some (Some row))
  made_there [] j all lt = absurd (omega (arith, lt))
  made_there (None ∷ rows) j all lt = absurd cc
  made_there (Some row ∷ rows) zero all lt = (row, refl)
  made_there (Some row ∷ rows) (suc j) all lt = made_there rows j all (omega (arith, lt))

  pub user_answer : (rows : List (Option (List ℕ))) (i c : List ℕ) (j k : ℕ) (q : ClassParts) → AreInterfaces p rows → number_of p i ≡ Some k → find p c ≡ Some (User j q) → row_has (row_in (slice_get rows j)) k ≡ implements p c i
  user_answer rows i c j k q T e is =
      let place = place_found p c j q is in
      let there = place_there p.parts c j place in
      let within = slice_get-within p.parts j there.0 there.1 in
      let size = T.made.each in
      let made = made_there rows j T.all (omega (arith, size, within)) in
      ap (λ (o : Option (Option (List ℕ))). row_has (row_in o) k) made.1 ∙ T.made.right c j made.0 place made.1 i k e

  pub at_user : (rows : List (Option (List ℕ))) (r s : ClassRef) (j k : ℕ) (o : Option ℕ) (b : Bool) → AreInterfaces p rows → IsNumber p r → IsNumber p s → r ≡ refs.User j → o ≡ number_at p s → o ≡ Some k → b ≡ row_has (row_in (slice_get rows j)) k → b ≡ implements p (name_at p r) (name_at p s)
  at_user rows r s j k o b T nr ns is oe os e =
      let there = user_number_is p j (subst (λ (x : ClassRef). IsNumber p x) is nr) in
      e ∙ user_answer rows (name_at p s) (name_at p r) j k there.0 T (number_is p s ns ∙ sym oe ∙ os) (ap (λ (x : ClassRef). find p (name_at p x)) is ∙ there.1)

  pub at_lib : (r s : ClassRef) (l : LibClass) (k : ℕ) (o : Option ℕ) (b : Bool) → IsNumber p r → IsNumber p s → r ≡ refs.Lib l → o ≡ number_at p s → o ≡ Some k → b ≡ is_number k (listed_number l) → b ≡ implements p (name_at p r) (name_at p s)
  at_lib r s l k o b nr ns is oe os e =
      let there = lib_number_found p l (subst (λ (x : ClassRef). IsNumber p x) is nr) in
      e ∙ sym (lib_has (name_at p s) (name_at p r) k l (number_is p s ns ∙ sym oe ∙ os) (ap (λ (x : ClassRef). find p (name_at p x)) is ∙ there))
