-- A search of all that stands above a class ends: each step costs something.
use Rattle.std.proofs.Common.{◌≡◌, ℕ, zero, suc, ◌+◌, ◌<◌, ◌≤◌, Bool, true, false, cond, List, [], ◌∷◌, ◌++◌, length, Option, Some, None, refl, sym, ap, subst, ◌∙◌, arith}
use Rattle.std.specs.Prelude.{option_map, slice_get, slice_set}
use Rattle.std.specs.Option.{option_to_list}
use denote.Ref.{Bor}
use Rattle.jlib.specs.declared.classes.LibClass.{LibClass}
use Rattle.jlib.specs.declared.classes.LibClass.TheVariants as lib
use Rattle.jlib.specs.declared.classes.Thrown.{Thrown}
use Rattle.jlib.specs.declared.classes.Thrown.TheVariants as thrown
use Rattle.jlib.specs.declared.classes.PermissionClass.{PermissionClass}
use Rattle.jlib.specs.declared.classes.PermissionClass.TheVariants as permission
use Rattle.jlib.specs.LibraryClasses as library
use Rattle.jlib.proofs.LibraryLookup.{class_above, class_implements, class_only, lower}
use Rattle.jresolution.specs.declared.jprogram.part.CodePart.{CodePart}
use Rattle.jresolution.specs.jprogram.DirectSupers.{supers_of}
use Rattle.jresolution.specs.jprogram.ProgramClasses.{Class, Lib, Program, User, find, found_at, place_of}
use Rattle.jresolution.specs.jprogram.ProofNames.{supers}
use Rattle.jresolution.specs.jprogram.InterfaceSearch.{closing, closing_at, is_closed, is_closed_at, is_marked, waiting_names}
use Rattle.jresolution.proofs.JprogramProofs.InterfaceSearch.{only_runnable, place_there, slice_get-within, some_is, wait-popped}

-- ---- the library's classes

-- none of them stands below Thread, which alone lists an interface
abbrev pub faces_at : Option LibClass → ℕ
faces_at None = 0
faces_at (Some s) = length (option_to_list (library.implemented s))

thrown_faces : (t : Thrown) → faces_at (library.superclass (lib.Thrown t)) ≡ 0
thrown_faces thrown.Throwable = refl
thrown_faces thrown.Exception = refl
thrown_faces thrown.Error = refl
thrown_faces thrown.RuntimeException = refl
thrown_faces thrown.InterruptedException = refl
thrown_faces thrown.ArithmeticException = refl
thrown_faces thrown.NullPointerException = refl
thrown_faces thrown.ClassCastException = refl
thrown_faces thrown.NegativeArraySizeException = refl
thrown_faces thrown.ArrayStoreException = refl
thrown_faces thrown.IllegalArgumentException = refl
thrown_faces thrown.IllegalStateException = refl
thrown_faces thrown.IndexOutOfBoundsException = refl
thrown_faces thrown.SecurityException = refl
thrown_faces thrown.IllegalThreadStateException = refl
thrown_faces thrown.ArrayIndexOutOfBoundsException = refl
thrown_faces thrown.StringIndexOutOfBoundsException = refl
thrown_faces thrown.LinkageError = refl
thrown_faces thrown.VirtualMachineError = refl
thrown_faces thrown.IncompatibleClassChangeError = refl
thrown_faces thrown.AbstractMethodError = refl
thrown_faces thrown.IllegalAccessError = refl
thrown_faces thrown.StackOverflowError = refl

permission_faces : (t : PermissionClass) → faces_at (library.superclass (lib.Permission t)) ≡ 0
permission_faces permission.Permission = refl
permission_faces permission.BasicPermission = refl
permission_faces permission.AllPermission = refl
permission_faces permission.RuntimePermission = refl
permission_faces permission.SecurityPermission = refl
permission_faces permission.PropertyPermission = refl
permission_faces permission.FilePermission = refl

pub above_faces : (c : LibClass) → faces_at (library.superclass c) ≡ 0
above_faces lib.Object = refl
above_faces (lib.Thrown t) = thrown_faces t
above_faces lib.AccessControlException = refl
above_faces lib.String = refl
above_faces lib.StringBuilder = refl
above_faces lib.System = refl
above_faces lib.PrintStream = refl
above_faces lib.Void = refl
above_faces lib.Cloneable = refl
above_faces lib.Serializable = refl
above_faces lib.Runnable = refl
above_faces lib.Thread = refl
above_faces lib.PrivilegedAction = refl
above_faces lib.AccessController = refl
above_faces lib.AccessControlContext = refl
above_faces (lib.Permission t) = permission_faces t
above_faces lib.Rt = refl
above_faces lib.Ctx = refl

-- what a class of the library may still bring
abbrev extra_of : Option Class → ℕ
extra_of None = 0
extra_of (Some (User i c)) = 0
extra_of (Some (Lib c)) = library.height c + (length (option_to_list (library.implemented c)) + length (option_to_list (library.implemented c)))

-- what a name that waits may still cost
weight : Program → List ℕ → ℕ
weight p d = suc (extra_of (find p d))

pub weigh : Program → List (List ℕ) → ℕ
weigh p [] = 0
weigh p (d ∷ ds) = weight p d + weigh p ds

weigh-append : (p : Program) (xs ys : List (List ℕ)) → weigh p (xs ++ ys) ≡ weigh p xs + weigh p ys
unfolding weigh
weigh-append p [] ys = omega arith
weigh-append p (x ∷ xs) ys = let ih = weigh-append p xs ys in omega arith

user_extra : (o : Option CodePart) (i n : ℕ) → extra_of (option_map (λ part. User i part.class) o) ≤ n
user_extra None i n = omega arith
user_extra (Some part) i n = omega arith

-- a name of the library is a user's class, or that one
lib_extra_at : (p : Program) (s : LibClass) (o : Option ℕ) → library.stands_on p.side s ≡ true → extra_of (found_at p (library.name_of s) o) ≤ extra_of (Some (Lib s))
lib_extra_at p s (Some i) on = user_extra (slice_get p.parts i) i (extra_of (Some (Lib s)))
lib_extra_at p s None on =
    let e : extra_of (option_map Lib (library.class_named p.side (library.name_of s))) ≡ extra_of (Some (Lib s)) = ap (λ (q : Option LibClass). extra_of (option_map Lib q)) (class_only p.side s on) in
    omega (arith, e)

lib_extra : (p : Program) (s : LibClass) → library.stands_on p.side s ≡ true → extra_of (find p (library.name_of s)) ≤ extra_of (Some (Lib s))
unfolding find
lib_extra p s on = lib_extra_at p s (place_of p.parts (library.name_of s)) on

weigh_above : (p : Program) (c : LibClass) (o : Option LibClass) → library.superclass c ≡ o → weigh p (option_to_list (option_map library.name_of o)) ≤ library.height c
unfolding weigh weight
weigh_above p c None e = omega arith
weigh_above p c (Some s) e =
    let on = (class_above p.side c s e).1 in
    let most = lib_extra p s on in
    let none : length (option_to_list (library.implemented s)) ≡ 0 = ap faces_at (sym e) ∙ above_faces c in
    let less : library.height s < library.height c = lower c s e in
    omega (arith, most, none, less)

runnable_extra : extra_of (Some (Lib lib.Runnable)) ≡ 1
runnable_extra = refl

weigh_faces : (p : Program) (c : LibClass) (o : Option LibClass) → library.implemented c ≡ o → weigh p (option_to_list (option_map library.name_of o)) ≤ length (option_to_list o) + length (option_to_list o)
unfolding weigh weight
weigh_faces p c None e = omega arith
weigh_faces p c (Some i) e =
    let most = lib_extra p i ((class_implements p.side c i e).1) in
    let one : extra_of (Some (Lib i)) ≡ 1 = ap (λ (x : LibClass). extra_of (Some (Lib x))) (only_runnable c i e) ∙ runnable_extra in
    omega (arith, most, one)

lib_weigh : (p : Program) (o : Option LibClass) → weigh p (supers_of (option_map Lib o)) ≤ extra_of (option_map Lib o)
unfolding weigh
lib_weigh p None = omega arith
lib_weigh p (Some c) =
    let a = weigh_above p c (library.superclass c) refl in
    let b = weigh_faces p c (library.implemented c) refl in
    let s = weigh-append p (option_to_list (option_map library.name_of (library.superclass c))) (option_to_list (option_map library.name_of (library.implemented c))) in
    omega (arith, a, b, s)

-- ---- the users' classes

abbrev supers_in : CodePart → List (List ℕ)
supers_in part = supers_of (Some (User 0 part.class))

-- what the classes that weren't gone through may still bring
pub unclosed : Program → List CodePart → List Bool → ℕ
unclosed p [] bs = 0
unclosed p (part ∷ ps) [] = weigh p (supers_in part) + unclosed p ps []
unclosed p (part ∷ ps) (b ∷ bs) = cond b 0 (weigh p (supers_in part)) + unclosed p ps bs

-- a class that is gone through brings them once
unclosed_set : (p : Program) (ps : List CodePart) (bs : List Bool) (i : ℕ) (part : CodePart) → slice_get ps i ≡ Some part → is_marked (slice_get bs i) ≡ false → i < length bs → unclosed p ps (slice_set bs i true) + weigh p (supers_in part) ≡ unclosed p ps bs
unfolding unclosed
unclosed_set p [] bs i part at unmarked lt = absurd cc
unclosed_set p (q ∷ ps) [] i part at unmarked lt = absurd (omega arith)
unclosed_set p (q ∷ ps) (true ∷ bs) zero part at unmarked lt = absurd cc
unclosed_set p (q ∷ ps) (false ∷ bs) zero part at unmarked lt = let same : q ≡ part = some_is q part at in rw same (omega arith)
unclosed_set p (q ∷ ps) (b ∷ bs) (suc i) part at unmarked lt = let ih = unclosed_set p ps bs i part at unmarked (omega arith) in omega arith

-- ---- each step costs

abbrev pub Climb : Program → List (List ℕ) → List Bool → ℕ
Climb p ws closed = weigh p ws + unclosed p p.parts closed

skip_costs : (p : Program) (d : List ℕ) (ds : List (List ℕ)) (closed : List Bool) → Climb p ds closed < Climb p (d ∷ ds) closed
unfolding weigh weight
skip_costs p d ds closed = omega arith

visit_user : (p : Program) (d : List ℕ) (ds : List (List ℕ)) (closed : List Bool) (i : ℕ) (part : CodePart) → slice_get p.parts i ≡ Some part → i < length closed → is_marked (slice_get closed i) ≡ false → find p d ≡ Some (User i part.class)
    → Climb p (supers p d ++ ds) (slice_set closed i true) < Climb p (d ∷ ds) closed
unfolding weigh weight
visit_user p d ds closed i part at lt unmarked is =
    let names : supers p d ≡ supers_in part = ap supers_of is in
    let split : weigh p (supers p d ++ ds) ≡ weigh p (supers_in part) + weigh p ds = ap (λ (es : List (List ℕ)). weigh p (es ++ ds)) names ∙ weigh-append p (supers_in part) ds in
    let less : unclosed p p.parts (slice_set closed i true) + weigh p (supers_in part) ≡ unclosed p p.parts closed = unclosed_set p p.parts closed i part at unmarked lt in
    omega (arith, split, less)

visit_lib : (p : Program) (d : List ℕ) (ds : List (List ℕ)) (closed : List Bool) → find p d ≡ option_map Lib (library.class_named p.side d) → Climb p (supers p d ++ ds) closed < Climb p (d ∷ ds) closed
unfolding weigh weight
visit_lib p d ds closed is =
    let least : weigh p (supers p d) ≤ extra_of (find p d) = subst (λ (o : Option Class). weigh p (supers_of o) ≤ extra_of o) (sym is) (lib_weigh p (library.class_named p.side d)) in
    let split : weigh p (supers p d ++ ds) ≡ weigh p (supers p d) + weigh p ds = weigh-append p (supers p d) ds in
    omega (arith, split, least)

visit_at : (p : Program) (d : List ℕ) (ds : List (List ℕ)) (closed : List Bool) (o : Option ℕ) → place_of p.parts d ≡ o → length closed ≡ length p.parts → is_closed_at closed o ≡ false → Climb p (supers p d ++ ds) (closing_at closed o) < Climb p (d ∷ ds) closed
unfolding find
visit_at p d ds closed None e each unmarked = visit_lib p d ds closed (ap (found_at p d) e)
visit_at p d ds closed (Some i) e each unmarked =
    let there = place_there p.parts d i e in
    let lt : i < length p.parts = slice_get-within p.parts i there.0 there.1 in
    visit_user p d ds closed i there.0 there.1 (omega arith) unmarked (ap (found_at p d) e ∙ ap (option_map (λ (part : CodePart). User i part.class)) there.1)

visit_costs : (p : Program) (d : List ℕ) (ds : List (List ℕ)) (closed : List Bool) → length closed ≡ length p.parts → is_closed p closed d ≡ false → Climb p (supers p d ++ ds) (closing p closed d) < Climb p (d ∷ ds) closed
visit_costs p d ds closed each unmarked = visit_at p d ds closed (place_of p.parts d) refl each unmarked

-- ---- the steps of the loop, by what its calls say

pub climb_skip_costs : (p : Program) (items more : List (Bor (List ℕ))) (x : Bor (List ℕ)) (closed : List Bool) → items ≡ more ++ x ∷ [] → Climb p (waiting_names more) closed < Climb p (waiting_names items) closed
climb_skip_costs p items more x closed pop = subst (λ (ws : List (List ℕ)). Climb p (waiting_names more) closed < Climb p ws closed) (sym (wait-popped items more x pop)) (skip_costs p x.now (waiting_names more) closed)

pub climb_visit_costs : (p : Program) (items more : List (Bor (List ℕ))) (x : Bor (List ℕ)) (closed now : List Bool) (new : List (List ℕ)) (o : Option Class) → items ≡ more ++ x ∷ [] → length closed ≡ length p.parts → is_closed p closed x.now ≡ false → now ≡ closing p closed x.now → o ≡ find p x.now
    → new ≡ supers_of o ++ waiting_names more → Climb p new now < Climb p (waiting_names items) closed
climb_visit_costs p items more x closed now new o pop each unmarked marks is put =
    let all : new ≡ supers p x.now ++ waiting_names more = put ∙ ap (λ (q : Option Class). supers_of q ++ waiting_names more) is in
    subst (λ (ws : List (List ℕ)). Climb p new now < Climb p ws closed) (sym (wait-popped items more x pop))
    (subst (λ (ws : List (List ℕ)). Climb p ws now < Climb p (x.now ∷ waiting_names more) closed) (sym all)
    (subst (λ (bs : List Bool). Climb p (supers p x.now ++ waiting_names more) bs < Climb p (x.now ∷ waiting_names more) closed) (sym marks) (visit_costs p x.now (waiting_names more) closed each unmarked)))
