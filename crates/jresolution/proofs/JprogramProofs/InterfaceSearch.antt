-- A search of interfaces, step by step: what it keeps, and that it ends.
use Rattle.std.proofs.Common.{◌≡◌, ℕ, zero, suc, ◌+◌, ◌-◌, ◌<◌, ◌≤◌, ◌⊎◌, Bool, true, false, cond, List, [], ◌∷◌, ◌++◌, length, get_or, drop, take, Option, Some, None, refl, sym, ap, subst, ◌∙◌, arith, inl, inr}
use Rattle.std.specs.Prelude.{codes, nat_lt, option_map, slice_get, slice_set}
use Rattle.std.specs.Option.{option_to_list}
use Rattle.std.specs.Str.{bytes_eq}
use Rattle.std.proofs.lemmas.List.Quantifiers.{position-Some}
use Rattle.std.proofs.lemmas.Option.{slice_get-get_or}
use Rattle.std.proofs.lemmas.Slice.Eq.{bytes_eq-Decides}
use Rattle.jground.specs.jbase.FirstFaults.{or_else}
use Rattle.jlib.specs.declared.classes.LibClass.{LibClass}
use Rattle.jlib.specs.declared.classes.LibClass.TheVariants as lib
use Rattle.jlib.specs.declared.classes.Thrown.{Thrown}
use Rattle.jlib.specs.declared.classes.Thrown.TheVariants as thrown
use Rattle.jlib.specs.declared.classes.PermissionClass.{PermissionClass}
use Rattle.jlib.specs.declared.classes.PermissionClass.TheVariants as permission
use Rattle.jlib.specs.declared.side.Side.{Side}
use Rattle.jlib.specs.declared.side.Side.TheVariants.{Source, Passing}
use Rattle.jlib.specs.LibraryClasses as library
use Rattle.jresolution.specs.declared.jprogram.member.Member.{Member}
use Rattle.jresolution.specs.declared.jprogram.part.CodePart.{CodePart}
use Rattle.jresolution.specs.jprogram.ClassFileParts.{interface_names, this_name}
use Rattle.jresolution.specs.jprogram.ProgramClasses.{Class, Lib, Program, User, face_names, faces, find, found_at, known, place_of, faces_of}
use denote.Ref.{Bor}
use Rattle.jresolution.specs.jprogram.InterfaceSearch.{AreClosed, IsLayered, closing, closing_at, is_closed, is_closed_at, is_marked, waiting_names}
use Rattle.jresolution.proofs.JprogramProofs.Search.{Along, Below, Settled, again_none, along-append, along-cons, along-faces, along-none, all-append, below-head, below-tail, faces-below, settled_begin, settled_end, settled_new, settled_skip, settled_visit}

-- ---- marks

-- two names of one place are one name
pub place_named : (parts : List CodePart) (name : List ℕ) (i : ℕ) (d : CodePart) → place_of parts name ≡ Some i → this_name (get_or parts i d).class ≡ name
unfolding place_of
place_named parts name i d is =
    let at = position-Some (λ part. bytes_eq (this_name part.class) name) parts i d is in
    (bytes_eq-Decides (this_name (get_or parts i d).class) name).0 at.1

no_place : (i : ℕ) (d : List ℕ) → place_of [] d ≡ Some i → ⊥
unfolding place_of
no_place i d e = cc

pub one_name : (parts : List CodePart) (d m : List ℕ) (i : ℕ) → place_of parts d ≡ Some i → place_of parts m ≡ Some i → m ≡ d
one_name [] d m i ed em = absurd (no_place i d ed)
one_name (q ∷ ps) d m i ed em = sym (place_named (q ∷ ps) m i q em) ∙ place_named (q ∷ ps) d i q ed

pub some_is : {A : Type 0} (x y : A) → Some x ≡ Some y → x ≡ y
some_is x y e = cc

set_get : (bs : List Bool) (i j : ℕ) → is_marked (slice_get (slice_set bs i true) j) ≡ true → (is_marked (slice_get bs j) ≡ true) ⊎ (i ≡ j)
set_get [] i j e = inl e
set_get (b ∷ bs) zero zero e = inr refl
set_get (b ∷ bs) zero (suc j) e = inl e
set_get (b ∷ bs) (suc i) zero e = inl e
set_get (b ∷ bs) (suc i) (suc j) e = elim (set_get bs i j e) [ inl h ↦ inl h | inr h ↦ inr (ap (λ (k : ℕ). suc k) h) ]

closed_by : (parts : List CodePart) (closed : List Bool) (d m : List ℕ) (od om : Option ℕ) → place_of parts d ≡ od → place_of parts m ≡ om → is_closed_at (closing_at closed od) om ≡ true → (is_closed_at closed om ≡ true) ⊎ (m ≡ d)
closed_by parts closed d m None om ed em e = inl e
closed_by parts closed d m (Some i) None ed em e = inl e
closed_by parts closed d m (Some i) (Some j) ed em e = elim (set_get closed i j e) [
  | inl h ↦ inl h
  | inr same ↦ inr (one_name parts d m i (ed) (em ∙ ap (λ (k : ℕ). Some k) (sym same)))
]

-- what is marked was marked, or is the name that is gone through now
pub closed_or : (p : Program) (closed : List Bool) (d m : List ℕ) → is_closed p (closing p closed d) m ≡ true → (is_closed p closed m ≡ true) ⊎ (m ≡ d)
closed_or p closed d m e = closed_by p.parts closed d m (place_of p.parts d) (place_of p.parts m) refl refl e

set_length : (bs : List Bool) (i : ℕ) → length (slice_set bs i true) ≡ length bs
set_length [] i = refl
set_length (b ∷ bs) zero = refl
set_length (b ∷ bs) (suc i) = ap (λ (n : ℕ). suc n) (set_length bs i)

pub closing_length : (closed : List Bool) (o : Option ℕ) → length (closing_at closed o) ≡ length closed
closing_length closed None = refl
closing_length closed (Some i) = set_length closed i

-- ---- what a search keeps

pub record Going (p : Program) (L : IsLayered p) (f : List ℕ → Option Member) (total : Option Member) (ws : List (List ℕ)) (closed : List Bool) : Type 0 where
  pub value : Along p L f ws ≡ total
  pub small : Below L.height (length (known p)) ws
  pub each : length closed ≡ length p.parts
  pub closes : (m : List ℕ) → is_closed p closed m ≡ true → Settled p L f ws m

pub going_begin : (p : Program) (L : IsLayered p) (f : List ℕ → Option Member) (c : List ℕ) (closed : List Bool) → AreClosed p f closed → Going p L f (Along p L f (face_names p c)) (face_names p c) closed
going_begin p L f c closed A = record {
  value = refl;
  small = faces-below p L (length (known p)) c (L.within c);
  each = A.each;
  closes = λ m is. settled_begin p L f (face_names p c) m (A.without m is);
}

pub going_skip : (p : Program) (L : IsLayered p) (f : List ℕ → Option Member) (total : Option Member) (d : List ℕ) (ds : List (List ℕ)) (closed : List Bool) → is_closed p closed d ≡ true → Going p L f total (d ∷ ds) closed → Going p L f total ds closed
going_skip p L f total d ds closed is G =
    let none : Along p L f (d ∷ []) ≡ None = again_none p L f d ds (G.closes d is) in
    record {
      value = sym (along-append p L f (d ∷ []) ds ∙ ap (λ (o : Option Member). or_else o (Along p L f ds)) none) ∙ G.value;
      small = below-tail L.height (length (known p)) d ds G.small;
      each = G.each;
      closes = λ m at. settled_skip p L f d m ds none (G.closes m at);
    }

pub going_found : (p : Program) (L : IsLayered p) (f : List ℕ → Option Member) (total : Option Member) (d : List ℕ) (ds : List (List ℕ)) (closed : List Bool) (one : Member) → f d ≡ Some one → Going p L f total (d ∷ ds) closed → Some one ≡ total
going_found p L f total d ds closed one is G =
    let lt : L.height d < length (known p) = below-head L.height (length (known p)) d ds G.small in
    sym (sym G.value ∙ along-cons p L f d ds lt ∙ ap (λ (o : Option Member). or_else o (or_else (Along p L f (face_names p d)) (Along p L f ds))) is)

pub going_visit : (p : Program) (L : IsLayered p) (f : List ℕ → Option Member) (total : Option Member) (d : List ℕ) (ds : List (List ℕ)) (closed : List Bool) → f d ≡ None → Going p L f total (d ∷ ds) closed → Going p L f total (face_names p d ++ ds) (closing p closed d)
going_visit p L f total d ds closed none G =
    let lt : L.height d < length (known p) = below-head L.height (length (known p)) d ds G.small in
    record {
      value = along-faces p L f d ds lt none ∙ G.value;
      small = all-append (λ e. nat_lt (L.height e) (length (known p))) (face_names p d) ds (faces-below p L (length (known p)) d (omega arith)) (below-tail L.height (length (known p)) d ds G.small);
      each = closing_length closed (place_of p.parts d) ∙ G.each;
      closes = λ m is. elim (closed_or p closed d m is) [
        | inl was ↦ settled_visit p L f d m ds lt none (G.closes m was)
        | inr now ↦ subst (λ (k : List ℕ). Settled p L f (face_names p d ++ ds) k) (sym now) (settled_new p L f d ds lt none)
      ];
    }

pub going_end : (p : Program) (L : IsLayered p) (f : List ℕ → Option Member) (total : Option Member) (closed : List Bool) → Going p L f total [] closed → (None ≡ total) × AreClosed p f closed
going_end p L f total closed G = (
  sym (along-none p L f) ∙ G.value,
  record { each = G.each; without = λ m is. settled_end p L f m (G.closes m is) },
)

-- ---- the end of a search

-- a class of the library lists an interface, or none
abbrev extra_of : Option Class → ℕ
extra_of None = 0
extra_of (Some (User i c)) = 0
extra_of (Some (Lib c)) = length (faces (Lib c))

-- what a name that waits may still cost
weight : Program → List ℕ → ℕ
weight p d = suc (extra_of (find p d))

pub weigh : Program → List (List ℕ) → ℕ
weigh p [] = 0
weigh p (d ∷ ds) = weight p d + weigh p ds

-- what the classes that weren't gone through may still bring
pub unclosed : Program → List CodePart → List Bool → ℕ
unclosed p [] bs = 0
unclosed p (part ∷ ps) [] = weigh p (interface_names part.class) + unclosed p ps []
unclosed p (part ∷ ps) (b ∷ bs) = cond b 0 (weigh p (interface_names part.class)) + unclosed p ps bs

weigh-append : (p : Program) (xs ys : List (List ℕ)) → weigh p (xs ++ ys) ≡ weigh p xs + weigh p ys
unfolding weigh
weigh-append p [] ys = omega arith
weigh-append p (x ∷ xs) ys = let ih = weigh-append p xs ys in omega arith

-- a class that is gone through brings its interfaces once
unclosed_set : (p : Program) (ps : List CodePart) (bs : List Bool) (i : ℕ) (part : CodePart) → slice_get ps i ≡ Some part → is_marked (slice_get bs i) ≡ false → i < length bs → unclosed p ps (slice_set bs i true) + weigh p (interface_names part.class) ≡ unclosed p ps bs
unfolding unclosed
unclosed_set p [] bs i part at unmarked lt = absurd cc
unclosed_set p (q ∷ ps) [] i part at unmarked lt = absurd (omega arith)
unclosed_set p (q ∷ ps) (true ∷ bs) zero part at unmarked lt = absurd cc
unclosed_set p (q ∷ ps) (false ∷ bs) zero part at unmarked lt = let same : q ≡ part = some_is q part at in rw same (omega arith)
unclosed_set p (q ∷ ps) (b ∷ bs) (suc i) part at unmarked lt = let ih = unclosed_set p ps bs i part at unmarked (omega arith) in omega arith

pub slice_get-within : {A : Type 0} (xs : List A) (i : ℕ) (x : A) → slice_get xs i ≡ Some x → i < length xs
slice_get-within [] i x e = absurd cc
slice_get-within (y ∷ ys) zero x e = omega arith
slice_get-within (y ∷ ys) (suc i) x e = let ih = slice_get-within ys i x e in omega arith

-- the place of a name is that of a part
pub place_there : (parts : List CodePart) (name : List ℕ) (i : ℕ) → place_of parts name ≡ Some i → (part : CodePart) × (slice_get parts i ≡ Some part)
unfolding place_of
place_there [] name i e = absurd cc
place_there (q ∷ ps) name i e =
    let at = position-Some (λ part. bytes_eq (this_name part.class) name) (q ∷ ps) i q e in
    (get_or (q ∷ ps) i q, slice_get-get_or (q ∷ ps) i q at.0)

-- ---- the library's classes

thrown_none : (t : Thrown) (i : LibClass) → library.implemented (lib.Thrown t) ≡ Some i → i ≡ lib.Runnable
thrown_none thrown.Throwable i e = absurd cc
thrown_none thrown.Exception i e = absurd cc
thrown_none thrown.Error i e = absurd cc
thrown_none thrown.RuntimeException i e = absurd cc
thrown_none thrown.InterruptedException i e = absurd cc
thrown_none thrown.ArithmeticException i e = absurd cc
thrown_none thrown.NullPointerException i e = absurd cc
thrown_none thrown.ClassCastException i e = absurd cc
thrown_none thrown.NegativeArraySizeException i e = absurd cc
thrown_none thrown.ArrayStoreException i e = absurd cc
thrown_none thrown.IllegalArgumentException i e = absurd cc
thrown_none thrown.IllegalStateException i e = absurd cc
thrown_none thrown.IndexOutOfBoundsException i e = absurd cc
thrown_none thrown.SecurityException i e = absurd cc
thrown_none thrown.IllegalThreadStateException i e = absurd cc
thrown_none thrown.ArrayIndexOutOfBoundsException i e = absurd cc
thrown_none thrown.StringIndexOutOfBoundsException i e = absurd cc
thrown_none thrown.LinkageError i e = absurd cc
thrown_none thrown.VirtualMachineError i e = absurd cc
thrown_none thrown.IncompatibleClassChangeError i e = absurd cc
thrown_none thrown.AbstractMethodError i e = absurd cc
thrown_none thrown.IllegalAccessError i e = absurd cc
thrown_none thrown.StackOverflowError i e = absurd cc

permission_none : (t : PermissionClass) (i : LibClass) → library.implemented (lib.Permission t) ≡ Some i → i ≡ lib.Runnable
permission_none permission.Permission i e = absurd cc
permission_none permission.BasicPermission i e = absurd cc
permission_none permission.AllPermission i e = absurd cc
permission_none permission.RuntimePermission i e = absurd cc
permission_none permission.SecurityPermission i e = absurd cc
permission_none permission.PropertyPermission i e = absurd cc
permission_none permission.FilePermission i e = absurd cc

-- Thread alone lists an interface
pub only_runnable : (c i : LibClass) → library.implemented c ≡ Some i → i ≡ lib.Runnable
only_runnable lib.Object i e = absurd cc
only_runnable (lib.Thrown t) i e = thrown_none t i e
only_runnable lib.AccessControlException i e = absurd cc
only_runnable lib.String i e = absurd cc
only_runnable lib.StringBuilder i e = absurd cc
only_runnable lib.System i e = absurd cc
only_runnable lib.PrintStream i e = absurd cc
only_runnable lib.Void i e = absurd cc
only_runnable lib.Cloneable i e = absurd cc
only_runnable lib.Serializable i e = absurd cc
only_runnable lib.Runnable i e = absurd cc
only_runnable lib.Thread i e = sym (some_is lib.Runnable i e)
only_runnable lib.PrivilegedAction i e = absurd cc
only_runnable lib.AccessController i e = absurd cc
only_runnable lib.AccessControlContext i e = absurd cc
only_runnable (lib.Permission t) i e = permission_none t i e
only_runnable lib.Rt i e = absurd cc
only_runnable lib.Ctx i e = absurd cc

-- which lists none
runnable_alone : (side : Side) → extra_of (option_map Lib (library.class_named side (codes "java/lang/Runnable"))) ≡ 0
runnable_alone Source = refl
runnable_alone Passing = refl

user_extra : (o : Option CodePart) (i : ℕ) → extra_of (option_map (λ part. User i part.class) o) ≡ 0
user_extra None i = refl
user_extra (Some part) i = refl

found_extra : (p : Program) (o : Option ℕ) → extra_of (found_at p (codes "java/lang/Runnable") o) ≡ 0
found_extra p None = runnable_alone p.side
found_extra p (Some i) = user_extra (slice_get p.parts i) i

runnable_extra : (p : Program) → extra_of (find p (codes "java/lang/Runnable")) ≡ 0
unfolding find
runnable_extra p = found_extra p (place_of p.parts (codes "java/lang/Runnable"))

implemented_weigh : (p : Program) (o : Option LibClass) → ((i : LibClass) → o ≡ Some i → i ≡ lib.Runnable) → weigh p (option_to_list (option_map library.name_of o)) ≤ length (option_to_list (option_map library.name_of o))
unfolding weigh weight
implemented_weigh p None only = omega arith
implemented_weigh p (Some i) only =
    let name : library.name_of i ≡ codes "java/lang/Runnable" = ap library.name_of (only i refl) in
    let none : extra_of (find p (library.name_of i)) ≡ 0 = ap (λ (t : List ℕ). extra_of (find p t)) name ∙ runnable_extra p in
    omega (arith, none)

lib_weigh : (p : Program) (o : Option LibClass) → weigh p (faces_of (option_map Lib o)) ≤ extra_of (option_map Lib o)
unfolding weigh
lib_weigh p None = omega arith
lib_weigh p (Some c) = implemented_weigh p (library.implemented c) (only_runnable c)

-- ---- each step costs

abbrev pub Cost : Program → List (List ℕ) → List Bool → ℕ
Cost p ws closed = weigh p ws + unclosed p p.parts closed

pub skip_costs : (p : Program) (d : List ℕ) (ds : List (List ℕ)) (closed : List Bool) → Cost p ds closed < Cost p (d ∷ ds) closed
unfolding weigh weight
skip_costs p d ds closed = omega arith

visit_user : (p : Program) (d : List ℕ) (ds : List (List ℕ)) (closed : List Bool) (i : ℕ) (part : CodePart) → slice_get p.parts i ≡ Some part → i < length closed → is_marked (slice_get closed i) ≡ false → find p d ≡ Some (User i part.class)
    → Cost p (face_names p d ++ ds) (slice_set closed i true) < Cost p (d ∷ ds) closed
unfolding weigh weight
visit_user p d ds closed i part at lt unmarked is =
    let names : face_names p d ≡ interface_names part.class = ap faces_of is in
    let split : weigh p (face_names p d ++ ds) ≡ weigh p (interface_names part.class) + weigh p ds = ap (λ (es : List (List ℕ)). weigh p (es ++ ds)) names ∙ weigh-append p (interface_names part.class) ds in
    let less : unclosed p p.parts (slice_set closed i true) + weigh p (interface_names part.class) ≡ unclosed p p.parts closed = unclosed_set p p.parts closed i part at unmarked lt in
    omega (arith, split, less)

visit_lib : (p : Program) (d : List ℕ) (ds : List (List ℕ)) (closed : List Bool) → find p d ≡ option_map Lib (library.class_named p.side d) → Cost p (face_names p d ++ ds) closed < Cost p (d ∷ ds) closed
unfolding weigh weight
visit_lib p d ds closed is =
    let least : weigh p (face_names p d) ≤ extra_of (find p d) = subst (λ (o : Option Class). weigh p (faces_of o) ≤ extra_of o) (sym is) (lib_weigh p (library.class_named p.side d)) in
    let split : weigh p (face_names p d ++ ds) ≡ weigh p (face_names p d) + weigh p ds = weigh-append p (face_names p d) ds in
    omega (arith, split, least)

visit_at : (p : Program) (d : List ℕ) (ds : List (List ℕ)) (closed : List Bool) (o : Option ℕ) → place_of p.parts d ≡ o → length closed ≡ length p.parts → is_closed_at closed o ≡ false → Cost p (face_names p d ++ ds) (closing_at closed o) < Cost p (d ∷ ds) closed
unfolding find
visit_at p d ds closed None e each unmarked = visit_lib p d ds closed (ap (found_at p d) e)
visit_at p d ds closed (Some i) e each unmarked =
    let there = place_there p.parts d i e in
    let lt : i < length p.parts = slice_get-within p.parts i there.0 there.1 in
    visit_user p d ds closed i there.0 there.1 (omega arith) unmarked (ap (found_at p d) e ∙ ap (option_map (λ (part : CodePart). User i part.class)) there.1)

pub visit_costs : (p : Program) (d : List ℕ) (ds : List (List ℕ)) (closed : List Bool) → length closed ≡ length p.parts → is_closed p closed d ≡ false → Cost p (face_names p d ++ ds) (closing p closed d) < Cost p (d ∷ ds) closed
visit_costs p d ds closed each unmarked = visit_at p d ds closed (place_of p.parts d) refl each unmarked

-- ---- the names that wait

pub waiting-push : (xs : List (Bor (List ℕ))) (x : Bor (List ℕ)) → waiting_names (xs ++ x ∷ []) ≡ x.now ∷ waiting_names xs
waiting-push [] x = refl
waiting-push (y ∷ ys) x = ap (λ (ns : List (List ℕ)). ns ++ y.now ∷ []) (waiting-push ys x)

drop_at : {A : Type 0} (xs : List A) (i : ℕ) (x : A) → slice_get xs i ≡ Some x → drop i xs ≡ x ∷ drop (suc i) xs
drop_at [] i x e = absurd cc
drop_at (y ∷ ys) zero x e = ap (λ z. z ∷ ys) (some_is y x e)
drop_at (y ∷ ys) (suc i) x e = drop_at ys i x e

-- one face more is put in front
pub face_put : (names : List (List ℕ)) (k : ℕ) (x : Bor (List ℕ)) (items new : List (Bor (List ℕ))) (rest : List (List ℕ)) → 0 < k → Some x.now ≡ slice_get names (k - 1) → new ≡ items ++ x ∷ [] → waiting_names items ≡ drop k names ++ rest → waiting_names new ≡ drop (k - 1) names ++ rest
face_put names zero x items new rest lt at put was = absurd (omega arith)
face_put names (suc i) x items new rest lt at put was =
    let e : suc i - 1 ≡ i = omega arith in
    let here : slice_get names i ≡ Some x.now = sym (at ∙ ap (slice_get names) e) in
    let front : drop (suc i - 1) names ≡ x.now ∷ drop (suc i) names = ap (λ (n : ℕ). drop n names) e ∙ drop_at names i x.now here in
    ap waiting_names put ∙ waiting-push items x ∙ ap (λ (ns : List (List ℕ)). x.now ∷ ns) was ∙ sym (ap (λ (ns : List (List ℕ)). ns ++ rest) front)

get_there : {A : Type 0} (xs : List A) (i : ℕ) → i < length xs → slice_get xs i ≡ None → ⊥
get_there [] i lt e = omega arith
get_there (y ∷ ys) zero lt e = cc
get_there (y ∷ ys) (suc i) lt e = get_there ys i (omega arith) e

pub face_missing : {P : Type 0} (names : List (List ℕ)) (k : ℕ) → 0 < k → k ≤ length names → None ≡ slice_get names (k - 1) → P
face_missing names k lt le none = absurd (get_there names (k - 1) (omega arith) (sym none))

-- ---- the steps of the loop, by what its calls say

pub wait-popped : (items more : List (Bor (List ℕ))) (x : Bor (List ℕ)) → items ≡ more ++ x ∷ [] → waiting_names items ≡ x.now ∷ waiting_names more
wait-popped items more x pop = ap waiting_names pop ∙ waiting-push more x

put_is : (p : Program) (c : List ℕ) (o : Option Class) (ws new : List (List ℕ)) → o ≡ find p c → new ≡ faces_of o ++ ws → new ≡ face_names p c ++ ws
put_is p c o ws new is put = put ∙ ap (λ (q : Option Class). faces_of q ++ ws) is

pub none_at_end : (xs : List (List ℕ)) → xs ++ [] ≡ xs
none_at_end [] = refl
none_at_end (x ∷ xs) = ap (λ (ys : List (List ℕ)). x ∷ ys) (none_at_end xs)

pub step_begin : (p : Program) (L : IsLayered p) (f : List ℕ → Option Member) (c : List ℕ) (closed : List Bool) (none items : List (Bor (List ℕ))) (o : Option Class) → none ≡ [] → o ≡ find p c → waiting_names items ≡ faces_of o ++ waiting_names none → AreClosed p f closed
    → Going p L f (Along p L f (face_names p c)) (waiting_names items) closed
step_begin p L f c closed none items o empty is put A =
    let names : waiting_names items ≡ face_names p c = put_is p c o (waiting_names none) (waiting_names items) is put ∙ ap (λ (ns : List (Bor (List ℕ))). face_names p c ++ waiting_names ns) empty ∙ none_at_end (face_names p c) in
    subst (λ (ws : List (List ℕ)). Going p L f (Along p L f (face_names p c)) ws closed) (sym names) (going_begin p L f c closed A)

module _ (p : Program) (L : IsLayered p) (f : List ℕ → Option Member) (total : Option Member) (items more : List (Bor (List ℕ))) (x : Bor (List ℕ)) (closed : List Bool) (pop : items ≡ more ++ x ∷ []) where
  at_next : Going p L f total (waiting_names items) closed → Going p L f total (x.now ∷ waiting_names more) closed
  at_next G = subst (λ (ws : List (List ℕ)). Going p L f total ws closed) (wait-popped items more x pop) G

  pub step_skip : is_closed p closed x.now ≡ true → Going p L f total (waiting_names items) closed → Going p L f total (waiting_names more) closed
  step_skip is G = going_skip p L f total x.now (waiting_names more) closed is (at_next G)

  pub step_found : (one : Member) → f x.now ≡ Some one → Going p L f total (waiting_names items) closed → Some one ≡ total
  step_found one is G = going_found p L f total x.now (waiting_names more) closed one is (at_next G)

  pub step_visit : (now : List Bool) (new : List (List ℕ)) (o : Option Class) → f x.now ≡ None → now ≡ closing p closed x.now → o ≡ find p x.now → new ≡ faces_of o ++ waiting_names more → Going p L f total (waiting_names items) closed → Going p L f total new now
  step_visit now new o none marks is put G =
      subst (λ (ws : List (List ℕ)). Going p L f total ws now) (sym (put_is p x.now o (waiting_names more) new is put))
      (subst (λ (bs : List Bool). Going p L f total (face_names p x.now ++ waiting_names more) bs) (sym marks) (going_visit p L f total x.now (waiting_names more) closed none (at_next G)))

pub step_skip_costs : (p : Program) (items more : List (Bor (List ℕ))) (x : Bor (List ℕ)) (closed : List Bool) → items ≡ more ++ x ∷ [] → Cost p (waiting_names more) closed < Cost p (waiting_names items) closed
step_skip_costs p items more x closed pop = subst (λ (ws : List (List ℕ)). Cost p (waiting_names more) closed < Cost p ws closed) (sym (wait-popped items more x pop)) (skip_costs p x.now (waiting_names more) closed)

pub step_visit_costs : (p : Program) (items more : List (Bor (List ℕ))) (x : Bor (List ℕ)) (closed now : List Bool) (new : List (List ℕ)) (o : Option Class) → items ≡ more ++ x ∷ [] → length closed ≡ length p.parts → is_closed p closed x.now ≡ false → now ≡ closing p closed x.now → o ≡ find p x.now
    → new ≡ faces_of o ++ waiting_names more → Cost p new now < Cost p (waiting_names items) closed
step_visit_costs p items more x closed now new o pop each unmarked marks is put =
    subst (λ (ws : List (List ℕ)). Cost p new now < Cost p ws closed) (sym (wait-popped items more x pop))
    (subst (λ (ws : List (List ℕ)). Cost p ws now < Cost p (x.now ∷ waiting_names more) closed) (sym (put_is p x.now o (waiting_names more) new is put))
    (subst (λ (bs : List Bool). Cost p (face_names p x.now ++ waiting_names more) bs < Cost p (x.now ∷ waiting_names more) closed) (sym marks) (visit_costs p x.now (waiting_names more) closed each unmarked)))

pub step_end : (p : Program) (L : IsLayered p) (f : List ℕ → Option Member) (total : Option Member) (items : List (Bor (List ℕ))) (closed : List Bool) → items ≡ [] → Going p L f total (waiting_names items) closed → (None ≡ total) × AreClosed p f closed
step_end p L f total items closed empty G = going_end p L f total closed (subst (λ (ns : List (Bor (List ℕ))). Going p L f total (waiting_names ns) closed) empty G)

pub is_empty_by : {A : Type 0} (items rest : List A) (n : ℕ) → items ≡ rest ++ [] → rest ≡ take (n - 1) items → n ≡ 0 → items ≡ []
is_empty_by items rest n all front none =
    let z : n - 1 ≡ 0 = omega arith in
    let empty : rest ≡ [] = front ∙ ap (λ k. take k items) z in
    all ∙ ap (λ xs. xs ++ []) empty

pub place_within : (parts : List CodePart) (name : List ℕ) (i n : ℕ) → Some i ≡ place_of parts name → n ≡ length parts → i < n
place_within parts name i n is size =
    let there = place_there parts name i (sym is) in
    let lt : i < length parts = slice_get-within parts i there.0 there.1 in
    omega arith
