-- What is selected has the name and the descriptor that was looked for.
use Rattle.std.proofs.Common.{◌≡◌, ℕ, Bool, true, false, not, List, [], ◌∷◌, get_or, Option, Some, None, refl, ap, subst, ◌∙◌}
use Rattle.std.specs.Prelude.{option_and_then, option_map, slice_get, if◌then◌else◌}
use Rattle.std.specs.List as lists
use Rattle.std.specs.List.{cons_option, filter_map, position}
use Rattle.std.specs.Str.{bytes_eq}
use Rattle.std.proofs.lemmas.Bool.{and_parts}
use Rattle.std.proofs.lemmas.List.Quantifiers.{position-Some}
use Rattle.std.proofs.lemmas.Option.{slice_get-get_or}
use Rattle.std.proofs.lemmas.Slice.Eq.{bytes_eq-Decides}
use Rattle.jclass.specs.declared.class.ClassParts.{ClassParts}
use Rattle.jclass.specs.declared.class.MemberInfo.{MemberInfo}
use Rattle.jlib.specs.declared.calls.LibCall.{LibCall}
use Rattle.jlib.specs.declared.classes.LibClass.{LibClass}
use Rattle.jlib.specs.LibraryMembers as library_calls
use Rattle.jlib.specs.LibraryClasses as library
use Rattle.jlib.proofs.LibraryLookup.{call_found}
use Rattle.jresolution.specs.declared.jprogram.member.CallKind.{CallKind}
use Rattle.jresolution.specs.declared.jprogram.member.CallKind.TheVariants as kinds
use Rattle.jresolution.specs.declared.jprogram.member.ClassId.{ClassId}
use Rattle.jresolution.specs.declared.jprogram.member.Member.{Member}
use Rattle.jresolution.specs.declared.jprogram.member.Member.TheVariants.{Field, LibField, LibMethod, Method}
use Rattle.jresolution.specs.declared.jprogram.member.Selected.{Selected}
use Rattle.jresolution.specs.declared.jprogram.member.Selected.TheVariants as selected
use Rattle.jresolution.specs.declared.jprogram.part.CodePart.{CodePart}
use Rattle.jresolution.specs.jprogram.ClassFileParts.{is_called, member_desc, member_name}
use Rattle.jresolution.specs.jprogram.ProgramClasses.{Lib, Program, User, find, found_at, place_of, up}
use Rattle.jresolution.specs.jprogram.MemberResolution.{as_selected, desc_in, desc_of, first_by, first_taking, info_of, is_abstract, is_static, lib_method, method_at, method_id, method_in, methods_along, name_in, name_of, name_of_id, select, takes_call}
use Rattle.jlinking.specs.jlink.SelectedMethods.{IsCalledAs, IsSelectedAs}

-- ---- one method

abbrev IsCalled : Program → List ℕ → List ℕ → Member → Type 0
IsCalled p name desc x = (name_of p x ≡ name) × (desc_of p x ≡ desc)

called_info : (p : Program) (name desc : List ℕ) (i j : ℕ) (c : ClassParts) (m : MemberInfo) → info_of p (Method (method_id i j)) ≡ Some (c, m) → is_called c name desc m ≡ true → IsCalled p name desc (Method (method_id i j))
unfolding name_of desc_of
called_info p name desc i j c m is e =
    let both = and_parts (bytes_eq (member_name c m) name) (bytes_eq (member_desc c m) desc) e in (
      ap name_in is ∙ (bytes_eq-Decides (member_name c m) name).0 both.0,
      ap desc_in is ∙ (bytes_eq-Decides (member_desc c m) desc).0 both.1,
    )

info_is : (p : Program) (i j : ℕ) (part : CodePart) (m : MemberInfo) → slice_get p.parts i ≡ Some part → slice_get part.class.methods j ≡ Some m → info_of p (Method (method_id i j)) ≡ Some (part.class, m)
info_is p i j part m at there =
    ap (λ (o : Option CodePart). option_and_then (λ c. option_map (λ m. (c, m)) (slice_get c.methods j)) (option_map (λ part. part.class) o)) at
    ∙ ap (option_map (λ m. (part.class, m))) there

-- the first of a name and a descriptor in a list
pub first_called : (c : ClassParts) (name desc : List ℕ) (ms : List MemberInfo) (j : ℕ) → position (is_called c name desc) ms ≡ Some j → (m : MemberInfo) × (slice_get ms j ≡ Some m) × (is_called c name desc m ≡ true)
first_called c name desc [] j e = absurd cc
first_called c name desc (d ∷ ms) j e =
    let at = position-Some (is_called c name desc) (d ∷ ms) j d e in
    (get_or (d ∷ ms) j d, slice_get-get_or (d ∷ ms) j d at.0, at.1)

user_called : (p : Program) (name desc : List ℕ) (i : ℕ) (part : CodePart) (o : Option ℕ) (x : Member) → slice_get p.parts i ≡ Some part → position (is_called part.class name desc) part.class.methods ≡ o
    → option_map (λ j. Method (method_id i j)) o ≡ Some x → IsCalled p name desc x
user_called p name desc i part None x at first is = absurd cc
user_called p name desc i part (Some j) x at first is =
    let found = first_called part.class name desc part.class.methods j first in
    let same : Method (method_id i j) ≡ x = cc in
    subst (IsCalled p name desc) same
    (called_info p name desc i j part.class found.0 (info_is p i j part found.0 at found.1) found.2)

by_kind : (p : Program) (name desc : List ℕ) (m : LibCall) (field : Bool) (x : Member) → library_calls.name_of_call m ≡ name → library_calls.desc_of m ≡ desc → (if field then None else Some (LibMethod m)) ≡ Some x → IsCalled p name desc x
unfolding name_of desc_of
by_kind p name desc m true x n d is = absurd cc
by_kind p name desc m false x n d is =
    let same : LibMethod m ≡ x = cc in
    subst (λ (y : Member). (name_of p y ≡ name) × (desc_of p y ≡ desc)) same (n, d)

lib_called : (p : Program) (name desc class : List ℕ) (o : Option LibCall) (x : Member) → library_calls.member_named p.side class name desc ≡ o → option_and_then lib_method o ≡ Some x → IsCalled p name desc x
lib_called p name desc class None x at is = absurd cc
lib_called p name desc class (Some m) x at is =
    let found = call_found p.side class name desc m at in
    by_kind p name desc m (library_calls.is_field m) x found.1 found.2 is

user_at_called : (p : Program) (name desc : List ℕ) (i : ℕ) (o : Option CodePart) (x : Member) → slice_get p.parts i ≡ o → option_and_then (λ c. method_in p.side c name desc) (option_map (λ part. User i part.class) o) ≡ Some x → IsCalled p name desc x
user_at_called p name desc i None x at is = absurd cc
user_at_called p name desc i (Some part) x at is = user_called p name desc i part (position (is_called part.class name desc) part.class.methods) x at refl is

lib_at_called : (p : Program) (name desc : List ℕ) (o : Option LibClass) (x : Member) → option_and_then (λ c. method_in p.side c name desc) (option_map Lib o) ≡ Some x → IsCalled p name desc x
lib_at_called p name desc None x is = absurd cc
lib_at_called p name desc (Some c) x is = lib_called p name desc (library.name_of c) (library_calls.member_named p.side (library.name_of c) name desc) x refl is

found_called : (p : Program) (name desc class : List ℕ) (o : Option ℕ) (x : Member) → option_and_then (λ c. method_in p.side c name desc) (found_at p class o) ≡ Some x → IsCalled p name desc x
found_called p name desc class None x is = lib_at_called p name desc (library.class_named p.side class) x is
found_called p name desc class (Some i) x is = user_at_called p name desc i (slice_get p.parts i) x refl is

-- what is found in the class of a name is called so
pub method_called : (p : Program) (name desc class : List ℕ) (x : Member) → method_at p name desc class ≡ Some x → IsCalled p name desc x
unfolding find
method_called p name desc class x is = found_called p name desc class (place_of p.parts class) x is

-- ---- along classes

abbrev Each : (Member → Type 0) → List Member → Type 0
Each q [] = Unit {0}
Each q (m ∷ ms) = q m × Each q ms

each_cons : (q : Member → Type 0) (o : Option Member) (ms : List Member) → ((x : Member) → o ≡ Some x → q x) → Each q ms → Each q (cons_option o ms)
each_cons q None ms h rest = rest
each_cons q (Some x) ms h rest = (h x refl, rest)

each_found : (q : Member → Type 0) (f : List ℕ → Option Member) → ((c : List ℕ) (x : Member) → f c ≡ Some x → q x) → (names : List (List ℕ)) → Each q (filter_map f names)
each_found q f h [] = tt
each_found q f h (c ∷ names) = each_cons q (f c) (filter_map f names) (λ x e. h c x e) (each_found q f h names)

pub either_is : (q : Member → Type 0) (b : Bool) (m x : Member) (rest : Option Member) → q m → (rest ≡ Some x → q x) → (if b then Some m else rest) ≡ Some x → q x
either_is q true m x rest one h e =
    let same : m ≡ x = cc in
    subst q same one
either_is q false m x rest one h e = h e

taking_is : (q : Member → Type 0) (p : Program) (r x : Member) (ms : List Member) → Each q ms → first_taking p r ms ≡ Some x → q x
unfolding first_taking
taking_is q p r x [] all e = absurd cc
taking_is q p r x (m ∷ ms) all e = either_is q (takes_call p r m ms) m x (first_taking p r ms) all.0 (λ e. taking_is q p r x ms all.1 e) e

find_is : (q : Member → Type 0) (test : Member → Bool) (x : Member) (ms : List Member) → Each q ms → lists.find test ms ≡ Some x → q x
find_is q test x [] all e = absurd cc
find_is q test x (m ∷ ms) all e = either_is q (test m) m x (lists.find test ms) all.0 (λ e. find_is q test x ms all.1 e) e

first_is : (q : Member → Type 0) (p : Program) (call : CallKind) (r x : Member) (ms : List Member) → Each q ms → first_by p call r ms ≡ Some x → q x
first_is q p kinds.Virtual r x ms all e = taking_is q p r x ms all e
first_is q p kinds.Interface r x ms all e = find_is q (λ m. not (is_static p m)) x ms all e
first_is q p kinds.Special r x ms all e = find_is q (λ m. not (is_static p m)) x ms all e

-- ---- what is selected

by_code : (p : Program) (m x : Member) (coded : Selected) (b : Bool) → IsCalledAs p m x → IsSelectedAs p m coded → IsSelectedAs p m (if b then selected.Abstract x else coded)
by_code p m x coded true h own = h
by_code p m x coded false h own = own

as_called : (p : Program) (m : Member) (o : Option Member) → ((x : Member) → o ≡ Some x → IsCalledAs p m x) → IsSelectedAs p m (as_selected p o)
as_called p m None h = tt
as_called p m (Some (Method x)) h = by_code p m (Method x) (selected.Method x) (is_abstract p (Method x)) (h (Method x) refl) (h (Method x) refl)
as_called p m (Some (LibMethod x)) h = by_code p m (LibMethod x) (selected.Lib x) (is_abstract p (LibMethod x)) (h (LibMethod x) refl) (h (LibMethod x) refl)
as_called p m (Some (Field i j)) h = tt
as_called p m (Some LibField) h = tt

pub selected_as : (p : Program) (on : ClassId) (m : Member) (call : CallKind) → IsSelectedAs p m (select p on m call)
unfolding select
selected_as p on m call =
    let ms = methods_along p (name_of p m) (desc_of p m) (up p (name_of_id p on)) in
    as_called p m (first_by p call m ms)
    (λ x e. first_is (IsCalledAs p m) p call m x ms (each_found (IsCalledAs p m) (method_at p (name_of p m) (desc_of p m)) (λ c y f. method_called p (name_of p m) (desc_of p m) c y f) (up p (name_of_id p on))) e)
