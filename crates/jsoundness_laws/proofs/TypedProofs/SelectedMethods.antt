-- Which methods are selected: one that a class at or above the given one declares, which isn't static.
use Rattle.std.proofs.Common.{◌≡◌, ℕ, Bool, true, false, ◌&&◌, not, List, [], ◌∷◌, Option, Some, None, refl, sym, ap, subst, ◌∙◌}
use Rattle.std.specs.Prelude.{option_and_then, option_map, slice_get, if◌then◌else◌}
use Rattle.std.specs.List as lists
use Rattle.std.specs.List.{AllByRecursion, cons_option, list_any, position}
use Rattle.std.specs.Str.{bytes_eq}
use Rattle.std.specs.Option.{IsSome}
use Rattle.jclass.specs.declared.class.ClassParts.{ClassParts}
use Rattle.jclass.specs.declared.class.MemberInfo.{MemberInfo}
use Rattle.jlib.specs.declared.calls.LibCall.{LibCall}
use Rattle.jlib.specs.LibraryMembers as library_calls
use Rattle.jlib.specs.LibraryClasses as library
use Rattle.jlib.proofs.LibraryLookup.{call_found, class_found}
use Rattle.jlib.specs.declared.classes.LibClass.{LibClass}
use Rattle.jresolution.specs.declared.jprogram.member.CallKind.{CallKind}
use Rattle.jresolution.specs.declared.jprogram.member.CallKind.TheVariants as kinds
use Rattle.jresolution.specs.declared.jprogram.member.ClassId.{ClassId}
use Rattle.jresolution.specs.declared.jprogram.member.Member.{Member}
use Rattle.jresolution.specs.declared.jprogram.member.Member.TheVariants.{Field, LibField, LibMethod, Method}
use Rattle.jresolution.specs.declared.jprogram.member.MethodId.{MethodId}
use Rattle.jresolution.specs.declared.jprogram.member.Selected.{Selected}
use Rattle.jresolution.specs.declared.jprogram.member.Selected.TheVariants as selected
use Rattle.jresolution.specs.declared.jprogram.part.ClassRef.TheVariants as refs
use Rattle.jresolution.specs.declared.jprogram.part.CodePart.{CodePart}
use Rattle.jresolution.specs.jprogram.ProgramClasses.{Program, User, extends, name_at, object, up, named}
use Rattle.jresolution.specs.jprogram.MemberResolution.{as_selected, desc_in, desc_of, first_by, first_taking, info_of, is_abstract, is_static, lib_method, method_at, method_id, method_in, methods_along, name_in, name_of, name_of_id, select, takes_call, user_is}
use Rattle.jresolution.specs.jprogram.ClassFileParts as parts
use Rattle.jresolution.specs.jprogram.ClassFileParts.{is_called, member_desc, member_name, this_name}
use Rattle.jresolution.proofs.JprogramProofs.CycleSearch.{Among, among_each}
use Rattle.jsoundness_laws.proofs.TypedProofs.SubtypeTransitivity.{or_right}
use Rattle.jresolution.proofs.JprogramProofs.ClassHeights.{Libs, Nowhere, Stands, Users, stands}
use Rattle.jlinking.proofs.JlinkProofs.MethodSelection.{first_called}

-- ---- what a class declares

-- a user's method is declared by the class of a name
pub record IsOf (p : Program) (c : List ℕ) (m : MethodId) : Type 0 where
  pub part : CodePart
  pub info : MemberInfo
  pub stands : slice_get p.parts m.class ≡ Some part
  pub declared : slice_get part.class.methods m.method ≡ Some info
  pub name : name_at p (refs.User m.class) ≡ c

some_method : (i j : ℕ) (m : MethodId) → Some (Method (method_id i j)) ≡ Some (Method m) → method_id i j ≡ m
some_method i j m e = cc

no_library : (m : MethodId) (o : Option LibCall) → option_and_then lib_method o ≡ Some (Method m) → ⊥
no_library m None e = cc
no_library m (Some call) e = go (library_calls.is_field call) e
  where
    go : (b : Bool) → (if b then None else Some (LibMethod call)) ≡ Some (Method m) → ⊥
    go true e = cc
    go false e = cc

pub user_name : (p : Program) (i : ℕ) (part : CodePart) → slice_get p.parts i ≡ Some part → name_at p (refs.User i) ≡ this_name part.class
user_name p i part at = ap (λ (o : Option CodePart). named (option_map (λ (part : CodePart). User i part.class) o)) at

declared_at : (p : Program) (name desc c : List ℕ) (m : MethodId) → method_at p name desc c ≡ Some (Method m) → IsOf p c m
declared_at p name desc c m e = by (stands p c)
  where
    among : (i : ℕ) (part : CodePart) → slice_get p.parts i ≡ Some part → this_name part.class ≡ c → (o : Option ℕ) → position (is_called part.class name desc) part.class.methods ≡ o
        → option_map (λ j. Method (method_id i j)) o ≡ Some (Method m) → IsOf p c m
    among i part at own None is e = absurd (cc)
    among i part at own (Some j) is e =
        let found = first_called part.class name desc part.class.methods j is in
        subst (IsOf p c) (some_method i j m e) (record { part = part; info = found.0; stands = at; declared = found.1; name = user_name p i part at ∙ own })

    by : Stands p c → IsOf p c m
    by (Users i part at own found) =
        among i part at own (position (is_called part.class name desc) part.class.methods) refl (sym (ap (option_and_then (λ k. method_in p.side k name desc)) found) ∙ e)
    by (Libs l called found) =
        absurd (no_library m (library_calls.member_named p.side (library.name_of l) name desc) (sym (ap (option_and_then (λ k. method_in p.side k name desc)) found) ∙ e))
    by (Nowhere none) = let no : None ≡ Some (Method m) = sym (ap (option_and_then (λ k. method_in p.side k name desc)) none) ∙ e in absurd (cc)

-- a method of the library is declared by its owner
lib_method_is : (call : LibCall) (x : LibCall) → lib_method call ≡ Some (LibMethod x) → call ≡ x
lib_method_is call x e = go (library_calls.is_field call) e
  where
    go : (b : Bool) → (if b then None else Some (LibMethod call)) ≡ Some (LibMethod x) → call ≡ x
    go true e = absurd (cc)
    go false e = cc

named_owner : (p : Program) (name desc c : List ℕ) (o : Option LibCall) (x : LibCall) → library_calls.member_named p.side c name desc ≡ o → option_and_then lib_method o ≡ Some (LibMethod x)
    → library.name_of (library_calls.owner x) ≡ c
named_owner p name desc c None x is e = absurd (cc)
named_owner p name desc c (Some call) x is e = ap (λ x. library.name_of (library_calls.owner x)) (sym (lib_method_is call x e)) ∙ (call_found p.side c name desc call is).0

owned_at : (p : Program) (name desc c : List ℕ) (x : LibCall) → method_at p name desc c ≡ Some (LibMethod x) → library.name_of (library_calls.owner x) ≡ c
owned_at p name desc c x e = by (stands p c)
  where
    among : (i : ℕ) (o : Option ℕ) → option_map (λ j. Method (method_id i j)) o ≡ Some (LibMethod x) → library.name_of (library_calls.owner x) ≡ c
    among i None e = absurd (cc)
    among i (Some j) e = absurd (cc)

    named : (l : LibClass) → library.class_named p.side c ≡ Some l → library.name_of l ≡ c
    named l called = (class_found p.side c l called).0

    by : Stands p c → library.name_of (library_calls.owner x) ≡ c
    by (Users i part at own found) = among i (position (is_called part.class name desc) part.class.methods) (sym (ap (option_and_then (λ k. method_in p.side k name desc)) found) ∙ e)
    by (Libs l called found) =
        named_owner p name desc (library.name_of l) (library_calls.member_named p.side (library.name_of l) name desc) x refl
        (sym (ap (option_and_then (λ k. method_in p.side k name desc)) found) ∙ e) ∙ named l called
    by (Nowhere none) = let no : None ≡ Some (LibMethod x) = sym (ap (option_and_then (λ k. method_in p.side k name desc)) none) ∙ e in absurd (cc)

-- ---- what is known of a method

module _ (p : Program) (m : MethodId) (part : CodePart) (info : MemberInfo) (stands : slice_get p.parts m.class ≡ Some part) (declared : slice_get part.class.methods m.method ≡ Some info) where
  info_is : info_of p (Method m) ≡ Some (part.class, info)
  info_is =
      ap (λ o. option_and_then (λ c. option_map (λ i. (c, i)) (slice_get c.methods m.method)) (option_map (λ (part : CodePart). part.class) o)) stands
      ∙ ap (option_map (λ (i : MemberInfo). (part.class, i))) declared

  pub static_is : is_static p (Method m) ≡ parts.is_static info.flags
  unfolding is_static
  static_is = ap (user_is (λ (one : MemberInfo). parts.is_static one.flags)) info_is

  pub abstract_is : is_abstract p (Method m) ≡ parts.is_abstract info.flags
  unfolding is_abstract
  abstract_is = ap (user_is (λ (one : MemberInfo). parts.is_abstract one.flags)) info_is

  pub name_is : name_of p (Method m) ≡ member_name part.class info
  unfolding name_of
  name_is = ap name_in info_is

  pub desc_is : desc_of p (Method m) ≡ member_desc part.class info
  unfolding desc_of
  desc_is = ap desc_in info_is

-- ---- along classes

module _ (p : Program) (on : List ℕ) where
  pub record IsAbove (x : Member) : Type 0 where
    pub users : (m : MethodId) → x ≡ Method m → (c : List ℕ) × (extends p on c ≡ true) × IsOf p c m
    pub library : (call : LibCall) → x ≡ LibMethod call → extends p on (library.name_of (library_calls.owner call)) ≡ true

  extends_up : (c : List ℕ) → Among (up p on) c → extends p on c ≡ true
  unfolding extends
  extends_up c h = or_right (bytes_eq c object) (list_any (bytes_eq c) (up p on)) h

  at_name : (name desc c : List ℕ) → extends p on c ≡ true → (x : Member) → method_at p name desc c ≡ Some x → IsAbove x
  at_name name desc c above x e = record {
    users = λ m is. (c, above, declared_at p name desc c m (e ∙ ap (λ x. Some x) is));
    library = λ call is. ap (extends p on) (owned_at p name desc c call (e ∙ ap (λ x. Some x) is)) ∙ above;
  }

  each_one : (o : Option Member) (ms : List Member) → ((x : Member) → o ≡ Some x → IsAbove x) → AllByRecursion IsAbove ms → AllByRecursion IsAbove (cons_option o ms)
  each_one None ms h rest = rest
  each_one (Some x) ms h rest = (h x refl, rest)

  each_above : (name desc : List ℕ) (names : List (List ℕ)) → AllByRecursion (Among (up p on)) names → AllByRecursion IsAbove (methods_along p name desc names)
  each_above name desc [] all = tt
  each_above name desc (c ∷ names) all =
      each_one (method_at p name desc c) (methods_along p name desc names) (at_name name desc c (extends_up c all.0)) (each_above name desc names all.1)

  -- and it is not static
  abbrev IsTaken : Member → Type 0
  IsTaken x = IsAbove x × (is_static p x ≡ false)

  not_true : (b : Bool) → not b ≡ true → b ≡ false
  not_true false e = refl
  not_true true e = absurd (cc)

  either : (b : Bool) (m x : Member) (rest : Option Member) → (b ≡ true → IsTaken m) → (rest ≡ Some x → IsTaken x) → (if b then Some m else rest) ≡ Some x → IsTaken x
  either true m x rest one h e = let same : m ≡ x = cc in subst IsTaken same (one refl)
  either false m x rest one h e = h e

  found_taken : (x : Member) (ms : List Member) → AllByRecursion IsAbove ms → lists.find (λ m. not (is_static p m)) ms ≡ Some x → IsTaken x
  found_taken x [] all e = absurd (cc)
  found_taken x (m ∷ ms) all e =
      either (not (is_static p m)) m x (lists.find (λ m. not (is_static p m)) ms) (λ h. (all.0, not_true (is_static p m) h)) (λ h. found_taken x ms all.1 h) e

  first_of : (a b : Bool) → a && b ≡ true → a ≡ true
  first_of true b e = refl
  first_of false b e = absurd (cc)

  taking_taken : (r x : Member) (ms : List Member) → AllByRecursion IsAbove ms → first_taking p r ms ≡ Some x → IsTaken x
  unfolding first_taking
  taking_taken r x [] all e = absurd (cc)
  taking_taken r x (m ∷ ms) all e =
      either (takes_call p r m ms) m x (first_taking p r ms) (λ h. (all.0, not_true (is_static p m) (first_of (not (is_static p m)) _ h))) (λ h. taking_taken r x ms all.1 h) e

  first_taken : (call : CallKind) (r x : Member) (ms : List Member) → AllByRecursion IsAbove ms → first_by p call r ms ≡ Some x → IsTaken x
  first_taken kinds.Virtual r x ms all e = taking_taken r x ms all e
  first_taken kinds.Interface r x ms all e = found_taken x ms all e
  first_taken kinds.Special r x ms all e = found_taken x ms all e

-- ---- what is selected

-- a method that is selected, or taken as it is, is the member, and has code
pub record IsMember (p : Program) (o : Option Member) (m : MethodId) : Type 0 where
  pub is : o ≡ Some (Method m)
  pub concrete : is_abstract p (Method m) ≡ false

same_method : (a b : MethodId) → selected.Method a ≡ selected.Method b → a ≡ b
same_method a b e = cc

no_method : (call : LibCall) (m : MethodId) (b : Bool) → (if b then selected.Abstract (LibMethod call) else selected.Lib call) ≡ selected.Method m → ⊥
no_method call m true e = cc
no_method call m false e = cc

concrete_as : (p : Program) (x m : MethodId) (b : Bool) → is_abstract p (Method x) ≡ b → (if b then selected.Abstract (Method x) else selected.Method x) ≡ selected.Method m → IsMember p (Some (Method x)) m
concrete_as p x m true is e = absurd (cc)
concrete_as p x m false is e =
    let same = same_method x m e in
    record { is = ap (λ m. Some (Method m)) same; concrete = sym (ap (λ m. is_abstract p (Method m)) same) ∙ is }

pub selected_member : (p : Program) (o : Option Member) (m : MethodId) → as_selected p o ≡ selected.Method m → IsMember p o m
selected_member p None m e = absurd (cc)
selected_member p (Some (Field i j)) m e = absurd (cc)
selected_member p (Some LibField) m e = absurd (cc)
selected_member p (Some (Method x)) m e = concrete_as p x m (is_abstract p (Method x)) refl e
selected_member p (Some (LibMethod x)) m e = absurd (no_method x m (is_abstract p (LibMethod x)) e)

-- what is selected for a class: a method that one at or above it declares, with code and not static
pub record IsSelected (p : Program) (on : List ℕ) (m : MethodId) : Type 0 where
  pub class : List ℕ
  pub above : extends p on class ≡ true
  pub of : IsOf p class m
  pub instance : is_static p (Method m) ≡ false
  pub concrete : is_abstract p (Method m) ≡ false

pub select_is : (p : Program) (on : ClassId) (r : Member) (call : CallKind) (m : MethodId) → select p on r call ≡ selected.Method m → IsSelected p (name_of_id p on) m
unfolding select
select_is p on r call m e =
    let names = up p (name_of_id p on) in
    let ms = methods_along p (name_of p r) (desc_of p r) names in
    let found = selected_member p (first_by p call r ms) m e in
    let taken = first_taken p (name_of_id p on) call r (Method m) ms (each_above p (name_of_id p on) (name_of p r) (desc_of p r) names (among_each names)) found.is in
    let above = taken.0.users m refl in
    record { class = above.0; above = above.1; of = above.2; instance = taken.1; concrete = found.concrete }

-- one of the library is a method of a class at or above the class, and not static
pub record IsLibrary (p : Program) (on : List ℕ) (x : LibCall) : Type 0 where
  pub above : extends p on (library.name_of (library_calls.owner x)) ≡ true
  pub instance : is_static p (LibMethod x) ≡ false

same_call : (a b : LibCall) → selected.Lib a ≡ selected.Lib b → a ≡ b
same_call a b e = cc

no_call : (m : Member) (x : MethodId) (call : LibCall) (b : Bool) → (if b then selected.Abstract m else selected.Method x) ≡ selected.Lib call → ⊥
no_call m x call true e = cc
no_call m x call false e = cc

coded_call : (m : Member) (x call : LibCall) (b : Bool) → (if b then selected.Abstract m else selected.Lib x) ≡ selected.Lib call → x ≡ call
coded_call m x call true e = absurd (cc)
coded_call m x call false e = same_call x call e

pub selected_library : (p : Program) (o : Option Member) (x : LibCall) → as_selected p o ≡ selected.Lib x → o ≡ Some (LibMethod x)
selected_library p None x e = absurd (cc)
selected_library p (Some (Field i j)) x e = absurd (cc)
selected_library p (Some LibField) x e = absurd (cc)
selected_library p (Some (Method m)) x e = absurd (no_call (Method m) m x (is_abstract p (Method m)) e)
selected_library p (Some (LibMethod call)) x e = ap (λ x. Some (LibMethod x)) (coded_call (LibMethod call) call x (is_abstract p (LibMethod call)) e)

pub select_library : (p : Program) (on : ClassId) (r : Member) (call : CallKind) (x : LibCall) → select p on r call ≡ selected.Lib x → IsLibrary p (name_of_id p on) x
unfolding select
select_library p on r call x e =
    let names = up p (name_of_id p on) in
    let ms = methods_along p (name_of p r) (desc_of p r) names in
    let found = selected_library p (first_by p call r ms) x e in
    let taken = first_taken p (name_of_id p on) call r (LibMethod x) ms (each_above p (name_of_id p on) (name_of p r) (desc_of p r) names (among_each names)) found in
    record { above = taken.0.library x refl; instance = taken.1 }

-- a method of which something is known is declared by its class
pub method_there : (p : Program) (m : MethodId) → IsSome (info_of p (Method m)) → IsOf p (name_at p (refs.User m.class)) m
method_there p m some = go (slice_get p.parts m.class) refl some
  where
    among : (part : CodePart) → slice_get p.parts m.class ≡ Some part → (o : Option MemberInfo) → slice_get part.class.methods m.method ≡ o → IsSome {T = ClassParts × MemberInfo} (option_map (λ (i : MemberInfo). (part.class, i)) o)
        → IsOf p (name_at p (refs.User m.class)) m
    among part at None there h = absurd (cc)
    among part at (Some info) there h = record { part = part; info = info; stands = at; declared = there; name = refl }

    go : (o : Option CodePart) → slice_get p.parts m.class ≡ o
        → IsSome {T = ClassParts × MemberInfo} (option_and_then (λ (c : ClassParts). option_map (λ (i : MemberInfo). (c, i)) (slice_get c.methods m.method)) (option_map (λ (part : CodePart). part.class) o))
        → IsOf p (name_at p (refs.User m.class)) m
    go None at h = absurd (cc)
    go (Some part) at h = among part at (slice_get part.class.methods m.method) refl h
