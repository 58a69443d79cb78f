-- What is selected is of a class of the program.
use Rattle.std.proofs.Common.{◌≡◌, ◌∙◌, ℕ, ◌<◌, ◌≤◌, Bool, true, false, not, List, [], ◌∷◌, length, Option, Some, None, refl, sym, subst, inl, inr, ◌⊎◌}
use Rattle.std.specs.Prelude.{⊤, get_or, option_and_then, option_map, slice_get, if◌then◌else◌}
use Rattle.std.specs.List as lists
use Rattle.std.specs.List.{cons_option, filter_map, position}
use Rattle.std.specs.Str.{bytes_eq}
use Rattle.std.proofs.lemmas.Option.{slice_get_cases}
use Rattle.jlib.specs.declared.calls.LibCall.{LibCall}
use Rattle.jlib.specs.declared.classes.LibClass.{LibClass}
use Rattle.jlib.specs.LibraryMembers as library_calls
use Rattle.jlib.specs.LibraryClasses as library
use Rattle.jresolution.specs.declared.jprogram.member.CallKind.{CallKind}
use Rattle.jresolution.specs.declared.jprogram.member.CallKind.TheVariants as kinds
use Rattle.jresolution.specs.declared.jprogram.member.ClassId.{ClassId}
use Rattle.jresolution.specs.declared.jprogram.member.Member.{Member}
use Rattle.jresolution.specs.declared.jprogram.member.Member.TheVariants.{Field, LibField, LibMethod, Method}
use Rattle.jresolution.specs.declared.jprogram.member.Selected.{Selected}
use Rattle.jresolution.specs.declared.jprogram.member.Selected.TheVariants as selected
use Rattle.jresolution.specs.declared.jprogram.part.ClassRef.{ClassRef}
use Rattle.jresolution.specs.declared.jprogram.part.CodePart.{CodePart}
use Rattle.jresolution.specs.jprogram.ClassFileParts.{is_called}
use Rattle.jresolution.specs.jprogram.ProgramClasses.{Lib, Program, User, find, found_at, place_of, up}
use Rattle.jresolution.specs.jprogram.MemberResolution.{as_selected, desc_of, first_by, first_taking, is_abstract, is_static, lib_method, method_at, method_id, method_in, methods_along, name_of, name_of_id, select, takes_call}
use Rattle.jresolution.specs.declared.juses.meaning.InvokeKind.{InvokeKind}
use Rattle.jresolution.specs.declared.juses.meaning.InvokeKind.TheVariants as how
use Rattle.jresolution.specs.declared.juses.meaning.Span.{Span}
use Rattle.jresolution.specs.declared.juses.types.TypeRef.{TypeRef}
use Rattle.jresolution.specs.juses.InstructionMeanings.{Call, CallMeaning, Cast, Make, MakeArray, Meaning, Push, meant}
use Rattle.jresolution.specs.juses.InstructionMeanings as meanings
use Rattle.jresolution.specs.juses.PoolTables.{pool_at}
use Rattle.jsemantics.specs.jmachine.CallTargets.{from_above}
use Rattle.jsemantics.specs.jmachine.World.{class_id, world}
use Rattle.jready.specs.InlineOperands.{LibraryCalled, UserCalled}
use Rattle.jready.specs.DecodedInstructions.{call_form}
use Rattle.jrows.specs.jcalls.MethodCalls.{selected_on}
use Rattle.jrows.specs.declared.jcalls.receiver.Receiver.{Receiver}
use Rattle.jrows.specs.declared.jcalls.receiver.Receiver.TheVariants as receivers
use Rattle.jserving.specs.declared.jinvoke.choosing.CallKey.{CallKey}
use Rattle.jserving.specs.jinvoke.Answers.{answer, answer_to, chosen, id_on, in_meaning, number_by}
use Rattle.jserving.specs.jinvoke.InvokeOutcomes.{CallWithin, IsMarked, MemberWithin, answer_at}
use Rattle.jlinking.proofs.JlinkProofs.MethodSelection.{either_is}

there : {A : Type 0} (xs : List A) (n : ℕ) (y : A) → slice_get xs n ≡ Some y → n < length xs
there {A} xs n y e = by_cases (slice_get_cases xs n).1
  where
    by_cases : ((x : A) × (n < length xs) × (slice_get xs n ≡ Some x) × (get_or xs n x ≡ x)) ⊎ ((length xs ≤ n) × (slice_get xs n ≡ None)) → n < length xs
    by_cases (inl (x, few, at, d)) = few
    by_cases (inr (few, none)) = cc

-- ---- lists of methods

abbrev Each : (Member → Type 0) → List Member → Type 0
Each q [] = Unit {0}
Each q (m ∷ ms) = q m × Each q ms

each_cons : (q : Member → Type 0) (o : Option Member) (ms : List Member) → ((x : Member) → o ≡ Some x → q x) → Each q ms → Each q (cons_option o ms)
each_cons q None ms h rest = rest
each_cons q (Some x) ms h rest = (h x refl, rest)

each_found : (q : Member → Type 0) (f : List ℕ → Option Member) → ((c : List ℕ) (x : Member) → f c ≡ Some x → q x) → (names : List (List ℕ))
    → Each q (filter_map f names)
each_found q f h [] = tt
each_found q f h (c ∷ names) = each_cons q (f c) (filter_map f names) (λ x e. h c x e) (each_found q f h names)

taking_is : (q : Member → Type 0) (p : Program) (r x : Member) (ms : List Member) → Each q ms → first_taking p r ms ≡ Some x → q x
unfolding first_taking
taking_is q p r x [] all e = absurd cc
taking_is q p r x (m ∷ ms) all e = either_is q (takes_call p r m ms) m x (first_taking p r ms) all.0 (λ e. taking_is q p r x ms all.1 e) e

find_is : (q : Member → Type 0) (test : Member → Bool) (x : Member) (ms : List Member) → Each q ms → lists.find test ms ≡ Some x → q x
find_is q test x [] all e = absurd cc
find_is q test x (m ∷ ms) all e = either_is q (test m) m x (lists.find test ms) all.0 (λ e. find_is q test x ms all.1 e) e

first_is : (q : Member → Type 0) (p : Program) (call : CallKind) (r x : Member) (ms : List Member) → Each q ms → first_by p call r ms ≡ Some x → q x
first_is q p kinds.Virtual r x ms all e = taking_is q p r x ms all e
first_is q p kinds.Interface r x ms all e = find_is q (λ m. not (is_static p m)) x ms all e
first_is q p kinds.Special r x ms all e = find_is q (λ m. not (is_static p m)) x ms all e

-- a user's method is of a class of the program
abbrev SelectedWithin : Program → Selected → Type 0
SelectedWithin p (selected.Method m) = m.class < length p.parts
SelectedWithin p s = ⊤

module _ (p : Program) where
  -- ---- one method

  module _ (name desc : List ℕ) (x : Member) where
    declared : (i : ℕ) (o : Option ℕ) → i < length p.parts → option_map (λ j. Method (method_id i j)) o ≡ Some x → MemberWithin p x
    declared i None few e = absurd cc
    declared i (Some j) few e =
        let same : Method (method_id i j) ≡ x = cc in
        subst (MemberWithin p) same few

    user_within_at : (i : ℕ) (o : Option CodePart) → slice_get p.parts i ≡ o
        → option_and_then (λ c. method_in p.side c name desc) (option_map (λ part. User i part.class) o) ≡ Some x → MemberWithin p x
    user_within_at i None at e = absurd cc
    user_within_at i (Some part) at e = declared i (position (is_called part.class name desc) part.class.methods) (there p.parts i part at) e

    by_kind : (m : LibCall) (field : Bool) → (if field then None else Some (LibMethod m)) ≡ Some x → MemberWithin p x
    by_kind m true e = absurd cc
    by_kind m false e =
        let same : LibMethod m ≡ x = cc in
        subst (MemberWithin p) same tt

    lib_call : (o : Option LibCall) → option_and_then lib_method o ≡ Some x → MemberWithin p x
    lib_call None e = absurd cc
    lib_call (Some m) e = by_kind m (library_calls.is_field m) e

    lib_class : (o : Option LibClass) → option_and_then (λ c. method_in p.side c name desc) (option_map Lib o) ≡ Some x → MemberWithin p x
    lib_class None e = absurd cc
    lib_class (Some c) e = lib_call (library_calls.member_named p.side (library.name_of c) name desc) e

    found_within : (class : List ℕ) (o : Option ℕ) → option_and_then (λ c. method_in p.side c name desc) (found_at p class o) ≡ Some x → MemberWithin p x
    found_within class None e = lib_class (library.class_named p.side class) e
    found_within class (Some i) e = user_within_at i (slice_get p.parts i) refl e

    method_within : (class : List ℕ) → method_at p name desc class ≡ Some x → MemberWithin p x
    unfolding find
    method_within class e = found_within class (place_of p.parts class) e

  -- ---- what is selected

  coded_within : (m : Member) (coded : Selected) (b : Bool) → SelectedWithin p coded → SelectedWithin p (if b then selected.Abstract m else coded)
  coded_within m coded true few = tt
  coded_within m coded false few = few

  as_within : (o : Option Member) → ((x : Member) → o ≡ Some x → MemberWithin p x) → SelectedWithin p (as_selected p o)
  as_within None h = tt
  as_within (Some (Method x)) h = coded_within (Method x) (selected.Method x) (is_abstract p (Method x)) (h (Method x) refl)
  as_within (Some (LibMethod x)) h = coded_within (LibMethod x) (selected.Lib x) (is_abstract p (LibMethod x)) tt
  as_within (Some (Field i j)) h = tt
  as_within (Some LibField) h = tt

  select_within : (on : ClassId) (m : Member) (call : CallKind) → SelectedWithin p (select p on m call)
  unfolding select
  select_within on m call =
      let ms = methods_along p (name_of p m) (desc_of p m) (up p (name_of_id p on)) in
      as_within (first_by p call m ms)
      (λ x e. first_is (MemberWithin p) p call m x ms
      (each_found (MemberWithin p) (method_at p (name_of p m) (desc_of p m)) (λ c y f. method_within (name_of p m) (desc_of p m) y c f) (up p
      (name_of_id p on))) e)

  itself_within : (m : Member) → MemberWithin p m → SelectedWithin p (as_selected p (Some m))
  itself_within m few =
      as_within (Some m)
      (λ x e. let same : m ≡ x = cc in subst (MemberWithin p) same few)

  above_within : (m : Member) (o : Option ClassRef) → SelectedWithin p (from_above (world p) m o)
  unfolding world
  above_within m None = tt
  above_within m (Some r) = select_within (class_id r) m kinds.Special

  own_within : (m : Member) (o : Option ClassRef) (b : Bool) → MemberWithin p m
      → SelectedWithin p (if b then (world p).itself m else from_above (world p) m o)
  unfolding world
  own_within m o true few = itself_within m few
  own_within m o false few = above_within m o

  selected_within : (this : ℕ) (by : InvokeKind) (c : CallMeaning) (on : ClassId) → MemberWithin p c.member → SelectedWithin p (selected_on (world p) this by c on)
  unfolding world
  selected_within this how.Virtual c on few = select_within on c.member kinds.Virtual
  selected_within this how.Interface c on few = select_within on c.member kinds.Interface
  selected_within this how.Special c on few =
      own_within c.member ((world p).above this) (bytes_eq c.owner.0 ((world p).named this).0) few
  selected_within this how.Static c on few = itself_within c.member few
  selected_within this how.Init c on few = itself_within c.member few

  chosen_marked : (s : Selected) → SelectedWithin p s → IsMarked (length p.parts) (chosen p s)
  chosen_marked (selected.Method m) few = few
  chosen_marked (selected.Lib call) few = tt
  chosen_marked (selected.Abstract m) few = tt
  chosen_marked selected.Missing few = tt

  pub face_chosen : (on : ClassId) (m : Member) → IsMarked (length p.parts) (chosen p ((world p).select on m kinds.Interface))
  unfolding world
  face_chosen on m = chosen_marked (select p on m kinds.Interface) (select_within on m kinds.Interface)

  -- ---- answers

  meaning_marked : (k : CallKey) (o : Option Meaning) → meant p (pool_at p k.class) (call_form k.by k.pool) ≡ o → CallWithin p k.class k.by k.pool
      → IsMarked (length p.parts) (answer_to p k (in_meaning o)).what
  meaning_marked k None e within = tt
  meaning_marked k (Some (Push c)) e within = tt
  meaning_marked k (Some (meanings.Field op f)) e within = tt
  meaning_marked k (Some (Call way c)) e within =
      chosen_marked (selected_on (world p) k.class k.by c (id_on k.on)) (selected_within k.class k.by c (id_on k.on) (within way c e))
  meaning_marked k (Some (Make c)) e within = tt
  meaning_marked k (Some (MakeArray t)) e within = tt
  meaning_marked k (Some (Cast op t)) e within = tt

  pub answer_marked : (k : CallKey) → CallWithin p k.class k.by k.pool → IsMarked (length p.parts) (answer p k).what
  unfolding answer
  answer_marked k within = meaning_marked k (meant p (pool_at p k.class) (call_form k.by k.pool)) refl within

  pub at_marked : (class : ℕ) (by : InvokeKind) (pool : ℕ) (on : Receiver) → CallWithin p class by pool
      → IsMarked (length p.parts) (answer_at p class by pool on).what
  at_marked class by pool receivers.Missing within = tt
  at_marked class by pool receivers.Null within = tt
  at_marked class by pool (receivers.Object kind) within = answer_marked (record { class = class; pool = pool; by = by; on = number_by kind }) within

-- ---- instructions by number

pub user_within : (p : Program) (known : List TypeRef) (class : ℕ) (by : InvokeKind) (pool : ℕ) (params : Span) (k : ℕ)
    → UserCalled p (pool_at p class) known by pool params k → CallWithin p class by pool
user_within p known class by pool params k called way c means =
    let e : Some (Call by called.call) ≡ Some (Call way c) = sym called.means ∙ means in
    let same : called.call ≡ c = cc in
    subst (λ (x : CallMeaning). MemberWithin p x.member) same (subst (MemberWithin p) (sym called.calls.member) called.calls.number.class)

pub library_within : (p : Program) (known : List TypeRef) (class : ℕ) (by : InvokeKind) (pool : ℕ) (params : Span) (call : LibCall)
    → LibraryCalled p (pool_at p class) known by pool params call → CallWithin p class by pool
library_within p known class by pool params call called way c means =
    let e : Some (Call by called.call) ≡ Some (Call way c) = sym called.means ∙ means in
    let same : called.call ≡ c = cc in
    subst (λ (x : CallMeaning). MemberWithin p x.member) same (subst (MemberWithin p) (sym called.calls.member) tt)
