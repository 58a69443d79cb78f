-- Walks upwards by number: the number of a class that is found names that class, two are one where their names are one, and the walk by
-- numbers is the chain of names.
use Rattle.std.proofs.Common.{◌≡◌, ◌∙◌, ℕ, zero, suc, ◌+◌, ◌-◌, ◌<◌, ◌≤◌, ◌||◌, ◌==◌, Bool, true, false, List, [], ◌∷◌, ◌++◌, length, Option, Some, None, refl, sym, ap, subst}
use Rattle.std.specs.Prelude.{option_and_then, option_map, slice_get}
use Rattle.std.specs.List.{list_any}
use Rattle.std.specs.Str.{bytes_eq}
use Rattle.std.proofs.lemmas.Bool.{eq-eqb, eqb-true}
use Rattle.std.proofs.lemmas.List.{length-append}
use Rattle.std.proofs.lemmas.Slice.Eq.{bytes_eq-Decides}
use Rattle.jclass.specs.declared.class.ClassParts.{ClassParts}
use Rattle.jclass.specs.declared.class.MemberInfo.{MemberInfo}
use Rattle.jresolution.specs.declared.jprogram.found_class.FoundClass.{FoundClass}
use Rattle.jresolution.specs.declared.jprogram.found_class.FoundClass.TheVariants as found
use Rattle.jresolution.specs.declared.jprogram.lines.Line.{Line}
use Rattle.jresolution.specs.declared.jprogram.member.Member.TheVariants as members
use Rattle.jresolution.specs.declared.jprogram.member.MethodId.{MethodId}
use Rattle.jresolution.specs.declared.jprogram.part.ClassRef.{ClassRef}
use Rattle.jresolution.specs.declared.jprogram.part.ClassRef.TheVariants as refs
use Rattle.jresolution.specs.declared.jprogram.part.CodePart.{CodePart}
use Rattle.jresolution.specs.jprogram.ProgramClasses as classes
use Rattle.jresolution.specs.jprogram.ProgramClasses.{Class, Lib, Program, User, above, above_name, chain, class_at, extends, find, name_at, onward, place_of, ref_of, super_at, up, user_at, named}
use Rattle.jresolution.specs.jprogram.ImplementedInterfaces.{IsNumber}
use Rattle.jresolution.specs.jprogram.MemberResolution.{field_at, field_in, info_of, method_at, method_in, owner_of, owner_in}
use Rattle.jresolution.specs.jprogram.ClassFileParts.{this_name}
use Rattle.jresolution.specs.jprogram.FoundClasses.{seen}
use Rattle.jresolution.specs.jprogram.ClassTables.{AreLines, IsLine}
use Rattle.jresolution.proofs.JprogramProofs.Chains.{chain_at, chain_end}
use Rattle.jresolution.proofs.JprogramProofs.InterfaceSearch.{one_name, some_is}
use Rattle.jresolution.proofs.JprogramProofs.ClassNumbers.{number_found, number_name}
use Rattle.jresolution.proofs.JprogramProofs.ClassHeights.{Libs, Nowhere, Stands, Users, stands}
use denote.Ref.{Bor}

clash : false ≡ true → ⊥
clash e = cc

no_class : (c : Class) → None ≡ Some c → ⊥
no_class c e = cc

no_ref : (r : ClassRef) → None ≡ Some r → ⊥
no_ref r e = cc

none_there : {A : Type 0} (j : ℕ) (y : A) → slice_get [] j ≡ Some y → ⊥
none_there j y e = cc

-- ---- what is kept, one behind the other

each_more : {A : Type 0} (R : ℕ → A → Type 0) (xs : List A) (x : A) → ((j : ℕ) (y : A) → slice_get xs j ≡ Some y → R j y) → R (length xs) x
    → (j : ℕ) (y : A) → slice_get (xs ++ x ∷ []) j ≡ Some y → R j y
each_more R [] x h r zero y at = subst (R 0) (some_is x y at) r
each_more R [] x h r (suc j) y at = absurd (none_there j y at)
each_more R (z ∷ zs) x h r zero y at = h 0 y at
each_more R (z ∷ zs) x h r (suc j) y at = each_more (λ k. R (suc k)) zs x (λ k w is. h (suc k) w is) r j y at

pub lines_more : (p : Program) (lines new : List Line) (i : ℕ) (x : Line) → AreLines p lines → length lines ≡ i → IsLine p i x → new ≡ lines ++ x ∷ [] → AreLines p new
lines_more p lines new i x h size is put =
    let R : ℕ → Line → Type 0 = λ j y. IsLine p j y in
    subst (AreLines p) (sym put) (each_more R lines x h (subst (λ (k : ℕ). IsLine p k x) (sym size) is))

pub lines_size : (lines new : List Line) (i : ℕ) (x : Line) → length lines ≡ i → new ≡ lines ++ x ∷ [] → length new ≡ i + 1
lines_size lines new i x size put = ap length put ∙ length-append lines (x ∷ []) ∙ ap (λ (k : ℕ). k + 1) size

-- ---- two names that stand

same_by : (ps : List CodePart) (m n : List ℕ) (a b : ℕ) → place_of ps m ≡ Some a → place_of ps n ≡ Some b → (t : Bool) → (a == b) ≡ t → (u : Bool) → bytes_eq m n ≡ u → t ≡ u
same_by ps m n a b at bt true e true u = refl
same_by ps m n a b at bt false e false u = refl
same_by ps m n a b at bt true e false u =
    let same : a ≡ b = eqb-true a b e in
    let name : n ≡ m = one_name ps m n a at (bt ∙ ap (λ (k : ℕ). Some k) (sym same)) in
    absurd (clash (sym u ∙ (bytes_eq-Decides m n).1 (sym name)))
same_by ps m n a b at bt false e true u =
    let name : m ≡ n = (bytes_eq-Decides m n).0 u in
    let same : a ≡ b = some_is a b (sym at ∙ ap (place_of ps) name ∙ bt) in
    absurd (clash (sym e ∙ eq-eqb a b same))

pub same_places : (ps : List CodePart) (m n : List ℕ) (a b : ℕ) → Some a ≡ place_of ps m → Some b ≡ place_of ps n → (a == b) ≡ bytes_eq m n
same_places ps m n a b at bt = same_by ps m n a b (sym at) (sym bt) (a == b) refl (bytes_eq m n) refl

-- ---- the class of a number

number_by : (p : Program) (n : List ℕ) (c : Class) → Stands p n → find p n ≡ Some c → class_at p (ref_of c) ≡ Some c
number_by p n c (Users i part at called is) e =
    subst (λ (x : Class). class_at p (ref_of x) ≡ Some x) (some_is (User i part.class) c (sym is ∙ e)) (ap (option_map (λ (x : CodePart). User i x.class)) at)
number_by p n c (Libs l known is) e = subst (λ (x : Class). class_at p (ref_of x) ≡ Some x) (some_is (Lib l) c (sym is ∙ e)) refl
number_by p n c (Nowhere none) e = absurd (no_class c (sym none ∙ e))

pub found_number : (p : Program) (n : List ℕ) (c : Class) → find p n ≡ Some c → class_at p (ref_of c) ≡ Some c
found_number p n c e = number_by p n c (stands p n) e

-- the class that declares a member which is there
owner_by : (p : Program) (i : ℕ) (get : ClassParts → Option MemberInfo) (o : Option CodePart) (x : ClassParts × MemberInfo) → slice_get p.parts i ≡ o
    → option_and_then (λ (c : ClassParts). option_map (λ (m : MemberInfo). (c, m)) (get c)) (option_map (λ (q : CodePart). q.class) o) ≡ Some x
    → this_name x.0 ≡ named (option_map (λ (q : CodePart). User i q.class) o)
owner_by p i get None x e is = absurd cc
owner_by p i get (Some q) x e is = owner_in_part (get q.class) is
  where
    owner_in_part : (o : Option MemberInfo) → option_map (λ (m : MemberInfo). (q.class, m)) o ≡ Some x → this_name x.0 ≡ this_name q.class
    owner_in_part None is = absurd cc
    owner_in_part (Some m) is = ap (λ (y : ClassParts × MemberInfo). this_name y.0) (sym (some_is (q.class, m) x is))

pub field_owner : (p : Program) (i j : ℕ) (x : ClassParts × MemberInfo) → info_of p (members.Field i j) ≡ Some x → owner_of p (members.Field i j) ≡ name_at p (refs.User i)
unfolding owner_of
field_owner p i j x e = ap owner_in e ∙ owner_by p i (λ (c : ClassParts). slice_get c.fields j) (slice_get p.parts i) x refl e

pub method_owner : (p : Program) (m : MethodId) (x : ClassParts × MemberInfo) → info_of p (members.Method m) ≡ Some x → owner_of p (members.Method m) ≡ name_at p (refs.User m.class)
unfolding owner_of
method_owner p m x e = ap owner_in e ∙ owner_by p m.class (λ (c : ClassParts). slice_get c.methods m.method) (slice_get p.parts m.class) x refl e

number_class : (p : Program) (n : List ℕ) (o : Option Class) → find p n ≡ o → option_and_then (class_at p) (option_map ref_of o) ≡ o
number_class p n None e = refl
number_class p n (Some c) e = found_number p n c e

numbered_name : (p : Program) (m : Option (List ℕ)) → option_and_then (class_at p) (option_map ref_of (option_and_then (find p) m)) ≡ option_and_then (find p) m
numbered_name p None = refl
numbered_name p (Some n) = number_class p n (find p n) refl

-- the class above one that has its number
pub over_user : (p : Program) (f : FoundClass) (i : ℕ) (c : Bor ClassParts) (s : Option ClassRef) → f ≡ found.User i c → class_at p (ref_of (seen f)) ≡ Some (seen f) → s ≡ super_at p (refs.User i)
    → option_and_then (class_at p) s ≡ option_and_then (find p) (above (seen f))
over_user p f i c s is known by =
    let here : class_at p (refs.User i) ≡ Some (seen f) = subst (λ (x : FoundClass). class_at p (ref_of (seen x)) ≡ Some (seen f)) is known in
    ap (option_and_then (class_at p)) (by ∙ ap (λ (o : Option Class). option_map ref_of (option_and_then (find p) (option_and_then above o))) here)
    ∙ numbered_name p (above (seen f))

-- a name's class has its number
pub at_number : (p : Program) (n : List ℕ) (o : Option FoundClass) (f : FoundClass) → option_map seen o ≡ find p n → o ≡ Some f → class_at p (ref_of (seen f)) ≡ Some (seen f)
at_number p n o f at is = found_number p n (seen f) (sym at ∙ ap (option_map seen) is)

pub at_above : (p : Program) (n : List ℕ) (o : Option FoundClass) (f : FoundClass) → option_map seen o ≡ find p n → o ≡ Some f → above_name p n ≡ above (seen f)
at_above p n o f at is = ap (option_and_then above) (sym at ∙ ap (option_map seen) is)

pub at_nowhere : (p : Program) (n : List ℕ) (o : Option FoundClass) → option_map seen o ≡ find p n → o ≡ None → above_name p n ≡ None
at_nowhere p n o at is = ap (option_and_then above) (sym at ∙ ap (option_map seen) is)

pub here_user : (p : Program) (n name desc : List ℕ) (o : Option FoundClass) (f : FoundClass) (i : ℕ) (c : Bor ClassParts) → option_map seen o ≡ find p n → o ≡ Some f → f ≡ found.User i c
    → option_and_then (λ (x : Class). method_in p.side x name desc) (user_at p i) ≡ method_at p name desc n
here_user p n name desc o f i c at is same =
    let here : find p n ≡ Some (User i c.now) = sym at ∙ ap (option_map seen) (is ∙ ap (λ (x : FoundClass). Some x) same) in
    let there : class_at p (refs.User i) ≡ Some (User i c.now) = found_number p n (User i c.now) here in
    ap (option_and_then (λ (x : Class). method_in p.side x name desc)) (there ∙ sym here)

pub here_field : (p : Program) (n name desc : List ℕ) (o : Option FoundClass) (f : FoundClass) (i : ℕ) (c : Bor ClassParts) → option_map seen o ≡ find p n → o ≡ Some f → f ≡ found.User i c
    → option_and_then (λ (x : Class). field_in p.side x name desc) (user_at p i) ≡ field_at p name desc n
here_field p n name desc o f i c at is same =
    let here : find p n ≡ Some (User i c.now) = sym at ∙ ap (option_map seen) (is ∙ ap (λ (x : FoundClass). Some x) same) in
    let there : class_at p (refs.User i) ≡ Some (User i c.now) = found_number p n (User i c.now) here in
    ap (option_and_then (λ (x : Class). field_in p.side x name desc)) (there ∙ sym here)

-- ---- numbers of names

pub number_there : (p : Program) (n : List ℕ) (r : ClassRef) → Some r ≡ option_map ref_of (find p n) → IsNumber p r
number_there p n r e = number_found p n r (sym e)

pub extends_named : (p : Program) (c d x y : ClassRef) (b : Bool) → Some x ≡ option_map ref_of (find p (name_at p c)) → Some y ≡ option_map ref_of (find p (name_at p d))
    → b ≡ extends p (name_at p x) (name_at p y) → b ≡ extends p (name_at p c) (name_at p d)
extends_named p c d x y b cx dy e =
    e ∙ ap (λ (n : List ℕ). extends p n (name_at p y)) (number_name p (name_at p c) x (sym cx)) ∙ ap (extends p (name_at p c)) (number_name p (name_at p d) y (sym dy))

one_named : (p : Program) (c d : ClassRef) → IsNumber p c → IsNumber p d → name_at p d ≡ name_at p c → c ≡ d
one_named p c d kc kd e = some_is c d (sym kc ∙ ap (λ (n : List ℕ). option_map ref_of (find p n)) (sym e) ∙ kd)

pub one_if : (p : Program) (c d : ClassRef) → c ≡ d → true ≡ bytes_eq (name_at p d) (name_at p c)
one_if p c d e = sym ((bytes_eq-Decides (name_at p d) (name_at p c)).1 (ap (name_at p) (sym e)))

apart_by : (p : Program) (c d : ClassRef) → IsNumber p c → IsNumber p d → (c ≡ d → ⊥) → (b : Bool) → bytes_eq (name_at p d) (name_at p c) ≡ b → false ≡ b
apart_by p c d kc kd apart false e = refl
apart_by p c d kc kd apart true e = absurd (apart (one_named p c d kc kd ((bytes_eq-Decides (name_at p d) (name_at p c)).0 e)))

pub two_if : (p : Program) (c d : ClassRef) → IsNumber p c → IsNumber p d → (c ≡ d → ⊥) → false ≡ bytes_eq (name_at p d) (name_at p c)
two_if p c d kc kd apart = apart_by p c d kc kd apart (bytes_eq (name_at p d) (name_at p c)) refl

-- ---- the walk by numbers

super_by : (p : Program) (c : ClassRef) (o : Option Class) → option_map ref_of (find p (name_at p c)) ≡ Some c → find p (name_at p c) ≡ o → super_at p c ≡ option_map ref_of (option_and_then (find p) (above_name p (name_at p c)))
super_by p c None known e = absurd (no_ref c (ap (option_map ref_of) (sym e) ∙ known))
super_by p c (Some x) known e =
    let same : ref_of x ≡ c = some_is (ref_of x) c (ap (option_map ref_of) (sym e) ∙ known) in
    let here : class_at p c ≡ find p (name_at p c) = ap (class_at p) (sym same) ∙ found_number p (name_at p c) x e ∙ sym e in
    ap (λ (o : Option Class). option_map ref_of (option_and_then (find p) (option_and_then above o))) here

super_is : (p : Program) (c : ClassRef) → IsNumber p c → super_at p c ≡ option_map ref_of (option_and_then (find p) (above_name p (name_at p c)))
super_is p c known = super_by p c (find p (name_at p c)) known refl

step_by : (p : Program) (o : Option (List ℕ)) (s : ClassRef) → option_map ref_of (option_and_then (find p) o) ≡ Some s → (o ≡ Some (name_at p s)) × IsNumber p s
step_by p None s e = absurd (no_ref s e)
step_by p (Some n) s e = (ap (λ (m : List ℕ). Some m) (sym (number_name p n s e)), number_found p n s e)

step : (p : Program) (c s : ClassRef) → IsNumber p c → super_at p c ≡ Some s → (above_name p (name_at p c) ≡ Some (name_at p s)) × IsNumber p s
step p c s known e = step_by p (above_name p (name_at p c)) s (sym (super_is p c known) ∙ e)

map_none : (o : Option Class) → option_map ref_of o ≡ None → o ≡ None
map_none None e = refl
map_none (Some c) e = absurd cc

unlike : (p : Program) (d n : List ℕ) (x : ClassRef) → option_map ref_of (find p d) ≡ Some x → find p n ≡ None → (b : Bool) → bytes_eq d n ≡ b → (b || false) ≡ false
unlike p d n x is gone false e = refl
unlike p d n x is gone true e =
    absurd (no_ref x (sym (ap (option_map ref_of) (ap (find p) ((bytes_eq-Decides d n).0 e) ∙ gone)) ∙ is))

end_by : (p : Program) (m : ℕ) (d : List ℕ) (x : ClassRef) (o : Option (List ℕ)) → option_map ref_of (find p d) ≡ Some x
    → option_map ref_of (option_and_then (find p) o) ≡ None → list_any (bytes_eq d) (onward (chain p m) o) ≡ false
unfolding chain
end_by p m d x None is none = refl
end_by p zero d x (Some n) is none = refl
end_by p (suc m) d x (Some n) is none =
    let gone : find p n ≡ None = map_none (find p n) none in
    ap (λ (o : Option Class). list_any (bytes_eq d) (n ∷ onward (chain p m) (option_and_then above o))) gone ∙ unlike p d n x is gone (bytes_eq d n) refl

abbrev Walk : Program → ℕ → List ℕ → ClassRef → Bool
Walk p n d c = list_any (bytes_eq d) (chain p n (name_at p c))

or_true : (a b : Bool) → a ≡ true → (a || b) ≡ true
or_true true b e = refl
or_true false b e = absurd (clash e)

or_false : (a b : Bool) → a ≡ false → (a || b) ≡ b
or_false false b e = refl
or_false true b e = absurd (clash (sym e))

module _ (p : Program) (n i : ℕ) (c d at : ClassRef) (size : n ≡ length (classes.known p) + 1) (kept : Walk p (n - i) (name_at p d) at ≡ Walk p n (name_at p d) c) where
  all : Walk p n (name_at p d) c ≡ list_any (bytes_eq (name_at p d)) (up p (name_at p c))
  all = ap (λ (m : ℕ). Walk p m (name_at p d) c) size

  module _ (left : i < n) (b : Bool) (same : b ≡ bytes_eq (name_at p d) (name_at p at)) where
    first : Walk p (n - i) (name_at p d) at ≡ (b || list_any (bytes_eq (name_at p d)) (onward (chain p (n - (i + 1))) (above_name p (name_at p at))))
    first = ap (list_any (bytes_eq (name_at p d))) (chain_at p n i (name_at p at) left)
        ∙ ap (λ (x : Bool). x || list_any (bytes_eq (name_at p d)) (onward (chain p (n - (i + 1))) (above_name p (name_at p at)))) (sym same)

    pub walk_found : b ≡ true → true ≡ list_any (bytes_eq (name_at p d)) (up p (name_at p c))
    walk_found is = sym (or_true b _ is) ∙ sym first ∙ kept ∙ all

    module _ (isnt : b ≡ false) (known : IsNumber p at) (o : Option ClassRef) (by : o ≡ super_at p at) where
      pub walk_ends : IsNumber p d → o ≡ None → false ≡ list_any (bytes_eq (name_at p d)) (up p (name_at p c))
      walk_ends sought none =
          sym (end_by p (n - (i + 1)) (name_at p d) d (above_name p (name_at p at)) sought (sym (super_is p at known) ∙ sym by ∙ none))
          ∙ sym (or_false b _ isnt) ∙ sym first ∙ kept ∙ all

      pub walk_goes_on : (s : ClassRef) → o ≡ Some s
          → (n ≡ length (classes.known p) + 1) × (IsNumber p s × (Walk p (n - (i + 1)) (name_at p d) s ≡ Walk p n (name_at p d) c))
      walk_goes_on s is =
          let up_one = step p at s known (sym by ∙ is) in (
            size,
            (
              up_one.1,
              ap (λ (x : Option (List ℕ)). list_any (bytes_eq (name_at p d)) (onward (chain p (n - (i + 1))) x)) (sym up_one.0)
                  ∙ sym (or_false b _ isnt) ∙ sym first ∙ kept,
            ),
          )

  pub walk_over : n ≤ i → false ≡ list_any (bytes_eq (name_at p d)) (up p (name_at p c))
  walk_over le = sym (ap (list_any (bytes_eq (name_at p d))) (chain_end p n i (name_at p at) le)) ∙ kept ∙ all
