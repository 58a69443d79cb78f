-- Fields are found in the moved program where they were.
use Rattle.std.proofs.Common.{◌≡◌, ℕ, suc, ◌+◌, Bool, true, false, List, [], ◌∷◌, Option, Some, None, refl, ap, sym, ◌∙◌, subst, inl, inr}
use Rattle.std.specs.Prelude.{option_and_then, option_map, slice_get, ◌&&◌, ◌⊎◌, if◌then◌else◌}
use Rattle.std.specs.List.{position, position_from}
use Rattle.std.specs.Str.{bytes_eq}
use Rattle.std.proofs.lemmas.Iterator.Adapters.{position_from-zero}
use Rattle.jparts.proofs.JpoolProofs.PoolLaws.{at_index}
use Rattle.jclass.specs.declared.class.ClassParts.{ClassParts}
use Rattle.jclass.specs.declared.class.MemberInfo.{MemberInfo}
use Rattle.jclass.specs.MemberFormat as formats
use Rattle.jclass.specs.FileContents.{IsIn}
use Rattle.jlib.specs.declared.side.Side.{Side}
use Rattle.jlib.specs.declared.side.Side.TheVariants.{Passing, Source}
use Rattle.jlib.specs.declared.classes.LibClass.{LibClass}
use Rattle.jlib.specs.declared.calls.LibCall.{LibCall}
use Rattle.jlib.specs.LibraryMembers.{call_stands_on, is_field, member_named}
use Rattle.jlib.specs.LibraryClasses as library_classes
use Rattle.jlib.proofs.LibraryLookup.{call_found, call_only}
use Rattle.jresolution.specs.declared.jprogram.member.Member.{Member}
use Rattle.jresolution.specs.declared.jprogram.member.Member.TheVariants.{Field, LibField}
use Rattle.jresolution.specs.declared.jprogram.part.CodePart.{CodePart}
use Rattle.jresolution.specs.jprogram.ProgramClasses.{Class, Lib, Program, User, find}
use Rattle.jresolution.specs.jprogram.MemberResolution.{field_at, field_in, info_of, is_final, is_static, lib_field, owner_of, reach_in, reach_of, user_is, owner_in}
use Rattle.jresolution.specs.jprogram.NameChecks.{is_reserved}
use Rattle.jresolution.specs.jprogram.ClassFileParts as parts
use Rattle.jresolution.specs.jprogram.ClassFileParts.{is_called, member_desc, member_name, this_name}
use Rattle.jlinking.proofs.JlinkProofs.MethodSelection.{first_called}
use Rattle.jmoveclass.specs.MovedClasses.{moved_class, moved_part}
use Rattle.jrewriting.specs.jrewrite.LinkageLaws.{IsLinked}
use Rattle.jrewriting.specs.jrewrite.RewrittenPrograms.{moved}
use Rattle.jrewriting.proofs.JrewriteProofs.ClassLookup.{IsMovedClass, SameFound, named_at, pool_front, this_same}
use Rattle.jrewriting.proofs.JrewriteProofs.MemberPhase.{Texts, class_fields, field_texts, fields_same}
use Rattle.jrewriting.proofs.JrewriteProofs.FinalOverrides.{Likewise, moved_at, moved_side}
use Rattle.jrewriting.proofs.JrewriteProofs.PlainPrograms.{is_plain}
use Rattle.jrewriting.proofs.JrewriteProofs.MemberResolution.{Finds}
use Rattle.jrewriting.proofs.JrewriteProofs.MemberSides.{field_both}
use Rattle.jrewriting.proofs.JrewriteProofs.HierarchyPhases.{IsPlain, same}

-- every field is looked at
abbrev pub any : Member → Bool
any x = true

-- ---- the library's

-- a member of one side that stands on the other is found there
pub on_side : (one other : Side) (class name desc : List ℕ) (m : LibCall) → member_named one class name desc ≡ Some m → call_stands_on other m ≡ true → member_named other class name desc ≡ Some m
on_side one other class name desc m at on =
    let f = call_found one class name desc m at in
    rw (sym f.0, sym f.1, sym f.2) (call_only other m on)

abbrev held : Option LibCall → Option Member
held o = option_and_then lib_field o

kind_by : (b : Bool) → ((if b then Some LibField else None) ≡ None) ⊎ ((if b then Some LibField else None) ≡ Some LibField)
kind_by true = inr refl
kind_by false = inl refl

kind_of : (o : Option LibCall) → (held o ≡ None) ⊎ (held o ≡ Some LibField)
kind_of None = inl refl
kind_of (Some m) = kind_by (is_field m)

never : {P : Type 0} (o : Option Member) → o ≡ None → o ≡ Some LibField → P
never o a b = let no : None ≡ Some LibField = sym a ∙ b in absurd cc

is_it : (b : Bool) → (if b then Some LibField else None) ≡ Some LibField → b ≡ true
is_it true h = refl
is_it false h = absurd cc

across : (one other : Side) (class name desc : List ℕ) (o q : Option LibCall) → member_named one class name desc ≡ o → member_named other class name desc ≡ q → held o ≡ Some LibField → held q ≡ Some LibField
across one other class name desc None q a b h = absurd cc
across one other class name desc (Some m) q a b h =
    ap held (sym b ∙ on_side one other class name desc m a (field_both m (is_it (is_field m) h) other)) ∙ h

both_by : (class name desc : List ℕ) (o q : Option LibCall) → member_named Source class name desc ≡ o → member_named Passing class name desc ≡ q → held q ≡ held o
both_by class name desc o q a b = elim (kind_of o) [
  | inl none ↦ elim (kind_of q) [
    | inl none_too ↦ none_too ∙ sym none
    | inr some ↦ never (held o) none (across Passing Source class name desc q o b a some)
  ]
  | inr some ↦ elim (kind_of q) [
    | inl none ↦ never (held q) none (across Source Passing class name desc o q a b some)
    | inr some_too ↦ some_too ∙ sym some
  ]
]

in_lib : (p : Program) → p.side ≡ Source → (c d : LibClass) → c ≡ d → (name desc : List ℕ) → field_in (moved p).side (Lib d) name desc ≡ field_in p.side (Lib c) name desc
in_lib p source c d e name desc =
    ap (λ (s : Side). field_in s (Lib d) name desc) (moved_side p)
    ∙ ap (λ (x : LibClass). field_in Passing (Lib x) name desc) (sym e)
    ∙ both_by (library_classes.name_of c) name desc (member_named Source (library_classes.name_of c) name desc) (member_named Passing (library_classes.name_of c) name desc) refl refl
    ∙ ap (λ (s : Side). field_in s (Lib c) name desc) (sym source)

-- ---- users'

-- the fields of a class and of the moved one
pub record Fielded (c d : ClassParts) : Type 0 where
  pub fields : d.fields ≡ c.fields
  pub texts : (x : MemberInfo) → IsIn x c.fields → Texts c d x

pub fielded : (p : Program) → IsLinked p → (i : ℕ) (c d : ClassParts) → IsMovedClass p i c d → Fielded c d
fielded p is i c d h =
    let one = h.part.class in
    let all : Fielded one (moved_class p h.part.domain one) = record {
      fields = fields_same p h.part.domain one;
      texts = λ x there. field_texts one (moved_class p h.part.domain one) x (pool_front p h.part.domain one) (at_index (formats.field one.pool).fits one.fields there.0 x (class_fields one (is.files i h.part h.at)) there.1);
    } in
    subst (λ (y : ClassParts). Fielded c y) h.there (subst (λ (x : ClassParts). Fielded x (moved_class p h.part.domain one)) h.here all)

called_same : (c d : ClassParts) (name desc : List ℕ) (x : MemberInfo) → Texts c d x → is_called d name desc x ≡ is_called c name desc x
called_same c d name desc x t =
    ap (λ (n : List ℕ). bytes_eq n name && bytes_eq (member_desc d x) desc) t.name ∙ ap (λ (n : List ℕ). bytes_eq (member_name c x) name && bytes_eq n desc) t.desc

from_same : (f g : MemberInfo → Bool) (i : ℕ) (xs : List MemberInfo) → ((j : ℕ) (x : MemberInfo) → slice_get xs j ≡ Some x → g x ≡ f x) → position_from g i xs ≡ position_from f i xs
from_same f g i [] h = refl
from_same f g i (x ∷ xs) h = rw (h 0 x refl, from_same f g (i + 1) xs (λ j y at. h (suc j) y at)) refl

positions_same : (f g : MemberInfo → Bool) (xs : List MemberInfo) → ((j : ℕ) (x : MemberInfo) → slice_get xs j ≡ Some x → g x ≡ f x) → position g xs ≡ position f xs
positions_same f g xs h = position_from-zero g xs ∙ from_same f g 0 xs h ∙ sym (position_from-zero f xs)

in_user : (i j : ℕ) (c d : ClassParts) → i ≡ j → Fielded c d → (name desc : List ℕ)
    → option_map (λ k. Field j k) (position (is_called d name desc) d.fields) ≡ option_map (λ k. Field i k) (position (is_called c name desc) c.fields)
in_user i j c d e k name desc =
    ap (λ (fs : List MemberInfo). option_map (λ n. Field j n) (position (is_called d name desc) fs)) k.fields
    ∙ ap (option_map (λ n. Field j n)) (positions_same (is_called c name desc) (is_called d name desc) c.fields (λ n x at. called_same c d name desc x (k.texts x (n, at))))
    ∙ ap (λ (n : ℕ). option_map (λ m. Field n m) (position (is_called c name desc) c.fields)) (sym e)

-- ---- what is found

found_same : (p : Program) → IsLinked p → (name desc : List ℕ) (a b : Option Class) → SameFound p a b → option_and_then (λ c. field_in (moved p).side c name desc) b ≡ option_and_then (λ c. field_in p.side c name desc) a
found_same p is name desc None None h = refl
found_same p is name desc (Some (User i c)) (Some (User j d)) h = in_user i j c d h.0 (fielded p is i c d h.1) name desc
found_same p is name desc (Some (Lib c)) (Some (Lib d)) h = in_lib p is.source c d h name desc
found_same p is name desc None (Some d) h = absurd h
found_same p is name desc (Some (User i c)) None h = absurd h
found_same p is name desc (Some (Lib c)) None h = absurd h
found_same p is name desc (Some (User i c)) (Some (Lib d)) h = absurd h
found_same p is name desc (Some (Lib c)) (Some (User j d)) h = absurd h

pub field_same : (p : Program) → IsLinked p → (class name desc : List ℕ) → is_reserved class ≡ false → field_at (moved p) name desc class ≡ field_at p name desc class
field_same p is class name desc plain = found_same p is name desc (find p class) (find (moved p) class) (same p (is_plain p is) class plain)

-- ---- fields say the same

lib_likewise : (p : Program) → Likewise p LibField LibField
unfolding is_static is_final reach_of owner_of
lib_likewise p = record { static = refl; final = refl; reach = refl; owner = refl }

info_is : (p : Program) (i j : ℕ) (part : CodePart) (m : MemberInfo) → slice_get p.parts i ≡ Some part → slice_get part.class.fields j ≡ Some m → info_of p (Field i j) ≡ Some (part.class, m)
info_is p i j part m at there =
    ap (λ (q : Option CodePart). option_and_then (λ c. option_map (λ x. (c, x)) (slice_get c.fields j)) (option_map (λ y. y.class) q)) at
    ∙ ap (option_map (λ x. (part.class, x))) there

by_info : (p : Program) (i j : ℕ) (c d : ClassParts) (m : MemberInfo) → info_of p (Field i j) ≡ Some (c, m) → info_of (moved p) (Field i j) ≡ Some (d, m) → this_name d ≡ this_name c → Likewise p (Field i j) (Field i j)
unfolding is_static is_final reach_of owner_of
by_info p i j c d m old new named = record {
  static = ap (user_is (λ one. parts.is_static one.flags)) new ∙ sym (ap (user_is (λ one. parts.is_static one.flags)) old);
  final = ap (user_is (λ one. parts.is_final one.flags)) new ∙ sym (ap (user_is (λ one. parts.is_final one.flags)) old);
  reach = ap reach_in new ∙ sym (ap reach_in old);
  owner = ap owner_in new ∙ named ∙ sym (ap owner_in old);
}

user_likewise : (p : Program) → IsPlain p → (i j : ℕ) (part : CodePart) (m : MemberInfo) → slice_get p.parts i ≡ Some part → slice_get part.class.fields j ≡ Some m → Likewise p (Field i j) (Field i j)
user_likewise p is i j part m at there =
    let d = moved_class p part.domain part.class in
    by_info p i j part.class d m (info_is p i j part m at there)
    (info_is (moved p) i j (moved_part p part) m (moved_at p i part at) (ap (λ (fs : List MemberInfo). slice_get fs j) (fields_same p part.domain part.class) ∙ there))
    (this_same p part.domain part.class (named_at p.parts i part is.all at))

user_by : (p : Program) → IsPlain p → (i : ℕ) (part : CodePart) (c : ClassParts) (name desc : List ℕ) (o : Option ℕ) (x : Member) → slice_get p.parts i ≡ Some part → part.class ≡ c → position (is_called c name desc) c.fields ≡ o
    → option_map (λ k. Field i k) o ≡ Some x → Likewise p x x
user_by p is i part c name desc None x at here e h = absurd cc
user_by p is i part c name desc (Some j) x at here e h =
    let m = first_called c name desc c.fields j e in
    let is_x : Field i j ≡ x = cc in
    subst (λ (y : Member). Likewise p y y) is_x (user_likewise p is i j part m.0 at (ap (λ (y : ClassParts). slice_get y.fields j) here ∙ m.1))

lib_by : (p : Program) (b : Bool) (x : Member) → (if b then Some LibField else None) ≡ Some x → Likewise p x x
lib_by p true x h = let is_x : LibField ≡ x = cc in subst (λ (y : Member). Likewise p y y) is_x (lib_likewise p)
lib_by p false x h = absurd cc

lib_found : (p : Program) (o : Option LibCall) (x : Member) → held o ≡ Some x → Likewise p x x
lib_found p None x h = absurd cc
lib_found p (Some m) x h = lib_by p (is_field m) x h

found_likewise : (p : Program) → IsPlain p → (name desc : List ℕ) (a b : Option Class) (x : Member) → SameFound p a b → option_and_then (λ c. field_in p.side c name desc) a ≡ Some x → Likewise p x x
found_likewise p is name desc None None x h e = absurd cc
found_likewise p is name desc (Some (User i c)) (Some (User j d)) x h e = user_by p is i h.1.part c name desc (position (is_called c name desc) c.fields) x h.1.at h.1.here refl e
found_likewise p is name desc (Some (Lib c)) (Some (Lib d)) x h e = lib_found p (member_named p.side (library_classes.name_of c) name desc) x e
found_likewise p is name desc None (Some d) x h e = absurd h
found_likewise p is name desc (Some (User i c)) None x h e = absurd h
found_likewise p is name desc (Some (Lib c)) None x h e = absurd h
found_likewise p is name desc (Some (User i c)) (Some (Lib d)) x h e = absurd h
found_likewise p is name desc (Some (Lib c)) (Some (User j d)) x h e = absurd h

-- fields are found where they were
pub fields_found : (p : Program) → IsLinked p → (name desc class : List ℕ) → is_reserved class ≡ false → Finds (Likewise p) any (field_at p name desc class) (field_at (moved p) name desc class)
fields_found p is name desc class plain =
    let plainly = is_plain p is in
    let e = field_same p is class name desc plain in
    record {
      none = λ h. e ∙ h;
      some = λ x h good. record { other = x; is = e ∙ h; like = found_likewise p plainly name desc (find p class) (find (moved p) class) x (same p plainly class plain) h };
    }
