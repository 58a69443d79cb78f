-- Methods of the library that are called as before are found in the moved program where they were.
use Rattle.std.proofs.Common.{◌≡◌, ℕ, suc, ◌+◌, Bool, true, false, List, [], ◌∷◌, ◌++◌, Option, Some, None, refl, ap, sym, ◌∙◌, subst, inl, inr}
use Rattle.std.specs.Prelude.{option_and_then, option_map, slice_get, ◌||◌}
use Rattle.std.specs.List.{list_any, position, position_from}
use Rattle.std.specs.Str.{bytes_eq}
use Rattle.std.proofs.lemmas.Bool.{cases_Bool}
use Rattle.std.proofs.lemmas.Iterator.Adapters.{position_from-zero}
use Rattle.std.proofs.lemmas.Slice.Eq.{bytes_eq-Decides}
use Rattle.jparts.specs.declared.jpool.descriptor.FieldType.{FieldType}
use Rattle.jclass.specs.declared.class.ClassParts.{ClassParts}
use Rattle.jclass.specs.declared.class.MemberInfo.{MemberInfo}
use Rattle.jclass.specs.FileContents.{IsIn}
use Rattle.jlib.specs.declared.side.Side.{Side}
use Rattle.jlib.specs.declared.side.Side.TheVariants.{Passing, Source}
use Rattle.jlib.specs.declared.classes.LibClass.{LibClass}
use Rattle.jlib.specs.declared.calls.LibCall.{LibCall}
use Rattle.jlib.specs.LibraryMembers.{call_stands_on, is_field, member_named}
use Rattle.jlib.specs.LibraryClasses as library_classes
use Rattle.jlib.proofs.LibraryLookup.{call_found}
use Rattle.jmove.specs.PoolAdditions.{context_type}
use Rattle.jresolution.specs.declared.jprogram.member.Member.{Member}
use Rattle.jresolution.specs.declared.jprogram.member.Member.TheVariants.{Field, LibField, LibMethod, Method}
use Rattle.jresolution.specs.jprogram.ProgramClasses.{Class, Lib, Program, User, find}
use Rattle.jresolution.specs.jprogram.MemberResolution.{lib_method, method_at, method_id, method_in}
use Rattle.jresolution.specs.jprogram.NameChecks.{desc_reserved, is_reserved, text_reserved, type_reserved}
use Rattle.jresolution.specs.jprogram.ProofNames.{return_reserved}
use Rattle.jresolution.specs.jprogram.ClassFileParts.{is_called, member_desc, member_name}
use Rattle.jmoveclass.specs.MovedMembers.{new_desc}
use Rattle.jrewriting.proofs.JmoveclassLawsProofs.MovedMethods.{Alike, Like}
use Rattle.jrewriting.specs.jrewrite.RewrittenPrograms.{moved}
use Rattle.jrewriting.proofs.JrewriteProofs.DeclarationChecks.{Facts, Moving, desc_is, differ, and_none}
use Rattle.jrewriting.proofs.JrewriteProofs.FieldLookup.{on_side}
use Rattle.jrewriting.proofs.JrewriteProofs.ClassLookup.{SameFound}
use Rattle.jrewriting.proofs.JrewriteProofs.FinalOverrides.{AllMoving, Likewise, lib_likewise, lib_named, moved_side}
use Rattle.jrewriting.proofs.JrewriteProofs.MemberResolution.{Finds, Is, no_some}
use Rattle.jrewriting.proofs.JrewriteProofs.MemberSides.{from_source}
use Rattle.jrewriting.proofs.JrewriteProofs.HierarchyPhases.{IsPlain, same}
use Rattle.jrewriting.proofs.JrewriteProofs.ContextMethodLookup.{method_is}
use Rattle.jrewriting.proofs.JrewriteProofs.ParameterAccess.{or_left}

-- what isn't handed a context, and stands on the passing side
abbrev pub unchanged : Member → Bool
unchanged (LibMethod m) = call_stands_on Passing m
unchanged (Method m) = false
unchanged (Field i j) = true
unchanged LibField = true

-- a member of the moved program is the member itself
pub record IsItself (p : Program) (x y : Member) : Type 0 where
  pub is : y ≡ x
  pub like : Likewise p x y

-- ---- no method of a moved class has a plain descriptor

or_right : (a b : Bool) → b ≡ true → (a || b) ≡ true
or_right true b h = refl
or_right false b h = h

any_last : (ps : List FieldType) → list_any type_reserved (ps ++ context_type ∷ []) ≡ true
any_last [] = refl
any_last (p ∷ ps) = or_right (type_reserved p) (list_any type_reserved (ps ++ context_type ∷ [])) (any_last ps)

pub new_reserved : (c : ClassParts) (m : MemberInfo) → Facts c m → text_reserved (new_desc c m) ≡ true
unfolding text_reserved
new_reserved c m f = ap desc_reserved f.new ∙ or_left (list_any type_reserved (f.ps ++ context_type ∷ [])) (return_reserved f.ret) (any_last f.ps)

other_desc : (new desc : List ℕ) → text_reserved new ≡ true → text_reserved desc ≡ false → bytes_eq new desc ≡ false
other_desc new desc kept plain = elim (cases_Bool (bytes_eq new desc)) [
  | inl hit ↦ differ (sym kept ∙ ap text_reserved ((bytes_eq-Decides new desc).0 hit) ∙ plain)
  | inr miss ↦ miss
]

not_called : (c d : ClassParts) (name desc : List ℕ) (x y : MemberInfo) → Moving c d → IsIn x c.methods → Like c d.pool x y → text_reserved desc ≡ false → is_called d name desc y ≡ false
not_called c d name desc x y k there like plain =
    and_none (bytes_eq (member_name d y) name) (bytes_eq (member_desc d y) desc)
    (other_desc (member_desc d y) desc (ap text_reserved (desc_is c d x y like) ∙ new_reserved c x (k.facts x there)) plain)

none_from : (c d : ClassParts) (name desc : List ℕ) (i : ℕ) (xs ys : List MemberInfo) → Moving c d → ((j : ℕ) (x : MemberInfo) → slice_get xs j ≡ Some x → IsIn x c.methods) → Alike c d.pool xs ys → text_reserved desc ≡ false
    → position_from (is_called d name desc) i ys ≡ None
none_from c d name desc i [] [] k sub all plain = refl
none_from c d name desc i [] (y ∷ ys) k sub all plain = absurd all
none_from c d name desc i (x ∷ xs) [] k sub all plain = absurd all
none_from c d name desc i (x ∷ xs) (y ∷ ys) k sub all plain = rw (not_called c d name desc x y k (sub 0 x refl) all.0 plain, none_from c d name desc (i + 1) xs ys k (λ j z at. sub (suc j) z at) all.1 plain) refl

no_position : (c d : ClassParts) (name desc : List ℕ) → Moving c d → Alike c d.pool c.methods d.methods → text_reserved desc ≡ false → position (is_called d name desc) d.methods ≡ None
no_position c d name desc k all plain = position_from-zero (is_called d name desc) d.methods ∙ none_from c d name desc 0 c.methods d.methods k (λ j x at. (j, at)) all plain

user_no : {P : Type 0} (i : ℕ) (o : Option ℕ) (x : Member) → option_map (λ j. Method (method_id i j)) o ≡ Some x → unchanged x ≡ true → P
user_no i None x e h = absurd cc
user_no i (Some j) x e h =
    let is : Method (method_id i j) ≡ x = cc in
    differ (sym h ∙ ap unchanged (sym is))

in_user : (p : Program) (i j : ℕ) (c d : ClassParts) (name desc : List ℕ) → Moving c d → Alike c d.pool c.methods d.methods → text_reserved desc ≡ false
    → Finds (IsItself p) unchanged (option_map (λ k. Method (method_id i k)) (position (is_called c name desc) c.methods)) (option_map (λ k. Method (method_id j k)) (position (is_called d name desc) d.methods))
in_user p i j c d name desc k all plain = record {
  none = λ e. ap (option_map (λ n. Method (method_id j n))) (no_position c d name desc k all plain);
  some = λ x e h. user_no i (position (is_called c name desc) c.methods) x e h;
}

-- ---- the library's

abbrev held : Option LibCall → Option Member
held o = option_and_then lib_method o

none_there : (class name desc : List ℕ) (o q : Option LibCall) → is_reserved class ≡ false → text_reserved desc ≡ false → member_named Source class name desc ≡ o → member_named Passing class name desc ≡ q → held o ≡ None → held q ≡ None
none_there class name desc o None plain typed a b e = refl
none_there class name desc o (Some m) plain typed a b e =
    let f = call_found Passing class name desc m b in
    let there = on_side Passing Source class name desc m b (from_source m f.3 (ap is_reserved f.0 ∙ plain) (ap text_reserved f.2 ∙ typed)) in
    ap held (sym there ∙ a) ∙ e

some_there : (p : Program) (class name desc : List ℕ) (o q : Option LibCall) → member_named Source class name desc ≡ o → member_named Passing class name desc ≡ q → (x : Member) → held o ≡ Some x → unchanged x ≡ true → Is (IsItself p) x (held q)
some_there p class name desc None q a b x e h = absurd cc
some_there p class name desc (Some m) q a b x e h =
    let is = method_is (is_field m) m x e in
    let there = on_side Source Passing class name desc m a (ap unchanged is ∙ h) in
    record { other = x; is = ap held (sym b ∙ there) ∙ e; like = record { is = refl; like = subst (λ (y : Member). Likewise p y y) is (lib_likewise p m m refl refl) } }

lib_by : (p : Program) (class name desc : List ℕ) → is_reserved class ≡ false → text_reserved desc ≡ false → Finds (IsItself p) unchanged (held (member_named Source class name desc)) (held (member_named Passing class name desc))
lib_by p class name desc plain typed = record {
  none = λ e. none_there class name desc (member_named Source class name desc) (member_named Passing class name desc) plain typed refl refl e;
  some = λ x e h. some_there p class name desc (member_named Source class name desc) (member_named Passing class name desc) refl refl x e h;
}

in_lib : (p : Program) → p.side ≡ Source → (c d : LibClass) → c ≡ d → (name desc : List ℕ) → is_reserved (library_classes.name_of c) ≡ false → text_reserved desc ≡ false
    → Finds (IsItself p) unchanged (method_in p.side (Lib c) name desc) (method_in (moved p).side (Lib d) name desc)
in_lib p source c d e name desc plain typed =
    subst (λ (y : LibClass). Finds (IsItself p) unchanged (method_in p.side (Lib c) name desc) (method_in (moved p).side (Lib y) name desc)) e
    (subst (λ (s : Side). Finds (IsItself p) unchanged (method_in s (Lib c) name desc) (method_in (moved p).side (Lib c) name desc)) (sym source)
    (subst (λ (s : Side). Finds (IsItself p) unchanged (method_in Source (Lib c) name desc) (method_in s (Lib c) name desc)) (sym (moved_side p))
    (lib_by p (library_classes.name_of c) name desc plain typed)))

-- ---- what is found

found_kept : (p : Program) → IsPlain p → AllMoving p → (name desc : List ℕ) → text_reserved desc ≡ false → (a b : Option Class) → SameFound p a b → ((c : LibClass) → a ≡ Some (Lib c) → is_reserved (library_classes.name_of c) ≡ false)
    → Finds (IsItself p) unchanged (option_and_then (λ c. method_in p.side c name desc) a) (option_and_then (λ c. method_in (moved p).side c name desc) b)
found_kept p is all name desc typed None None h plain = record { none = λ e. refl; some = λ x e k. no_some x e }
found_kept p is all name desc typed (Some (User i c)) (Some (User j d)) h plain = let k = all i c d h.1 in in_user p i j c d name desc k.0 k.1 typed
found_kept p is all name desc typed (Some (Lib c)) (Some (Lib d)) h plain = in_lib p is.source c d h name desc (plain c refl) typed
found_kept p is all name desc typed None (Some d) h plain = absurd h
found_kept p is all name desc typed (Some (User i c)) None h plain = absurd h
found_kept p is all name desc typed (Some (Lib c)) None h plain = absurd h
found_kept p is all name desc typed (Some (User i c)) (Some (Lib d)) h plain = absurd h
found_kept p is all name desc typed (Some (Lib c)) (Some (User j d)) h plain = absurd h

pub methods_kept : (p : Program) → IsPlain p → AllMoving p → (name desc : List ℕ) → text_reserved desc ≡ false → (class : List ℕ) → is_reserved class ≡ false → Finds (IsItself p) unchanged (method_at p name desc class) (method_at (moved p) name desc class)
methods_kept p is all name desc typed class plain = found_kept p is all name desc typed (find p class) (find (moved p) class) (same p is class plain) (λ c e. ap is_reserved (lib_named p class c e) ∙ plain)
