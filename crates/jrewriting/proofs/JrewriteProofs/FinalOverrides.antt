-- A moved method overrides no final one: of what stands above it nothing is new.
use Rattle.std.proofs.Common.{◌≡◌, ◌⊎◌, ℕ, zero, suc, ◌+◌, Bool, true, false, ◌&&◌, not, List, [], ◌∷◌, ◌++◌, length, Option, Some, None, refl, ap, sym, ◌∙◌, subst, inl, inr}
use Rattle.std.specs.Prelude.{IsTrue, slice_get, option_and_then, option_map, option_to_list, codes, ◌||◌}
use Rattle.std.specs.List.{cons_option, filter_map, position, position_from}
use Rattle.std.specs.Str.{byte, bytes_eq}
use Rattle.std.proofs.lemmas.Iterator.Adapters.{position_from-zero}
use Rattle.std.proofs.lemmas.List.{append_cancel_right}
use Rattle.jparts.specs.declared.jpool.descriptor.Descriptor.TheVariants as descriptors
use Rattle.jparts.specs.declared.jpool.descriptor.FieldType.{FieldType}
use Rattle.jparts.specs.jpool.Descriptors.{base_at, class_at, closing_at, descriptor_of, descriptor_text, field_of, method_of, params_at, return_at, slots_of, type_at}
use Rattle.jparts.specs.jpool.ClassNames.{is_class_name}
use Rattle.jparts.proofs.JpoolProofs.DescriptorTexts.{descriptor_take}
use Rattle.jclass.specs.declared.class.ClassParts.{ClassParts}
use Rattle.jclass.specs.declared.class.MemberInfo.{MemberInfo}
use Rattle.jclass.specs.FileContents.{IsIn}
use Rattle.jlib.specs.declared.side.Side.{Side}
use Rattle.jlib.specs.declared.side.Side.TheVariants.{Passing, Source}
use Rattle.jlib.specs.declared.classes.LibClass.{LibClass}
use Rattle.jlib.specs.declared.calls.LibCall.{LibCall}
use Rattle.jlib.specs.declared.calls.LibCall.TheVariants as call
use Rattle.jlib.specs.declared.calls.ThrownInit.TheVariants as given
use Rattle.jlib.specs.declared.calls.PrintedType.TheVariants as piece
use Rattle.jlib.specs.declared.calls.StringCall.TheVariants as string
use Rattle.jlib.specs.declared.calls.BuilderCall.TheVariants as builder
use Rattle.jlib.specs.declared.calls.ThreadCall.TheVariants as thread
use Rattle.jlib.specs.declared.calls.ControllerCall.TheVariants as controller
use Rattle.jlib.specs.declared.calls.PermissionInit.TheVariants as init
use Rattle.jlib.specs.declared.calls.RtCall.TheVariants as rt
use Rattle.jlib.specs.LibraryMembers as library
use Rattle.jlib.specs.LibraryClasses as library_classes
use Rattle.jlib.proofs.LibraryLookup.{call_found, call_only, class_found}
use Rattle.jlinking.specs.jmembers.MemberDeclarations.{is_sealed, methods_above, names_above, overrides_final}
use Rattle.jmove.specs.PoolAdditions.{context_type}
use Rattle.jresolution.specs.declared.jprogram.member.Member.{Member}
use Rattle.jresolution.specs.declared.jprogram.member.Member.TheVariants.{LibMethod, Method}
use Rattle.jresolution.specs.jprogram.ProgramClasses.{Class, Lib, Program, User, above_name, chain, find, found_at, known, onward, place_of}
use Rattle.jresolution.specs.jprogram.MemberResolution.{info_of, is_final, is_static, lib_method, method_at, method_id, method_in, methods_along, overrides, overrides_at_once, owner_of, reach_in, reach_of, user_is, owner_in}
use Rattle.jresolution.specs.jprogram.NameChecks.{is_reserved}
use Rattle.jresolution.specs.jprogram.ClassFileParts as parts
use Rattle.jresolution.specs.jprogram.ClassFileParts.{is_called, member_desc, member_name, super_name, this_name}
use Rattle.jresolution.specs.declared.jprogram.part.CodePart.{CodePart}
use Rattle.jmoveclass.specs.MovedMembers.{new_desc}
use Rattle.jmoveclass.specs.MovedClasses.{moved_class, moved_part}
use Rattle.jlinking.proofs.JlinkProofs.MethodSelection.{first_called}
use Rattle.jrewriting.proofs.JmoveclassLawsProofs.MovedMethods.{Alike, Like}
use Rattle.jrewriting.specs.jrewrite.RewrittenPrograms.{moved}
use Rattle.jrewriting.proofs.JrewriteProofs.DeclarationChecks.{Facts, Moving, desc_is, desc_same, differ, ends_so, name_same, new_ends}
use Rattle.jrewriting.proofs.JrewriteProofs.ClassLookup.{IsMovedClass, SameFound, named_at, part_moved, this_same}
use Rattle.jrewriting.proofs.JrewriteProofs.HierarchyPhases.{AllPlain, IsPlain, above_found, known_same, same, supers_plain}

-- ---- members that are alike

-- a member of a program and one of the moved program
pub record Likewise (p : Program) (x y : Member) : Type 0 where
  pub static : is_static (moved p) y ≡ is_static p x
  pub final : is_final (moved p) y ≡ is_final p x
  pub reach : reach_of (moved p) y ≡ reach_of p x
  pub owner : owner_of (moved p) y ≡ owner_of p x

-- members of the moved program are some of these, in their order
abbrev pub Sub : Program → List Member → List Member → Type 0
Sub p [] [] = Unit {0}
Sub p [] (y ∷ ys) = ⊥
Sub p (x ∷ xs) [] = Unit {0}
Sub p (x ∷ xs) (y ∷ ys) = (Likewise p x y × Sub p xs ys) ⊎ Sub p xs (y ∷ ys)

sub_none : (p : Program) (xs : List Member) → Sub p xs []
sub_none p [] = tt
sub_none p (x ∷ xs) = tt

push_old : (p : Program) (xs ys : List Member) (r : Member) → Sub p xs ys → Sub p (xs ++ r ∷ []) ys
push_old p [] [] r h = tt
push_old p [] (y ∷ ys) r h = absurd h
push_old p (x ∷ xs) [] r h = tt
push_old p (x ∷ xs) (y ∷ ys) r (inl h) = inl (h.0, push_old p xs ys r h.1)
push_old p (x ∷ xs) (y ∷ ys) r (inr h) = inr (push_old p xs (y ∷ ys) r h)

push_both : (p : Program) (xs ys : List Member) (r s : Member) → Likewise p r s → Sub p xs ys → Sub p (xs ++ r ∷ []) (ys ++ s ∷ [])
push_both p [] [] r s l h = inl (l, tt)
push_both p [] (y ∷ ys) r s l h = absurd h
push_both p (x ∷ xs) [] r s l h = inr (push_both p xs [] r s l (sub_none p xs))
push_both p (x ∷ xs) (y ∷ ys) r s l (inl h) = inl (h.0, push_both p xs ys r s l h.1)
push_both p (x ∷ xs) (y ∷ ys) r s l (inr h) = inr (push_both p xs (y ∷ ys) r s l h)

-- ---- overriding

or_left : (a b : Bool) → IsTrue a → IsTrue (a || b)
or_left true b h = refl
or_left false b h = absurd cc

never : {P : Type 0} → IsTrue false → P
never h = absurd cc

or_map : (a b c d : Bool) → (IsTrue a → IsTrue c) → (IsTrue b → IsTrue d) → IsTrue (a || b) → IsTrue (c || d)
or_map true b true d f g h = refl
or_map true b false d f g h = never (f refl)
or_map false b true d f g h = refl
or_map false b false d f g h = g h

and_map : (a b c d : Bool) → (IsTrue a → IsTrue c) → (IsTrue b → IsTrue d) → IsTrue (a && b) → IsTrue (c && d)
and_map true b true d f g h = g h
and_map true b false d f g h = f refl
and_map false b c d f g h = absurd cc

pub at_once_same : (p : Program) (x y r s : Member) → Likewise p x y → Likewise p r s → overrides_at_once (moved p) y s ≡ overrides_at_once p x r
unfolding overrides_at_once
at_once_same p x y r s a b = rw (a.static, a.reach, a.owner, b.reach, b.owner) refl

overrides_sub : (p : Program) (xs ys : List Member) → Sub p xs ys → (x y r s : Member) → Likewise p x y → Likewise p r s → IsTrue (overrides (moved p) y ys s) → IsTrue (overrides p x xs r)
unfolding overrides
overrides_sub p [] [] sub x y r s a b h = sym (at_once_same p x y r s a b) ∙ h
overrides_sub p [] (c ∷ cs) sub x y r s a b h = absurd sub
overrides_sub p (w ∷ ws) [] sub x y r s a b h = or_left (overrides p x ws r) (overrides_at_once p x w && overrides p w ws r) (overrides_sub p ws [] (sub_none p ws) x y r s a b h)
overrides_sub p (w ∷ ws) (c ∷ cs) (inl sub) x y r s a b h =
    or_map (overrides (moved p) y cs s) (overrides_at_once (moved p) y c && overrides (moved p) c cs s) (overrides p x ws r) (overrides_at_once p x w && overrides p w ws r)
    (overrides_sub p ws cs sub.1 x y r s a b)
    (and_map (overrides_at_once (moved p) y c) (overrides (moved p) c cs s) (overrides_at_once p x w) (overrides p w ws r) (λ k. sym (at_once_same p x y w c a sub.0) ∙ k) (overrides_sub p ws cs sub.1 w c r s sub.0 b)) h
overrides_sub p (w ∷ ws) (c ∷ cs) (inr sub) x y r s a b h = or_left (overrides p x ws r) (overrides_at_once p x w && overrides p w ws r) (overrides_sub p ws (c ∷ cs) sub x y r s a b h)

or_right : (a b : Bool) → IsTrue b → IsTrue (a || b)
or_right true b h = refl
or_right false b h = h

sealed_same : (p : Program) (r s : Member) → Likewise p r s → is_sealed (moved p) s ≡ is_sealed p r
sealed_same p r s l = ap (λ (b : Bool). b && not (is_static (moved p) s)) l.final ∙ ap (λ (b : Bool). is_final p r && not b) l.static

final_sub : (p : Program) (rs ss : List Member) → Sub p rs ss → (xs ys : List Member) → Sub p xs ys → (x y : Member) → Likewise p x y → IsTrue (overrides_final (moved p) y ys ss) → IsTrue (overrides_final p x xs rs)
unfolding overrides_final
final_sub p [] [] sub xs ys between x y a h = absurd cc
final_sub p [] (s ∷ ss) sub xs ys between x y a h = absurd sub
final_sub p (r ∷ rs) [] sub xs ys between x y a h = absurd cc
final_sub p (r ∷ rs) (s ∷ ss) (inl sub) xs ys between x y a h =
    or_map (is_sealed (moved p) s && overrides (moved p) y ys s) (overrides_final (moved p) y (ys ++ s ∷ []) ss) (is_sealed p r && overrides p x xs r) (overrides_final p x (xs ++ r ∷ []) rs)
    (and_map (is_sealed (moved p) s) (overrides (moved p) y ys s) (is_sealed p r) (overrides p x xs r) (λ k. sym (sealed_same p r s sub.0) ∙ k) (overrides_sub p xs ys between x y r s a sub.0))
    (final_sub p rs ss sub.1 (xs ++ r ∷ []) (ys ++ s ∷ []) (push_both p xs ys r s sub.0 between) x y a) h
final_sub p (r ∷ rs) (s ∷ ss) (inr sub) xs ys between x y a h =
    or_right (is_sealed p r && overrides p x xs r) (overrides_final p x (xs ++ r ∷ []) rs) (final_sub p rs (s ∷ ss) sub (xs ++ r ∷ []) ys (push_old p xs ys r between) x y a h)

true_or : (b : Bool) → (IsTrue b → false ≡ true) → b ≡ false
true_or true h = sym (h refl)
true_or false h = refl

pub none_final : (p : Program) (rs ss : List Member) → Sub p rs ss → (x y : Member) → Likewise p x y → overrides_final p x [] rs ≡ false → overrides_final (moved p) y [] ss ≡ false
none_final p rs ss sub x y a h = true_or (overrides_final (moved p) y [] ss) (λ k. sym h ∙ final_sub p rs ss sub [] [] tt x y a k)

-- ---- what stands above

pub plain_front : (ns ms : List (List ℕ)) → AllPlain (ns ++ ms) → AllPlain ns
plain_front [] ms h = tt
plain_front (n ∷ ns) ms h = (h.0, plain_front ns ms h.1)

above_plain : (p : Program) → IsPlain p → (name : List ℕ) → is_reserved name ≡ false → AllPlain (option_to_list (above_name p name))
above_plain p is name plain = plain_front (option_to_list (above_name p name)) _ (supers_plain p is name plain)

pub record SameChain (p : Program) (xs ys : List (List ℕ)) : Type 0 where
  pub same : ys ≡ xs
  pub plain : AllPlain xs

pub onward_same : (p : Program) (f g : List ℕ → List (List ℕ)) (o : Option (List ℕ)) → AllPlain (option_to_list o) → ((n : List ℕ) → is_reserved n ≡ false → SameChain p (f n) (g n)) → SameChain p (onward f o) (onward g o)
onward_same p f g None plain h = record { same = refl; plain = tt }
onward_same p f g (Some n) plain h = h n plain.0

pub chain_same : (p : Program) → IsPlain p → (n : ℕ) (name : List ℕ) → is_reserved name ≡ false → SameChain p (chain p n name) (chain (moved p) n name)
unfolding chain
chain_same p is zero name plain = record { same = refl; plain = tt }
chain_same p is (suc n) name plain =
    let above : above_name (moved p) name ≡ above_name p name = above_found p is (find p name) (find (moved p) name) (same p is name plain) in
    let k = onward_same p (chain p n) (chain (moved p) n) (above_name p name) (above_plain p is name plain) (chain_same p is n) in
    record { same = ap (λ (l : List (List ℕ)). name ∷ l) (ap (onward (chain (moved p) n)) above ∙ k.same); plain = (plain, k.plain) }

-- ---- methods of users' classes

-- what is asked of the classes of the program
abbrev pub AllMoving : Program → Type 0
AllMoving p = (i : ℕ) (c d : ClassParts) → IsMovedClass p i c d → Moving c d × Alike c d.pool c.methods d.methods

pub called_there : (c d o : ClassParts) (x y m : MemberInfo) (name : List ℕ) → Moving c d → IsIn x c.methods → Like c d.pool x y → Facts o m → is_called d name (new_desc o m) y ≡ is_called c name (member_desc o m) x
called_there c d o x y m name k at like f =
    let named : bytes_eq (member_name d y) name ≡ bytes_eq (member_name c x) name = ap (λ (t : List ℕ). bytes_eq t name) (name_same c d x y k at like) in
    let typed : bytes_eq (member_desc d y) (new_desc o m) ≡ bytes_eq (member_desc c x) (member_desc o m) = ap (λ (t : List ℕ). bytes_eq t (new_desc o m)) (desc_is c d x y like) ∙ desc_same c o x m (k.facts x at) f in
    ap (λ (b : Bool). b && bytes_eq (member_desc d y) (new_desc o m)) named ∙ ap (λ (b : Bool). bytes_eq (member_name c x) name && b) typed

from_same : (c d o : ClassParts) (m : MemberInfo) (name : List ℕ) (i : ℕ) (xs ys : List MemberInfo) → Moving c d → ((j : ℕ) (x : MemberInfo) → slice_get xs j ≡ Some x → IsIn x c.methods) → Alike c d.pool xs ys → Facts o m
    → position_from (is_called d name (new_desc o m)) i ys ≡ position_from (is_called c name (member_desc o m)) i xs
from_same c d o m name i [] [] k sub all f = refl
from_same c d o m name i [] (y ∷ ys) k sub all f = absurd all
from_same c d o m name i (x ∷ xs) [] k sub all f = absurd all
from_same c d o m name i (x ∷ xs) (y ∷ ys) k sub all f = rw (called_there c d o x y m name k (sub 0 x refl) all.0 f, from_same c d o m name (i + 1) xs ys k (λ j z at. sub (suc j) z at) all.1 f) refl

pub position_same : (c d o : ClassParts) (m : MemberInfo) (name : List ℕ) → Moving c d → Alike c d.pool c.methods d.methods → Facts o m → position (is_called d name (new_desc o m)) d.methods ≡ position (is_called c name (member_desc o m)) c.methods
position_same c d o m name k all f =
    position_from-zero (is_called d name (new_desc o m)) d.methods ∙ from_same c d o m name 0 c.methods d.methods k (λ j x at. (j, at)) all f ∙ sym (position_from-zero (is_called c name (member_desc o m)) c.methods)

pub info_is : (p : Program) (i j : ℕ) (part : CodePart) (m : MemberInfo) → slice_get p.parts i ≡ Some part → slice_get part.class.methods j ≡ Some m → info_of p (Method (method_id i j)) ≡ Some (part.class, m)
info_is p i j part m at there =
    ap (λ (q : Option CodePart). option_and_then (λ c. option_map (λ x. (c, x)) (slice_get c.methods j)) (option_map (λ y. y.class) q)) at
    ∙ ap (option_map (λ x. (part.class, x))) there

pub user_likewise : (p : Program) (i j : ℕ) (c d : ClassParts) (x y : MemberInfo) → info_of p (Method (method_id i j)) ≡ Some (c, x) → info_of (moved p) (Method (method_id i j)) ≡ Some (d, y) → y.flags ≡ x.flags → this_name d ≡ this_name c
    → Likewise p (Method (method_id i j)) (Method (method_id i j))
unfolding is_static is_final reach_of owner_of
user_likewise p i j c d x y old new flags named = record {
  static = ap (user_is (λ one. parts.is_static one.flags)) new ∙ ap parts.is_static flags ∙ sym (ap (user_is (λ one. parts.is_static one.flags)) old);
  final = ap (user_is (λ one. parts.is_final one.flags)) new ∙ ap parts.is_final flags ∙ sym (ap (user_is (λ one. parts.is_final one.flags)) old);
  reach = ap reach_in new ∙ ap parts.reach_of flags ∙ sym (ap reach_in old);
  owner = ap owner_in new ∙ named ∙ sym (ap owner_in old);
}

-- ---- methods that are found

abbrev pub OptSub : Program → Option Member → Option Member → Type 0
OptSub p o None = Unit {0}
OptSub p (Some x) (Some y) = Likewise p x y
OptSub p None (Some y) = ⊥

cons_sub : (p : Program) (o q : Option Member) (xs ys : List Member) → OptSub p o q → Sub p xs ys → Sub p (cons_option o xs) (cons_option q ys)
cons_sub p None None xs ys h k = k
cons_sub p None (Some y) xs ys h k = absurd h
cons_sub p (Some x) None xs [] h k = tt
cons_sub p (Some x) None xs (y ∷ ys) h k = inr k
cons_sub p (Some x) (Some y) xs ys h k = inl (h, k)

along_sub : (p : Program) (f g : List ℕ → Option Member) (names : List (List ℕ)) → AllPlain names → ((n : List ℕ) → is_reserved n ≡ false → OptSub p (f n) (g n)) → Sub p (filter_map f names) (filter_map g names)
along_sub p f g [] plain h = tt
along_sub p f g (n ∷ names) plain h = cons_sub p (f n) (g n) (filter_map f names) (filter_map g names) (h n plain.0) (along_sub p f g names plain.1 h)

-- a method of the library that is found by a moved descriptor: the one of the other side
pub lib_likewise : (p : Program) (m n : LibCall) → library.is_static m ≡ library.is_static n → library_classes.name_of (library.owner m) ≡ library_classes.name_of (library.owner n) → Likewise p (LibMethod n) (LibMethod m)
unfolding is_static is_final reach_of owner_of
lib_likewise p m n static owner = record { static = static; final = refl; reach = refl; owner = owner }

-- the old descriptor, where the new one is this
old_is : (c : ClassParts) (m : MemberInfo) (t : List ℕ) (qs : List FieldType) (r : Option FieldType) → Facts c m → descriptor_of t ≡ Some (descriptors.Method (qs ++ context_type ∷ []) r) → t ≡ new_desc c m → member_desc c m ≡ descriptor_text (descriptors.Method qs r)
old_is c m t qs r f is e =
    let read : Some (descriptors.Method (f.ps ++ context_type ∷ []) f.ret) ≡ Some (descriptors.Method (qs ++ context_type ∷ []) r) = sym f.new ∙ ap descriptor_of (sym e) ∙ is in
    let both : f.ps ++ context_type ∷ [] ≡ qs ++ context_type ∷ [] = cc in
    let ret : f.ret ≡ r = cc in
    let ps : f.ps ≡ qs = append_cancel_right f.ps qs (context_type ∷ []) both in
    (descriptor_take (member_desc c m) (descriptors.Method f.ps f.ret) f.old).1
    ∙ ap (λ (l : List FieldType). descriptor_text (descriptors.Method l f.ret)) ps ∙ ap (λ (x : Option FieldType). descriptor_text (descriptors.Method qs x)) ret

there_sub : (p : Program) (m n : LibCall) (class name desc : List ℕ) → library.is_field m ≡ false → library.is_field n ≡ false → Likewise p (LibMethod n) (LibMethod m) → library.member_named Source class name desc ≡ Some n
    → OptSub p (option_and_then lib_method (library.member_named Source class name desc)) (lib_method m)
there_sub p m n class name desc none none_too like at = rw (at, none, none_too) like

pub call_at : (n : LibCall) (class name desc : List ℕ) → library.call_stands_on Source n ≡ true → library_classes.name_of (library.owner n) ≡ class → library.name_of_call n ≡ name → library.desc_of n ≡ desc → library.member_named Source class name desc ≡ Some n
call_at n class name desc on c s d = rw (sym c, sym s, sym d) (call_only Source n on)

-- what the library is handed a context by
abbrev is_handed : LibCall → Bool
is_handed (call.Run Passing) = true
is_handed (call.RunAction Passing) = true
is_handed (call.Thread (thread.Init Passing)) = true
is_handed (call.Rt one) = true
is_handed _ = false

handed : (m : LibCall) → ends_so (descriptor_of (library.desc_of m)) ≡ true → is_handed m ≡ true
unfolding descriptor_of method_of field_of params_at closing_at type_at base_at class_at return_at slots_of is_class_name
handed call.ObjectInit h = h
handed (call.ThrownInit one given.Message) h = h
handed (call.ThrownInit one given.Nothing) h = h
handed call.AccessControlInit h = h
handed call.GetMessage h = h
handed (call.String string.Length) h = h
handed (call.String string.CharAt) h = h
handed (call.String string.Equals) h = h
handed (call.String string.Concat) h = h
handed (call.Builder builder.Init) h = h
handed (call.Builder builder.InitText) h = h
handed (call.Builder (builder.Append piece.Int)) h = h
handed (call.Builder (builder.Append piece.Long)) h = h
handed (call.Builder (builder.Append piece.Char)) h = h
handed (call.Builder (builder.Append piece.Bool)) h = h
handed (call.Builder (builder.Append piece.Text)) h = h
handed (call.Builder builder.ToString) h = h
handed call.Out h = h
handed call.PrintEnd h = h
handed (call.Print piece.Int) h = h
handed (call.Print piece.Long) h = h
handed (call.Print piece.Char) h = h
handed (call.Print piece.Bool) h = h
handed (call.Print piece.Text) h = h
handed (call.Run Source) h = h
handed (call.Run Passing) h = refl
handed (call.Thread (thread.Init Source)) h = h
handed (call.Thread (thread.Init Passing)) h = refl
handed (call.Thread thread.Start) h = h
handed (call.Thread thread.Join) h = h
handed (call.Thread thread.Yield) h = h
handed (call.RunAction Source) h = h
handed (call.RunAction Passing) h = refl
handed (call.Controller controller.Check) h = h
handed (call.Controller controller.Snapshot) h = h
handed (call.Controller controller.Privileged) h = h
handed (call.Controller controller.PrivilegedWith) h = h
handed (call.Controller controller.PrivilegedLimited) h = h
handed call.ContextCheck h = h
handed (call.PermissionInit init.All) h = h
handed (call.PermissionInit init.Runtime) h = h
handed (call.PermissionInit init.RuntimeActions) h = h
handed (call.PermissionInit init.Security) h = h
handed (call.PermissionInit init.SecurityActions) h = h
handed (call.PermissionInit init.Property) h = h
handed (call.PermissionInit init.File) h = h
handed (call.Rt one) h = refl

abbrev object_type : FieldType
object_type = record { depth = 0; base = byte "L"; class = codes "java/lang/Object" }

abbrev runnable_type : FieldType
runnable_type = record { depth = 0; base = byte "L"; class = codes "java/lang/Runnable" }

not_plain : {P : Type 0} (class : List ℕ) → codes "sps/Rt" ≡ class → is_reserved class ≡ false → P
not_plain class e plain = let no : is_reserved (codes "sps/Rt") ≡ false = ap is_reserved e ∙ plain in differ no

lib_by : (p : Program) (o : ClassParts) (x : MemberInfo) (class name : List ℕ) → Facts o x → is_reserved class ≡ false → (m : LibCall) → is_handed m ≡ true → library_classes.name_of (library.owner m) ≡ class → library.name_of_call m ≡ name → library.desc_of m ≡ new_desc o x
    → OptSub p (option_and_then lib_method (library.member_named Source class name (member_desc o x))) (lib_method m)
unfolding descriptor_of method_of field_of params_at closing_at type_at base_at class_at return_at slots_of is_class_name descriptor_text
lib_by p o x class name f plain (call.Run Passing) h c s d =
    there_sub p (call.Run Passing) (call.Run Source) class name (member_desc o x) refl refl (lib_likewise p (call.Run Passing) (call.Run Source) refl refl)
    (call_at (call.Run Source) class name (member_desc o x) refl c s (sym (old_is o x (codes "(Lsps/Ctx;)V") [] None f refl d)))
lib_by p o x class name f plain (call.RunAction Passing) h c s d =
    there_sub p (call.RunAction Passing) (call.RunAction Source) class name (member_desc o x) refl refl (lib_likewise p (call.RunAction Passing) (call.RunAction Source) refl refl)
    (call_at (call.RunAction Source) class name (member_desc o x) refl c s (sym (old_is o x (codes "(Lsps/Ctx;)Ljava/lang/Object;") [] (Some object_type) f refl d)))
lib_by p o x class name f plain (call.Thread (thread.Init Passing)) h c s d =
    there_sub p (call.Thread (thread.Init Passing)) (call.Thread (thread.Init Source)) class name (member_desc o x) refl refl (lib_likewise p (call.Thread (thread.Init Passing)) (call.Thread (thread.Init Source)) refl refl)
    (call_at (call.Thread (thread.Init Source)) class name (member_desc o x) refl c s (sym (old_is o x (codes "(Ljava/lang/Runnable;Lsps/Ctx;)V") (runnable_type ∷ []) None f refl d)))
lib_by p o x class name f plain (call.Rt rt.Enter) h c s d = not_plain class c plain
lib_by p o x class name f plain (call.Rt rt.Check) h c s d = not_plain class c plain
lib_by p o x class name f plain (call.Rt rt.Snapshot) h c s d = not_plain class c plain
lib_by p o x class name f plain (call.Rt rt.Privileged) h c s d = not_plain class c plain
lib_by p o x class name f plain (call.Rt rt.PrivilegedWith) h c s d = not_plain class c plain
lib_by p o x class name f plain (call.Rt rt.PrivilegedLimited) h c s d = not_plain class c plain
lib_by p o x class name f plain (call.Run Source) h c s d = absurd cc
lib_by p o x class name f plain (call.RunAction Source) h c s d = absurd cc
lib_by p o x class name f plain (call.Thread (thread.Init Source)) h c s d = absurd cc
lib_by p o x class name f plain (call.Thread thread.Start) h c s d = absurd cc
lib_by p o x class name f plain (call.Thread thread.Join) h c s d = absurd cc
lib_by p o x class name f plain (call.Thread thread.Yield) h c s d = absurd cc
lib_by p o x class name f plain (call.Controller one) h c s d = absurd cc
lib_by p o x class name f plain call.ObjectInit h c s d = absurd cc
lib_by p o x class name f plain (call.ThrownInit t i) h c s d = absurd cc
lib_by p o x class name f plain call.AccessControlInit h c s d = absurd cc
lib_by p o x class name f plain call.GetMessage h c s d = absurd cc
lib_by p o x class name f plain (call.String one) h c s d = absurd cc
lib_by p o x class name f plain (call.Builder one) h c s d = absurd cc
lib_by p o x class name f plain call.Out h c s d = absurd cc
lib_by p o x class name f plain call.PrintEnd h c s d = absurd cc
lib_by p o x class name f plain (call.Print one) h c s d = absurd cc
lib_by p o x class name f plain call.ContextCheck h c s d = absurd cc
lib_by p o x class name f plain (call.PermissionInit one) h c s d = absurd cc

lib_sub : (p : Program) (o : ClassParts) (x : MemberInfo) (class name : List ℕ) → Facts o x → is_reserved class ≡ false → (q : Option LibCall) → library.member_named Passing class name (new_desc o x) ≡ q
    → OptSub p (option_and_then lib_method (library.member_named Source class name (member_desc o x))) (option_and_then lib_method q)
lib_sub p o x class name f plain None at = tt
lib_sub p o x class name f plain (Some m) at =
    let found = call_found Passing class name (new_desc o x) m at in
    lib_by p o x class name f plain m (handed m (ap (λ (t : List ℕ). ends_so (descriptor_of t)) found.2 ∙ new_ends o x f)) found.0 found.1 found.2

-- ---- what the class of a name declares

pub pair_at : (c d : ClassParts) (xs ys : List MemberInfo) (j : ℕ) → Alike c d.pool xs ys → (x : MemberInfo) → slice_get xs j ≡ Some x → (y : MemberInfo) × ((slice_get ys j ≡ Some y) × Like c d.pool x y)
pair_at c d [] [] j all x at = absurd cc
pair_at c d [] (y ∷ ys) j all x at = absurd all
pair_at c d (z ∷ xs) [] j all x at = absurd all
pair_at c d (z ∷ xs) (y ∷ ys) zero all x at = let same : z ≡ x = cc in (y, (refl, subst (λ (m : MemberInfo). Like c d.pool m y) same all.0))
pair_at c d (z ∷ xs) (y ∷ ys) (suc j) all x at = pair_at c d xs ys j all.1 x at

pub moved_at : (p : Program) (i : ℕ) (part : CodePart) → slice_get p.parts i ≡ Some part → slice_get (moved p).parts i ≡ Some (moved_part p part)
unfolding moved
moved_at p i part at = part_moved p p.parts i ∙ ap (option_map (moved_part p)) at

pub member_likewise : (p : Program) → IsPlain p → AllMoving p → (i j : ℕ) (part : CodePart) (x : MemberInfo) → slice_get p.parts i ≡ Some part → slice_get part.class.methods j ≡ Some x → Likewise p (Method (method_id i j)) (Method (method_id i j))
member_likewise p is all i j part x at there =
    let c = part.class in
    let d = moved_class p part.domain part.class in
    let k = all i c d (record { part = part; at = at; here = refl; there = refl }) in
    let y = pair_at c d c.methods d.methods j k.1 x there in
    user_likewise p i j c d x y.0 (info_is p i j part x at there) (info_is (moved p) i j (moved_part p part) y.0 (moved_at p i part at) y.1.0) y.1.1.flags (this_same p part.domain c (named_at p.parts i part is.all at))

user_sub : (p : Program) → IsPlain p → AllMoving p → (i : ℕ) (part : CodePart) (c : ClassParts) (name desc : List ℕ) (o : Option ℕ) → slice_get p.parts i ≡ Some part → part.class ≡ c → position (is_called c name desc) c.methods ≡ o
    → OptSub p (option_map (λ j. Method (method_id i j)) o) (option_map (λ j. Method (method_id i j)) o)
user_sub p is all i part c name desc None at here e = tt
user_sub p is all i part c name desc (Some j) at here e =
    let m = first_called c name desc c.methods j e in
    member_likewise p is all i j part m.0 at (ap (λ (x : ClassParts). slice_get x.methods j) here ∙ m.1)

same_sub : (p : Program) (f : ℕ → Member) (o q : Option ℕ) → q ≡ o → OptSub p (option_map f o) (option_map f o) → OptSub p (option_map f o) (option_map f q)
same_sub p f o q e h = subst (λ (x : Option ℕ). OptSub p (option_map f o) (option_map f x)) (sym e) h

in_user : (p : Program) → IsPlain p → AllMoving p → (o : ClassParts) (x : MemberInfo) (name : List ℕ) → Facts o x → (i j : ℕ) (c d : ClassParts) → i ≡ j → IsMovedClass p i c d
    → OptSub p (option_map (λ k. Method (method_id i k)) (position (is_called c name (member_desc o x)) c.methods)) (option_map (λ k. Method (method_id j k)) (position (is_called d name (new_desc o x)) d.methods))
in_user p is all o x name f i j c d e h =
    let k = all i c d h in
    subst (λ (n : ℕ). OptSub p (option_map (λ k. Method (method_id i k)) (position (is_called c name (member_desc o x)) c.methods)) (option_map (λ k. Method (method_id n k)) (position (is_called d name (new_desc o x)) d.methods))) e
    (same_sub p (λ k. Method (method_id i k)) (position (is_called c name (member_desc o x)) c.methods) (position (is_called d name (new_desc o x)) d.methods) (position_same c d o x name k.0 k.1 f)
    (user_sub p is all i h.part c name (member_desc o x) (position (is_called c name (member_desc o x)) c.methods) h.at h.here refl))

pub moved_side : (p : Program) → (moved p).side ≡ Passing
unfolding moved
moved_side p = refl

in_lib : (p : Program) → p.side ≡ Source → (o : ClassParts) (x : MemberInfo) (name : List ℕ) → Facts o x → (c d : LibClass) → c ≡ d → is_reserved (library_classes.name_of c) ≡ false
    → OptSub p (method_in p.side (Lib c) name (member_desc o x)) (method_in (moved p).side (Lib d) name (new_desc o x))
in_lib p source o x name f c d e plain =
    subst (λ (y : LibClass). OptSub p (method_in p.side (Lib c) name (member_desc o x)) (method_in (moved p).side (Lib y) name (new_desc o x))) e
    (subst (λ (s : Side). OptSub p (method_in s (Lib c) name (member_desc o x)) (method_in (moved p).side (Lib c) name (new_desc o x))) (sym source)
    (subst (λ (s : Side). OptSub p (method_in Source (Lib c) name (member_desc o x)) (method_in s (Lib c) name (new_desc o x))) (sym (moved_side p))
    (lib_sub p o x (library_classes.name_of c) name f plain (library.member_named Passing (library_classes.name_of c) name (new_desc o x)) refl)))

found_sub : (p : Program) → IsPlain p → AllMoving p → (o : ClassParts) (x : MemberInfo) (name : List ℕ) → Facts o x → (a b : Option Class) → SameFound p a b → ((c : LibClass) → a ≡ Some (Lib c) → is_reserved (library_classes.name_of c) ≡ false)
    → OptSub p (option_and_then (λ c. method_in p.side c name (member_desc o x)) a) (option_and_then (λ c. method_in (moved p).side c name (new_desc o x)) b)
found_sub p is all o x name f None None h plain = tt
found_sub p is all o x name f (Some (User i c)) (Some (User j d)) h plain = in_user p is all o x name f i j c d h.0 h.1
found_sub p is all o x name f (Some (Lib c)) (Some (Lib d)) h plain = in_lib p is.source o x name f c d h (plain c refl)
found_sub p is all o x name f None (Some d) h plain = absurd h
found_sub p is all o x name f (Some (User i c)) None h plain = absurd h
found_sub p is all o x name f (Some (Lib c)) None h plain = absurd h
found_sub p is all o x name f (Some (User i c)) (Some (Lib d)) h plain = absurd h
found_sub p is all o x name f (Some (Lib c)) (Some (User j d)) h plain = absurd h

pub lib_in : (q : Option LibClass) (c : LibClass) → option_map Lib q ≡ Some (Lib c) → q ≡ Some c
lib_in None c e = absurd cc
lib_in (Some d) c e = let same : d ≡ c = cc in ap (λ (y : LibClass). Some y) same

no_user : (i : ℕ) (q : Option CodePart) (c : LibClass) → option_map (λ part. User i part.class) q ≡ Some (Lib c) → false ≡ true
no_user i None c e = absurd cc
no_user i (Some part) c e = absurd cc

place_lib : (p : Program) (name : List ℕ) (q : Option ℕ) (c : LibClass) → found_at p name q ≡ Some (Lib c) → library_classes.name_of c ≡ name
place_lib p name None c e = (class_found p.side name c (lib_in (library_classes.class_named p.side name) c e)).0
place_lib p name (Some i) c e = let no = no_user i (slice_get p.parts i) c e in absurd cc

pub lib_named : (p : Program) (name : List ℕ) (c : LibClass) → find p name ≡ Some (Lib c) → library_classes.name_of c ≡ name
unfolding find
lib_named p name c e = place_lib p name (place_of p.parts name) c e

pub at_sub : (p : Program) → IsPlain p → AllMoving p → (o : ClassParts) (x : MemberInfo) (name : List ℕ) → Facts o x → (class : List ℕ) → is_reserved class ≡ false → OptSub p (method_at p name (member_desc o x) class) (method_at (moved p) name (new_desc o x) class)
at_sub p is all o x name f class plain = found_sub p is all o x name f (find p class) (find (moved p) class) (same p is class plain) (λ c e. ap is_reserved (lib_named p class c e) ∙ plain)

-- the methods above
pub above_sub : (p : Program) → IsPlain p → AllMoving p → (c d o : ClassParts) (x : MemberInfo) (name : List ℕ) → Facts o x → super_name d ≡ super_name c → AllPlain (option_to_list (super_name c))
    → Sub p (methods_above p c name (member_desc o x)) (methods_above (moved p) d name (new_desc o x))
above_sub p is all c d o x name f up plain =
    let n = length (known p) + 1 in
    let k = onward_same p (chain p n) (chain (moved p) n) (super_name c) plain (chain_same p is n) in
    let names : names_above (moved p) d ≡ names_above p c = ap (λ (m : ℕ). onward (chain (moved p) (m + 1)) (super_name d)) (known_same p) ∙ ap (onward (chain (moved p) n)) up ∙ k.same in
    subst (λ (l : List (List ℕ)). Sub p (methods_above p c name (member_desc o x)) (methods_along (moved p) name (new_desc o x) l)) (sym names)
    (along_sub p (method_at p name (member_desc o x)) (method_at (moved p) name (new_desc o x)) (names_above p c) k.plain (at_sub p is all o x name f))
