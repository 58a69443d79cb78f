-- By a moved descriptor a method that is handed a context is found where it was found by the old one, as that very method, and nothing else is.
use Rattle.std.proofs.Common.{◌≡◌, ℕ, Bool, true, false, List, Option, Some, None, refl, ap, sym, ◌∙◌}
use Rattle.std.specs.Prelude.{option_and_then, option_map, if◌then◌else◌}
use Rattle.std.specs.List.{position}
use Rattle.jclass.specs.declared.class.ClassParts.{ClassParts}
use Rattle.jclass.specs.declared.class.MemberInfo.{MemberInfo}
use Rattle.jlib.specs.declared.classes.LibClass.{LibClass}
use Rattle.jlib.specs.declared.calls.LibCall.{LibCall}
use Rattle.jlib.specs.declared.side.Side.{Side}
use Rattle.jlib.specs.declared.side.Side.TheVariants.{Passing, Source}
use Rattle.jlib.specs.LibraryMembers as library
use Rattle.jlib.specs.LibraryMembers.{member_among, member_named, members}
use Rattle.jlib.specs.LibraryClasses as library_classes
use Rattle.jlib.proofs.NamePrefixes.{by_class}
use Rattle.jlib.proofs.LibraryLookup.{call_only}
use Rattle.jmove.specs.PoolAdditions.{moved_descriptor}
use Rattle.jresolution.specs.declared.jprogram.member.Member.{Member}
use Rattle.jresolution.specs.declared.jprogram.member.Member.TheVariants.{Field, LibField, LibMethod, Method}
use Rattle.jresolution.specs.jprogram.ProgramClasses.{Class, Lib, Program, User, find}
use Rattle.jresolution.specs.jprogram.MemberResolution.{lib_method, method_at, method_id, method_in}
use Rattle.jresolution.specs.jprogram.NameChecks.{is_reserved}
use Rattle.jresolution.specs.jprogram.ClassFileParts.{is_called, member_desc, or_empty}
use Rattle.jresolution.proofs.JprogramProofs.ClassHeights.{Stands, Users, Libs, Nowhere, stands}
use Rattle.jmoveclass.specs.MovedMembers.{new_desc}
use Rattle.jlinking.proofs.JlinkProofs.PresentValues.{map_is, then_is}
use Rattle.jrewriting.specs.jrewrite.RewrittenPrograms.{moved}
use Rattle.jrewriting.proofs.JrewriteProofs.ContextMethodLookup.{methods_changed}
use Rattle.jrewriting.proofs.JrewriteProofs.DeclarationChecks.{Facts}
use Rattle.jrewriting.proofs.JrewriteProofs.ClassLookup.{SameFound}
use Rattle.jrewriting.proofs.JrewriteProofs.FinalOverrides.{AllMoving, moved_side, position_same}
use Rattle.jrewriting.proofs.JrewriteProofs.HierarchyPhases.{IsPlain, same}
use Rattle.jsimulation_laws.specs.relation.InstructionExpansion.{passing}
use Rattle.jmoved_laws.specs.names.MovedLookUps.{kept, library_handed}
use Rattle.jmoved_laws.proofs.NamesProofs.LibraryOverrides.{lib_found, user_found}
use Rattle.jmoved_laws.proofs.NamesProofs.LibraryMembers.{added, passing_form, unadded}

-- ---- what is declared is a method

-- a member is a method
abbrev pub is_method : Member → Bool
is_method (Method m) = true
is_method (LibMethod x) = true
is_method m = false

lib_is_method : (x : LibCall) (b : Bool) (m : Member) → (if b then None else Some (LibMethod x)) ≡ Some m → is_method m ≡ true
lib_is_method x true m e = absurd cc
lib_is_method x false m e =
    let one : LibMethod x ≡ m = cc in
    ap is_method (sym one)

pub finds_method : (p : Program) (name desc c : List ℕ) (m : Member) → method_at p name desc c ≡ Some m → is_method m ≡ true
finds_method p name desc c m e = by (stands p c)
  where
    here : (o : Option Class) → find p c ≡ o → option_and_then (λ d. method_in p.side d name desc) o ≡ Some m
    here o at = sym (ap (option_and_then (λ d. method_in p.side d name desc)) at) ∙ e

    by : Stands p c → is_method m ≡ true
    by (Users i part at own is) =
        let r = map_is (λ j. Method (method_id i j)) (position (is_called part.class name desc) part.class.methods) m (here (Some (User i part.class)) is) in
        ap is_method (sym r.2)
    by (Libs l named is) =
        let r = then_is lib_method (member_named p.side (library_classes.name_of l) name desc) m (here (Some (Lib l)) is) in
        lib_is_method r.0 (library.is_field r.0) m r.2
    by (Nowhere none) =
        let no : None ≡ Some m = here None none in
        absurd cc

-- ---- in a class of the library

as_field : (y : LibCall) → library.is_field y ≡ false → lib_method y ≡ Some (LibMethod y)
as_field y e = rw e refl

keep_if : (y : LibCall) (b : Bool) → library_handed y ≡ b → kept (LibMethod y) ≡ (if b then Some (LibMethod (passing y)) else None)
keep_if y b e = ap (λ (b : Bool). if b then Some (LibMethod (passing y)) else None) e

-- one that is handed a context is found in its passing form
passing_found : (y : LibCall) (l : LibClass) (name desc : List ℕ) → library_handed y ≡ true → library.owner y ≡ l → library.name_of_call y ≡ name → library.desc_of y ≡ desc → library.call_stands_on Source y ≡ true
    → member_named Passing (library_classes.name_of l) name (or_empty (moved_descriptor desc)) ≡ Some (passing y)
passing_found y l name desc h owned called typed on =
    let f = passing_form y h in
    let new : library.desc_of (passing y) ≡ or_empty (moved_descriptor desc) = sym (added y h on) ∙ ap (λ (d : List ℕ). or_empty (moved_descriptor d)) typed in
    ap (λ (n : List ℕ). member_named Passing (library_classes.name_of l) name n) (sym new)
    ∙ ap (λ (n : List ℕ). member_named Passing (library_classes.name_of l) n (library.desc_of (passing y))) (sym (f.name_is ∙ called))
    ∙ ap (λ (c : LibClass). member_named Passing (library_classes.name_of c) (library.name_of_call (passing y)) (library.desc_of (passing y))) (sym (f.owner_is ∙ owned))
    ∙ call_only Passing (passing y) f.on

-- of another one nothing is
none_found : (y : LibCall) (l : LibClass) (name desc : List ℕ) → library_handed y ≡ false → library.owner y ≡ l → library.name_of_call y ≡ name → library.desc_of y ≡ desc
    → member_named Passing (library_classes.name_of l) name (or_empty (moved_descriptor desc)) ≡ None
none_found y l name desc h owned called typed =
    sym (by_class Passing l name (or_empty (moved_descriptor desc)))
    ∙ ap (λ (d : List ℕ). member_among Passing name (or_empty (moved_descriptor d)) (members l)) (sym typed)
    ∙ ap (λ (n : List ℕ). member_among Passing n (or_empty (moved_descriptor (library.desc_of y))) (members l)) (sym called)
    ∙ ap (λ (c : LibClass). member_among Passing (library.name_of_call y) (or_empty (moved_descriptor (library.desc_of y))) (members c)) (sym owned)
    ∙ unadded y h

lib_kept : (y : LibCall) (l : LibClass) (name desc : List ℕ) (b : Bool) → library_handed y ≡ b → library.owner y ≡ l → library.name_of_call y ≡ name → library.desc_of y ≡ desc → library.call_stands_on Source y ≡ true
    → option_and_then lib_method (member_named Passing (library_classes.name_of l) name (or_empty (moved_descriptor desc))) ≡ kept (LibMethod y)
lib_kept y l name desc true h owned called typed on =
    ap (option_and_then lib_method) (passing_found y l name desc h owned called typed on) ∙ as_field (passing y) (passing_form y h).method ∙ sym (keep_if y true h)
lib_kept y l name desc false h owned called typed on = ap (option_and_then lib_method) (none_found y l name desc h owned called typed) ∙ sym (keep_if y false h)

-- ---- in any class

method_kept : (i j : ℕ) → i ≡ j → (o q : Option ℕ) → q ≡ o → option_map (λ k. Method (method_id j k)) q ≡ option_and_then kept (option_map (λ k. Method (method_id i k)) o)
method_kept i j e o q h = ap (λ (n : ℕ). option_map (λ k. Method (method_id n k)) q) (sym e) ∙ ap (option_map (λ k. Method (method_id i k))) h ∙ by o
  where
    by : (x : Option ℕ) → option_map (λ k. Method (method_id i k)) x ≡ option_and_then kept (option_map (λ k. Method (method_id i k)) x)
    by None = refl
    by (Some k) = refl

module _ (p : Program) (is : IsPlain p) (all : AllMoving p) (o : ClassParts) (x : MemberInfo) (name : List ℕ) (f : Facts o x) where
  abbrev old_at : Option Class → Option Member
  old_at a = option_and_then (λ c. method_in p.side c name (member_desc o x)) a

  abbrev new_at : Option Class → Option Member
  new_at b = option_and_then (λ c. method_in (moved p).side c name (new_desc o x)) b

  -- of a user's class
  user_kept : (a b : Option Class) → SameFound p a b → (i : ℕ) (c : ClassParts) → a ≡ Some (User i c) → new_at b ≡ option_and_then kept (old_at a)
  user_kept (Some (User i c)) (Some (User j d)) h k e at =
      let one = all i c d h.1 in
      method_kept i j h.0 (position (is_called c name (member_desc o x)) c.methods) (position (is_called d name (new_desc o x)) d.methods) (position_same c d o x name one.0 one.1 f)
  user_kept None b h k e at = absurd cc
  user_kept (Some (Lib c)) b h k e at = let no : Lib c ≡ User k e = cc in absurd cc
  user_kept (Some (User i c)) None h k e at = absurd h
  user_kept (Some (User i c)) (Some (Lib d)) h k e at = absurd h

  -- of one of the library
  lib_same : (a b : Option Class) → SameFound p a b → (l : LibClass) → a ≡ Some (Lib l) → b ≡ Some (Lib l)
  lib_same (Some (Lib c)) (Some (Lib d)) h l at = ap (λ (y : LibClass). Some (Lib y)) (sym h) ∙ at
  lib_same None b h l at = absurd cc
  lib_same (Some (User i c)) b h l at = let no : User i c ≡ Lib l = cc in absurd cc
  lib_same (Some (Lib c)) None h l at = absurd h
  lib_same (Some (Lib c)) (Some (User j d)) h l at = absurd h

  by_member : (class : List ℕ) → is_reserved class ≡ false → (q : Option Member) → method_at p name (member_desc o x) class ≡ q → method_at (moved p) name (new_desc o x) class ≡ option_and_then kept q
  by_member class plain None e = (methods_changed p is all o x name f class plain).none e
  by_member class plain (Some (Method m)) e =
      let u = user_found p name (member_desc o x) class m e in
      user_kept (find p class) (find (moved p) class) (same p is class plain) m.class u.part.class u.is ∙ ap (option_and_then kept) e
  by_member class plain (Some (LibMethod y)) e =
      let l = lib_found p name (member_desc o x) class y e in
      ap new_at (lib_same (find p class) (find (moved p) class) (same p is class plain) l.l l.is)
      ∙ ap (λ (s : Side). method_in s (Lib l.l) name (new_desc o x)) (moved_side p)
      ∙ lib_kept y l.l name (member_desc o x) (library_handed y) refl l.owned l.name_is l.desc_is (ap (λ (s : Side). library.call_stands_on s y) (sym is.source) ∙ l.on)
  by_member class plain (Some (Field i j)) e = let no : false ≡ true = finds_method p name (member_desc o x) class (Field i j) e in absurd cc
  by_member class plain (Some LibField) e = let no : false ≡ true = finds_method p name (member_desc o x) class LibField e in absurd cc

  pub found_kept : (class : List ℕ) → is_reserved class ≡ false → method_at (moved p) name (new_desc o x) class ≡ option_and_then kept (method_at p name (member_desc o x) class)
  found_kept class plain = by_member class plain (method_at p name (member_desc o x) class) refl
