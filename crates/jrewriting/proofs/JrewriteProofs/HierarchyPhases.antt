-- The first two phases of linking find nothing in the moved program: names, and what classes extend and list.
use Rattle.std.proofs.Common.{◌≡◌, ℕ, zero, suc, ◌+◌, Bool, true, false, not, List, [], ◌∷◌, ◌++◌, length, map, Option, Some, None, refl, ap, sym, ◌∙◌, subst}
use Rattle.std.specs.Prelude.{IsTrue, is_some, option_map, option_and_then, slice_get, ◌||◌, ◌==◌, if◌then◌else◌, nat_lt}
use Rattle.std.specs.List.{list_all, list_any}
use Rattle.std.specs.Option.{option_to_list}
use Rattle.std.specs.Str.{bytes_eq}
use Rattle.std.proofs.lemmas.List.{length-append, length-map}
use Rattle.jground.specs.jbase.FirstFaults.{fault_if}
use Rattle.jground.proofs.JbaseProofs.Firsts.{all_pass, none_fails, none_of}
use Rattle.jground.proofs.JformatProofs.ReadingSteps.{first_true, second_true}
use Rattle.jparts.specs.declared.jpool.entry.Entry.{Entry}
use Rattle.jparts.specs.jpool.ConstantPools.{class_name_at}
use Rattle.jclass.specs.declared.class.ClassParts.{ClassParts}
use Rattle.jclass.specs.declared.fault.ClassFault.TheVariants.{Index}
use Rattle.jclass.specs.IndexFormats.{index, u2}
use Rattle.jclass.specs.FlagRules.{names_class, names_super, is_plain_class}
use Rattle.jlib.specs.declared.side.Side.TheVariants.{Source, Passing}
use Rattle.jlib.specs.declared.classes.LibClass.{LibClass}
use Rattle.jlib.specs.LibraryClasses as library
use Rattle.jlib.proofs.LibraryLookup.{class_above, class_implements}
use Rattle.jresolution.specs.declared.jprogram.fault.LinkKind.{LinkKind}
use Rattle.jresolution.specs.declared.jprogram.fault.LinkKind.TheVariants.{ReservedName, Twice}
use Rattle.jresolution.specs.declared.jprogram.part.CodePart.{CodePart}
use Rattle.jresolution.specs.jprogram.ProgramClasses as classes
use Rattle.jresolution.specs.jprogram.ProgramClasses.{Lib, Program, User, above, above_name, face_names, faces, find, holds, is_interface, known, reaches, faces_of}
use Rattle.jresolution.specs.jprogram.ProofNames.{supers, reserved_on, is_barred, is_no_interface, super_missing}
use Rattle.jresolution.specs.jprogram.NameChecks.{entry_reserved, in_class, is_reserved, member_reserved, names_reserved, naming_fault, naming_test, reserved_test, stands_before, taken_test}
use Rattle.jresolution.specs.jprogram.ClassFileParts as parts
use Rattle.jresolution.specs.jprogram.ClassFileParts.{class_text, interface_names, or_empty, super_name, this_name}
use Rattle.jresolution.specs.jprogram.SuperChecks.{circle_test, face_missing, is_missing, is_object, lists_a_class, missing_test, super_barred, super_test, supers_fault, supers_test}
use Rattle.jresolution.proofs.JprogramProofs.ReservedNames.{plain_in}
use Rattle.jmoveclass.specs.MovedClasses.{moved_class, moved_part}
use Rattle.jmoveclass.proofs.DemandPreservation.{good_is}
use Rattle.jrewriting.specs.jrewrite.RewrittenPrograms.{moved}
use Rattle.jrewriting.proofs.JrewriteProofs.ClassLookup.{AllNamed, IsMovedClass, Named, SameFound, above_same, faces_same, found_same, named_at, part_moved, place_same, this_same}
use Rattle.jrewriting.proofs.JrewriteProofs.Sides.{same_named, source_plain}
use Rattle.jrewriting.proofs.JrewriteProofs.InitialLocals.{or_false}

-- ---- names for what definitions say in place

abbrev is_before : ℕ → Option ℕ → Bool
is_before i = elim [ None ↦ false | Some first ↦ nat_lt first i ]

-- ---- what no test finds

pub if_none : {F : Type 0} (b : Bool) (fault : F) → fault_if b fault ≡ None → b ≡ false
if_none true fault h = absurd cc
if_none false fault h = refl

none_if : {F : Type 0} (b : Bool) (fault : F) → b ≡ false → fault_if b fault ≡ None
none_if true fault h = absurd cc
none_if false fault h = refl

class_none : (i : ℕ) (o : Option LinkKind) → in_class i o ≡ None → o ≡ None
class_none i None h = refl
class_none i (Some kind) h = absurd cc

none_class : (i : ℕ) (o : Option LinkKind) → o ≡ None → in_class i o ≡ None
none_class i o h = ap (in_class i) h

pub false_or : (a b : Bool) → a ≡ false → b ≡ false → (a || b) ≡ false
false_or true b h k = absurd cc
false_or false b h k = k

-- ---- names that are kept for the passing side

-- no class that a class file names is kept
pub class_plain : (c : ClassParts) (i : ℕ) (name : List ℕ) → names_reserved c ≡ false → class_name_at c.pool i ≡ Some name → is_reserved name ≡ false
unfolding class_name_at
class_plain c i name h e =
    let plain = plain_in c.pool i (slice_get c.pool i) refl
    (or_false (list_any (entry_reserved c.pool) c.pool) (list_any (member_reserved c) c.methods || list_any (member_reserved c) c.fields) h).0 in
    ap (λ (o : Option (List ℕ)). is_reserved (or_empty o)) (sym e) ∙ plain

plain_text : (c : ClassParts) (i : ℕ) (o : Option (List ℕ)) → class_name_at c.pool i ≡ o → names_reserved c ≡ false → IsTrue (is_plain_class o) → is_reserved (or_empty o) ≡ false
plain_text c i None e h good = absurd cc
plain_text c i (Some name) e h good = class_plain c i name h e

pub text_plain : (c : ClassParts) (i : ℕ) → names_reserved c ≡ false → IsTrue (names_class c.pool i) → is_reserved (class_text c.pool i) ≡ false
unfolding names_class
text_plain c i h good = plain_text c i (class_name_at c.pool i) refl h good

-- what is known of each class
pub record Plain (c : ClassParts) : Type 0 where
  pub named : Named c
  pub kept : names_reserved c ≡ false

-- of all classes of a program of the source side that is named well
pub record IsPlain (p : Program) : Type 0 where
  pub source : p.side ≡ Source
  pub all : AllNamed p.parts
  pub naming : naming_fault p ≡ None
  pub extending : supers_fault p ≡ None

-- the tests of the first phase at a class
record Unnamed (p : Program) (i : ℕ) (c : ClassParts) : Type 0 where
  pub kept : names_reserved c ≡ false
  pub free : is_some (library.class_named Source (this_name c)) ≡ false
  pub first : stands_before p.parts i (this_name c) ≡ false

unnamed_at : (p : Program) → IsPlain p → (i : ℕ) (part : CodePart) → slice_get p.parts i ≡ Some part → Unnamed p i part.class
unfolding naming_fault reserved_test taken_test
unnamed_at p is i part at =
    let test = class_none i (naming_test p i part) (none_fails (λ j x. in_class j (naming_test p j x)) p.parts i part is.naming at) in
    let parts = none_of (reserved_test p part.class) (taken_test p i part.class) test in
    let kept = if_none (reserved_on p.side part.class) ReservedName parts.0 in
    let taken = or_false (is_some (library.class_named p.side (this_name part.class))) (stands_before p.parts i (this_name part.class)) (if_none (is_some (library.class_named p.side (this_name part.class)) || stands_before p.parts i (this_name part.class)) Twice parts.1) in
    record {
      kept = ap (λ side. reserved_on side part.class) (sym is.source) ∙ kept;
      free = ap (λ side. is_some (library.class_named side (this_name part.class))) (sym is.source) ∙ taken.0;
      first = taken.1;
    }

pub plain_at : (p : Program) → IsPlain p → (i : ℕ) (part : CodePart) → slice_get p.parts i ≡ Some part → Plain part.class
plain_at p is i part at = record { named = named_at p.parts i part is.all at; kept = (unnamed_at p is i part at).kept }

-- ---- parts of the moved program

-- a part of the moved program is the moved one of a part
pub record FromPart (p : Program) (i : ℕ) (x : CodePart) : Type 0 where
  pub part : CodePart
  pub at : slice_get p.parts i ≡ Some part
  pub is : moved_part p part ≡ x

from_part : (p : Program) (i : ℕ) (x : CodePart) (o : Option CodePart) → slice_get p.parts i ≡ o → option_map (moved_part p) o ≡ Some x → FromPart p i x
from_part p i x None at h = absurd cc
from_part p i x (Some part) at h = record { part = part; at = at; is = cc }

pub part_of_moved : (p : Program) (i : ℕ) (x : CodePart) → slice_get (moved p).parts i ≡ Some x → FromPart p i x
unfolding moved
part_of_moved p i x h = from_part p i x (slice_get p.parts i) refl (sym (part_moved p p.parts i) ∙ h)

-- ---- the first phase

named_test : (p : Program) → IsPlain p → (i : ℕ) (part : CodePart) → slice_get p.parts i ≡ Some part → naming_test (moved p) i (moved_part p part) ≡ None
unfolding moved reserved_test taken_test
named_test p is i part at =
    let u = unnamed_at p is i part at in
    let n = named_at p.parts i part is.all at in
    let name = this_name part.class in
    let same = this_same p part.domain part.class n in
    let plain = text_plain part.class part.class.this_class u.kept n.this in
    let free : is_some (library.class_named Passing (this_name (moved_class p part.domain part.class))) ≡ false =
    ap (λ m. is_some (library.class_named Passing m)) same ∙ ap is_some (same_named name plain) ∙ u.free in
    let first : stands_before (map (moved_part p) p.parts) i (this_name (moved_class p part.domain part.class)) ≡ false =
    ap (stands_before (map (moved_part p) p.parts) i) same ∙ ap (is_before i) (place_same p name p.parts is.all) ∙ u.first in
    none_if (is_some (library.class_named Passing (this_name (moved_class p part.domain part.class))) || stands_before (map (moved_part p) p.parts) i (this_name (moved_class p part.domain part.class))) Twice (false_or (is_some (library.class_named Passing (this_name (moved_class p part.domain part.class)))) (stands_before (map (moved_part p) p.parts) i (this_name (moved_class p part.domain part.class))) free first)

pub names_stay : (p : Program) → IsPlain p → naming_fault (moved p) ≡ None
unfolding naming_fault
names_stay p is = all_pass (λ i part. in_class i (naming_test (moved p) i part)) (moved p).parts (λ k x at.
    let f = part_of_moved p k x at in
    none_class k (naming_test (moved p) k x) (subst (λ (y : CodePart). naming_test (moved p) k y ≡ None) f.is (named_test p is k f.part f.at)))

-- ---- what was found says the same

abbrev Found : Type 0
Found = Option classes.Class

missing_same : (p : Program) (o q : Found) → SameFound p o q → is_some q ≡ is_some o
missing_same p None None h = refl
missing_same p (Some (User i c)) (Some (User j d)) h = refl
missing_same p (Some (Lib c)) (Some (Lib d)) h = refl
missing_same p None (Some d) h = absurd h
missing_same p (Some (User i c)) None h = absurd h
missing_same p (Some (Lib c)) None h = absurd h
missing_same p (Some (User i c)) (Some (Lib d)) h = absurd h
missing_same p (Some (Lib c)) (Some (User j d)) h = absurd h

pub flags_same : (p : Program) (i : ℕ) (c d : ClassParts) → IsMovedClass p i c d → d.flags ≡ c.flags
unfolding moved_class
flags_same p i c d h = ap (λ (x : ClassParts). x.flags) (sym h.there) ∙ ap (λ (x : ClassParts). x.flags) h.here

-- a test of a class by its flags
barred_same : (p : Program) (o q : Found) → SameFound p o q → holds is_barred q ≡ holds is_barred o
barred_same p None None h = refl
barred_same p (Some (User i c)) (Some (User j d)) h = ap (λ f. parts.is_final f || parts.is_interface f) (flags_same p i c d h.1)
barred_same p (Some (Lib c)) (Some (Lib d)) h = ap (λ x. is_barred (Lib x)) (sym h)
barred_same p None (Some d) h = absurd h
barred_same p (Some (User i c)) None h = absurd h
barred_same p (Some (Lib c)) None h = absurd h
barred_same p (Some (User i c)) (Some (Lib d)) h = absurd h
barred_same p (Some (Lib c)) (Some (User j d)) h = absurd h

pub interface_same : (p : Program) (o q : Found) → SameFound p o q → holds is_interface q ≡ holds is_interface o
interface_same p None None h = refl
interface_same p (Some (User i c)) (Some (User j d)) h = ap parts.is_interface (flags_same p i c d h.1)
interface_same p (Some (Lib c)) (Some (Lib d)) h = ap (λ x. is_interface (Lib x)) (sym h)
interface_same p None (Some d) h = absurd h
interface_same p (Some (User i c)) None h = absurd h
interface_same p (Some (Lib c)) None h = absurd h
interface_same p (Some (User i c)) (Some (Lib d)) h = absurd h
interface_same p (Some (Lib c)) (Some (User j d)) h = absurd h

pub above_moved : (p : Program) → IsPlain p → (i : ℕ) (c d : ClassParts) → IsMovedClass p i c d → super_name d ≡ super_name c
above_moved p is i c d h =
    ap super_name (sym h.there) ∙ above_same p h.part.domain h.part.class (named_at p.parts i h.part is.all h.at) ∙ ap super_name h.here

faces_moved : (p : Program) → IsPlain p → (i : ℕ) (c d : ClassParts) → IsMovedClass p i c d → interface_names d ≡ interface_names c
faces_moved p is i c d h =
    ap interface_names (sym h.there) ∙ faces_same p h.part.domain h.part.class (named_at p.parts i h.part is.all h.at) ∙ ap interface_names h.here

pub above_found : (p : Program) → IsPlain p → (o q : Found) → SameFound p o q → option_and_then above q ≡ option_and_then above o
above_found p is None None h = refl
above_found p is (Some (User i c)) (Some (User j d)) h = above_moved p is i c d h.1
above_found p is (Some (Lib c)) (Some (Lib d)) h = ap (λ x. above (Lib x)) (sym h)
above_found p is None (Some d) h = absurd h
above_found p is (Some (User i c)) None h = absurd h
above_found p is (Some (Lib c)) None h = absurd h
above_found p is (Some (User i c)) (Some (Lib d)) h = absurd h
above_found p is (Some (Lib c)) (Some (User j d)) h = absurd h

pub faces_found : (p : Program) → IsPlain p → (o q : Found) → SameFound p o q → faces_of q ≡ faces_of o
faces_found p is None None h = refl
faces_found p is (Some (User i c)) (Some (User j d)) h = faces_moved p is i c d h.1
faces_found p is (Some (Lib c)) (Some (Lib d)) h = ap (λ x. faces (Lib x)) (sym h)
faces_found p is None (Some d) h = absurd h
faces_found p is (Some (User i c)) None h = absurd h
faces_found p is (Some (Lib c)) None h = absurd h
faces_found p is (Some (User i c)) (Some (Lib d)) h = absurd h
faces_found p is (Some (Lib c)) (Some (User j d)) h = absurd h

pub same : (p : Program) → IsPlain p → (name : List ℕ) → is_reserved name ≡ false → SameFound p (find p name) (find (moved p) name)
same p is name plain = found_same p name is.source is.all plain

pub supers_same : (p : Program) → IsPlain p → (name : List ℕ) → is_reserved name ≡ false → supers (moved p) name ≡ supers p name
supers_same p is name plain =
    let s = same p is name plain in
    ap (λ (o : Option (List ℕ)). option_to_list o ++ face_names (moved p) name) (above_found p is (find p name) (find (moved p) name) s)
    ∙ ap (λ (l : List (List ℕ)). option_to_list (above_name p name) ++ l) (faces_found p is (find p name) (find (moved p) name) s)

-- ---- what stands above isn't kept either

abbrev pub AllPlain : List (List ℕ) → Type 0
AllPlain [] = Unit {0}
AllPlain (n ∷ ns) = (is_reserved n ≡ false) × AllPlain ns

pub plain_append : (ns ms : List (List ℕ)) → AllPlain ns → AllPlain ms → AllPlain (ns ++ ms)
plain_append [] ms h k = k
plain_append (n ∷ ns) ms h k = (h.0, plain_append ns ms h.1 k)

plain_faces : (c : ClassParts) (is : List ℕ) → names_reserved c ≡ false → IsTrue (list_all (index (names_class c.pool)).fits is) → AllPlain (map (class_text c.pool) is)
plain_faces c [] kept h = tt
plain_faces c (i ∷ is) kept h =
    let one = good_is (names_class c.pool i) Index (second_true (u2.fits i) _ (first_true ((index (names_class c.pool)).fits i) (list_all (index (names_class c.pool)).fits is) h)) in
    (text_plain c i kept one, plain_faces c is kept (second_true ((index (names_class c.pool)).fits i) (list_all (index (names_class c.pool)).fits is) h))

plain_above_if : (b : Bool) (c : ClassParts) → names_reserved c ≡ false → IsTrue (b || names_class c.pool c.super_class) → AllPlain (option_to_list (if b then None else Some (class_text c.pool c.super_class)))
plain_above_if true c kept h = tt
plain_above_if false c kept h = (text_plain c c.super_class kept h, tt)

pub plain_above : (c : ClassParts) → Plain c → AllPlain (option_to_list (super_name c))
unfolding names_super
plain_above c is = plain_above_if (c.super_class == 0) c is.kept is.named.above

-- a user's class
record IsUser (p : Program) (i : ℕ) (c : ClassParts) : Type 0 where
  pub part : CodePart
  pub at : slice_get p.parts i ≡ Some part
  pub here : part.class ≡ c

user_supers : (p : Program) → IsPlain p → (i : ℕ) (c : ClassParts) → IsUser p i c → AllPlain (option_to_list (super_name c) ++ interface_names c)
user_supers p is i c u =
    let x = plain_at p is i u.part u.at in
    subst (λ (d : ClassParts). AllPlain (option_to_list (super_name d) ++ interface_names d)) u.here
    (plain_append (option_to_list (super_name u.part.class)) (interface_names u.part.class) (plain_above u.part.class x) (plain_faces u.part.class u.part.class.interfaces x.kept x.named.faces))

lib_above : (o : Option LibClass) → ((s : LibClass) → o ≡ Some s → library.stands_on Source s ≡ true) → AllPlain (option_to_list (option_map library.name_of o))
lib_above None h = tt
lib_above (Some s) h = (source_plain s (h s refl), tt)

lib_supers : (c : LibClass) → AllPlain (option_to_list (above (Lib c)) ++ faces (Lib c))
lib_supers c =
    plain_append (option_to_list (above (Lib c))) (faces (Lib c)) (lib_above (library.superclass c) (λ s h. (class_above Source c s h).1)) (lib_above (library.implemented c) (λ s h. (class_implements Source c s h).1))

found_supers : (p : Program) → IsPlain p → (o q : Found) → SameFound p o q → AllPlain (option_to_list (option_and_then above o) ++ faces_of o)
found_supers p is None None h = tt
found_supers p is (Some (User i c)) (Some (User j d)) h = user_supers p is i c (record { part = h.1.part; at = h.1.at; here = h.1.here })
found_supers p is (Some (Lib c)) (Some (Lib d)) h = lib_supers c
found_supers p is None (Some d) h = absurd h
found_supers p is (Some (User i c)) None h = absurd h
found_supers p is (Some (Lib c)) None h = absurd h
found_supers p is (Some (User i c)) (Some (Lib d)) h = absurd h
found_supers p is (Some (Lib c)) (Some (User j d)) h = absurd h

pub supers_plain : (p : Program) → IsPlain p → (name : List ℕ) → is_reserved name ≡ false → AllPlain (supers p name)
supers_plain p is name plain = found_supers p is (find p name) (find (moved p) name) (same p is name plain)

-- ---- circles

pub any_same : (f g : List ℕ → Bool) (ns : List (List ℕ)) → AllPlain ns → ((n : List ℕ) → is_reserved n ≡ false → f n ≡ g n) → list_any f ns ≡ list_any g ns
any_same f g [] all h = refl
any_same f g (n ∷ ns) all h = rw (h n all.0, any_same f g ns all.1 h) refl

pub reaches_same : (p : Program) → IsPlain p → (n : ℕ) (d c : List ℕ) → is_reserved c ≡ false → reaches (moved p) n d c ≡ reaches p n d c
unfolding reaches
reaches_same p is zero d c plain = refl
reaches_same p is (suc n) d c plain =
    ap (list_any (λ s. bytes_eq d s || reaches (moved p) n d s)) (supers_same p is c plain)
    ∙ any_same (λ s. bytes_eq d s || reaches (moved p) n d s) (λ s. bytes_eq d s || reaches p n d s) (supers p c) (supers_plain p is c plain) (λ s k. ap (λ b. bytes_eq d s || b) (reaches_same p is n d s k))

pub known_same : (p : Program) → length (known (moved p)) ≡ length (known p)
unfolding moved
known_same p =
    let names : List CodePart → List (List ℕ) = λ parts. map (λ part. this_name part.class) parts in
    let lib = map library.name_of library.classes in
    length-append (names (map (moved_part p) p.parts)) lib
    ∙ ap (λ n. n + length lib) (length-map (map (moved_part p) p.parts) _ ∙ length-map p.parts (moved_part p) ∙ sym (length-map p.parts _))
    ∙ sym (length-append (names p.parts) lib)

-- ---- the second phase

pub missing_name : (p : Program) → IsPlain p → (name : List ℕ) → is_reserved name ≡ false → is_missing (moved p) name ≡ is_missing p name
missing_name p is name plain = ap not (missing_same p (find p name) (find (moved p) name) (same p is name plain))

above_missing : (p : Program) → IsPlain p → (o : Option (List ℕ)) → AllPlain (option_to_list o) → super_missing (moved p) o ≡ super_missing p o
above_missing p is None h = refl
above_missing p is (Some name) h = missing_name p is name h.0

above_barred : (p : Program) → IsPlain p → (o : Option (List ℕ)) → AllPlain (option_to_list o) → super_barred (moved p) o ≡ super_barred p o
above_barred p is None h = refl
above_barred p is (Some name) h = barred_same p (find p name) (find (moved p) name) (same p is name h.0)

-- tests of the names of interfaces
face_tests : (f : List ℕ → Bool) (pool : List Entry) (is : List ℕ) → list_any (λ i. f (class_text pool i)) is ≡ list_any f (map (class_text pool) is)
face_tests f pool [] = refl
face_tests f pool (i ∷ is) = ap (λ b. f (class_text pool i) || b) (face_tests f pool is)

face_missing_same : (p : Program) → IsPlain p → (domain : ℕ) (c : ClassParts) → Plain c → face_missing (moved p) (moved_class p domain c) ≡ face_missing p c
unfolding moved_class
face_missing_same p is domain c x =
    face_tests (is_missing (moved p)) (moved_class p domain c).pool c.interfaces
    ∙ ap (list_any (is_missing (moved p))) (faces_same p domain c x.named)
    ∙ any_same (is_missing (moved p)) (is_missing p) (interface_names c) (plain_faces c c.interfaces x.kept x.named.faces) (missing_name p is)
    ∙ sym (face_tests (is_missing p) c.pool c.interfaces)

no_interface_name : (p : Program) → IsPlain p → (name : List ℕ) → is_reserved name ≡ false → is_no_interface (moved p) name ≡ is_no_interface p name
no_interface_name p is name plain = ap not (interface_same p (find p name) (find (moved p) name) (same p is name plain))

lists_same : (p : Program) → IsPlain p → (domain : ℕ) (c : ClassParts) → Plain c → lists_a_class (moved p) (moved_class p domain c) ≡ lists_a_class p c
unfolding moved_class
lists_same p is domain c x =
    face_tests (is_no_interface (moved p)) (moved_class p domain c).pool c.interfaces
    ∙ ap (list_any (is_no_interface (moved p))) (faces_same p domain c x.named)
    ∙ any_same (is_no_interface (moved p)) (is_no_interface p) (interface_names c) (plain_faces c c.interfaces x.kept x.named.faces) (no_interface_name p is)
    ∙ sym (face_tests (is_no_interface p) c.pool c.interfaces)

missing_test_same : (p : Program) → IsPlain p → (domain : ℕ) (c : ClassParts) → Plain c → missing_test (moved p) (moved_class p domain c) ≡ missing_test p c
unfolding missing_test
missing_test_same p is domain c x =
    let above = ap (super_missing (moved p)) (above_same p domain c x.named) ∙ above_missing p is (super_name c) (plain_above c x) in
    rw (above, face_missing_same p is domain c x) refl

super_test_same : (p : Program) → IsPlain p → (domain : ℕ) (c : ClassParts) → Plain c → super_test (moved p) (moved_class p domain c) ≡ super_test p c
unfolding super_test moved_class
super_test_same p is domain c x =
    let up = above_same p domain c x.named in
    let barred = ap (super_barred (moved p)) up ∙ above_barred p is (super_name c) (plain_above c x) in
    let object = ap is_object up in
    rw (barred, lists_same p is domain c x, object) refl

circle_test_same : (p : Program) → IsPlain p → (domain : ℕ) (c : ClassParts) → Plain c → circle_test (moved p) (moved_class p domain c) ≡ circle_test p c
unfolding circle_test
circle_test_same p is domain c x =
    let here = this_same p domain c x.named in
    let plain = text_plain c c.this_class x.kept x.named.this in
    let n = known_same p in
    let all = reaches_same p is (length (known p)) (this_name c) (this_name c) plain in
    rw (here, n, all) refl

extended_test : (p : Program) → IsPlain p → (i : ℕ) (part : CodePart) → slice_get p.parts i ≡ Some part → supers_test (moved p) (moved_part p part) ≡ None
unfolding supers_fault
extended_test p is i part at =
    let x = plain_at p is i part at in
    let c = part.class in
    let old = class_none i (supers_test p part) (none_fails (λ j y. in_class j (supers_test p y)) p.parts i part is.extending at) in
    rw (missing_test_same p is part.domain c x, super_test_same p is part.domain c x, circle_test_same p is part.domain c x) old

pub extending_stays : (p : Program) → IsPlain p → supers_fault (moved p) ≡ None
unfolding supers_fault
extending_stays p is = all_pass (λ i part. in_class i (supers_test (moved p) part)) (moved p).parts (λ k x at.
    let f = part_of_moved p k x at in
    none_class k (supers_test (moved p) x) (subst (λ (y : CodePart). supers_test (moved p) y ≡ None) f.is (extended_test p is k f.part f.at)))
