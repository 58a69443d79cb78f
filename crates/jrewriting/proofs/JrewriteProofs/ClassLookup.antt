-- Where the moved program finds a class of a name, and what it then says of itself.
use Rattle.std.proofs.Common.{◌≡◌, ℕ, zero, suc, ◌+◌, Bool, true, false, List, [], ◌∷◌, length, map, Option, Some, None, refl, ap, sym, ◌∙◌, subst}
use Rattle.std.specs.Prelude.{IsTrue, is_some, option_map, slice_get, ◌||◌, ◌==◌, if◌then◌else◌}
use Rattle.std.specs.List.{list_all, position_from}
use Rattle.std.specs.Str.{bytes_eq}
use Rattle.std.proofs.lemmas.Iterator.Adapters.{position_from-zero}
use Rattle.jground.specs.jformat.BodyFormats.{counted}
use Rattle.jground.proofs.JformatProofs.ReadingSteps.{first_true, second_true}
use Rattle.jparts.specs.declared.jpool.entry.Entry.{Entry}
use Rattle.jparts.specs.jpool.ConstantPools.{class_name_at}
use Rattle.jclass.specs.declared.class.ClassParts.{ClassParts}
use Rattle.jclass.specs.declared.fault.ClassFault.TheVariants.{Index}
use Rattle.jclass.specs.IndexFormats.{access, index, u2}
use Rattle.jclass.specs.Class.{class_file, tail}
use Rattle.jclass.specs.FlagRules.{names_class, names_super, is_plain_class}
use Rattle.jlib.specs.declared.classes.LibClass.{LibClass}
use Rattle.jlib.specs.LibraryClasses as library
use Rattle.jlib.specs.declared.side.Side.TheVariants.{Source, Passing}
use Rattle.jmove.specs.PoolAdditions.{IsFront}
use Rattle.jresolution.specs.declared.jprogram.part.CodePart.{CodePart}
use Rattle.jresolution.specs.jprogram.ProgramClasses.{Class, Lib, Program, User, find, found_at, place_of, program}
use Rattle.jresolution.specs.jprogram.NameChecks.{is_reserved}
use Rattle.jresolution.specs.jprogram.ClassFileParts.{class_text, interface_names, or_empty, super_name, this_name}
use Rattle.jmoveclass.specs.MovedMembers.{with_method}
use Rattle.jmoveclass.specs.MovedClasses.{moved_class, moved_part}
use Rattle.jmoveclass.proofs.PoolStability.{class_name_stays}
use Rattle.jmoveclass.proofs.Growth.{method_grows}
use Rattle.jmoveclass.proofs.DemandPreservation.{good_is}
use Rattle.jmoveclass.proofs.ItemAdditions.{each_grows}
use Rattle.jrewriting.specs.jrewrite.RewrittenPrograms.{moved}
use Rattle.jrewriting.proofs.JrewriteProofs.Sides.{same_named}
use Rattle.jmoveclass.proofs.MethodContents.{class_tail}

-- ---- a moved class's names

pub pool_front : (p : Program) (domain : ℕ) (c : ClassParts) → IsFront c.pool (moved_class p domain c).pool
unfolding moved_class
pool_front p domain c = (each_grows (with_method p c domain) (method_grows p c domain) c.methods).on c.pool

text_stays : (pool whole : List Entry) → IsFront pool whole → (i : ℕ) (o : Option (List ℕ)) → class_name_at pool i ≡ o → IsTrue (is_some o) → class_text whole i ≡ class_text pool i
text_stays pool whole f i None e h = absurd cc
text_stays pool whole f i (Some name) e h = ap or_empty (class_name_stays pool whole f i name e ∙ sym e)

plain_some : (o : Option (List ℕ)) → IsTrue (is_plain_class o) → IsTrue (is_some o)
plain_some None h = absurd cc
plain_some (Some name) h = refl

class_stays : (pool whole : List Entry) → IsFront pool whole → (i : ℕ) → IsTrue (names_class pool i) → class_text whole i ≡ class_text pool i
unfolding names_class
class_stays pool whole f i h = text_stays pool whole f i (class_name_at pool i) refl (plain_some (class_name_at pool i) h)

-- what a class file names besides its members
pub record Named (c : ClassParts) : Type 0 where
  pub this : IsTrue (names_class c.pool c.this_class)
  pub above : IsTrue (names_super c.pool c.super_class)
  pub faces : IsTrue (list_all (index (names_class c.pool)).fits c.interfaces)

pub named_of : (c : ClassParts) → IsTrue (class_file.fits c) → Named c
unfolding tail
named_of c fit =
    let t = class_tail c fit in
    let a = second_true (access.fits c.flags) _ t in
    let b = second_true ((index (names_class c.pool)).fits c.this_class) _ a in
    let d = second_true ((index (names_super c.pool)).fits c.super_class) _ b in
    record {
      this = good_is (names_class c.pool c.this_class) Index (second_true (u2.fits c.this_class) _ (first_true ((index (names_class c.pool)).fits c.this_class) _ a));
      above = good_is (names_super c.pool c.super_class) Index (second_true (u2.fits c.super_class) _ (first_true ((index (names_super c.pool)).fits c.super_class) _ b));
      faces = first_true (list_all (index (names_class c.pool)).fits c.interfaces) (u2.fits (length c.interfaces)) (first_true ((counted u2 (index (names_class c.pool))).fits c.interfaces) _ d);
    }

pub this_same : (p : Program) (domain : ℕ) (c : ClassParts) → Named c → this_name (moved_class p domain c) ≡ this_name c
unfolding moved_class
this_same p domain c n = class_stays c.pool (moved_class p domain c).pool (pool_front p domain c) c.this_class n.this

above_if : (b : Bool) (pool whole : List Entry) (i : ℕ) → IsFront pool whole → IsTrue (b || names_class pool i) → (if b then None else Some (class_text whole i)) ≡ (if b then None else Some (class_text pool i))
above_if true pool whole i f h = refl
above_if false pool whole i f h = ap (λ (n : List ℕ). Some n) (class_stays pool whole f i h)

pub above_same : (p : Program) (domain : ℕ) (c : ClassParts) → Named c → super_name (moved_class p domain c) ≡ super_name c
unfolding names_super moved_class
above_same p domain c n = above_if (c.super_class == 0) c.pool (moved_class p domain c).pool c.super_class (pool_front p domain c) n.above

faces_stay : (pool whole : List Entry) → IsFront pool whole → (is : List ℕ) → IsTrue (list_all (index (names_class pool)).fits is) → map (class_text whole) is ≡ map (class_text pool) is
faces_stay pool whole f [] h = refl
faces_stay pool whole f (i ∷ is) h =
    let one = good_is (names_class pool i) Index (second_true (u2.fits i) _ (first_true ((index (names_class pool)).fits i) (list_all (index (names_class pool)).fits is) h)) in
    ap (λ (n : List ℕ). n ∷ map (class_text whole) is) (class_stays pool whole f i one)
    ∙ ap (λ (ns : List (List ℕ)). class_text pool i ∷ ns) (faces_stay pool whole f is (second_true ((index (names_class pool)).fits i) (list_all (index (names_class pool)).fits is) h))

pub faces_same : (p : Program) (domain : ℕ) (c : ClassParts) → Named c → interface_names (moved_class p domain c) ≡ interface_names c
unfolding moved_class
faces_same p domain c n = faces_stay c.pool (moved_class p domain c).pool (pool_front p domain c) c.interfaces n.faces

-- ---- the place of a name

-- each class of the program names what a class file names
abbrev pub AllNamed : List CodePart → Type 0
AllNamed [] = Unit {0}
AllNamed (part ∷ parts) = Named part.class × AllNamed parts

pub named_at : (parts : List CodePart) (i : ℕ) (part : CodePart) → AllNamed parts → slice_get parts i ≡ Some part → Named part.class
named_at [] i part all at = absurd cc
named_at (x ∷ xs) zero part all at = let same : x ≡ part = cc in subst (λ (y : CodePart). Named y.class) same all.0
named_at (x ∷ xs) (suc i) part all at = named_at xs i part all.1 at

from_same : (p : Program) (name : List ℕ) (i : ℕ) (parts : List CodePart) → AllNamed parts
    → position_from (λ part. bytes_eq (this_name part.class) name) i (map (moved_part p) parts) ≡ position_from (λ part. bytes_eq (this_name part.class) name) i parts
from_same p name i [] all = refl
from_same p name i (x ∷ xs) all =
    let one : bytes_eq (this_name (moved_class p x.domain x.class)) name ≡ bytes_eq (this_name x.class) name = ap (λ (n : List ℕ). bytes_eq n name) (this_same p x.domain x.class all.0) in
    rw (one, from_same p name (i + 1) xs all.1) refl

pub place_same : (p : Program) (name : List ℕ) (parts : List CodePart) → AllNamed parts → place_of (map (moved_part p) parts) name ≡ place_of parts name
unfolding place_of
place_same p name parts all =
    position_from-zero (λ part. bytes_eq (this_name part.class) name) (map (moved_part p) parts) ∙ from_same p name 0 parts all ∙ sym (position_from-zero (λ part. bytes_eq (this_name part.class) name) parts)

pub part_moved : (p : Program) (parts : List CodePart) (i : ℕ) → slice_get (map (moved_part p) parts) i ≡ option_map (moved_part p) (slice_get parts i)
part_moved p [] i = refl
part_moved p (x ∷ xs) zero = refl
part_moved p (x ∷ xs) (suc i) = part_moved p xs i

-- ---- finding

-- a user's class and the moved one of its part
pub record IsMovedClass (p : Program) (i : ℕ) (c d : ClassParts) : Type 0 where
  pub part : CodePart
  pub at : slice_get p.parts i ≡ Some part
  pub here : part.class ≡ c
  pub there : moved_class p part.domain part.class ≡ d

-- what was found, and what the moved program finds
abbrev pub SameFound : Program → Option Class → Option Class → Type 0
SameFound p None None = Unit {0}
SameFound p (Some (Lib c)) (Some (Lib d)) = c ≡ d
SameFound p (Some (User i c)) (Some (User j d)) = (i ≡ j) × IsMovedClass p i c d
SameFound p _ _ = ⊥

user_same : (p : Program) (i : ℕ) (o : Option CodePart) → slice_get p.parts i ≡ o → SameFound p (option_map (λ part. User i part.class) o) (option_map (λ part. User i part.class) (option_map (moved_part p) o))
user_same p i None at = tt
user_same p i (Some part) at = (refl, record { part = part; at = at; here = refl; there = refl })

lib_same : (p : Program) (o : Option LibClass) → SameFound p (option_map Lib o) (option_map Lib o)
lib_same p None = tt
lib_same p (Some c) = refl

lib_found : (p : Program) (o q : Option LibClass) → q ≡ o → SameFound p (option_map Lib o) (option_map Lib q)
lib_found p o q e = subst (λ (x : Option LibClass). SameFound p (option_map Lib o) (option_map Lib x)) (sym e) (lib_same p o)

place_found : (p : Program) (name : List ℕ) (o : Option ℕ) → p.side ≡ Source → is_reserved name ≡ false → SameFound p (found_at p name o) (found_at (program Passing (map (moved_part p) p.parts)) name o)
place_found p name (Some i) source plain = rw (part_moved p p.parts i) (user_same p i (slice_get p.parts i) refl)
place_found p name None source plain =
    lib_found p (library.class_named p.side name) (library.class_named Passing name) (same_named name plain ∙ ap (λ side. library.class_named side name) (sym source))

-- a name that isn't kept is found where it was
pub found_same : (p : Program) (name : List ℕ) → p.side ≡ Source → AllNamed p.parts → is_reserved name ≡ false → SameFound p (find p name) (find (moved p) name)
unfolding find moved
found_same p name source all plain =
    subst (λ (o : Option ℕ). SameFound p (found_at p name (place_of p.parts name)) (found_at (program Passing (map (moved_part p) p.parts)) name o)) (sym (place_same p name p.parts all))
    (place_found p name (place_of p.parts name) source plain)
