-- What is found by a name has this name, and where nothing is found there is no member.
use Rattle.std.proofs.Common.{◌≡◌, ℕ, zero, suc, Bool, true, false, ◌||◌, List, [], ◌∷◌, length, Option, Some, None, refl, sym, ap, ◌∙◌, add-one}
use Rattle.std.specs.Prelude.{is_some, option_and_then, option_map, slice_get, if◌then◌else◌}
use Rattle.std.specs.List.{list_any}
use Rattle.std.specs.Str.{bytes_eq}
use Rattle.std.proofs.lemmas.Option.{get_or_from_slice_get}
use Rattle.std.proofs.lemmas.Slice.Eq.{bytes_eq-Decides}
use Rattle.jground.specs.jbase.FirstFaults.{first_some, or_else}
use Rattle.jlib.specs.declared.classes.LibClass.{LibClass}
use Rattle.jlib.specs.LibraryClasses as library
use Rattle.jlib.proofs.LibraryLookup.{class_found}
use Rattle.jresolution.specs.declared.jprogram.member.Member.{Member}
use Rattle.jresolution.specs.declared.jprogram.part.CodePart.{CodePart}
use Rattle.jresolution.specs.declared.jprogram.part.ClassRef.{ClassRef}
use Rattle.jresolution.specs.declared.jprogram.part.ClassRef.TheVariants as refs
use Rattle.jresolution.specs.jprogram.ClassFileParts.{this_name}
use Rattle.jresolution.specs.jprogram.ProgramClasses.{Class, Lib, Program, User, above, chain, extends, find, found_at, known, name_at, object, onward, over, place_of, ref_of, superinterfaces, tree, up, named, faces_of}
use Rattle.jresolution.specs.jprogram.MemberResolution.{field_at, field_in, init, method_at, method_in, resolve_field, resolve_method}
use Rattle.jtypes.specs.Assignability.{class_fits}
use Rattle.jresolution.proofs.JprogramProofs.InterfaceSearch.{place_named}
use Rattle.jresolution.specs.juses.InternedTypes.{class_named}
use Rattle.jresolution.specs.juses.DescriptorTypes.{name, there}

-- ---- names

part_named : (parts : List CodePart) (text : List ℕ) (i : ℕ) (part : CodePart) → place_of parts text ≡ Some i → slice_get parts i ≡ Some part → this_name part.class ≡ text
part_named parts text i part at is = ap (λ (q : CodePart). this_name q.class) (sym (get_or_from_slice_get parts i part part is)) ∙ place_named parts text i part at

abbrev named_there : Program → List ℕ → Option Class → Type 0
named_there p text o = option_map (class_named p) (option_map ref_of o) ≡ (if is_some o then Some (name text) else None)

user_there : (p : Program) (text : List ℕ) (i : ℕ) (o : Option CodePart) → place_of p.parts text ≡ Some i → slice_get p.parts i ≡ o → named_there p text (option_map (λ part. User i part.class) o)
user_there p text i None at is = refl
user_there p text i (Some part) at is =
    let here : name_at p (refs.User i) ≡ this_name part.class = ap (λ (o : Option CodePart). named (option_map (λ part. User i part.class) o)) is in
    ap (λ (n : List ℕ). Some (name n)) (here ∙ part_named p.parts text i part at is)

lib_there : (p : Program) (text : List ℕ) (o : Option LibClass) → library.class_named p.side text ≡ o → named_there p text (option_map Lib o)
lib_there p text None is = refl
lib_there p text (Some c) is = ap (λ (n : List ℕ). Some (name n)) (class_found p.side text c is).0

at_place : (p : Program) (text : List ℕ) (o : Option ℕ) → place_of p.parts text ≡ o → named_there p text (found_at p text o)
at_place p text None at = lib_there p text (library.class_named p.side text) refl
at_place p text (Some i) at = user_there p text i (slice_get p.parts i) at refl

-- the class of a number that was found by a name has this name
pub there_is : (p : Program) (text : List ℕ) → option_map (class_named p) (option_map ref_of (find p text)) ≡ there p text
unfolding find
there_is p text = at_place p text (place_of p.parts text) refl

-- ---- no class, no member

nothing_there : (text : List ℕ) (o : Option Class) → (if is_some o then Some (name text) else None) ≡ None → o ≡ None
nothing_there text None h = refl
nothing_there text (Some c) h = absurd cc

-- nothing was found
pub find_none : (p : Program) (text : List ℕ) → there p text ≡ None → find p text ≡ None
find_none p text h = nothing_there text (find p text) h

single : {A F : Type 0} (f : A → Option F) (x : A) → f x ≡ None → first_some f (x ∷ []) ≡ None
unfolding first_some
single {A} {F} f x h = ap (λ (o : Option F). or_else o None) h

chain_none : (p : Program) (n : ℕ) (class : List ℕ) → find p class ≡ None → chain p (suc n) class ≡ class ∷ []
unfolding chain
chain_none p n class none = ap (λ (o : Option Class). class ∷ onward (chain p n) (option_and_then above o)) none

up_none : (p : Program) (class : List ℕ) → find p class ≡ None → up p class ≡ class ∷ []
up_none p class none = ap (λ (n : ℕ). chain p n class) (add-one (length (known p))) ∙ chain_none p (length (known p)) class none

over_none : (p : Program) (n : ℕ) → over p n [] ≡ []
unfolding over
over_none p zero = refl
over_none p (suc n) = refl

faces_none : (p : Program) (class : List ℕ) → find p class ≡ None → superinterfaces p class ≡ []
faces_none p class none = ap (λ (o : Option Class). over p (length (known p)) (faces_of o)) none ∙ over_none p (length (known p))

up_finds_none : (p : Program) (class : List ℕ) (f : List ℕ → Option Member) → find p class ≡ None → f class ≡ None → first_some f (up p class) ≡ None
up_finds_none p class f none h = ap (λ (names : List (List ℕ)). first_some f names) (up_none p class none) ∙ single f class h

faces_find_none : (p : Program) (class : List ℕ) (f : List ℕ → Option Member) → find p class ≡ None → first_some f (superinterfaces p class) ≡ None
unfolding first_some
faces_find_none p class f none = ap (λ (names : List (List ℕ)). first_some f names) (faces_none p class none)

either_none : (b : Bool) (x y : Option Member) → x ≡ None → y ≡ None → (if b then x else y) ≡ None
either_none true x y hx hy = hx
either_none false x y hx hy = hy

both_none : (x y : Option Member) → x ≡ None → y ≡ None → or_else x y ≡ None
both_none x y hx hy = ap (λ (o : Option Member). or_else o y) hx ∙ hy

method_none : (p : Program) (text desc class : List ℕ) → find p class ≡ None → method_at p text desc class ≡ None
method_none p text desc class none = ap (λ (o : Option Class). option_and_then (λ c. method_in p.side c text desc) o) none

field_none : (p : Program) (text desc class : List ℕ) → find p class ≡ None → field_at p text desc class ≡ None
field_none p text desc class none = ap (λ (o : Option Class). option_and_then (λ c. field_in p.side c text desc) o) none

-- a class that isn't there has no method
pub no_method : (p : Program) (class text desc : List ℕ) → find p class ≡ None → resolve_method p class text desc ≡ None
unfolding resolve_method
no_method p class text desc none =
    let own : method_at p text desc class ≡ None = method_none p text desc class none in
    either_none (bytes_eq text init) _ _ own
    (both_none _ _ (up_finds_none p class (method_at p text desc) none own)
    (up_finds_none p class (λ x. first_some (method_at p text desc) (superinterfaces p x)) none (faces_find_none p class (method_at p text desc) none)))

-- nor a field
pub no_field : (p : Program) (class text desc : List ℕ) → find p class ≡ None → resolve_field p class text desc ≡ None
unfolding resolve_field
no_field p class text desc none =
    up_finds_none p class (λ x. or_else (field_at p text desc x) (first_some (field_at p text desc) (superinterfaces p x))) none
    (both_none _ _ (field_none p text desc class none) (faces_find_none p class (field_at p text desc) none))

-- ---- a class is below itself

or_true : (a b : Bool) → b ≡ true → (a || b) ≡ true
or_true true b h = refl
or_true false b h = h

true_or : (a b : Bool) → a ≡ true → (a || b) ≡ true
true_or true b h = refl
true_or false b h = cc

heads_chain : (p : Program) (n : ℕ) (c : List ℕ) → list_any (bytes_eq c) (chain p (suc n) c) ≡ true
unfolding chain
heads_chain p n c = true_or (bytes_eq c c) _ ((bytes_eq-Decides c c).1 refl)

extends_itself : (p : Program) (c : List ℕ) → extends p c c ≡ true
unfolding extends
extends_itself p c = or_true (bytes_eq c object) _ (ap (λ (n : ℕ). list_any (bytes_eq c) (chain p n c)) (add-one (length (known p))) ∙ heads_chain p (length (known p)) c)

-- of one number
pub one_extends : (p : Program) (c d : ClassRef) → c ≡ d → true ≡ extends p (name_at p c) (name_at p d)
one_extends p c d e = sym (ap (λ (d : ClassRef). extends p (name_at p c) (name_at p d)) (sym e) ∙ extends_itself p (name_at p c))

pub one_fits : (p : Program) (c d : ClassRef) → c ≡ d → true ≡ class_fits (tree p) (class_named p c) (class_named p d)
one_fits p c d e = sym (or_true ((tree p).is_interface (class_named p d)) _ (sym (one_extends p c d e)))
