-- A run of a moved program begins with the method with which a run of the program does.
use Rattle.std.proofs.Common.{◌≡◌, ℕ, suc, ◌+◌, Bool, false, ◌&&◌, List, [], ◌∷◌, Option, Some, None, refl, ap, sym, ◌∙◌}
use Rattle.std.specs.Prelude.{codes, option_map, slice_get}
use Rattle.std.specs.List.{position, position_from}
use Rattle.std.proofs.lemmas.Iterator.Adapters.{position_from-zero}
use Rattle.jparts.specs.declared.jpool.descriptor.FieldType.{FieldType}
use Rattle.jparts.specs.jpool.Descriptors.{base_at, class_at, closing_at, descriptor_of, descriptor_text, field_of, method_of, params_at, return_at, slots_of, type_at}
use Rattle.jparts.specs.jpool.ClassNames.{is_class_name}
use Rattle.jclass.specs.declared.access.Access.{Access}
use Rattle.jclass.specs.declared.class.ClassParts.{ClassParts}
use Rattle.jclass.specs.declared.class.MemberInfo.{MemberInfo}
use Rattle.jclass.specs.FileContents.{IsIn}
use Rattle.jlib.specs.declared.side.Side.{Side}
use Rattle.jlib.specs.declared.side.Side.TheVariants.{Passing, Source}
use Rattle.jmove.specs.PoolAdditions.{moved_descriptor}
use Rattle.jrewriting.proofs.JmoveclassLawsProofs.MovedMethods.{Alike, Like}
use Rattle.jresolution.specs.jprogram.ProgramClasses.{Class, Lib, Program, User, find}
use Rattle.jresolution.specs.jprogram.MemberResolution.{is_main, main_desc, main_of, method_id}
use Rattle.jresolution.specs.jprogram.ProofNames.{main_in}
use Rattle.jresolution.specs.jprogram.NameChecks.{is_reserved}
use Rattle.jresolution.specs.jprogram.ClassFileParts as parts
use Rattle.jresolution.specs.jprogram.ClassFileParts.{has_code, is_called}
use Rattle.jrewriting.specs.jrewrite.RewrittenPrograms.{moved}
use Rattle.jrewriting.proofs.JrewriteProofs.DeclarationChecks.{Moving}
use Rattle.jrewriting.proofs.JrewriteProofs.ClassLookup.{SameFound}
use Rattle.jrewriting.proofs.JrewriteProofs.FinalOverrides.{AllMoving, called_there, moved_side}
use Rattle.jrewriting.proofs.JrewriteProofs.HierarchyPhases.{IsPlain, same}
use Rattle.jmoved_laws.proofs.NamesProofs.CallSelection.{MovedText}
use Rattle.jmoved_laws.proofs.NamesProofs.Classes.{either_name, kept_main}
use Rattle.jmoved_laws.proofs.NamesProofs.Texts.{text_of}

-- ---- its descriptor

abbrev texts_type : FieldType
texts_type = record { depth = 1; base = 76; class = codes "java/lang/String" }

main_text : MovedText (main_desc Source) (main_desc Passing)
unfolding moved_descriptor descriptor_of descriptor_text method_of field_of params_at closing_at type_at base_at class_at return_at slots_of is_class_name
main_text = text_of (main_desc Source) (main_desc Passing) (texts_type ∷ []) None refl refl refl

-- ---- in a user's class

abbrev begins : Access → Bool → Bool
begins flags code = parts.is_public_reach (parts.reach_of flags) && parts.is_static flags && code

called_main : (c d : ClassParts) (x y : MemberInfo) → Moving c d → IsIn x c.methods → Like c d.pool x y → is_called d (codes "main") (main_desc Passing) y ≡ is_called c (codes "main") (main_desc Source) x
called_main c d x y k at like =
    let t = main_text in
    ap (λ (desc : List ℕ). is_called d (codes "main") desc y) (sym t.new_is)
    ∙ called_there c d t.class x y t.method (codes "main") k at like t.facts
    ∙ ap (λ (desc : List ℕ). is_called c (codes "main") desc x) t.old_is

method_same : (c d : ClassParts) (x y : MemberInfo) → Moving c d → IsIn x c.methods → Like c d.pool x y → is_main Passing d y ≡ is_main Source c x
method_same c d x y k at like =
    ap (λ (b : Bool). b && begins y.flags (has_code y)) (called_main c d x y k at like)
    ∙ ap (λ (a : Access). is_called c (codes "main") (main_desc Source) x && begins a (has_code y)) like.flags
    ∙ ap (λ (b : Bool). is_called c (codes "main") (main_desc Source) x && begins x.flags b) like.code

from_same : (c d : ClassParts) (i : ℕ) (xs ys : List MemberInfo) → Moving c d → ((j : ℕ) (x : MemberInfo) → slice_get xs j ≡ Some x → IsIn x c.methods) → Alike c d.pool xs ys
    → position_from (is_main Passing d) i ys ≡ position_from (is_main Source c) i xs
from_same c d i [] [] k sub all = refl
from_same c d i [] (y ∷ ys) k sub all = absurd all
from_same c d i (x ∷ xs) [] k sub all = absurd all
from_same c d i (x ∷ xs) (y ∷ ys) k sub all = rw (method_same c d x y k (sub 0 x refl) all.0, from_same c d (i + 1) xs ys k (λ j z at. sub (suc j) z at) all.1) refl

place_same : (c d : ClassParts) → Moving c d → Alike c d.pool c.methods d.methods → position (is_main Passing d) d.methods ≡ position (is_main Source c) c.methods
place_same c d k all =
    position_from-zero (is_main Passing d) d.methods ∙ from_same c d 0 c.methods d.methods k (λ j x at. (j, at)) all ∙ sym (position_from-zero (is_main Source c) c.methods)

-- ---- in any class

found_main : (p : Program) → AllMoving p → (a b : Option Class) → SameFound p a b → main_in Passing b ≡ main_in Source a
found_main p all None None h = refl
found_main p all None (Some k) h = absurd h
found_main p all (Some (User i c)) None h = absurd h
found_main p all (Some (User i c)) (Some (User j d)) h =
    let one = all i c d h.1 in
    ap (λ (n : ℕ). option_map (method_id n) (position (is_main Passing d) d.methods)) (sym h.0) ∙ ap (option_map (method_id i)) (place_same c d one.0 one.1)
found_main p all (Some (User i c)) (Some (Lib l)) h = absurd h
found_main p all (Some (Lib l)) None h = absurd h
found_main p all (Some (Lib l)) (Some (User j d)) h = absurd h
found_main p all (Some (Lib l)) (Some (Lib k)) h = refl

module _ (p : Program) (is : IsPlain p) (all : AllMoving p) where
  plain_main : (name : List ℕ) → is_reserved name ≡ false → main_of (moved p) name ≡ main_of p name
  unfolding main_of
  plain_main name plain =
      ap (λ (s : Side). main_in s (find (moved p) name)) (moved_side p)
      ∙ found_main p all (find p name) (find (moved p) name) (same p is name plain)
      ∙ ap (λ (s : Side). main_in s (find p name)) (sym is.source)

  pub main_same : (name : List ℕ) → main_of (moved p) name ≡ main_of p name
  main_same name = either_name {P = λ c. main_of (moved p) c ≡ main_of p c} plain_main (λ c kept. kept_main p is c kept) name (is_reserved name) refl
