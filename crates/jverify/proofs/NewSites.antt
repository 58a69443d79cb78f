-- The `new`s of a method, by number and by name.
use Rattle.std.proofs.Common.{◌≡◌, ℕ, Bool, true, false, cond, List, map, length, Option, Some, None, refl, sym, ap, ◌∙◌, ltb-false}
use Rattle.std.specs.Borrow.{Bor}
use Rattle.std.specs.Prelude.{slice_get, nat_lt, option_and_then, option_map, ◌==◌}
use Rattle.std.specs.List.{find, position, position_or_len}
use Rattle.std.proofs.lemmas.List.Folds.{find_at}
use Rattle.std.proofs.lemmas.Option.{slice_get-map, slice_get_past}
use Rattle.jparts.specs.declared.jpool.entry.Entry.{Entry}
use Rattle.jparts.specs.declared.jcode.op_form.OpForm.{OpForm}
use Rattle.jparts.specs.declared.jcode.op_form.OpForm.TheVariants as forms
use Rattle.jparts.specs.declared.jcode.op.Placed.{Placed}
use Rattle.jparts.specs.declared.jcode.op.Switch.{Switch}
use Rattle.jparts.specs.jcode.InstructionForms.{form, seen}
use Rattle.jparts.specs.jcode.Instructions.{place_of}
use Rattle.jtypes.specs.declared.vtype.Name.{Name}
use Rattle.jresolution.specs.declared.jprogram.part.ClassRef.{ClassRef}
use Rattle.jresolution.specs.jprogram.ProgramClasses.{Program}
use Rattle.jresolution.specs.juses.InternedTypes.{class_named}
use Rattle.jtyping.specs.jwelltyped.MethodPremises.{made, made_in}
use Rattle.jverify.specs.NewInstructions.{AreNews, Made, made_at, or_none}

-- how a switch is lent doesn't count
pub made_seen : (p : Program) (entries : List Entry) (f : OpForm (Bor Switch)) → made p entries (seen f) ≡ made p entries f
made_seen p entries (forms.Simple f) = refl
made_seen p entries (forms.Local f) = refl
made_seen p entries (forms.Stack f) = refl
made_seen p entries (forms.Flow f) = refl
made_seen p entries (forms.Array f) = refl
made_seen p entries (forms.Pool f) = refl

-- ---- by place

found_at : {A : Type 0} (test : A → Bool) (xs : List A) (b : Bool) → nat_lt (position_or_len test xs) (length xs) ≡ b → slice_get xs (position_or_len test xs) ≡ option_and_then (slice_get xs) (cond b (Some (position_or_len test xs)) None)
found_at test xs true e = refl
found_at test xs false e = slice_get_past xs (position_or_len test xs) (ltb-false (position_or_len test xs) (length xs) e)

found : {A : Type 0} (test : A → Bool) (xs : List A) → find test xs ≡ option_and_then (slice_get xs) (position test xs)
found test xs = find_at test xs ∙ found_at test xs (nat_lt (position_or_len test xs) (length xs)) refl

named_alike : (name : ClassRef → Name) (make : Placed → Option Name) (a : Option (Option ClassRef)) (o : Option Placed) → option_map (option_map name) a ≡ option_map make o → option_map name (or_none a) ≡ option_and_then make o
named_alike name make None None e = refl
named_alike name make None (Some o) e = absurd cc
named_alike name make (Some a) None e = absurd cc
named_alike name make (Some a) (Some o) e = cc

at_number : (name : ClassRef → Name) (make : Placed → Option Name) (refs : List (Option ClassRef)) (ops : List Placed) (i : ℕ) → map (option_map name) refs ≡ map make ops → option_map (option_map name) (slice_get refs i) ≡ option_map make (slice_get ops i)
at_number name make refs ops i e = sym (slice_get-map (option_map name) refs i) ∙ ap (λ (xs : List (Option Name)). slice_get xs i) e ∙ slice_get-map make ops i

at_position : (name : ClassRef → Name) (make : Placed → Option Name) (refs : List (Option ClassRef)) (ops : List Placed) (o : Option ℕ) → map (option_map name) refs ≡ map make ops
    → option_map name (option_and_then (λ i. or_none (slice_get refs i)) o) ≡ option_and_then make (option_and_then (slice_get ops) o)
at_position name make refs ops None e = refl
at_position name make refs ops (Some i) e = named_alike name make (slice_get refs i) (slice_get ops i) (at_number name make refs ops i e)

pub made_there : (p : Program) (entries : List Entry) (n : Made) → map (option_map (class_named p)) n.made ≡ map (λ one. made p entries (form one.op)) n.ops → AreNews p entries n.ops (made_at n)
unfolding made_in
made_there p entries n e at =
    at_position (class_named p) (λ one. made p entries (form one.op)) n.made n.ops (place_of n.ops at) e
    ∙ sym (ap (option_and_then (λ one. made p entries (form one.op))) (found (λ one. one.at == at) n.ops))
