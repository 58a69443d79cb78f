-- The statics of a program in one list: their texts and their values.
use Rattle.std.proofs.Common.{◌≡◌, ℕ, List, [], ◌∷◌, ◌++◌, map, Option, Some, None, refl, sym, ap, ◌∙◌}
use Rattle.std.specs.List.{cons_option, filter_map, flat_map}
use Rattle.std.proofs.lemmas.List.{map-append}
use Rattle.jclass.specs.declared.class.MemberInfo.{MemberInfo}
use Rattle.jvalues.specs.declared.jops.value.Value.{Value}
use Rattle.jresolution.specs.declared.jprogram.part.CodePart.{CodePart}
use Rattle.jresolution.specs.jprogram.ProgramClasses.{Program}
use Rattle.jresolution.specs.jlayout.FieldLayout.{statics_of}
use Rattle.jresolution.specs.jlayout.InternedFields.{all_statics}
use Rattle.jsemantics.specs.jmachine.OpeningState.{constant_of, first_value, string_in, strings_in, values_in}

-- ---- lists

cons_append : {A : Type 0} (o : Option A) (xs ys : List A) → cons_option o (xs ++ ys) ≡ cons_option o xs ++ ys
cons_append None xs ys = refl
cons_append (Some x) xs ys = refl

pub filter_append : {A B : Type 0} (f : A → Option B) (xs ys : List A) → filter_map f (xs ++ ys) ≡ filter_map f xs ++ filter_map f ys
filter_append f [] ys = refl
filter_append f (x ∷ xs) ys = ap (cons_option (f x)) (filter_append f xs ys) ∙ cons_append (f x) (filter_map f xs) (filter_map f ys)

filter_map_map : {A B C : Type 0} (f : B → Option C) (g : A → B) (xs : List A) → filter_map f (map g xs) ≡ filter_map (λ x. f (g x)) xs
filter_map_map f g [] = refl
filter_map_map f g (x ∷ xs) = ap (cons_option (f (g x))) (filter_map_map f g xs)

map_map : {A B C : Type 0} (f : B → C) (g : A → B) (xs : List A) → map f (map g xs) ≡ map (λ x. f (g x)) xs
map_map f g [] = refl
map_map f g (x ∷ xs) = ap (λ (l : List _). f (g x) ∷ l) (map_map f g xs)

-- ---- the statics of all classes

abbrev pub string_of : CodePart × MemberInfo → Option (List ℕ)
string_of x = string_in x.0.class (constant_of x.0.class x.1)

abbrev pub value_of : Program → List (List ℕ × ℕ) → CodePart × MemberInfo → Value ℕ
value_of p made x = first_value p made x.0.class x.1

abbrev own : CodePart → List (CodePart × MemberInfo)
own part = map (λ (m : MemberInfo). (part, m)) (statics_of part)

strings_flat : (parts : List CodePart) → flat_map strings_in parts ≡ filter_map string_of (flat_map own parts)
strings_flat [] = refl
strings_flat (part ∷ parts) =
    ap (λ (l : List (List ℕ)). strings_in part ++ l) (strings_flat parts)
    ∙ ap (λ (l : List (List ℕ)). l ++ filter_map string_of (flat_map own parts)) (sym (filter_map_map string_of (λ (m : MemberInfo). (part, m)) (statics_of part)))
    ∙ sym (filter_append string_of (own part) (flat_map own parts))

pub all_strings : (p : Program) → flat_map strings_in p.parts ≡ filter_map string_of (all_statics p)
all_strings p = strings_flat p.parts

values_flat : (p : Program) (made : List (List ℕ × ℕ)) (parts : List CodePart) → flat_map (values_in p made) parts ≡ map (value_of p made) (flat_map own parts)
values_flat p made [] = refl
values_flat p made (part ∷ parts) =
    ap (λ (l : List (Value ℕ)). values_in p made part ++ l) (values_flat p made parts)
    ∙ ap (λ (l : List (Value ℕ)). l ++ map (value_of p made) (flat_map own parts)) (sym (map_map (value_of p made) (λ (m : MemberInfo). (part, m)) (statics_of part)))
    ∙ sym (map-append (value_of p made) (own part) (flat_map own parts))

pub all_values : (p : Program) (made : List (List ℕ × ℕ)) → flat_map (values_in p made) p.parts ≡ map (value_of p made) (all_statics p)
all_values p made = values_flat p made p.parts
