-- What a class implements, by what stands directly above it.
use Rattle.std.proofs.Common.{◌≡◌, ℕ, zero, suc, ◌<◌, ◌≤◌, ◌||◌, ◌&&◌, Bool, true, false, List, [], ◌∷◌, ◌++◌, length, Option, Some, None, refl, sym, ap, subst, ◌∙◌, arith}
use Rattle.std.specs.Prelude.{not, option_map}
use Rattle.std.specs.Option.{option_to_list}
use Rattle.std.specs.List.{flat_map, list_any, AllByRecursion}
use Rattle.std.specs.Str.{bytes_eq}
use Rattle.jlib.specs.declared.classes.LibClass.{LibClass}
use Rattle.jlib.specs.LibraryClasses as library
use Rattle.jlib.proofs.LibraryLookup.{class_implements}
use Rattle.jresolution.specs.jprogram.ClassFileParts as parts
use Rattle.jresolution.specs.jprogram.ClassFileParts.{class_text, super_name}
use Rattle.jresolution.specs.jprogram.ProgramClasses.{Class, Program, above_name, face_names, find, holds, implements, is_interface, known, object, onward, over, superinterfaces, up, faces_of}
use Rattle.jresolution.specs.jprogram.ProofNames.{is_no_interface}
use Rattle.jresolution.specs.jprogram.ImplementedInterfaces.{above_has}
use Rattle.jresolution.specs.jprogram.OrderedPrograms.{StandsInOrder}
use Rattle.jresolution.specs.jprogram.SuperChecks.{is_object, lists_a_class, super_barred}
use Rattle.jresolution.proofs.JprogramProofs.CycleSearch.{all_weaken}
use Rattle.jresolution.proofs.JprogramProofs.ClassHeights.{Stands, Users, Libs, Nowhere, all_behind, all_of_map, any_none, lib_find, lower_all, not_bad, not_none, not_taken, or_none, stands, tall, tall_most}
use Rattle.jresolution.proofs.JprogramProofs.SuperclassOrder.{face_above, object_find, object_up, up_is}

-- ---- lists

or_assoc : (a b c : Bool) → (a || (b || c)) ≡ ((a || b) || c)
or_assoc true b c = refl
or_assoc false b c = refl

any_append : {A : Type 0} (t : A → Bool) (xs ys : List A) → list_any t (xs ++ ys) ≡ (list_any t xs || list_any t ys)
any_append t [] ys = refl
any_append t (x ∷ xs) ys = ap (λ (b : Bool). t x || b) (any_append t xs ys) ∙ or_assoc (t x) (list_any t xs) (list_any t ys)

any_flat : {A B : Type 0} (t : B → Bool) (f : A → List B) (xs : List A) → list_any t (flat_map f xs) ≡ list_any (λ x. list_any t (f x)) xs
any_flat t f [] = refl
any_flat t f (x ∷ xs) = any_append t (f x) (flat_map f xs) ∙ ap (λ (b : Bool). list_any t (f x) || b) (any_flat t f xs)

any_same : {A : Type 0} (s t : A → Bool) (xs : List A) → AllByRecursion (λ x. s x ≡ t x) xs → list_any s xs ≡ list_any t xs
any_same s t [] all = refl
any_same s t (x ∷ xs) all = ap (λ (b : Bool). b || list_any s xs) all.0 ∙ ap (λ (b : Bool). t x || b) (any_same s t xs all.1)

pub or_no : (b : Bool) → (b || false) ≡ b
or_no true = refl
or_no false = refl

-- ---- interfaces

module _ (p : Program) (good : StandsInOrder p) where
  -- what a class lists is an interface
  abbrev pub IsFace : List ℕ → Type 0
  IsFace f = holds is_interface (find p f) ≡ true

  faces_at : (c : List ℕ) → Stands p c → AllByRecursion IsFace (face_names p c)
  faces_at c (Users i part at name is) =
      let rest = (or_none (super_barred p (super_name part.class)) (lists_a_class p part.class || (parts.is_interface part.class.flags && not (is_object (super_name part.class)))) (not_bad p good i part at)).1 in
      let none = (or_none (lists_a_class p part.class) (parts.is_interface part.class.flags && not (is_object (super_name part.class))) rest).0 in
      let all = any_none (λ k. is_no_interface p (class_text part.class.pool k)) part.class.interfaces none in
      subst (λ (o : Option Class). AllByRecursion (λ f. holds is_interface (find p f) ≡ true) (faces_of o)) (sym is)
      (all_of_map (λ f. holds is_interface (find p f) ≡ true) (class_text part.class.pool) part.class.interfaces
      (all_weaken (λ k. is_no_interface p (class_text part.class.pool k) ≡ false) (λ k. holds is_interface (find p (class_text part.class.pool k)) ≡ true) (λ k h. not_none (holds is_interface (find p (class_text part.class.pool k))) h) part.class.interfaces all))
  faces_at c (Libs l named is) = subst (λ (o : Option Class). AllByRecursion (λ f. holds is_interface (find p f) ≡ true) (faces_of o)) (sym is) (lib_faces (library.implemented l) refl)
    where
      lib_faces : (o : Option LibClass) → library.implemented l ≡ o → AllByRecursion (λ f. holds is_interface (find p f) ≡ true) (option_to_list (option_map library.name_of o))
      lib_faces None e = tt
      lib_faces (Some i) e = let h = class_implements p.side l i e in (ap (holds is_interface) (lib_find p (not_taken p good) i h.1) ∙ h.0, tt)
  faces_at c (Nowhere none) = subst (λ (o : Option Class). AllByRecursion (λ f. holds is_interface (find p f) ≡ true) (faces_of o)) (sym none) tt

  pub faces_are : (c : List ℕ) → AllByRecursion IsFace (face_names p c)
  faces_are c = faces_at c (stands p c)

  -- they are lower
  pub faces_lower : (c : List ℕ) → AllByRecursion (λ f. tall p f < tall p c) (face_names p c)
  faces_lower c = all_behind (λ s. tall p s < tall p c) (option_to_list (above_name p c)) (face_names p c) (lower_all p good c)

  module _ (i : List ℕ) where
    -- the interface is among those that a class lists, or among theirs, n of them deep
    Deep : ℕ → List ℕ → Bool
    Deep n c = list_any (bytes_eq i) (over p n (face_names p c))

    deep_next : (n : ℕ) (c : List ℕ) → Deep (suc n) c ≡ list_any (λ f. bytes_eq i f || Deep n f) (face_names p c)
    unfolding over Deep
    deep_next n c = any_flat (bytes_eq i) (λ f. f ∷ over p n (face_names p f)) (face_names p c)

    no_faces : (xs : List (List ℕ)) (n : ℕ) → n ≤ 0 → AllByRecursion (λ f. tall p f < n) xs → xs ≡ []
    no_faces [] n le all = refl
    no_faces (x ∷ xs) n le all = let lt = all.0 in absurd (omega (arith, le, lt))

    over_none : (n : ℕ) → list_any (bytes_eq i) (over p n []) ≡ false
    unfolding over
    over_none zero = refl
    over_none (suc n) = refl

    none_flat : (n : ℕ) (xs : List (List ℕ)) → xs ≡ [] → list_any (bytes_eq i) (over p n xs) ≡ false
    none_flat n xs e = ap (λ (ys : List (List ℕ)). list_any (bytes_eq i) (over p n ys)) e ∙ over_none n

    deep_none : (n : ℕ) (c : List ℕ) → tall p c ≤ 0 → Deep n c ≡ false
    unfolding Deep
    deep_none n c le = none_flat n (face_names p c) (no_faces (face_names p c) (tall p c) le (faces_lower c))

    -- as deep as the class is tall is deep enough
    deep_same : (n m : ℕ) (c : List ℕ) → tall p c ≤ n → tall p c ≤ m → Deep n c ≡ Deep m c
    deep_same zero m c ln lm = deep_none zero c ln ∙ sym (deep_none m c ln)
    deep_same (suc n) zero c ln lm = deep_none (suc n) c lm ∙ sym (deep_none zero c lm)
    deep_same (suc n) (suc m) c ln lm =
        deep_next n c
        ∙ any_same (λ f. bytes_eq i f || Deep n f) (λ f. bytes_eq i f || Deep m f) (face_names p c)
        (all_weaken (λ f. tall p f < tall p c) (λ f. (bytes_eq i f || Deep n f) ≡ (bytes_eq i f || Deep m f)) (λ f lt. ap (λ (b : Bool). bytes_eq i f || b) (deep_same n m f (omega (arith, ln, lt)) (omega (arith, lm, lt)))) (face_names p c) (faces_lower c))
        ∙ sym (deep_next m c)

    -- among the interfaces of a class, direct and through others
    abbrev Among : List ℕ → Bool
    Among c = list_any (bytes_eq i) (superinterfaces p c)

    among_deep : (c : List ℕ) → Among c ≡ Deep (length (known p)) c
    unfolding Deep
    among_deep c = refl

    among_next : (c : List ℕ) → Among c ≡ list_any (λ f. bytes_eq i f || Among f) (face_names p c)
    unfolding Deep
    among_next c =
        let most = tall_most p c in
        deep_same (length (known p)) (suc (length (known p))) c most (omega (arith, most)) ∙ deep_next (length (known p)) c

    -- ---- what a class implements

    above_among : Option (List ℕ) → Bool
    above_among o = list_any Among (onward (up p) o)

    by_up : (c : List ℕ) → implements p c i ≡ (Among c || above_among (above_name p c))
    unfolding implements above_among
    by_up c = ap (λ (xs : List (List ℕ)). list_any Among xs) (up_is p good c)

    object_none : Among object ≡ false
    object_none = among_next object ∙ ap (λ (o : Option Class). list_any (λ f. bytes_eq i f || Among f) (faces_of o)) (object_find p good)

    above_object : above_among (Some object) ≡ false
    unfolding above_among
    above_object = ap (λ (xs : List (List ℕ)). list_any Among xs) (object_up p good) ∙ ap (λ (b : Bool). b || false) object_none

    -- an interface implements what stands above it
    face_among : (f : List ℕ) → IsFace f → implements p f i ≡ Among f
    face_among f h = by_up f ∙ ap (λ (o : Option (List ℕ)). Among f || above_among o) (face_above p good f h) ∙ ap (λ (b : Bool). Among f || b) above_object ∙ or_no (Among f)

    above_same : (o : Option (List ℕ)) → above_among o ≡ above_has p i o
    unfolding above_among implements
    above_same None = refl
    above_same (Some a) = refl

    -- what it lists, what these implement, and what the class above implements
    pub implements_next : (c : List ℕ) → implements p c i ≡ (list_any (λ f. bytes_eq i f || implements p f i) (face_names p c) || above_has p i (above_name p c))
    implements_next c =
        by_up c
        ∙ ap (λ (b : Bool). b || above_among (above_name p c)) (among_next c)
        ∙ ap (λ (b : Bool). b || above_among (above_name p c))
        (any_same (λ f. bytes_eq i f || Among f) (λ f. bytes_eq i f || implements p f i) (face_names p c) (all_weaken IsFace (λ f. (bytes_eq i f || Among f) ≡ (bytes_eq i f || implements p f i)) (λ f h. ap (λ (b : Bool). bytes_eq i f || b) (sym (face_among f h))) (face_names p c) (faces_are c)))
        ∙ ap (λ (b : Bool). list_any (λ f. bytes_eq i f || implements p f i) (face_names p c) || b) (above_same (above_name p c))
