-- Classes by number, upwards: two are one where their names are one, and the walk by numbers is the chain of names.
use Rattle.std.proofs.Common.{◌≡◌, ◌∙◌, ℕ, zero, suc, ◌+◌, ◌-◌, ◌<◌, ◌≤◌, ◌||◌, Bool, true, false, List, ◌∷◌, length, Option, Some, None, refl, sym, ap, arith}
use Rattle.std.specs.Prelude.{option_and_then, option_map, slice_get}
use Rattle.std.specs.List.{list_any}
use Rattle.std.specs.Str.{bytes_eq}
use Rattle.std.proofs.lemmas.Option.{slice_get_past}
use Rattle.std.proofs.lemmas.Slice.Eq.{bytes_eq-Decides}
use Rattle.jlib.specs.declared.classes.LibClass.{LibClass}
use Rattle.jlib.specs.LibraryClasses as library
use Rattle.jlib.proofs.LibraryLookup.{class_above}
use Rattle.jresolution.specs.declared.jprogram.part.ClassRef.{ClassRef}
use Rattle.jresolution.specs.declared.jprogram.part.ClassRef.TheVariants as refs
use Rattle.jresolution.specs.declared.jprogram.part.CodePart.{CodePart}
use Rattle.jresolution.specs.jprogram.ProgramClasses as classes
use Rattle.jresolution.specs.jprogram.ProgramClasses.{Class, Lib, Program, User, above, above_name, chain, class_at, find, holds, is_interface, name_at, onward, ref_of, super_at, tree, up, user_at}
use Rattle.jresolution.specs.jprogram.ImplementedInterfaces.{IsNumber}
use Rattle.jresolution.specs.jprogram.OrderedPrograms.{StandsInOrder}
use Rattle.jresolution.proofs.JprogramProofs.Chains.{chain_at, chain_end}
use Rattle.jresolution.proofs.JprogramProofs.InterfaceSearch.{some_is}
use Rattle.jresolution.proofs.JprogramProofs.ClassNumbers.{library_number, number_found, number_name}
use Rattle.jresolution.proofs.JprogramProofs.ImplementationRows.{lib_number_found}
use Rattle.jresolution.proofs.JprogramProofs.ClassHeights.{Libs, Nowhere, Stands, Users, stands}
use Rattle.jresolution.specs.juses.InternedTypes.{class_named}
use Rattle.jserving.specs.declared.jfits.lines.Line.{Line}
use Rattle.jserving.specs.jfits.SubtypeTables.{AreLines}

no_ref : (r : ClassRef) → None ≡ Some r → ⊥
no_ref r e = cc

no_user : (l : LibClass) (i : ℕ) → Some (refs.Lib l) ≡ Some (refs.User i) → ⊥
no_user l i e = cc

user_is : (j i : ℕ) → Some (refs.User j) ≡ Some (refs.User i) → j ≡ i
user_is j i e = cc

clash : false ≡ true → ⊥
clash e = cc

module _ (p : Program) where
  -- ---- numbers of the program's classes

  pub lib_known : StandsInOrder p → (c : LibClass) → library.stands_on p.side c ≡ true → IsNumber p (refs.Lib c)
  lib_known good c on = number_found p (library.name_of c) (refs.Lib c) (library_number p c good on)

  -- ---- two classes

  one_named : (c d : ClassRef) → IsNumber p c → IsNumber p d → name_at p d ≡ name_at p c → c ≡ d
  one_named c d kc kd e = some_is c d (sym kc ∙ ap (λ (n : List ℕ). option_map ref_of (find p n)) (sym e) ∙ kd)

  pub one_if : (c d : ClassRef) → c ≡ d → true ≡ bytes_eq (name_at p d) (name_at p c)
  one_if c d e = sym ((bytes_eq-Decides (name_at p d) (name_at p c)).1 (ap (name_at p) (sym e)))

  apart_by : (c d : ClassRef) → IsNumber p c → IsNumber p d → (c ≡ d → ⊥) → (b : Bool) → bytes_eq (name_at p d) (name_at p c) ≡ b → false ≡ b
  apart_by c d kc kd apart false e = refl
  apart_by c d kc kd apart true e = absurd (apart (one_named c d kc kd ((bytes_eq-Decides (name_at p d) (name_at p c)).0 e)))

  pub two_if : (c d : ClassRef) → IsNumber p c → IsNumber p d → (c ≡ d → ⊥) → false ≡ bytes_eq (name_at p d) (name_at p c)
  two_if c d kc kd apart = apart_by c d kc kd apart (bytes_eq (name_at p d) (name_at p c)) refl

  -- ---- the class of a number is that of its name

  user_found : (i : ℕ) (n : List ℕ) → Stands p n → option_map ref_of (find p n) ≡ Some (refs.User i) → find p n ≡ user_at p i
  user_found i n (Users j part at called is) e =
      is ∙ sym (ap (λ (o : Option CodePart). option_map (λ (x : CodePart). User j x.class) o) at) ∙ ap (user_at p) (user_is j i (sym (ap (option_map ref_of) is) ∙ e))
  user_found i n (Libs l known is) e = absurd (no_user l i (sym (ap (option_map ref_of) is) ∙ e))
  user_found i n (Nowhere none) e = absurd (no_ref (refs.User i) (sym (ap (option_map ref_of) none) ∙ e))

  found : (c : ClassRef) → IsNumber p c → find p (name_at p c) ≡ class_at p c
  found (refs.User i) known = user_found i (name_at p (refs.User i)) (stands p (name_at p (refs.User i))) known
  found (refs.Lib c) known = lib_number_found p c known

  -- ---- one step upwards

  super_by : (c : ClassRef) → IsNumber p c → super_at p c ≡ option_map ref_of (option_and_then (find p) (above_name p (name_at p c)))
  super_by c known = ap (λ (o : Option Class). option_map ref_of (option_and_then (find p) (option_and_then above o))) (sym (found c known))

  step_by : (o : Option (List ℕ)) (s : ClassRef) → option_map ref_of (option_and_then (find p) o) ≡ Some s → (o ≡ Some (name_at p s)) × IsNumber p s
  step_by None s e = absurd (no_ref s e)
  step_by (Some n) s e = (ap (λ (m : List ℕ). Some m) (sym (number_name p n s e)), number_found p n s e)

  step : (c s : ClassRef) → IsNumber p c → super_at p c ≡ Some s → (above_name p (name_at p c) ≡ Some (name_at p s)) × IsNumber p s
  step c s known e = step_by (above_name p (name_at p c)) s (sym (super_by c known) ∙ e)

  -- the library's
  lib_super : (o : Option LibClass) → ((s : LibClass) → o ≡ Some s → option_map ref_of (find p (library.name_of s)) ≡ Some (refs.Lib s))
      → option_map (λ (s : LibClass). refs.Lib s) o ≡ option_map ref_of (option_and_then (find p) (option_map library.name_of o))
  lib_super None h = refl
  lib_super (Some s) h = sym (h s refl)

  above_lib : StandsInOrder p → (c : LibClass) → option_map (λ (s : LibClass). refs.Lib s) (library.superclass c) ≡ super_at p (refs.Lib c)
  above_lib good c = lib_super (library.superclass c) (λ s e. library_number p s good (class_above p.side c s e).1)

  pub above_some : StandsInOrder p → (c : ClassRef) (l s : LibClass) (o : Option LibClass) → c ≡ refs.Lib l → o ≡ library.superclass l → o ≡ Some s → Some (refs.Lib s) ≡ super_at p c
  above_some good c l s o is by at =
      ap (option_map (λ (x : LibClass). refs.Lib x)) (sym at ∙ by) ∙ above_lib good l ∙ ap (super_at p) (sym is)

  -- ---- interfaces

  pub none_face : (c : ClassRef) (i : ℕ) (lines xs : List Line) → IsNumber p c → c ≡ refs.User i → AreLines p lines → xs ≡ lines → length xs ≤ i
      → false ≡ (tree p).is_interface (class_named p c)
  none_face c i lines xs known is kept same past =
      let size = kept.count in
      let few = ap length same in
      let none : slice_get p.parts i ≡ None = slice_get_past p.parts i (omega (arith, past, size, few)) in
      let gone : class_at p c ≡ None = ap (class_at p) is ∙ ap (λ (o : Option CodePart). option_map (λ (x : CodePart). User i x.class) o) none in
      sym (ap (holds is_interface) (found c known ∙ gone))

  pub lib_face : (c : LibClass) → IsNumber p (refs.Lib c) → library.is_interface c ≡ (tree p).is_interface (class_named p (refs.Lib c))
  lib_face c known = sym (ap (holds is_interface) (lib_number_found p c known))

  -- ---- the walk

  map_none : (o : Option Class) → option_map ref_of o ≡ None → o ≡ None
  map_none None e = refl
  map_none (Some c) e = absurd cc

  unlike : (d n : List ℕ) (x : ClassRef) → option_map ref_of (find p d) ≡ Some x → find p n ≡ None → (b : Bool) → bytes_eq d n ≡ b → (b || false) ≡ false
  unlike d n x is gone false e = refl
  unlike d n x is gone true e =
      absurd (no_ref x (sym (ap (option_map ref_of) (ap (find p) ((bytes_eq-Decides d n).0 e) ∙ gone)) ∙ is))

  end_by : (m : ℕ) (d : List ℕ) (x : ClassRef) (o : Option (List ℕ)) → option_map ref_of (find p d) ≡ Some x
      → option_map ref_of (option_and_then (find p) o) ≡ None → list_any (bytes_eq d) (onward (chain p m) o) ≡ false
  unfolding chain
  end_by m d x None is none = refl
  end_by zero d x (Some n) is none = refl
  end_by (suc m) d x (Some n) is none =
      let gone : find p n ≡ None = map_none (find p n) none in
      ap (λ (o : Option Class). list_any (bytes_eq d) (n ∷ onward (chain p m) (option_and_then above o))) gone ∙ unlike d n x is gone (bytes_eq d n) refl

  abbrev Walk : ℕ → List ℕ → ClassRef → Bool
  Walk n d c = list_any (bytes_eq d) (chain p n (name_at p c))

  or_true : (a b : Bool) → a ≡ true → (a || b) ≡ true
  or_true true b e = refl
  or_true false b e = absurd (clash e)

  or_false : (a b : Bool) → a ≡ false → (a || b) ≡ b
  or_false false b e = refl
  or_false true b e = absurd (clash (sym e))

  module _ (n i : ℕ) (c d at : ClassRef) (size : n ≡ length (classes.known p) + 1) (kept : Walk (n - i) (name_at p d) at ≡ Walk n (name_at p d) c) where
    all : Walk n (name_at p d) c ≡ list_any (bytes_eq (name_at p d)) (up p (name_at p c))
    all = ap (λ (m : ℕ). Walk m (name_at p d) c) size

    module _ (left : i < n) (b : Bool) (same : b ≡ bytes_eq (name_at p d) (name_at p at)) where
      first : Walk (n - i) (name_at p d) at ≡ (b || list_any (bytes_eq (name_at p d)) (onward (chain p (n - (i + 1))) (above_name p (name_at p at))))
      first = ap (list_any (bytes_eq (name_at p d))) (chain_at p n i (name_at p at) left)
          ∙ ap (λ (x : Bool). x || list_any (bytes_eq (name_at p d)) (onward (chain p (n - (i + 1))) (above_name p (name_at p at)))) (sym same)

      pub walk_found : b ≡ true → true ≡ list_any (bytes_eq (name_at p d)) (up p (name_at p c))
      walk_found is = sym (or_true b _ is) ∙ sym first ∙ kept ∙ all

      module _ (isnt : b ≡ false) (known : IsNumber p at) (o : Option ClassRef) (above : o ≡ super_at p at) where
        pub walk_ends : IsNumber p d → o ≡ None → false ≡ list_any (bytes_eq (name_at p d)) (up p (name_at p c))
        walk_ends sought none =
            sym (end_by (n - (i + 1)) (name_at p d) d (above_name p (name_at p at)) sought (sym (super_by at known) ∙ sym above ∙ none))
            ∙ sym (or_false b _ isnt) ∙ sym first ∙ kept ∙ all

        pub walk_goes_on : (s : ClassRef) → o ≡ Some s
            → (n ≡ length (classes.known p) + 1) × (IsNumber p s × (Walk (n - (i + 1)) (name_at p d) s ≡ Walk n (name_at p d) c))
        walk_goes_on s is =
            let up_one = step at s known (sym above ∙ is) in (
              size,
              (
                up_one.1,
                ap (λ (x : Option (List ℕ)). list_any (bytes_eq (name_at p d)) (onward (chain p (n - (i + 1))) x)) (sym up_one.0)
                    ∙ sym (or_false b _ isnt) ∙ sym first ∙ kept,
              ),
            )

    pub walk_over : n ≤ i → false ≡ list_any (bytes_eq (name_at p d)) (up p (name_at p c))
    walk_over le = sym (ap (list_any (bytes_eq (name_at p d))) (chain_end p n i (name_at p at) le)) ∙ kept ∙ all
