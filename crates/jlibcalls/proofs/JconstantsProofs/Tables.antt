-- Tables of the constants that were made.
use Rattle.std.proofs.Common.{◌≡◌, ◌∙◌, ℕ, Bool, true, false, List, [], ◌∷◌, ◌++◌, Option, Some, None, refl, sym, ap, subst}
use Rattle.std.specs.Prelude.{is_some, if◌then◌else◌}
use Rattle.std.specs.BTreeMap as tree
use Rattle.std.specs.BTreeMap.{BTreeMap}
use Rattle.std.specs.Cmp.Lexicographic.{slice_cmp}
use Rattle.std.specs.Global.{Vec}
use Rattle.std.specs.Map.{lookup}
use Rattle.std.specs.Option.{option_or}
use Rattle.std.specs.Ordering.{nat_cmp}
use Rattle.std.specs.Str.{bytes_eq}
use Rattle.std.proofs.lemmas.List.{map-append}
use Rattle.std.proofs.lemmas.Slice.Eq.{bytes_eq-Decides}
use Rattle.jresolution.proofs.JprogramProofs.NameTables.{noted}
use Rattle.jresolution.specs.jprogram.ProgramClasses.{Program}
use Rattle.jresolution.specs.jprogram.NameTable.{place_at}
use Rattle.jsemantics.specs.jmachine.Store.{constant_at}
use Rattle.jlibcalls.specs.declared.jconstants.table.MadeText.{MadeText}
use Rattle.jlibcalls.specs.jconstants.StringConstants.{AreKnown, AreObjects, constant_of, constants_of, number_at, units_at}

-- ---- none

pub none_made : (objects : BTreeMap (Vec ℕ) ℕ) → tree.IsEmpty objects → AreObjects [] objects
none_made objects empty units = ap (lookup (tree.is_at (λ k. slice_cmp nat_cmp units k.items))) empty

-- ---- one more

abbrev here : List ℕ → ℕ → List ℕ → Option ℕ
here us o q = if bytes_eq us q then Some o else None

first_or : (b : Bool) (x : ℕ) (whole rest later : Option ℕ) → whole ≡ option_or rest later → (if b then Some x else whole) ≡ option_or (if b then Some x else rest) later
first_or true x whole rest later is = refl
first_or false x whole rest later is = is

-- what a list with one more has
more_at : (constants : List (List ℕ × ℕ)) (us : List ℕ) (o : ℕ) (q : List ℕ) → constant_at (constants ++ (us, o) ∷ []) q ≡ option_or (constant_at constants q) (here us o q)
more_at [] us o q = refl
more_at (c ∷ constants) us o q =
    first_or (bytes_eq c.0 q) c.1 (constant_at (constants ++ (us, o) ∷ []) q) (constant_at constants q) (here us o q) (more_at constants us o q)

pub more_objects : (constants : List (List ℕ × ℕ)) (us : List ℕ) (o : ℕ) (own : Vec ℕ) (old new : BTreeMap (Vec ℕ) ℕ) → own.items ≡ us → place_at old us ≡ None
    → tree.UpdatesBy (λ x y. slice_cmp nat_cmp x.items y.items) (λ k. slice_cmp nat_cmp own.items k.items) old new (Some o)
    → AreObjects constants old → AreObjects (constants ++ (us, o) ∷ []) new
more_objects constants us o own old new is none updates objects q =
    let absent : is_some (place_at old us) ≡ false = ap is_some none in
    noted us o own old new is absent updates q ∙ ap (λ k. option_or k (here us o q)) (objects q) ∙ sym (more_at constants us o q)

stays_at : (constants : List (List ℕ × ℕ)) (us : List ℕ) (o k : ℕ) (q : List ℕ) → constant_at constants q ≡ Some k → constant_at (constants ++ (us, o) ∷ []) q ≡ Some k
stays_at constants us o k q is = more_at constants us o q ∙ ap (λ x. option_or x (here us o q)) is

pub more_known : (p : Program) (constants : List (List ℕ × ℕ)) (us : List ℕ) (o : ℕ) (rows : List (List ℕ)) → AreKnown p constants rows → AreKnown p (constants ++ (us, o) ∷ []) rows
more_known p constants us o rows known class i some = stays_at constants us o (number_at rows class i) (units_at p class i) (known class i some)

-- the one that was made last
pub last_made : (constants : List (List ℕ × ℕ)) (us : List ℕ) (o : ℕ) → constant_at constants us ≡ None → constant_at (constants ++ (us, o) ∷ []) us ≡ Some o
last_made constants us o none =
    let same : bytes_eq us us ≡ true = (bytes_eq-Decides us us).1 refl in
    more_at constants us o us ∙ ap (λ x. option_or x (here us o us)) none ∙ rw same refl

pub one_more : (p : Program) (made : List MadeText) (one : MadeText) → constants_of p (made ++ one ∷ []) ≡ constants_of p made ++ constant_of p one ∷ []
one_more p made one = map-append (constant_of p) made (one ∷ [])

-- what a table keeps, with one more
pub put_kept : (p : Program) (old new : List MadeText) (one : MadeText) (us : List ℕ) (own : Vec ℕ) (objects next : BTreeMap (Vec ℕ) ℕ) (rows : List (List ℕ))
    → new ≡ old ++ one ∷ [] → own.items ≡ us → us ≡ units_at p one.class one.index → place_at objects us ≡ None
    → tree.UpdatesBy (λ x y. slice_cmp nat_cmp x.items y.items) (λ k. slice_cmp nat_cmp own.items k.items) objects next (Some one.object)
    → AreObjects (constants_of p old) objects → AreKnown p (constants_of p old) rows
    → AreObjects (constants_of p new) next × AreKnown p (constants_of p new) rows
put_kept p old new one us own objects next rows whole is spelled none updates held known =
    let all : constants_of p new ≡ constants_of p old ++ (units_at p one.class one.index, one.object) ∷ [] = ap (constants_of p) whole ∙ one_more p old one in
    rw all (
      more_objects (constants_of p old) (units_at p one.class one.index) one.object own objects next (is ∙ spelled)
          (subst (λ (t : List ℕ). place_at objects t ≡ None) spelled none) updates held,
      more_known p (constants_of p old) (units_at p one.class one.index) one.object rows known,
    )
