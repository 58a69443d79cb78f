-- The laws of types, frames and stack maps as formats.
use Rattle.std.proofs.Common.{◌≡◌, ℕ, ◌&&◌, eqb, ltb, true, List, [], ◌∷◌, ◌++◌, length, Option, Some, None, Ok, refl, sym, ap, subst, ◌∙◌, arith}
use Rattle.std.specs.Prelude.{IsTrue}
use Rattle.std.specs.Int.{w16, to_be_bytes}
use Rattle.std.specs.List.{flat_map, list_all}
use Rattle.std.proofs.lemmas.List.Concat.{flat_map-cons}
use Rattle.std.proofs.lemmas.Bool.{eqb-true}
use Rattle.jground.specs.declared.jformat.error.Fault.{Fault}
use Rattle.jground.specs.jformat.Format.{IsBytes, Format, number, ◌·◌}
use Rattle.jground.specs.jformat.BodyFormats.{counted}
use Rattle.jground.specs.jformat.UnionFormats.{IsOnce}
use Rattle.jground.specs.jformat.TagTables.{rows}
use Rattle.jground.specs.ProofNames.{row_spell, row_fits}
use Rattle.jground.proofs.JformatProofs.ReadingSteps.{ok_is, both, first_true, second_true}
use Rattle.jground.proofs.JformatProofs.FormatLaws.{Takes, IsFormat, wide16, number_law, pair_law, via_law}
use Rattle.jground.proofs.JformatProofs.Blocks.{IsBody, whole_law, counted_law}
use Rattle.jground.proofs.JformatProofs.Unions.{rows_law}
use Rattle.jground.proofs.JformatProofs.UnionCases.{IsCases, case_law, sole_law, either_law, union_law}
use Rattle.jparts.specs.declared.jmaps.fault.Kinds.{Kinds}
use Rattle.jparts.specs.declared.jmaps.types.MapType.{MapType}
use Rattle.jparts.specs.declared.jmaps.types.MapType.TheVariants.{Top, Int, Long, Null, UninitThis, Uninit, Object}
use Rattle.jparts.specs.declared.jmaps.types.RawFrame.{RawFrame}
use Rattle.jparts.specs.declared.jmaps.types.Number.{Number}
use Rattle.jparts.specs.declared.jmaps.types.Number.TheVariants.{Given, Written}
use Rattle.jparts.specs.declared.jmaps.types.Row.{Row}
use Rattle.jparts.specs.jmaps.StackMapFormat.{alone, tag, type_cases, no_type, map_type, row, given, part, body, frame, frames, map_kinds, maps}
use Rattle.jparts.specs.ProofNames.{or_kind}

-- ---- names for what definitions say in place

abbrev class_of : MapType → Option ℕ
class_of = elim [ Object n ↦ Some n | _ ↦ None ]

abbrev new_of : MapType → Option ℕ
new_of = elim [ Uninit n ↦ Some n | _ ↦ None ]

type_once : {K : Type 0} (cut : K) (a : MapType) → IsOnce (type_cases cut) a
type_once cut Top = (refl, refl)
type_once cut Int = (refl, refl)
type_once cut Long = (refl, refl)
type_once cut Null = (refl, refl)
type_once cut UninitThis = (refl, refl)
type_once cut (Object n) = (refl, refl)
type_once cut (Uninit n) = (refl, refl)

alone_law : {K : Type 0} (one : MapType) → IsCases (alone {K = K} one)
alone_law one = let same : eqb (tag one) (tag one) ≡ true = grind arith in sole_law (λ other. eqb (tag other) (tag one)) same

cases_law : {K : Type 0} (cut : K) → IsCases (type_cases cut)
cases_law cut =
    either_law refl (alone_law Top)
    (either_law refl (alone_law Int)
    (either_law refl (alone_law Long)
    (either_law refl (alone_law Null)
    (either_law refl (alone_law UninitThis)
    (either_law refl (case_law class_of (λ p. refl) (number_law w16 cut wide16))
    (case_law new_of (λ p. refl) (number_law w16 cut wide16)))))))

pub type_law : {K : Type 0} (kinds : Kinds K) → IsFormat (map_type kinds)
unfolding map_type
type_law kinds = union_law kinds.truncated (no_type kinds) (type_cases kinds.truncated) (type_once kinds.truncated) (cases_law kinds.truncated)

given_takes : {K : Type 0} (n : ℕ) (bytes : List ℕ) (x : ℕ × List ℕ) → IsBytes bytes → (given {K = K} n).read bytes ≡ Ok x → Takes (given {K = K} n).spell (given {K = K} n).fits bytes x
given_takes {K} n bytes x fits e =
    let made : ℕ × List ℕ = (n, bytes) in
    let same : IsTrue ((given {K = K} n).fits n) = grind arith in
    let all : Takes (given {K = K} n).spell (given {K = K} n).fits bytes made = record { parts = refl; rest_fits = fits; fit = same } in
    subst (λ (y : ℕ × List ℕ). Takes (given {K = K} n).spell (given {K = K} n).fits bytes y) (ok_is (Fault K) made x e) all

given_law : {K : Type 0} (n : ℕ) → IsFormat (given {K = K} n)
given_law {K} n = record {
  takes = given_takes {K = K} n;
  again = λ x rest fit. let same : x ≡ n = eqb-true _ _ fit in ap (λ (y : ℕ). Ok (y, rest)) (sym same);
  reading = record {
    within = λ bytes d e. absurd cc;
    shorter = λ bytes x e. let made : ℕ × List ℕ = (n, bytes) in rw (sym (ok_is (Fault K) made x e)) (omega arith);
  };
}

part_law : {K : Type 0} (cut : K) (how : Number) → IsFormat (part cut how)
part_law cut (Given n) = given_law n
part_law cut Written = number_law w16 cut wide16

body_law : {K : Type 0} (cut : K) (item : Format K MapType) → IsFormat item → (r : Row) → IsFormat (body cut item r)
body_law cut item I r =
    let locals = counted_law (part cut r.locals) item (part_law cut r.locals) I in
    let stack = counted_law (part cut r.stack) item (part_law cut r.stack) I in
    pair_law (part cut r.delta) (counted (part cut r.locals) item · counted (part cut r.stack) item) (part_law cut r.delta) (pair_law (counted (part cut r.locals) item) (counted (part cut r.stack) item) locals stack)

pub frame_law : {K : Type 0} (kinds : Kinds K) (item : Format K MapType) → IsFormat item → IsFormat (frame kinds item)
unfolding frame
frame_law kinds item I = via_law _ _ (rows kinds.truncated (λ t. or_kind kinds.reserved (row t)) (body kinds.truncated item)) (λ p fit. refl) (λ f fit. refl)
    (rows_law kinds.truncated (λ t. or_kind kinds.reserved (row t)) (body kinds.truncated item) (body_law kinds.truncated item I))

pub frames_law : {K : Type 0} (kinds : Kinds K) (item : Format K MapType) → IsFormat item → IsBody (frames kinds item)
unfolding frames
frames_law kinds item I = whole_law kinds.trailing (counted (number w16 kinds.truncated) (frame kinds item)) (counted_law (number w16 kinds.truncated) (frame kinds item) (number_law w16 kinds.truncated wide16) (frame_law kinds item I))

pub maps_law : IsBody maps
unfolding maps
maps_law = frames_law map_kinds (map_type map_kinds) (type_law map_kinds)

-- ---- under other names of faults, with another test of the items

part_spelling : {K L : Type 0} (k : K) (l : L) (how : Number) (n : ℕ) → (part k how).spell n ≡ (part l how).spell n
part_spelling k l (Given m) n = refl
part_spelling k l Written n = refl

part_fitting : {K L : Type 0} (k : K) (l : L) (how : Number) (n : ℕ) → (part k how).fits n ≡ (part l how).fits n
part_fitting k l (Given m) n = refl
part_fitting k l Written n = refl

row_spelling : {K L : Type 0} (k k' : K) (l l' : L) (f : Format K MapType) (g : Format L MapType) → f.spell ≡ g.spell → (t : ℕ) (a : ℕ × (List MapType × List MapType)) (o : Option Row)
    → row_spell (body k f) t a (or_kind k' o) ≡ row_spell (body l g) t a (or_kind l' o)
row_spelling k k' l l' f g same t a None = refl
row_spelling k k' l l' f g same t a (Some r) =
    rw (part_spelling k l r.delta a.0, part_spelling k l r.locals (length a.1.0), part_spelling k l r.stack (length a.1.1))
    (ap (λ (s : MapType → List ℕ). t ∷ ((part l r.delta).spell a.0 ++ (((part l r.locals).spell (length a.1.0) ++ flat_map s a.1.0) ++ ((part l r.stack).spell (length a.1.1) ++ flat_map s a.1.1)))) same)

frame_spelling : {K L : Type 0} (k : Kinds K) (l : Kinds L) (f : Format K MapType) (g : Format L MapType) → f.spell ≡ g.spell → (x : RawFrame) → (frame k f).spell x ≡ (frame l g).spell x
unfolding frame
frame_spelling k l f g same x = row_spelling k.truncated k.reserved l.truncated l.reserved f g same x.form (x.delta, (x.locals, x.stack)) (row x.form)

all_spelling : {K L : Type 0} (k : Kinds K) (l : Kinds L) (f : Format K MapType) (g : Format L MapType) → f.spell ≡ g.spell → (xs : List RawFrame) → flat_map (frame k f).spell xs ≡ flat_map (frame l g).spell xs
all_spelling k l f g same [] = refl
all_spelling k l f g same (x ∷ xs) = rw (flat_map-cons (frame k f).spell x xs, flat_map-cons (frame l g).spell x xs, frame_spelling k l f g same x, all_spelling k l f g same xs) refl

-- The spelling is the same.
pub frames_spelling : {K L : Type 0} (k : Kinds K) (l : Kinds L) (f : Format K MapType) (g : Format L MapType) → f.spell ≡ g.spell → (xs : List RawFrame) → (frames k f).spell xs ≡ (frames l g).spell xs
unfolding frames
frames_spelling k l f g same xs = ap (λ (t : List ℕ). to_be_bytes w16 (length xs) ++ t) (all_spelling k l f g same xs)

items_fit : {K L : Type 0} (f : Format K MapType) (g : Format L MapType) → ((t : MapType) → IsTrue (f.fits t) → IsTrue (g.fits t)) → (xs : List MapType) → IsTrue (list_all f.fits xs) → IsTrue (list_all g.fits xs)
items_fit f g looser [] fit = refl
items_fit f g looser (x ∷ xs) fit = both _ _ (looser x (first_true (f.fits x) (list_all f.fits xs) fit)) (items_fit f g looser xs (second_true (f.fits x) (list_all f.fits xs) fit))

row_fitting : {K L : Type 0} (k k' : K) (l l' : L) (f : Format K MapType) (g : Format L MapType) → ((t : MapType) → IsTrue (f.fits t) → IsTrue (g.fits t)) → (a : ℕ × (List MapType × List MapType)) (o : Option Row)
    → IsTrue (row_fits (body k f) a (or_kind k' o)) → IsTrue (row_fits (body l g) a (or_kind l' o))
row_fitting k k' l l' f g looser a None fit = absurd cc
row_fitting k k' l l' f g looser a (Some r) fit =
    let delta = part k r.delta in
    let locals = counted (part k r.locals) f in
    let stack = counted (part k r.stack) f in
    let one = first_true (delta.fits a.0) (locals.fits a.1.0 && stack.fits a.1.1) fit in
    let items = second_true (delta.fits a.0) (locals.fits a.1.0 && stack.fits a.1.1) fit in
    let two = first_true (locals.fits a.1.0) (stack.fits a.1.1) items in
    let three = second_true (locals.fits a.1.0) (stack.fits a.1.1) items in
    let many = (part k r.locals).fits (length a.1.0) in
    let deep = (part k r.stack).fits (length a.1.1) in
    both _ _ (sym (part_fitting k l r.delta a.0) ∙ one)
    (both _ _ (both _ _ (items_fit f g looser a.1.0 (first_true (list_all f.fits a.1.0) many two)) (sym (part_fitting k l r.locals (length a.1.0)) ∙ second_true (list_all f.fits a.1.0) many two))
    (both _ _ (items_fit f g looser a.1.1 (first_true (list_all f.fits a.1.1) deep three)) (sym (part_fitting k l r.stack (length a.1.1)) ∙ second_true (list_all f.fits a.1.1) deep three)))

frame_fitting : {K L : Type 0} (k : Kinds K) (l : Kinds L) (f : Format K MapType) (g : Format L MapType) → ((t : MapType) → IsTrue (f.fits t) → IsTrue (g.fits t)) → (x : RawFrame) → IsTrue ((frame k f).fits x) → IsTrue ((frame l g).fits x)
unfolding frame
frame_fitting k l f g looser x fit =
    let here = row_fits (body k.truncated f) (x.delta, (x.locals, x.stack)) (or_kind k.reserved (row x.form)) in
    both _ _ (first_true (ltb x.form 256) here fit) (row_fitting k.truncated k.reserved l.truncated l.reserved f g looser (x.delta, (x.locals, x.stack)) (row x.form) (second_true (ltb x.form 256) here fit))

all_fitting : {K L : Type 0} (k : Kinds K) (l : Kinds L) (f : Format K MapType) (g : Format L MapType) → ((t : MapType) → IsTrue (f.fits t) → IsTrue (g.fits t)) → (xs : List RawFrame) → IsTrue (list_all (frame k f).fits xs) → IsTrue (list_all (frame l g).fits xs)
all_fitting k l f g looser [] fit = refl
all_fitting k l f g looser (x ∷ xs) fit = both _ _ (frame_fitting k l f g looser x (first_true ((frame k f).fits x) (list_all (frame k f).fits xs) fit)) (all_fitting k l f g looser xs (second_true ((frame k f).fits x) (list_all (frame k f).fits xs) fit))

-- What fits a stricter test fits a looser one.
pub frames_fitting : {K L : Type 0} (k : Kinds K) (l : Kinds L) (f : Format K MapType) (g : Format L MapType) → ((t : MapType) → IsTrue (f.fits t) → IsTrue (g.fits t)) → (xs : List RawFrame) → IsTrue ((frames k f).fits xs) → IsTrue ((frames l g).fits xs)
unfolding frames
frames_fitting k l f g looser xs fit = both _ _ (all_fitting k l f g looser xs (first_true (list_all (frame k f).fits xs) (ltb (length xs) 65536) fit)) (second_true (list_all (frame k f).fits xs) (ltb (length xs) 65536) fit)

-- ---- places

-- what is spelled so can only be read as this
pub read_is : (bytes : List ℕ) (fs : List RawFrame) → IsTrue (maps.fits fs) → bytes ≡ maps.spell fs → maps.read bytes ≡ Ok fs
read_is bytes fs fit e = ap maps.read e ∙ maps_law.again fs fit
