-- What the heap of the opening stands for.
use Rattle.std.proofs.Common.{◌≡◌, ℕ, zero, suc, ◌+◌, ◌-◌, ◌<◌, ◌≤◌, List, [], ◌∷◌, ◌++◌, length, get_or, map, take, replicate, Option, Some, None, refl, sym, ap, subst, ◌∙◌, arith, append_assoc}
use Rattle.std.specs.Prelude.{slice_get, slice_set}
use Rattle.std.specs.List.{flat_map}
use Rattle.std.proofs.Math.Seq.{set-append_seam}
use Rattle.std.proofs.lemmas.List.{append-nil, length-map, map-append, take_more}
use Rattle.jmemory.specs.declared.jheap.cell.CellType.{CellType}
use Rattle.jmemory.specs.declared.jheap.cell.Kind.TheVariants as kinds
use Rattle.jmemory.specs.jheap.Heaps as heaps
use Rattle.jmemory.specs.jheap.Heaps.{Heaped, with_statics}
use Rattle.jmemory.specs.jheap.RawValues.{of_raw, raw, type_of}
use Rattle.jlib.specs.declared.classes.LibClass.TheVariants as lib
use Rattle.jvalues.specs.declared.jops.value.Value.{Value}
use Rattle.jresolution.specs.jprogram.ProgramClasses.{Program}
use Rattle.jresolution.specs.juses.InternedTypes.{array_named}
use Rattle.jresolution.specs.declared.juses.types.ArrayRef.{ArrayRef}
use Rattle.jresolution.specs.jlayout.InternedFields.{all_statics}
use Rattle.jsemantics.specs.jmachine.HeapObjects.{Object, Array}
use Rattle.jsemantics.specs.jmachine.OpeningState.{arguments_number, arguments_type, constants_of, distinct, first_objects, opening_charge, opening_store, strings, values_in}
use Rattle.jsemantics.specs.jmachine.Store.{Store, paid, with_made}
use Rattle.jready.specs.declared.statics.StaticRow.{StaticRow}
use Rattle.jready.specs.Statics.{AreStatics}
use Rattle.jruntime.specs.declared.jstate.shapes.Shapes.{Shapes}
use Rattle.jruntime.specs.jstate.ObjectCells.{AreCelled, MadeStaysCelled, NoneAreCelled, Suits}
use Rattle.jruntime.specs.jstate.ClassNumbers.{library_number}
use Rattle.jruntime.specs.jstate.HeapMeanings as seen
use Rattle.jruntime.specs.jstate.HeapMeanings.{AreBuilt, Things, store_by}
use Rattle.jruntime.specs.jstate.HeapMeaningLaws as laws
use Rattle.jserving.specs.jcells.ArrayTypeNumbers.{IsStrings}
use Rattle.jlibcalls.specs.jconstants.StringConstants.{Made}
use Rattle.jlinking.specs.jlink.ProgramFiles.{AreFiles}
use Rattle.jlinking.proofs.JlinkProofs.FittingClassFiles.{all_files}
use Rattle.jstepping.specs.jopen.InitialHeaps.{AreStrings, Begins, IsOut}
use Rattle.jstepping.specs.declared.jopen.heap.Begun.{Begun}
use Rattle.jstepping.specs.declared.jopen.heap.Strings.{Strings}
use Rattle.jstepping.specs.jopen.StaticRows.{texts_of, values_of}
use Rattle.jstepping.specs.jopen.OpeningTexts.{HasMade, HasSet, began, seen_by, string, texts_charge}
use Rattle.jstepping.proofs.JopenProofs.StaticRows.{rows_texts, rows_values}
use Rattle.jstepping.proofs.JopenProofs.StaticLists.{all_strings, all_values, value_of}
use Rattle.jstepping.proofs.JopenProofs.StringCreation.{store_is}
use Rattle.jstepping.proofs.JopenProofs.InitialStatics.{all_hold, cell_at}

-- ---- statics

no_values : (types : List CellType) → seen.values_of types [] ≡ []
unfolding seen.values_of
no_values [] = refl
no_values (t ∷ types) = refl

-- one more cell, which gives its value back
cells_more : (values : List (Value ℕ)) (v : Value ℕ) → seen.values_of (map type_of values) (map raw values) ≡ values → of_raw (type_of v) (raw v) ≡ v
    → seen.values_of (map type_of (values ++ v ∷ [])) (map raw (values ++ v ∷ [])) ≡ values ++ v ∷ []
unfolding seen.values_of
cells_more [] v is back = ap (λ (x : Value ℕ). x ∷ []) back
cells_more (w ∷ values) v is back =
    let first : of_raw (type_of w) (raw w) ≡ w = cc in
    let rest : seen.values_of (map type_of values) (map raw values) ≡ values = cc in
    ap (λ (x : Value ℕ). x ∷ seen.values_of (map type_of (values ++ v ∷ [])) (map raw (values ++ v ∷ []))) first
    ∙ ap (λ (l : List (Value ℕ)). w ∷ l) (cells_more values v rest back)

pub set_begin : (n : ℕ) (h : Heaped) → h.statics ≡ replicate n 0 → HasSet [] n h h
set_begin n h none = record { heap = ap (with_statics h) none; back = no_values [] }

pub set_more : (values : List (Value ℕ)) (others rest : ℕ) (old h k : Heaped) (i : ℕ) (v : Value ℕ) → HasSet values others old h → i ≡ length values
    → others ≡ suc rest → k ≡ with_statics h (slice_set h.statics i (raw v)) → of_raw (type_of v) (raw v) ≡ v → HasSet (values ++ v ∷ []) rest old k
set_more values others rest old h k i v is here more put back = record {
  heap =
      let zeros : replicate others 0 ≡ 0 ∷ replicate rest 0 = ap (λ (n : ℕ). replicate n 0) more in
      let place : i ≡ length (map raw values) = here ∙ sym (length-map values raw) in
      let statics : h.statics ≡ map raw values ++ 0 ∷ replicate rest 0 = ap (λ (g : Heaped). g.statics) is.heap ∙ ap (λ (l : List ℕ). map raw values ++ l) zeros in
      let set : slice_set h.statics i (raw v) ≡ map raw (values ++ v ∷ []) ++ replicate rest 0 =
      ap (λ (l : List ℕ). slice_set l i (raw v)) statics ∙ ap (λ (n : ℕ). slice_set (map raw values ++ 0 ∷ replicate rest 0) n (raw v)) place
      ∙ set-append_seam (map raw values) 0 (replicate rest 0) (raw v)
      ∙ sym (append_assoc (map raw values) (raw v ∷ []) (replicate rest 0))
      ∙ ap (λ (l : List ℕ). l ++ replicate rest 0) (sym (map-append raw values (v ∷ []))) in
      put ∙ ap (λ (g : Heaped). with_statics g (slice_set h.statics i (raw v))) is.heap ∙ ap (with_statics old) set;
  back = cells_more values v is.back back;
}

take_count : {A : Type 0} (xs : List A) (i : ℕ) → i ≤ length xs → length (take i xs) ≡ i
take_count xs zero le = refl
take_count [] (suc i) le = absurd (omega (arith, le))
take_count (x ∷ xs) (suc i) le = ap (λ (n : ℕ). suc n) (take_count xs i (omega (arith, le)))

-- one more row of a loop
pub set_next : (rows : List StaticRow) (f : StaticRow → Value ℕ) (i : ℕ) (row : StaticRow) (v : Value ℕ) (old h k : Heaped) → i < length rows
    → HasSet (map f (take i rows)) (length rows - i) old h → v ≡ f (get_or rows i row) → k ≡ with_statics h (slice_set h.statics i (raw v))
    → of_raw (type_of v) (raw v) ≡ v → HasSet (map f (take (i + 1) rows)) (length rows - (i + 1)) old k
set_next rows f i row v old h k lt is value put back =
    let here : i ≡ length (map f (take i rows)) =
    let a = length-map (take i rows) f in
    let b = take_count rows i (omega (arith, lt)) in
    omega (arith, a, b) in
    let next : map f (take (i + 1) rows) ≡ map f (take i rows) ++ v ∷ [] =
    ap (map f) (take_more rows i row lt) ∙ map-append f (take i rows) (get_or rows i row ∷ []) ∙ ap (λ (x : Value ℕ). map f (take i rows) ++ x ∷ []) (sym value) in
    subst (λ (l : List (Value ℕ)). HasSet l (length rows - (i + 1)) old k) (sym next)
    (set_more (map f (take i rows)) (length rows - i) (length rows - (i + 1)) old h k i v is here (omega (arith, lt)) put back)

-- as many are there
pub set_count : (values : List (Value ℕ)) (old h : Heaped) → HasSet values 0 old h → length h.statics ≡ length values
set_count values old h is =
    ap (λ (g : Heaped). length g.statics) is.heap ∙ ap (λ (l : List ℕ). length l) (append-nil (map raw values)) ∙ length-map values raw

-- they are of the types of their cells
map_map : {A B C : Type 0} (f : B → C) (g : A → B) (xs : List A) → map f (map g xs) ≡ map (λ x. f (g x)) xs
map_map f g [] = refl
map_map {C = C} f g (x ∷ xs) = ap (λ (l : List C). f (g x) ∷ l) (map_map f g xs)

types_are : (p : Program) (made : List (List ℕ × ℕ)) (types : List CellType) (rows : List StaticRow) → AreFiles p → AreStatics p (all_statics p) rows
    → types ≡ map (cell_at p) (all_statics p) → map type_of (values_of p made rows) ≡ types
types_are p made types rows files statics is =
    ap (map type_of) (sym (rows_values p made (all_statics p) rows statics)) ∙ map_map type_of (value_of p made) (all_statics p)
    ∙ all_hold p made (all_files p.parts files) ∙ sym is

-- ---- by the rows

pub strings_are : (p : Program) (rows : List StaticRow) → AreStatics p (all_statics p) rows → texts_of p rows ≡ strings p
unfolding strings
strings_are p rows h = ap (distinct []) (sym (all_strings p ∙ rows_texts p (all_statics p) rows h))

pub values_are : (p : Program) (made : List (List ℕ × ℕ)) (rows : List StaticRow) → AreStatics p (all_statics p) rows
    → values_of p made rows ≡ flat_map (values_in p made) p.parts
values_are p made rows h = sym (all_values p made ∙ rows_values p made (all_statics p) rows h)

pub charge_is : (p : Program) (texts : List (List ℕ)) → texts ≡ strings p → opening_charge p ≡ texts_charge texts + 2
unfolding opening_charge
charge_is p texts is = ap (λ (l : List (List ℕ)). texts_charge l + 2) (sym is)

-- ---- `System.out`

pub out_made : (p : Program) (cells : ℕ) (c : Made) (h : Heaped) → c.program ≡ p → c.constants ≡ [] → 1 ≤ cells → laws.Makes
    → AreBuilt (heaps.opened cells).objects → h ≡ heaps.made (heaps.opened cells) (kinds.Object (library_number lib.PrintStream)) 0 → HasMade p cells [] c h
out_made p cells c h same none room makes built made = record {
  program = same;
  store = λ shapes things.
      let all = makes p shapes things [] (heaps.opened cells) (kinds.Object (library_number lib.PrintStream)) 0 built in
      ap (λ (l : List (List ℕ × ℕ)). store_by p shapes things l h) none ∙ ap (store_by p shapes things []) made ∙ all
      ∙ store_is _ (began [] h.left) refl (no_values shapes.statics) refl (sym (ap (λ (g : Heaped). g.left) made));
  constants = none;
  statics = ap (λ (g : Heaped). g.statics) made;
  left = let left : h.left ≡ cells - 1 = ap (λ (g : Heaped). g.left) made in omega (arith, left, room);
}

none_built : AreBuilt []
none_built = record { backward = λ i x at. absurd (not_there i x at); within = tt }
  where
    not_there : (i : ℕ) (x : heaps.Object) → slice_get [] i ≡ Some x → ⊥
    not_there i x at = cc

out_suits : (shapes : Shapes) → Suits shapes (kinds.Object (library_number lib.PrintStream)) 0
out_suits shapes n e = let same : Some 0 ≡ Some n = e in cc

pub out_is : (p : Program) (cells n o : ℕ) (c : Made) (h k : Heaped) → c.program ≡ p → c.constants ≡ [] → laws.Makes → laws.MadeStaysBuilt → NoneAreCelled
    → MadeStaysCelled → h ≡ heaps.opened cells → n ≡ library_number lib.PrintStream → heaps.Makes (kinds.Object n) 0 h k (Some o) → IsOut p cells c k
out_is p cells n o c h k same none makes stays none_celled stays_celled opened number made =
    let kind = kinds.Object (library_number lib.PrintStream) in
    let is : k ≡ heaps.made (heaps.opened cells) kind 0 =
    made.2 ∙ ap (λ (g : Heaped). heaps.made g (kinds.Object n) 0) opened ∙ ap (λ (m : ℕ). heaps.made (heaps.opened cells) (kinds.Object m) 0) number in
    let room = made.0 in
    let left : h.left ≡ cells = ap (λ (g : Heaped). g.left) opened in
    record {
      made = out_made p cells c k same none (omega (arith, room, left)) makes none_built is;
      built = subst (λ (g : Heaped). AreBuilt g.objects) (sym is) (stays (heaps.opened cells) kind 0 none_built);
      celled = λ shapes. subst (λ (g : Heaped). AreCelled shapes g.objects) (sym is)
          (stays_celled shapes (heaps.opened cells) kind 0 (out_suits shapes) (none_celled shapes));
    }

-- ---- the array

-- the store with the array behind the strings
abbrev with_array : List (List ℕ) → ℕ → Store ℕ
with_array texts left = record { objects = first_objects texts; statics = []; constants = constants_of texts; left = left }

abbrev array_of : Program → ArrayRef → Object ℕ
array_of p a = Array (array_named p a) []

abbrev arguments : Object ℕ
arguments = Array arguments_type []

array_seen : (p : Program) (shapes : Shapes) (objects : List heaps.Object) (things : Things) (n : ℕ) → IsStrings shapes n
    → seen.kind_by p shapes objects things (kinds.Array n) [] ≡ arguments
array_seen p shapes objects things n is = ap (array_of p) is

array_made : (p : Program) (shapes : Shapes) (cells : ℕ) (texts : List (List ℕ)) (c : Made) (h g : Heaped) (n : ℕ) (things : Things) → IsStrings shapes n → laws.Makes
    → AreBuilt h.objects → HasMade p cells texts c h → g ≡ heaps.made h (kinds.Array n) 0 → seen_by p shapes things c g ≡ with_array texts (h.left - 2)
array_made p shapes cells texts c h g n things is makes built made array =
    ap (seen_by p shapes things c) array
    ∙ makes p shapes things c.constants h (kinds.Array n) 0 built
    ∙ ap (λ (x : Object ℕ). paid 2 (with_made (seen_by p shapes things c h) x)) (array_seen p shapes h.objects things n is)
    ∙ ap (λ (s : Store ℕ). paid 2 (with_made s arguments)) (made.store shapes things)

-- ---- all

pub begins_store : (p : Program) (shapes : Shapes) (cells : ℕ) (rows : List StaticRow) (c : Made) (h g k : Heaped) (n : ℕ) (things : Things)
    → AreStatics p (all_statics p) rows → IsStrings shapes n → laws.Makes → AreBuilt h.objects → HasMade p cells (texts_of p rows) c h → 2 ≤ h.left
    → g ≡ heaps.made h (kinds.Array n) 0 → map type_of (values_of c.program c.constants rows) ≡ shapes.statics
    → HasSet (values_of c.program c.constants rows) 0 g k → seen_by p shapes things c k ≡ opening_store p cells
begins_store p shapes cells rows c h g k n things statics is makes built made room array types set =
    let same = strings_are p rows statics in
    let cs : c.constants ≡ constants_of (strings p) = made.constants ∙ ap constants_of same in
    let whole = array_made p shapes cells (texts_of p rows) c h g n things is makes built made array in
    let objects : (seen_by p shapes things c k).objects ≡ first_objects (strings p) =
    ap (λ (x : Heaped). seen.objects_by p shapes things x.objects) set.heap ∙ ap (λ (s : Store ℕ). s.objects) whole ∙ ap first_objects same in
    let held : (seen_by p shapes things c k).statics ≡ values_of c.program c.constants rows =
    ap (λ (x : Heaped). seen.values_of shapes.statics x.statics) set.heap
    ∙ ap (seen.values_of shapes.statics) (append-nil (map raw (values_of c.program c.constants rows)))
    ∙ ap (λ (l : List CellType). seen.values_of l (map raw (values_of c.program c.constants rows))) (sym types) ∙ set.back in
    let values : values_of c.program c.constants rows ≡ flat_map (values_in p (constants_of (strings p))) p.parts =
    ap (λ (q : Program). values_of q c.constants rows) made.program ∙ values_are p c.constants rows statics
    ∙ ap (λ (l : List (List ℕ × ℕ)). flat_map (values_in p l) p.parts) cs in
    let left : k.left ≡ h.left - 2 = ap (λ (x : Heaped). x.left) set.heap ∙ ap (λ (s : Store ℕ). s.left) whole in
    let cost = charge_is p (texts_of p rows) same in
    let before = made.left in
    let rest : k.left ≡ cells - opening_charge p = omega (arith, left, cost, before, room) in
    store_is (seen_by p shapes things c k) (opening_store p cells) objects (held ∙ values) cs rest

pub begins_room : (p : Program) (cells : ℕ) (rows : List StaticRow) (c : Made) (h : Heaped) → AreStatics p (all_statics p) rows
    → HasMade p cells (texts_of p rows) c h → 2 ≤ h.left → opening_charge p ≤ cells
begins_room p cells rows c h statics made room =
    let cost = charge_is p (texts_of p rows) (strings_are p rows statics) in
    let before = made.left in
    omega (arith, cost, before, room)

objects_count : (p : Program) (shapes : Shapes) (things : Things) (texts : List (List ℕ)) (c : Made) (h : Heaped)
    → seen_by p shapes things c h ≡ began texts h.left → length h.objects ≡ suc (length texts)
objects_count p shapes things texts c h store =
    sym (length-map h.objects (seen.object_by p shapes h.objects things)) ∙ ap (λ (s : Store ℕ). length s.objects) store
    ∙ ap (λ (n : ℕ). suc n) (length-map texts string)

pub begins_array : (p : Program) (shapes : Shapes) (cells : ℕ) (rows : List StaticRow) (c : Made) (h : Heaped) (o : ℕ) → AreStatics p (all_statics p) rows
    → HasMade p cells (texts_of p rows) c h → o ≡ length h.objects + 1 → o ≡ arguments_number p
begins_array p shapes cells rows c h o statics made is =
    let things : Things = record { permissions = []; kept = [] } in
    let count = objects_count p shapes things (texts_of p rows) c h (made.store shapes things) in
    let same : length (texts_of p rows) ≡ length (strings p) = ap length (strings_are p rows statics) in
    omega (arith, is, count, same)

-- ---- too few cells

pub few_for_texts : (p : Program) (cells : ℕ) (rows : List StaticRow) → AreStatics p (all_statics p) rows → cells < texts_charge (texts_of p rows)
    → cells < opening_charge p
few_for_texts p cells rows statics few = let cost = charge_is p (texts_of p rows) (strings_are p rows statics) in omega (arith, cost, few)

pub few_for_array : (p : Program) (cells : ℕ) (rows : List StaticRow) (c : Made) (h : Heaped) → AreStatics p (all_statics p) rows
    → HasMade p cells (texts_of p rows) c h → h.left < 2 → cells < opening_charge p
few_for_array p cells rows c h statics made few =
    let cost = charge_is p (texts_of p rows) (strings_are p rows statics) in
    let before = made.left in
    omega (arith, cost, before, few)

-- ---- all of it

array_suits : (shapes : Shapes) (n : ℕ) → Suits shapes (kinds.Array n) 0
array_suits shapes n m e = absurd (let none : ◌≡◌ {A = Option ℕ} None (Some m) = e in cc)

pub begins : (p : Program) (shapes : Shapes) (cells n o : ℕ) (rows : List StaticRow) (s : Strings) (g k : Heaped) (b : Begun) → AreStatics p (all_statics p) rows
    → IsStrings shapes n → laws.Makes → laws.MadeStaysBuilt → MadeStaysCelled → AreStrings p cells rows s → heaps.Makes (kinds.Array n) 0 s.heap g (Some o)
    → HasSet (values_of s.constants.program s.constants.constants rows) 0 g k
    → AreFiles p → shapes.statics ≡ map (cell_at p) (all_statics p) → b ≡ record { heap = k; constants = s.constants; array = o } → Begins p shapes cells b
begins p shapes cells n o rows s g k b statics is makes stays stays_celled strings array set files tied here =
    let made = strings.made in
    let room : 2 ≤ s.heap.left = let enough = array.0 in omega (arith, enough) in
    let values = values_of s.constants.program s.constants.constants rows in
    let types : map type_of values ≡ shapes.statics =
    ap (λ (q : Program). map type_of (values_of q s.constants.constants rows)) made.program
    ∙ types_are p s.constants.constants shapes.statics rows files statics tied in
    let objects : k.objects ≡ (heaps.made s.heap (kinds.Array n) 0).objects = ap (λ (x : Heaped). x.objects) set.heap ∙ ap (λ (x : Heaped). x.objects) array.2 in
    subst (Begins p shapes cells) (sym here) (record {
      room = begins_room p cells rows s.constants s.heap statics made room;
      program = made.program;
      store = λ things. begins_store p shapes cells rows s.constants s.heap g k n things statics is makes strings.built made room array.2 types set;
      built = subst AreBuilt (sym objects) (stays s.heap (kinds.Array n) 0 strings.built);
      celled = subst (AreCelled shapes) (sym objects) (stays_celled shapes s.heap (kinds.Array n) 0 (array_suits shapes n) (strings.celled shapes));
      statics = set_count values g k set ∙ sym (length-map values type_of) ∙ ap length types;
      array = begins_array p shapes cells rows s.constants s.heap o statics made array.1;
    })
