-- The strings that are made, one behind the other.
use Rattle.std.proofs.Common.{◌≡◌, ℕ, ◌+◌, ◌-◌, ◌<◌, ◌≤◌, Bool, true, false, List, [], ◌∷◌, ◌++◌, length, get_or, take, drop, Option, Some, None, refl, sym, ap, subst, ◌∙◌, arith}
use Rattle.std.specs.Prelude.{is_some, sum_by}
use Rattle.std.specs.List.{cons_option, filter_map}
use Rattle.std.proofs.lemmas.List.{append-nil, length-map, map-append, take-append-drop, take_all, take_more}
use Rattle.std.proofs.lemmas.List.Sums.{sum_by-append, sum_by_push}
use Rattle.jmemory.specs.jheap.Heaps.{Heaped}
use Rattle.jvalues.specs.declared.jops.value.Value.{Value}
use Rattle.jresolution.specs.jprogram.ProgramClasses.{Program}
use Rattle.jresolution.specs.juses.PoolTables.{Grows}
use Rattle.jsemantics.specs.jmachine.MachineStates as acts
use Rattle.jsemantics.specs.jmachine.HeapObjects.{Object}
use Rattle.jsemantics.specs.jmachine.OpeningState.{distinct}
use Rattle.jsemantics.specs.jmachine.Store.{Store, constant_at, next_number, paid, with_constant, with_made}
use Rattle.jready.specs.declared.statics.StaticRow.{StaticRow}
use Rattle.jruntime.specs.declared.jstate.shapes.Shapes.{Shapes}
use Rattle.jruntime.specs.jstate.HeapMeanings.{Things}
use Rattle.jlibcalls.specs.jconstants.StringConstants.{Made}
use Rattle.jstepping.specs.jopen.StaticRows.{row_text, texts_of}
use Rattle.jstepping.specs.jopen.OpeningTexts.{HasMade, MakesFor, TextMade, began, seen_by, stream, string, texts_charge}
use Rattle.jstepping.proofs.JopenProofs.DistinctTexts.{among, constants_more, distinct_grows, distinct_more, found_among, unless_there}
use Rattle.jstepping.proofs.JopenProofs.StaticLists.{filter_append}

-- ---- the texts of one more row

texts_none : (p : Program) (rows : List StaticRow) (row : StaticRow) → row_text p row ≡ None → texts_of p (rows ++ row ∷ []) ≡ texts_of p rows
texts_none p rows row e =
    ap (distinct []) (filter_append (row_text p) rows (row ∷ [])
    ∙ ap (λ (o : Option (List ℕ)). filter_map (row_text p) rows ++ cons_option o []) e ∙ append-nil (filter_map (row_text p) rows))

texts_some : (p : Program) (rows : List StaticRow) (row : StaticRow) (t : List ℕ) → row_text p row ≡ Some t
    → texts_of p (rows ++ row ∷ []) ≡ unless_there (among t (texts_of p rows)) (texts_of p rows) t
texts_some p rows row t e =
    ap (distinct []) (filter_append (row_text p) rows (row ∷ []) ∙ ap (λ (o : Option (List ℕ)). filter_map (row_text p) rows ++ cons_option o []) e)
    ∙ distinct_more (filter_map (row_text p) rows) t

-- ---- what a string costs

pub charge_more : (texts : List (List ℕ)) (t : List ℕ) → texts_charge (texts ++ t ∷ []) ≡ texts_charge texts + acts.cells_of (length t)
charge_more texts t =
    let all = sum_by_push (λ (u : List ℕ). acts.cells_of (length u)) texts t in
    omega (arith, all)

pub charge_grows : (texts more : List (List ℕ)) → Grows texts more → texts_charge texts ≤ texts_charge more
charge_grows texts more g =
    let all : texts_charge more ≡ 1 + (sum_by (λ (u : List ℕ). acts.cells_of (length u)) texts + sum_by (λ (u : List ℕ). acts.cells_of (length u)) g.0) =
    ap texts_charge g.1 ∙ ap (λ (n : ℕ). 1 + n) (sum_by-append (λ (u : List ℕ). acts.cells_of (length u)) texts g.0) in
    omega (arith, all)

-- ---- stores

pub store_is : (s t : Store ℕ) → s.objects ≡ t.objects → s.statics ≡ t.statics → s.constants ≡ t.constants → s.left ≡ t.left → s ≡ t
store_is s t a b c d =
    ap (λ (l : List (Object ℕ)). record { objects = l; statics = s.statics; constants = s.constants; left = s.left }) a
    ∙ ap (λ (l : List (Value ℕ)). record { objects = t.objects; statics = l; constants = s.constants; left = s.left }) b
    ∙ ap (λ (l : List (List ℕ × ℕ)). record { objects = t.objects; statics = t.statics; constants = l; left = s.left }) c
    ∙ ap (λ (n : ℕ). record { objects = t.objects; statics = t.statics; constants = t.constants; left = n }) d

-- with one more string
began_more : (texts : List (List ℕ)) (units : List ℕ) (s t : Store ℕ) (left : ℕ) → s ≡ began texts left
    → t ≡ paid (acts.cells_of (length units)) (with_made (with_constant s units) (string units)) → t ≡ began (texts ++ units ∷ []) t.left
began_more texts units s t left is made =
    let put : Store ℕ → Store ℕ = λ (s : Store ℕ). paid (acts.cells_of (length units)) (with_made (with_constant s units) (string units)) in
    let all : t ≡ put (began texts left) = made ∙ ap put is in
    let count : next_number (began texts left) ≡ length texts + 2 =
    let n = length-map texts string in omega (arith, n) in
    store_is t (began (texts ++ units ∷ []) t.left)
    (ap (λ (x : Store ℕ). x.objects) all
    ∙ ap (λ (l : List (Object ℕ)). stream ∷ l) (sym (map-append string texts (units ∷ []))))
    (ap (λ (x : Store ℕ). x.statics) all)
    (ap (λ (x : Store ℕ). x.constants) all ∙ sym (constants_more texts units (next_number (began texts left)) count))
    refl

-- ---- a string more, or none

module _ (p : Program) (cells : ℕ) (c d : Made) (h k : Heaped) (same : d.program ≡ c.program) (statics : k.statics ≡ h.statics) where
  same_made : (texts : List (List ℕ)) → HasMade p cells texts c h → ((shapes : Shapes) (things : Things) → seen_by p shapes things d k ≡ seen_by p shapes things c h)
      → d.constants ≡ c.constants → k.left ≡ h.left → HasMade p cells texts d k
  same_made texts is stores constants left = record {
    program = same ∙ is.program;
    store = λ shapes things. stores shapes things ∙ is.store shapes things ∙ ap (began texts) (sym left);
    constants = constants ∙ is.constants;
    statics = statics ∙ is.statics;
    left = ap (λ (n : ℕ). n + texts_charge texts) left ∙ is.left;
  }

  -- whether the string was made
  known_is : (shapes : Shapes) (things : Things) (texts : List (List ℕ)) (units : List ℕ) → HasMade p cells texts c h
      → is_some (constant_at (seen_by p shapes things c h).constants units) ≡ among units texts
  known_is shapes things texts units is = ap (λ (l : List (List ℕ × ℕ)). is_some (constant_at l units)) is.constants ∙ found_among texts units

  abbrev Stores : Bool → Bool → List ℕ → Type 0
  Stores known went units = (shapes : Shapes) (things : Things) → TextMade known went units (seen_by p shapes things c h) (seen_by p shapes things d k)

  made_by : (some_shapes : Shapes) (some_things : Things) (texts : List (List ℕ)) (units : List ℕ) (known : Bool) → HasMade p cells texts c h
      → Stores known true units → HasMade p cells (unless_there known texts units) d k
  made_by some_shapes some_things texts units true is makes =
      same_made texts is makes (ap (λ (s : Store ℕ). s.constants) (makes some_shapes some_things)) (ap (λ (s : Store ℕ). s.left) (makes some_shapes some_things))
  made_by some_shapes some_things texts units false is makes =
      let one = makes some_shapes some_things in
      let room = one.0 in
      let all = began_more texts units (seen_by p some_shapes some_things c h) (seen_by p some_shapes some_things d k) h.left (is.store some_shapes some_things) one.1 in
      record {
        program = same ∙ is.program;
        store = λ shapes things. began_more texts units (seen_by p shapes things c h) (seen_by p shapes things d k) h.left (is.store shapes things) (makes shapes things).1;
        constants = ap (λ (s : Store ℕ). s.constants) all;
        statics = statics ∙ is.statics;
        left =
            let left : k.left ≡ h.left - acts.cells_of (length units) = ap (λ (s : Store ℕ). s.left) one.1 in
            let cost = charge_more texts units in
            let before = is.left in
            omega (arith, left, cost, before, room);
      }

  text_made : (some_shapes : Shapes) (some_things : Things) (texts : List (List ℕ)) (units : List ℕ) → HasMade p cells texts c h
      → MakesFor p (Some units) true c h d k → HasMade p cells (unless_there (among units texts) texts units) d k
  text_made some_shapes some_things texts units is makes =
      made_by some_shapes some_things texts units (among units texts) is
      (λ shapes things. subst (λ (b : Bool). TextMade b true units (seen_by p shapes things c h) (seen_by p shapes things d k))
      (known_is shapes things texts units is) (makes shapes things))

  made_for : (some_shapes : Shapes) (some_things : Things) (rows : List StaticRow) (row : StaticRow) (o : Option (List ℕ)) → row_text p row ≡ o
      → HasMade p cells (texts_of p rows) c h → MakesFor p o true c h d k → HasMade p cells (texts_of p (rows ++ row ∷ [])) d k
  made_for some_shapes some_things rows row None e is makes =
      subst (λ (l : List (List ℕ)). HasMade p cells l d k) (sym (texts_none p rows row e))
      (same_made (texts_of p rows) is (λ shapes things. ap (λ (x : Made). seen_by p shapes things x k) makes.1 ∙ ap (seen_by p shapes things c) makes.2)
      (ap (λ (x : Made). x.constants) makes.1) (ap (λ (g : Heaped). g.left) makes.2))
  made_for some_shapes some_things rows row (Some units) e is makes =
      subst (λ (l : List (List ℕ)). HasMade p cells l d k) (sym (texts_some p rows row units e))
      (text_made some_shapes some_things (texts_of p rows) units is makes)

  -- ---- too few cells

  full_at : (some_shapes : Shapes) (some_things : Things) (rows rest : List StaticRow) (row : StaticRow) (o : Option (List ℕ)) → row_text p row ≡ o
      → HasMade p cells (texts_of p rows) c h → MakesFor p o false c h d k → cells < texts_charge (texts_of p ((rows ++ row ∷ []) ++ rest))
  full_at some_shapes some_things rows rest row None e is makes = absurd (let no : false ≡ true = makes.0 in cc)
  full_at some_shapes some_things rows rest row (Some units) e is makes =
      let texts = texts_of p rows in
      let one : TextMade (among units texts) false units (seen_by p some_shapes some_things c h) (seen_by p some_shapes some_things d k) =
      subst (λ (b : Bool). TextMade b false units (seen_by p some_shapes some_things c h) (seen_by p some_shapes some_things d k))
      (known_is some_shapes some_things texts units is) (makes some_shapes some_things) in
      by_known (among units texts) refl one
    where
      by_known : (b : Bool) → among units (texts_of p rows) ≡ b
          → TextMade b false units (seen_by p some_shapes some_things c h) (seen_by p some_shapes some_things d k)
          → cells < texts_charge (texts_of p ((rows ++ row ∷ []) ++ rest))
      by_known true here none = absurd none
      by_known false here few =
          let texts = texts_of p rows in
          let next : texts_of p (rows ++ row ∷ []) ≡ texts ++ units ∷ [] =
          texts_some p rows row units e ∙ ap (λ (b : Bool). unless_there b texts units) here in
          let cost = charge_more texts units in
          let long : texts_charge (texts_of p (rows ++ row ∷ [])) ≡ texts_charge (texts ++ units ∷ []) = ap texts_charge next in
          let all : texts_charge (texts_of p (rows ++ row ∷ [])) ≤ texts_charge (texts_of p ((rows ++ row ∷ []) ++ rest)) =
          charge_grows (texts_of p (rows ++ row ∷ [])) (texts_of p ((rows ++ row ∷ []) ++ rest))
          (subst (λ (l : List (List ℕ)). Grows (texts_of p (rows ++ row ∷ [])) (distinct [] l)) (sym (filter_append (row_text p) (rows ++ row ∷ []) rest))
          (distinct_grows (filter_map (row_text p) (rows ++ row ∷ [])) (filter_map (row_text p) rest))) in
          let before = is.left in
          omega (arith, cost, long, all, before, few)

-- any shapes and things
none_shapes : Shapes
none_shapes = record { users = []; arrays = []; statics = [] }

none_things : Things
none_things = record { permissions = []; kept = [] }

-- one more row of a loop
pub made_next : (p : Program) (cells : ℕ) (rows : List StaticRow) (j : ℕ) (row : StaticRow) (c d : Made) (h k : Heaped) → d.program ≡ c.program
    → k.statics ≡ h.statics → j < length rows → HasMade p cells (texts_of p (take j rows)) c h
    → MakesFor c.program (row_text c.program (get_or rows j row)) true c h d k → HasMade p cells (texts_of p (take (j + 1) rows)) d k
made_next p cells rows j row c d h k same statics lt is makes =
    let one = get_or rows j row in
    subst (λ (l : List StaticRow). HasMade p cells (texts_of p l) d k) (sym (take_more rows j row lt))
    (made_for p cells c d h k same statics none_shapes none_things (take j rows) one (row_text p one) refl is
    (subst (λ (q : Program). MakesFor q (row_text q one) true c h d k) is.program makes))

pub made_full : (p : Program) (cells : ℕ) (rows : List StaticRow) (j : ℕ) (row : StaticRow) (c d : Made) (h k : Heaped) → d.program ≡ c.program
    → k.statics ≡ h.statics → j < length rows → HasMade p cells (texts_of p (take j rows)) c h
    → MakesFor c.program (row_text c.program (get_or rows j row)) false c h d k → cells < texts_charge (texts_of p rows)
made_full p cells rows j row c d h k same statics lt is makes =
    let one = get_or rows j row in
    let all : (take j rows ++ one ∷ []) ++ drop (j + 1) rows ≡ rows =
    ap (λ (l : List StaticRow). l ++ drop (j + 1) rows) (sym (take_more rows j row lt)) ∙ take-append-drop (j + 1) rows in
    subst (λ (l : List StaticRow). cells < texts_charge (texts_of p l)) all
    (full_at p cells c d h k same statics none_shapes none_things (take j rows) (drop (j + 1) rows) one (row_text p one) refl is
    (subst (λ (q : Program). MakesFor q (row_text q one) false c h d k) is.program makes))

pub no_texts : (p : Program) → texts_of p [] ≡ []
unfolding distinct
no_texts p = refl

pub made_all : (p : Program) (cells : ℕ) (rows : List StaticRow) (j : ℕ) (c : Made) (h : Heaped) → length rows ≤ j → HasMade p cells (texts_of p (take j rows)) c h
    → HasMade p cells (texts_of p rows) c h
made_all p cells rows j c h le is = subst (λ (l : List StaticRow). HasMade p cells (texts_of p l) c h) (take_all j rows le) is
