-- Where frames of moved code stand, and that they can be written.
use Rattle.std.proofs.Common.{ℕ, zero, suc, ◌+◌, ◌-◌, ◌<◌, ◌≤◌, pos, true, ◌&&◌, nat_lt, List, [], ◌∷◌, ◌++◌, map, length, replicate, Option, Some, None, refl, ap, ◌∙◌, arith}
use Rattle.std.specs.Prelude.{IsTrue}
use Rattle.std.specs.List.{AllByRecursion, list_all}
use Rattle.std.proofs.lemmas.Bool.{lt-ltb, ltb-true}
use Rattle.std.proofs.lemmas.List.{length-append, length-map, length-replicate}
use Rattle.std.proofs.lemmas.List.Elements.{recursion_from_All}
use Rattle.jground.specs.jformat.StatefulFormats.{fits_from}
use Rattle.jground.proofs.JformatProofs.ReadingSteps.{both, first_true, second_true}
use Rattle.jparts.specs.declared.jcode.op.Placed.{Placed}
use Rattle.jparts.specs.jcode.Instructions as jcode
use Rattle.jparts.specs.jcode.Instructions.{is_place}
use Rattle.jparts.specs.declared.jmaps.types.MapType.{MapType}
use Rattle.jparts.specs.declared.jmaps.types.MapType.TheVariants as types
use Rattle.jparts.specs.declared.jmaps.types.FullFrame.{FullFrame}
use Rattle.jparts.specs.jmaps.StackMapFormat.{map_type, own_type}
use Rattle.jparts.specs.jmaps.ExpandedFrames.{can_follow, items_fit, place_after, stands}
use Rattle.jmove.specs.MovedFrames.{moved_frame, moved_type, widths}
use Rattle.jmove.specs.ProofNames.{unsaid, width}
use Rattle.jmove.specs.AssemblyLines.{end_of}
use Rattle.jmove.specs.MethodExpansion.{lines}
use Rattle.jmove.proofs.LabelTables.{place_within}
use Rattle.jrewriting.specs.jmove_laws.FramePlaces.{Begins, ItemsFit, Written, StandAt}
use Rattle.jrewriting.specs.jmove_laws.InstructionNumbers.{moved, new_place}
use Rattle.jrewriting.proofs.JmoveLawsProofs.BranchTargets.{jumps}
use Rattle.jrewriting.proofs.JmoveLawsProofs.CodePlaces.{rise}

pub begins : Begins
begins begin s ks is fits n k i context f nth e =
    ap (λ (p : ℕ). jcode.place_of (moved begin s ks is) (new_place begin s ks is p)) e ∙ jumps begin s ks is fits n k i nth

-- ---- locals

width_some : (t : MapType) → 1 ≤ width t
width_some types.Top = omega arith
width_some types.Int = omega arith
width_some types.Long = omega arith
width_some types.Null = omega arith
width_some types.UninitThis = omega arith
width_some (types.Uninit n) = omega arith
width_some (types.Object n) = omega arith

some_width : (ts : List MapType) → length ts ≤ widths ts
some_width [] = omega arith
some_width (t ∷ ts) = omega (arith, width_some t, some_width ts)

locals_length : (to : ℕ → ℕ) (local context : ℕ) (f : FullFrame) → widths f.locals ≤ local → length (moved_frame to local context f).locals ≤ local + 1
locals_length to local context f h =
    let front = map (moved_type to) f.locals in
    let tops : List MapType = replicate (local - widths f.locals) types.Top in
    let last : List MapType = types.Object context ∷ [] in
    omega (arith, some_width f.locals, length-append front (tops ++ last), length-map f.locals (moved_type to), length-append tops last, length-replicate (local - widths f.locals) types.Top)

-- ---- frames that can be written

-- what new places do: they rise, and none lies far
record Places (is : List Placed) (to : ℕ → ℕ) : Type 0 where
  rises : (p q : ℕ) → IsTrue (is_place is (pos p)) → IsTrue (is_place is (pos q)) → p < q → to p < to q
  near : (p : ℕ) → to p ≤ 32767

-- the place of an earlier frame is one of an instruction, and where it lies now
abbrev AtPlace : List Placed → Option ℕ → Type 0
AtPlace is None = Unit {0}
AtPlace is (Some p) = IsTrue (is_place is (pos p))

abbrev now : (ℕ → ℕ) → Option ℕ → Option ℕ
now to None = None
now to (Some p) = Some (to p)

stands_now : (is : List Placed) (to : ℕ → ℕ) (local context : ℕ) (earlier : Option ℕ) (f : FullFrame) → Places is to → AtPlace is earlier → IsTrue (is_place is (pos f.at))
    → IsTrue (stands earlier f) → IsTrue (stands (now to earlier) (moved_frame to local context f))
stands_now is to local context None f places at here h = let near = places.near f.at in lt-ltb (to f.at) 0x1_0000 (omega arith)
stands_now is to local context (Some p) f places at here h =
    let less : p < f.at = ltb-true p f.at (first_true (nat_lt p f.at) (nat_lt (f.at - (p + 1)) 0x1_0000) h) in
    let near = places.near f.at in
    both (nat_lt (to p) (to f.at)) (nat_lt (to f.at - (to p + 1)) 0x1_0000) (lt-ltb (to p) (to f.at) (places.rises p f.at at here less)) (lt-ltb (to f.at - (to p + 1)) 0x1_0000 (omega arith))

follow_now : (is : List Placed) (to : ℕ → ℕ) (local context : ℕ) (earlier : Option ℕ) (f : FullFrame) → local < 0xffff → Places is to → AtPlace is earlier → IsTrue (is_place is (pos f.at)) → widths f.locals ≤ local
    → IsTrue (can_follow earlier f) → IsTrue (can_follow (now to earlier) (moved_frame to local context f))
follow_now is to local context earlier f small places at here fit h =
    let g = moved_frame to local context f in
    let stood = first_true (stands earlier f) (nat_lt (length f.locals) 0x1_0000 && nat_lt (length f.stack) 0x1_0000) h in
    let counts = second_true (stands earlier f) (nat_lt (length f.locals) 0x1_0000 && nat_lt (length f.stack) 0x1_0000) h in
    let stack : length f.stack < 0x1_0000 = ltb-true (length f.stack) 0x1_0000 (second_true (nat_lt (length f.locals) 0x1_0000) (nat_lt (length f.stack) 0x1_0000) counts) in
    let locals : length g.locals ≤ local + 1 = locals_length to local context f fit in
    both (stands (now to earlier) g) (nat_lt (length g.locals) 0x1_0000 && nat_lt (length g.stack) 0x1_0000)
    (stands_now is to local context earlier f places at here stood)
    (both (nat_lt (length g.locals) 0x1_0000) (nat_lt (length g.stack) 0x1_0000) (lt-ltb (length g.locals) 0x1_0000 (omega arith)) (lt-ltb (length g.stack) 0x1_0000 (omega (arith, length-map f.stack (moved_type to)))))

all_follow : (is : List Placed) (to : ℕ → ℕ) (local context : ℕ) (earlier : Option ℕ) (fs : List FullFrame) → local < 0xffff → Places is to → AtPlace is earlier → StandAt is fs
    → AllByRecursion (λ f. widths f.locals ≤ local) fs → IsTrue (fits_from can_follow place_after earlier fs) → IsTrue (fits_from can_follow place_after (now to earlier) (map (moved_frame to local context) fs))
unfolding fits_from
all_follow is to local context earlier [] small places at stand fit h = refl
all_follow is to local context earlier (f ∷ fs) small places at stand fit h =
    let g = moved_frame to local context f in
    let here = first_true (is_place is (pos f.at)) (list_all (λ x. is_place is (pos x.at)) fs) stand in
    let others = second_true (is_place is (pos f.at)) (list_all (λ x. is_place is (pos x.at)) fs) stand in
    both (can_follow (now to earlier) g) (fits_from can_follow place_after (Some g.at) (map (moved_frame to local context) fs))
    (follow_now is to local context earlier f small places at here fit.0 (first_true (can_follow earlier f) (fits_from can_follow place_after (Some f.at) fs) h))
    (all_follow is to local context (Some f.at) fs small places here others fit.1 (second_true (can_follow earlier f) (fits_from can_follow place_after (Some f.at) fs) h))

pub written : Written
written begin s ks is e fits near small context fs stand fit h =
    let to = new_place begin s ks is in
    let gs = map (moved_frame to s.local context) fs in
    let places : Places is to = record {
      rises = λ p q is_p is_q lt. rise begin s ks is e fits p q is_p is_q lt;
      near = λ p. (let inside : to p ≤ end_of 0 (lines begin s ks is) = place_within p 0 (lines begin s ks is) in omega arith);
    } in
    let follow = first_true (fits_from can_follow place_after None fs) (nat_lt (length fs) 0x1_0000) h in
    let few : length fs < 0x1_0000 = ltb-true (length fs) 0x1_0000 (second_true (fits_from can_follow place_after None fs) (nat_lt (length fs) 0x1_0000) h) in
    both (fits_from can_follow place_after None gs) (nat_lt (length gs) 0x1_0000)
    (all_follow is to s.local context None fs small places tt stand (recursion_from_All (λ f. widths f.locals ≤ s.local) fs fit) follow)
    (lt-ltb (length gs) 0x1_0000 (omega (arith, length-map fs (moved_frame to s.local context))))

-- ---- items

type_fits : (to : ℕ → ℕ) (t : MapType) → ((p : ℕ) → to p ≤ 32767) → IsTrue (own_type.fits t) → IsTrue (own_type.fits (moved_type to t))
unfolding map_type
type_fits to types.Top near h = h
type_fits to types.Int near h = h
type_fits to types.Long near h = h
type_fits to types.Null near h = h
type_fits to types.UninitThis near h = h
type_fits to (types.Uninit n) near h = lt-ltb (to n) 0x1_0000 (let l = near n in omega arith)
type_fits to (types.Object n) near h = h

types_fit : (to : ℕ → ℕ) (ts : List MapType) → ((p : ℕ) → to p ≤ 32767) → IsTrue (list_all own_type.fits ts) → IsTrue (list_all own_type.fits (map (moved_type to) ts))
types_fit to [] near h = refl
types_fit to (t ∷ ts) near h =
    both (own_type.fits (moved_type to t)) (list_all own_type.fits (map (moved_type to) ts))
    (type_fits to t near (first_true (own_type.fits t) (list_all own_type.fits ts) h)) (types_fit to ts near (second_true (own_type.fits t) (list_all own_type.fits ts) h))

all_append : (xs ys : List MapType) → IsTrue (list_all own_type.fits xs) → IsTrue (list_all own_type.fits ys) → IsTrue (list_all own_type.fits (xs ++ ys))
all_append [] ys h e = e
all_append (x ∷ xs) ys h e =
    both (own_type.fits x) (list_all own_type.fits (xs ++ ys)) (first_true (own_type.fits x) (list_all own_type.fits xs) h) (all_append xs ys (second_true (own_type.fits x) (list_all own_type.fits xs) h) e)

object_fits : (n : ℕ) → n ≤ 0xffff → IsTrue (list_all own_type.fits (types.Object n ∷ []))
unfolding map_type
object_fits n h = both (nat_lt n 0x1_0000) true (lt-ltb n 0x1_0000 (omega arith)) refl

tops_fit : (n : ℕ) → IsTrue (list_all own_type.fits (replicate n types.Top))
unfolding map_type
tops_fit zero = refl
tops_fit (suc n) = tops_fit n

all_items : (to : ℕ → ℕ) (local context : ℕ) (fs : List FullFrame) → ((p : ℕ) → to p ≤ 32767) → context ≤ 0xffff → IsTrue (items_fit fs) → IsTrue (items_fit (map (moved_frame to local context) fs))
all_items to local context [] near small h = refl
all_items to local context (f ∷ fs) near small h =
    let g = moved_frame to local context f in
    let here = first_true (list_all own_type.fits f.locals && list_all own_type.fits f.stack) (items_fit fs) h in
    let locals = all_append (map (moved_type to) f.locals) (unsaid local f.locals ++ types.Object context ∷ []) (types_fit to f.locals near (first_true (list_all own_type.fits f.locals) (list_all own_type.fits f.stack) here))
    (all_append (unsaid local f.locals) (types.Object context ∷ []) (tops_fit (local - widths f.locals)) (object_fits context small)) in
    let stack = types_fit to f.stack near (second_true (list_all own_type.fits f.locals) (list_all own_type.fits f.stack) here) in
    both (list_all own_type.fits g.locals && list_all own_type.fits g.stack) (items_fit (map (moved_frame to local context) fs))
    (both (list_all own_type.fits g.locals) (list_all own_type.fits g.stack) locals stack)
    (all_items to local context fs near small (second_true (list_all own_type.fits f.locals && list_all own_type.fits f.stack) (items_fit fs) h))

pub items_fitting : ItemsFit
items_fitting begin s ks is near context fs small h =
    let to = new_place begin s ks is in
    all_items to s.local context fs (λ p. (let inside : to p ≤ end_of 0 (lines begin s ks is) = place_within p 0 (lines begin s ks is) in omega arith)) small h
