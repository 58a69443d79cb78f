-- The frames of moved code, as they are written in a class file.
use Rattle.std.proofs.Common.{◌≡◌, ℕ, zero, suc, ◌+◌, ◌-◌, ◌≤◌, ◌<◌, Bool, true, false, cond, ◌&&◌, List, [], ◌∷◌, ◌++◌, length, map, replicate, Option, Some, None, Result, Ok, Err, refl, ap, arith}
use Rattle.std.specs.Prelude.{All, IsTrue, nat_lt, ◌==◌, ok_or}
use Rattle.std.specs.List.{AllByRecursion, list_all}
use Rattle.std.proofs.lemmas.Bool.{eqb-true, lt-ltb, ltb-true}
use Rattle.jground.specs.jbase.FirstFaults.{first_some}
use Rattle.jground.specs.jbase.MemoryFailures.{◌>>=◌}
use Rattle.jground.specs.jformat.BodyFormats.{block, counted}
use Rattle.jground.specs.jformat.Format.{is_good}
use Rattle.jground.specs.jformat.StatefulFormats.{fits_from}
use Rattle.jground.specs.ProofNames.{row_fits}
use Rattle.jground.proofs.JformatProofs.ReadingSteps.{both, first_true, second_true}
use Rattle.jparts.specs.declared.jpool.entry.Entry.{Entry}
use Rattle.jparts.specs.jpool.ConstantPools.{is_class}
use Rattle.jparts.specs.declared.jcode.op.Op.{Op}
use Rattle.jparts.specs.declared.jcode.op.Placed.{Placed}
use Rattle.jparts.specs.declared.jmaps.types.FullFrame.{FullFrame}
use Rattle.jparts.specs.declared.jmaps.types.MapType.{MapType}
use Rattle.jparts.specs.declared.jmaps.types.MapType.TheVariants as items
use Rattle.jparts.specs.declared.jmaps.types.RawFrame.{RawFrame}
use Rattle.jparts.specs.declared.jmaps.types.Row.{Row}
use Rattle.jparts.specs.jmaps.StackMapFormat as own
use Rattle.jparts.specs.jmaps.StackMapFormat.{body, frame, frames, map_type, own_type, part, row}
use Rattle.jparts.specs.ProofNames.{or_kind}
use Rattle.jparts.specs.jmaps.ExpandedFrames.{can_follow, can_write, expand_from, full_forms, items_fit, locals_after, locals_before, place_after, place_behind, stands, with_locals}
use Rattle.jparts.proofs.JmapsProofs.FullLaws.{expands_in_order, few_frames}
use Rattle.jclass.specs.declared.class.CodeAttribute.{CodeAttribute}
use Rattle.jclass.specs.declared.class.CodeAttribute.TheVariants as code
use Rattle.jclass.specs.declared.fault.ClassFault.TheVariants as kinds
use Rattle.jclass.specs.Attributes.{name_once}
use Rattle.jclass.specs.IndexFormats.{u4}
use Rattle.jclass.specs.CodeFormat.{attribute, frame_kinds, maps, named_type, plain_type, saw_maps, type_fault, maps_of}
use Rattle.jclass.specs.FlagRules.{is_maps}
use Rattle.jmove.specs.declared.method.Expand.{Expand}
use Rattle.jmove.specs.declared.method.Setting.{Setting}
use Rattle.jmove.specs.PoolAdditions.{IsFront}
use Rattle.jmove.specs.MovedFrames.{moved_frame, moved_type, widths}
use Rattle.jmove.specs.ProofNames.{unsaid, width}
use Rattle.jmove.specs.AssemblyLines.{end_of}
use Rattle.jmove.specs.MethodExpansion.{lines}
use Rattle.jmove.proofs.LabelTables.{place_within}
use Rattle.jrewriting.specs.jmove_laws.FramePlaces.{StandAt, new_frame}
use Rattle.jrewriting.specs.jmove_laws.InstructionNumbers.{new_place}
use Rattle.jrewriting.proofs.JmoveLawsProofs.FramePlaces as moving
use Rattle.jmoveclass.specs.ProofNames.{or_no_frames, or_none}
use Rattle.jmoveclass.proofs.DemandPreservation.{all_on}
use Rattle.jrewriting.proofs.JmoveclassLawsProofs.PrologueClasses.{AreItems, items_on, object_is}
use Rattle.jrewriting.proofs.JmoveclassLawsProofs.CallReferences.{IsContext}
use Rattle.jrewriting.proofs.JmoveclassLawsProofs.TextSplits.{all_join}
use Rattle.jrewriting.proofs.JmoveclassLawsProofs.FrameClasses.{AllItems, RawItems, named_fits}
use Rattle.jrewriting.proofs.JmoveclassLawsProofs.HandlerFormat.{Moves}

-- ---- the frames of old code

none_fit : (pool : List Entry) → IsTrue ((maps pool).fits [])
unfolding maps frames
none_fit pool = refl

maps_some : (pool : List Entry) (seen : Bool) (xs : List CodeAttribute) → IsTrue (fits_from (λ t. (attribute pool t).fits) saw_maps seen xs) → IsTrue ((maps pool).fits (or_no_frames (first_some maps_of xs)))
unfolding fits_from attribute first_some
maps_some pool seen [] h = none_fit pool
maps_some pool seen (code.Maps name fs ∷ xs) h =
    let one = first_true ((attribute pool seen).fits (code.Maps name fs)) (fits_from (λ t. (attribute pool t).fits) saw_maps true xs) h in
    let inside = second_true ((name_once pool (is_maps pool) kinds.Maps seen).fits name) (is_maps pool name && (block u4 kinds.Truncated (maps pool)).fits fs) one in
    first_true ((maps pool).fits fs) (u4.fits (length ((maps pool).spell fs))) (second_true (is_maps pool name) ((block u4 kinds.Truncated (maps pool)).fits fs) inside)
maps_some pool seen (code.Raw name bytes ∷ xs) h = maps_some pool seen xs (second_true ((attribute pool seen).fits (code.Raw name bytes)) (fits_from (λ t. (attribute pool t).fits) saw_maps seen xs) h)

pub frames_there : (pool : List Entry) (xs : List CodeAttribute) → IsTrue (fits_from (λ t. (attribute pool t).fits) saw_maps false xs) → IsTrue ((maps pool).fits (or_no_frames (first_some maps_of xs)))
frames_there pool xs h = maps_some pool false xs h

pub raw_on : (base whole : List Entry) → IsFront base whole → (fs : List RawFrame) → RawItems base fs → RawItems whole fs
raw_on base whole f [] h = tt
raw_on base whole f (x ∷ fs) h = ((items_on base whole f x.locals h.0.0, items_on base whole f x.stack h.0.1), raw_on base whole f fs h.1)

-- ---- how many items are on a stack

abbrev Few : Option Row → Type 0
Few None = Unit {0}
Few (Some r) = (n : ℕ) → IsTrue ((part frame_kinds.truncated r.stack).fits n) → n < 65536

few_cond : (b : Bool) (x y : Option Row) → Few x → Few y → Few (cond b x y)
few_cond true x y h k = h
few_cond false x y h k = k

given_few : (k n : ℕ) → k ≤ 1 → IsTrue (n == k) → n < 65536
given_few k n h e = let same : n ≡ k = eqb-true n k e in omega arith

written_few : (n : ℕ) → IsTrue (nat_lt n 65536) → n < 65536
written_few n h = ltb-true n 65536 h

row_few : (t : ℕ) → Few (row t)
unfolding row
row_few t =
    few_cond (nat_lt t 64) _ _ (λ n h. given_few 0 n (omega arith) h)
    (few_cond (nat_lt t 128) _ _ (λ n h. given_few 1 n (omega arith) h)
    (few_cond (nat_lt t 247) _ _ tt
    (few_cond (nat_lt t 248) _ _ (λ n h. given_few 1 n (omega arith) h)
    (few_cond (nat_lt t 252) _ _ (λ n h. given_few 0 n (omega arith) h)
    (few_cond (nat_lt t 255) _ _ (λ n h. given_few 0 n (omega arith) h) (λ n h. written_few n h))))))

row_stack : (pool : List Entry) (a : ℕ × (List MapType × List MapType)) (o : Option Row) → Few o → IsTrue (row_fits (body frame_kinds.truncated (named_type pool)) a (or_kind frame_kinds.reserved o)) → length a.1.1 < 65536
row_stack pool a None few h = absurd cc
row_stack pool a (Some r) few h =
    let f = named_type pool in
    let cut = frame_kinds.truncated in
    let locals = counted (part cut r.locals) f in
    let stack = counted (part cut r.stack) f in
    let items = second_true ((part cut r.delta).fits a.0) (locals.fits a.1.0 && stack.fits a.1.1) h in
    few (length a.1.1) (second_true (list_all f.fits a.1.1) ((part cut r.stack).fits (length a.1.1)) (second_true (locals.fits a.1.0) (stack.fits a.1.1) items))

frame_stack : (pool : List Entry) (x : RawFrame) → IsTrue ((frame frame_kinds (named_type pool)).fits x) → length x.stack < 65536
unfolding frame
frame_stack pool x h =
    let parts : ℕ × (List MapType × List MapType) = (x.delta, (x.locals, x.stack)) in
    row_stack pool parts (row x.form) (row_few x.form) (second_true (nat_lt x.form 256) (row_fits (body frame_kinds.truncated (named_type pool)) parts (or_kind frame_kinds.reserved (row x.form))) h)

abbrev Low : List RawFrame → Type 0
Low fs = AllByRecursion (λ f. length f.stack < 65536) fs

all_low : (pool : List Entry) (fs : List RawFrame) → IsTrue (list_all (frame frame_kinds (named_type pool)).fits fs) → Low fs
all_low pool [] h = tt
all_low pool (f ∷ fs) h =
    let one = (frame frame_kinds (named_type pool)).fits f in
    let others = list_all (frame frame_kinds (named_type pool)).fits fs in
    (frame_stack pool f (first_true one others h), all_low pool fs (second_true one others h))

raw_low : (pool : List Entry) (fs : List RawFrame) → IsTrue ((maps pool).fits fs) → Low fs
unfolding maps frames
raw_low pool fs h = all_low pool fs (first_true (list_all (frame frame_kinds (named_type pool)).fits fs) (nat_lt (length fs) 65536) h)

-- as many frames in full, with the same stacks
abbrev Ended : ℕ → Result (List FullFrame) ℕ → Type 0
Ended n (Ok fs) = (length fs ≡ n) × AllByRecursion (λ f. length f.stack < 65536) fs
Ended n (Err i) = Unit {0}

more_ended : (n : ℕ) (f : FullFrame) (r : Result (List FullFrame) ℕ) → length f.stack < 65536 → Ended n r → Ended (suc n) (r >>= λ fs. Ok (f ∷ fs))
more_ended n f (Ok fs) h k = (ap suc k.0, (h, k.1))
more_ended n f (Err i) h k = tt

one_ended : (first : List MapType) (i : ℕ) (e : Option FullFrame) (f : RawFrame) (fs : List RawFrame) (ts : Option (List MapType)) → length f.stack < 65536
    → ((locals : List MapType) → Ended (length fs) (expand_from first (i + 1) (Some (record { at = place_behind e f.delta; locals = locals; stack = f.stack })) fs))
    → Ended (suc (length fs)) (ok_or (with_locals e f ts) i >>= λ full. expand_from first (i + 1) (Some full) fs >>= λ others. Ok (full ∷ others))
one_ended first i e f fs None h more = tt
one_ended first i e f fs (Some locals) h more =
    let full : FullFrame = record { at = place_behind e f.delta; locals = locals; stack = f.stack } in
    more_ended (length fs) full (expand_from first (i + 1) (Some full) fs) h (more locals)

expand_ended : (first : List MapType) (i : ℕ) (e : Option FullFrame) (fs : List RawFrame) → Low fs → Ended (length fs) (expand_from first i e fs)
unfolding expand_from
expand_ended first i e [] h = (refl, tt)
expand_ended first i e (f ∷ fs) h =
    one_ended first i e f fs (locals_after f.form f.locals (locals_before first e)) h.0 (λ locals. expand_ended first (i + 1) (Some (record { at = place_behind e f.delta; locals = locals; stack = f.stack })) fs h.1)

-- ---- frames that can be written

width_some : (t : MapType) → 1 ≤ width t
width_some items.Top = omega arith
width_some items.Int = omega arith
width_some items.Long = omega arith
width_some items.Null = omega arith
width_some items.UninitThis = omega arith
width_some (items.Uninit n) = omega arith
width_some (items.Object n) = omega arith

some_width : (ts : List MapType) → length ts ≤ widths ts
some_width [] = omega arith
some_width (t ∷ ts) = omega (arith, width_some t, some_width ts)

follow_all : (most : ℕ) (e : Option ℕ) (fs : List FullFrame) → most ≤ 65535 → IsTrue (fits_from stands place_after e fs) → AllByRecursion (λ f. widths f.locals ≤ most) fs → AllByRecursion (λ f. length f.stack < 65536) fs
    → IsTrue (fits_from can_follow place_after e fs)
unfolding fits_from
follow_all most e [] few h k l = refl
follow_all most e (f ∷ fs) few h k l =
    let locals : length f.locals < 65536 = omega (arith, some_width f.locals, k.0) in
    both (can_follow e f) (fits_from can_follow place_after (Some f.at) fs)
    (both (stands e f) (nat_lt (length f.locals) 65536 && nat_lt (length f.stack) 65536) (first_true (stands e f) (fits_from stands place_after (Some f.at) fs) h)
    (both (nat_lt (length f.locals) 65536) (nat_lt (length f.stack) 65536) (lt-ltb (length f.locals) 65536 locals) (lt-ltb (length f.stack) 65536 l.0)))
    (follow_all most (Some f.at) fs few (second_true (stands e f) (fits_from stands place_after (Some f.at) fs) h) k.1 l.1)

writes_by : (most : ℕ) (first : List MapType) (raws : List RawFrame) (r : Result (List FullFrame) ℕ) → most ≤ 65535 → expand_from first 0 None raws ≡ r → IsTrue (own.maps.fits raws) → Ended (length raws) r
    → AllByRecursion (λ f. widths f.locals ≤ most) (or_none r) → IsTrue (can_write (or_none r))
unfolding fits_from
writes_by most first raws (Ok fs) few e fit k w =
    let less : length raws < 65536 = few_frames raws fit in
    both (fits_from can_follow place_after None fs) (nat_lt (length fs) 65536) (follow_all most None fs few (expands_in_order first raws fs fit e) w k.1) (lt-ltb (length fs) 65536 (let same : length fs ≡ length raws = k.0 in omega arith))
writes_by most first raws (Err i) few e fit k w = refl

pub can_write_full : (pool : List Entry) (most : ℕ) (first : List MapType) (raws : List RawFrame) → most ≤ 65535 → IsTrue ((maps pool).fits raws) → IsTrue (own.maps.fits raws) → AllByRecursion (λ f. widths f.locals ≤ most) (or_none (expand_from first 0 None raws))
    → IsTrue (can_write (or_none (expand_from first 0 None raws)))
can_write_full pool most first raws few fit own_fit w = writes_by most first raws (expand_from first 0 None raws) few refl own_fit (expand_ended first 0 None raws (raw_low pool raws fit)) w

-- ---- items

own_one : (pool : List Entry) (t : MapType) → IsTrue ((named_type pool).fits t) → IsTrue (own_type.fits t)
unfolding map_type
own_one pool t f = first_true (plain_type.fits t) (is_good (type_fault pool t)) f

all_own : (pool : List Entry) (fs : List FullFrame) → AllItems pool fs → IsTrue (items_fit fs)
all_own pool [] h = refl
all_own pool (f ∷ fs) h =
    both (list_all own_type.fits f.locals && list_all own_type.fits f.stack) (items_fit fs)
    (both (list_all own_type.fits f.locals) (list_all own_type.fits f.stack) (all_on (named_type pool).fits own_type.fits (own_one pool) f.locals h.0.0) (all_on (named_type pool).fits own_type.fits (own_one pool) f.stack h.0.1))
    (all_own pool fs h.1)

moved_item : (pool : List Entry) (to : ℕ → ℕ) (t : MapType) → ((p : ℕ) → to p ≤ 32767) → IsTrue ((named_type pool).fits t) → IsTrue ((named_type pool).fits (moved_type to t))
unfolding map_type
moved_item pool to items.Top near h = h
moved_item pool to items.Int near h = h
moved_item pool to items.Long near h = h
moved_item pool to items.Null near h = h
moved_item pool to items.UninitThis near h = h
moved_item pool to (items.Uninit n) near h = both (nat_lt (to n) 65536) true (lt-ltb (to n) 65536 (let l = near n in omega arith)) refl
moved_item pool to (items.Object n) near h = h

moved_items : (pool : List Entry) (to : ℕ → ℕ) (ts : List MapType) → ((p : ℕ) → to p ≤ 32767) → AreItems pool ts → AreItems pool (map (moved_type to) ts)
moved_items pool to [] near h = refl
moved_items pool to (t ∷ ts) near h =
    let f = (named_type pool).fits in
    both (f (moved_type to t)) (list_all f (map (moved_type to) ts)) (moved_item pool to t near (first_true (f t) (list_all f ts) h)) (moved_items pool to ts near (second_true (f t) (list_all f ts) h))

tops : (pool : List Entry) (n : ℕ) → AreItems pool (replicate n items.Top)
unfolding map_type
tops pool zero = refl
tops pool (suc n) = tops pool n

one_item : (pool : List Entry) (t : MapType) → IsTrue ((named_type pool).fits t) → AreItems pool (t ∷ [])
one_item pool t h = both ((named_type pool).fits t) true h refl

moved_all : (pool : List Entry) (to : ℕ → ℕ) (local context : ℕ) (fs : List FullFrame) → ((p : ℕ) → to p ≤ 32767) → context ≤ 0xffff → IsTrue (is_class pool context) → AllItems pool fs → AllItems pool (map (moved_frame to local context) fs)
moved_all pool to local context [] near small is h = tt
moved_all pool to local context (f ∷ fs) near small is h =
    let fits = (named_type pool).fits in
    let last : List MapType = items.Object context ∷ [] in
    let behind = all_join fits (unsaid local f.locals) last (tops pool (local - widths f.locals)) (one_item pool (items.Object context) (object_is pool context small is)) in
    let locals = all_join fits (map (moved_type to) f.locals) (unsaid local f.locals ++ last) (moved_items pool to f.locals near h.0.0) behind in
    ((locals, moved_items pool to f.stack near h.0.1), moved_all pool to local context fs near small is h.1)

-- ---- the frames of moved code

nothing_fits : (pool : List Entry) → IsTrue ((maps pool).fits (full_forms None []))
unfolding maps frames full_forms
nothing_fits pool = refl

pub moved_frames_fit : (pool : List Entry) (begin : List Op) (s : Setting) (ks : List Expand) (is : List Placed) → Moves begin s ks is → s.local < 0xffff → (context : ℕ) (fs : List FullFrame) → IsContext pool fs context
    → StandAt is fs → All (λ f. widths f.locals ≤ s.local) fs → IsTrue (can_write fs) → AllItems pool fs → IsTrue ((maps pool).fits (full_forms None (map (new_frame begin s ks is context) fs)))
moved_frames_fit pool begin s ks is m small context [] there stand wide write named = nothing_fits pool
moved_frames_fit pool begin s ks is m small context (f ∷ fs) there stand wide write named =
    let to = new_place begin s ks is in
    let gs = map (new_frame begin s ks is context) (f ∷ fs) in
    let near : (p : ℕ) → to p ≤ 32767 = λ p. (let inside : to p ≤ end_of 0 (lines begin s ks is) = place_within p 0 (lines begin s ks is) in let less : end_of 0 (lines begin s ks is) ≤ 32767 = m.near in omega arith) in
    named_fits pool gs (moving.written begin s ks is m.each m.old m.near small context (f ∷ fs) stand wide write)
    (moving.items_fitting begin s ks is m.near context (f ∷ fs) there.0 (all_own pool (f ∷ fs) named))
    (moved_all pool to s.local context (f ∷ fs) near there.0 there.1 named)
