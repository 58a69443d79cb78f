-- Frames whose classes are there: those that a class file has, those in full, and those that are written again.
use Rattle.std.proofs.Common.{ℕ, zero, suc, ◌+◌, ◌-◌, Bool, true, false, cond, ◌&&◌, List, [], ◌∷◌, length, Option, Some, None, Result, Ok, Err, refl}
use Rattle.std.specs.Prelude.{IsTrue, nat_le, nat_lt, take, ok_or}
use Rattle.std.specs.List.{AllByRecursion, list_all}
use Rattle.jground.specs.jbase.MemoryFailures.{◌>>=◌}
use Rattle.jground.specs.jformat.BodyFormats.{counted}
use Rattle.jground.specs.ProofNames.{row_fits}
use Rattle.jground.proofs.JformatProofs.ReadingSteps.{both, first_true, second_true}
use Rattle.jparts.specs.declared.jpool.entry.Entry.{Entry}
use Rattle.jparts.specs.declared.jmaps.types.FullFrame.{FullFrame}
use Rattle.jparts.specs.declared.jmaps.types.MapType.{MapType}
use Rattle.jparts.specs.declared.jmaps.types.RawFrame.{RawFrame}
use Rattle.jparts.specs.declared.jmaps.types.Row.{Row}
use Rattle.jparts.specs.jmaps.StackMapFormat as own
use Rattle.jparts.specs.jmaps.StackMapFormat.{body, frame, frames, own_frame, own_type, part, row}
use Rattle.jparts.specs.ProofNames.{or_kind}
use Rattle.jparts.specs.jmaps.ExpandedFrames.{can_write, delta_behind, expand_from, full_form, full_forms, items_fit, locals_after, locals_before, place_behind, with_locals}
use Rattle.jparts.proofs.JmapsProofs.FullLaws.{written_fits}
use Rattle.jclass.specs.declared.class.CodeBody.{CodeBody}
use Rattle.jclass.specs.CodeFormat.{frame_kinds, maps, named_type, frames_in}
use Rattle.jmoveclass.specs.MovedMembers.{frames_of}
use Rattle.jmoveclass.specs.ProofNames.{or_none}
use Rattle.jrewriting.proofs.JmoveclassLawsProofs.PrologueClasses.{AreItems}
use Rattle.jrewriting.proofs.JmoveclassLawsProofs.TextSplits.{all_join}

abbrev pub AllItems : List Entry → List FullFrame → Type 0
AllItems pool fs = AllByRecursion (λ f. AreItems pool f.locals × AreItems pool f.stack) fs

abbrev pub RawItems : List Entry → List RawFrame → Type 0
RawItems pool fs = AllByRecursion (λ f. AreItems pool f.locals × AreItems pool f.stack) fs

-- ---- the frames of a class file

row_items : (pool : List Entry) (a : ℕ × (List MapType × List MapType)) (o : Option Row) → IsTrue (row_fits (body frame_kinds.truncated (named_type pool)) a (or_kind frame_kinds.reserved o)) → AreItems pool a.1.0 × AreItems pool a.1.1
row_items pool a None h = absurd cc
row_items pool a (Some r) h =
    let f = named_type pool in
    let cut = frame_kinds.truncated in
    let locals = counted (part cut r.locals) f in
    let stack = counted (part cut r.stack) f in
    let items = second_true ((part cut r.delta).fits a.0) (locals.fits a.1.0 && stack.fits a.1.1) h in (
      first_true (list_all f.fits a.1.0) ((part cut r.locals).fits (length a.1.0)) (first_true (locals.fits a.1.0) (stack.fits a.1.1) items),
      first_true (list_all f.fits a.1.1) ((part cut r.stack).fits (length a.1.1)) (second_true (locals.fits a.1.0) (stack.fits a.1.1) items),
    )

frame_items : (pool : List Entry) (x : RawFrame) → IsTrue ((frame frame_kinds (named_type pool)).fits x) → AreItems pool x.locals × AreItems pool x.stack
unfolding frame
frame_items pool x h =
    let parts : ℕ × (List MapType × List MapType) = (x.delta, (x.locals, x.stack)) in
    row_items pool parts (row x.form) (second_true (nat_lt x.form 256) (row_fits (body frame_kinds.truncated (named_type pool)) parts (or_kind frame_kinds.reserved (row x.form))) h)

all_raw : (pool : List Entry) (fs : List RawFrame) → IsTrue (list_all (frame frame_kinds (named_type pool)).fits fs) → RawItems pool fs
all_raw pool [] h = tt
all_raw pool (f ∷ fs) h =
    let one = (frame frame_kinds (named_type pool)).fits f in
    let others = list_all (frame frame_kinds (named_type pool)).fits fs in
    (frame_items pool f (first_true one others h), all_raw pool fs (second_true one others h))

pub raw_items : (pool : List Entry) (fs : List RawFrame) → IsTrue ((maps pool).fits fs) → RawItems pool fs
unfolding maps frames
raw_items pool fs h = all_raw pool fs (first_true (list_all (frame frame_kinds (named_type pool)).fits fs) (nat_lt (length fs) 65536) h)

-- ---- in full

take_items : (pool : List Entry) (n : ℕ) (ts : List MapType) → AreItems pool ts → AreItems pool (take n ts)
take_items pool zero ts h = refl
take_items pool (suc n) [] h = refl
take_items pool (suc n) (t ∷ ts) h =
    let f = named_type pool in
    both (f.fits t) (list_all f.fits (take n ts)) (first_true (f.fits t) (list_all f.fits ts) h) (take_items pool n ts (second_true (f.fits t) (list_all f.fits ts) h))

abbrev SomeItems : List Entry → Option (List MapType) → Type 0
SomeItems pool None = Unit {0}
SomeItems pool (Some ts) = AreItems pool ts

some_cond : (pool : List Entry) (b : Bool) (x y : Option (List MapType)) → SomeItems pool x → SomeItems pool y → SomeItems pool (cond b x y)
some_cond pool true x y h k = h
some_cond pool false x y h k = k

after_items : (pool : List Entry) (form : ℕ) (written before : List MapType) → AreItems pool written → AreItems pool before → SomeItems pool (locals_after form written before)
unfolding locals_after
after_items pool form written before h k =
    let n = 251 - form in
    some_cond pool (nat_lt form 248) _ _ k
    (some_cond pool (nat_lt form 251) _ _ (some_cond pool (nat_le n (length before)) (Some (take (length before - n) before)) None (take_items pool (length before - n) before k) tt)
    (some_cond pool (nat_lt form 252) _ _ k
    (some_cond pool (nat_lt form 255) _ _ (all_join (named_type pool).fits before written k h) h)))

abbrev OfResult : List Entry → Result (List FullFrame) ℕ → Type 0
OfResult pool (Ok fs) = AllItems pool fs
OfResult pool (Err i) = Unit {0}

more_items : (pool : List Entry) (f : FullFrame) (r : Result (List FullFrame) ℕ) → AreItems pool f.locals → AreItems pool f.stack → OfResult pool r → OfResult pool (r >>= λ fs. Ok (f ∷ fs))
more_items pool f (Ok fs) h k g = ((h, k), g)
more_items pool f (Err i) h k g = tt

one_frame : (pool : List Entry) (first : List MapType) (i : ℕ) (e : Option FullFrame) (f : RawFrame) (fs : List RawFrame) (ts : Option (List MapType)) → SomeItems pool ts → AreItems pool f.stack
    → ((locals : List MapType) → AreItems pool locals → OfResult pool (expand_from first (i + 1) (Some (record { at = place_behind e f.delta; locals = locals; stack = f.stack })) fs))
    → OfResult pool (ok_or (with_locals e f ts) i >>= λ full. expand_from first (i + 1) (Some full) fs >>= λ others. Ok (full ∷ others))
one_frame pool first i e f fs None h k more = tt
one_frame pool first i e f fs (Some locals) h k more =
    let full : FullFrame = record { at = place_behind e f.delta; locals = locals; stack = f.stack } in
    more_items pool full (expand_from first (i + 1) (Some full) fs) h k (more locals h)

expand_items : (pool : List Entry) (first : List MapType) (i : ℕ) (e : Option FullFrame) (fs : List RawFrame) → AreItems pool (locals_before first e) → RawItems pool fs → OfResult pool (expand_from first i e fs)
unfolding expand_from
expand_items pool first i e [] h k = tt
expand_items pool first i e (f ∷ fs) h k =
    one_frame pool first i e f fs (locals_after f.form f.locals (locals_before first e)) (after_items pool f.form f.locals (locals_before first e) k.0.0 h) k.0.1
    (λ locals g. expand_items pool first (i + 1) (Some (record { at = place_behind e f.delta; locals = locals; stack = f.stack })) fs g k.1)

all_of : (pool : List Entry) (r : Result (List FullFrame) ℕ) → OfResult pool r → AllItems pool (or_none r)
all_of pool (Ok fs) h = h
all_of pool (Err i) h = tt

-- the frames of a code in full name classes that are there
pub full_items : (pool : List Entry) (first : List MapType) (b : CodeBody) → AreItems pool first → RawItems pool (frames_in b) → AllItems pool (frames_of first b)
unfolding frames_of
full_items pool first b h k = all_of pool (expand_from first 0 None (frames_in b)) (expand_items pool first 0 None (frames_in b) h k)

-- ---- written again

form_named : (pool : List Entry) (e : Option ℕ) (f : FullFrame) → IsTrue (own_frame.fits (full_form e f)) → AreItems pool f.locals → AreItems pool f.stack → IsTrue ((frame frame_kinds (named_type pool)).fits (full_form e f))
unfolding frame row
form_named pool e f h locals stack =
    let delta = nat_lt (delta_behind e f.at) 65536 in
    let many = nat_lt (length f.locals) 65536 in
    let deep = nat_lt (length f.stack) 65536 in
    let a : IsTrue (delta && ((list_all own_type.fits f.locals && many) && (list_all own_type.fits f.stack && deep))) = h in
    let b = second_true delta ((list_all own_type.fits f.locals && many) && (list_all own_type.fits f.stack && deep)) a in
    let c = first_true (list_all own_type.fits f.locals && many) (list_all own_type.fits f.stack && deep) b in
    let d = second_true (list_all own_type.fits f.locals && many) (list_all own_type.fits f.stack && deep) b in
    let g = named_type pool in
    both delta ((list_all g.fits f.locals && many) && (list_all g.fits f.stack && deep))
    (first_true delta ((list_all own_type.fits f.locals && many) && (list_all own_type.fits f.stack && deep)) a)
    (both (list_all g.fits f.locals && many) (list_all g.fits f.stack && deep)
    (both (list_all g.fits f.locals) many locals (second_true (list_all own_type.fits f.locals) many c))
    (both (list_all g.fits f.stack) deep stack (second_true (list_all own_type.fits f.stack) deep d)))

forms_named : (pool : List Entry) (e : Option ℕ) (fs : List FullFrame) → IsTrue (list_all own_frame.fits (full_forms e fs)) → AllItems pool fs → IsTrue (list_all (frame frame_kinds (named_type pool)).fits (full_forms e fs))
unfolding full_forms
forms_named pool e [] h k = refl
forms_named pool e (f ∷ fs) h k =
    let one = own_frame.fits (full_form e f) in
    let others = list_all own_frame.fits (full_forms (Some f.at) fs) in
    both ((frame frame_kinds (named_type pool)).fits (full_form e f)) (list_all (frame frame_kinds (named_type pool)).fits (full_forms (Some f.at) fs))
    (form_named pool e f (first_true one others h) k.0.0 k.0.1) (forms_named pool (Some f.at) fs (second_true one others h) k.1)

-- frames that can be written and name classes that are there are those of a class file
pub named_fits : (pool : List Entry) (fs : List FullFrame) → IsTrue (can_write fs) → IsTrue (items_fit fs) → AllItems pool fs → IsTrue ((maps pool).fits (full_forms None fs))
unfolding maps frames own.maps
named_fits pool fs write fit k =
    let gs = full_forms None fs in
    let own_fits : IsTrue (list_all own_frame.fits gs && nat_lt (length gs) 65536) = written_fits fs write fit in
    both (list_all (frame frame_kinds (named_type pool)).fits gs) (nat_lt (length gs) 65536) (forms_named pool None fs (first_true (list_all own_frame.fits gs) (nat_lt (length gs) 65536) own_fits) k)
    (second_true (list_all own_frame.fits gs) (nat_lt (length gs) 65536) own_fits)
