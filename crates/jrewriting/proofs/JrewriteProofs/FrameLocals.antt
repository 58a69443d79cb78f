-- The frames of a method that is well typed can be said in full, and keep to its locals.
use Rattle.std.proofs.Common.{◌≡◌, ℕ, ◌+◌, ◌-◌, ◌≤◌, Bool, true, false, not, List, [], ◌∷◌, length, map, reverse, Option, Some, None, Result, Ok, Err, refl, ap, sym, subst, arith}
use Rattle.std.specs.Prelude.{IsTrue, nat_le, option_map, replicate, ok_or}
use Rattle.std.specs.List.{AllByRecursion, list_all}
use Rattle.std.proofs.lemmas.Bool.{leb-true}
use Rattle.std.proofs.lemmas.List.{length-append}
use Rattle.jground.specs.jbase.FirstFaults.{fault_if, first_some, or_else}
use Rattle.jground.specs.jbase.MemoryFailures.{◌>>=◌}
use Rattle.jground.proofs.JbaseProofs.Firsts.{none_of}
use Rattle.jground.proofs.JformatProofs.ReadingSteps.{both, first_true, second_true}
use Rattle.jclass.specs.CodeFormat.{begins, frames_in}
use Rattle.jparts.specs.declared.jmaps.types.FullFrame.{FullFrame}
use Rattle.jparts.specs.declared.jmaps.types.MapType.{MapType}
use Rattle.jparts.specs.declared.jmaps.types.RawFrame.{RawFrame}
use Rattle.jparts.specs.jmaps.ExpandedFrames.{expand_from, locals_after, locals_before, place_behind, place_from, with_locals}
use Rattle.jclass.specs.declared.class.CodeBody.{CodeBody}
use Rattle.jtypes.specs.declared.vtype.VType.{VType}
use Rattle.jtypes.specs.declared.vtype.VType.TheVariants as types
use Rattle.jtypes.specs.TypeFrames.{places_of, within}
use Rattle.jmove.specs.MovedFrames.{widths}
use Rattle.jrewriting.specs.jmove_laws.FramePlaces.{StandAt}
use Rattle.jresolution.specs.jprogram.ProgramClasses.{Program}
use Rattle.jtyping.specs.jwelltyped.DeclaredFrames.{Written, continued, filled, frame_of, has_room, holds, is_good, item, written, written_from}
use Rattle.jtyping.specs.jwelltyped.MethodPremises.{Method, makes}
use Rattle.jtyping.specs.jwelltyped.VerifierTests.{frames_fault, method_fault}
use Rattle.jmoveclass.specs.MovedMembers.{frames_of}
use Rattle.jmoveclass.specs.ProofNames.{or_none}
use Rattle.jrewriting.proofs.JrewriteProofs.Widths.{Under, UnderSome, under_after, under_items, under_widths}

-- each of these frames is good
abbrev pub AllGood : Program → Method → List Written → Type 0
AllGood p m [] = Unit {0}
AllGood p m (w ∷ ws) = IsTrue (is_good p m w) × AllGood p m ws

good_or : (good : Bool) (at : ℕ) (later : Option ℕ) → or_else (fault_if (not good) at) later ≡ None → IsTrue good × (later ≡ None)
good_or true at later h = (refl, h)
good_or false at later h = absurd cc

all_good : (p : Program) (m : Method) (ws : List Written) → frames_fault p m ws ≡ None → AllGood p m ws
unfolding first_some
all_good p m [] h = tt
all_good p m (w ∷ ws) h = let g = good_or (is_good p m w) w.at (first_some (λ x. fault_if (not (is_good p m x)) x.at) ws) h in (g.0, all_good p m ws g.1)

-- ---- one frame

room : (body : CodeBody) (places stack : List VType) (flag : Bool) → IsTrue (has_room body (record { locals = filled body.max_locals places; stack = stack; flag = flag })) → length places ≤ body.max_locals
room body places stack flag h =
    let n = body.max_locals in
    let le : length (filled n places) ≤ n = leb-true (length (filled n places)) n (first_true (nat_le (length (filled n places)) n) (within body.max_stack stack) h) in
    let long : length (filled n places) ≡ length places + length (replicate (n - length places) types.Top) = length-append places (replicate (n - length places) types.Top) in
    omega arith

-- frames whose locals take no more than these, and that stand at instructions
abbrev pub Keep : CodeBody → List FullFrame → Type 0
Keep body fs = AllByRecursion (λ f. (widths f.locals ≤ body.max_locals) × IsTrue (begins body.ops f.at)) fs

-- frames that are there, and are such
abbrev Keeps : CodeBody → Result (List FullFrame) ℕ → Type 0
Keeps body (Ok fs) = Keep body fs
Keeps body (Err i) = ⊥

keeps_more : (body : CodeBody) (f : FullFrame) (r : Result (List FullFrame) ℕ) → widths f.locals ≤ body.max_locals → IsTrue (begins body.ops f.at) → Keeps body r → Keeps body (r >>= λ fs. Ok (f ∷ fs))
keeps_more body f (Ok fs) h b k = ((h, b), k)
keeps_more body f (Err i) h b k = absurd k

one_more : (p : Program) (m : Method) (first : List MapType) (i : ℕ) (e : Option FullFrame) (f : RawFrame) (fs : List RawFrame) (at : ℕ) (stack : List VType) (others : List VType → List Written) (ts : Option (List MapType)) (vs : Option (List VType))
    → place_behind e f.delta ≡ at → UnderSome ts vs → AllGood p m (continued m.body.max_locals at stack others vs)
    → ((locals : List MapType) (values : List VType) → Under locals values → AllGood p m (others values) → Keeps m.body (expand_from first (i + 1) (Some (record { at = place_behind e f.delta; locals = locals; stack = f.stack })) fs))
    → Keeps m.body (ok_or (with_locals e f ts) i >>= λ full. expand_from first (i + 1) (Some full) fs >>= λ rest. Ok (full ∷ rest))
one_more p m first i e f fs at stack others None None same u good more =
    let no : false ≡ true = second_true (begins m.body.ops at) false good.0 in absurd cc
one_more p m first i e f fs at stack others None (Some values) same u good more = absurd u
one_more p m first i e f fs at stack others (Some locals) None same u good more = absurd u
one_more p m first i e f fs at stack others (Some locals) (Some values) same u good more =
    let frame = frame_of m.body.max_locals values stack in
    let has = first_true (has_room m.body frame) _ (second_true (begins m.body.ops at) (holds m.body (makes p m) (Some frame)) good.0) in
    let here = first_true (begins m.body.ops at) (holds m.body (makes p m) (Some frame)) good.0 in
    let few : length (places_of values) ≤ m.body.max_locals = room m.body (places_of values) stack frame.flag has in
    let wide : widths locals ≤ length (places_of values) = under_widths locals values u in
    keeps_more m.body (record { at = place_behind e f.delta; locals = locals; stack = f.stack }) _ (omega arith) (subst (λ (q : ℕ). IsTrue (begins m.body.ops q)) (sym same) here) (more locals values u good.1)

framed_from : (p : Program) (m : Method) (first : List MapType) (i : ℕ) (e : Option FullFrame) (earlier : Option ℕ) (before : List VType) (fs : List RawFrame) → earlier ≡ option_map (λ x. x.at) e → Under (locals_before first e) before
    → AllGood p m (written_from p m.pool m.body.max_locals earlier before fs) → Keeps m.body (expand_from first i e fs)
unfolding written_from expand_from
framed_from p m first i e earlier before [] is u good = tt
framed_from p m first i e earlier before (f ∷ fs) is u good =
    let same : place_behind e f.delta ≡ place_from earlier f.delta = ap (λ (o : Option ℕ). place_from o f.delta) (sym is) in
    let at = place_from earlier f.delta in
    let stack = reverse (map (item p m.pool) f.stack) in
    one_more p m first i e f fs at stack (λ values. written_from p m.pool m.body.max_locals (Some at) values fs) (locals_after f.form f.locals (locals_before first e)) (locals_after f.form (map (item p m.pool) f.locals) before) same
    (under_after f.form f.locals (locals_before first e) (map (item p m.pool) f.locals) before (under_items p m.pool f.locals) u) good
    (λ locals values v others. framed_from p m first (i + 1) (Some (record { at = place_behind e f.delta; locals = locals; stack = f.stack })) (Some at) values fs (ap (λ (q : ℕ). Some q) (sym same)) v others)

all_keep : (body : CodeBody) (r : Result (List FullFrame) ℕ) → Keeps body r → Keep body (or_none r)
all_keep body (Ok fs) h = h
all_keep body (Err i) h = absurd h

pub wide_of : (body : CodeBody) (fs : List FullFrame) → Keep body fs → AllByRecursion (λ f. widths f.locals ≤ body.max_locals) fs
wide_of body [] h = tt
wide_of body (f ∷ fs) h = (h.0.0, wide_of body fs h.1)

pub stand_of : (body : CodeBody) (fs : List FullFrame) → Keep body fs → StandAt body.ops fs
stand_of body [] h = refl
stand_of body (f ∷ fs) h = both (begins body.ops f.at) (list_all (λ x. begins body.ops x.at) fs) h.0.1 (stand_of body fs h.1)

-- ---- the frames that are written

-- where the method begins with what typing has
pub framed : (p : Program) (m : Method) (first : List MapType) → Under first m.params → method_fault p m ≡ None → Keep m.body (frames_of first m.body)
unfolding method_fault written frames_of
framed p m first u h =
    let ws = written_from p m.pool m.body.max_locals None m.params (frames_in m.body) in
    let none = none_of (frames_fault p m ws) _ h in
    all_keep m.body (expand_from first 0 None (frames_in m.body)) (framed_from p m first 0 None None m.params (frames_in m.body) refl u (all_good p m ws none.0))
