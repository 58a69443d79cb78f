-- How a method begins, by number and by name.
use Rattle.std.proofs.Common.{◌≡◌, ◌≤◌, ◌<◌, ℕ, zero, suc, ◌-◌, Bool, List, [], ◌∷◌, ◌++◌, map, length, refl, sym, ap, ◌∙◌, arith}
use Rattle.std.specs.Prelude.{replicate, Some, None, nat_lt}
use Rattle.std.specs.List.{list_any}
use Rattle.std.proofs.lemmas.Bool.{le-ltb, lt-ltb}
use Rattle.std.proofs.lemmas.List.{length-map, map-append}
use Rattle.jground.specs.jbase.FirstFaults.{fault_if}
use Rattle.jtypes.specs.declared.vtype.VType.{VType}
use Rattle.jtypes.specs.declared.vtype.VType.TheVariants as types
use Rattle.jtypes.specs.TypeFrames as frames
use Rattle.jtypes.specs.TypeFrames.{Frame}
use Rattle.jresolution.specs.jprogram.ProgramClasses.{Program}
use Rattle.jresolution.specs.declared.juses.types.TypeRef.{TypeRef}
use Rattle.jresolution.specs.declared.juses.types.TypeRef.TheVariants as refs
use Rattle.jresolution.specs.juses.InternedTypes.{named}
use Rattle.jtyping.specs.declared.jrule.frame.FrameRef.{FrameRef}
use Rattle.jtyping.specs.jrule.InternedFrames.{seen}
use Rattle.jtyping.specs.jrule.StackEffects.{is_uninit_this}
use Rattle.jtyping.specs.jrule.TypeSubstitution.{is_this}
use Rattle.jtyping.specs.jwelltyped.DeclaredFrames.{filled as filled_by, first_frame}
use Rattle.jtyping.specs.jwelltyped.VerifierTests.{room_fault}
use Rattle.jverify.specs.declared.method.MethodRef.{MethodRef}
use Rattle.jverify.specs.MethodStarts.{places_in}
use Rattle.jverify.specs.FrameTables.{places}
use Rattle.jverify.specs.InternedMethods.{seen_method}
use Rattle.jverify.proofs.NumberedTypes.{any_this, places_named}

pub places_counted : (p : Program) (ts : List TypeRef) → length (frames.places_of (map (named p) ts)) ≡ length (places_in ts)
places_counted p ts = sym (ap length (places_named p ts)) ∙ length-map (places_in ts) (named p)

tops : (p : Program) (n : ℕ) → map (named p) (replicate n refs.Top) ≡ replicate n types.Top
tops p zero = refl
tops p (suc n) = ap (λ (xs : List VType). types.Top ∷ xs) (tops p n)

pub filled_named : (p : Program) (count : ℕ) (ts : List TypeRef) → map (named p) (places_in ts ++ replicate (count - length (places_in ts)) refs.Top) ≡ filled_by count (frames.places_of (map (named p) ts))
filled_named p count ts =
    map-append (named p) (places_in ts) (replicate (count - length (places_in ts)) refs.Top)
    ∙ ap (λ (xs : List VType). map (named p) (places_in ts) ++ xs) (tops p (count - length (places_in ts)))
    ∙ ap (λ (xs : List VType). xs ++ replicate (count - length (places_in ts)) types.Top) (places_named p ts)
    ∙ ap (λ (n : ℕ). frames.places_of (map (named p) ts) ++ replicate (count - n) types.Top) (sym (places_counted p ts))

-- ---- the first frame

no_room_in : (most n : ℕ) → most < n → fault_if {F = ℕ} (nat_lt most n) 0 ≡ Some 0
no_room_in most n less = ap (λ (b : Bool). fault_if {F = ℕ} b 0) (lt-ltb most n less)

room_in : (most n : ℕ) → n ≤ most → fault_if {F = ℕ} (nat_lt most n) 0 ≡ None
room_in most n few = ap (λ (b : Bool). fault_if {F = ℕ} b 0) (le-ltb most n few)

counted : (p : Program) (m : MethodRef) (values places : List TypeRef) → values ≡ m.params → places ≡ places_in values → length places ≡ length (frames.places_of (map (named p) m.params))
counted p m values places is filled = ap length (filled ∙ ap places_in is) ∙ sym (places_counted p m.params)

pub no_room : (p : Program) (m : MethodRef) (values places : List TypeRef) (count : ℕ) → values ≡ m.params → places ≡ places_in values → count ≡ m.body.max_locals → count < length places → room_fault (seen_method p m) ≡ Some 0
no_room p m values places count is filled most less =
    no_room_in m.body.max_locals (length (frames.places_of (map (named p) m.params))) (omega (arith, counted p m values places is filled, most, less))

pub has_room : (p : Program) (m : MethodRef) (values places : List TypeRef) (count : ℕ) → values ≡ m.params → places ≡ places_in values → count ≡ m.body.max_locals → length places ≤ count → room_fault (seen_method p m) ≡ None
has_room p m values places count is filled most few =
    room_in m.body.max_locals (length (frames.places_of (map (named p) m.params))) (omega (arith, counted p m values places is filled, most, few))

abbrev framed : List VType → List VType → Bool → Frame
framed locals stack flag = record { locals = locals; stack = stack; flag = flag }

same_frame : (ls1 ls2 ss1 ss2 : List VType) (f1 f2 : Bool) → ls1 ≡ ls2 → ss1 ≡ ss2 → f1 ≡ f2 → framed ls1 ss1 f1 ≡ framed ls2 ss2 f2
same_frame ls1 ls2 ss1 ss2 f1 f2 a b d = ap (λ (x : List VType). framed x ss1 f1) a ∙ ap (λ (x : List VType). framed ls2 x f1) b ∙ ap (framed ls2 ss2) d

pub first_seen : (p : Program) (m : MethodRef) (values places : List TypeRef) (count : ℕ) (f : FrameRef) → values ≡ m.params → places ≡ places_in values → count ≡ m.body.max_locals
    → f.locals ≡ places ++ replicate (count - length places) refs.Top → f.stack ≡ [] → f.flag ≡ list_any is_this values → seen p f ≡ first_frame (seen_method p m)
first_seen p m values places count f is filled most locals_are stack_is flag_is =
    let all : places ≡ places_in m.params = filled ∙ ap places_in is in
    let locals_by : f.locals ≡ places_in m.params ++ replicate (m.body.max_locals - length (places_in m.params)) refs.Top = cc in
    let flag_by : f.flag ≡ list_any is_this m.params = cc in
    same_frame (map (named p) f.locals) (filled_by m.body.max_locals (frames.places_of (map (named p) m.params))) (map (named p) f.stack) [] f.flag (list_any is_uninit_this (map (named p) m.params))
    (ap (map (named p)) locals_by ∙ filled_named p m.body.max_locals m.params) (ap (map (named p)) stack_is) (flag_by ∙ sym (any_this p m.params))
