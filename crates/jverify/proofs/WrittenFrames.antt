-- Written frames one after the other, and the frames that are kept of them.
use Rattle.std.proofs.Common.{◌≡◌, ℕ, suc, ◌+◌, ◌*◌, ◌<◌, ◌≤◌, ◌^◌, Bool, true, false, ◌&&◌, List, [], ◌∷◌, ◌++◌, length, map, reverse, drop, get_or, Option, Some, None, refl, sym, ap, subst, ◌∙◌, arith, inl, inr}
use Rattle.std.specs.Prelude.{IfSome, is_some, not, option_map, ◌⊎◌}
use Rattle.std.specs.List.{list_all}
use Rattle.std.proofs.Math.Seq.{drop-cons}
use Rattle.std.proofs.Math.ListN.{drop_of_length-le}
use Rattle.std.proofs.lemmas.Bool.{cases_lt}
use Rattle.std.proofs.lemmas.List.{get_or_append_left, get_or_push, length-append, map-append}
use Rattle.jground.specs.jbase.FirstFaults.{fault_if, first_some, or_else}
use Rattle.jparts.specs.declared.jpool.entry.Entry.{Entry}
use Rattle.jparts.specs.declared.jmaps.types.RawFrame.{RawFrame}
use Rattle.jparts.specs.jmaps.ExpandedFrames.{locals_after, place_from}
use Rattle.jparts.proofs.JmapsProofs.FullLaws.{locals_map}
use Rattle.jclass.specs.declared.class.CodeBody.{CodeBody}
use Rattle.jclass.specs.CodeFormat.{begins}
use Rattle.jtypes.specs.declared.vtype.Name.{Name}
use Rattle.jtypes.specs.declared.vtype.VType.{VType}
use Rattle.jtypes.specs.declared.vtype.VType.TheVariants as types
use Rattle.jtypes.specs.TypeFrames.{Frame}
use Rattle.jresolution.specs.jprogram.ProgramClasses.{Program}
use Rattle.jresolution.specs.declared.juses.types.TypeRef.{TypeRef}
use Rattle.jresolution.specs.juses.InternedTypes.{named}
use Rattle.jtyping.specs.jrule.OperandSlots.{slot_count}
use Rattle.jtyping.specs.jwelltyped.DeclaredFrames.{Written, continued, frame_of, has_room, holds, is_there, item, written_from}
use Rattle.jverify.specs.declared.chains.Node.{Node}
use Rattle.jverify.specs.declared.declared.Kept.{Kept}
use Rattle.jverify.specs.LocalChains.{Extends, values}
use Rattle.jverify.specs.FrameTables.{AreKept, IsKept, Rise, fault_in, given, is_good_in, written_named}
use Rattle.jverify.proofs.LocalChains.{values_root}
use Rattle.jtyping.proofs.JruleProofs.TypeSubstitution.{map_reversed}

-- ---- the frames that are left

-- what is written from a frame on, where the one before it has the locals of a chain
abbrev pub left : Program → List Entry → ℕ → Option ℕ → List Node → ℕ → List RawFrame → List Written
left p pool most earlier nodes last = written_from p pool most earlier (map (named p) (values nodes last))

-- the locals behind a frame, by number and by name
pub locals_named : (p : Program) (pool : List Entry) (f : RawFrame) (written : List TypeRef) (old new : List Node) (last : ℕ) (r : Option ℕ) → map (named p) written ≡ map (item p pool) f.locals →
    option_map (values new) r ≡ locals_after f.form written (values old last) →
    locals_after f.form (map (item p pool) f.locals) (map (named p) (values old last)) ≡ option_map (map (named p)) (option_map (values new) r)
locals_named p pool f written old new last r e h =
    ap (λ xs. locals_after f.form xs (map (named p) (values old last))) (sym e)
    ∙ sym (locals_map (named p) f.form written (values old last)) ∙ ap (option_map (map (named p))) (sym h)

opened : (p : Program) (pool : List Entry) (most : ℕ) (earlier : Option ℕ) (before : List VType) (fs : List RawFrame) (i : ℕ) (f : RawFrame) → i < length fs → f ≡ get_or fs i f →
    written_from p pool most earlier before (drop i fs)
    ≡ continued most (place_from earlier f.delta) (reverse (map (item p pool) f.stack)) (λ vs. written_from p pool most (Some (place_from earlier f.delta)) vs (drop (suc i) fs)) (locals_after f.form (map (item p pool) f.locals) before)
unfolding written_from
opened p pool most earlier before fs i f lt is =
    ap (written_from p pool most earlier before) (drop-cons fs i f lt ∙ ap (λ g. g ∷ drop (suc i) fs) (sym is))

-- a frame that takes away more locals than there are
pub left_none : (p : Program) (pool : List Entry) (most : ℕ) (earlier : Option ℕ) (nodes new : List Node) (last : ℕ) (fs : List RawFrame) (i : ℕ) (f : RawFrame) (written : List TypeRef) (r : Option ℕ) (at : ℕ) → i < length fs → f ≡ get_or fs i f →
    at ≡ place_from earlier f.delta → map (named p) written ≡ map (item p pool) f.locals → option_map (values new) r ≡ locals_after f.form written (values nodes last) → r ≡ None →
    left p pool most earlier nodes last (drop i fs) ≡ record { at = at; frame = None } ∷ []
left_none p pool most earlier nodes new last fs i f written r at lt is place e h none =
    opened p pool most earlier (map (named p) (values nodes last)) fs i f lt is
    ∙ ap (continued most (place_from earlier f.delta) (reverse (map (item p pool) f.stack)) (λ vs. written_from p pool most (Some (place_from earlier f.delta)) vs (drop (suc i) fs)))
    (locals_named p pool f written nodes new last r e h ∙ ap (λ r. option_map (map (named p)) (option_map (values new) r)) none)
    ∙ ap (λ (n : ℕ). record { at = n; frame = None } ∷ []) (sym place)

-- a frame that is kept, and those behind it
pub left_some : (p : Program) (pool : List Entry) (most : ℕ) (earlier : Option ℕ) (nodes new : List Node) (last next : ℕ) (fs : List RawFrame) (i : ℕ) (f : RawFrame) (written stack : List TypeRef) (r : Option ℕ) (at : ℕ) → i < length fs → f ≡ get_or fs i f →
    at ≡ place_from earlier f.delta → map (named p) written ≡ map (item p pool) f.locals → option_map (values new) r ≡ locals_after f.form written (values nodes last) → r ≡ Some next → map (named p) stack ≡ map (item p pool) f.stack →
    left p pool most earlier nodes last (drop i fs) ≡ written_named p most (given new (record { at = at; last = next; stack = stack })) ∷ left p pool most (Some at) new next (drop (i + 1) fs)
left_some p pool most earlier nodes new last next fs i f written stack r at lt is place e h some es =
    let others : ℕ → List VType → List Written = λ n vs. written_from p pool most (Some n) vs (drop (suc i) fs) in
    let turned : reverse (map (item p pool) f.stack) ≡ map (named p) (reverse stack) = ap reverse (sym es) ∙ sym (map_reversed (named p) stack) in
    let behind : drop (suc i) fs ≡ drop (i + 1) fs = ap (λ k. drop k fs) (let s : suc i ≡ i + 1 = omega arith in s) in
    opened p pool most earlier (map (named p) (values nodes last)) fs i f lt is
    ∙ ap (continued most (place_from earlier f.delta) (reverse (map (item p pool) f.stack)) (others (place_from earlier f.delta)))
    (locals_named p pool f written nodes new last r e h ∙ ap (λ r. option_map (map (named p)) (option_map (values new) r)) some)
    ∙ ap (λ (n : ℕ). record { at = n; frame = Some (frame_of most (map (named p) (values new next)) (reverse (map (item p pool) f.stack))) } ∷ others n (map (named p) (values new next))) (sym place)
    ∙ ap (λ xs. record { at = at; frame = Some (frame_of most (map (named p) (values new next)) xs) } ∷ others at (map (named p) (values new next))) turned
    ∙ ap (λ xs. written_named p most (given new (record { at = at; last = next; stack = stack })) ∷ left p pool most (Some at) new next xs) behind

pub left_done : (p : Program) (pool : List Entry) (most : ℕ) (earlier : Option ℕ) (nodes : List Node) (last : ℕ) (fs : List RawFrame) (i : ℕ) → length fs ≤ i → left p pool most earlier nodes last (drop i fs) ≡ []
unfolding written_from
left_done p pool most earlier nodes last fs i le = ap (left p pool most earlier nodes last) (drop_of_length-le fs le)

-- ---- the first that isn't good

pub good_first : (body : CodeBody) (makes : ℕ → Option Name) (w : Written) (ws : List Written) → is_good_in body makes w ≡ true → first_some (fault_in body makes) (w ∷ ws) ≡ first_some (fault_in body makes) ws
unfolding first_some
good_first body makes w ws e = ap (λ b. or_else (fault_if (not b) w.at) (first_some (fault_in body makes) ws)) e

pub bad_first : (body : CodeBody) (makes : ℕ → Option Name) (w : Written) (ws : List Written) → is_good_in body makes w ≡ false → first_some (fault_in body makes) (w ∷ ws) ≡ Some w.at
unfolding first_some
bad_first body makes w ws e = ap (λ b. or_else (fault_if (not b) w.at) (first_some (fault_in body makes) ws)) e

pub none_bad : (body : CodeBody) (makes : ℕ → Option Name) (at : ℕ) → is_good_in body makes (record { at = at; frame = None }) ≡ false
none_bad body makes at = never (begins body.ops at)
  where
    never : (a : Bool) → (a && false) ≡ false
    never true = refl
    never false = refl

pub none_left : (body : CodeBody) (makes : ℕ → Option Name) → first_some (fault_in body makes) [] ≡ None
unfolding first_some
none_left body makes = refl

-- what a method makes may be told in another way
there_same : (a b : ℕ → Option Name) → ((o : ℕ) → a o ≡ b o) → (t : VType) → is_there a t ≡ is_there b t
there_same a b same types.Top = refl
there_same a b same types.Int = refl
there_same a b same types.Long = refl
there_same a b same types.Null = refl
there_same a b same types.UninitThis = refl
there_same a b same (types.Uninit o) = ap is_some (same o)
there_same a b same (types.Object c) = refl
there_same a b same (types.Array x) = refl
there_same a b same types.Ctx = refl

all_same : (a b : ℕ → Option Name) → ((o : ℕ) → a o ≡ b o) → (ts : List VType) → list_all (is_there a) ts ≡ list_all (is_there b) ts
all_same a b same [] = refl
all_same a b same (t ∷ ts) = ap (λ x. x && list_all (is_there a) ts) (there_same a b same t) ∙ ap (λ x. is_there b t && x) (all_same a b same ts)

holds_same : (body : CodeBody) (a b : ℕ → Option Name) → ((o : ℕ) → a o ≡ b o) → (f : Option Frame) → holds body a f ≡ holds body b f
holds_same body a b same None = refl
holds_same body a b same (Some f) =
    ap (λ x. has_room body f && (x && list_all (is_there a) f.stack)) (all_same a b same f.locals) ∙ ap (λ x. has_room body f && (list_all (is_there b) f.locals && x)) (all_same a b same f.stack)

pub faults_same : (body : CodeBody) (a b : ℕ → Option Name) → ((o : ℕ) → a o ≡ b o) → (ws : List Written) → first_some (fault_in body a) ws ≡ first_some (fault_in body b) ws
unfolding first_some
faults_same body a b same [] = refl
faults_same body a b same (w ∷ ws) =
    ap (λ x. or_else (fault_if (not (begins body.ops w.at && x)) w.at) (first_some (fault_in body a) ws)) (holds_same body a b same w.frame)
    ∙ ap (or_else (fault_in body b w)) (faults_same body a b same ws)

-- ---- those that are kept

kept_stays : (old new : List Node) (most : ℕ) (k : Kept) → Extends old new → IsKept old most k → (given new k ≡ given old k) × IsKept new most k
kept_stays old new most k e is =
    let same = e.same k.last is.last in (
      ap (λ xs. record { at = k.at; values = reverse xs; stack = reverse k.stack }) same,
      record { last = omega (arith, e.more, is.last); room = subst (λ xs. slot_count xs ≤ most) (sym same) is.room },
    )

pub given_stay : (old new : List Node) (most : ℕ) (ks : List Kept) → Extends old new → AreKept old most ks → map (given new) ks ≡ map (given old) ks
given_stay old new most [] e all = refl
given_stay old new most (k ∷ ks) e all =
    ap (λ g. g ∷ map (given new) ks) (kept_stays old new most k e all.0).0 ∙ ap (λ gs. given old k ∷ gs) (given_stay old new most ks e all.1)

pub all_stay : (old new : List Node) (most : ℕ) (ks : List Kept) → Extends old new → AreKept old most ks → AreKept new most ks
all_stay old new most [] e all = tt
all_stay old new most (k ∷ ks) e all = ((kept_stays old new most k e all.0).1, all_stay old new most ks e all.1)

pub all_pushed : (nodes : List Node) (most : ℕ) (ks : List Kept) (k : Kept) → AreKept nodes most ks → IsKept nodes most k → AreKept nodes most (ks ++ k ∷ [])
all_pushed nodes most [] k all one = (one, tt)
all_pushed nodes most (j ∷ ks) k all one = (all.0, all_pushed nodes most ks k all.1 one)

-- what is kept and what is left is what was written
pub so_far_more : (p : Program) (most : ℕ) (old new : List Node) (ks : List Kept) (k : Kept) (w : Written) (rest before ws : List Written) → map (given new) ks ≡ map (given old) ks → w ≡ written_named p most (given new k) → before ≡ w ∷ rest →
    map (written_named p most) (map (given old) ks) ++ before ≡ ws → map (written_named p most) (map (given new) (ks ++ k ∷ [])) ++ rest ≡ ws
so_far_more p most old new ks k w rest before ws stay is split so_far =
    let wn : List Written = map (written_named p most) (map (given old) ks) in
    let parts : map (written_named p most) (map (given new) (ks ++ k ∷ [])) ≡ wn ++ written_named p most (given new k) ∷ [] =
    ap (map (written_named p most)) (map-append (given new) ks (k ∷ [])) ∙ map-append (written_named p most) (map (given new) ks) (given new k ∷ [])
    ∙ ap (λ gs. map (written_named p most) gs ++ written_named p most (given new k) ∷ []) stay in
    ap (λ xs. xs ++ rest) parts ∙ regroup wn (written_named p most (given new k)) rest
    ∙ ap (λ x. wn ++ (x ∷ rest)) (sym is) ∙ ap (λ xs. wn ++ xs) (sym split) ∙ so_far
  where
    regroup : (xs : List Written) (x : Written) (ys : List Written) → (xs ++ x ∷ []) ++ ys ≡ xs ++ (x ∷ ys)
    regroup [] x ys = refl
    regroup (z ∷ xs) x ys = ap (λ zs. z ∷ zs) (regroup xs x ys)

-- ---- their places

-- no frame behind this one stands before it
abbrev pub least : Option ℕ → ℕ
least None = 0
least (Some at) = at + 1

abbrev pub AreBefore : ℕ → List Kept → Type 0
AreBefore at ks = (i : ℕ) (d : Kept) → i < length ks → (get_or ks i d).at < at

least_place : (earlier : Option ℕ) (delta : ℕ) → least earlier ≤ place_from earlier delta
least_place None delta = omega arith
least_place (Some at) delta = omega arith

at_pushed : (ks : List Kept) (k : Kept) (i : ℕ) (d : Kept) → i < length (ks ++ k ∷ []) → ((i < length ks) × (get_or (ks ++ k ∷ []) i d ≡ get_or ks i d)) ⊎ ((i ≡ length ks) × (get_or (ks ++ k ∷ []) i d ≡ k))
at_pushed ks k i d lt = elim (cases_lt i (length ks)) [
  | inl before ↦ inl (before, get_or_append_left ks (k ∷ []) d i before)
  | inr behind ↦ (let here : i ≡ length ks = omega (arith, length-append ks (k ∷ [])) in inr (here, get_or_push ks k d i (sym here)))
]

pub before_more : (ks : List Kept) (k : Kept) (at : ℕ) → AreBefore at ks → at ≤ k.at → AreBefore (k.at + 1) (ks ++ k ∷ [])
before_more ks k at before le i d lt = elim (at_pushed ks k i d lt) [
  | inl h ↦ (let b = before i d h.0 in let e : (get_or (ks ++ k ∷ []) i d).at ≡ (get_or ks i d).at = ap (λ (k : Kept). k.at) h.1 in omega arith)
  | inr h ↦ (let e : (get_or (ks ++ k ∷ []) i d).at ≡ k.at = ap (λ (k : Kept). k.at) h.1 in omega arith)
]

pub rise_more : (ks : List Kept) (k : Kept) (at : ℕ) → Rise ks → AreBefore at ks → at ≤ k.at → Rise (ks ++ k ∷ [])
rise_more ks k at rise before le i j d less lt = elim (at_pushed ks k j d lt) [
  | inl h ↦ elim (at_pushed ks k i d (omega arith)) [
    | inl g ↦ (let r = rise i j d less h.0 in let e : (get_or (ks ++ k ∷ []) i d).at ≡ (get_or ks i d).at = ap (λ (k : Kept). k.at) g.1 in let f : (get_or (ks ++ k ∷ []) j d).at ≡ (get_or ks j d).at = ap (λ (k : Kept). k.at) h.1 in omega arith)
    | inr g ↦ absurd (omega (arith, h.0, g.0))
  ]
  | inr h ↦ (let short : i < length ks = omega (arith, h.0) in let b = before i d short in
      let e : (get_or (ks ++ k ∷ []) i d).at ≡ (get_or ks i d).at = ap (λ (k : Kept). k.at) (get_or_append_left ks (k ∷ []) d i short) in
      let f : (get_or (ks ++ k ∷ []) j d).at ≡ k.at = ap (λ (k : Kept). k.at) h.1 in omega arith)
]

pub near_more : (earlier : Option ℕ) (i at : ℕ) → IfSome earlier (λ n. n < i * 65536) → at ≤ place_from earlier 65535 → at < (i + 1) * 65536
near_more None i at near le = omega arith
near_more (Some n) i at near le = omega (arith, near)

pub near_fits : (earlier : Option ℕ) (i : ℕ) → IfSome earlier (λ n. n < i * 65536) → i < 65535 → place_from earlier 65535 < 2 ^ 32
near_fits None i near lt = omega arith
near_fits (Some n) i near lt = omega (arith, near)

-- ---- where frames begin

pub left_first : (p : Program) (pool : List Entry) (most : ℕ) (old nodes : List Node) (last : ℕ) (params : List TypeRef) (fs : List RawFrame) → values nodes last ≡ values old 0 ++ params →
    left p pool most None nodes last fs ≡ written_from p pool most None (map (named p) params) fs
left_first p pool most old nodes last params fs e = ap (λ vs. written_from p pool most None (map (named p) vs) fs) (e ∙ ap (λ xs. xs ++ params) (values_root old))

pub none_kept : (nodes : List Node) (most : ℕ) (ks : List Kept) → ks ≡ [] → AreKept nodes most ks
none_kept nodes most ks e = subst (AreKept nodes most) (sym e) tt

pub none_rise : (ks : List Kept) → ks ≡ [] → Rise ks
none_rise ks e i j d less lt = absurd (omega (arith, ap length e))

pub none_before : (at : ℕ) (ks : List Kept) → ks ≡ [] → AreBefore at ks
none_before at ks e i d lt = absurd (omega (arith, ap length e))

pub least_at : (earlier : Option ℕ) (delta at : ℕ) → at ≡ place_from earlier delta → least earlier ≤ at
least_at earlier delta at e = subst (λ n. least earlier ≤ n) (sym e) (least_place earlier delta)
