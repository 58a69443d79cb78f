-- Expanding frames as a loop does, and writing full forms that expand to the frames.
use Rattle.std.proofs.Common.{◌≡◌, ℕ, zero, suc, ◌+◌, ◌-◌, ◌*◌, ◌<◌, ◌≤◌, ◌^◌, Bool, ◌&&◌, cond, leb, ltb, true, false, List, [], ◌∷◌, ◌++◌, length, get_or, take, drop, map, Option, Some, None, Result, Ok, Err, refl, sym, ap, subst, ◌∙◌, append_assoc, add-one, arith}
use Rattle.std.specs.Prelude.{IsTrue, IfSome, ok_or}
use Rattle.std.specs.List.{flat_map, list_all, slice_get}
use Rattle.std.specs.Option.{option_map}
use Rattle.std.proofs.Math.Seq.{drop-cons}
use Rattle.std.proofs.Math.ListN.{drop_of_length-le}
use Rattle.std.proofs.lemmas.Bool.{ltb-true, lt-ltb, eqb-true}
use Rattle.std.proofs.lemmas.List.{append-nil, length-append, length-map, map-append}
use Rattle.std.proofs.lemmas.List.Concat.{flat_map-cons}
use Rattle.std.specs.Int.{w16, to_be_bytes}
use Rattle.jground.specs.jbase.MemoryFailures.{◌>>=◌}
use Rattle.jground.proofs.JbaseProofs.Loops.{behind}
use Rattle.jground.specs.jformat.BodyFormats.{counted}
use Rattle.jground.specs.ProofNames.{row_fits}
use Rattle.jground.specs.jformat.StatefulFormats.{spell_from, fits_from}
use Rattle.jground.proofs.JformatProofs.ReadingSteps.{bind_ok, ok_is, first_true, second_true, both}
use Rattle.jparts.specs.declared.jmaps.types.MapType.{MapType}
use Rattle.jparts.specs.declared.jmaps.types.RawFrame.{RawFrame}
use Rattle.jparts.specs.declared.jmaps.types.FullFrame.{FullFrame}
use Rattle.jparts.specs.declared.jmaps.types.Number.{Number}
use Rattle.jparts.specs.declared.jmaps.types.Number.TheVariants.{Given, Written}
use Rattle.jparts.specs.declared.jmaps.types.Row.{Row}
use Rattle.jparts.specs.declared.jmaps.fault.MapFault.TheVariants as kinds
use Rattle.jparts.specs.jmaps.StackMapFormat.{row, part, body, frame, frames, maps, own_frame, own_type}
use Rattle.jparts.specs.ProofNames.{or_kind}
use Rattle.jparts.proofs.JmapsProofs.MapLaws.{maps_law}
use Rattle.jparts.specs.jmaps.ExpandedFrames.{place_behind, locals_before, chopped, locals_after, expand_from, delta_behind, is_behind, full_form, full_forms, stands, can_follow, place_after, all_stand, can_write, items_fit, with_locals}

-- a test that each item passes
pub all_are : (xs : List MapType) → IsTrue (list_all (λ x. true) xs)
all_are [] = refl
all_are (x ∷ xs) = all_are xs

-- ---- expanding

pub place_near : (earlier : Option FullFrame) (i at : ℕ) → IfSome earlier (λ f. f.at < i * 65536) → at ≤ place_behind earlier 65535 → at < (i + 1) * 65536
place_near None i at near le = omega arith
place_near (Some f) i at near le = omega (arith, near)

pub place_fits : (earlier : Option FullFrame) (i : ℕ) → IfSome earlier (λ f. f.at < i * 65536) → i < 65535 → IfSome earlier (λ f. f.at + 65536 < 2 ^ 32)
place_fits None i near lt = tt
place_fits (Some f) i near lt = omega (arith, near)

-- the frame that was expanded last
abbrev pub newest : List FullFrame → Option FullFrame
newest full = slice_get full (length full - 1)

at_end : (done : List FullFrame) (y : FullFrame) → slice_get (done ++ y ∷ []) (length done) ≡ Some y
at_end [] y = refl
at_end (x ∷ xs) y = at_end xs y

newest_is : (done : List FullFrame) (y : FullFrame) → newest (done ++ y ∷ []) ≡ Some y
newest_is done y = let e : length (done ++ y ∷ []) - 1 ≡ length done = omega (arith, length-append done (y ∷ [])) in rw e (at_end done y)

pub newest_near : (done : List FullFrame) (y : FullFrame) (i : ℕ) → y.at < i * 65536 → IfSome (newest (done ++ y ∷ [])) (λ f. f.at < i * 65536)
newest_near done y i lt = rw (newest_is done y) lt

regroup : (done : List FullFrame) (y : FullFrame) (left : Result (List FullFrame) ℕ) → behind done (left >>= λ ys. Ok (y ∷ ys)) ≡ behind (done ++ y ∷ []) left
regroup done y (Ok ys) = ap (λ (zs : List FullFrame). Ok zs) (simp append_assoc)
regroup done y (Err i) = refl

pub expand_more : (first : List MapType) (i : ℕ) (earlier : Option FullFrame) (done : List FullFrame) (xs : List RawFrame) (x : RawFrame) (full : FullFrame) (total : Result (List FullFrame) ℕ) → i < length xs → x ≡ get_or xs i x
    → Some full.locals ≡ locals_after x.form x.locals (locals_before first earlier) → full.at ≡ place_behind earlier x.delta → full.stack ≡ x.stack
    → behind done (expand_from first i earlier (drop i xs)) ≡ total → behind (done ++ full ∷ []) (expand_from first (i + 1) (newest (done ++ full ∷ [])) (drop (i + 1) xs)) ≡ total
unfolding expand_from
expand_more first i earlier done xs x full total lt is locals at stack so_far =
    let made : FullFrame = record { at = place_behind earlier x.delta; locals = full.locals; stack = x.stack } in
    let same : made ≡ full = ap (λ (a : ℕ). record { at = a; locals = full.locals; stack = x.stack }) (sym at) ∙ ap (λ (s : List MapType). record { at = full.at; locals = full.locals; stack = s }) (sym stack) in
    let one : behind done (expand_from first i earlier (drop i xs)) ≡ behind (done ++ made ∷ []) (expand_from first (i + 1) (Some made) (drop (suc i) xs)) =
    rw (drop-cons xs i x, ← is, ← locals) (regroup done made (expand_from first (i + 1) (Some made) (drop (suc i) xs))) in
    let two : behind done (expand_from first i earlier (drop i xs)) ≡ behind (done ++ full ∷ []) (expand_from first (i + 1) (Some full) (drop (suc i) xs)) =
    one ∙ ap (λ (f : FullFrame). behind (done ++ f ∷ []) (expand_from first (i + 1) (Some f) (drop (suc i) xs))) same in
    rw (newest_is done full) (ap (λ k. behind (done ++ full ∷ []) (expand_from first (i + 1) (Some full) (drop k xs))) (add-one i) ∙ sym two ∙ so_far)

pub expand_stops : (first : List MapType) (i : ℕ) (earlier : Option FullFrame) (done : List FullFrame) (xs : List RawFrame) (x : RawFrame) (total : Result (List FullFrame) ℕ) → i < length xs → x ≡ get_or xs i x → None ≡ locals_after x.form x.locals (locals_before first earlier)
    → behind done (expand_from first i earlier (drop i xs)) ≡ total → total ≡ Err i
unfolding expand_from
expand_stops first i earlier done xs x total lt is h so_far =
    let one : behind done (expand_from first i earlier (drop i xs)) ≡ Err i = rw (drop-cons xs i x, ← is, ← h) refl in
    sym so_far ∙ one

pub expand_ends : (first : List MapType) (i : ℕ) (earlier : Option FullFrame) (done : List FullFrame) (xs : List RawFrame) (total : Result (List FullFrame) ℕ) → length xs ≤ i → behind done (expand_from first i earlier (drop i xs)) ≡ total → total ≡ Ok done
unfolding expand_from
expand_ends first i earlier done xs total le so_far =
    let one : behind done (expand_from first i earlier (drop i xs)) ≡ Ok done = rw (drop_of_length-le xs le) (ap (λ (zs : List FullFrame). Ok zs) (append-nil done)) in
    sym so_far ∙ one

pub few_frames : (fs : List RawFrame) → IsTrue (maps.fits fs) → length fs < 65536
unfolding maps frames
few_frames fs fit = ltb-true _ _ (second_true (list_all own_frame.fits fs) (ltb (length fs) 65536) fit)

-- ---- what a frame that stands is

record Stands (earlier : Option ℕ) (f : FullFrame) : Type 0 where
  behind : IsTrue (is_behind earlier f.at)
  near : IsTrue (ltb (delta_behind earlier f.at) 65536)

stand_parts : (earlier : Option ℕ) (f : FullFrame) → IsTrue (stands earlier f) → Stands earlier f
stand_parts earlier f h = record {
  behind = first_true (is_behind earlier f.at) (ltb (delta_behind earlier f.at) 65536) h;
  near = second_true (is_behind earlier f.at) (ltb (delta_behind earlier f.at) 65536) h;
}

abbrev place_of : Option FullFrame → Option ℕ
place_of earlier = option_map (λ f. f.at) earlier

place_back : (earlier : Option FullFrame) (at : ℕ) → IsTrue (is_behind (place_of earlier) at) → place_behind earlier (delta_behind (place_of earlier) at) ≡ at
place_back None at h = refl
place_back (Some f) at h = let lt = ltb-true _ _ h in omega (arith, lt)

-- ---- what a written frame that fits is

abbrev small_number : Number → Bool
small_number (Given n) = ltb n 65536
small_number Written = true

-- a type byte gives no delta above two bytes
abbrev small : Option Row → Bool
small None = true
small (Some r) = small_number r.delta

record IsSmall (o : Option Row) : Type 0 where
  is : IsTrue (small o)

small_cond : (b : Bool) {x y : Option Row} → IsSmall x → IsSmall y → IsSmall (cond b x y)
small_cond true p q = p
small_cond false p q = q

small_row : (t : ℕ) → t < 256 → IsSmall (row t)
unfolding row
small_row t lt =
    let here : IsTrue (ltb t 65536) = lt-ltb _ _ (omega arith) in
    let less : IsTrue (ltb (t - 64) 65536) = lt-ltb _ _ (omega arith) in
    small_cond (ltb t 64) (record { is = here }) (small_cond (ltb t 128) (record { is = less }) (small_cond (ltb t 247) (record { is = refl }) (small_cond (ltb t 248) (record { is = refl }) (small_cond (ltb t 252) (record { is = refl }) (small_cond (ltb t 255) (record { is = refl }) (record { is = refl }))))))

small_part : (how : Number) (n : ℕ) → IsTrue (small_number how) → IsTrue ((part kinds.Truncated how).fits n) → n < 65536
small_part (Given m) n s fit = let same = eqb-true _ _ fit in let lt = ltb-true _ _ s in omega arith
small_part Written n s fit = ltb-true _ _ fit

record IsWritten (x : RawFrame) : Type 0 where
  delta : x.delta < 65536
  locals : IsTrue (list_all own_type.fits x.locals)
  stack : IsTrue (list_all own_type.fits x.stack)

written_row : (x : RawFrame) (o : Option Row) → IsTrue (small o) → IsTrue (row_fits (body kinds.Truncated own_type) (x.delta, (x.locals, x.stack)) (or_kind kinds.Reserved o)) → IsWritten x
written_row x None s fit = absurd cc
written_row x (Some r) s fit =
    let delta = part kinds.Truncated r.delta in
    let locals = counted (part kinds.Truncated r.locals) own_type in
    let stack = counted (part kinds.Truncated r.stack) own_type in
    let items = second_true (delta.fits x.delta) (locals.fits x.locals && stack.fits x.stack) fit in
    record {
      delta = small_part r.delta x.delta s (first_true (delta.fits x.delta) (locals.fits x.locals && stack.fits x.stack) fit);
      locals = first_true (list_all own_type.fits x.locals) ((part kinds.Truncated r.locals).fits (length x.locals)) (first_true (locals.fits x.locals) (stack.fits x.stack) items);
      stack = first_true (list_all own_type.fits x.stack) ((part kinds.Truncated r.stack).fits (length x.stack)) (second_true (locals.fits x.locals) (stack.fits x.stack) items);
    }

written_parts : (x : RawFrame) → IsTrue (own_frame.fits x) → IsWritten x
unfolding frame
written_parts x fit =
    let here = row_fits (body kinds.Truncated own_type) (x.delta, (x.locals, x.stack)) (or_kind kinds.Reserved (row x.form)) in
    written_row x (row x.form) (small_row x.form (ltb-true _ _ (first_true (ltb x.form 256) here fit))).is (second_true (ltb x.form 256) here fit)

-- ---- frames in full stand in order

list_all_append : (xs ys : List MapType) → IsTrue (list_all own_type.fits xs) → IsTrue (list_all own_type.fits ys) → IsTrue (list_all own_type.fits (xs ++ ys))
list_all_append [] ys p q = q
list_all_append (x ∷ xs) ys p q = both _ _ (first_true (own_type.fits x) (list_all own_type.fits xs) p) (list_all_append xs ys (second_true (own_type.fits x) (list_all own_type.fits xs) p) q)

list_all_take : (n : ℕ) (xs : List MapType) → IsTrue (list_all own_type.fits xs) → IsTrue (list_all own_type.fits (take n xs))
list_all_take zero xs p = refl
list_all_take (suc n) [] p = refl
list_all_take (suc n) (x ∷ xs) p = both _ _ (first_true (own_type.fits x) (list_all own_type.fits xs) p) (list_all_take n xs (second_true (own_type.fits x) (list_all own_type.fits xs) p))

abbrev fit_where : Option (List MapType) → Bool
fit_where None = true
fit_where (Some xs) = list_all own_type.fits xs

record FitWhere (o : Option (List MapType)) : Type 0 where
  fit : IsTrue (fit_where o)

fit_cond : (b : Bool) {x y : Option (List MapType)} → FitWhere x → FitWhere y → FitWhere (cond b x y)
fit_cond true p q = p
fit_cond false p q = q

locals_fit : (before : List MapType) (x : RawFrame) → IsTrue (list_all own_type.fits before) → IsTrue (list_all own_type.fits x.locals) → FitWhere (locals_after x.form x.locals before)
unfolding locals_after
locals_fit before x b l =
    let n = 251 - x.form in
    let same : FitWhere (Some before) = record { fit = b } in
    let fewer : FitWhere (chopped n before) = fit_cond (leb n (length before)) (record { fit = list_all_take (length before - n) before b }) (record { fit = refl }) in
    let more : FitWhere (Some (before ++ x.locals)) = record { fit = list_all_append before x.locals b l } in
    let all : FitWhere (Some x.locals) = record { fit = l } in
    fit_cond (ltb x.form 248) same (fit_cond (ltb x.form 251) fewer (fit_cond (ltb x.form 252) same (fit_cond (ltb x.form 255) more all)))

place_stands : (earlier : Option FullFrame) (delta : ℕ) → delta < 65536 → (IsTrue (is_behind (place_of earlier) (place_behind earlier delta))) × (IsTrue (ltb (delta_behind (place_of earlier) (place_behind earlier delta)) 65536))
place_stands None delta lt = (refl, lt-ltb _ _ lt)
place_stands (Some f) delta lt = (lt-ltb _ _ (omega arith), lt-ltb _ _ (omega arith))

before_fits : (first : List MapType) (earlier : Option FullFrame) → IsTrue (list_all own_type.fits first) → IfSome earlier (λ f. IsTrue (list_all own_type.fits f.locals)) → IsTrue (list_all own_type.fits (locals_before first earlier))
before_fits first None p q = p
before_fits first (Some f) p q = q

-- what the expansion of a frame and of those behind it is
record IsNext (first : List MapType) (i : ℕ) (earlier : Option FullFrame) (x : RawFrame) (xs : List RawFrame) (full : List FullFrame) : Type 0 where
  one : FullFrame
  others : List FullFrame
  at : one.at ≡ place_behind earlier x.delta
  locals : locals_after x.form x.locals (locals_before first earlier) ≡ Some one.locals
  stack : one.stack ≡ x.stack
  rest : expand_from first (i + 1) (Some one) xs ≡ Ok others
  all : one ∷ others ≡ full

next_of : (first : List MapType) (i : ℕ) (earlier : Option FullFrame) (x : RawFrame) (xs : List RawFrame) (full : List FullFrame) (o : Option (List MapType)) → locals_after x.form x.locals (locals_before first earlier) ≡ o
    → (ok_or (with_locals earlier x o) i >>= λ one. expand_from first (i + 1) (Some one) xs >>= λ others. Ok (one ∷ others)) ≡ Ok full → IsNext first i earlier x xs full
next_of first i earlier x xs full None same e = absurd cc
next_of first i earlier x xs full (Some locals) same e =
    let one : FullFrame = record { at = place_behind earlier x.delta; locals = locals; stack = x.stack } in
    let others = bind_ok (expand_from first (i + 1) (Some one) xs) (λ ys. Ok (one ∷ ys)) full e in
    record { one = one; others = others.0; at = refl; locals = same; stack = refl; rest = others.1; all = ok_is ℕ (one ∷ others.0) full others.2 }

expanded_next : (first : List MapType) (i : ℕ) (earlier : Option FullFrame) (x : RawFrame) (xs : List RawFrame) (full : List FullFrame) → expand_from first i earlier (x ∷ xs) ≡ Ok full → IsNext first i earlier x xs full
unfolding expand_from
expanded_next first i earlier x xs full e = next_of first i earlier x xs full (locals_after x.form x.locals (locals_before first earlier)) refl e

expanded_stand : (first : List MapType) (i : ℕ) (earlier : Option FullFrame) (fs : List RawFrame) (full : List FullFrame) → IsTrue (list_all own_frame.fits fs) → expand_from first i earlier fs ≡ Ok full → IsTrue (fits_from stands place_after (place_of earlier) full)
unfolding expand_from fits_from
expanded_stand first i earlier [] full fit e = subst (λ (v : List FullFrame). IsTrue (fits_from stands place_after (place_of earlier) v)) (ok_is ℕ [] full e) refl
expanded_stand first i earlier (x ∷ xs) full fit e =
    let w = written_parts x (first_true (own_frame.fits x) (list_all own_frame.fits xs) fit) in
    let n = expanded_next first i earlier x xs full e in
    let place = place_stands earlier x.delta w.delta in
    let here : IsTrue (stands (place_of earlier) n.one) = rw n.at (both _ _ place.0 place.1) in
    let rest = expanded_stand first (i + 1) (Some n.one) xs n.others (second_true (own_frame.fits x) (list_all own_frame.fits xs) fit) n.rest in
    subst (λ (v : List FullFrame). IsTrue (fits_from stands place_after (place_of earlier) v)) n.all (both _ _ here rest)

expanded_fit : (first : List MapType) (i : ℕ) (earlier : Option FullFrame) (fs : List RawFrame) (full : List FullFrame) → IsTrue (list_all own_type.fits first) → IfSome earlier (λ f. IsTrue (list_all own_type.fits f.locals)) → IsTrue (list_all own_frame.fits fs)
    → expand_from first i earlier fs ≡ Ok full → IsTrue (items_fit full)
unfolding expand_from
expanded_fit first i earlier [] full p q fit e = subst (λ (v : List FullFrame). IsTrue (items_fit v)) (ok_is ℕ [] full e) refl
expanded_fit first i earlier (x ∷ xs) full p q fit e =
    let w = written_parts x (first_true (own_frame.fits x) (list_all own_frame.fits xs) fit) in
    let n = expanded_next first i earlier x xs full e in
    let where_fit = (locals_fit (locals_before first earlier) x (before_fits first earlier p q) w.locals).fit in
    let locals : IsTrue (list_all own_type.fits n.one.locals) = rw n.locals at where_fit in
    let stack : IsTrue (list_all own_type.fits n.one.stack) = rw n.stack w.stack in
    let rest = expanded_fit first (i + 1) (Some n.one) xs n.others p locals (second_true (own_frame.fits x) (list_all own_frame.fits xs) fit) n.rest in
    subst (λ (v : List FullFrame). IsTrue (items_fit v)) n.all (both _ _ (both _ _ locals stack) rest)

-- What is read from a fitting text stands in order,
pub expands_in_order : (first : List MapType) (fs : List RawFrame) (full : List FullFrame) → IsTrue (maps.fits fs) → expand_from first 0 None fs ≡ Ok full → IsTrue (all_stand full)
unfolding maps frames
expands_in_order first fs full fit e = expanded_stand first 0 None fs full (first_true (list_all own_frame.fits fs) (ltb (length fs) 65536) fit) e

-- and its items have a spelling, where the first locals have one.
pub expands_fit : (first : List MapType) (fs : List RawFrame) (full : List FullFrame) → IsTrue (list_all own_type.fits first) → IsTrue (maps.fits fs) → expand_from first 0 None fs ≡ Ok full → IsTrue (items_fit full)
unfolding maps frames
expands_fit first fs full p fit e = expanded_fit first 0 None fs full p tt (first_true (list_all own_frame.fits fs) (ltb (length fs) 65536) fit) e

-- ---- writing

-- the full forms one behind the other
pub spelled : (earlier : Option ℕ) (fs : List FullFrame) → spell_from (λ e f. own_frame.spell (full_form e f)) place_after earlier fs ≡ flat_map own_frame.spell (full_forms earlier fs)
unfolding spell_from full_forms
spelled earlier [] = refl
spelled earlier (f ∷ fs) = ap (λ (t : List ℕ). own_frame.spell (full_form earlier f) ++ t) (spelled (Some f.at) fs) ∙ sym (flat_map-cons own_frame.spell (full_form earlier f) (full_forms (Some f.at) fs))

record Follows (earlier : Option ℕ) (f : FullFrame) : Type 0 where
  stands : Stands earlier f
  locals : IsTrue (ltb (length f.locals) 65536)
  stack : IsTrue (ltb (length f.stack) 65536)

follow_parts : (earlier : Option ℕ) (f : FullFrame) → IsTrue (can_follow earlier f) → Follows earlier f
follow_parts earlier f h =
    let few = second_true (stands earlier f) (ltb (length f.locals) 65536 && ltb (length f.stack) 65536) h in
    record {
      stands = stand_parts earlier f (first_true (stands earlier f) (ltb (length f.locals) 65536 && ltb (length f.stack) 65536) h);
      locals = first_true (ltb (length f.locals) 65536) (ltb (length f.stack) 65536) few;
      stack = second_true (ltb (length f.locals) 65536) (ltb (length f.stack) 65536) few;
    }

full_fits : (earlier : Option ℕ) (f : FullFrame) → IsTrue (can_follow earlier f) → IsTrue (list_all own_type.fits f.locals && list_all own_type.fits f.stack) → IsTrue (own_frame.fits (full_form earlier f))
unfolding frame row
full_fits earlier f h fit =
    let p = follow_parts earlier f h in
    let locals = first_true (list_all own_type.fits f.locals) (list_all own_type.fits f.stack) fit in
    let stack = second_true (list_all own_type.fits f.locals) (list_all own_type.fits f.stack) fit in
    both _ _ p.stands.near (both _ _ (both _ _ locals p.locals) (both _ _ stack p.stack))

all_fit : (earlier : Option ℕ) (fs : List FullFrame) → IsTrue (fits_from can_follow place_after earlier fs) → IsTrue (items_fit fs) → IsTrue (list_all own_frame.fits (full_forms earlier fs))
unfolding fits_from full_forms
all_fit earlier [] h fit = refl
all_fit earlier (f ∷ fs) h fit =
    let items = list_all own_type.fits f.locals && list_all own_type.fits f.stack in
    both _ _ (full_fits earlier f (first_true (can_follow earlier f) (fits_from can_follow place_after (Some f.at) fs) h) (first_true items (items_fit fs) fit))
    (all_fit (Some f.at) fs (second_true (can_follow earlier f) (fits_from can_follow place_after (Some f.at) fs) h) (second_true items (items_fit fs) fit))

as_many : (earlier : Option ℕ) (fs : List FullFrame) → length (full_forms earlier fs) ≡ length fs
unfolding full_forms
as_many earlier [] = refl
as_many earlier (f ∷ fs) = ap suc (as_many (Some f.at) fs)

-- the full forms have a spelling
pub written_fits : (fs : List FullFrame) → IsTrue (can_write fs) → IsTrue (items_fit fs) → IsTrue (maps.fits (full_forms None fs))
unfolding maps frames
written_fits fs h fit = both _ _ (all_fit None fs (first_true (fits_from can_follow place_after None fs) (ltb (length fs) 65536) h) fit) (rw (as_many None fs) (second_true (fits_from can_follow place_after None fs) (ltb (length fs) 65536) h))

-- and it is this
pub written_is : (fs : List FullFrame) → to_be_bytes w16 (length fs) ++ spell_from (λ e f. own_frame.spell (full_form e f)) place_after None fs ≡ maps.spell (full_forms None fs)
unfolding maps frames
written_is fs = rw (as_many None fs, spelled None fs) refl

pub written_again : (fs : List FullFrame) → IsTrue (can_write fs) → IsTrue (items_fit fs) → maps.read (maps.spell (full_forms None fs)) ≡ Ok (full_forms None fs)
written_again fs h fit = maps_law.again (full_forms None fs) (written_fits fs h fit)

-- The full forms say what the frames say.
expand_back : (first : List MapType) (i : ℕ) (earlier : Option FullFrame) (fs : List FullFrame) → IsTrue (fits_from can_follow place_after (place_of earlier) fs) → expand_from first i earlier (full_forms (place_of earlier) fs) ≡ Ok fs
unfolding fits_from full_forms expand_from locals_after
expand_back first i earlier [] h = refl
expand_back first i earlier (f ∷ fs) h =
    let here = first_true (can_follow (place_of earlier) f) (fits_from can_follow place_after (Some f.at) fs) h in
    let others = expand_back first (i + 1) (Some f) fs (second_true (can_follow (place_of earlier) f) (fits_from can_follow place_after (Some f.at) fs) h) in
    let s = (follow_parts (place_of earlier) f here).stands in
    rw (place_back earlier f.at s.behind, others) refl

pub written_expands : (fs : List FullFrame) → IsTrue (can_write fs) → (first : List MapType) → expand_from first 0 None (full_forms None fs) ≡ Ok fs
written_expands fs h first = expand_back first 0 None fs (first_true (fits_from can_follow place_after None fs) (ltb (length fs) 65536) h)

-- ---- a function of the items

module _ {A B : Type 0} (f : A → B) where
  map_take : (n : ℕ) (xs : List A) → map f (take n xs) ≡ take n (map f xs)
  map_take zero xs = refl
  map_take (suc n) [] = refl
  map_take (suc n) (x ∷ xs) = ap (λ ys. f x ∷ ys) (map_take n xs)

  map_chopped : (n : ℕ) (xs : List A) → option_map (map f) (chopped n xs) ≡ chopped n (map f xs)
  map_chopped n xs = rw (length-map xs f) (go (leb n (length xs)))
    where
      go : (b : Bool) → option_map (map f) (cond {A = Option (List A)} b (Some (take (length xs - n) xs)) None) ≡ cond {A = Option (List B)} b (Some (take (length xs - n) (map f xs))) None
      go true = ap Some (map_take (length xs - n) xs)
      go false = refl

  -- the same holds of a choice where it holds of both cases
  map_cond : (b : Bool) (x y : Option (List A)) (v w : Option (List B)) → option_map (map f) x ≡ v → option_map (map f) y ≡ w → option_map (map f) (cond b x y) ≡ cond b v w
  map_cond true x y v w p q = p
  map_cond false x y v w p q = q

  pub locals_map : (form : ℕ) (written before : List A) → option_map (map f) (locals_after form written before) ≡ locals_after form (map f written) (map f before)
  unfolding locals_after
  locals_map form written before =
      map_cond (ltb form 248) _ _ _ _ refl
      (map_cond (ltb form 251) _ _ _ _ (map_chopped (251 - form) before)
      (map_cond (ltb form 252) _ _ _ _ refl
      (map_cond (ltb form 255) _ _ _ _ (ap Some (map-append f before written)) refl)))
