-- Locals of which the first alone are kept.
use Rattle.std.proofs.Common.{◌≡◌, ℕ, zero, suc, ◌+◌, ◌-◌, ◌<◌, ◌≤◌, List, [], ◌∷◌, ◌++◌, length, map, replicate, Some, None, get_or, refl, sym, ap, ◌∙◌, arith, append_assoc}
use Rattle.std.specs.Prelude.{set, slice_get, take}
use Rattle.std.proofs.lemmas.Grind.{common_steps}
use Rattle.std.proofs.lemmas.List.{length-replicate, map-append, replicate-append-replicate, set-append_left}
use Rattle.std.proofs.lemmas.Option.{slice_get_past}
use Rattle.jresolution.specs.declared.juses.types.TypeRef.{TypeRef}
use Rattle.jresolution.specs.declared.juses.types.TypeRef.TheVariants as refs
use Rattle.jtyping.specs.declared.jrule.unready.Unready.{Unready}
use Rattle.jtyping.specs.declared.jrule.unready.Unready.TheVariants as unready
use Rattle.jtyping.specs.jrule.FilledLocals.{filled}
use Rattle.jtyping.specs.jrule.TypeSubstitution.{swapped}

pub filled_length : (ts : List TypeRef) (count : ℕ) → length ts ≤ count → length (filled ts count) ≡ count
filled_length ts count le = grind (arith, common_steps, length-replicate (count - length ts) refs.Top)

-- ---- what is read

top_at : (count n : ℕ) → n < count → slice_get (replicate count refs.Top) n ≡ Some refs.Top
top_at zero n lt = absurd (omega arith)
top_at (suc count) zero lt = refl
top_at (suc count) (suc n) lt = top_at count n (omega arith)

behind : (ts us : List TypeRef) (n : ℕ) → length ts ≤ n → slice_get (ts ++ us) n ≡ slice_get us (n - length ts)
behind [] us n le = ap (slice_get us) (let e : n ≡ n - 0 = omega arith in e)
behind (t ∷ ts) us zero le = absurd (omega arith)
behind (t ∷ ts) us (suc n) le = behind ts us n (omega arith) ∙ ap (slice_get us) (let e : n - length ts ≡ suc n - suc (length ts) = omega arith in e)

pub got_kept : (ts : List TypeRef) (count n : ℕ) (t : TypeRef) → n < length ts → t ≡ get_or ts n t → Some t ≡ slice_get (filled ts count) n
got_kept [] count n t lt e = absurd (omega (arith, lt))
got_kept (u ∷ ts) count zero t lt e = ap Some e
got_kept (u ∷ ts) count (suc n) t lt e = front ts (replicate (count - suc (length ts)) refs.Top) n t (omega (arith, lt)) e
  where
    front : (ts us : List TypeRef) (n : ℕ) (t : TypeRef) → n < length ts → t ≡ get_or ts n t → Some t ≡ slice_get (ts ++ us) n
    front [] us n t lt e = absurd (omega (arith, lt))
    front (u ∷ ts) us zero t lt e = ap Some e
    front (u ∷ ts) us (suc n) t lt e = front ts us n t (omega (arith, lt)) e

pub got_top : (ts : List TypeRef) (count n : ℕ) → length ts ≤ n → n < count → Some refs.Top ≡ slice_get (filled ts count) n
got_top ts count n le lt = sym (behind ts (replicate (count - length ts) refs.Top) n le ∙ top_at (count - length ts) (n - length ts) (omega arith))

pub got_none : (ts : List TypeRef) (count n : ℕ) → length ts ≤ count → count ≤ n → None ≡ slice_get (filled ts count) n
got_none ts count n le past = sym (slice_get_past (filled ts count) n (let l = filled_length ts count le in omega arith))

-- ---- what is written

-- some more may be kept
grown : (ts : List TypeRef) (m count : ℕ) → length ts ≤ m → m ≤ count → filled (filled ts m) count ≡ filled ts count
grown ts m count le more =
    append_assoc ts (replicate (m - length ts) refs.Top) (replicate (count - length (filled ts m)) refs.Top)
    ∙ ap (λ us. ts ++ us) (replicate-append-replicate (m - length ts) (count - length (filled ts m)) refs.Top
    ∙ ap (λ k. replicate k refs.Top) (let l = filled_length ts m le in omega arith))

pub set_kept : (ts : List TypeRef) (count n : ℕ) (t : TypeRef) → n < length ts → filled (set ts n t) count ≡ set (filled ts count) n t
set_kept ts count n t lt = grind (arith, common_steps, set-append_left ts (replicate (count - length ts) refs.Top) n t lt)

pub set_behind : (ts : List TypeRef) (count n : ℕ) (t : TypeRef) → length ts ≤ n → n < count → filled (set (filled ts (n + 1)) n t) count ≡ set (filled ts count) n t
set_behind ts count n t le lt =
    set_kept (filled ts (n + 1)) count n t (let l = filled_length ts (n + 1) (omega arith) in omega arith)
    ∙ ap (λ us. set us n t) (grown ts (n + 1) count (omega arith) (omega arith))

pub resized : (ts us : List TypeRef) (m k : ℕ) → k ≡ length ts → k ≤ m → us ≡ take m ts ++ replicate (m - k) refs.Top → us ≡ filled ts m
resized ts us m k same le e = grind (arith, common_steps)

-- ---- what is swapped

-- Top stands for no object
top_stays : (it : Unready) (new : TypeRef) (n : ℕ) → map (swapped it new) (replicate n refs.Top) ≡ replicate n refs.Top
top_stays it new zero = refl
top_stays unready.This new (suc n) = ap (λ us. refs.Top ∷ us) (top_stays unready.This new n)
top_stays (unready.New o) new (suc n) = ap (λ us. refs.Top ∷ us) (top_stays (unready.New o) new n)

pub swapped_kept : (it : Unready) (new : TypeRef) (ts : List TypeRef) (count : ℕ) → filled (map (swapped it new) ts) count ≡ map (swapped it new) (filled ts count)
swapped_kept it new ts count = grind (arith, common_steps, map-append (swapped it new) ts (replicate (count - length ts) refs.Top), top_stays it new (count - length ts))
