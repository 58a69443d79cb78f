-- The laws of what fits what of frames.
use Rattle.std.proofs.Common.{◌≡◌, Bool, true, false, ◌&&◌, [], ◌∷◌, length, replicate, refl, sym, ap}
use mathlib.Core.Bool.{true≢false}
use Rattle.jtypes.specs.declared.vtype.VType.{VType}
use Rattle.jtypes.specs.declared.vtype.VType.TheVariants.{Top, Long}
use Rattle.jtypes.specs.TypeFrames.{FitsTops, Frame, IsReflexive, IsTransitive, KeepsFlag, TopIsNoLong, all_fit, frame_fits, implies, is_long, stack_fits}
use Rattle.jtypes.specs.ProofNames.{item_fits}

both : (a b : Bool) → (a && b) ≡ true → (a ≡ true) × (b ≡ true)
both true b h = (refl, h)
both false b h = absurd (true≢false (sym h))

joined : (a b : Bool) → a ≡ true → b ≡ true → (a && b) ≡ true
joined true b h k = k
joined false b h k = h

implies_itself : (a : Bool) → implies a a ≡ true
implies_itself true = refl
implies_itself false = refl

implies_along : (a b c : Bool) → implies a b ≡ true → implies b c ≡ true → implies a c ≡ true
implies_along false b c h k = refl
implies_along true true c h k = k
implies_along true false c h k = absurd (true≢false (sym h))

implied : (a b : Bool) → implies a b ≡ true → a ≡ true → b ≡ true
implied true b h e = h
implied false b h e = absurd (true≢false (sym e))

never : (a : Bool) → (a && false) ≡ false
never true = refl
never false = refl

item_itself : (f : VType → VType → Bool) → IsReflexive f → IsReflexive (item_fits f)
item_itself f own a = joined (f a a) (implies (is_long a) (is_long a)) (own a) (implies_itself (is_long a))

item_along : (f : VType → VType → Bool) → IsTransitive f → IsTransitive (item_fits f)
item_along f chain a b c h k =
    let first = both (f a b) (implies (is_long a) (is_long b)) h in
    let second = both (f b c) (implies (is_long b) (is_long c)) k in
    joined (f a c) (implies (is_long a) (is_long c)) (chain a b c first.0 second.0) (implies_along (is_long a) (is_long b) (is_long c) first.1 second.1)

all_itself : (f : VType → VType → Bool) → IsReflexive f → IsReflexive (all_fit f)
unfolding all_fit
all_itself f own [] = refl
all_itself f own (a ∷ xs) = joined (f a a) (all_fit f xs xs) (own a) (all_itself f own xs)

all_along : (f : VType → VType → Bool) → IsTransitive f → IsTransitive (all_fit f)
unfolding all_fit
all_along f chain [] [] zs h k = k
all_along f chain [] (b ∷ ys) zs h k = absurd (true≢false (sym h))
all_along f chain (a ∷ xs) [] zs h k = absurd (true≢false (sym h))
all_along f chain (a ∷ xs) (b ∷ ys) [] h k = absurd (true≢false (sym k))
all_along f chain (a ∷ xs) (b ∷ ys) (c ∷ zs) h k =
    let first = both (f a b) (all_fit f xs ys) h in
    let second = both (f b c) (all_fit f ys zs) k in
    joined (f a c) (all_fit f xs zs) (chain a b c first.0 second.0) (all_along f chain xs ys zs first.1 second.1)

-- what a frame's parts show of the frame
whole : (f : VType → VType → Bool) (a b : Frame) → all_fit f a.locals b.locals ≡ true → stack_fits f a.stack b.stack ≡ true
    → implies a.flag b.flag ≡ true → frame_fits f a b ≡ true
whole f a b locals stack flag =
    joined (all_fit f a.locals b.locals && stack_fits f a.stack b.stack) (implies a.flag b.flag)
    (joined (all_fit f a.locals b.locals) (stack_fits f a.stack b.stack) locals stack) flag

pub frame_itself : (f : VType → VType → Bool) → IsReflexive f → IsReflexive (frame_fits f)
frame_itself f own a = whole f a a (all_itself f own a.locals) (all_itself (item_fits f) (item_itself f own) a.stack) (implies_itself a.flag)

abbrev Parts : (VType → VType → Bool) → Frame → Frame → Type 0
Parts f a b = ((all_fit f a.locals b.locals ≡ true) × (stack_fits f a.stack b.stack ≡ true)) × (implies a.flag b.flag ≡ true)

parts : (f : VType → VType → Bool) (a b : Frame) → frame_fits f a b ≡ true → Parts f a b
parts f a b h =
    let first = both (all_fit f a.locals b.locals && stack_fits f a.stack b.stack) (implies a.flag b.flag) h in
    (both (all_fit f a.locals b.locals) (stack_fits f a.stack b.stack) first.0, first.1)

pub frame_along : (f : VType → VType → Bool) → IsTransitive f → IsTransitive (frame_fits f)
frame_along f chain a b c h k =
    let first = parts f a b h in
    let second = parts f b c k in
    whole f a c
    (all_along f chain a.locals b.locals c.locals first.0.0 second.0.0)
    (all_along (item_fits f) (item_along f chain) a.stack b.stack c.stack first.0.1 second.0.1)
    (implies_along a.flag b.flag c.flag first.1 second.1)

pub tops_fit : (f : VType → VType → Bool) → FitsTops f
unfolding all_fit
tops_fit f top [] = refl
tops_fit f top (a ∷ xs) = joined (f a Top) (all_fit f xs (replicate (length xs) Top)) (top a) (tops_fit f top xs)

pub no_long : (f : VType → VType → Bool) → TopIsNoLong f
unfolding all_fit
no_long f below stack = ap (λ b. b && stack_fits f stack below) (never (f Long Top))

pub flag_kept : (f : VType → VType → Bool) → KeepsFlag f
flag_kept f a b h flag = implied a.flag b.flag (parts f a b h).1 flag
