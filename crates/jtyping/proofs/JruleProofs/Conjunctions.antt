-- Tests of which both hold, and such as one implies.
use Rattle.std.proofs.Common.{◌≡◌, Bool, true, false, refl}
use Rattle.std.specs.Prelude.{◌&&◌}
use Rattle.jtypes.specs.TypeFrames.{implies}

pub both : (a b : Bool) → (a && b) ≡ true → (a ≡ true) × (b ≡ true)
both true true e = (refl, refl)
both true false e = absurd (cc)
both false b e = absurd (cc)

pub and_true : (a b : Bool) → a ≡ true → b ≡ true → (a && b) ≡ true
and_true a b x y = cc

pub implies_itself : (b : Bool) → implies b b ≡ true
implies_itself true = refl
implies_itself false = refl

pub implies_through : (a b c : Bool) → implies a b ≡ true → implies b c ≡ true → implies a c ≡ true
implies_through false b c e f = refl
implies_through true true c e f = f
implies_through true false c e f = absurd (cc)

pub implies_then : (l a b : Bool) → (a ≡ true → b ≡ true) → implies l a ≡ true → implies l b ≡ true
implies_then true a b f e = f e
implies_then false a b f e = refl

pub implies_true : (l b : Bool) → b ≡ true → implies l b ≡ true
implies_true true b e = e
implies_true false b e = refl

pub implies_none : (l b : Bool) → implies (l && false) b ≡ true
implies_none true b = refl
implies_none false b = refl

pub implies_part : (l b : Bool) → implies (l && b) b ≡ true
implies_part true true = refl
implies_part true false = refl
implies_part false b = refl
