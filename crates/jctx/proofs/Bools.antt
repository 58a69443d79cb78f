-- Tests joined by `||` and `&&`.
use Rattle.std.proofs.Common.{◌≡◌, ◌↔◌, Bool, true, false, not, ◌&&◌, ◌||◌, refl, sym}
use Rattle.jperm.specs.declared.permission.Permission.{Permission}
use Rattle.jperm.specs.Permissions.{equal}

-- permissions that are equal are the same
abbrev pub EqualIsSame : Type 0
EqualIsSame = (p q : Permission) → (equal p q ≡ true) ↔ (p ≡ q)

pub or_cases : {Q : Type 0} (a b : Bool) → (a || b) ≡ true → (a ≡ true → Q) → (b ≡ true → Q) → Q
or_cases true b h left right = left refl
or_cases false b h left right = right h

pub or_left : (a b : Bool) → a ≡ true → (a || b) ≡ true
or_left true b h = refl
or_left false b h = cc

pub or_right : (a b : Bool) → b ≡ true → (a || b) ≡ true
or_right true b h = refl
or_right false b h = h

pub and_left : (a b : Bool) → (a && b) ≡ true → a ≡ true
and_left true b h = refl
and_left false b h = h

pub and_right : (a b : Bool) → (a && b) ≡ true → b ≡ true
and_right true b h = h
and_right false b h = cc

pub and_both : (a b : Bool) → a ≡ true → b ≡ true → (a && b) ≡ true
and_both true b h k = k
and_both false b h k = h

-- a test that is true wherever another is absorbs it
pub or_absorbs : (a b : Bool) → (b ≡ true → a ≡ true) → (a || b) ≡ a
or_absorbs true b h = refl
or_absorbs false true h = sym (h refl)
or_absorbs false false h = refl

pub or_zero : (a : Bool) → (a || false) ≡ a
or_zero true = refl
or_zero false = refl

pub or_assoc : (a b c : Bool) → ((a || b) || c) ≡ (a || (b || c))
or_assoc true b c = refl
or_assoc false b c = refl

pub or_neither : (a b : Bool) → a ≡ false → b ≡ false → (a || b) ≡ false
or_neither true b h k = h
or_neither false b h k = k

-- a test that fails less: with an alternative more, it fails where it did and the alternative does not hold
pub lacks_less : (h a b : Bool) → (a ≡ true → b ≡ true) → (not h && not b) ≡ true → (not h && not a) ≡ true
lacks_less true a b more failing = failing
lacks_less false true true more failing = failing
lacks_less false true false more failing = let e : false ≡ true = more refl in cc
lacks_less false false b more failing = refl

pub or_comm : (a b : Bool) → (a || b) ≡ (b || a)
or_comm true true = refl
or_comm true false = refl
or_comm false true = refl
or_comm false false = refl
