-- Values of several forms: a first byte says which, and behind it stand the parts of a value of that form.
use Rattle.std.specs.Prelude.{◌≡◌, ℕ, Bool, true, IsTrue, ◌&&◌, ◌||◌, not, List, [], ◌∷◌, ◌++◌, Option, Some, None, Ok, is_some, if◌then◌else◌}
use Rattle.jground.specs.jbase.MemoryFailures.{◌>>=◌}
use Rattle.jground.specs.jformat.Format.{Answer, Format, fault, part_fits, void}
use Rattle.jground.specs.jformat.TagTables.{is_in}

-- some forms of a type
pub record Cases (K A : Type 0) : Type 0 where
  -- the bytes that they begin with
  pub begins : List ℕ
  -- whether a value is of one of these forms
  pub has : A → Bool
  pub spell : A → List ℕ
  pub fits : A → Bool
  -- behind the first byte
  pub read : ℕ → List ℕ → Answer K A
  -- whether a value isn't of two of these forms
  pub once : A → Bool
  -- the value, made again of its parts
  pub made : A → A

-- a form: its first byte, how its values are made of their parts, which parts a value has, and the parts' format
abbrev pub case : {K A P : Type 0} → ℕ → (P → A) → (A → Option P) → Format K P → Cases K A
case t make parts f = record {
  begins = t ∷ [];
  has = λ a. is_some (parts a);
  spell = λ a. elim (parts a) [ Some p ↦ t ∷ f.spell p | None ↦ [] ];
  fits = λ a. part_fits f (parts a);
  read = λ _ rest. f.read rest >>= λ x. Ok (make x.0, x.1);
  once = λ _. true;
  made = λ a. elim (parts a) [ Some p ↦ make p | None ↦ a ];
}

-- a form of two parts, whose constructor takes one behind the other
abbrev pub two_of : {A B C : Type 0} → (A → B → C) → A × B → C
two_of make p = make p.0 p.1

-- a form without parts: its first byte, its one value, and the test whether a value is this one
abbrev pub sole : {K A : Type 0} → ℕ → A → (A → Bool) → Cases K A
sole t one test = case t (λ _. one) (λ a. if test a then Some tt else None) void

-- the one or the other, by the first byte
infixr 11 ◌∣◌
abbrev pub ◌∣◌ : {K A : Type 0} → Cases K A → Cases K A → Cases K A
f ∣ g = record {
  begins = f.begins ++ g.begins;
  has = λ a. f.has a || g.has a;
  spell = λ a. if f.has a then f.spell a else g.spell a;
  fits = λ a. if f.has a then f.fits a else g.fits a;
  read = λ t rest. if is_in t f.begins then f.read t rest else g.read t rest;
  once = λ a. not (f.has a && g.has a) && (f.once a && g.once a);
  made = λ a. if f.has a then f.made a else g.made a;
}

abbrev pub union_at : {K A : Type 0} → K → (ℕ → K) → Cases K A → List ℕ → Answer K A
union_at cut unknown f x = elim x [ [] ↦ fault cut [] | t ∷ rest ↦ if is_in t f.begins then f.read t rest else fault (unknown t) (t ∷ rest) ]

-- A byte that none of the forms begins with is a fault of its own kind.
abbrev pub union : {K A : Type 0} → K → (ℕ → K) → Cases K A → Format K A
union cut unknown f = record { spell = f.spell; fits = f.fits; read = union_at cut unknown f }

-- Each value is of one form alone, and is what its parts make. Where each form has its constructor, this is computed.
abbrev pub IsOnce : {K A : Type 0} → Cases K A → A → Type 0
IsOnce f a = IsTrue (f.once a) × (f.made a ≡ a)
