-- Frames, what is known of locals and operands before an instruction, and which frame fits which (JVMS 4.10.1). What fits what of types
-- is a parameter.
use Rattle.std.specs.Prelude.{◌≡◌, ℕ, ◌+◌, Bool, true, false, ◌&&◌, not, ◌||◌, List, [], ◌∷◌, length, replicate, nat_le, if◌then◌else◌}
use Rattle.std.specs.List.{flat_map}
use Rattle.jtypes.specs.declared.vtype.VType.{VType}
use Rattle.jtypes.specs.declared.vtype.VType.TheVariants.{Top, Long}

pub record Frame : Type 0 where
  -- one for each local; a long fills two of them, and the second is Top
  pub locals : List VType
  -- the newest first, a long as one
  pub stack : List VType
  -- `this` isn't initialised yet
  pub flag : Bool

abbrev pub is_long : VType → Bool
is_long = elim [ Long ↦ true | _ ↦ false ]

-- ---- places

-- the locals that a value fills
abbrev pub places : VType → List VType
places a = if is_long a then a ∷ Top ∷ [] else a ∷ []

abbrev pub places_of : List VType → List VType
places_of = flat_map places

-- how many places of the stack its items take
unfoldable pub slots : List VType → ℕ
slots [] = 0
slots (a ∷ stack) = length (places a) + slots stack

-- the items take no more places than there are
abbrev pub within : ℕ → List VType → Bool
within most stack = nat_le (slots stack) most

-- ---- what fits what

abbrev pub implies : Bool → Bool → Bool
implies a b = not a || b

-- place by place, in lists of one length
unfoldable pub all_fit : (VType → VType → Bool) → List VType → List VType → Bool
all_fit f [] [] = true
all_fit f (a ∷ xs) (b ∷ ys) = f a b && all_fit f xs ys
all_fit f xs ys = false

abbrev pub stack_fits : (VType → VType → Bool) → List VType → List VType → Bool
stack_fits f = all_fit (λ a b. f a b && implies (is_long a) (is_long b))

abbrev pub frame_fits : (VType → VType → Bool) → Frame → Frame → Bool
frame_fits f a b = all_fit f a.locals b.locals && stack_fits f a.stack b.stack && implies a.flag b.flag

-- ---- laws

abbrev pub IsReflexive : {A : Type 0} → (A → A → Bool) → Type 0
IsReflexive {A} f = (a : A) → f a a ≡ true

abbrev pub IsTransitive : {A : Type 0} → (A → A → Bool) → Type 0
IsTransitive {A} f = (a b c : A) → f a b ≡ true → f b c ≡ true → f a c ≡ true

-- what has the flag fits only what has it
abbrev pub KeepsFlag : (VType → VType → Bool) → Type 0
KeepsFlag f = (a b : Frame) → frame_fits f a b ≡ true → a.flag ≡ true → b.flag ≡ true

-- any locals fit as many of Top
abbrev pub FitsTops : (VType → VType → Bool) → Type 0
FitsTops f = ((a : VType) → f a Top ≡ true) → (locals : List VType) → all_fit f locals (replicate (length locals) Top) ≡ true

-- a long on the stack doesn't fit Top
abbrev pub TopIsNoLong : (VType → VType → Bool) → Type 0
TopIsNoLong f = (below : List VType) (stack : List VType) → stack_fits f (Long ∷ stack) (Top ∷ below) ≡ false
