-- What is drawn from a seed, and what it says of each class.
use Rattle.std.specs.Prelude.{ℕ, zero, suc, ◌+◌, ◌*◌, ◌/◌, ◌%◌, ◌||◌, List, [], ◌∷◌, ◌==◌}
use Rattle.jgen.specs.declared.draws.Kind.{Kind}

-- The state behind a state, of 31 bits.
abbrev pub next : ℕ → ℕ
next x = (1103515245 * x + 12345) % 2147483648

-- The states of a seed; state 0 gives no draw.
unfoldable pub state : ℕ → ℕ → ℕ
state seed zero = seed % 2147483648
state seed (suc i) = next (state seed i)

-- the draws of a seed, from 1 on
abbrev pub draw : ℕ → ℕ → ℕ
draw seed i = (state seed i) / 65536

-- what three draws say of a class; class 0 is granted whatever it draws
abbrev pub kind_by : ℕ → ℕ → ℕ → ℕ → ℕ → Kind
kind_by one two three i size = record { next = one % size; privileged = two % 4 == 0; granted = i == 0 || three % 2 == 0 }

-- the kind of a class among so many
abbrev pub kind : ℕ → ℕ → ℕ → Kind
kind seed size i = kind_by (draw seed (3 * i + 1)) (draw seed (3 * i + 2)) (draw seed (3 * i + 3)) i size

-- the kinds of so many classes from one on
unfoldable pub kinds_from : ℕ → ℕ → ℕ → ℕ → List Kind
kinds_from seed size i zero = []
kinds_from seed size i (suc n) = kind seed size i ∷ kinds_from seed size (i + 1) n

-- the kinds of all classes
abbrev pub kinds : ℕ → ℕ → List Kind
kinds seed size = kinds_from seed size 0 size
