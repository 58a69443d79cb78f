-- The table of first bytes holds what their definition says.
use Rattle.std.proofs.Common.{◌≡◌, ℕ, zero, suc, ◌+◌, ◌<◌, ◌≤◌, eqb, ltb, true, false, List, [], ◌∷◌, Option, None, Err, refl, sym, ap, ◌∙◌, get_or, arith}
use Rattle.std.specs.List.{find}
use Rattle.std.proofs.lemmas.Bool.{lt-ltb, le-ltb}
use Rattle.jparts.specs.declared.jcode.head.Head.{Head}
use Rattle.jparts.specs.declared.jcode.fault.CodeFault.TheVariants.{LeftOut, UnknownOpcode}
use Rattle.jparts.specs.jcode.Opcodes.{head_number, all_heads, or_fault, head_at}

-- a function's values at so many numbers from one on
abbrev pub from_on : {A : Type 0} → (ℕ → A) → ℕ → ℕ → List A
from_on f n zero = []
from_on f n (suc k) = f n ∷ from_on f (n + 1) k

pub from_on_at : {A : Type 0} (f : ℕ → A) (n k i : ℕ) (d : A) → i < k → get_or (from_on f n k) i d ≡ f (n + i)
from_on_at f n zero i d lt = absurd (omega arith)
from_on_at f n (suc k) zero d lt = let e : n + 0 ≡ n = omega arith in rw e refl
from_on_at f n (suc k) (suc i) d lt = let e : n + suc i ≡ n + 1 + i = omega arith in rw e (from_on_at f (n + 1) k i d (omega arith))

-- the opcode of a number, if any
abbrev pub named : ℕ → Option Head
named n = find (λ h. eqb (head_number h) n) all_heads

-- the opcodes of all bytes
abbrev pub table : List (Option Head)
table = from_on named 0 256

pub table_at : (n m : ℕ) (o : Option Head) → m ≡ n → n < 256 → get_or table m None ≡ o → head_at n ≡ or_fault n o
unfolding head_at
table_at n m o same lt e =
    let here : get_or table n None ≡ o = rw same at e in
    let z : 0 + n ≡ n = omega arith in
    ap (or_fault n) (sym (ap named z) ∙ sym (from_on_at named 0 256 n None lt) ∙ here)

pub left_out_at : (n m : ℕ) → m ≡ n → n < 256 → get_or table m None ≡ None → n < 202 → Err (LeftOut n) ≡ head_at n
left_out_at n m same lt e low = let t : ltb n 202 ≡ true = lt-ltb n 202 low in sym (table_at n m None same lt e ∙ rw t refl)

pub unknown_at : (n m : ℕ) → m ≡ n → n < 256 → get_or table m None ≡ None → 202 ≤ n → Err (UnknownOpcode n) ≡ head_at n
unknown_at n m same lt e high = let t : ltb n 202 ≡ false = le-ltb n 202 high in sym (table_at n m None same lt e ∙ rw t refl)
