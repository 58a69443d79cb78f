-- What the load of a string constant comes to, by whether it was made.
use Rattle.std.proofs.Common.{◌≡◌, ℕ, ◌-◌, ◌<◌, Bool, true, false, cond, List, [], length, Option, Some, None, refl, ap, ◌∙◌, arith}
use Rattle.std.specs.Prelude.{is_some, nat_le}
use Rattle.std.proofs.lemmas.Bool.{leb-true, leb-false}
use Rattle.jvalues.specs.declared.jops.value.Value.TheVariants.{Ref}
use Rattle.jresolution.specs.juses.InstructionMeanings as meanings
use Rattle.jsemantics.specs.jmachine.MachineStates.{cells_of}
use Rattle.jsemantics.specs.jmachine.ObjectInstructions.{push, text_loaded, units_of}
use Rattle.jsemantics.specs.jmachine.Store.{Store, constant_at, next_number, paid, with_constant, with_made}
use Rattle.jrows.specs.jtexts.MadeStrings.{loaded}
use Rattle.jrows.specs.jtexts.TextCallOutcomes.{Comes, Left, leaves}
use Rattle.jrows.specs.declared.jtexts.ran.Ran.TheVariants as rans
use Rattle.jstepping.specs.jopen.OpeningTexts.{MakesText, TextMade, string}

-- a load of nothing is paid with nothing
unpaid : (s : Store ℕ) → paid 0 s ≡ s
unpaid s =
    let left : s.left - 0 ≡ s.left = omega arith in
    ap (λ (n : ℕ). record { objects = s.objects; statics = s.statics; constants = s.constants; left = n }) left

store_in : (a b : Left) → a ≡ b → a.store ≡ b.store
store_in a b e = ap (λ (l : Left). l.store) e

ran_in : (a b : Left) → a ≡ b → a.ran ≡ b.ran
ran_in a b e = ap (λ (l : Left). l.ran) e

-- one that was made
known_loaded : (s t : Store ℕ) (units : List ℕ) (n : ℕ) (b : Bool) (o : Option ℕ) → nat_le 0 s.left ≡ b
    → leaves (loaded o) [] t ≡ cond b (leaves (rans.Gave (Ref n)) [] (paid 0 s)) (leaves rans.Full [] s) → TextMade true (is_some o) units s t
known_loaded s t units n false o le e = absurd (let no : s.left < 0 = leb-false 0 s.left le in omega (arith, no))
known_loaded s t units n true None le e = absurd (let no = ran_in (leaves (loaded None) [] t) (leaves (rans.Gave (Ref n)) [] (paid 0 s)) e in cc)
known_loaded s t units n true (Some o) le e = store_in (leaves (loaded (Some o)) [] t) (leaves (rans.Gave (Ref n)) [] (paid 0 s)) e ∙ unpaid s

-- one that is made
new_loaded : (s t : Store ℕ) (units : List ℕ) (n : ℕ) (b : Bool) (o : Option ℕ) → nat_le (cells_of (length units)) s.left ≡ b
    → leaves (loaded o) [] t
    ≡ cond b (leaves (rans.Gave (Ref n)) [] (paid (cells_of (length units)) (with_made (with_constant s units) (string units)))) (leaves rans.Full [] s)
    → TextMade false (is_some o) units s t
new_loaded s t units n false None le e = leb-false (cells_of (length units)) s.left le
new_loaded s t units n false (Some o) le e = absurd (let no = ran_in (leaves (loaded (Some o)) [] t) (leaves rans.Full [] s) e in cc)
new_loaded s t units n true None le e =
    absurd (let no = ran_in (leaves (loaded None) [] t) (leaves (rans.Gave (Ref n)) [] (paid (cells_of (length units)) (with_made (with_constant s units) (string units)))) e in cc)
new_loaded s t units n true (Some o) le e = (
  leb-true (cells_of (length units)) s.left le,
  store_in (leaves (loaded (Some o)) [] t) (leaves (rans.Gave (Ref n)) [] (paid (cells_of (length units)) (with_made (with_constant s units) (string units)))) e,
)

by_known : (E : Type 0) (s t : Store ℕ) (units : List ℕ) (o q : Option ℕ) → Comes {E = E} s (Some (text_loaded s units q)) (leaves (loaded o) [] t)
    → TextMade (is_some q) (is_some o) units s t
by_known E s t units o None h = new_loaded s t units (next_number (with_constant s units)) (nat_le (cells_of (length units)) s.left) o refl h
by_known E s t units o (Some n) h = known_loaded s t units n (nat_le 0 s.left) o refl h

pub text_loads : (E : Type 0) (s t : Store ℕ) (bytes : List ℕ) (o : Option ℕ) → Comes {E = E} s (push s (meanings.Text bytes) []) (leaves (loaded o) [] t)
    → MakesText (units_of bytes) (is_some o) s t
unfolding push
text_loads E s t bytes o h = by_known E s t (units_of bytes) o (constant_at s.constants (units_of bytes)) h
