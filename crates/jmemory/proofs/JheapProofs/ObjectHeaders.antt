-- What an object's first cell says.
use Rattle.std.proofs.Common.{◌≡◌, ◌∙◌, ℕ, ◌+◌, ◌<◌, refl, ap, arith}
use Rattle.std.specs.Prelude.{◌*◌, ◌/◌, ◌%◌, ◌^◌}
use Rattle.std.proofs.Math.Nat.{mod-eq_of_lt}
use Rattle.jmemory.specs.declared.jheap.cell.Kind.TheVariants as kinds
use Rattle.jmemory.specs.jheap.ObjectLayout.{header, kind_by, kind_of}

pub object_said : (n : ℕ) → n < 2 ^ 32 → kind_of (header (kinds.Object n)) ≡ kinds.Object n
unfolding kind_of header
object_said n fits =
    let low : 4 * n % 4 ≡ 0 = omega arith in
    let high : 4 * n / 4 ≡ n = omega arith in
    ap (λ k. kind_by k (4 * n / 4 % 2 ^ 32)) low ∙ ap (λ m. kinds.Object (m % 2 ^ 32)) high ∙ ap (λ m. kinds.Object m) (mod-eq_of_lt fits)

pub array_said : (n : ℕ) → n < 2 ^ 32 → kind_of (header (kinds.Array n)) ≡ kinds.Array n
unfolding kind_of header
array_said n fits =
    let low : (4 * n + 1) % 4 ≡ 1 = omega arith in
    let high : (4 * n + 1) / 4 ≡ n = omega arith in
    ap (λ k. kind_by k ((4 * n + 1) / 4 % 2 ^ 32)) low ∙ ap (λ m. kinds.Array (m % 2 ^ 32)) high ∙ ap (λ m. kinds.Array m) (mod-eq_of_lt fits)

pub text_said : kind_of (header kinds.Text) ≡ kinds.Text
unfolding kind_of header
text_said = refl

pub piece_said : kind_of (header kinds.Piece) ≡ kinds.Piece
unfolding kind_of header
piece_said = refl
