-- A line around one of its parts.
use Rattle.std.proofs.Common.{◌≡◌, ℕ, ◌+◌, ◌≤◌, ◌<◌, List, [], ◌∷◌, ◌++◌, length, drop, get_or, suc, sym, ap, ◌∙◌, append_assoc, add-one}
use Rattle.std.proofs.Math.Seq.{drop-cons}
use Rattle.std.proofs.Math.ListN.{drop_of_length-le}
use Rattle.joutput.specs.declared.jio.parts.Part.{Part}
use Rattle.joutput.specs.jio.LineParts.{part_of, line_of}

pub around_part : (parts : List Part) (i : ℕ) (other : Part) (done : List ℕ) → i < length parts → done ++ line_of (drop i parts) ≡ line_of parts → done ++ part_of (get_or parts i other) ++ line_of (drop (i + 1) parts) ≡ line_of parts
around_part parts i other done lt e = rw add-one (append_assoc done (part_of (get_or parts i other)) (line_of (drop (suc i) parts)) ∙ ap (λ (ps : List Part). done ++ line_of ps) (sym (drop-cons parts i other lt)) ∙ e)

pub at_end : (parts : List Part) (i : ℕ) (done : List ℕ) → length parts ≤ i → done ++ line_of (drop i parts) ≡ line_of parts → done ++ 10 ∷ [] ≡ line_of parts
at_end parts i done le e = ap (λ (ps : List Part). done ++ line_of ps) (sym (drop_of_length-le parts le)) ∙ e
