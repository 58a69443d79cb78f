-- Going along the parts of a text that a byte parts.
use Rattle.std.proofs.Common.{◌≡◌, ℕ, ◌<◌, ◌==◌, List, [], ◌∷◌, ◌++◌, length, Option, Some, None, refl, sym, ap, ◌∙◌, append_assoc, subst}
use Rattle.std.specs.List.{slice_split, before_first, after_first, position_or_len}
use Rattle.std.proofs.lemmas.List.Splits.{slice_split_first, slice_split_none}
use Rattle.std.proofs.lemmas.List.Sums.{fails_before_first}
use Rattle.std.proofs.lemmas.List.{append-nil}
use Rattle.jground.specs.jbase.ListMaps.{each_some, put_front}
use Rattle.jground.proofs.JbaseProofs.Loops.{some_behind}

pub split_here : (c : ℕ) (text first more : List ℕ) → position_or_len (λ b. b == c) text < length text → first ≡ before_first (λ b. b == c) text → more ≡ after_first (λ b. b == c) text → slice_split (λ b. b == c) text ≡ first ∷ slice_split (λ b. b == c) more
split_here c text first more l e f = rw (e, f) (slice_split_first (λ b. b == c) text 0 l)

pub split_last : (c : ℕ) (text : List ℕ) → position_or_len (λ b. b == c) text ≡ length text → slice_split (λ b. b == c) text ≡ text ∷ []
split_last c text l = slice_split_none (λ b. b == c) text (λ k d below. fails_before_first (λ b. b == c) text k d (subst (λ (n : ℕ). k < n) (sym l) below))

regroup : {B : Type 0} (done : List B) (y : B) (left : Option (List B)) → some_behind done (put_front (Some y) left) ≡ some_behind (done ++ y ∷ []) left
regroup {B} done y (Some ys) = ap (λ (zs : List B). Some zs) (simp append_assoc)
regroup done y None = refl

pub part_more : {B : Type 0} (f : List ℕ → Option B) (done : List B) (parts more : List (List ℕ)) (first : List ℕ) (y : B) (total : Option (List B)) → parts ≡ first ∷ more → Some y ≡ f first → some_behind done (each_some f parts) ≡ total → some_behind (done ++ y ∷ []) (each_some f more) ≡ total
unfolding each_some
part_more {B} f done parts more first y total here h so_far =
    sym (regroup done y (each_some f more)) ∙ ap (λ (o : Option B). some_behind done (put_front o (each_some f more))) h
    ∙ sym (ap (λ (ps : List (List ℕ)). some_behind done (each_some f ps)) here) ∙ so_far

pub part_stops : {B : Type 0} (f : List ℕ → Option B) (done : List B) (parts more : List (List ℕ)) (first : List ℕ) (total : Option (List B)) → parts ≡ first ∷ more → None ≡ f first → some_behind done (each_some f parts) ≡ total → None ≡ total
unfolding each_some
part_stops {B} f done parts more first total here h so_far =
    ap (λ (o : Option B). some_behind done (put_front o (each_some f more))) h
    ∙ sym (ap (λ (ps : List (List ℕ)). some_behind done (each_some f ps)) here) ∙ so_far

pub part_last : {B : Type 0} (f : List ℕ → Option B) (done : List B) (parts : List (List ℕ)) (first : List ℕ) (y : B) (total : Option (List B)) → parts ≡ first ∷ [] → Some y ≡ f first → some_behind done (each_some f parts) ≡ total → Some (done ++ y ∷ []) ≡ total
unfolding each_some
part_last {B} f done parts first y total here h so_far =
    ap (λ (zs : List B). Some zs) (sym (append-nil (done ++ y ∷ []))) ∙ part_more f done parts [] first y total here h so_far
