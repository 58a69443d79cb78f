-- Going along a list, as a loop does: what is left gives what all gives.
use Rattle.std.proofs.Common.{◌≡◌, ℕ, suc, ◌+◌, ◌≤◌, ◌<◌, List, [], ◌∷◌, ◌++◌, length, get_or, drop, Option, Some, None, Result, Ok, Err, refl, sym, ap, ◌∙◌, append_assoc, add-one}
use Rattle.std.proofs.Math.Seq.{drop-cons}
use Rattle.std.proofs.Math.ListN.{drop_of_length-le}
use Rattle.std.proofs.lemmas.List.{append-nil}
use Rattle.jground.specs.declared.jbase.fault_or_memory.FaultOrMemory.{FaultOrMemory}
use Rattle.jground.specs.declared.jbase.fault_or_memory.FaultOrMemory.TheVariants as stops
use Rattle.jground.specs.jbase.MemoryFailures.{◌>>=◌, Fails}
use Rattle.jground.specs.jbase.ListMaps.{each, each_some, put_front}

-- ---- the values of all items

-- the values that are there, and those of the items that are left
abbrev pub behind : {B F : Type 0} → List B → Result (List B) F → Result (List B) F
behind done left = left >>= λ ys. Ok (done ++ ys)

regroup : {B F : Type 0} (done : List B) (y : B) (left : Result (List B) F) → behind done (left >>= λ ys. Ok (y ∷ ys)) ≡ behind (done ++ y ∷ []) left
regroup {B} {F} done y (Ok ys) = ap (λ (zs : List B). Ok zs) (simp append_assoc)
regroup done y (Err f) = refl

pub each_more : {A B F : Type 0} (f : A → Result B F) (done : List B) (xs : List A) (i : ℕ) (x : A) (y : B) (total : Result (List B) F) → i < length xs → x ≡ get_or xs i x → f x ≡ Ok y → behind done (each f (drop i xs)) ≡ total → behind (done ++ y ∷ []) (each f (drop (i + 1) xs)) ≡ total
unfolding each
each_more f done xs i x y total lt is h so_far =
    let one : behind done (each f (drop i xs)) ≡ behind (done ++ y ∷ []) (each f (drop (suc i) xs)) = rw (drop-cons xs i x, ← is, h) (regroup done y (each f (drop (suc i) xs))) in
    rw add-one (sym one ∙ so_far)

pub each_fails : {A B F : Type 0} (f : A → Result B F) (done : List B) (xs : List A) (i : ℕ) (x : A) (stop : FaultOrMemory F) (total : Result (List B) F) → i < length xs → x ≡ get_or xs i x → Fails stop (f x) → behind done (each f (drop i xs)) ≡ total → Fails stop total
unfolding each
each_fails f done xs i x stops.Memory total lt is h so_far = tt
each_fails f done xs i x (stops.Fault d) total lt is h so_far =
    let one : behind done (each f (drop i xs)) ≡ Err d = rw (drop-cons xs i x, ← is, h) refl in
    sym so_far ∙ one

pub each_ends : {A B F : Type 0} (f : A → Result B F) (done : List B) (xs : List A) (i : ℕ) (total : Result (List B) F) → length xs ≤ i → behind done (each f (drop i xs)) ≡ total → total ≡ Ok done
unfolding each
each_ends {A} {B} f done xs i total le so_far =
    let one : behind done (each f (drop i xs)) ≡ Ok done = rw (drop_of_length-le xs le) (ap (λ (zs : List B). Ok zs) (append-nil done)) in
    sym so_far ∙ one

-- ---- the values of all items, where each has one

-- the values that are there, and those of the items that are left, where each of these has one
abbrev pub some_behind : {B : Type 0} → List B → Option (List B) → Option (List B)
some_behind done (Some ys) = Some (done ++ ys)
some_behind done None = None

regroup_some : {B : Type 0} (done : List B) (y : B) (left : Option (List B)) → some_behind done (put_front (Some y) left) ≡ some_behind (done ++ y ∷ []) left
regroup_some {B} done y (Some ys) = ap (λ (zs : List B). Some zs) (simp append_assoc)
regroup_some done y None = refl

pub some_more : {A B : Type 0} (f : A → Option B) (done : List B) (xs : List A) (i : ℕ) (x : A) (y : B) (total : Option (List B)) → i < length xs → x ≡ get_or xs i x → f x ≡ Some y → some_behind done (each_some f (drop i xs)) ≡ total → some_behind (done ++ y ∷ []) (each_some f (drop (i + 1) xs)) ≡ total
unfolding each_some
some_more f done xs i x y total lt is h so_far =
    let one : some_behind done (each_some f (drop i xs)) ≡ some_behind (done ++ y ∷ []) (each_some f (drop (suc i) xs)) = rw (drop-cons xs i x, ← is, h) (regroup_some done y (each_some f (drop (suc i) xs))) in
    rw add-one (sym one ∙ so_far)

pub some_stops : {A B : Type 0} (f : A → Option B) (done : List B) (xs : List A) (i : ℕ) (x : A) (total : Option (List B)) → i < length xs → x ≡ get_or xs i x → f x ≡ None → some_behind done (each_some f (drop i xs)) ≡ total → total ≡ None
unfolding each_some
some_stops f done xs i x total lt is h so_far =
    let one : some_behind done (each_some f (drop i xs)) ≡ None = rw (drop-cons xs i x, ← is, h) refl in
    sym so_far ∙ one

pub some_ends : {A B : Type 0} (f : A → Option B) (done : List B) (xs : List A) (i : ℕ) (total : Option (List B)) → length xs ≤ i → some_behind done (each_some f (drop i xs)) ≡ total → total ≡ Some done
unfolding each_some
some_ends {A} {B} f done xs i total le so_far =
    let one : some_behind done (each_some f (drop i xs)) ≡ Some done = rw (drop_of_length-le xs le) (ap (λ (zs : List B). Some zs) (append-nil done)) in
    sym so_far ∙ one
