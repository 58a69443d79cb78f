-- Moves of the stack do the same to any items.
use Rattle.std.proofs.Common.{◌≡◌, List, [], ◌∷◌, map, refl}
use Rattle.std.specs.Prelude.{option_map}
use Rattle.jvalues.specs.declared.jnames.names.Shuffle.{Shuffle}
use Rattle.jvalues.specs.declared.jnames.names.Shuffle.TheVariants.{Pop, Pop2, Dup, DupX1, DupX2, Dup2, Dup2X1, Dup2X2, Swap}
use Rattle.jvalues.specs.jops.Shuffles.{Item, One, Two, Move, shuffle}

module _ {V W : Type 0} (f : V → W) where
  -- an item of what stands for it
  abbrev pub of_item : Item V → Item W
  of_item (One a) = One (f a)
  of_item (Two a) = Two (f a)

  abbrev pub of_move : Move V → Move W
  of_move m = record { taken = m.taken; put = map f m.put }

  abbrev Same : Shuffle → List (Item V) → Type 0
  Same s is = shuffle s (map of_item is) ≡ option_map of_move (shuffle s is)

  same_pop : (is : List (Item V)) → Same Pop is
  unfolding shuffle
  same_pop [] = refl
  same_pop (One a ∷ is) = refl
  same_pop (Two a ∷ is) = refl

  same_dup : (is : List (Item V)) → Same Dup is
  unfolding shuffle
  same_dup [] = refl
  same_dup (One a ∷ is) = refl
  same_dup (Two a ∷ is) = refl

  same_pop2 : (is : List (Item V)) → Same Pop2 is
  unfolding shuffle
  same_pop2 [] = refl
  same_pop2 (Two a ∷ is) = refl
  same_pop2 (One a ∷ []) = refl
  same_pop2 (One a ∷ One b ∷ is) = refl
  same_pop2 (One a ∷ Two b ∷ is) = refl

  same_dup_x1 : (is : List (Item V)) → Same DupX1 is
  unfolding shuffle
  same_dup_x1 [] = refl
  same_dup_x1 (Two a ∷ is) = refl
  same_dup_x1 (One a ∷ []) = refl
  same_dup_x1 (One a ∷ One b ∷ is) = refl
  same_dup_x1 (One a ∷ Two b ∷ is) = refl

  same_dup_x2 : (is : List (Item V)) → Same DupX2 is
  unfolding shuffle
  same_dup_x2 [] = refl
  same_dup_x2 (Two a ∷ is) = refl
  same_dup_x2 (One a ∷ []) = refl
  same_dup_x2 (One a ∷ Two b ∷ is) = refl
  same_dup_x2 (One a ∷ One b ∷ []) = refl
  same_dup_x2 (One a ∷ One b ∷ One c ∷ is) = refl
  same_dup_x2 (One a ∷ One b ∷ Two c ∷ is) = refl

  same_dup2 : (is : List (Item V)) → Same Dup2 is
  unfolding shuffle
  same_dup2 [] = refl
  same_dup2 (Two a ∷ is) = refl
  same_dup2 (One a ∷ []) = refl
  same_dup2 (One a ∷ One b ∷ is) = refl
  same_dup2 (One a ∷ Two b ∷ is) = refl

  same_dup2_x1 : (is : List (Item V)) → Same Dup2X1 is
  unfolding shuffle
  same_dup2_x1 [] = refl
  same_dup2_x1 (Two a ∷ []) = refl
  same_dup2_x1 (Two a ∷ One b ∷ is) = refl
  same_dup2_x1 (Two a ∷ Two b ∷ is) = refl
  same_dup2_x1 (One a ∷ []) = refl
  same_dup2_x1 (One a ∷ Two b ∷ is) = refl
  same_dup2_x1 (One a ∷ One b ∷ []) = refl
  same_dup2_x1 (One a ∷ One b ∷ One c ∷ is) = refl
  same_dup2_x1 (One a ∷ One b ∷ Two c ∷ is) = refl

  same_dup2_x2 : (is : List (Item V)) → Same Dup2X2 is
  unfolding shuffle
  same_dup2_x2 [] = refl
  same_dup2_x2 (Two a ∷ []) = refl
  same_dup2_x2 (Two a ∷ Two b ∷ is) = refl
  same_dup2_x2 (Two a ∷ One b ∷ []) = refl
  same_dup2_x2 (Two a ∷ One b ∷ One c ∷ is) = refl
  same_dup2_x2 (Two a ∷ One b ∷ Two c ∷ is) = refl
  same_dup2_x2 (One a ∷ []) = refl
  same_dup2_x2 (One a ∷ Two b ∷ is) = refl
  same_dup2_x2 (One a ∷ One b ∷ []) = refl
  same_dup2_x2 (One a ∷ One b ∷ Two c ∷ is) = refl
  same_dup2_x2 (One a ∷ One b ∷ One c ∷ []) = refl
  same_dup2_x2 (One a ∷ One b ∷ One c ∷ One d ∷ is) = refl
  same_dup2_x2 (One a ∷ One b ∷ One c ∷ Two d ∷ is) = refl

  same_swap : (is : List (Item V)) → Same Swap is
  unfolding shuffle
  same_swap [] = refl
  same_swap (Two a ∷ is) = refl
  same_swap (One a ∷ []) = refl
  same_swap (One a ∷ One b ∷ is) = refl
  same_swap (One a ∷ Two b ∷ is) = refl

  pub naturally : (s : Shuffle) (is : List (Item V)) → Same s is
  naturally Pop is = same_pop is
  naturally Pop2 is = same_pop2 is
  naturally Dup is = same_dup is
  naturally DupX1 is = same_dup_x1 is
  naturally DupX2 is = same_dup_x2 is
  naturally Dup2 is = same_dup2 is
  naturally Dup2X1 is = same_dup2_x1 is
  naturally Dup2X2 is = same_dup2_x2 is
  naturally Swap is = same_swap is
