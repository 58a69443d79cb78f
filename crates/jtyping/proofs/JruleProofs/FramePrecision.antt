-- What the rule does to a frame it does to one of more precise types.
use Rattle.std.proofs.Common.{◌≡◌, ℕ, zero, suc, ◌+◌, Bool, true, false, List, [], ◌∷◌, ◌++◌, length, map, drop, Option, Some, None, nat_le, refl, sym, ap, subst, ◌∙◌}
use Rattle.std.specs.Prelude.{option_map, option_and_then, if◌then◌else◌}
use Rattle.jvalues.specs.declared.jnames.names.Shuffle.{Shuffle}
use Rattle.jvalues.specs.jops.Shuffles.{Item, One, Two, shuffle}
use Rattle.jvalues.specs.jops.Shuffles as shuffles
use Rattle.jtypes.specs.declared.vtype.VType.{VType}
use Rattle.jtypes.specs.declared.vtype.VType.TheVariants.{Top}
use Rattle.jtypes.specs.TypeFrames.{Frame, all_fit, implies, is_long, places, slots, within}
use Rattle.jtypes.specs.ClassTrees.{Tree}
use Rattle.jtyping.specs.jrule.StackEffects.{Exchange, Want, meets}
use Rattle.jtyping.specs.jrule.StackMoveRule.{move}
use Rattle.jtyping.specs.ProofNames.{moved, shuffled}
use Rattle.jtyping.specs.jrule.StackMoveRule as moves
use Rattle.jtyping.specs.jrule.LocalRule.{is_top}
use Rattle.jtyping.specs.jrule.StackOperands.{below, exchanged, given, taken, with_room, with_stack}
use Rattle.jtyping.specs.jrule.PreciseFrames.{item_precise, locals_precise}
use Rattle.jtyping.proofs.JruleProofs.MoveNaturality.{naturally, of_item, of_move}
use Rattle.jtyping.proofs.JruleProofs.Conjunctions.{and_true, both}
use Rattle.jtyping.proofs.JruleProofs.PreciseTypes.{InOrder, item_itself, meets_kept, same_long, same_top, sharp_of}

abbrev pub LocalsSharp : Tree → List VType → List VType → Type 0
LocalsSharp t xs ys = locals_precise t xs ys ≡ true

abbrev pub StackSharp : Tree → List VType → List VType → Type 0
StackSharp t xs ys = all_fit (item_precise t) xs ys ≡ true

-- the first frame is more precise than the second
pub record IsSharp (t : Tree) (a b : Frame) : Type 0 where
  pub locals : LocalsSharp t a.locals b.locals
  pub stack : StackSharp t a.stack b.stack
  pub flag : implies a.flag b.flag ≡ true

-- a frame behind the first one, where there is the second behind another
pub record Found (t : Tree) (r : Frame → Option Frame) (a c : Frame) : Type 0 where
  pub frame : Frame
  pub is : r a ≡ Some frame
  pub sharp : IsSharp t frame c

abbrev pub Keeps : Tree → (Frame → Option Frame) → Type 0
Keeps t r = (a b c : Frame) → IsSharp t a b → r b ≡ Some c → Found t r a c

pub some_is : {A : Type 0} (x y : A) → Some x ≡ Some y → x ≡ y
some_is x y e = cc

pub found : (t : Tree) (r : Frame → Option Frame) (a d b c : Frame) → r a ≡ Some d → IsSharp t d b → Some b ≡ Some c → Found t r a c
found t r a d b c is sharp e = record { frame = d; is = is; sharp = subst (λ c. IsSharp t d c) (some_is b c e) sharp }

pub then_kept : (t : Tree) (r s : Frame → Option Frame) → Keeps t r → Keeps t s → Keeps t (λ f. option_and_then s (r f))
then_kept t r s first second a b c sharp e = go (r b) refl e
  where
    last : (d : Frame) → Found t r a d → s d ≡ Some c → Found t (λ f. option_and_then s (r f)) a c
    last d one h =
        let two = second one.frame d c one.sharp h in
        record { frame = two.frame; is = ap (option_and_then s) one.is ∙ two.is; sharp = two.sharp }

    go : (o : Option Frame) → r b ≡ o → option_and_then s o ≡ Some c → Found t (λ f. option_and_then s (r f)) a c
    go None is h = absurd (cc)
    go (Some d) is h = last d (first a b d sharp is) h

-- ---- the stack

module _ (t : Tree) where
  pub same_places : (x y : VType) → item_precise t x y ≡ true → length (places x) ≡ length (places y)
  same_places x y i = go (is_long x) (is_long y) (same_long t x y i)
    where
      go : (l m : Bool) → l ≡ m → length (if l then x ∷ Top ∷ [] else x ∷ []) ≡ length (if m then y ∷ Top ∷ [] else y ∷ [])
      go true true e = refl
      go false false e = refl
      go true false e = absurd (cc)
      go false true e = absurd (cc)

  pub slots_same : (xs ys : List VType) → StackSharp t xs ys → slots xs ≡ slots ys
  unfolding all_fit slots
  slots_same [] [] s = refl
  slots_same [] (y ∷ ys) s = absurd (cc)
  slots_same (x ∷ xs) [] s = absurd (cc)
  slots_same (x ∷ xs) (y ∷ ys) s =
      let parts = both (item_precise t x y) (all_fit (item_precise t) xs ys) s in
      ap (λ n. n + slots xs) (same_places x y parts.0) ∙ ap (λ n. length (places y) + n) (slots_same xs ys parts.1)

  pub pushed_sharp : (a b : VType) (xs ys : List VType) → item_precise t a b ≡ true → StackSharp t xs ys → StackSharp t (a ∷ xs) (b ∷ ys)
  unfolding all_fit
  pushed_sharp a b xs ys s rest = and_true (item_precise t a b) (all_fit (item_precise t) xs ys) s rest

  pub room_kept : (most : ℕ) (a b c : Frame) (xs ys : List VType) → IsSharp t a b → StackSharp t xs ys → with_room most b ys ≡ Some c → Found t (λ f. with_room most f xs) a c
  room_kept most a b c xs ys sharp stack e = go (within most ys) refl e
    where
      go : (w : Bool) → within most ys ≡ w → (if w then Some (with_stack b ys) else None) ≡ Some c → Found t (λ f. with_room most f xs) a c
      go false w h = absurd (cc)
      go true w h =
          found t (λ f. with_room most f xs) a (with_stack a xs) (with_stack b ys) c
          (ap (λ n. if nat_le n most then Some (with_stack a xs) else None) (slots_same xs ys stack) ∙ ap (λ w. if w then Some (with_stack a xs) else None) w)
          (record { locals = sharp.locals; stack = stack; flag = sharp.flag }) h

  pub given_kept : (o : InOrder t) (most : ℕ) (x : Option VType) → Keeps t (given most x)
  given_kept o most None a b c sharp e = found t (given most None) a a b c refl sharp e
  given_kept o most (Some x) a b c sharp e =
      let f = room_kept most a b c (x ∷ a.stack) (x ∷ b.stack) sharp (pushed_sharp x x a.stack b.stack (item_itself t o x) sharp.stack) e in
      record { frame = f.frame; is = f.is; sharp = f.sharp }

  -- what is wanted
  pub below_kept : (o : InOrder t) (ws : List Want) (xs ys zs : List VType) → StackSharp t xs ys → below t ws ys ≡ Some zs → (us : List VType) × (below t ws xs ≡ Some us) × StackSharp t us zs
  unfolding below all_fit
  below_kept o [] xs ys zs s e = (xs, refl, subst (λ zs. StackSharp t xs zs) (some_is ys zs e) s)
  below_kept o (w ∷ ws) xs [] zs s e = absurd (cc)
  below_kept o (w ∷ ws) [] (y ∷ ys) zs s e = absurd (cc)
  below_kept o (w ∷ ws) (x ∷ xs) (y ∷ ys) zs s e = go (meets t w y) refl e (below_kept o ws xs ys zs)
    where
      go : (b : Bool) → meets t w y ≡ b → (if b then below t ws ys else None) ≡ Some zs →
          (StackSharp t xs ys → below t ws ys ≡ Some zs → (us : List VType) × (below t ws xs ≡ Some us) × StackSharp t us zs) →
          (us : List VType) × (below t (w ∷ ws) (x ∷ xs) ≡ Some us) × StackSharp t us zs
      go false m h ih = absurd (cc)
      go true m h ih =
          let parts = both (item_precise t x y) (all_fit (item_precise t) xs ys) s in
          let rest = ih parts.1 h in
          (rest.0, ap (λ b. if b then below t ws xs else None) (meets_kept t o w x y (sharp_of t x y parts.0) m) ∙ rest.1, rest.2)

  pub taken_kept : (o : InOrder t) (ws : List Want) → Keeps t (taken t ws)
  unfolding taken
  taken_kept o ws a b c sharp e = go (below t ws b.stack) refl e
    where
      go : (r : Option (List VType)) → below t ws b.stack ≡ r → option_map (with_stack b) r ≡ Some c → Found t (taken t ws) a c
      go None is h = absurd (cc)
      go (Some zs) is h =
          let rest = below_kept o ws a.stack b.stack zs sharp.stack is in
          found t (taken t ws) a (with_stack a rest.0) (with_stack b zs) c (ap (option_map (with_stack a)) rest.1)
          (record { locals = sharp.locals; stack = rest.2; flag = sharp.flag }) h

  pub exchanged_kept : (o : InOrder t) (most : ℕ) (e : Exchange) → Keeps t (exchanged t most e)
  exchanged_kept o most e = then_kept t (taken t e.takes) (given most e.gives) (taken_kept o e.takes) (given_kept o most e.gives)

  -- ---- moves of the stack

  -- a type and one that it is more precise than
  abbrev Pair : Type 0
  Pair = (a : VType) × (b : VType) × (item_precise t a b ≡ true)

  abbrev fst : Pair → VType
  fst v = v.0

  abbrev snd : Pair → VType
  snd v = v.1

  paired : (xs ys : List VType) → StackSharp t xs ys → (vs : List Pair) × (map fst vs ≡ xs) × (map snd vs ≡ ys)
  unfolding all_fit
  paired [] [] s = ([], refl, refl)
  paired [] (y ∷ ys) s = absurd (cc)
  paired (x ∷ xs) [] s = absurd (cc)
  paired (x ∷ xs) (y ∷ ys) s =
      let parts = both (item_precise t x y) (all_fit (item_precise t) xs ys) s in
      let rest = paired xs ys parts.1 in
      ((x, y, parts.0) ∷ rest.0, ap (λ zs. x ∷ zs) rest.1, ap (λ zs. y ∷ zs) rest.2)

  unpaired : (vs : List Pair) → StackSharp t (map fst vs) (map snd vs)
  unfolding all_fit
  unpaired [] = refl
  unpaired (v ∷ vs) = and_true (item_precise t v.0 v.1) (all_fit (item_precise t) (map fst vs) (map snd vs)) v.2 (unpaired vs)

  abbrev pairs : List Pair → List (Item Pair)
  pairs [] = []
  pairs (v ∷ vs) = if is_top v.1 then [] else (if is_long v.1 then Two v else One v) ∷ pairs vs

  second_items : (vs : List Pair) → moves.items (map snd vs) ≡ map (of_item snd) (pairs vs)
  unfolding moves.items
  second_items [] = refl
  second_items (v ∷ vs) = go (is_top v.1) (is_long v.1) (second_items vs)
    where
      go : (top long : Bool) → moves.items (map snd vs) ≡ map (of_item snd) (pairs vs) → (if top then [] else (if long then Two v.1 else One v.1) ∷ moves.items (map snd vs))
          ≡ map (of_item snd) (if top then [] else (if long then Two v else One v) ∷ pairs vs)
      go true long e = refl
      go false true e = ap (λ is. Two v.1 ∷ is) e
      go false false e = ap (λ is. One v.1 ∷ is) e

  first_items : (vs : List Pair) → moves.items (map fst vs) ≡ map (of_item fst) (pairs vs)
  unfolding moves.items
  first_items [] = refl
  first_items (v ∷ vs) =
      ap (λ top. if top then [] else (if is_long v.0 then Two v.0 else One v.0) ∷ moves.items (map fst vs)) (same_top t v.0 v.1 v.2)
      ∙ ap (λ long. if is_top v.1 then [] else (if long then Two v.0 else One v.0) ∷ moves.items (map fst vs)) (same_long t v.0 v.1 v.2)
      ∙ go (is_top v.1) (is_long v.1) (first_items vs)
    where
      go : (top long : Bool) → moves.items (map fst vs) ≡ map (of_item fst) (pairs vs) → (if top then [] else (if long then Two v.0 else One v.0) ∷ moves.items (map fst vs))
          ≡ map (of_item fst) (if top then [] else (if long then Two v else One v) ∷ pairs vs)
      go true long e = refl
      go false true e = ap (λ is. Two v.0 ∷ is) e
      go false false e = ap (λ is. One v.0 ∷ is) e

  joined_sharp : (xs ys us vs : List VType) → StackSharp t xs ys → StackSharp t us vs → StackSharp t (xs ++ us) (ys ++ vs)
  unfolding all_fit
  joined_sharp [] [] us vs s r = r
  joined_sharp [] (y ∷ ys) us vs s r = absurd (cc)
  joined_sharp (x ∷ xs) [] us vs s r = absurd (cc)
  joined_sharp (x ∷ xs) (y ∷ ys) us vs s r =
      let parts = both (item_precise t x y) (all_fit (item_precise t) xs ys) s in
      and_true (item_precise t x y) (all_fit (item_precise t) (xs ++ us) (ys ++ vs)) parts.0 (joined_sharp xs ys us vs parts.1 r)

  dropped_sharp : (n : ℕ) (xs ys : List VType) → StackSharp t xs ys → StackSharp t (drop n xs) (drop n ys)
  unfolding all_fit
  dropped_sharp zero xs ys s = s
  dropped_sharp (suc n) [] [] s = refl
  dropped_sharp (suc n) [] (y ∷ ys) s = absurd (cc)
  dropped_sharp (suc n) (x ∷ xs) [] s = absurd (cc)
  dropped_sharp (suc n) (x ∷ xs) (y ∷ ys) s = dropped_sharp n xs ys (both (item_precise t x y) (all_fit (item_precise t) xs ys) s).1

  -- what a move does to two stacks
  pair_moved : (s : Shuffle) (vs : List Pair) (zs : List VType) → shuffled s (map snd vs) ≡ Some zs → (us : List VType) × (shuffled s (map fst vs) ≡ Some us) × StackSharp t us zs
  pair_moved s vs zs e =
      go (shuffle s (pairs vs)) refl (sym (ap (option_map (moved (map snd vs))) (ap (shuffle s) (second_items vs) ∙ naturally snd s (pairs vs))) ∙ e)
    where
      go : (o : Option (shuffles.Move Pair)) → shuffle s (pairs vs) ≡ o → option_map (moved (map snd vs)) (option_map (of_move snd) o) ≡ Some zs →
          (us : List VType) × (shuffled s (map fst vs) ≡ Some us) × StackSharp t us zs
      go None is h = absurd (cc)
      go (Some m) is h = (
        map fst m.put ++ drop m.taken (map fst vs),
        ap (option_map (moved (map fst vs))) (ap (shuffle s) (first_items vs) ∙ naturally fst s (pairs vs) ∙ ap (option_map (of_move fst)) is),
        subst (λ zs. StackSharp t (map fst m.put ++ drop m.taken (map fst vs)) zs) (some_is (map snd m.put ++ drop m.taken (map snd vs)) zs h)
            (joined_sharp (map fst m.put) (map snd m.put) (drop m.taken (map fst vs)) (drop m.taken (map snd vs)) (unpaired m.put)
            (dropped_sharp m.taken (map fst vs) (map snd vs) (unpaired vs))),
      )

  shuffled_kept : (s : Shuffle) (xs ys zs : List VType) → StackSharp t xs ys → shuffled s ys ≡ Some zs → (us : List VType) × (shuffled s xs ≡ Some us) × StackSharp t us zs
  shuffled_kept s xs ys zs sharp e =
      let p = paired xs ys sharp in
      let m = pair_moved s p.0 zs (ap (shuffled s) p.2 ∙ e) in
      (m.0, ap (shuffled s) (sym p.1) ∙ m.1, m.2)

  pub move_kept : (most : ℕ) (s : Shuffle) → Keeps t (move most s)
  move_kept most s a b c sharp e = go (shuffled s b.stack) refl e
    where
      go : (o : Option (List VType)) → shuffled s b.stack ≡ o → option_and_then (with_room most b) o ≡ Some c → Found t (move most s) a c
      go None is h = absurd (cc)
      go (Some zs) is h =
          let m = shuffled_kept s a.stack b.stack zs sharp.stack is in
          let r = room_kept most a b c m.0 zs sharp m.2 h in
          record { frame = r.frame; is = ap (option_and_then (with_room most a)) m.1 ∙ r.is; sharp = r.sharp }
