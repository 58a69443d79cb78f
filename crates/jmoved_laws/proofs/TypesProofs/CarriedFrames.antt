-- Frames of a moved method: what they say of the old locals and operands, at the new places of `new`s, and the context behind.
use Rattle.std.proofs.Common.{◌≡◌, ℕ, suc, Bool, true, false, cond, List, [], ◌∷◌, ◌++◌, map, Some, None, refl, sym, ap, ◌∙◌, arith}
use Rattle.std.specs.Prelude.{◌&&◌, ◌==◌, pos, option_map, option_and_then}
use Rattle.std.specs.List.{find}
use Rattle.std.specs.Ordering.{int_eq}
use Rattle.std.proofs.lemmas.Bool.{eqb-true, eq-eqb}
use Rattle.std.proofs.lemmas.Bool.Decides.{Decides-int_eq}
use Rattle.std.proofs.lemmas.Int.{ints}
use Rattle.jclass.specs.FileContents.{IsIn}
use Rattle.jtypes.specs.declared.vtype.VType.{VType}
use Rattle.jtypes.specs.declared.vtype.VType.TheVariants.{Top, Int, Long, Null, UninitThis, Uninit, Object, Array, Ctx}
use Rattle.jtypes.specs.Assignability.{fits}
use Rattle.jtypes.specs.TypeFrames as frames
use Rattle.jtypes.specs.TypeFrames.{Frame, all_fit, implies, is_long, stack_fits}
use Rattle.jtypes.specs.ProofNames.{item_fits}
use Rattle.jtypes.specs.ClassTrees.{Tree}
use Rattle.jtyping.specs.jrule.FrameExtension.{with_more}
use Rattle.jtyping.proofs.JruleProofs.Conjunctions.{and_true, both}
use Rattle.jtyping.specs.jwelltyped.DeclaredFrames.{Written, declared_at}
use Rattle.jmoved_laws.specs.types.RenamedPlaces.{IsApart, renamed, renamed_type}
use Rattle.jmoved_laws.proofs.TypesProofs.NewSubstitution.{long_same}

module _ (to : ℕ → ℕ) (more : List VType) where
  -- a frame as the moved method has it
  abbrev pub carried : Frame → Frame
  carried f = with_more more (renamed to f)

  abbrev pub carried_written : Written → Written
  carried_written w = record { at = to w.at; frame = option_map carried w.frame }

  -- ---- declared frames

  same_int : (a b c d : ℕ) → (a == b) ≡ (c == d) → int_eq (pos a) (pos b) ≡ int_eq (pos c) (pos d)
  same_int a b c d e = agree (int_eq (pos a) (pos b)) (int_eq (pos c) (pos d))
      (λ h. let same : pos a ≡ pos b = (Decides-int_eq (pos a) (pos b)).0 h in (Decides-int_eq (pos c) (pos d)).1
      (ap (λ (n : ℕ). pos n) (eqb-true c d (sym e ∙ eq-eqb a b (let same : a ≡ b = omega (arith, ints) in same)))))
      (λ h. let same : pos c ≡ pos d = (Decides-int_eq (pos c) (pos d)).0 h in (Decides-int_eq (pos a) (pos b)).1
      (ap (λ (n : ℕ). pos n) (eqb-true a b (e ∙ eq-eqb c d (let same : c ≡ d = omega (arith, ints) in same)))))
    where
      agree : (x y : Bool) → (x ≡ true → y ≡ true) → (y ≡ true → x ≡ true) → x ≡ y
      agree true y f g = sym (f refl)
      agree false true f g = g refl
      agree false false f g = refl

  -- at a place from which all others went apart the frame is declared that was declared there
  pub declared_there : (ws : List Written) (at : ℕ) → IsApart to at → declared_at (map carried_written ws) (pos (to at)) ≡ option_map carried (declared_at ws (pos at))
  declared_there [] at h = refl
  declared_there (w ∷ ws) at h =
      ap (λ (b : Bool). option_and_then (λ (x : Written). x.frame) (cond b (Some (carried_written w))
      (find (λ (x : Written). int_eq (pos x.at) (pos (to at))) (map carried_written ws)))) (same_int (to w.at) (to at) w.at at (h w.at))
      ∙ go (int_eq (pos w.at) (pos at)) (declared_there ws at h)
    where
      go : (b : Bool) → declared_at (map carried_written ws) (pos (to at)) ≡ option_map carried (declared_at ws (pos at))
          → option_and_then (λ (x : Written). x.frame) (cond b (Some (carried_written w)) (find (λ (x : Written). int_eq (pos x.at) (pos (to at))) (map carried_written ws)))
          ≡ option_map carried (option_and_then (λ (x : Written). x.frame) (cond b (Some w) (find (λ (x : Written). int_eq (pos x.at) (pos at)) ws)))
      go true e = refl
      go false e = e

  -- where no old place went no frame is declared
  pub declared_nowhere : (ws : List Written) (at : ℕ) → ((w : Written) → IsIn w ws → (to w.at == at) ≡ false) → declared_at (map carried_written ws) (pos at) ≡ None
  declared_nowhere [] at h = refl
  declared_nowhere (w ∷ ws) at h =
      ap (λ (b : Bool). option_and_then (λ (x : Written). x.frame) (cond b (Some (carried_written w))
      (find (λ (x : Written). int_eq (pos x.at) (pos at)) (map carried_written ws)))) (same_int (to w.at) at 0 1 (h w (0, refl)))
      ∙ declared_nowhere ws at (λ x is. h x (suc is.0, is.1))

  -- ---- what fits

  type_fits : (t : Tree) (a b : VType) → fits t a b ≡ true → fits t (renamed_type to a) (renamed_type to b) ≡ true
  type_fits t Top Top h = refl
  type_fits t Top Int h = h
  type_fits t Top Long h = h
  type_fits t Top Null h = h
  type_fits t Top UninitThis h = h
  type_fits t Top (Uninit n) h = absurd cc
  type_fits t Top (Object d) h = h
  type_fits t Top (Array b) h = h
  type_fits t Top Ctx h = h
  type_fits t Int Top h = refl
  type_fits t Int Int h = h
  type_fits t Int Long h = h
  type_fits t Int Null h = h
  type_fits t Int UninitThis h = h
  type_fits t Int (Uninit n) h = absurd cc
  type_fits t Int (Object d) h = h
  type_fits t Int (Array b) h = h
  type_fits t Int Ctx h = h
  type_fits t Long Top h = refl
  type_fits t Long Int h = h
  type_fits t Long Long h = h
  type_fits t Long Null h = h
  type_fits t Long UninitThis h = h
  type_fits t Long (Uninit n) h = absurd cc
  type_fits t Long (Object d) h = h
  type_fits t Long (Array b) h = h
  type_fits t Long Ctx h = h
  type_fits t Null Top h = refl
  type_fits t Null Int h = h
  type_fits t Null Long h = h
  type_fits t Null Null h = h
  type_fits t Null UninitThis h = h
  type_fits t Null (Uninit n) h = absurd cc
  type_fits t Null (Object d) h = h
  type_fits t Null (Array b) h = h
  type_fits t Null Ctx h = h
  type_fits t UninitThis Top h = refl
  type_fits t UninitThis Int h = h
  type_fits t UninitThis Long h = h
  type_fits t UninitThis Null h = h
  type_fits t UninitThis UninitThis h = h
  type_fits t UninitThis (Uninit n) h = absurd cc
  type_fits t UninitThis (Object d) h = h
  type_fits t UninitThis (Array b) h = h
  type_fits t UninitThis Ctx h = h
  type_fits t (Uninit o) Top h = refl
  type_fits t (Uninit o) Int h = absurd cc
  type_fits t (Uninit o) Long h = absurd cc
  type_fits t (Uninit o) Null h = absurd cc
  type_fits t (Uninit o) UninitThis h = absurd cc
  type_fits t (Uninit o) (Uninit n) h = eq-eqb (to o) (to n) (ap to (eqb-true o n h))
  type_fits t (Uninit o) (Object d) h = absurd cc
  type_fits t (Uninit o) (Array b) h = absurd cc
  type_fits t (Uninit o) Ctx h = absurd cc
  type_fits t (Object c) Top h = refl
  type_fits t (Object c) Int h = h
  type_fits t (Object c) Long h = h
  type_fits t (Object c) Null h = h
  type_fits t (Object c) UninitThis h = h
  type_fits t (Object c) (Uninit n) h = absurd cc
  type_fits t (Object c) (Object d) h = h
  type_fits t (Object c) (Array b) h = h
  type_fits t (Object c) Ctx h = h
  type_fits t (Array a) Top h = refl
  type_fits t (Array a) Int h = h
  type_fits t (Array a) Long h = h
  type_fits t (Array a) Null h = h
  type_fits t (Array a) UninitThis h = h
  type_fits t (Array a) (Uninit n) h = absurd cc
  type_fits t (Array a) (Object d) h = h
  type_fits t (Array a) (Array b) h = h
  type_fits t (Array a) Ctx h = h
  type_fits t Ctx Top h = refl
  type_fits t Ctx Int h = h
  type_fits t Ctx Long h = h
  type_fits t Ctx Null h = h
  type_fits t Ctx UninitThis h = h
  type_fits t Ctx (Uninit n) h = absurd cc
  type_fits t Ctx (Object d) h = h
  type_fits t Ctx (Array b) h = h
  type_fits t Ctx Ctx h = h

  locals_fit : (t : Tree) (xs ys : List VType) → all_fit (fits t) more more ≡ true → all_fit (fits t) xs ys ≡ true
      → all_fit (fits t) (map (renamed_type to) xs ++ more) (map (renamed_type to) ys ++ more) ≡ true
  unfolding all_fit
  locals_fit t [] [] h e = h
  locals_fit t [] (y ∷ ys) h e = absurd cc
  locals_fit t (x ∷ xs) [] h e = absurd cc
  locals_fit t (x ∷ xs) (y ∷ ys) h e =
      let parts = both (fits t x y) (all_fit (fits t) xs ys) e in
      and_true (fits t (renamed_type to x) (renamed_type to y)) _ (type_fits t x y parts.0) (locals_fit t xs ys h parts.1)

  item_fit : (t : Tree) (x y : VType) → item_fits (fits t) x y ≡ true → item_fits (fits t) (renamed_type to x) (renamed_type to y) ≡ true
  item_fit t x y e =
      let parts = both (fits t x y) (implies (is_long x) (is_long y)) e in
      and_true (fits t (renamed_type to x) (renamed_type to y)) (implies (is_long (renamed_type to x)) (is_long (renamed_type to y))) (type_fits t x y parts.0)
      (ap (λ (l : Bool). implies l (is_long (renamed_type to y))) (long_same to x) ∙ ap (implies (is_long x)) (long_same to y) ∙ parts.1)

  stack_fit : (t : Tree) (xs ys : List VType) → stack_fits (fits t) xs ys ≡ true → stack_fits (fits t) (map (renamed_type to) xs) (map (renamed_type to) ys) ≡ true
  unfolding all_fit
  stack_fit t [] [] e = refl
  stack_fit t [] (y ∷ ys) e = absurd cc
  stack_fit t (x ∷ xs) [] e = absurd cc
  stack_fit t (x ∷ xs) (y ∷ ys) e =
      let parts = both (item_fits (fits t) x y) (stack_fits (fits t) xs ys) e in
      and_true (item_fits (fits t) (renamed_type to x) (renamed_type to y)) _ (item_fit t x y parts.0) (stack_fit t xs ys parts.1)

  -- what fits a frame fits it as the moved method has both
  pub carried_fits : (t : Tree) (f g : Frame) → all_fit (fits t) more more ≡ true → frames.frame_fits (fits t) f g ≡ true
      → frames.frame_fits (fits t) (carried f) (carried g) ≡ true
  carried_fits t f g h e =
      let first = both (all_fit (fits t) f.locals g.locals && stack_fits (fits t) f.stack g.stack) (implies f.flag g.flag) e in
      let rest = both (all_fit (fits t) f.locals g.locals) (stack_fits (fits t) f.stack g.stack) first.0 in
      and_true (all_fit (fits t) (carried f).locals (carried g).locals && stack_fits (fits t) (carried f).stack (carried g).stack) (implies f.flag g.flag)
      (and_true (all_fit (fits t) (carried f).locals (carried g).locals) (stack_fits (fits t) (carried f).stack (carried g).stack) (locals_fit t f.locals g.locals h rest.0)
      (stack_fit t f.stack g.stack rest.1)) first.1
