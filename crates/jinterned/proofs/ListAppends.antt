-- A list with one more behind.
use Rattle.std.proofs.Common.{◌≡◌, ◌∙◌, ◌⊎◌, inl, inr, ℕ, zero, suc, List, [], ◌∷◌, ◌++◌, length, Some, refl, sym, ap, subst}
use Rattle.std.specs.Prelude.{slice_get}
use Rattle.std.proofs.lemmas.Option.{slice_get_within}
use Rattle.jctx.specs.declared.item.Item.{Item}
use Rattle.jctx.specs.ContextLaws.{IsKept}
use Rattle.jinterned.specs.InternedContexts.{AreDistinct, AreTabled, IsNew}
use Rattle.jinterned.proofs.DigestChains.{front}

module _ {T : Type 0} where
  -- where one of the longer list stands
  pub record Old (xs : List T) (i : ℕ) (c : T) : Type 0 where
    pub old : slice_get xs i ≡ Some c

  pub record Last (xs : List T) (last : T) (i : ℕ) (c : T) : Type 0 where
    pub at : i ≡ length xs
    pub is : last ≡ c

  same_one : (a b : T) → Some a ≡ Some b → a ≡ b
  same_one a b e = cc

  pub stands : (xs : List T) (last : T) (i : ℕ) (c : T) → slice_get (xs ++ last ∷ []) i ≡ Some c → Old xs i c ⊎ Last xs last i c
  stands [] last zero c is = inr (record { at = refl; is = same_one last c is })
  stands [] last (suc i) c is = cc
  stands (x ∷ xs) last zero c is = inl (record { old = is })
  stands (x ∷ xs) last (suc i) c is = more (stands xs last i c is)
    where
      more : Old xs i c ⊎ Last xs last i c → Old (x ∷ xs) (suc i) c ⊎ Last (x ∷ xs) last (suc i) c
      more (inl o) = inl (record { old = o.old })
      more (inr l) = inr (record { at = ap suc l.at; is = l.is })

  pub distinct_more : (xs : List T) (last : T) → AreDistinct xs → IsNew xs last → AreDistinct (xs ++ last ∷ [])
  distinct_more xs last distinct new i j c at other = both (stands xs last i c at) (stands xs last j c other)
    where
      both : Old xs i c ⊎ Last xs last i c → Old xs j c ⊎ Last xs last j c → i ≡ j
      both (inl a) (inl b) = distinct i j c a.old b.old
      both (inl a) (inr b) = absurd (new i (a.old ∙ ap (λ (x : T). Some x) (sym b.is)))
      both (inr a) (inl b) = absurd (new j (b.old ∙ ap (λ (x : T). Some x) (sym a.is)))
      both (inr a) (inr b) = a.at ∙ sym b.at

pub tabled_more : (contexts : List (List Item)) (last : List Item) → AreTabled contexts → IsNew contexts last → IsKept last → AreTabled (contexts ++ last ∷ [])
tabled_more contexts last tabled new kept = (
  front 0 contexts (last ∷ []) (slice_get_within contexts 0 [] tabled.0) ∙ tabled.0,
  distinct_more contexts last tabled.1 new,
  λ i c at. keeps i c (stands contexts last i c at),
)
  where
    keeps : (i : ℕ) (c : List Item) → Old contexts i c ⊎ Last contexts last i c → IsKept c
    keeps i c (inl a) = tabled.2 i c a.old
    keeps i c (inr a) = subst IsKept a.is kept
