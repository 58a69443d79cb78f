-- Where typing takes operands from its stack, the machine takes values that serve.
use Rattle.std.proofs.Common.{◌≡◌, ℕ, zero, suc, Bool, true, false, List, [], ◌∷◌, length, drop, map, Some, None, option_map, refl, ap, subst, ◌∙◌}
use Rattle.std.specs.Bool.{⊤}
use Rattle.std.specs.Prelude.{if◌then◌else◌}
use Rattle.jvalues.specs.declared.jnames.kinds.Kind.{Kind}
use Rattle.jvalues.specs.declared.jops.value.Value.{Value}
use Rattle.jtypes.specs.declared.vtype.VType.{VType}
use Rattle.jtypes.specs.ClassTrees.{Tree}
use Rattle.jtyping.specs.jrule.StackEffects.{Want, Of, meets}
use Rattle.jtyping.specs.jrule.StackOperands.{below}
use Rattle.jtyping.specs.jrule.InstructionContext.{Here}
use Rattle.jsemantics.specs.jmachine.TakenOperands.{taken, with_value}
use Rattle.jsemantics.specs.jmachine.Store.{Store}
use Rattle.jsemantics.specs.jmachine.World.{World}
use Rattle.jsoundness_laws.specs.typed.TypedValues.{AllServe, Serves}
use Rattle.jsoundness_laws.specs.typed.TypedFrames.{AllHave, Has, News}
use Rattle.jsoundness_laws.proofs.TypedProofs.ValueKinds.{IsPlain, has_kind, served}

-- ---- what stands below

-- below what is wanted stands the stack without as many
pub below_drop : (t : Tree) (wants : List Want) (ts rest : List VType) → below t wants ts ≡ Some rest → drop (length wants) ts ≡ rest
unfolding below
below_drop t [] ts rest e = let same : ts ≡ rest = cc in same
below_drop t (want ∷ wants) [] rest e = absurd (cc)
below_drop t (want ∷ wants) (a ∷ ts) rest e = go (meets t want a) (below_drop t wants ts rest) e
  where
    go : (b : Bool) → (below t wants ts ≡ Some rest → drop (length wants) ts ≡ rest) → (if b then below t wants ts else None) ≡ Some rest
        → drop (length wants) ts ≡ rest
    go false more e = absurd (cc)
    go true more e = more e

pub drop_next : (n : ℕ) (ts : List VType) (a : VType) (rest : List VType) → drop n ts ≡ a ∷ rest → drop (suc n) ts ≡ rest
drop_next zero ts a rest e = ap (drop 1) e
drop_next (suc n) [] a rest e = absurd (cc)
drop_next (suc n) (b ∷ ts) a rest e = drop_next n ts a rest e

-- ---- what is taken

abbrev pub ArePlain : List Kind → Type 0
ArePlain [] = ⊤
ArePlain (k ∷ ks) = IsPlain k × ArePlain ks

module _ {K : Type 0} (w : World) (s : Store K) (here : Here) (news : News) where
  -- the machine takes these, and below them stand values of these types
  pub record Took (wants : List Want) (operands : List (Value K)) (rest : List VType) : Type 0 where
    pub values : List (Value K)
    pub under : List (Value K)
    pub is : taken w s wants operands ≡ Some (record { values = values; below = under })
    pub serve : AllServe w s wants values
    pub fit : AllHave w s here news rest under

  one_more : (want : Want) (wants : List Want) (v : Value K) (operands : List (Value K)) (rest : List VType) → Serves w s want v → Took wants operands rest
      → Took (want ∷ wants) (v ∷ operands) rest
  unfolding taken
  one_more want wants v operands rest h t = record {
    values = v ∷ t.values;
    under = t.under;
    is = ap (λ b. if b then option_map (with_value v) (taken w s wants operands) else None) (served w s want v h) ∙ ap (option_map (with_value v)) t.is;
    serve = (h, t.serve);
    fit = t.fit;
  }

  -- What is known of a value serves where its type meets what is wanted.
  abbrev pub IsServed : Tree → Want → Type 0
  IsServed t want = (a : VType) (v : Value K) → Has w s here news a v → meets t want a ≡ true → Serves w s want v

  abbrev pub AreServed : Tree → List Want → Type 0
  AreServed t [] = ⊤
  AreServed t (want ∷ wants) = IsServed t want × AreServed t wants

  pub plain_served : (t : Tree) (ks : List Kind) → ArePlain ks → AreServed t (map Of ks)
  plain_served t [] h = tt
  plain_served t (k ∷ ks) h = (λ a v x e. has_kind w s here news k a v h.0 x e, plain_served t ks h.1)

  pub took : (t : Tree) (wants : List Want) → AreServed t wants → (ts : List VType) (operands : List (Value K)) (rest : List VType) → AllHave w s here news ts operands
      → below t wants ts ≡ Some rest → Took wants operands rest
  unfolding below taken
  took t [] served ts operands rest fit e =
      let same : ts ≡ rest = cc in
      record { values = []; under = operands; is = refl; serve = tt; fit = subst (λ ts. AllHave w s here news ts operands) same fit }
  took t (want ∷ wants) served [] operands rest fit e = absurd (cc)
  took t (want ∷ wants) served (a ∷ ts) [] rest fit e = absurd fit
  took t (want ∷ wants) served (a ∷ ts) (v ∷ operands) rest fit e = go (took t wants served.1 ts operands rest fit.1) (meets t want a) refl e
    where
      go : (below t wants ts ≡ Some rest → Took wants operands rest) → (b : Bool) → meets t want a ≡ b
          → (if b then below t wants ts else None) ≡ Some rest → Took (want ∷ wants) (v ∷ operands) rest
      go more false m e = absurd (cc)
      go more true m e = one_more want wants v operands rest (served.0 a v fit.0 m) (more e)
