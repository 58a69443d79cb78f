-- The context along a stack has the verdict of a walk of the stack.
use Rattle.std.proofs.Common.{◌≡◌, ℕ, Bool, true, false, not, ◌&&◌, List, [], ◌∷◌, ◌++◌, refl, ap, ◌∙◌, cond}
use Rattle.jdomain.specs.declared.verdict.Verdict.{Verdict}
use Rattle.jdomain.specs.declared.verdict.Verdict.TheVariants.{Denied}
use Rattle.jdomain.specs.DomainStacks.{Stack, Bottom, Entry, Mark, Unmarked, Privileged, Given, Nothing, Within, first_denial, past_limits, walk, walk_mark, walk_given, some_implies}
use Rattle.jperm.specs.declared.permission.Permission.{Permission}
use Rattle.jctx.specs.declared.item.Item.{Item}
use Rattle.jctx.specs.Contexts.{verdict, keep, limited, along, along_mark, along_given}
use Rattle.jctx.specs.ProofNames.{given_items}
use Rattle.jctx.specs.ContextItems.{plain}
use Rattle.jctx.proofs.Bools.{EqualIsSame}
use Rattle.jctx.proofs.Verdicts.{verdict-keep_after, verdict-append, verdict-limited}

-- a domain's own item in front
plain_step : (h : Bool) (d : ℕ) (v : Verdict) → cond (not h && true) (Denied d) v ≡ cond h v (Denied d)
plain_step true d v = refl
plain_step false d v = refl

module _ (same : EqualIsSame) (p : Permission) (has : ℕ → Permission → Bool) where
  verdict-keep_plain : (d : ℕ) (c : List Item) → verdict has p (keep (plain d ∷ c)) ≡ cond (has d p) (verdict has p c) (Denied d)
  unfolding some_implies
  verdict-keep_plain d c = verdict-keep_after same p has [] (plain d ∷ c) refl ∙ plain_step (has d p) d (verdict has p c)

  mutual
    pub verdict-along : (s : Stack) → verdict has p (along s) ≡ walk has p s
    verdict-along Bottom = refl
    verdict-along (Entry d mark s) = verdict-along_mark d mark (along s) (walk has p s) (verdict-along s)

    verdict-along_mark : (d : ℕ) (mark : Mark) (c : List Item) (rest : Verdict) → verdict has p c ≡ rest
        → verdict has p (along_mark d mark c) ≡ cond (has d p) (walk_mark has p mark rest) (Denied d)
    verdict-along_mark d Unmarked c rest e = verdict-keep_plain d c ∙ ap (λ v. cond (has d p) v (Denied d)) e
    verdict-along_mark d (Privileged given limits) c rest e =
        verdict-keep_plain d (given_items (along_given given) ++ limited limits c)
        ∙ ap (λ v. cond (has d p) v (Denied d))
        (verdict-append same p has (given_items (along_given given)) (limited limits c)
        ∙ ap (λ v. first_denial v (verdict has p (limited limits c))) (verdict-given given)
        ∙ ap (λ v. first_denial (walk_given has p given) v) (verdict-limited same p has limits c ∙ ap (past_limits limits p) e))

    verdict-given : (given : Given) → verdict has p (given_items (along_given given)) ≡ walk_given has p given
    verdict-given Nothing = refl
    verdict-given (Within s) = verdict-along s

-- the verdict of a context that stands for a stack
pub verdict_follows : (same : EqualIsSame) (has : ℕ → Permission → Bool) (p : Permission) (s : Stack) (c : List Item) (v : Verdict) → v ≡ verdict has p c → c ≡ along s → v ≡ walk has p s
verdict_follows same has p s c v decided stands = decided ∙ ap (verdict has p) stands ∙ verdict-along same p has s
