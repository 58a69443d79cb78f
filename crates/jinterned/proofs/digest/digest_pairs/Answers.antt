use Rattle.std.proofs.Common.{◌≡◌, ◌∙◌, ℕ, ◌-◌, ap, sym, drop, length, take}
use Rattle.jinterned.specs.ContextDigests.{digest_from}
use Rattle.jinterned.proofs.DigestSteps.{few, four_more}
use Rattle.jinterned.proofs.digest.digest_pairs.Goals as goal

pub loop-rest-preserved : goal.loop-rest-preserved
loop-rest-preserved c =
    ap (λ (t : ℕ). digest_from t (take (length c.loop-rest.rest.now - 4) (drop 4 c.loop-rest.rest.now))) c.with_four-sum.ensures
    ∙ four_more c.loop-rest.sum c.loop-rest.rest.now _ _ _ _ c.in-len4-up.len_at_least
    ∙ c.loop-rest.invariant

pub returns : goal.returns
returns c = c.digest_rest.ensures ∙ sym (few c.loop-rest.sum c.loop-rest.rest.now c.in_default.len_below) ∙ c.loop-rest.invariant
