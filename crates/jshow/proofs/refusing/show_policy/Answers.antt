use Rattle.jshow.proofs.refusing.show_policy.Goals as goal

pub returns : goal.returns
returns g c = rw (← c.from.ensures, ← c.policy_word.ensures.word) c.refuse.ensures
