use Rattle.jresolution.specs.jprogram.ProgramClasses.{Program}
use Rattle.jpass_laws.proofs.PassRuns.{pass_theorem}
use Rattle.jpass_laws.proofs.laws.pass_law.Goals as goal

pub returns : goal.returns
returns c =
    pass_theorem c.beside_laws.ensures.sourced_runs c.beside_laws.ensures.sourced_steps c.beside_laws.ensures.shadowed_runs (λ (p q : Program). c.count_laws.ensures.keeps (p, q))
    (λ (p q : Program). c.count_laws.ensures.ends (p, q)) c.follow_law.ensures.few
    (λ (p q : Program). c.count_laws.ensures.counted (p, q)) c.follow_law.ensures.counted c.opening_law.ensures
