use Rattle.std.proofs.Common.{◌≡◌, ◌∙◌, ℕ, List, length, ap, subst}
use Rattle.jresolution.specs.declared.jprogram.part.CodePart.{CodePart}
use Rattle.jresolution.specs.jprogram.ProgramClasses.{Program}
use Rattle.jshow.specs.CommandAnswers.{Answers}
use Rattle.jstore.specs.Folders.{files_below}
use Rattle.jstore.proofs.StoredFiles.{front_none}
use Rattle.jtop.specs.jdriver.Answers.{rewrote}
use Rattle.jtop.proofs.jdriver.showing.show_rewritten.Goals as goal

pub returns-in_default-clause-files : goal.returns-in_default-clause-files
returns-in_default-clause-files g c = front_none (files_below c.args.to.now c.args.job.now c.args.program.now) (g.S.Shelf.held c.args.shelf.now)

pub returns-in-Ok-store_all-clause-answer : goal.returns-in-Ok-store_all-clause-answer
returns-in-Ok-store_all-clause-answer g c =
    let counted : length c.parts.result.now ≡ length c.args.program.now.parts = ap (λ (ps : List CodePart). length ps) (c.parts.ensures.same ∙ ap (λ (p : Program). p.parts) c.linked.ensures.same) in
    let files = files_below c.args.to.now c.args.job.now c.args.program.now in
    subst (λ (n : ℕ). Answers (rewrote files n) c.put_rewritten.result (g.K.Sink.out c.args.out.now) (g.K.Sink.out c.put_rewritten.new.out)) counted (c.put_rewritten.ensures.answer files)
