use Rattle.std.proofs.Common.{refl}
use Rattle.jtop.specs.jdriver.Answers.{shown}
use Rattle.jtop.proofs.JdriverProofs.StoredFiles.{stores_nothing}
use Rattle.jtop.proofs.jdriver.showing.show.Goals as goal

pub returns-in-Run-clause-files : goal.returns-in-Run-clause-files
unfolding shown
returns-in-Run-clause-files g c = rw c.in-Run.is (stores_nothing c.show_run.result (g.S.Shelf.held c.args.shelf.now) (g.S.Shelf.held c.args.shelf.now) refl)

pub returns-in-RunPlain-clause-files : goal.returns-in-RunPlain-clause-files
unfolding shown
returns-in-RunPlain-clause-files g c = rw c.in-RunPlain.is (stores_nothing c.show_plain.result (g.S.Shelf.held c.args.shelf.now) (g.S.Shelf.held c.args.shelf.now) refl)

pub returns-in-RunPass-clause-files : goal.returns-in-RunPass-clause-files
unfolding shown
returns-in-RunPass-clause-files g c = rw c.in-RunPass.is (stores_nothing c.show_pass.result (g.S.Shelf.held c.args.shelf.now) (g.S.Shelf.held c.args.shelf.now) refl)

pub returns-in-Check-clause-files : goal.returns-in-Check-clause-files
unfolding shown
returns-in-Check-clause-files g c = rw c.in-Check.is (stores_nothing c.show_checked.result (g.S.Shelf.held c.args.shelf.now) (g.S.Shelf.held c.args.shelf.now) refl)

pub returns-in-Policy-clause-files : goal.returns-in-Policy-clause-files
unfolding shown
returns-in-Policy-clause-files g c = rw c.in-Policy.is (stores_nothing c.show_listing.result (g.S.Shelf.held c.args.shelf.now) (g.S.Shelf.held c.args.shelf.now) refl)

pub returns-in-Rewrite-clause-files : goal.returns-in-Rewrite-clause-files
unfolding shown
returns-in-Rewrite-clause-files g c = rw c.in-Rewrite.is c.show_rewritten.ensures.files

pub returns-in-Rewrite-clause-held : goal.returns-in-Rewrite-clause-held
returns-in-Rewrite-clause-held g c = λ quiet. absurd (let no = rw c.in-Rewrite.is at quiet in cc)

pub returns-in-Rewrite-clause-stored : goal.returns-in-Rewrite-clause-stored
returns-in-Rewrite-clause-stored g c = λ quiet. absurd (let no = rw c.in-Rewrite.is at quiet in cc)
