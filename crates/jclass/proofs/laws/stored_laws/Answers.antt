use Rattle.jparts.proofs.JcodeProofs.Places.{fit_rises}
use Rattle.jclass.proofs.FittingClasses.{code_fits, code_items, code_leads, code_frames, code_branches, text_is_modified}
use Rattle.jclass.proofs.laws.stored_laws.Goals as goal

pub returns-clause-code : goal.returns-clause-code
returns-clause-code c = λ class b has. (code_items class.pool b (code_fits class b has)).0

pub returns-clause-size : goal.returns-clause-size
returns-clause-size c = λ class b has. (code_items class.pool b (code_fits class b has)).1

pub returns-clause-rises : goal.returns-clause-rises
returns-clause-rises c = λ class b has. fit_rises b.ops (code_items class.pool b (code_fits class b has)).0

pub returns-clause-branches : goal.returns-clause-branches
returns-clause-branches c = λ class b p has is. code_branches b.ops p (code_items class.pool b (code_fits class b has)).0 is

pub returns-clause-handlers : goal.returns-clause-handlers
returns-clause-handlers c = λ class b h has is. code_leads class.pool b h (code_fits class b has) is

pub returns-clause-frames : goal.returns-clause-frames
returns-clause-frames c = λ class b name fs has is. code_frames class.pool b name fs (code_fits class b has) is

pub returns-clause-texts : goal.returns-clause-texts
returns-clause-texts c = λ class i text fit at. text_is_modified class i text fit at
