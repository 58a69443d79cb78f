use Rattle.jresolution.proofs.JlayoutProofs.SlotContents as standings
use Rattle.jresolution.proofs.jlayout.laws.layout_laws.Goals as goal

pub returns-clause-above : goal.returns-clause-above
returns-clause-above c = λ p c d good. standings.layout_grows p good c d

pub returns-clause-fields : goal.returns-clause-fields
returns-clause-fields c = standings.field_stands

pub returns-clause-statics : goal.returns-clause-statics
returns-clause-statics c = λ p i j s part m. standings.static_stands p i j s part m (λ x y. (x, y))
