use Rattle.std.proofs.Common.{refl}
use Rattle.jresolution.proofs.JprogramProofs.ImplementationRows.{drop_end, faces_next, rest_begin, rest_end, rest_face}
use Rattle.jresolution.proofs.jprogram.classes.NamedProgram.add_faces.Goals as goal

pub loop-i-init : goal.loop-i-init
loop-i-init c = (refl, rest_begin _ _ _ _)

pub loop-i-preserved : goal.loop-i-preserved
loop-i-preserved c = (
  faces_next c.args.self.now c.args.rows.now c.args.class.now c.as_slice-i-items.result.now c.loop-i.i-index c.class_text.result.now c.in_ok-add_face.field-0 c.as_slice-i-items.ensures c.loop-i-test.true c.class_text.ensures c.if-not-branch.false c.in_ok-add_face.ensures.made c.loop-i.invariant.0,
  rest_face c.args.self.now c.args.class.now c.as_slice-i-items.result.now c.loop-i.i-index c.class_text.result.now c.loop-i.row c.add_face.new.row c.args.row.now c.as_slice-i-items.ensures c.loop-i-test.true c.class_text.ensures (c.in_ok-add_face.ensures.added c.if-not-branch.false) c.loop-i.invariant.1,
)

pub returns-clause-added : goal.returns-clause-added
returns-clause-added c = λ e. rest_end _ _ _ _ _ _ (drop_end c.args.class.now.interfaces c.as_slice-i-items.result.now c.loop-i.i-index c.as_slice-i-items.ensures c.loop-i-test.false) c.loop-i.invariant.1
