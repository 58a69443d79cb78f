use Rattle.std.proofs.Common.{refl, sym, None}
use Rattle.jparts.specs.jmaps.ExpandedFrames.{full_forms}
use Rattle.jmoveclass.proofs.Forms.{forms_more, forms_none, last_more}
use Rattle.jmoveclass.proofs.frames.full_forms.Goals as goal

pub loop-frame-init : goal.loop-frame-init
loop-frame-init c = record { forms = rw c.new-forms.ensures forms_none; earlier = refl }

pub loop-frame-preserved : goal.loop-frame-preserved
loop-frame-preserved c = record {
  forms = rw (c.in_ok-push.ensures.ok, c.full_form.ensures, c.loop-frame.invariant.forms, c.loop-frame.invariant.earlier) (sym (forms_more None c.loop-frame.yielded c.in-Some.frame));
  earlier = sym (last_more None c.loop-frame.yielded c.in-Some.frame);
}
