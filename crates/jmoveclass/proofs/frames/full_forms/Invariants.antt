use Rattle.std.proofs.Common.{◌≡◌, None}
use Rattle.jparts.specs.jmaps.ExpandedFrames.{full_forms}
use Rattle.jmoveclass.proofs.Forms.{last_place}
use Rattle.jmoveclass.proofs.frames.full_forms.Given as goal

abbrev pub invariant-loop-frame : goal.invariant-loop-frame
invariant-loop-frame l = record {
  forms : l.forms ≡ full_forms None l.yielded;
  earlier : l.earlier ≡ last_place None l.yielded;
}
