use Rattle.std.proofs.Common.{◌≡◌, ◌≤◌, length, take}
use Rattle.std.specs.List.{filter}
use Rattle.jresolution.specs.jlayout.FieldLayout.{is_instance}
use Rattle.jresolution.proofs.jlayout.fields.instance_count.Given as goal

abbrev pub invariant-loop-field : goal.invariant-loop-field
invariant-loop-field l = (l.count ≡ length (filter is_instance (take l.field-index l.fields))) × (l.count ≤ l.field-index)
