use Rattle.std.proofs.Common.{refl}
use Rattle.jground.specs.jformat.StatefulFormats.{fits_from}
use Rattle.jparts.specs.jmaps.StackMapFormat.{map_type}
use Rattle.tests_code.proofs.stack_maps.full_forms.Goals as goal

pub write_maps-requires : goal.write_maps-requires
unfolding fits_from map_type
write_maps-requires c = rw (c.in_ok-from_slice.ensures, c.new.ensures, c.new-2.ensures, c.in_ok-from_slice-2.ensures) refl
