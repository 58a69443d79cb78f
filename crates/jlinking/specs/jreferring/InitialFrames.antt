-- The frame that a method begins with, which is written nowhere: its descriptor says it (JVMS 4.7.4).
use Rattle.std.specs.Prelude.{ℕ, Bool, false, List, length, Option, None, nat_lt, if◌then◌else◌}
use Rattle.std.specs.List.{list_any}
use Rattle.jparts.specs.jpool.Descriptors.{descriptor_of}
use Rattle.jclass.specs.declared.class.CodeAttribute.{CodeAttribute}
use Rattle.jclass.specs.declared.class.CodeAttribute.TheVariants as code
use Rattle.jresolution.specs.declared.jprogram.fault.LinkKind.{LinkKind}
use Rattle.jresolution.specs.jprogram.ProgramClasses.{Program}
use Rattle.jlinking.specs.jreferring.ClassNameAccess.{params_test}

-- a StackMapTable with frames
abbrev pub has_frames : CodeAttribute → Bool
has_frames = elim [ code.Maps name frames ↦ nat_lt 0 (length frames) | code.Raw name bytes ↦ false ]

-- Frames that are written are told against the first one. So where there are any, it names the classes of the parameters.
unfoldable pub first_frame_test : Program → List ℕ → List ℕ → List CodeAttribute → Option LinkKind
first_frame_test p from desc attributes = if list_any has_frames attributes then params_test p from (descriptor_of desc) else None
