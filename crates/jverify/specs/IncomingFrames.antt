-- The frame before an instruction of a method, as far as the method is well typed.
use Rattle.std.specs.Prelude.{ℕ, pos, ◌==◌, List, [], ◌∷◌, Option, Some, None, option_and_then, slice_get, if◌then◌else◌}
use Rattle.jparts.specs.declared.jcode.op.Placed.{Placed}
use Rattle.jclass.specs.declared.class.ClassParts.{ClassParts}
use Rattle.jclass.specs.declared.class.MemberInfo.{MemberInfo}
use Rattle.jtypes.specs.TypeFrames.{Frame}
use Rattle.jresolution.specs.declared.jprogram.member.MethodId.{MethodId}
use Rattle.jresolution.specs.jprogram.ProgramClasses.{Program}
use Rattle.jresolution.specs.jprogram.MemberResolution.{part_of}
use Rattle.jresolution.specs.jprogram.ClassFileParts.{code_of}
use Rattle.jtyping.specs.jwelltyped.DeclaredFrames.{Written, declared_at, first_frame, written}
use Rattle.jtyping.specs.jwelltyped.MethodPremises.{Method, method_of}
use Rattle.jtyping.specs.jwelltyped.VerifierTests.{begun, entry_fault, frames_fault, room_fault, step}

-- the frame with which the instruction at a place begins, where no test of the instructions before it fails, from one on
unfoldable pub frame_at : Program → Method → List Written → ℕ → List Placed → Option Frame → Option Frame
frame_at p m ws at [] arriving = None
frame_at p m ws at (o ∷ rest) arriving =
    option_and_then (λ f. if o.at == at then Some f else option_and_then (frame_at p m ws at rest) (step p m ws o rest f))
    (begun (declared_at ws (pos o.at)) arriving)

-- what is found, unless there is a fault
abbrev pub unless : {A : Type 0} → Option ℕ → Option A → Option A
unless None found = found
unless (Some fault) found = None

-- the same in a method with these frames, where it begins as it has to
abbrev pub frame_with : Program → Method → List Written → ℕ → Option Frame
frame_with p m ws at = unless (room_fault m) (unless (entry_fault p m ws) (frame_at p m ws at m.body.ops (Some (first_frame m))))

-- the same in a method, where its frames are good
unfoldable pub frame_in : Program → Method → ℕ → Option Frame
frame_in p m at = unless (frames_fault p m (written p m)) (frame_with p m (written p m) at)

abbrev pub frame_of : Program → ClassParts → ℕ → MemberInfo → Option Frame
frame_of p c at m = option_and_then (λ body. frame_in p (method_of p c m body) at) (code_of m)

-- the frame before the instruction at a place of a method
abbrev pub frame_before : Program → MethodId → ℕ → Option Frame
frame_before p m at = option_and_then (λ c. option_and_then (frame_of p c at) (slice_get c.methods m.method)) (part_of p m.class)
