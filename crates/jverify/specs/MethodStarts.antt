-- How a method begins, by number.
use Rattle.std.specs.Prelude.{◌≡◌, ℕ, List, Option, Some, None}
use Rattle.std.specs.List.{flat_map}
use Rattle.jground.specs.jbase.FirstFaults.{first_along, or_else}
use Rattle.jclass.specs.declared.class.ClassParts.{ClassParts}
use Rattle.jresolution.specs.jprogram.ProgramClasses.{Program}
use Rattle.jresolution.specs.declared.juses.types.TypeRef.{TypeRef}
use Rattle.jtyping.specs.declared.jrule.frame.FrameRef.{FrameRef}
use Rattle.jtyping.specs.jrule.InternedFrames.{seen}
use Rattle.jtyping.specs.jwelltyped.DeclaredFrames.{Written, first_frame}
use Rattle.jtyping.specs.jwelltyped.MethodPremises.{Method}
use Rattle.jtyping.specs.jwelltyped.VerifierTests.{Place, entry_fault, in_method, member_fault, room_fault, walk}
use Rattle.jverify.specs.declared.method.MethodRef.{MethodRef}
use Rattle.jverify.specs.FrameTables.{places}
use Rattle.jverify.specs.InternedMethods.{seen_method}

-- the locals that values fill
abbrev pub places_in : List TypeRef → List TypeRef
places_in = flat_map places

-- The frame with which a method begins, where its parameters have room.
abbrev pub IsFirst : Program → MethodRef → Option FrameRef → Type 0
IsFirst p m None = room_fault (seen_method p m) ≡ Some 0
IsFirst p m (Some f) = (room_fault (seen_method p m) ≡ None) × (seen p f ≡ first_frame (seen_method p m))

-- the first test of a method that fails behind those of its frames
abbrev pub body_fault : Program → Method → List Written → Option ℕ
body_fault p m ws = or_else (room_fault m) (or_else (entry_fault p m ws) (walk p m ws m.body.ops (Some (first_frame m))))

-- the first test of the methods of a class that fails
abbrev pub methods_fault : Program → ℕ → ClassParts → Option Place
methods_fault p i c = first_along (λ j m. in_method i j (member_fault p c m)) 0 c.methods
