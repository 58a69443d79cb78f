-- Moved methods of a class: their code, their descriptors, their attributes.
use Rattle.std.specs.Prelude.{ℕ, List, [], ◌∷◌, Option, Some, None, if◌then◌else◌}
use Rattle.std.specs.Result.{result_unwrap_or}
use Rattle.jground.specs.jbase.FirstFaults.{first_some}
use Rattle.jparts.specs.declared.jpool.entry.Entry.{Entry}
use Rattle.jparts.specs.declared.jmaps.types.FullFrame.{FullFrame}
use Rattle.jparts.specs.declared.jmaps.types.MapType.{MapType}
use Rattle.jparts.specs.declared.jmaps.types.RawFrame.{RawFrame}
use Rattle.jparts.specs.jmaps.ExpandedFrames.{expand_from, full_forms}
use Rattle.jclass.specs.declared.class.Attribute.{Attribute}
use Rattle.jclass.specs.declared.class.Attribute.TheVariants.{Code, Raw}
use Rattle.jclass.specs.declared.class.ClassParts.{ClassParts}
use Rattle.jclass.specs.declared.class.CodeAttribute.{CodeAttribute}
use Rattle.jclass.specs.declared.class.CodeAttribute.TheVariants as code
use Rattle.jclass.specs.declared.class.CodeBody.{CodeBody}
use Rattle.jclass.specs.declared.class.MemberInfo.{MemberInfo}
use Rattle.jmove.specs.declared.method.Expand.{Expand}
use Rattle.jmove.specs.declared.method.MethodIn.{MethodIn}
use Rattle.jmove.specs.declared.method.MethodOut.{MethodOut}
use Rattle.jmove.specs.PoolAdditions.{Adding, giving, moved_descriptor, with_body, with_text, ◌>>◌}
use Rattle.jmove.specs.MethodExpansion.{moved_by}
use Rattle.jresolution.specs.jprogram.ProgramClasses.{Program}
use Rattle.jresolution.specs.jprogram.ClassFileParts.{member_desc, or_empty}
use Rattle.jmoveclass.specs.EntryLocals.{slots, with_beginning}
use Rattle.jmoveclass.specs.CallExpansion.{expands}
use Rattle.jmoveclass.specs.KeptAttributes.{method_keeps}
use Rattle.jmoveclass.specs.PoolPuts.{with_each}
use Rattle.jclass.specs.CodeFormat.{frames_in}

-- ---- the method that is moved

-- The frames of a code in full, by what its locals hold where it begins. In a program that is well typed none of them takes away more
-- locals than there are.
unfoldable pub frames_of : List MapType → CodeBody → List FullFrame
frames_of first b = result_unwrap_or (expand_from first 0 None (frames_in b)) []

-- a method with code, as moving sees it
abbrev pub method_in : ClassParts → MemberInfo → CodeBody → List MapType → MethodIn
method_in c m b first = record {
  slots = slots c m;
  max_stack = b.max_stack;
  max_locals = b.max_locals;
  ops = b.ops;
  handlers = b.handlers;
  frames = frames_of first b;
}

-- ---- its code

abbrev pub maps_name : CodeAttribute → Option ℕ
maps_name = elim [ code.Maps name frames ↦ Some name | code.Raw name bytes ↦ None ]

-- Frames are written full, under the name that the old ones had. A StackMapTable without frames is dropped, and so is each other
-- attribute of a code (JVMS 4.7.3).
abbrev pub moved_maps : List FullFrame → Option ℕ → List CodeAttribute
moved_maps (f ∷ fs) (Some name) = code.Maps name (full_forms None (f ∷ fs)) ∷ []
moved_maps _ _ = []

abbrev pub moved_code : ℕ → CodeBody → MethodOut → Attribute
moved_code name b out = Code name out.max_stack out.max_locals out.ops out.handlers (moved_maps out.frames (first_some maps_name b.attributes))

-- where there are no frames none take over what the method begins with
abbrev pub with_first : ClassParts → MemberInfo → List RawFrame → Adding (List MapType)
with_first c m = elim [ [] ↦ giving [] | f ∷ fs ↦ with_beginning c m ]

abbrev pub with_moved : ℕ → List Expand → ℕ → CodeBody → MethodIn → Adding Attribute
with_moved domain kinds name b m = with_body kinds m.frames >> λ x. giving (moved_code name b (moved_by m domain x.enter x.context x.kinds))

-- the code of a method of a domain
unfoldable pub with_code : Program → ClassParts → ℕ → MemberInfo → ℕ → CodeBody → Adding Attribute
with_code p c domain m name b = with_first c m (frames_in b) >> λ first. with_moved domain (expands p c.pool b.ops) name b (method_in c m b first)

-- ---- the method

-- an attribute that isn't code
abbrev pub kept_alone : List Entry → Attribute → List Attribute
kept_alone pool = elim [ Raw name bytes ↦ if method_keeps pool (Raw name bytes) then Raw name bytes ∷ [] else [] | _ ↦ [] ]

-- its code is moved, and of the others some are kept
abbrev pub with_attribute : Program → ClassParts → ℕ → MemberInfo → Attribute → Adding (List Attribute)
with_attribute p c domain m (Code name stack locals ops handlers others) =
    with_code p c domain m name (record { max_stack = stack; max_locals = locals; ops = ops; handlers = handlers; attributes = others })
    >> λ a. giving (a ∷ [])
with_attribute p c domain m a = giving (kept_alone c.pool a)

-- the descriptor with the context as one more parameter
abbrev pub new_desc : ClassParts → MemberInfo → List ℕ
new_desc c m = or_empty (moved_descriptor (member_desc c m))

-- flags and name stay
abbrev pub moved_member : MemberInfo → ℕ → List Attribute → MemberInfo
moved_member m desc attributes = record { flags = m.flags; name = m.name; desc = desc; attributes = attributes }

-- a method of a domain, with or without code
unfoldable pub with_method : Program → ClassParts → ℕ → MemberInfo → Adding (List MemberInfo)
with_method p c domain m = with_text (new_desc c m) >> λ desc. with_each (with_attribute p c domain m) m.attributes
    >> λ attributes. giving (moved_member m desc attributes ∷ [])
