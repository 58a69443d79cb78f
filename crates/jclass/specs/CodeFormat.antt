-- The code of a method (JVMS 4.7.3), with its handlers and its attributes, of which StackMapTable is looked into (JVMS 4.7.4).
use Rattle.std.specs.Prelude.{ℕ, pos, ◌-◌, Bool, true, false, ◌||◌, ◌&&◌, ◌⊎◌, List, length, Option, Some, None, Result, Ok, Err, ◌==◌, nat_lt, if◌then◌else◌, unwrap_or, []}
use Rattle.std.specs.List.{list_all}
use Rattle.std.proofs.Common.{inl, inr}
use Rattle.jground.specs.jbase.MemoryFailures.{◌>>=◌}
use Rattle.jground.specs.jbase.FirstFaults.{first_some}
use Rattle.jground.specs.declared.jformat.error.Fault.{Fault}
use Rattle.jground.specs.jformat.Format.{Format, ◌·◌, ◌▹◌, via, such, unless}
use Rattle.jground.specs.jformat.BodyFormats.{Body, whole, block, counted}
use Rattle.jground.specs.jformat.RepeatedReads.{passes, ahead}
use Rattle.jground.specs.jformat.StatefulFormats.{counted_from}
use Rattle.jparts.specs.declared.jcode.fault.CodeFault.{CodeFault}
use Rattle.jparts.specs.declared.jcode.fault.CodeFault.TheVariants as codes
use Rattle.jparts.specs.declared.jcode.op.Handler.{Handler}
use Rattle.jparts.specs.declared.jcode.op.Placed.{Placed}
use Rattle.jparts.specs.jcode.Instructions
use Rattle.jparts.specs.jcode.Instructions.{is_place}
use Rattle.jparts.specs.declared.jmaps.fault.Kinds.{Kinds}
use Rattle.jparts.specs.declared.jmaps.types.MapType.{MapType}
use Rattle.jparts.specs.declared.jmaps.types.MapType.TheVariants.{Object}
use Rattle.jparts.specs.declared.jmaps.types.RawFrame.{RawFrame}
use Rattle.jparts.specs.jmaps.StackMapFormat.{map_type, frames}
use Rattle.jparts.specs.declared.jpool.entry.Entry.{Entry}
use Rattle.jparts.specs.jpool.ConstantPools.{is_class}
use Rattle.jclass.specs.declared.class.CodeAttribute.{CodeAttribute}
use Rattle.jclass.specs.declared.class.CodeBody.{CodeBody}
use Rattle.jclass.specs.declared.class.CodeAttribute.TheVariants as code
use Rattle.jclass.specs.declared.fault.ClassFault.{ClassFault}
use Rattle.jclass.specs.declared.fault.ClassFault.TheVariants as kinds
use Rattle.jclass.specs.declared.fault.ClassFault.TheVariants.{Truncated, Trailing, Index, Opcode, LeftOut, Operand, Target, Reserved, MapTag, MapLeftOut}
use Rattle.jclass.specs.IndexFormats.{u2, u4, index, told}
use Rattle.jclass.specs.FlagRules.{names_caught, is_maps}
use Rattle.jclass.specs.Attributes.{name_once, content}
use Rattle.jclass.specs.PoolOperands.{names_well, misnamed}

-- ---- frames

abbrev pub frame_kinds : Kinds ClassFault
frame_kinds = record { truncated = Truncated; reserved = Reserved; bad_tag = MapTag; left_out = MapLeftOut; trailing = Trailing }

abbrev pub plain_type : Format ClassFault MapType
plain_type = map_type frame_kinds

abbrev pub type_fault : List Entry → MapType → Option ClassFault
type_fault pool = elim [ Object i ↦ unless (is_class pool i) Index | _ ↦ None ]

-- a type of an item, whose class is there
abbrev pub named_type : List Entry → Format ClassFault MapType
named_type pool = such (type_fault pool) plain_type

-- the frames, and then the classes that they name
unfoldable pub maps : List Entry → Body ClassFault (List RawFrame)
maps pool = passes (frames frame_kinds plain_type).read (λ fs. fs) (λ _. frames frame_kinds (named_type pool))

abbrev pub attribute_from : ℕ × (List RawFrame ⊎ List ℕ) → CodeAttribute
attribute_from p = elim p.1 [ inl fs ↦ code.Maps p.0 fs | inr bytes ↦ code.Raw p.0 bytes ]

abbrev pub attribute_parts : CodeAttribute → ℕ × (List RawFrame ⊎ List ℕ)
attribute_parts = elim [ code.Maps name fs ↦ (name, inl fs) | code.Raw name bytes ↦ (name, inr bytes) ]

-- an attribute of a code; `seen` where frames stood before it
unfoldable pub attribute : List Entry → Bool → Format ClassFault CodeAttribute
attribute pool seen = via attribute_from attribute_parts (name_once pool (is_maps pool) kinds.Maps seen ▹ λ i. content (is_maps pool i) (maps pool))

abbrev pub saw_maps : Bool → CodeAttribute → Bool
saw_maps seen = elim [ code.Maps name fs ↦ true | _ ↦ seen ]

-- ---- instructions

abbrev pub code_fault : CodeFault → ClassFault
code_fault codes.Truncated = Truncated
code_fault (codes.UnknownOpcode n) = Opcode n
code_fault (codes.LeftOut n) = LeftOut n
code_fault codes.BadOperand = Operand
code_fault codes.BadTarget = Target

abbrev pub none_misnamed : List ℕ → List Placed → Option ℕ → Result (List Placed) (Fault ClassFault)
none_misnamed bytes ps = elim [ None ↦ Ok ps | Some at ↦ Err (record { left = length bytes - at; kind = Index }) ]

-- the instructions, and then what they name, each fault at its instruction
unfoldable pub ops : List Entry → Body ClassFault (List Placed)
ops pool = record {
  spell = Instructions.code.spell;
  fits = λ ps. Instructions.code.fits ps && list_all (λ p. names_well pool p.op) ps;
  read = λ bytes. told code_fault (Instructions.code.read bytes) >>= λ ps. none_misnamed bytes ps (first_some (misnamed pool) ps);
}

-- an instruction begins at this place
abbrev pub begins : List Placed → ℕ → Bool
begins ps at = is_place ps (pos at)

-- the same, or the code ends there
abbrev pub ends : List Placed → ℕ → Bool
ends ps at = at == length (Instructions.code.spell ps) || begins ps at

-- ---- handlers

abbrev pub handler_parts : Handler → ℕ × (ℕ × (ℕ × ℕ))
handler_parts h = (h.start, (h.end, (h.at, h.class)))

-- the start is below the end, both are places of the code, and so is the handler
abbrev pub target_fault : List Placed → ℕ × (ℕ × (ℕ × ℕ)) → Option ClassFault
target_fault ps p = unless (nat_lt p.0 p.1.0 && (begins ps p.0 && (ends ps p.1.0 && begins ps p.1.1.0))) Target

-- a handler: its places are looked at before the class that it catches
unfoldable pub handler : List Entry → List Placed → Format ClassFault Handler
handler pool ps = ahead (u2 · u2 · u2 · u2).read handler_parts (target_fault ps)
    (via (λ p. record { start = p.0; end = p.1.0; at = p.1.1.0; class = p.1.1.1 }) handler_parts (u2 · u2 · u2 · index (names_caught pool)))

-- ---- code

-- the number of bytes of a method's instructions
abbrev pub code_length : Format ClassFault ℕ
code_length = such (λ n. if n == 0 || nat_lt 0xffff n then Some kinds.Code else None) u4

-- behind the instructions
abbrev pub behind_ops : List Entry → List Placed → Format ClassFault (List Handler × List CodeAttribute)
behind_ops pool ps = counted u2 (handler pool ps) · counted_from u2 (attribute pool) saw_maps false

abbrev pub a_body : ℕ → ℕ → List Placed → List Handler → List CodeAttribute → CodeBody
a_body stack locals ops handlers attributes =
    record { max_stack = stack; max_locals = locals; ops = ops; handlers = handlers; attributes = attributes }

-- the content of a Code attribute
unfoldable pub code_content : List Entry → Format ClassFault CodeBody
code_content pool =
    via (λ p. a_body p.0 p.1.0 p.1.1.0 p.1.1.1.0 p.1.1.1.1) (λ c. (c.max_stack, (c.max_locals, (c.ops, (c.handlers, c.attributes)))))
    (u2 · u2 · (block code_length Truncated (ops pool) ▹ behind_ops pool))

-- all of it
abbrev pub code_body : List Entry → Body ClassFault CodeBody
code_body pool = whole Trailing (code_content pool)

-- ---- the frames of its StackMapTable

abbrev pub maps_of : CodeAttribute → Option (List RawFrame)
maps_of = elim [ code.Maps name frames ↦ Some frames | code.Raw name bytes ↦ None ]

-- the frames of a code's StackMapTable, as they are written (JVMS 4.7.4)
abbrev pub frames_in : CodeBody → List RawFrame
frames_in b = unwrap_or (first_some maps_of b.attributes) []
