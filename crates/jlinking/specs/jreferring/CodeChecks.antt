-- The fourth phase of linking: what the code of methods names.
use Rattle.std.specs.Prelude.{ℕ, List, Option, option_and_then}
use Rattle.jground.specs.jbase.FirstFaults.{first_along, first_some, or_else}
use Rattle.jparts.specs.declared.jpool.entry.Entry.{Entry}
use Rattle.jparts.specs.declared.jcode.op.Handler.{Handler}
use Rattle.jparts.specs.declared.jcode.op.Placed.{Placed}
use Rattle.jclass.specs.declared.class.ClassParts.{ClassParts}
use Rattle.jclass.specs.declared.class.CodeAttribute.{CodeAttribute}
use Rattle.jclass.specs.declared.class.CodeBody.{CodeBody}
use Rattle.jclass.specs.declared.class.MemberInfo.{MemberInfo}
use Rattle.jresolution.specs.declared.jprogram.fault.LinkFault.{LinkFault}
use Rattle.jresolution.specs.declared.jprogram.fault.LinkKind.{LinkKind}
use Rattle.jresolution.specs.jprogram.ProgramClasses.{Program}
use Rattle.jresolution.specs.jprogram.ClassFileParts.{code_of, text, this_name}
use Rattle.jlinking.specs.declared.jreferring.judged.Judged.{Judged}
use Rattle.jlinking.specs.jreferring.InitialFrames.{first_frame_test}
use Rattle.jlinking.specs.jreferring.PoolEntryMeanings.{judge_pool}
use Rattle.jlinking.specs.jreferring.CodeUnits.{attribute_test, handler_test, op_test}
use Rattle.jlinking.specs.jmembers.MemberDeclarations.{at_member}

-- instructions first, then handlers
abbrev pub units_test : List Judged → List Placed → List Handler → Option LinkKind
units_test table ops handlers = or_else (first_some (op_test table) ops) (first_some (handler_test table) handlers)

-- the frame that a method begins with, then those that are written
abbrev pub frames_test : Program → List ℕ → List ℕ → List Judged → List CodeAttribute → Option LinkKind
frames_test p from desc table attributes = or_else (first_frame_test p from desc attributes) (first_some (attribute_test table) attributes)

-- `from` is the name of the class, and `desc` the method's descriptor
abbrev pub body_test : Program → List ℕ → List ℕ → List Judged → CodeBody → Option LinkKind
body_test p from desc table b = or_else (units_test table b.ops b.handlers) (frames_test p from desc table b.attributes)

-- `pool` is the class's, and `table` is what its entries stand for
unfoldable pub method_test : Program → List ℕ → List Entry → List Judged → MemberInfo → Option LinkKind
method_test p from pool table m = option_and_then (body_test p from (text pool m.desc) table) (code_of m)

-- ---- the phase

unfoldable pub class_fault : Program → ℕ → ClassParts → Option LinkFault
class_fault p i c = first_along (λ j m. at_member i j (method_test p (this_name c) c.pool (judge_pool p c) m)) 0 c.methods

-- class by class, in each method by method
unfoldable pub code_fault : Program → Option LinkFault
code_fault p = first_along (λ i part. class_fault p i part.class) 0 p.parts
