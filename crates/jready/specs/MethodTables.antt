-- Methods by number: where their instructions begin, and what they stand for.
use Rattle.std.specs.Prelude.{◌≡◌, ℕ, ◌+◌, true, false, List, [], ◌∷◌, ◌++◌, length, Option, Some, None, slice_get}
use Rattle.jclass.specs.declared.class.CodeBody.{CodeBody}
use Rattle.jresolution.specs.declared.jprogram.member.MethodId.{MethodId}
use Rattle.jresolution.specs.jprogram.ProgramClasses.{Program}
use Rattle.jresolution.specs.declared.juses.types.TypeRef.{TypeRef}
use Rattle.jresolution.specs.juses.IndexedInstructions.{code_at}
use Rattle.jsemantics.specs.jmachine.FrameOperations.{domain_of}
use Rattle.jready.specs.declared.handlers.HandlerRow.{HandlerRow}
use Rattle.jready.specs.declared.instr.Instr.{Instr}
use Rattle.jready.specs.declared.instr.Instr.TheVariants as instr
use Rattle.jready.specs.declared.methods.MethodRow.{MethodRow}
use Rattle.jready.specs.declared.methods.Methods.{Methods}
use Rattle.jready.specs.declared.tables.Tables.{Tables}
use Rattle.jready.specs.HandlerTables.{AreHandlers}
use Rattle.jready.specs.CodeLayout.{AreLaid}
use Rattle.jready.specs.TableGrowth.{AreThere, part}

-- A method with code.
pub record IsBody (p : Program) (types : List TypeRef) (t : Tables) (code : List Instr) (handlers : List HandlerRow) (r : MethodRow)
    (body : CodeBody) : Type 0 where
  pub coded : r.has_code ≡ true
  pub count : r.count ≡ length body.ops
  pub max_locals : r.max_locals ≡ body.max_locals
  pub laid : AreLaid p types t r.id.class body.ops code r.first r.count
  pub there : AreThere handlers r.handlers.first r.handlers.count
  pub handles : AreHandlers body.ops body.handlers (part handlers r.handlers.first r.handlers.count)

-- One without code has no instructions.
pub record IsBare (handlers : List HandlerRow) (r : MethodRow) : Type 0 where
  pub coded : r.has_code ≡ false
  pub count : r.count ≡ 0
  pub there : AreThere handlers r.handlers.first r.handlers.count

abbrev pub Has : Program → List TypeRef → Tables → List Instr → List HandlerRow → MethodRow → Option CodeBody → Type 0
Has p types t code handlers r None = IsBare handlers r
Has p types t code handlers r (Some body) = IsBody p types t code handlers r body

-- A user's method by number. Behind its instructions stands one with which there is no step.
pub record IsMethod (p : Program) (types : List TypeRef) (t : Tables) (code : List Instr) (handlers : List HandlerRow) (r : MethodRow) : Type 0 where
  pub domain : r.domain ≡ domain_of p r.id
  pub holds : Has p types t code handlers r (code_at p r.id)
  pub off : slice_get code (r.first + r.count) ≡ Some instr.Off

-- Methods, and what they hold.
abbrev pub AreMethods : Program → List TypeRef → Methods → Type 0
AreMethods p types m = (k : ℕ) (r : MethodRow) → slice_get m.rows k ≡ Some r → IsMethod p types m.tables m.code m.handlers r

-- One method more, of this identity, behind the others.
pub record PutsMethod (p : Program) (types : List TypeRef) (id : MethodId) (old new : Methods) : Type 0 where
  pub are : AreMethods p types new
  pub row : MethodRow
  pub behind : new.rows ≡ old.rows ++ row ∷ []
  pub own : row.id ≡ id
