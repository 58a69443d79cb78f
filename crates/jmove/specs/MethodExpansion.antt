-- The moved form of a method: it takes its caller's security context as one more parameter, enters its own domain, and hands the context
-- that it then has to what it calls.
use Rattle.std.specs.Prelude.{◌≡◌, ◌≤◌, ℕ, pos, ◌+◌, max, length, All, IsTrue, ◌==◌, ◌||◌, nat_lt, if◌then◌else◌}
use Rattle.std.specs.Prelude.{List, [], ◌∷◌, ◌++◌, map, Option, Some, None}
use Rattle.jparts.specs.declared.jcode.names.Access.{Access}
use Rattle.jparts.specs.declared.jcode.names.Access.TheVariants.{Load, Store}
use Rattle.jparts.specs.declared.jcode.names.LocalKind.TheVariants.{Ref}
use Rattle.jparts.specs.declared.jcode.names.CallOp.TheVariants.{Static}
use Rattle.jparts.specs.declared.jcode.op.Op.{Op}
use Rattle.jparts.specs.declared.jcode.op.Op.TheVariants as ops
use Rattle.jparts.specs.declared.jcode.op.IntConst.TheVariants.{Short}
use Rattle.jparts.specs.declared.jcode.op.LocalOp.TheVariants.{At}
use Rattle.jparts.specs.declared.jcode.op.Wide.TheVariants.{Local}
use Rattle.jparts.specs.declared.jcode.op.Placed.{Placed}
use Rattle.jparts.specs.declared.jcode.op.Handler.{Handler}
use Rattle.jparts.specs.jcode.Instructions.{code}
use Rattle.jmove.specs.declared.method.Expand.{Expand}
use Rattle.jmove.specs.declared.method.Expand.TheVariants.{Same, Call, Check, Snapshot, Privileged, PrivilegedWith, PrivilegedLimited}
use Rattle.jmove.specs.declared.method.MethodIn.{MethodIn}
use Rattle.jmove.specs.declared.method.MethodOut.{MethodOut}
use Rattle.jmove.specs.declared.method.MoveError.{MoveError}
use Rattle.jmove.specs.declared.method.MoveError.TheVariants.{Slots, Locals, Stack, TooLong}
use Rattle.jmove.specs.declared.method.Setting.{Setting}
use Rattle.jmove.specs.MovedFrames.{moved_frame, items_of, widths}
use Rattle.jmove.specs.AssemblyLines.{Line, Label, Do, end_of, place_of, assembled}

-- ---- single instructions

-- aload or astore, in its short form of two bytes up to local 255
abbrev pub move_ref : Access → ℕ → Op
move_ref access n = if nat_lt n 256 then ops.RefLocal (At access n) else ops.Wide (Local Ref access n)

-- sipush
abbrev pub push_int : ℕ → Op
push_int n = ops.IntConst (Short (pos n))

abbrev pub call_static : ℕ → Op
call_static n = ops.Call Static n

-- a call by another reference, with one more argument; an interface call's count stays where it is 255
abbrev pub calling : ℕ → Op → Op
calling n = elim [ ops.Call op m ↦ ops.Call op n | ops.CallInterface m s ↦ ops.CallInterface n (if nat_lt s 255 then s + 1 else s) | op ↦ op ]

-- ---- lines

-- What a moved body begins with: the caller's context, which stands behind the parameters, and the domain are entered, and the context
-- that this gives is put into a local of its own. `enter` is the reference that is called.
abbrev pub prologue : ℕ → Setting → ℕ → List Op
prologue slots s enter = move_ref Load slots ∷ push_int s.domain ∷ call_static enter ∷ move_ref Store s.local ∷ []

-- what an instruction becomes
abbrev pub expansion : Setting → Expand → Op → List Op
expansion s Same op = op ∷ []
expansion s (Call n) op = move_ref Load s.local ∷ calling n op ∷ []
expansion s (Check n) op = move_ref Load s.local ∷ call_static n ∷ []
expansion s (Snapshot n) op = move_ref Load s.local ∷ call_static n ∷ []
expansion s (Privileged n) op = push_int s.domain ∷ call_static n ∷ []
expansion s (PrivilegedWith n) op = push_int s.domain ∷ call_static n ∷ []
expansion s (PrivilegedLimited n) op = move_ref Load s.local ∷ push_int s.domain ∷ call_static n ∷ []

-- each instruction's expansion, behind the label of its old place
abbrev pub expansions : Setting → List Expand → List Placed → List Line
expansions s [] is = []
expansions s (k ∷ ks) [] = []
expansions s (k ∷ ks) (i ∷ is) = Label i.at ∷ (map (Do i.at) (expansion s k i.op) ++ expansions s ks is)

-- the lines of a body that begins so
abbrev pub lines : List Op → Setting → List Expand → List Placed → List Line
lines begin s ks is = map (Do 0) begin ++ expansions s ks is

-- ---- limits

-- the local that holds the context
abbrev pub context_local : MethodIn → ℕ
context_local m = max m.max_locals (m.slots + 1)

-- where the context is kept, and the domain
abbrev pub setting : MethodIn → ℕ → Setting
setting m domain = record { local = context_local m; domain = domain }

-- The number of bytes of moved code: it is the same for each domain and for all indices of references.
abbrev pub moved_length : MethodIn → List Expand → ℕ
moved_length m ks = let s = setting m 0 in end_of 0 (lines (prologue m.slots s 0) s ks m.ops)

abbrev pub too_long : ℕ → Option MoveError
too_long n = if nat_lt 32767 n then Some (TooLong n) else None

-- What is asked of a method, and of what its instructions become: there is an expansion for each instruction, the instructions are code of
-- at most 65,535 bytes, the numbers are those of a class file, and the locals of each frame are locals of the method.
pub record CanMove (m : MethodIn) (ks : List Expand) : Type 0 where
  pub each : length ks ≡ length m.ops
  pub is_code : IsTrue (code.fits m.ops)
  pub short : length (code.spell m.ops) ≤ 0xffff
  pub slots : m.slots ≤ 255
  pub locals : m.max_locals ≤ 0xffff
  pub frames : All (λ f. widths f.locals ≤ m.max_locals) m.frames

-- the first limit that moved code breaks
unfoldable pub limit_of : MethodIn → List Expand → Option MoveError
limit_of m ks =
    if m.slots == 255 then Some Slots else (
    if m.max_locals == 65535 || nat_lt 16777216 (items_of (context_local m) m.frames) then Some Locals else (
    if nat_lt 65532 m.max_stack then Some Stack else
    too_long (moved_length m ks)))

-- ---- the moved method

abbrev pub moved_handler : (ℕ → ℕ) → Handler → Handler
moved_handler to h = record { start = to h.start; «end» = to h.«end»; at = to h.at; class = h.class }

-- what lines make of a method; `context` is the index of the context's class
abbrev pub of_lines : MethodIn → ℕ → List Line → MethodOut
of_lines m context ls = let to : ℕ → ℕ = λ old. place_of old 0 ls in record {
  slots = m.slots + 1;
  max_stack = m.max_stack + 3;
  max_locals = context_local m + 1;
  ops = assembled ls;
  handlers = map (moved_handler to) m.handlers;
  frames = map (moved_frame to (context_local m) context) m.frames;
}

-- The moved method of a domain, where `enter`, the expansions and `context` have the indices of the moved pool.
unfoldable pub moved_by : MethodIn → ℕ → ℕ → ℕ → List Expand → MethodOut
moved_by m domain enter context ks = of_lines m context (lines (prologue m.slots (setting m domain) enter) (setting m domain) ks m.ops)
