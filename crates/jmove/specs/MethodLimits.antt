-- What the limits of a method depend on, and what they give.
use Rattle.std.specs.Prelude.{◌≡◌, ◌≤◌, ℕ, List, map, None}
use Rattle.jparts.specs.declared.jpool.entry.Entry.{Entry}
use Rattle.jparts.specs.declared.jmaps.types.MapType.{MapType}
use Rattle.jparts.specs.declared.jmaps.types.MapType.TheVariants.{Object}
use Rattle.jparts.specs.declared.jmaps.types.FullFrame.{FullFrame}
use Rattle.jmove.specs.declared.method.Expand.{Expand}
use Rattle.jmove.specs.declared.method.MethodIn.{MethodIn}
use Rattle.jmove.specs.PoolAdditions.{numbered, with_body}
use Rattle.jmove.specs.AssemblyLines.{end_of}
use Rattle.jmove.specs.MethodExpansion.{CanMove, limit_of, lines, prologue, setting}

-- ---- methods that are the same but for indices of the pool

-- a type, a frame and an expansion without their indices: each is 0
abbrev pub bare_type : MapType → MapType
bare_type (Object class) = Object 0
bare_type t = t

abbrev pub bare_frame : FullFrame → FullFrame
bare_frame f = record { at = f.at; locals = map bare_type f.locals; stack = map bare_type f.stack }

abbrev pub bare_kind : Expand → Expand
bare_kind k = numbered k 0

-- Two methods, and what their instructions become, are the same but for these indices. Their handlers may be any.
pub record Alike (m n : MethodIn) (ks js : List Expand) : Type 0 where
  pub slots : m.slots ≡ n.slots
  pub max_stack : m.max_stack ≡ n.max_stack
  pub max_locals : m.max_locals ≡ n.max_locals
  pub ops : m.ops ≡ n.ops
  pub frames : map bare_frame m.frames ≡ map bare_frame n.frames
  pub kinds : map bare_kind ks ≡ map bare_kind js

-- ---- laws

-- Such methods break the same limit first,
abbrev pub SameLimit : Type 0
SameLimit = (m n : MethodIn) (ks js : List Expand) → Alike m n ks js → limit_of m ks ≡ limit_of n js

-- and what is asked of a method that is to be moved holds of both.
abbrev pub SameCanMove : Type 0
SameCanMove = (m n : MethodIn) (ks js : List Expand) → Alike m n ks js → CanMove m ks → CanMove n js

-- What is put into a pool changes the indices of expansions alone.
abbrev pub Renumbered : Type 0
Renumbered = (ks : List Expand) (fs : List FullFrame) (pool : List Entry) → map bare_kind (with_body ks fs pool).0.kinds ≡ map bare_kind ks

-- The code of a method that breaks no limit has at most 32,767 bytes, whatever its domain and the reference that it begins by calling.
abbrev pub Short : Type 0
Short = (m : MethodIn) (ks : List Expand) → CanMove m ks → limit_of m ks ≡ None
    → (domain enter : ℕ) → end_of 0 (lines (prologue m.slots (setting m domain) enter) (setting m domain) ks m.ops) ≤ 32767
