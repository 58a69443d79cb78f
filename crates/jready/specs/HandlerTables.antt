-- The handlers of methods by number (JVMS 2.10, 4.7.3).
use Rattle.std.specs.Prelude.{◌≡◌, ℕ, Bool, ◌&&◌, ◌||◌, ◌==◌, List, Option, Some, option_and_then, slice_get, nat_le, nat_lt}
use Rattle.std.specs.List.{find}
use Rattle.jparts.specs.declared.jpool.entry.Entry.{Entry}
use Rattle.jparts.specs.declared.jcode.op.Handler.{Handler}
use Rattle.jparts.specs.declared.jcode.op.Placed.{Placed}
use Rattle.jtypes.specs.declared.vtype.VType.{VType}
use Rattle.jresolution.specs.jprogram.ProgramClasses.{Program}
use Rattle.jresolution.specs.juses.InstructionMeanings.{class_at}
use Rattle.jresolution.specs.juses.PoolTables.{Pairs}
use Rattle.jsemantics.specs.jmachine.Unwinding.{is_caught, number_at}
use Rattle.jparts.specs.jcode.Instructions.{covers}
use Rattle.jready.specs.declared.handlers.HandlerRow.{HandlerRow}

-- its range holds the number of an instruction
abbrev pub row_covers : ℕ → HandlerRow → Bool
row_covers i r = nat_le r.start i && nat_lt i r.end

-- it handles what an instruction of a number throws
abbrev pub row_takes : Program → List Entry → VType → ℕ → HandlerRow → Bool
row_takes p pool thrown i r = row_covers i r && ((r.class == 0) || is_caught p thrown (class_at p pool r.class))

-- the number at which the first handler goes on that handles what an instruction throws
abbrev pub handled : Program → List Entry → VType → ℕ → List HandlerRow → Option ℕ
handled p pool thrown i rows = option_and_then (λ r. r.to) (find (row_takes p pool thrown i) rows)

-- A handler of a method by number.
pub record IsHandler (ops : List Placed) (h : Handler) (r : HandlerRow) : Type 0 where
  pub range : (i : ℕ) (one : Placed) → slice_get ops i ≡ Some one → row_covers i r ≡ covers one.at h
  pub to : r.to ≡ number_at ops h.at
  pub class : r.class ≡ h.class

-- Those of a method, in their order.
abbrev pub AreHandlers : List Placed → List Handler → List HandlerRow → Type 0
AreHandlers ops handlers rows = Pairs (IsHandler ops) handlers rows
