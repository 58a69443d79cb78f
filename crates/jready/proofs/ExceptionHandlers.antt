-- The handlers of a method by number handle what those of its code handle.
use Rattle.std.proofs.Common.{◌≡◌, ℕ, Bool, true, false, List, [], ◌∷◌, Option, Some, refl, ap, ◌∙◌}
use Rattle.std.specs.Prelude.{◌&&◌, ◌||◌, ◌==◌, option_and_then, slice_get, if◌then◌else◌}
use Rattle.std.specs.List.{find}
use Rattle.jparts.specs.declared.jpool.entry.Entry.{Entry}
use Rattle.jparts.specs.declared.jcode.op.Handler.{Handler}
use Rattle.jparts.specs.declared.jcode.op.Placed.{Placed}
use Rattle.jtypes.specs.declared.vtype.VType.{VType}
use Rattle.jresolution.specs.jprogram.ProgramClasses.{Program}
use Rattle.jresolution.specs.juses.InstructionMeanings.{class_at}
use Rattle.jsemantics.specs.jmachine.Unwinding.{is_caught, number_at, takes}
use Rattle.jparts.specs.jcode.Instructions.{covers}
use Rattle.jready.specs.declared.handlers.HandlerRow.{HandlerRow}
use Rattle.jready.specs.HandlerTables.{AreHandlers, IsHandler, handled, row_takes}

same_test : (p : Program) (pool : List Entry) (thrown : VType) (ops : List Placed) (i : ℕ) (one : Placed) (h : Handler) (r : HandlerRow)
    → slice_get ops i ≡ Some one → IsHandler ops h r → row_takes p pool thrown i r ≡ takes p pool thrown one.at h
same_test p pool thrown ops i one h r at is =
    ap (λ (b : Bool). b && ((r.class == 0) || is_caught p thrown (class_at p pool r.class))) (is.range i one at)
    ∙ ap (λ (c : ℕ). covers one.at h && ((c == 0) || is_caught p thrown (class_at p pool c))) is.class

step : (ops : List Placed) (h : Handler) (r : HandlerRow) (b c : Bool) (f : Option HandlerRow) (g : Option Handler) → r.to ≡ number_at ops h.at → b ≡ c
    → option_and_then (λ (r : HandlerRow). r.to) f ≡ option_and_then (λ (h : Handler). number_at ops h.at) g
    → option_and_then (λ (r : HandlerRow). r.to) (if b then Some r else f) ≡ option_and_then (λ (h : Handler). number_at ops h.at) (if c then Some h else g)
step ops h r true true f g to e rest = to
step ops h r true false f g to e rest = absurd cc
step ops h r false true f g to e rest = absurd cc
step ops h r false false f g to e rest = rest

pub handled_is : (p : Program) (pool : List Entry) (thrown : VType) (ops : List Placed) (i : ℕ) (one : Placed) → slice_get ops i ≡ Some one
    → (handlers : List Handler) (rows : List HandlerRow)
    → AreHandlers ops handlers rows → handled p pool thrown i rows ≡ option_and_then (λ h. number_at ops h.at) (find (takes p pool thrown one.at) handlers)
handled_is p pool thrown ops i one at [] [] all = refl
handled_is p pool thrown ops i one at [] (r ∷ rows) all = absurd all
handled_is p pool thrown ops i one at (h ∷ handlers) [] all = absurd all
handled_is p pool thrown ops i one at (h ∷ handlers) (r ∷ rows) all =
    step ops h r (row_takes p pool thrown i r) (takes p pool thrown one.at h) (find (row_takes p pool thrown i) rows)
    (find (takes p pool thrown one.at) handlers)
    all.0.to (same_test p pool thrown ops i one h r at all.0) (handled_is p pool thrown ops i one at handlers rows all.1)
