-- Room for one more operand, by number and by name.
use Rattle.std.proofs.Common.{◌≡◌, ℕ, Bool, true, false, List, Some, None, map, nat_le, ap, sym, ◌∙◌}
use Rattle.std.specs.Prelude.{if◌then◌else◌}
use Rattle.jtypes.specs.TypeFrames.{Frame, within}
use Rattle.jresolution.specs.jprogram.ProgramClasses.{Program}
use Rattle.jresolution.specs.declared.juses.types.TypeRef.{TypeRef}
use Rattle.jresolution.specs.juses.InternedTypes.{named}
use Rattle.jtyping.specs.jrule.StackOperands.{with_room, with_stack}
use Rattle.jtyping.specs.jrule.OperandSlots.{slot_count}
use Rattle.jtyping.proofs.JruleProofs.OperandSlots.{slots_named}

-- the operands by number are within as many slots as those by name
pub within_named : (p : Program) (most : ℕ) (ks : List TypeRef) → nat_le (slot_count ks) most ≡ within most (map (named p) ks)
within_named p most ks = ap (λ n. nat_le n most) (sym (slots_named p ks))

pub no_room : (p : Program) (most : ℕ) (f : Frame) (ks : List TypeRef) (b : Bool) → b ≡ nat_le (slot_count ks) most → b ≡ false → None ≡ with_room most f (map (named p) ks)
no_room p most f ks b e n = ap (λ b. if b then Some (with_stack f (map (named p) ks)) else None) (sym n ∙ e ∙ within_named p most ks)

pub has_room : (p : Program) (most : ℕ) (f : Frame) (ks : List TypeRef) (b : Bool) → b ≡ nat_le (slot_count ks) most → b ≡ true → Some (with_stack f (map (named p) ks)) ≡ with_room most f (map (named p) ks)
has_room p most f ks b e y = ap (λ b. if b then Some (with_stack f (map (named p) ks)) else None) (sym y ∙ e ∙ within_named p most ks)
