use Rattle.std.proofs.Common.{◌≡◌, ℕ, List, [], ◌∷◌, ◌++◌, map, ap, ◌∙◌, refl, append_assoc}
use Rattle.std.specs.Prelude.{◌-◌}
use Rattle.jparts.specs.declared.jmaps.types.FullFrame.{FullFrame}
use Rattle.jparts.specs.declared.jmaps.types.MapType.{MapType}
use Rattle.jparts.specs.declared.jmaps.types.MapType.TheVariants.{Object}
use Rattle.jmove.specs.MovedFrames.{moved_frame, moved_type, widths}
use Rattle.jmove.specs.ProofNames.{unsaid}
use Rattle.jmove.specs.PlaceTables.{in_table}
use Rattle.jmove.proofs.framing.frame_moved.Goals as goal

-- a frame of the locals that were put one behind the other
made : (to : ℕ → ℕ) (local context at : ℕ) (f : FullFrame) (locals stack : List MapType) → at ≡ to f.at
    → locals ≡ (map (moved_type to) f.locals ++ unsaid local f.locals) ++ Object context ∷ [] → stack ≡ map (moved_type to) f.stack
    → record { at = at; locals = locals; stack = stack } ≡ moved_frame to local context f
made to local context at f locals stack a l s = rw (a, l, s, append_assoc (map (moved_type to) f.locals) (unsaid local f.locals) (Object context ∷ [])) refl

pub returns : goal.returns
returns c =
    let old = c.as_slice-old.ensures in
    let types = c.in_ok-locals.ensures ∙ ap (map (moved_type (in_table c.args.places.now))) old in
    let tops = c.in_ok-put_tops.ensures ∙ rw (types, c.widths.ensures, old) refl in
    made (in_table c.args.places.now) c.args.local c.args.context _ c.args.frame.now _ _ (c.from.ensures ∙ c.at.ensures.value)
    (c.from_vec.ensures ∙ c.in_ok-put.ensures ∙ ap (λ (l : List MapType). l ++ Object c.args.context ∷ []) tops)
    (c.from_vec-2.ensures ∙ c.in_ok-stack.ensures ∙ ap (map (moved_type (in_table c.args.places.now))) c.as_slice.ensures)
