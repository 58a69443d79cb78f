-- The lines of events, one by one.
use Rattle.std.proofs.Common.{◌≡◌, ℕ, suc, ◌<◌, List, ◌∷◌, ◌++◌, Option, length, get_or, take, drop, sym, ap, subst, ◌∙◌, append_assoc}
use Rattle.std.proofs.Math.Seq.{drop-cons}
use Rattle.std.proofs.lemmas.List.{take-append-drop}
use Rattle.std.proofs.lemmas.List.Concat.{flat_map-append, flat_map-cons}
use Rattle.jground.specs.jbase.FaultCauses.{appended, IsCut}
use Rattle.jground.proofs.JbaseProofs.Cuts.{cut_then, cut_more}
use Rattle.joutput.specs.declared.jtrace.event.Event.{Event}
use Rattle.joutput.specs.jtrace.TraceLines.{lines, line}

-- The lines of the events before one went out, and a front of its line.
pub cut_item : (es : List Event) (i : ℕ) (x : Event) (old mid new : Option (List ℕ)) → i < length es → x ≡ get_or es i x → mid ≡ appended old (lines (take i es)) → IsCut mid new (line x) → IsCut old new (lines es)
cut_item es i x old mid new lt is so_far h =
    let one : drop i es ≡ x ∷ drop (suc i) es = drop-cons es i x lt ∙ ap (λ (y : Event). y ∷ drop (suc i) es) (sym is) in
    let all : lines es ≡ (lines (take i es) ++ line x) ++ lines (drop (suc i) es) =
    ap lines (sym (take-append-drop i es) ∙ ap (λ (r : List Event). take i es ++ r) one)
    ∙ flat_map-append line (take i es) (x ∷ drop (suc i) es)
    ∙ ap (λ (r : List ℕ). lines (take i es) ++ r) (flat_map-cons line x (drop (suc i) es))
    ∙ sym (append_assoc (lines (take i es)) (line x) (lines (drop (suc i) es))) in
    subst (λ (t : List ℕ). IsCut old new t) (sym all) (cut_more old new (lines (take i es) ++ line x) (lines (drop (suc i) es)) (cut_then old mid new (lines (take i es)) (line x) so_far h))
