-- String constants that are made.
use Rattle.std.proofs.Common.{◌≡◌, ◌∙◌, ℕ, ◌+◌, ◌<◌, ◌^◌, List, [], ◌∷◌, ◌++◌, length, get_or, Some, None, false, sym, ap, ap₂, rules}
use Rattle.std.specs.Prelude.{nat_le}
use Rattle.std.proofs.lemmas.Bool.{le-leb}
use Rattle.std.proofs.lemmas.List.{length-map}
use Rattle.jvalues.specs.declared.jops.value.Value.TheVariants.{Ref}
use Rattle.jmemory.specs.declared.jheap.cell.Kind.TheVariants as kinds
use Rattle.jmemory.specs.jheap.Heaps.{Heaped}
use Rattle.jresolution.specs.jprogram.ProgramClasses.{Program}
use Rattle.jresolution.specs.juses.InstructionMeanings as meanings
use Rattle.jsemantics.specs.jmachine.ObjectInstructions.{push, units_of as units_held}
use Rattle.jsemantics.specs.jmachine.HeapObjects.{Text}
use Rattle.jsemantics.specs.jmachine.Store.{Store, constant_at, next_number, paid, with_made}
use Rattle.jruntime.specs.declared.jstate.shapes.Shapes.{Shapes}
use Rattle.jruntime.specs.jstate.HeapMeanings.{AreBuilt, Things, object_by, store_by}
use Rattle.jruntime.specs.jstate.HeapMeaningLaws.{AddsOne}
use Rattle.jrows.specs.jtexts.HeapTexts.{Puts}
use Rattle.jrows.specs.jtexts.TextCallOutcomes.{Comes, leaves}
use Rattle.jrows.specs.declared.jtexts.ran.Ran.TheVariants as rans
use Rattle.jrows.proofs.JtextsProofs.TextRows.{text_view}

module _ (E : Type 0) (p : Program) (shapes : Shapes) (things : Things) (constants : List (List ℕ × ℕ)) (bytes us : List ℕ) where
  abbrev at : Heaped → Store ℕ
  at h = store_by p shapes things constants h

  pub full_row : (old new : Heaped) → units_held bytes ≡ us → constant_at constants us ≡ None → Puts kinds.Text us old new None
      → Comes {E = E} (at old) (push (at old) (meanings.Text bytes) []) (leaves rans.Full [] (at new))
  unfolding push
  full_row old new held none (few, is) =
      let short : nat_le (2 + length us) old.left ≡ false = search rules in
      rw (held, none, short) (ap (λ h. leaves rans.Full [] (at h)) is)

  pub made_row : AddsOne → (old new : Heaped) (o : ℕ) → AreBuilt old.objects → ((i : ℕ) → get_or us i 0 < 2 ^ 16) → units_held bytes ≡ us → constant_at constants us ≡ None → Puts kinds.Text us old new (Some o)
      → Comes {E = E} (at old) (push (at old) (meanings.Text bytes) []) (leaves (rans.Gave (Ref o)) [] (store_by p shapes things (constants ++ (us, o) ∷ []) new))
  unfolding push
  made_row adds old new o built small held none (few, number, is) =
      let next : o ≡ next_number (at old) = number ∙ ap (λ k. k + 1) (sym (length-map old.objects (object_by p shapes old.objects things))) in
      let view = text_view adds p shapes things (constants ++ (us, o) ∷ []) us old new built small is in
      let there = ap (λ n. paid (2 + length us) (with_made (store_by p shapes things (constants ++ (us, n) ∷ []) old) (Text (Some us)))) next in
      rw (held, none, le-leb (2 + length us) old.left few) (ap₂ (λ (n : ℕ) (t : Store ℕ). leaves (rans.Gave (Ref n)) [] t) next (view ∙ there))
