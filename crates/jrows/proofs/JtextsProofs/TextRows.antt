-- New strings.
use Rattle.std.proofs.Common.{◌≡◌, ◌∙◌, ℕ, ◌+◌, List, [], length, get_or, Some, sym, ap, ap₂, ◌<◌, ◌^◌}
use Rattle.std.specs.Prelude.{nat_le, if◌then◌else◌}
use Rattle.std.proofs.lemmas.Bool.{le-leb}
use Rattle.std.proofs.lemmas.List.{length-map}
use Rattle.jmemory.specs.declared.jheap.cell.Kind.TheVariants as kinds
use Rattle.jmemory.specs.jheap.Heaps.{Heaped}
use Rattle.jvalues.specs.declared.jops.value.Value.TheVariants.{Ref}
use Rattle.jresolution.specs.jprogram.ProgramClasses.{Program}
use Rattle.jsemantics.specs.jmachine.HeapObjects.{Text}
use Rattle.jsemantics.specs.jmachine.Store.{Store, next_number, paid, with_made}
use Rattle.jruntime.specs.declared.jstate.shapes.Shapes.{Shapes}
use Rattle.jruntime.specs.jstate.HeapMeanings.{AreBuilt, Things, object_by, store_by}
use Rattle.jruntime.specs.jstate.HeapMeaningLaws.{AddsOne}
use Rattle.jrows.specs.jtexts.HeapTexts.{Puts, with_units}
use Rattle.jrows.specs.jtexts.TextCallOutcomes.{leaves}
use Rattle.jrows.specs.declared.jtexts.ran.Ran.TheVariants as rans
use Rattle.jrows.proofs.JtextsProofs.Units.{units_same}

module _ (adds : AddsOne) (p : Program) (shapes : Shapes) (things : Things) (constants : List (List ℕ × ℕ)) where
  pub text_view : (us : List ℕ) (old new : Heaped) → AreBuilt old.objects → ((i : ℕ) → get_or us i 0 < 2 ^ 16) → new ≡ with_units kinds.Text us old
      → store_by p shapes things constants new ≡ paid (2 + length us) (with_made (store_by p shapes things constants old) (Text (Some us)))
  text_view us old new built small is =
      ap (store_by p shapes things constants) is
      ∙ adds p shapes things constants old (record { kind = kinds.Text; cells = us; before = 0 }) (2 + length us) built
      ∙ ap (λ u. paid (2 + length us) (with_made (store_by p shapes things constants old) (Text (Some u)))) (units_same us small)

  pub text_row : (us : List ℕ) (old new : Heaped) (o : ℕ) → AreBuilt old.objects → ((i : ℕ) → get_or us i 0 < 2 ^ 16) → Puts kinds.Text us old new (Some o)
      → let s = store_by p shapes things constants old in
      leaves (rans.Gave (Ref o)) [] (store_by p shapes things constants new)
      ≡ (if nat_le (2 + length us) s.left then leaves (rans.Gave (Ref (next_number s))) [] (paid (2 + length us) (with_made s (Text (Some us)))) else leaves rans.Full [] s)
  text_row us old new o built small (few, number, is) =
      let next : length old.objects + 1 ≡ next_number (store_by p shapes things constants old) = ap (λ k. k + 1) (sym (length-map old.objects (object_by p shapes old.objects things))) in
      rw (le-leb (2 + length us) old.left few)
      (ap₂ (λ (n : ℕ) (t : Store ℕ). leaves (rans.Gave (Ref n)) [] t) (number ∙ next) (text_view us old new built small is))
