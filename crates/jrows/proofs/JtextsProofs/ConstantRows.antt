-- Strings that are made.
use Rattle.std.proofs.Common.{◌≡◌, ◌∙◌, ℕ, ◌+◌, ◌<◌, ◌^◌, List, [], length, get_or, Option, Some, None, sym, ap}
use Rattle.std.proofs.lemmas.List.{length-map}
use Rattle.jmemory.specs.declared.jheap.cell.Kind.TheVariants as kinds
use Rattle.jmemory.specs.jheap.Heaps.{Heaped}
use Rattle.jvalues.specs.declared.jops.value.Value.TheVariants.{Ref}
use Rattle.jresolution.specs.jprogram.ProgramClasses.{Program}
use Rattle.jresolution.specs.juses.InstructionMeanings as meanings
use Rattle.jsemantics.specs.jmachine.ObjectInstructions.{push, units_of as units_held}
use Rattle.jsemantics.specs.jmachine.Store.{Store, constant_at}
use Rattle.jruntime.specs.declared.jstate.shapes.Shapes.{Shapes}
use Rattle.jruntime.specs.jstate.HeapMeanings.{AreBuilt, Things, object_by, store_by}
use Rattle.jruntime.specs.jstate.HeapMeaningLaws.{AddsOne}
use Rattle.jrows.specs.jtexts.MadeStrings.{LoadsKnown, MakesText, constants_with, loaded}
use Rattle.jrows.specs.jtexts.HeapTexts.{Puts}
use Rattle.jrows.specs.jtexts.TextCallOutcomes.{Comes, leaves}
use Rattle.jrows.specs.declared.jtexts.ran.Ran.TheVariants as rans
use Rattle.jrows.proofs.JtextsProofs.Costs.{at_no_cost}
use Rattle.jrows.proofs.JtextsProofs.LoadRows.{full_row, made_row}
use Rattle.jrows.proofs.JtextsProofs.TextRows.{text_view}

pub loads_known : (E : Type 0) → LoadsKnown E
unfolding push
loads_known E s bytes o known = rw known (at_no_cost s s (rans.Gave (Ref o)) [] (leaves rans.Full [] s))

module _ (adds : AddsOne) (p : Program) (shapes : Shapes) (things : Things) (constants : List (List ℕ × ℕ)) (us : List ℕ) where
  abbrev at : Heaped → Store ℕ
  at h = store_by p shapes things constants h

  pub put_makes : (old new : Heaped) (o : Option ℕ) → AreBuilt old.objects → ((i : ℕ) → get_or us i 0 < 2 ^ 16) → Puts kinds.Text us old new o → MakesText us (at old) o (at new)
  put_makes old new None built small (few, is) = (few, ap at is)
  put_makes old new (Some o) built small (few, number, is) =
      let next : length old.objects + 1 ≡ length (at old).objects + 1 = ap (λ k. k + 1) (sym (length-map old.objects (object_by p shapes old.objects things))) in
      (few, number ∙ next, text_view adds p shapes things constants us old new built small is)

  pub put_loads : (E : Type 0) (bytes : List ℕ) (old new : Heaped) (o : Option ℕ) → AreBuilt old.objects → ((i : ℕ) → get_or us i 0 < 2 ^ 16) → units_held bytes ≡ us → constant_at constants us ≡ None
      → Puts kinds.Text us old new o → Comes {E = E} (at old) (push (at old) (meanings.Text bytes) []) (leaves (loaded o) [] (store_by p shapes things (constants_with o us constants) new))
  put_loads E bytes old new None built small held none puts = full_row E p shapes things constants bytes us old new held none puts
  put_loads E bytes old new (Some o) built small held none puts = made_row E p shapes things constants bytes us adds old new o built small held none puts

pub same_statics : (us : List ℕ) (old new : Heaped) (o : Option ℕ) → Puts kinds.Text us old new o → new.statics ≡ old.statics
same_statics us old new None puts = ap (λ (h : Heaped). h.statics) puts.1
same_statics us old new (Some o) puts = ap (λ (h : Heaped). h.statics) puts.2
