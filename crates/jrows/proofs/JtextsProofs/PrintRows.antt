-- What is printed.
use Rattle.std.proofs.Common.{◌≡◌, ◌∙◌, ℕ, zero, suc, List, [], ◌∷◌, Option, Some, None, refl, sym}
use Rattle.jvalues.specs.declared.jops.value.Value.{Value}
use Rattle.jvalues.specs.declared.jops.value.Value.TheVariants.{Int, Long, Ref, Ctx}
use Rattle.jmemory.specs.jheap.Heaps.{Heaped}
use Rattle.jlib.specs.declared.calls.PrintedType.{PrintedType}
use Rattle.jlib.specs.declared.calls.PrintedType.TheVariants as pieces
use Rattle.joutput.specs.declared.jtrace.event.Event.TheVariants.{Out}
use Rattle.jresolution.specs.jprogram.ProgramClasses.{Program}
use Rattle.jsemantics.specs.jmachine.Store.{Store}
use Rattle.jsemantics.specs.jmachine.TextCalls.{print, print_end, printed, units_or_null}
use Rattle.jruntime.specs.declared.jstate.shapes.Shapes.{Shapes}
use Rattle.jruntime.specs.jstate.HeapMeanings.{Things, store_by}
use Rattle.jruntime.specs.jstate.HeapMeaningLaws.{SeesEach}
use Rattle.jrows.specs.jtexts.PrintEvents.{Prints}
use Rattle.jrows.specs.jtexts.TextCallOutcomes.{leaves}
use Rattle.jrows.specs.jtexts.PrintedValues.{shown, text_or_null}
use Rattle.jrows.specs.declared.jtexts.ran.Ran.TheVariants as rans
use Rattle.jrows.proofs.JtextsProofs.Costs.{at_no_cost}
use Rattle.jrows.proofs.JtextsProofs.TextReads.{sees_units}

module _ (each : SeesEach) (p : Program) (shapes : Shapes) (things : Things) (constants : List (List ℕ × ℕ)) (h : Heaped) where
  text_seen : (v : Value ℕ) → units_or_null (store_by p shapes things constants h) v ≡ text_or_null h v
  text_seen (Ref zero) = refl
  text_seen (Ref (suc o)) = sees_units each p shapes things constants h (Ref (suc o))
  text_seen (Int x) = refl
  text_seen (Long x) = refl
  text_seen (Ctx k) = refl

  -- what is printed is seen by the heap alone
  pub printed_seen : (piece : PrintedType) (v : Value ℕ) → printed (store_by p shapes things constants h) piece v ≡ shown h piece v
  unfolding printed
  printed_seen pieces.Text v = text_seen v
  printed_seen pieces.Long (Long x) = refl
  printed_seen pieces.Long (Int x) = refl
  printed_seen pieces.Long (Ref o) = refl
  printed_seen pieces.Long (Ctx k) = refl
  printed_seen pieces.Int (Int x) = refl
  printed_seen pieces.Int (Long x) = refl
  printed_seen pieces.Int (Ref o) = refl
  printed_seen pieces.Int (Ctx k) = refl
  printed_seen pieces.Char (Int x) = refl
  printed_seen pieces.Char (Long x) = refl
  printed_seen pieces.Char (Ref o) = refl
  printed_seen pieces.Char (Ctx k) = refl
  printed_seen pieces.Bool (Int x) = refl
  printed_seen pieces.Bool (Long x) = refl
  printed_seen pieces.Bool (Ref o) = refl
  printed_seen pieces.Bool (Ctx k) = refl

print_row : (E : Type 0) (s : Store ℕ) (thread : ℕ) (piece : PrintedType) (v stream : Value ℕ) (text : Option (List ℕ)) → printed s piece v ≡ text
    → Prints {E = E} s (print s thread piece (v ∷ stream ∷ [])) thread text
unfolding print
print_row E s thread piece v stream None e = rw e refl
print_row E s thread piece v stream (Some us) e = rw e (at_no_cost s s rans.Went (Out thread us ∷ []) (leaves rans.Full [] s))

pub end_row : (E : Type 0) (s : Store ℕ) (thread : ℕ) (stream : Value ℕ) → Prints {E = E} s (print_end s thread (stream ∷ [])) thread (Some [])
unfolding print_end
end_row E s thread stream = at_no_cost s s rans.Went (Out thread [] ∷ []) (leaves rans.Full [] s)

pub print_shown : (E : Type 0) (each : SeesEach) (h : Heaped) (piece : PrintedType) (v : Value ℕ) (text : Option (List ℕ)) → text ≡ shown h piece v
    → (p : Program) (shapes : Shapes) (things : Things) (constants : List (List ℕ × ℕ)) (thread : ℕ) (stream : Value ℕ)
    → Prints {E = E} (store_by p shapes things constants h) (print (store_by p shapes things constants h) thread piece (v ∷ stream ∷ [])) thread text
print_shown E each h piece v text is p shapes things constants thread stream =
    print_row E (store_by p shapes things constants h) thread piece v stream text (printed_seen each p shapes things constants h piece v ∙ sym is)
