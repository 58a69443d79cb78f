-- From the operands of a call to what a row does with its values.
use Rattle.std.proofs.Common.{◌≡◌, ℕ, List, [], ◌∷◌, Option, Some, None, refl, subst, sym}
use Rattle.std.specs.Option.{option_to_list}
use Rattle.std.specs.Prelude.{Result, Ok, Err, IfOk}
use Rattle.jvalues.specs.declared.jops.value.Value.{Value}
use Rattle.jmemory.specs.jheap.Heaps.{Heaped}
use Rattle.joutput.specs.declared.jtrace.event.Event.{Event}
use Rattle.jresolution.specs.jprogram.ProgramClasses.{Program}
use Rattle.jlib.specs.declared.calls.PrintedType.{PrintedType}
use Rattle.jsemantics.specs.jmachine.MachineStates.{Row}
use Rattle.jsemantics.specs.jmachine.CallTargets.{receiver}
use Rattle.jsemantics.specs.jmachine.Store.{Store}
use Rattle.jsemantics.specs.jmachine.TextCalls.{print}
use Rattle.jruntime.specs.declared.jstate.shapes.Shapes.{Shapes}
use Rattle.jruntime.specs.jstate.HeapMeanings.{Things, store_by}
use Rattle.jrows.specs.jtexts.PrintEvents.{Prints}
use Rattle.jrows.specs.jtexts.TextCallOutcomes.{Comes, leaves}
use Rattle.jrows.specs.declared.jtexts.ran.Ran.{Ran}
use Rattle.jrows.specs.declared.jtexts.ran.Ran.TheVariants as ran
use Rattle.jlibcalls.specs.jlibrary.LibraryOutcomes.{Does, came_by}
use Rattle.jlibcalls.specs.jlibrary.CallOperands.{one_in, two_in}
use Rattle.jlibcalls.proofs.JlibraryProofs.Operands.{one_is, two_is}

-- as the calls of the library say it
abbrev pub Did : {E : Type 0} → (Store ℕ → Option (Row ℕ E)) → Heaped → Ran → Heaped → Type 0
Did {E} row h came k = (p : Program) (shapes : Shapes) (things : Things) (constants : List (List ℕ × ℕ)) → let s = store_by p shapes things constants h in
    Comes {E = E} s (row s) (leaves came [] (store_by p shapes things constants k))

module _ {E : Type 0} (row : Store ℕ → List (Value ℕ) → Option (Row ℕ E)) (values : List (Value ℕ)) where
  -- without a row there is no step
  pub none_does : ((s : Store ℕ) → row s values ≡ None) → (shapes : Shapes) (h : Heaped) → Does {E = E} shapes (λ s. row s values) h ran.Stuck [] h
  none_does none shapes h p things constants = rw (none (store_by p shapes things constants h)) refl

  pub one_does : (v : Value ℕ) → Some v ≡ one_in values → (shapes : Shapes) (h k : Heaped) (came : Ran) (told : List Event)
      → Does {E = E} shapes (λ s. row s (v ∷ [])) h came told k → Does {E = E} shapes (λ s. row s values) h came told k
  one_does v e shapes h k came told does = subst (λ (vs : List (Value ℕ)). Does {E = E} shapes (λ s. row s vs) h came told k) (sym (one_is values v e)) does

  pub two_does : (w v : Value ℕ) → Some (w, v) ≡ two_in values → (shapes : Shapes) (h k : Heaped) (came : Ran) (told : List Event)
      → Does {E = E} shapes (λ s. row s (w ∷ v ∷ [])) h came told k → Does {E = E} shapes (λ s. row s values) h came told k
  two_does w v e shapes h k came told does = subst (λ (vs : List (Value ℕ)). Does {E = E} shapes (λ s. row s vs) h came told k) (sym (two_is values w v e)) does

  -- the same where memory may be out
  pub one_did : {F : Type 0} (r : Result Ran F) (v : Value ℕ) → Some v ≡ one_in values → (h k : Heaped)
      → IfOk r (λ came. Did (λ s. row s (v ∷ [])) h came k) → IfOk r (λ came. (shapes : Shapes) → Does {E = E} shapes (λ s. row s values) h came [] k)
  one_did (Ok came) v e h k did = λ shapes. one_does v e shapes h k came [] (λ p things constants. did p shapes things constants)
  one_did (Err x) v e h k did = tt

  pub two_did : {F : Type 0} (r : Result Ran F) (w v : Value ℕ) → Some (w, v) ≡ two_in values → (h k : Heaped)
      → IfOk r (λ came. Did (λ s. row s (w ∷ v ∷ [])) h came k) → IfOk r (λ came. (shapes : Shapes) → Does {E = E} shapes (λ s. row s values) h came [] k)
  two_did (Ok came) w v e h k did = λ shapes. two_does w v e shapes h k came [] (λ p things constants. did p shapes things constants)
  two_did (Err x) w v e h k did = tt

-- ---- what calls are called on

pub one_receives : (values : List (Value ℕ)) (v : Value ℕ) → Some v ≡ one_in values → receiver values ≡ Some v
unfolding receiver
one_receives values v e = rw (one_is values v e) refl

pub two_receives : (values : List (Value ℕ)) (w v : Value ℕ) → Some (w, v) ≡ two_in values → receiver values ≡ Some v
unfolding receiver
two_receives values w v e = rw (two_is values w v e) refl

-- ---- what is printed

pub prints : {E : Type 0} (thread : ℕ) (text : Option (List ℕ)) (s : Store ℕ) (row : Option (Row ℕ E)) → Prints s row thread text
    → Comes s row (leaves (came_by thread text).ran (option_to_list (came_by thread text).told) s)
prints thread None s row did = did
prints thread (Some text) s row did = did

pub print_does : (E : Type 0) (thread : ℕ) (piece : PrintedType) (values : List (Value ℕ)) (v stream : Value ℕ) → Some (v, stream) ≡ two_in values → (text : Option (List ℕ))
    (shapes : Shapes) (h : Heaped)
    → ((p : Program) (shapes : Shapes) (things : Things) (constants : List (List ℕ × ℕ)) (thread : ℕ) (stream : Value ℕ) → let s = store_by p shapes things constants h in
    Prints {E = E} s (print s thread piece (v ∷ stream ∷ [])) thread text)
    → Does {E = E} shapes (λ s. print s thread piece values) h (came_by thread text).ran (option_to_list (came_by thread text).told) h
print_does E thread piece values v stream e text shapes h did =
    two_does (λ s vs. print s thread piece vs) values v stream e shapes h h (came_by thread text).ran (option_to_list (came_by thread text).told)
    (λ p things constants. let s = store_by p shapes things constants h in
    prints thread text s (print s thread piece (v ∷ stream ∷ [])) (did p shapes things constants thread stream))
