-- Calls of String.
use Rattle.std.proofs.Common.{◌≡◌, ◌∙◌, ℕ, zero, suc, ℤ, pos, ◌%◌, ◌^◌, Bool, true, false, List, [], ◌∷◌, ◌++◌, length, Option, Some, None, refl, sym, ap}
use Rattle.std.specs.Prelude.{slice_get, option_and_then, option_map, IfOk, Result, Ok, Err}
use Rattle.std.specs.Str.{bytes_eq}
use Rattle.std.proofs.lemmas.List.{length-map}
use Rattle.jvalues.specs.declared.jops.value.Value.{Value}
use Rattle.jvalues.specs.declared.jops.value.Value.TheVariants.{Int, Long, Ref, Ctx}
use Rattle.jmemory.specs.jheap.Heaps.{Heaped, cells_at}
use Rattle.jlib.specs.declared.classes.LibClass.TheVariants as lib
use Rattle.jlib.specs.declared.classes.Thrown.TheVariants as thrown
use Rattle.jlib.specs.declared.calls.StringCall.TheVariants as calls
use Rattle.jresolution.specs.jprogram.ProgramClasses.{Program}
use Rattle.jsemantics.specs.jmachine.MachineStates.{Row}
use Rattle.jsemantics.specs.jmachine.ObjectInstructions as making
use Rattle.jsemantics.specs.jmachine.Narrowing.{place}
use Rattle.jsemantics.specs.jmachine.Store.{Store}
use Rattle.jsemantics.specs.jmachine.TextCalls as definition
use Rattle.jsemantics.specs.jmachine.TextCalls.{string, units}
use Rattle.jruntime.specs.declared.jstate.shapes.Shapes.{Shapes}
use Rattle.jruntime.specs.jstate.HeapMeanings.{Things, store_by, units_of}
use Rattle.jruntime.specs.jstate.HeapMeaningLaws.{SeesEach}
use Rattle.jrows.specs.jtexts.HeapTexts.{names_nothing, text_number}
use Rattle.jrows.specs.jtexts.TextCallOutcomes.{Comes, Left, flag, leaves}
use Rattle.jrows.specs.declared.jtexts.ran.Ran.{Ran}
use Rattle.jrows.specs.declared.jtexts.ran.Ran.TheVariants as rans
use Rattle.jrows.proofs.JtextsProofs.Costs.{at_no_cost}
use Rattle.jrows.proofs.JtextsProofs.TextReads.{is_no_text, is_text, sees_units}

module _ (E : Type 0) (s : Store ℕ) (v : Value ℕ) where
  length_row : (us : List ℕ) → units s v ≡ Some us → Comes {E = E} s (string s calls.Length (v ∷ [])) (leaves (rans.Gave (Int (pos (length us)))) [] s)
  unfolding string
  length_row us e = rw e (at_no_cost s s (rans.Gave (Int (pos (length us)))) [] (leaves rans.Full [] s))

  length_stuck : units s v ≡ None → Comes {E = E} s (string s calls.Length (v ∷ [])) (leaves rans.Stuck [] s)
  unfolding string
  length_stuck e = rw e refl

  char_stuck : (i : ℤ) → units s v ≡ None → Comes {E = E} s (string s calls.CharAt (Int i ∷ v ∷ [])) (leaves rans.Stuck [] s)
  unfolding string
  char_stuck i e = rw e refl

  char_row : (i : ℤ) (us : List ℕ) (u : ℕ) → units s v ≡ Some us → option_and_then (slice_get us) (place i) ≡ Some u
      → Comes {E = E} s (string s calls.CharAt (Int i ∷ v ∷ [])) (leaves (rans.Gave (Int (pos u))) [] s)
  unfolding string
  char_row i us u e here = rw (e, here) (at_no_cost s s (rans.Gave (Int (pos u))) [] (leaves rans.Full [] s))

  char_outside : (i : ℤ) (us : List ℕ) → units s v ≡ Some us → option_and_then (slice_get us) (place i) ≡ None
      → Comes {E = E} s (string s calls.CharAt (Int i ∷ v ∷ [])) (leaves (rans.Raises (lib.Thrown thrown.StringIndexOutOfBoundsException)) [] s)
  unfolding string
  char_outside i us e none = rw (e, none) (refl, refl)

  equals_stuck : (other : Value ℕ) → units s v ≡ None → Comes {E = E} s (string s calls.Equals (other ∷ v ∷ [])) (leaves rans.Stuck [] s)
  unfolding string
  equals_stuck other e = rw e refl

  tested_row : (b : Bool) → Comes {E = E} s (Some (making.tested s b)) (leaves (rans.Gave (flag b)) [] s)
  tested_row true = at_no_cost s s (rans.Gave (flag true)) [] (leaves rans.Full [] s)
  tested_row false = at_no_cost s s (rans.Gave (flag false)) [] (leaves rans.Full [] s)

  equals_row : (other : Value ℕ) (us : List ℕ) (vs : Option (List ℕ)) → units s v ≡ Some us → units s other ≡ vs
      → Comes {E = E} s (string s calls.Equals (other ∷ v ∷ [])) (leaves (rans.Gave (flag (definition.equals us vs))) [] s)
  unfolding string
  equals_row other us vs e also = rw (e, also) (tested_row (definition.equals us vs))

module _ (each : SeesEach) (h : Heaped) (v : Value ℕ) (p : Program) (shapes : Shapes) (things : Things) (constants : List (List ℕ × ℕ)) where
  pub none_known : None ≡ text_number h v → units (store_by p shapes things constants h) v ≡ None
  none_known e = sees_units each p shapes things constants h v ∙ is_no_text h v e

  pub some_known : (o : ℕ) → Some o ≡ text_number h v → units (store_by p shapes things constants h) v ≡ Some (units_of (cells_at h o))
  some_known o e = let t = is_text h v o e in sees_units each p shapes things constants h v ∙ t.units

module _ (E : Type 0) (each : SeesEach) (h : Heaped) (v : Value ℕ) (p : Program) (shapes : Shapes) (things : Things) (constants : List (List ℕ × ℕ)) where
  abbrev known : Store ℕ
  known = store_by p shapes things constants h

  pub length_none : None ≡ text_number h v → Comes {E = E} known (string known calls.Length (v ∷ [])) (leaves rans.Stuck [] known)
  length_none e = length_stuck E known v (none_known each h v p shapes things constants e)

  pub length_some : (o : ℕ) → Some o ≡ text_number h v → Comes {E = E} known (string known calls.Length (v ∷ [])) (leaves (rans.Gave (Int (pos (length (cells_at h o))))) [] known)
  length_some o e = rw (sym (length-map (cells_at h o) (λ n. n % 2 ^ 16))) (length_row E known v (units_of (cells_at h o)) (some_known each h v p shapes things constants o e))

  pub char_none : (i : ℤ) → None ≡ text_number h v → Comes {E = E} known (string known calls.CharAt (Int i ∷ v ∷ [])) (leaves rans.Stuck [] known)
  char_none i e = char_stuck E known v i (none_known each h v p shapes things constants e)

  pub char_some : (i : ℤ) (o u : ℕ) → Some o ≡ text_number h v → Some u ≡ option_and_then (slice_get (units_of (cells_at h o))) (place i)
      → Comes {E = E} known (string known calls.CharAt (Int i ∷ v ∷ [])) (leaves (rans.Gave (Int (pos u))) [] known)
  char_some i o u e here = char_row E known v i (units_of (cells_at h o)) u (some_known each h v p shapes things constants o e) (sym here)

  pub char_past : (i : ℤ) (o : ℕ) → Some o ≡ text_number h v → None ≡ option_and_then (slice_get (units_of (cells_at h o))) (place i)
      → Comes {E = E} known (string known calls.CharAt (Int i ∷ v ∷ [])) (leaves (rans.Raises (lib.Thrown thrown.StringIndexOutOfBoundsException)) [] known)
  char_past i o e none = char_outside E known v i (units_of (cells_at h o)) (some_known each h v p shapes things constants o e) (sym none)

  pub equals_none : (other : Value ℕ) → None ≡ text_number h v → Comes {E = E} known (string known calls.Equals (other ∷ v ∷ [])) (leaves rans.Stuck [] known)
  equals_none other e = equals_stuck E known v other (none_known each h v p shapes things constants e)

  pub equals_other : (other : Value ℕ) (o : ℕ) → Some o ≡ text_number h v → None ≡ text_number h other
      → Comes {E = E} known (string known calls.Equals (other ∷ v ∷ [])) (leaves (rans.Gave (flag false)) [] known)
  equals_other other o e none = equals_row E known v other (units_of (cells_at h o)) None (some_known each h v p shapes things constants o e) (none_known each h other p shapes things constants none)

  pub equals_some : (other : Value ℕ) (o n : ℕ) → Some o ≡ text_number h v → Some n ≡ text_number h other
      → Comes {E = E} known (string known calls.Equals (other ∷ v ∷ [])) (leaves (rans.Gave (flag (bytes_eq (units_of (cells_at h o)) (units_of (cells_at h n))))) [] known)
  equals_some other o n e also =
      equals_row E known v other (units_of (cells_at h o)) (Some (units_of (cells_at h n))) (some_known each h v p shapes things constants o e) (some_known each h other p shapes things constants n also)

-- ---- concat

module _ (E : Type 0) (s : Store ℕ) (v : Value ℕ) (l : Left) where
  pub concat_null : (other : Value ℕ) → true ≡ names_nothing other → l ≡ leaves (rans.Raises (lib.Thrown thrown.NullPointerException)) [] s
      → Comes {E = E} s (string s calls.Concat (other ∷ v ∷ [])) l
  unfolding string
  concat_null (Ref zero) e is = (refl, is)
  concat_null (Ref (suc n)) e is = cc
  concat_null (Int x) e is = cc
  concat_null (Long x) e is = cc
  concat_null (Ctx k) e is = cc

  abbrev joined : Value ℕ → Option (Row ℕ E)
  joined other = option_and_then (λ us. option_map (λ more. making.text_made s (us ++ more)) (units s other)) (units s v)

  concat_is : (other : Value ℕ) → false ≡ names_nothing other → Comes {E = E} s (joined other) l → Comes {E = E} s (string s calls.Concat (other ∷ v ∷ [])) l
  unfolding string
  concat_is (Ref zero) e comes = cc
  concat_is (Ref (suc n)) e comes = comes
  concat_is (Int x) e comes = comes
  concat_is (Long x) e comes = comes
  concat_is (Ctx k) e comes = comes

module _ (E : Type 0) (each : SeesEach) (h : Heaped) (v other : Value ℕ) (p : Program) (shapes : Shapes) (things : Things) (constants : List (List ℕ × ℕ)) where
  abbrev before : Store ℕ
  before = store_by p shapes things constants h

  pub concat_stuck : false ≡ names_nothing other → None ≡ text_number h v → Comes {E = E} before (string before calls.Concat (other ∷ v ∷ [])) (leaves rans.Stuck [] before)
  concat_stuck some e = concat_is E before v (leaves rans.Stuck [] before) other some (rw (none_known each h v p shapes things constants e) refl)

  pub concat_other : (o : ℕ) → false ≡ names_nothing other → Some o ≡ text_number h v → None ≡ text_number h other
      → Comes {E = E} before (string before calls.Concat (other ∷ v ∷ [])) (leaves rans.Stuck [] before)
  concat_other o some e none =
      concat_is E before v (leaves rans.Stuck [] before) other some (rw (some_known each h v p shapes things constants o e, none_known each h other p shapes things constants none) refl)

  pub concat_made : (o n : ℕ) (us : List ℕ) (l : Left) → false ≡ names_nothing other → Some o ≡ text_number h v → Some n ≡ text_number h other
      → us ≡ units_of (cells_at h o) ++ units_of (cells_at h n) → Comes {E = E} before (Some (making.text_made before us)) l
      → Comes {E = E} before (string before calls.Concat (other ∷ v ∷ [])) l
  concat_made o n us l some e also is comes =
      concat_is E before v l other some (rw (some_known each h v p shapes things constants o e, some_known each h other p shapes things constants n also, sym is) comes)

-- where memory was there, what was made is what is given
pub concat_all : (E F : Type 0) (each : SeesEach) (h t : Heaped) (v other : Value ℕ) (r : Result Ran F) (o n : ℕ) (us one two : List ℕ) → false ≡ names_nothing other
    → Some o ≡ text_number h v → Some n ≡ text_number h other → us ≡ two → two ≡ one ++ units_of (cells_at h n) → one ≡ units_of (cells_at h o)
    → IfOk r (λ ran. (p : Program) (shapes : Shapes) (things : Things) (constants : List (List ℕ × ℕ)) →
    Comes {E = E} (store_by p shapes things constants h) (Some (making.text_made (store_by p shapes things constants h) us)) (leaves ran [] (store_by p shapes things constants t)))
    → IfOk r (λ ran. (p : Program) (shapes : Shapes) (things : Things) (constants : List (List ℕ × ℕ)) →
    Comes {E = E} (store_by p shapes things constants h) (string (store_by p shapes things constants h) calls.Concat (other ∷ v ∷ [])) (leaves ran [] (store_by p shapes things constants t)))
concat_all E F each h t v other (Err e) o n us one two some there also is more first comes = tt
concat_all E F each h t v other (Ok ran) o n us one two some there also is more first comes = λ p shapes things constants.
    concat_made E each h v other p shapes things constants o n us (leaves ran [] (store_by p shapes things constants t)) some there also
    (is ∙ more ∙ ap (λ us. us ++ units_of (cells_at h n)) first) (comes p shapes things constants)
