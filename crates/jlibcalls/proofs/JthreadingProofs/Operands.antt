-- What a constructor is given.
use Rattle.std.proofs.Common.{◌≡◌, ◌∙◌, ℕ, zero, suc, ◌+◌, ◌≤◌, ◌<◌, List, [], ◌∷◌, ◌++◌, length, take, Option, Some, None, refl, sym, ap, ap₂, arith}
use Rattle.std.specs.Prelude.{slice_get}
use Rattle.jmemory.specs.jheap.Heaps.{Heaped}
use Rattle.jlib.specs.declared.side.Side.TheVariants.{Passing, Source}
use Rattle.jvalues.specs.declared.jops.value.Value.{Value}
use Rattle.jvalues.specs.declared.jops.value.Value.TheVariants.{Ref, Ctx}
use Rattle.jsemantics.specs.jmachine.Security.{handed}
use Rattle.jruntime.specs.jstate.FrameLists.{Framed}
use Rattle.jlibcalls.specs.declared.jthreading.making.Begun.{Begun}
use Rattle.jlibcalls.specs.jthreading.ThreadConstructors.{IsBegun, IsGiven, IsHanded, IsNotGiven, begun_values}
use Rattle.jlibcalls.proofs.JthreadingProofs.ThreadOutcomes.{taken_many}

-- ---- operands

-- an operand is among those that are taken
get_taken : {A : Type 0} (n : ℕ) (xs : List A) (i : ℕ) → i < n → slice_get (take n xs) i ≡ slice_get xs i
get_taken zero xs i lt = absurd (omega (arith, lt))
get_taken (suc n) [] i lt = refl
get_taken (suc n) (x ∷ xs) zero lt = refl
get_taken (suc n) (x ∷ xs) (suc i) lt = get_taken n xs i (omega (arith, lt))

two_taken : (values : List (Value ℕ)) (v w : Value ℕ) → slice_get values 0 ≡ Some v → slice_get values 1 ≡ Some w → take 2 values ≡ v ∷ w ∷ []
two_taken [] v w a b = absurd cc
two_taken (x ∷ []) v w a b = absurd cc
two_taken (x ∷ y ∷ values) v w a b = let d : x ≡ v = cc in let e : y ≡ w = cc in ap₂ (λ s t. s ∷ t ∷ []) d e

three_taken : (values : List (Value ℕ)) (u v w : Value ℕ) → slice_get values 0 ≡ Some u → slice_get values 1 ≡ Some v → slice_get values 2 ≡ Some w → take 3 values ≡ u ∷ v ∷ w ∷ []
three_taken [] u v w a b c = absurd cc
three_taken (x ∷ values) u v w a b c = let e : x ≡ u = cc in ap₂ (λ s t. s ∷ t) e (two_taken values v w b c)

module _ {E : Type 0} (f : Framed E) (h : Heaped) where
  abbrev ops : List (Value ℕ)
  ops = f.newest.operands

  -- ---- without a context

  pub given_alone : (count : ℕ) (b : Begun) → count ≡ 2 → IsBegun 0 f h b → IsGiven Source (take count ops) h (record { begun = b; context = None })
  given_alone count b two is =
      record {
        context = tt;
        values = ap (λ n. take n ops) two ∙ two_taken ops (Ref b.runnable) (Ref b.thread) is.runnable is.named;
        thread = is.thread;
      }

  pub alone_few : (count : ℕ) → count ≤ length ops → (count ≡ 2 → ⊥) → IsNotGiven Source (take count ops) h
  alone_few count le other x is = by x.context is.context is.values
    where
      by : (context : Option ℕ) → IsHanded Source context → take count ops ≡ handed Source context ++ begun_values x.begun → ⊥
      by None context e = other (sym (taken_many count ops le) ∙ ap length e)
      by (Some k) context e = absurd context

  pub alone_nobody : (count : ℕ) → count ≡ 2 → ((b : Begun) → IsBegun 0 f h b → ⊥) → IsNotGiven Source (take count ops) h
  alone_nobody count two none x is = by x.context is.context (ap (λ n. take n ops) (sym two) ∙ is.values)
    where
      by : (context : Option ℕ) → IsHanded Source context → take 2 ops ≡ handed Source context ++ begun_values x.begun → ⊥
      by None context e =
          none x.begun (record {
            runnable = sym (get_taken 2 ops 0 (omega arith)) ∙ ap (λ vs. slice_get vs 0) e;
            named = sym (get_taken 2 ops 1 (omega arith)) ∙ ap (λ vs. slice_get vs 1) e;
            thread = is.thread;
          })
      by (Some k) context e = absurd context

  -- ---- with one

  pub given_within : (count k : ℕ) (b : Begun) → count ≡ 3 → slice_get ops 0 ≡ Some (Ctx k) → IsBegun 1 f h b
      → IsGiven Passing (take count ops) h (record { begun = b; context = Some k })
  given_within count k b three context is =
      record {
        context = tt;
        values = ap (λ n. take n ops) three ∙ three_taken ops (Ctx k) (Ref b.runnable) (Ref b.thread) context is.runnable is.named;
        thread = is.thread;
      }

  pub within_few : (count : ℕ) → count ≤ length ops → (count ≡ 3 → ⊥) → IsNotGiven Passing (take count ops) h
  within_few count le other x is = by x.context is.context is.values
    where
      by : (context : Option ℕ) → IsHanded Passing context → take count ops ≡ handed Passing context ++ begun_values x.begun → ⊥
      by None context e = absurd context
      by (Some k) context e = other (sym (taken_many count ops le) ∙ ap length e)

  -- what stands in front is no context
  pub within_other : (count : ℕ) (v : Value ℕ) → count ≡ 3 → slice_get ops 0 ≡ Some v → ((k : ℕ) → v ≡ Ctx k → ⊥) → IsNotGiven Passing (take count ops) h
  within_other count v three at other x is = by x.context is.context (ap (λ n. take n ops) (sym three) ∙ is.values)
    where
      by : (context : Option ℕ) → IsHanded Passing context → take 3 ops ≡ handed Passing context ++ begun_values x.begun → ⊥
      by None context e = absurd context
      by (Some k) context e =
          let same : Some v ≡ Some (Ctx k) = sym at ∙ sym (get_taken 3 ops 0 (omega arith)) ∙ ap (λ vs. slice_get vs 0) e in
          other k cc

  pub within_nobody : (count : ℕ) → count ≡ 3 → ((b : Begun) → IsBegun 1 f h b → ⊥) → IsNotGiven Passing (take count ops) h
  within_nobody count three none x is = by x.context is.context (ap (λ n. take n ops) (sym three) ∙ is.values)
    where
      by : (context : Option ℕ) → IsHanded Passing context → take 3 ops ≡ handed Passing context ++ begun_values x.begun → ⊥
      by None context e = absurd context
      by (Some k) context e =
          none x.begun (record {
            runnable = sym (get_taken 3 ops 1 (omega arith)) ∙ ap (λ vs. slice_get vs 1) e;
            named = sym (get_taken 3 ops 2 (omega arith)) ∙ ap (λ vs. slice_get vs 2) e;
            thread = is.thread;
          })
