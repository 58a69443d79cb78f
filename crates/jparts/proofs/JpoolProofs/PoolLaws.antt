-- A pool is a format: its shape, and then what its entries name.
use Rattle.std.proofs.Common.{◌≡◌, ℕ, zero, suc, ◌+◌, ◌-◌, ◌≤◌, ◌<◌, Bool, true, false, List, [], ◌∷◌, ◌++◌, length, get_or, drop, Option, Some, None, Ok, Err, refl, sym, ap, subst, ◌∙◌, add-one, arith, inl, inr}
use Rattle.std.specs.Prelude.{IsTrue, IsSome, is_some, option_map, slice_get, option_and_then}
use Rattle.std.specs.Int.{w16}
use Rattle.std.specs.List.{list_all}
use Rattle.std.proofs.Math.Seq.{drop-cons}
use Rattle.std.proofs.Math.ListN.{drop_of_length-le}
use Rattle.std.proofs.lemmas.List.{drop_at, drop-drop, length-append, length-drop}
use Rattle.jground.specs.declared.jbase.fault_or_memory.FaultOrMemory.{FaultOrMemory}
use Rattle.jground.specs.declared.jbase.fault_or_memory.FaultOrMemory.TheVariants as stops
use Rattle.jground.specs.jbase.MemoryFailures.{Fails}
use Rattle.jground.specs.jbase.FirstFaults.{or_else}
use Rattle.jground.specs.declared.jformat.error.Fault.{Fault}
use Rattle.jground.specs.jformat.Format.{IsBytes, Answer, is_good, unless_fault, number_at}
use Rattle.jground.specs.jformat.FaultOffsets.{stop_at, FailsAt}
use Rattle.jground.specs.jformat.StatefulFormats.{times_from}
use Rattle.jground.proofs.JformatProofs.ReadingSteps.{IsBytes-drop, bind_ok, bind_err, done, ok_is, unless_ok, unless_err, both, first_true, second_true}
use Rattle.jground.proofs.JformatProofs.FormatLaws.{Takes, IsFormat}
use Rattle.jparts.specs.declared.jpool.entry.Entry.{Entry}
use Rattle.jparts.specs.declared.jpool.entry.Entry.TheVariants.{Class}
use Rattle.jparts.specs.declared.jpool.fault.PoolFault.{PoolFault}
use Rattle.jparts.specs.declared.jpool.fault.PoolFault.TheVariants.{Truncated}
use Rattle.jparts.specs.jpool.PoolEntries.{slot, next_slot, first_slot, shape, size, utf8_parts, class_parts}
use Rattle.jparts.specs.jpool.ConstantPools.{is_class, utf8_at, is_utf8, name_fault, entry_fault, faulty, first_fault, no_fault, pool, IsPool, Spells}
use Rattle.jparts.proofs.JpoolProofs.EntryLaws.{shape_law}

pub shape_stops : (bytes rest : List ℕ) (count n : ℕ) (stop : FaultOrMemory (Fault PoolFault)) → number_at w16 Truncated bytes ≡ Ok (count, rest) → Fails stop (times_from (λ s. (slot s).read) next_slot (first_slot count) n rest) → n ≡ count → Fails stop (shape.read bytes)
unfolding shape
shape_stops bytes rest count n stops.Memory h k same = tt
shape_stops bytes rest count n (stops.Fault d) h k same =
    let later : times_from (λ s. (slot s).read) next_slot (first_slot count) count rest ≡ Err d = ap (λ (m : ℕ). times_from (λ s. (slot s).read) next_slot (first_slot count) m rest) (sym same) ∙ k in
    rw (h, later) refl

-- ---- the first fault

none_first : {F : Type 0} (a b : Option F) → or_else a b ≡ None → (a ≡ None) × (b ≡ None)
none_first None b e = (refl, e)
none_first (Some x) b e = absurd cc

none_faulty : {K : Type 0} (left : ℕ) (o : Option K) → faulty left o ≡ None → is_good o ≡ true
none_faulty left None e = refl
none_faulty left (Some k) e = absurd cc

good_faulty : {K : Type 0} (left : ℕ) (o : Option K) → is_good o ≡ true → faulty left o ≡ None
good_faulty left None e = refl
good_faulty left (Some k) e = absurd cc

pub none_is_good : {K : Type 0} (test : Entry → Option K) (left : ℕ) (es : List Entry) → first_fault test left es ≡ None → list_all (λ e. is_good (test e)) es ≡ true
unfolding first_fault
none_is_good test left [] h = refl
none_is_good test left (e ∷ es) h =
    let p = none_first (faulty left (test e)) (first_fault test (left - size e) es) h in
    both _ _ (none_faulty left (test e) p.0) (none_is_good test (left - size e) es p.1)

pub good_is_none : {K : Type 0} (test : Entry → Option K) (left : ℕ) (es : List Entry) → list_all (λ e. is_good (test e)) es ≡ true → first_fault test left es ≡ None
unfolding first_fault
good_is_none test left [] h = refl
good_is_none test left (e ∷ es) h =
    let one : faulty left (test e) ≡ None = good_faulty left (test e) (first_true _ _ h) in
    let others : first_fault test (left - size e) es ≡ None = good_is_none test (left - size e) es (second_true (is_good (test e)) _ h) in
    rw (one, others) refl

fault_here : {K : Type 0} (left : ℕ) (o : Option K) (later : Option (Fault K)) (d : Fault K) → ((later ≡ Some d) → d.left ≤ left) → or_else (faulty left o) later ≡ Some d → d.left ≤ left
fault_here left None later d h e = h e
fault_here {K} left (Some k) later d h e = let made : Fault K = record { left = left; kind = k } in let same : made ≡ d = cc in subst (λ (y : Fault K). y.left ≤ left) same (omega arith)

first_within : {K : Type 0} (test : Entry → Option K) (left : ℕ) (es : List Entry) (d : Fault K) → first_fault test left es ≡ Some d → d.left ≤ left
unfolding first_fault
first_within test left [] d h = absurd cc
first_within test left (e ∷ es) d h = fault_here left (test e) (first_fault test (left - size e) es) d (λ k. let le = first_within test (left - size e) es d k in omega arith) h

at_entry : {K : Type 0} (test : Entry → Option K) (left i : ℕ) (e : Entry) (es : List Entry) → i < length es → e ≡ get_or es i e → first_fault test left (drop i es) ≡ or_else (faulty left (test e)) (first_fault test (left - size e) (drop (i + 1) es))
unfolding first_fault
at_entry test left i e es lt is = rw (drop-cons es i e, ← is, add-one) refl

pub fault_found : {K : Type 0} (test : Entry → Option K) (left i : ℕ) (e : Entry) (es : List Entry) (kind : K) (total : Option (Fault K)) → i < length es → e ≡ get_or es i e → Some kind ≡ test e → first_fault test left (drop i es) ≡ total → Some (record { left = left; kind = kind }) ≡ total
fault_found test left i e es kind total lt is h so_far =
    let some : test e ≡ Some kind = sym h in
    let one : first_fault test left (drop i es) ≡ Some (record { left = left; kind = kind }) = at_entry test left i e es lt is ∙ rw some refl in
    sym one ∙ so_far

pub fault_later : {K : Type 0} (test : Entry → Option K) (left more i : ℕ) (e : Entry) (es : List Entry) (total : Option (Fault K)) → i < length es → e ≡ get_or es i e → None ≡ test e → more ≡ left - size e → first_fault test left (drop i es) ≡ total → first_fault test more (drop (i + 1) es) ≡ total
fault_later test left more i e es total lt is h at so_far =
    let none : test e ≡ None = sym h in
    let one : first_fault test left (drop i es) ≡ first_fault test (left - size e) (drop (i + 1) es) = at_entry test left i e es lt is ∙ rw none refl in
    rw at (sym one ∙ so_far)

pub fault_none : {K : Type 0} (test : Entry → Option K) (left i : ℕ) (es : List Entry) (total : Option (Fault K)) → length es ≤ i → first_fault test left (drop i es) ≡ total → None ≡ total
unfolding first_fault
fault_none test left i es total le so_far =
    let one : first_fault test left (drop i es) ≡ None = rw (drop_of_length-le es le) refl in
    sym one ∙ so_far

-- ---- the pool

abbrev judged : ℕ → List Entry × List ℕ → Answer PoolFault (List Entry)
judged left x = unless_fault x (first_fault (entry_fault x.0) left x.0)

pool_takes : (bytes : List ℕ) (x : List Entry × List ℕ) → IsBytes bytes → pool.read bytes ≡ Ok x → Takes pool.spell pool.fits bytes x
unfolding pool no_fault
pool_takes bytes x fits e =
    let a = bind_ok (shape.read bytes) (judged (length bytes - 2)) x e in
    let s = shape_law.takes bytes a.0 fits a.1 in
    let u = unless_ok a.0 x (first_fault (entry_fault a.0.0) (length bytes - 2) a.0.0) a.2 in
    let good = none_is_good (entry_fault a.0.0) (length bytes - 2) a.0.0 u.0 in
    let all : Takes pool.spell pool.fits bytes a.0 = record { parts = s.parts; rest_fits = s.rest_fits; fit = both _ _ s.fit good } in
    subst (λ (y : List Entry × List ℕ). Takes pool.spell pool.fits bytes y) u.1 all

pool_again : (es : List Entry) (rest : List ℕ) → IsTrue (pool.fits es) → pool.read (pool.spell es ++ rest) ≡ Ok (es, rest)
unfolding pool no_fault
pool_again es rest fit =
    let one : shape.read (shape.spell es ++ rest) ≡ Ok (es, rest) = shape_law.again es rest (first_true (shape.fits es) (no_fault es) fit) in
    let none = good_is_none (entry_fault es) (length (shape.spell es ++ rest) - 2) es (second_true (shape.fits es) (no_fault es) fit) in
    rw (one, none) refl

pool_within : (bytes : List ℕ) (d : Fault PoolFault) → pool.read bytes ≡ Err d → d.left ≤ length bytes
unfolding pool
pool_within bytes d e =
    elim (bind_err (shape.read bytes) (judged (length bytes - 2)) d e) [
      | inl h ↦ shape_law.reading.within bytes d h
      | inr h ↦
          let le = first_within (entry_fault h.0.0) (length bytes - 2) h.0.0 d (unless_err h.0 d (first_fault (entry_fault h.0.0) (length bytes - 2) h.0.0) h.2) in
          omega arith
    ]

pool_shorter : (bytes : List ℕ) (x : List Entry × List ℕ) → pool.read bytes ≡ Ok x → length x.1 ≤ length bytes
unfolding pool
pool_shorter bytes x e =
    let a = bind_ok (shape.read bytes) (judged (length bytes - 2)) x e in
    let u = unless_ok a.0 x (first_fault (entry_fault a.0.0) (length bytes - 2) a.0.0) a.2 in
    subst (λ (y : List Entry × List ℕ). length y.1 ≤ length bytes) u.1 (shape_law.reading.shorter bytes a.0 a.1)

pub pool_law : IsFormat pool
pool_law = record { takes = pool_takes; again = pool_again; reading = record { within = pool_within; shorter = pool_shorter } }

-- ---- what a pool keeps

pub at_index : {A : Type 0} (p : A → Bool) (xs : List A) (i : ℕ) (x : A) → list_all p xs ≡ true → slice_get xs i ≡ Some x → p x ≡ true
at_index p [] i x h at = absurd cc
at_index {A} p (y ∷ ys) zero x h at = let same : y ≡ x = cc in subst (λ (z : A). p z ≡ true) same (first_true (p y) (list_all p ys) h)
at_index p (y ∷ ys) (suc i) x h at = at_index p ys i x (second_true (p y) (list_all p ys) h) at

named_good : (o : Option (List ℕ)) → is_good (name_fault o) ≡ true → is_some o ≡ true
named_good None h = absurd cc
named_good (Some text) h = refl

class_named : (es : List Entry) (name : ℕ) → is_good (entry_fault es (Class name)) ≡ true → IsTrue (is_utf8 es name)
unfolding entry_fault utf8_at is_utf8
class_named es name h = named_good (option_and_then utf8_parts (slice_get es name)) h

no_fault_named : (es : List Entry) → no_fault es ≡ true → (i name : ℕ) → slice_get es i ≡ Some (Class name) → IsTrue (is_utf8 es name)
unfolding no_fault
no_fault_named es h i name at = class_named es name (at_index (λ e. is_good (entry_fault es e)) es i (Class name) h at)

pub read_is_pool : (bytes : List ℕ) (es : List Entry) (rest : List ℕ) (left : ℕ) → IsBytes bytes → shape.read bytes ≡ Ok (es, rest) → first_fault (entry_fault es) left es ≡ None → IsPool es
unfolding no_fault
read_is_pool bytes es rest left fits e h = record {
  laid = (shape_law.takes bytes (es, rest) fits e).fit;
  named = no_fault_named es (none_is_good (entry_fault es) left es h);
}

-- ---- look-ups

name_of_class : (o : Option Entry) (name : ℕ) → Some name ≡ option_and_then class_parts o → o ≡ Some (Class name)
name_of_class None name h = absurd cc
name_of_class (Some (Class n)) name h = let same : n ≡ name = cc in ap (λ (m : ℕ). Some (Class m)) same
name_of_class (Some _) name h = absurd cc

pub no_class : (es : List Entry) (i : ℕ) → None ≡ option_and_then class_parts (slice_get es i) → IsTrue (is_class es i) → ⊥
unfolding is_class
no_class es i h k =
    let none : option_and_then class_parts (slice_get es i) ≡ None = sym h in
    let no : false ≡ true = rw none at k in absurd cc

some_from : {A B : Type 0} (f : A → B) (r : Option A) (o : Option B) → option_map f r ≡ o → IsTrue (is_some o) → IsSome r
some_from f (Some x) o h k = refl
some_from f None None h k = absurd cc
some_from f None (Some y) h k = absurd cc

pub class_has_name : {A : Type 0} (es : List Entry) (i name : ℕ) (f : A → List ℕ) (r : Option A) → IsPool es → Some name ≡ option_and_then class_parts (slice_get es i) → option_map f r ≡ utf8_at es name → IsSome r
unfolding utf8_at is_utf8
class_has_name es i name f r P h k = some_from f r (utf8_at es name) k (P.named i name (name_of_class (slice_get es i) name h))

-- ---- at a place

pool_some : (es : List Entry) → 0 < length (pool.spell es)
unfolding pool shape
pool_some es = omega arith

-- a pool that was read at a place, and the place behind it
pub record Found (bytes : List ℕ) (at : ℕ) (es : List Entry) (behind : ℕ) : Type 0 where
  pub spelled : Spells (drop at bytes) es (drop behind bytes)
  pub place : behind ≡ at + length (pool.spell es)
  pub read : pool.read (drop at bytes) ≡ Ok (es, drop behind bytes)

pub found_at : (bytes : List ℕ) (at : ℕ) (es : List Entry) (rest : List ℕ) → IsBytes bytes → pool.read (drop at bytes) ≡ Ok (es, rest) → Found bytes at es (length bytes - length rest)
found_at bytes at es rest fits e =
    let t = pool_law.takes (drop at bytes) (es, rest) (IsBytes-drop at bytes fits) e in
    let some = pool_some es in
    let place : length bytes - length rest ≡ at + length (pool.spell es) = omega (arith, ap length t.parts, length-append (pool.spell es) rest, length-drop at bytes, some) in
    let same : drop (length bytes - length rest) bytes ≡ rest =
    ap (λ (k : ℕ). drop k bytes) place ∙ sym (drop-drop (length (pool.spell es)) at bytes) ∙ ap (drop (length (pool.spell es))) t.parts ∙ drop_at (pool.spell es) rest (length (pool.spell es)) refl in
    record {
      spelled = (t.fit, t.parts ∙ ap (λ (y : List ℕ). pool.spell es ++ y) (sym same));
      place = place;
      read = e ∙ ap (λ (y : List ℕ). Ok (es, y)) (sym same);
    }

pub shorter_at : (bytes : List ℕ) (at : ℕ) (x : List Entry × List ℕ) → pool.read (drop at bytes) ≡ Ok x → length x.1 ≤ length bytes
shorter_at bytes at x e = omega (arith, pool_law.reading.shorter (drop at bytes) x e, length-drop at bytes)

pub within_at : (bytes : List ℕ) (at : ℕ) (d : Fault PoolFault) → pool.read (drop at bytes) ≡ Err d → d.left ≤ length bytes
within_at bytes at d e = omega (arith, pool_law.reading.within (drop at bytes) d e, length-drop at bytes)

-- what is spelled at the front is what is read
pub read_is : (bytes : List ℕ) (es : List Entry) (rest : List ℕ) → Spells bytes es rest → pool.read bytes ≡ Ok (es, rest)
read_is bytes es rest s = ap pool.read s.1 ∙ pool_law.again es rest s.0

pub one_reading : (bytes rest others : List ℕ) (es fs : List Entry) → pool.read bytes ≡ Ok (es, rest) → Spells bytes fs others → es ≡ fs
one_reading bytes rest others es fs e s = ap (λ (x : List Entry × List ℕ). x.0) (ok_is (Fault PoolFault) (es, rest) (fs, others) (sym e ∙ read_is bytes fs others s))

pub spelled : (bytes rest : List ℕ) (es : List Entry) → IsBytes bytes → pool.read bytes ≡ Ok (es, rest) → Spells bytes es rest
spelled bytes rest es fits e = let t = pool_law.takes bytes (es, rest) fits e in (t.fit, t.parts)

-- where a pool is spelled, a reader stops for want of memory alone
pub stopped : {A : Type 0} (bytes : List ℕ) (at : ℕ) (stop : FaultOrMemory (Fault PoolFault)) (es : List Entry) (rest : List ℕ) (x : A) → Fails stop (pool.read (drop at bytes)) → Spells (drop at bytes) es rest → FailsAt bytes (stop_at bytes stop) (done (Fault PoolFault) x)
stopped bytes at stops.Memory es rest x h s = tt
stopped bytes at (stops.Fault d) es rest x h s = let no = sym (read_is (drop at bytes) es rest s) ∙ h in absurd cc
