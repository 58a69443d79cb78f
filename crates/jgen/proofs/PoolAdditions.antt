-- What a call puts into a pool is what the definition puts, and no more entries than are said.
use Rattle.std.proofs.Common.{◌≡◌, ℕ, ◌+◌, ◌≤◌, List, [], ◌∷◌, ◌++◌, length, Option, Some, None, Result, Ok, Err, refl, sym, ap, subst, ◌∙◌, arith, inl, inr}
use Rattle.std.specs.Prelude.{IsTrue, IfOk, OnOk, nat_le, option_map, slice_get, ◌⊎◌}
use Rattle.std.specs.Int.{w16, to_be_bytes}
use Rattle.std.specs.Option.{option_or}
use Rattle.std.specs.List.{position}
use Rattle.std.proofs.lemmas.Bool.{cases_Bool, leb-false}
use Rattle.std.proofs.lemmas.List.{length-append}
use Rattle.std.proofs.lemmas.Option.{slice_get_within}
use Rattle.jparts.specs.declared.jpool.entry.Entry.{Entry}
use Rattle.jparts.specs.declared.jpool.entry.Entry.TheVariants as entries
use Rattle.jadder.specs.declared.adder.AddError.TheVariants as add
use Rattle.jparts.specs.jpool.EntryLayouts.{laid}
use Rattle.jadder.specs.EntryInterning.{added, put_behind, same}
use Rattle.jparts.specs.jpool.ConstantPools.{is_utf8}
use Rattle.jgen.specs.declared.laying.Draft.{Draft}
use Rattle.jmove.specs.PoolAdditions.{Adding, found_or, with_entry, ◌>>◌}
use Rattle.jgen.specs.ClassFileItems.{with_bytes, with_index, with_small, IsPut, Puts}

-- ---- one entry

found_is : (e : Entry) (old new : List Entry) (i : ℕ) (o : Option ℕ) → option_or (option_map (λ j. (j, old)) o) (put_behind e old) ≡ Some (i, new) → found_or e old o ≡ (i, new)
found_is e old new i (Some j) h = cc
found_is e old new i None h = elim (cases_Bool (nat_le (length old + length (laid e)) 0xffff)) [
  | inl fits ↦ let k : Some (length old, old ++ laid e) ≡ Some (i, new) = rw fits at h in cc
  | inr full ↦ let k : None ≡ Some (i, new) = rw full at h in absurd cc
]

value_is : (e : Entry) (old new : List Entry) (i : ℕ) → added e old ≡ Some (i, new) → with_entry e old ≡ (i, new)
unfolding added with_entry
value_is e old new i h = found_is e old new i (position (same e) old) h

found_few : (e : Entry) (old : List Entry) (o : Option ℕ) → length (laid e) ≡ 1 → length (found_or e old o).1 ≤ length old + 1
found_few e old (Some j) one = omega arith
found_few e old None one = omega (arith, length-append old (laid e), one)

entry_few : (e : Entry) (old : List Entry) → length (laid e) ≡ 1 → length (with_entry e old).1 ≤ length old + 1
unfolding with_entry
entry_few e old one = found_few e old (position (same e) old) one

pub entry_put : (e : Entry) (old new : List Entry) (i : ℕ) → length (laid e) ≡ 1 → added e old ≡ Some (i, new) → slice_get new i ≡ Some e → IsPut 1 (with_entry e) i old new
entry_put e old new i one h there =
    let value = value_is e old new i h in
    record {
      value = value;
      few = subst (λ (l : List Entry). length l ≤ length old + 1) (ap (λ (p : ℕ × List Entry). p.1) value) (entry_few e old one);
      within = slice_get_within new i e there;
    }

none_full : (e : Entry) (old : List Entry) (o : Option ℕ) → length (laid e) ≡ 1 → length old + 1 ≤ 0xffff → option_or (option_map (λ j. (j, old)) o) (put_behind e old) ≡ None → ⊥
none_full e old (Some j) one room h = absurd cc
none_full e old None one room h = elim (cases_Bool (nat_le (length old + length (laid e)) 0xffff)) [
  | inl fits ↦ let k : Some (length old, old ++ laid e) ≡ None = rw fits at h in absurd cc
  | inr full ↦ omega (arith, leb-false (length old + length (laid e)) 0xffff full, one)
]

-- a pool with room isn't full
pub not_full : (e : Entry) (old : List Entry) → length (laid e) ≡ 1 → length old + 1 ≤ 0xffff → (add.PoolFull ≡ add.Memory) ⊎ (added e old ≡ None) → ⊥
unfolding added
not_full e old one room (inl other) = absurd cc
not_full e old one room (inr none) = none_full e old (position (same e) old) one room none

text_is : (pool : List Entry) (i : ℕ) (text : List ℕ) → slice_get pool i ≡ Some (entries.Utf8 text) → IsTrue (is_utf8 pool i)
unfolding is_utf8
text_is pool i text e = rw e refl

pub text_there : {E : Type 0} (r : Result ℕ E) (pool : List Entry) (e : Entry) (text : List ℕ) → e ≡ entries.Utf8 text → IfOk r (λ i. slice_get pool i ≡ Some e) → IfOk r (λ i. IsTrue (is_utf8 pool i))
text_there (Ok i) pool e text is h = text_is pool i text (h ∙ ap (λ (x : Entry). Some x) is)
text_there (Err x) pool e text is h = tt

-- ---- one after another

then_put : (m n : ℕ) (f : Adding ℕ) (g : ℕ → Adding ℕ) (old mid new : List Entry) (x i : ℕ) → IsPut m f x old mid → IsPut n (g x) i mid new → IsPut (m + n) (f >> g) i old new
unfolding ◌>>◌
then_put m n f g old mid new x i p q = record {
  value = ap (λ (a : ℕ × List Entry). g a.0 a.1) p.value ∙ q.value;
  few = omega (arith, p.few, q.few);
  within = q.within;
}

pub then_puts : {E : Type 0} (m n : ℕ) (f : Adding ℕ) (g : ℕ → Adding ℕ) (r : Result ℕ E) (old mid new : List Entry) (x : ℕ) → IsPut m f x old mid → Puts n (g x) r mid new → Puts (m + n) (f >> g) r old new
then_puts m n f g (Ok i) old mid new x p q = then_put m n f g old mid new x i p q
then_puts m n f g (Err e) old mid new x p q = tt

-- ---- indices

abbrev pub draft : List Entry → List ℕ → Draft
draft pool body = record { pool = pool; body = body }

pub index_put : {T E : Type 0} (most : ℕ) (f : Adding ℕ) (i : ℕ) (d : Draft) (pool : List Entry) (body : List ℕ) (r : Result T E) → IsPut most f i d.pool pool → OnOk r (body ≡ d.body ++ to_be_bytes w16 i)
    → OnOk r (draft pool body ≡ with_index (f d.pool) d)
index_put most f i d pool body (Ok x) p h = ap (λ (l : List ℕ). draft pool l) h ∙ ap (λ (a : ℕ × List Entry). with_index a d) (sym p.value)
index_put most f i d pool body (Err x) p h = tt

pub small_put : {T E : Type 0} (most : ℕ) (f : Adding ℕ) (i : ℕ) (d : Draft) (pool : List Entry) (body : List ℕ) (r : Result T E) → IsPut most f i d.pool pool → OnOk r (body ≡ d.body ++ i ∷ [])
    → OnOk r (draft pool body ≡ with_small (f d.pool) d)
small_put most f i d pool body (Ok x) p h = ap (λ (l : List ℕ). draft pool l) h ∙ ap (λ (a : ℕ × List Entry). with_small a d) (sym p.value)
small_put most f i d pool body (Err x) p h = tt

pub bytes_put : {T E : Type 0} (d : Draft) (body bytes : List ℕ) (r : Result T E) → OnOk r (body ≡ d.body ++ bytes) → OnOk r (draft d.pool body ≡ with_bytes bytes d)
bytes_put d body bytes (Ok x) h = ap (λ (l : List ℕ). draft d.pool l) h
bytes_put d body bytes (Err x) h = tt
