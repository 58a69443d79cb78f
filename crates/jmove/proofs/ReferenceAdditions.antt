-- The references of expansions, each put in its turn; and what single additions come to.
use Rattle.std.proofs.Common.{◌≡◌, ℕ, ◌+◌, ◌<◌, ◌≤◌, List, [], ◌∷◌, ◌++◌, length, get_or, drop, Some, None, Result, Ok, Err, refl, ap, ◌∙◌, sym, subst, append_assoc, append-nil, inl, inr}
use Rattle.std.specs.Prelude.{IsTrue, IfOk, slice_get, ◌⊎◌}
use Rattle.std.proofs.lemmas.List.{drop_more, drop_all}
use Rattle.jparts.specs.declared.jpool.entry.Entry.{Entry}
use Rattle.jparts.specs.declared.jpool.entry.Entry.TheVariants as entries
use Rattle.jadder.specs.declared.adder.AddError.TheVariants as add
use Rattle.jadder.specs.EntryInterning.{added}
use Rattle.jparts.specs.jpool.ConstantPools.{is_utf8}
use Rattle.jmove.specs.declared.method.Expand.{Expand}
use Rattle.jmove.specs.declared.method.MoveError.{MoveError}
use Rattle.jmove.specs.declared.naming.Reference.{Reference}
use Rattle.jmove.specs.PoolAdditions.{Adding, giving, ◌>>◌, with_entry, with_call, with_changed, with_number, numbered, with_expansions, reference_at, changed_text, IsFront, Refused, Adds}
use Rattle.jmove.proofs.PoolGrowth.{front_on, put_full, no_memory, entry_grows, number_grows, expansions_grow, giving_grows, then_grows, first_refused}

-- ---- one entry

pub full_adds : (e : Entry) (old new : List Entry) → (add.PoolFull ≡ add.Memory) ⊎ (added e old ≡ None) → new ≡ old → 0xffff < length (with_entry e old).1 × (IsFront old new × IsFront new (with_entry e old).1)
full_adds e old new (inl other) same = absurd cc
full_adds e old new (inr none) same = (put_full e old none, subst (λ (p : List Entry). IsFront old p × IsFront p (with_entry e old).1) (sym same) ((no_memory (with_entry e) old (entry_grows e)).1))

pub memory_adds : (e : Entry) (old new : List Entry) → new ≡ old → Unit {0} × (IsFront old new × IsFront new (with_entry e old).1)
memory_adds e old new same = subst (λ (p : List Entry). Unit {0} × (IsFront old p × IsFront p (with_entry e old).1)) (sym same) (no_memory (with_entry e) old (entry_grows e))

text_is : (pool : List Entry) (i : ℕ) (text : List ℕ) → slice_get pool i ≡ Some (entries.Utf8 text) → IsTrue (is_utf8 pool i)
unfolding is_utf8
text_is pool i text e = rw e refl

pub text_there : {E : Type 0} (r : Result ℕ E) (pool : List Entry) (e : Entry) (text : List ℕ) → e ≡ entries.Utf8 text → IfOk r (λ i. slice_get pool i ≡ Some e) → IfOk r (λ i. IsTrue (is_utf8 pool i))
text_there (Ok i) pool e text is h = text_is pool i text (h ∙ ap (λ (x : Entry). Some x) is)
text_there (Err x) pool e text is h = tt

-- ---- a call

pub same_adds : {A X : Type 0} (view : X → A) (f g : Adding A) (r : Result X MoveError) (old new : List Entry) → f old ≡ g old → Adds view g r old new → Adds view f r old new
same_adds view f g (Ok x) old new e h = e ∙ h
same_adds {A} view f g (Err x) old new e h = subst (λ (p : A × List Entry). Refused x p.1 × (IsFront old new × IsFront new p.1)) (sym e) h

pub call_none : (i : ℕ) (pool : List Entry) → reference_at pool i ≡ None → with_call i pool ≡ (i, pool)
unfolding with_call
call_none i pool e = rw e refl

pub call_no_text : (i : ℕ) (pool : List Entry) (r : Reference) → reference_at pool i ≡ Some r → changed_text pool r ≡ None → with_call i pool ≡ (i, pool)
unfolding with_call
call_no_text i pool r e h = rw (e, h) refl

pub call_is : (i : ℕ) (pool : List Entry) (r : Reference) (text : List ℕ) → reference_at pool i ≡ Some r → changed_text pool r ≡ Some text → with_call i pool ≡ with_changed r text pool
unfolding with_call
call_is i pool r text e h = rw (e, h) refl

-- ---- expansions

-- the expansions that are done, in front of others
abbrev pub with_done : List Expand → List Expand × List Entry → List Expand × List Entry
with_done done x = (done ++ x.0, x.1)

exp_step : (k : Expand) (ks : List Expand) (pool mid : List Entry) (n : ℕ) → with_number k pool ≡ (n, mid) → with_expansions (k ∷ ks) pool ≡ with_done (numbered k n ∷ []) (with_expansions ks mid)
unfolding with_expansions ◌>>◌
exp_step k ks pool mid n is = ap (λ (x : ℕ × List Entry). (numbered k x.0 ∷ (with_expansions ks x.1).0, (with_expansions ks x.1).1)) is

done_on : (done more : List Expand) (x : List Expand × List Entry) → with_done done (with_done more x) ≡ with_done (done ++ more) x
done_on done more x = ap (λ (l : List Expand). (l, x.1)) (sym (append_assoc done more x.0))

pub next_turn : (ks done : List Expand) (i : ℕ) (d : Expand) (pool mid : List Entry) (n : ℕ) (total : List Expand × List Entry) → i < length ks → with_number (get_or ks i d) pool ≡ (n, mid)
    → with_done done (with_expansions (drop i ks) pool) ≡ total → with_done (done ++ numbered (get_or ks i d) n ∷ []) (with_expansions (drop (i + 1) ks) mid) ≡ total
next_turn ks done i d pool mid n total lt is so_far =
    sym (done_on done (numbered (get_or ks i d) n ∷ []) (with_expansions (drop (i + 1) ks) mid))
    ∙ ap (with_done done) (sym (exp_step (get_or ks i d) (drop (i + 1) ks) pool mid n is))
    ∙ ap (λ (l : List Expand). with_done done (with_expansions l pool)) (sym (drop_more ks i d lt))
    ∙ so_far

last_turn : (pool : List Entry) → with_expansions [] pool ≡ ([], pool)
unfolding with_expansions
last_turn pool = refl

pub all_turned : (ks done : List Expand) (i : ℕ) (pool : List Entry) (total : List Expand × List Entry) → length ks ≤ i → with_done done (with_expansions (drop i ks) pool) ≡ total → total ≡ (done, pool)
all_turned ks done i pool total h so_far =
    sym so_far ∙ ap (λ (l : List Expand). with_done done (with_expansions l pool)) (drop_all i ks h) ∙ ap (with_done done) (last_turn pool) ∙ ap (λ (l : List Expand). (l, pool)) (append-nil done)

refused_here : (k : Expand) (ks : List Expand) (e : MoveError) (pool new : List Entry) → Refused e (with_number k pool).1 × (IsFront pool new × IsFront new (with_number k pool).1)
    → Refused e (with_expansions (k ∷ ks) pool).1 × (IsFront pool new × IsFront new (with_expansions (k ∷ ks) pool).1)
unfolding with_expansions
refused_here k ks e pool new h =
    first_refused (with_number k) (λ i. with_expansions ks >> λ js. giving (numbered k i ∷ js)) e pool new
    (λ i. then_grows (with_expansions ks) (λ js. giving (numbered k i ∷ js)) (expansions_grow ks) (λ js. giving_grows (numbered k i ∷ js))) h

pub turn_refused : (ks done : List Expand) (i : ℕ) (d : Expand) (e : MoveError) (old pool new : List Entry) (total : List Expand × List Entry) → i < length ks → IsFront old pool
    → Refused e (with_number (get_or ks i d) pool).1 × (IsFront pool new × IsFront new (with_number (get_or ks i d) pool).1)
    → with_done done (with_expansions (drop i ks) pool) ≡ total → Refused e total.1 × (IsFront old new × IsFront new total.1)
turn_refused ks done i d e old pool new total lt grown h so_far =
    let there : (with_expansions (get_or ks i d ∷ drop (i + 1) ks) pool).1 ≡ total.1 =
    ap (λ (l : List Expand). (with_expansions l pool).1) (sym (drop_more ks i d lt)) ∙ ap (λ (x : List Expand × List Entry). x.1) so_far in
    let r = refused_here (get_or ks i d) (drop (i + 1) ks) e pool new h in
    subst (λ (whole : List Entry). Refused e whole × (IsFront old new × IsFront new whole)) there (r.0, (front_on old pool new grown r.1.0, r.1.1))

-- the pool so far, where no memory is left
pub turn_stops : (ks done : List Expand) (i : ℕ) (old pool : List Entry) (total : List Expand × List Entry) → IsFront old pool → with_done done (with_expansions (drop i ks) pool) ≡ total
    → Unit {0} × (IsFront old pool × IsFront pool total.1)
turn_stops ks done i old pool total grown so_far =
    let there : (with_expansions (drop i ks) pool).1 ≡ total.1 = ap (λ (x : List Expand × List Entry). x.1) so_far in
    (tt, (grown, subst (λ (whole : List Entry). IsFront pool whole) there ((expansions_grow (drop i ks)).on pool)))

pub grown_on : (k : Expand) (old pool mid : List Entry) (n : ℕ) → IsFront old pool → with_number k pool ≡ (n, mid) → IsFront old mid
grown_on k old pool mid n h is = front_on old pool mid h (subst (λ (x : ℕ × List Entry). IsFront pool x.1) is ((number_grows k).on pool))
