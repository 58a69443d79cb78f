-- Additions: entries are only put behind others, and a refusal leaves a front of what was to be put.
use Rattle.std.proofs.Common.{◌≡◌, ℕ, ◌+◌, ◌<◌, ◌≤◌, List, [], ◌∷◌, ◌++◌, length, Option, Some, None, Result, Ok, Err, refl, ap, ◌∙◌, sym, subst, arith, append_assoc, append-nil, inl, inr}
use Rattle.std.specs.Prelude.{nat_le, option_map, codes}
use Rattle.std.specs.Option.{option_or}
use Rattle.std.specs.List.{position}
use Rattle.std.proofs.lemmas.Bool.{cases_Bool, leb-false}
use Rattle.std.proofs.lemmas.List.{length-append}
use Rattle.jparts.specs.declared.jmaps.types.FullFrame.{FullFrame}
use Rattle.jparts.specs.declared.jpool.entry.Entry.{Entry}
use Rattle.jparts.specs.declared.jpool.entry.Entry.TheVariants as entries
use Rattle.jparts.specs.jpool.EntryLayouts.{laid}
use Rattle.jadder.specs.EntryInterning.{added, put_behind, same}
use Rattle.jmove.specs.declared.method.MoveError.{MoveError}
use Rattle.jmove.specs.declared.method.MoveError.TheVariants as errors
use Rattle.jmove.specs.declared.method.Expand.{Expand}
use Rattle.jmove.specs.declared.method.Expand.TheVariants as kinds
use Rattle.jmove.specs.declared.naming.Security.{Security}
use Rattle.jmove.specs.declared.naming.Security.TheVariants.{Enter, Check, Snapshot, Privileged, PrivilegedWith, PrivilegedLimited}
use Rattle.jmove.specs.declared.naming.Reference.{Reference}
use Rattle.jmove.specs.PoolAdditions.{Adding, giving, ◌>>◌, found_or, with_entry, with_text, with_class, with_member, with_security, security_name, security_type, with_changed, with_descriptor, with_reference, with_call, with_number, numbered, with_expansions, with_frames, with_body, reference_at, reference_entry, changed_text, IsFront, Refused, Adds}

-- ---- fronts

pub front_self : (pool : List Entry) → IsFront pool pool
front_self pool = record { rest = []; is = sym (append-nil pool) }

pub front_on : (a b c : List Entry) → IsFront a b → IsFront b c → IsFront a c
front_on a b c p q = record { rest = p.rest ++ q.rest; is = q.is ∙ ap (λ (l : List Entry). l ++ q.rest) p.is ∙ append_assoc a p.rest q.rest }

front_length : (a b : List Entry) → IsFront a b → length a ≤ length b
front_length a b p = omega (arith, ap (λ (l : List Entry). length l) p.is, length-append a p.rest)

-- ---- growth

-- entries stay, and others are put behind them
pub record Grows {A : Type 0} (f : Adding A) : Type 0 where
  pub on : (pool : List Entry) → IsFront pool (f pool).1

pub giving_grows : {A : Type 0} (x : A) → Grows (giving x)
giving_grows x = record { on = λ pool. front_self pool }

pub then_grows : {A B : Type 0} (f : Adding A) (g : A → Adding B) → Grows f → ((x : A) → Grows (g x)) → Grows (f >> g)
unfolding ◌>>◌
then_grows f g h k = record { on = λ pool. front_on pool (f pool).1 (g (f pool).0 (f pool).1).1 (h.on pool) ((k (f pool).0).on (f pool).1) }

found_grows : (e : Entry) (pool : List Entry) (o : Option ℕ) → IsFront pool (found_or e pool o).1
found_grows e pool (Some i) = front_self pool
found_grows e pool None = record { rest = laid e; is = refl }

pub entry_grows : (e : Entry) → Grows (with_entry e)
unfolding with_entry
entry_grows e = record { on = λ pool. found_grows e pool (position (same e) pool) }

-- ---- one addition after another

then_is : {A B : Type 0} (f : Adding A) (g : A → Adding B) (old mid : List Entry) (x : A) → f old ≡ (x, mid) → (f >> g) old ≡ g x mid
unfolding ◌>>◌
then_is {A} f g old mid x e = ap (λ (p : A × List Entry). g p.0 p.1) e

refused_more : (e : MoveError) (a b : List Entry) → IsFront a b → Refused e a → Refused e b
refused_more errors.Slots a b p r = r
refused_more errors.Locals a b p r = r
refused_more errors.Stack a b p r = r
refused_more (errors.TooLong n) a b p r = r
refused_more errors.PoolFull a b p r = omega (arith, front_length a b p)
refused_more errors.Memory a b p r = r

-- the first was refused
pub first_refused : {A B : Type 0} (f : Adding A) (g : A → Adding B) (e : MoveError) (old new : List Entry) → ((x : A) → Grows (g x)) → Refused e (f old).1 × (IsFront old new × IsFront new (f old).1)
    → Refused e ((f >> g) old).1 × (IsFront old new × IsFront new ((f >> g) old).1)
unfolding ◌>>◌
first_refused f g e old new k h =
    let more = (k (f old).0).on (f old).1 in
    (refused_more e (f old).1 (g (f old).0 (f old).1).1 more h.0, (h.1.0, front_on new (f old).1 (g (f old).0 (f old).1).1 h.1.1 more))

-- the first was put, and the second was refused
pub second_refused : {A B : Type 0} (f : Adding A) (g : A → Adding B) (e : MoveError) (old mid new : List Entry) (x : A) → Grows f → f old ≡ (x, mid) → Refused e (g x mid).1 × (IsFront mid new × IsFront new (g x mid).1)
    → Refused e ((f >> g) old).1 × (IsFront old new × IsFront new ((f >> g) old).1)
second_refused {A} {B} f g e old mid new x k is h =
    let there : IsFront old mid = subst (λ (p : A × List Entry). IsFront old p.1) is (k.on old) in
    subst (λ (p : B × List Entry). Refused e p.1 × (IsFront old new × IsFront new p.1)) (sym (then_is f g old mid x is)) (h.0, (front_on old mid new there h.1.0, h.1.1))

-- the first was put, and the second did what it did
pub then_adds : {A B X : Type 0} (view : X → B) (f : Adding A) (g : A → Adding B) (r : Result X MoveError) (old mid new : List Entry) (x : A) → Grows f → f old ≡ (x, mid) → Adds view (g x) r mid new → Adds view (f >> g) r old new
then_adds view f g (Ok y) old mid new x k is h = then_is f g old mid x is ∙ h
then_adds view f g (Err e) old mid new x k is h = second_refused f g e old mid new x k is h

-- nothing was put for want of memory
pub no_memory : {A : Type 0} (f : Adding A) (old : List Entry) → Grows f → Unit {0} × (IsFront old old × IsFront old (f old).1)
no_memory f old k = (tt, (front_self old, k.on old))

-- ---- a pool's own addition

found_is : (e : Entry) (old new : List Entry) (i : ℕ) (o : Option ℕ) → option_or (option_map (λ j. (j, old)) o) (put_behind e old) ≡ Some (i, new) → found_or e old o ≡ (i, new)
found_is e old new i (Some j) h = cc
found_is e old new i None h = elim (cases_Bool (nat_le (length old + length (laid e)) 0xffff)) [
  | inl fits ↦ let k : Some (length old, old ++ laid e) ≡ Some (i, new) = rw fits at h in cc
  | inr full ↦ let k : None ≡ Some (i, new) = rw full at h in absurd cc
]

pub put_is : (e : Entry) (old new : List Entry) (i : ℕ) → added e old ≡ Some (i, new) → with_entry e old ≡ (i, new)
unfolding added with_entry
put_is e old new i h = found_is e old new i (position (same e) old) h

found_full : (e : Entry) (old : List Entry) (o : Option ℕ) → option_or (option_map (λ j. (j, old)) o) (put_behind e old) ≡ None → 0xffff < length (found_or e old o).1
found_full e old (Some j) h = absurd cc
found_full e old None h = elim (cases_Bool (nat_le (length old + length (laid e)) 0xffff)) [
  | inl fits ↦ let k : Some (length old, old ++ laid e) ≡ None = rw fits at h in absurd cc
  | inr full ↦ omega (arith, leb-false (length old + length (laid e)) 0xffff full, length-append old (laid e))
]

pub put_full : (e : Entry) (old : List Entry) → added e old ≡ None → 0xffff < length (with_entry e old).1
unfolding added with_entry
put_full e old h = found_full e old (position (same e) old) h

-- ---- what is put grows

pub class_grows : (name : List ℕ) → Grows (with_class name)
unfolding with_class
class_grows name = then_grows (with_text name) (λ n. with_entry (entries.Class n)) (entry_grows (entries.Utf8 name)) (λ n. entry_grows (entries.Class n))

pub member_grows : (name descriptor : List ℕ) → Grows (with_member name descriptor)
unfolding with_member
member_grows name descriptor =
    then_grows (with_text name) (λ n. with_text descriptor >> λ d. with_entry (entries.NameAndType n d)) (entry_grows (entries.Utf8 name))
    (λ n. then_grows (with_text descriptor) (λ d. with_entry (entries.NameAndType n d)) (entry_grows (entries.Utf8 descriptor)) (λ d. entry_grows (entries.NameAndType n d)))

pub security_grows : (m : Security) → Grows (with_security m)
unfolding with_security
security_grows m =
    then_grows (with_class (codes "sps/Rt")) (λ c. with_member (security_name m) (security_type m) >> λ b. with_entry (entries.Method c b)) (class_grows (codes "sps/Rt"))
    (λ c. then_grows (with_member (security_name m) (security_type m)) (λ b. with_entry (entries.Method c b)) (member_grows (security_name m) (security_type m)) (λ b. entry_grows (entries.Method c b)))

pub changed_grows : (r : Reference) (text : List ℕ) → Grows (with_changed r text)
unfolding with_changed
changed_grows r text =
    then_grows (with_text text) (λ d. with_entry (entries.NameAndType r.name d) >> λ b. with_entry (reference_entry r b)) (entry_grows (entries.Utf8 text))
    (λ d. then_grows (with_entry (entries.NameAndType r.name d)) (λ b. with_entry (reference_entry r b)) (entry_grows (entries.NameAndType r.name d)) (λ b. entry_grows (reference_entry r b)))

descriptor_grows : (i : ℕ) (r : Reference) (o : Option (List ℕ)) (pool : List Entry) → IsFront pool (with_descriptor i r o pool).1
descriptor_grows i r None pool = front_self pool
descriptor_grows i r (Some text) pool = (changed_grows r text).on pool

reference_grows : (i : ℕ) (o : Option Reference) (pool : List Entry) → IsFront pool (with_reference i o pool).1
reference_grows i None pool = front_self pool
reference_grows i (Some r) pool = descriptor_grows i r (changed_text pool r) pool

pub call_grows : (i : ℕ) → Grows (with_call i)
unfolding with_call
call_grows i = record { on = λ pool. reference_grows i (reference_at pool i) pool }

pub number_grows : (k : Expand) → Grows (with_number k)
number_grows kinds.Same = giving_grows 0
number_grows (kinds.Call i) = call_grows i
number_grows (kinds.Check i) = security_grows Check
number_grows (kinds.Snapshot i) = security_grows Snapshot
number_grows (kinds.Privileged i) = security_grows Privileged
number_grows (kinds.PrivilegedWith i) = security_grows PrivilegedWith
number_grows (kinds.PrivilegedLimited i) = security_grows PrivilegedLimited

pub expansions_grow : (ks : List Expand) → Grows (with_expansions ks)
unfolding with_expansions
expansions_grow [] = giving_grows []
expansions_grow (k ∷ ks) =
    then_grows (with_number k) (λ i. with_expansions ks >> λ js. giving (numbered k i ∷ js)) (number_grows k)
    (λ i. then_grows (with_expansions ks) (λ js. giving (numbered k i ∷ js)) (expansions_grow ks) (λ js. giving_grows (numbered k i ∷ js)))

pub frames_grow : (fs : List FullFrame) → Grows (with_frames fs)
frames_grow [] = giving_grows 0
frames_grow (f ∷ fs) = class_grows (codes "sps/Ctx")

pub body_grows : (ks : List Expand) (fs : List FullFrame) → Grows (with_body ks fs)
unfolding with_body
body_grows ks fs =
    then_grows (with_security Enter) (λ enter. with_expansions ks >> λ js. with_frames fs >> λ context. giving (record { enter = enter; kinds = js; context = context })) (security_grows Enter)
    (λ enter. then_grows (with_expansions ks) (λ js. with_frames fs >> λ context. giving (record { enter = enter; kinds = js; context = context })) (expansions_grow ks)
    (λ js. then_grows (with_frames fs) (λ context. giving (record { enter = enter; kinds = js; context = context })) (frames_grow fs) (λ context. giving_grows (record { enter = enter; kinds = js; context = context }))))
