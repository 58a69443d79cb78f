-- What is put item by item, each in its turn; and that a refusal of one addition is one of all.
use Rattle.std.proofs.Common.{◌≡◌, ℕ, ◌+◌, ◌<◌, ◌≤◌, List, [], ◌∷◌, ◌++◌, length, get_or, drop, Result, Ok, Err, refl, ap, ◌∙◌, sym, subst, append_assoc, append-nil, arith}
use Rattle.std.proofs.lemmas.List.{drop_more, drop_all, length-append}
use Rattle.jparts.specs.declared.jpool.entry.Entry.{Entry}
use Rattle.jmove.specs.declared.method.MoveError.{MoveError}
use Rattle.jmove.specs.declared.method.MoveError.TheVariants as errors
use Rattle.jmove.specs.PoolAdditions.{Adding, giving, ◌>>◌, IsFront, Refused}
use Rattle.jmove.proofs.PoolGrowth.{Grows, giving_grows, then_grows}
use Rattle.jmoveclass.specs.PoolPuts.{Puts, with_each}

-- ---- refusals

front_length : (a b : List Entry) → IsFront a b → length a ≤ length b
front_length a b p = omega (arith, ap (λ (l : List Entry). length l) p.is, length-append a p.rest)

refused_more : (e : MoveError) (a b : List Entry) → IsFront a b → Refused e a → Refused e b
refused_more errors.Slots a b p r = r
refused_more errors.Locals a b p r = r
refused_more errors.Stack a b p r = r
refused_more (errors.TooLong n) a b p r = r
refused_more errors.PoolFull a b p r = omega (arith, front_length a b p)
refused_more errors.Memory a b p r = r

-- the first was refused
pub first_refused : {A B : Type 0} (f : Adding A) (g : A → Adding B) (e : MoveError) (old : List Entry) → ((x : A) → Grows (g x)) → Refused e (f old).1 → Refused e ((f >> g) old).1
unfolding ◌>>◌
first_refused f g e old k h = refused_more e (f old).1 (g (f old).0 (f old).1).1 ((k (f old).0).on (f old).1) h

pub then_is : {A B : Type 0} (f : Adding A) (g : A → Adding B) (old mid : List Entry) (x : A) → f old ≡ (x, mid) → (f >> g) old ≡ g x mid
unfolding ◌>>◌
then_is {A} f g old mid x e = ap (λ (p : A × List Entry). g p.0 p.1) e

-- the first was put, and the second did what it did
pub then_puts : {A B X : Type 0} (view : X → B) (f : Adding A) (g : A → Adding B) (r : Result X MoveError) (old mid new : List Entry) (x : A) → f old ≡ (x, mid) → Puts view (g x) r mid new → Puts view (f >> g) r old new
then_puts view f g (Ok y) old mid new x is h = then_is f g old mid x is ∙ h
then_puts {A} {B} view f g (Err e) old mid new x is h = subst (λ (p : B × List Entry). Refused e p.1) (sym (then_is f g old mid x is)) h

-- the same addition by another name
pub same_puts : {A X : Type 0} (view : X → A) (f g : Adding A) (r : Result X MoveError) (old new : List Entry) → f old ≡ g old → Puts view g r old new → Puts view f r old new
same_puts view f g (Ok x) old new e h = e ∙ h
same_puts {A} view f g (Err x) old new e h = subst (λ (p : A × List Entry). Refused x p.1) (sym e) h

-- ---- item by item

-- what is done, in front of the rest
abbrev pub with_done : {A : Type 0} → List A → List A × List Entry → List A × List Entry
with_done done x = (done ++ x.0, x.1)

pub each_grows : {T A : Type 0} (f : T → Adding (List A)) → ((t : T) → Grows (f t)) → (ts : List T) → Grows (with_each f ts)
unfolding with_each
each_grows f k [] = giving_grows []
each_grows f k (t ∷ ts) = then_grows (f t) (λ some. with_each f ts >> λ others. giving (some ++ others)) (k t) (λ some. then_grows (with_each f ts) (λ others. giving (some ++ others)) (each_grows f k ts) (λ others. giving_grows (some ++ others)))

step : {T A : Type 0} (f : T → Adding (List A)) (t : T) (ts : List T) (pool mid : List Entry) (some : List A) → f t pool ≡ (some, mid) → with_each f (t ∷ ts) pool ≡ with_done some (with_each f ts mid)
unfolding with_each ◌>>◌
step {T} {A} f t ts pool mid some is = ap (λ (x : List A × List Entry). (x.0 ++ (with_each f ts x.1).0, (with_each f ts x.1).1)) is

done_on : {A : Type 0} (done more : List A) (x : List A × List Entry) → with_done done (with_done more x) ≡ with_done (done ++ more) x
done_on {A} done more x = ap (λ (l : List A). (l, x.1)) (sym (append_assoc done more x.0))

next_at : {T A : Type 0} (f : T → Adding (List A)) (ts : List T) (done some : List A) (i : ℕ) (d : T) (pool mid : List Entry) (total : List A × List Entry) → i < length ts → f (get_or ts i d) pool ≡ (some, mid)
    → with_done done (with_each f (drop i ts) pool) ≡ total → with_done (done ++ some) (with_each f (drop (i + 1) ts) mid) ≡ total
next_at {T} f ts done some i d pool mid total lt is so_far =
    sym (done_on done some (with_each f (drop (i + 1) ts) mid))
    ∙ ap (with_done done) (sym (step f (get_or ts i d) (drop (i + 1) ts) pool mid some is))
    ∙ ap (λ (l : List T). with_done done (with_each f l pool)) (sym (drop_more ts i d lt))
    ∙ so_far

pub next_turn : {T A : Type 0} (f : T → Adding (List A)) (ts : List T) (done some : List A) (i : ℕ) (x : T) (pool mid : List Entry) (total : List A × List Entry) → i < length ts → x ≡ get_or ts i x → f x pool ≡ (some, mid)
    → with_done done (with_each f (drop i ts) pool) ≡ total → with_done (done ++ some) (with_each f (drop (i + 1) ts) mid) ≡ total
next_turn {T} f ts done some i x pool mid total lt at is so_far = next_at f ts done some i x pool mid total lt (subst (λ (y : T). f y pool ≡ (some, mid)) at is) so_far

last_turn : {T A : Type 0} (f : T → Adding (List A)) (pool : List Entry) → with_each f [] pool ≡ ([], pool)
unfolding with_each
last_turn f pool = refl

pub all_turned : {T A : Type 0} (f : T → Adding (List A)) (ts : List T) (done : List A) (i : ℕ) (pool : List Entry) (total : List A × List Entry) → length ts ≤ i → with_done done (with_each f (drop i ts) pool) ≡ total → total ≡ (done, pool)
all_turned {T} {A} f ts done i pool total h so_far =
    sym so_far ∙ ap (λ (l : List T). with_done done (with_each f l pool)) (drop_all i ts h) ∙ ap (with_done done) (last_turn f pool) ∙ ap (λ (l : List A). (l, pool)) (append-nil done)

refused_here : {T A : Type 0} (f : T → Adding (List A)) (t : T) (ts : List T) (e : MoveError) (pool : List Entry) → ((t : T) → Grows (f t)) → Refused e (f t pool).1 → Refused e (with_each f (t ∷ ts) pool).1
unfolding with_each
refused_here f t ts e pool k h =
    first_refused (f t) (λ some. with_each f ts >> λ others. giving (some ++ others)) e pool
    (λ some. then_grows (with_each f ts) (λ others. giving (some ++ others)) (each_grows f k ts) (λ others. giving_grows (some ++ others))) h

refused_at : {T A : Type 0} (f : T → Adding (List A)) (ts : List T) (done : List A) (i : ℕ) (d : T) (e : MoveError) (pool : List Entry) (total : List A × List Entry) → ((t : T) → Grows (f t)) → i < length ts
    → Refused e (f (get_or ts i d) pool).1 → with_done done (with_each f (drop i ts) pool) ≡ total → Refused e total.1
refused_at {T} {A} f ts done i d e pool total k lt h so_far =
    let there : (with_each f (get_or ts i d ∷ drop (i + 1) ts) pool).1 ≡ total.1 =
    ap (λ (l : List T). (with_each f l pool).1) (sym (drop_more ts i d lt)) ∙ ap (λ (x : List A × List Entry). x.1) so_far in
    subst (λ (whole : List Entry). Refused e whole) there (refused_here f (get_or ts i d) (drop (i + 1) ts) e pool k h)

pub turn_refused : {T A : Type 0} (f : T → Adding (List A)) (ts : List T) (done : List A) (i : ℕ) (x : T) (e : MoveError) (pool : List Entry) (total : List A × List Entry) → ((t : T) → Grows (f t)) → i < length ts → x ≡ get_or ts i x
    → Refused e (f x pool).1 → with_done done (with_each f (drop i ts) pool) ≡ total → Refused e total.1
turn_refused {T} f ts done i x e pool total k lt at h so_far = refused_at f ts done i x e pool total k lt (subst (λ (y : T). Refused e (f y pool).1) at h) so_far
