-- Locals of more precise types: what is loaded from them, stored into them and replaced in them.
use Rattle.std.proofs.Common.{◌≡◌, ℕ, zero, suc, ◌+◌, ◌<◌, Bool, true, false, List, [], ◌∷◌, length, Option, Some, None, nat_le, refl, sym, ap, subst, ◌∙◌, arith}
use Rattle.std.specs.Prelude.{◌&&◌, slice_get, slice_set, if◌then◌else◌}
use Rattle.std.proofs.lemmas.Bool.Decides.{nat_tests}
use Rattle.jvalues.specs.declared.jnames.kinds.Kind.{Kind}
use Rattle.jtypes.specs.declared.vtype.VType.{VType}
use Rattle.jtypes.specs.declared.vtype.VType.TheVariants.{Top, Int, Long, Null, UninitThis, Uninit, Object, Array, Ctx}
use Rattle.jtypes.specs.TypeFrames.{all_fit, implies, is_long, places}
use Rattle.jtypes.specs.ClassTrees.{Tree}
use Rattle.jtyping.specs.jrule.StackEffects.{is_int, is_of}
use Rattle.jvalues.specs.declared.jnames.kinds.Kind.TheVariants as kinds
use Rattle.jtyping.specs.jrule.LocalRule as locals
use Rattle.jtyping.specs.ProofNames
use Rattle.jtyping.specs.jrule.LocalRule.{broken, is_top, is_whole, passes, with_local}
use Rattle.jtyping.specs.jrule.PreciseFrames.{begins_with_top, item_precise, keeps_second, locals_precise, precise}
use Rattle.jtyping.specs.jrule.StackOperands.{pushed}
use Rattle.jtyping.proofs.JruleProofs.Conjunctions.{and_true, both, implies_none, implies_then, implies_true}
use Rattle.jtyping.proofs.JruleProofs.PreciseTypes.{at_array, at_object, item_of, kind_kept, known, same_long, sharp_context, sharp_int, sharp_long, sharp_new, sharp_null, sharp_of, sharp_this}
use Rattle.jtyping.proofs.JruleProofs.FramePrecision.{Found, Keeps, LocalsSharp, StackSharp, found, pushed_sharp, room_kept, same_places, some_is}

-- ---- tests

pub begins_is : (x : VType) (xs : List VType) → begins_with_top (x ∷ xs) ≡ is_top x
begins_is Top xs = refl
begins_is Int xs = refl
begins_is Long xs = refl
begins_is Null xs = refl
begins_is UninitThis xs = refl
begins_is (Uninit o) xs = refl
begins_is (Object c) xs = refl
begins_is (Array a) xs = refl
begins_is Ctx xs = refl

first_top : (ys : List VType) → passes is_top (slice_get ys 0) ≡ begins_with_top ys
first_top [] = refl
first_top (y ∷ ys) = sym (begins_is y ys)

not_long : (y : VType) (xs ys : List VType) → is_long y ≡ false → keeps_second y xs ys ≡ true
not_long y xs ys e = ap (λ l. implies (l && begins_with_top ys) (begins_with_top xs)) e

-- ---- locals as they are written

-- a long loses its second place
abbrev hidden : VType → VType
hidden x = if is_long x then Top else x

abbrev second : VType → List VType → List VType
second v xs = if is_long v then slice_set xs 0 Top else xs

-- the locals with a value from a place on, place by place
abbrev put_at : List VType → ℕ → VType → List VType
put_at [] n v = []
put_at (x ∷ xs) zero v = v ∷ second v xs
put_at (x ∷ xs) (suc zero) v = hidden x ∷ put_at xs zero v
put_at (x ∷ xs) (suc (suc n)) v = x ∷ put_at xs (suc n) v

with_first : (v x : VType) (xs : List VType) → with_local (x ∷ xs) 0 v ≡ v ∷ second v xs
unfolding with_local
with_first v x xs = go (is_long v)
  where
    go : (b : Bool) → (if b then slice_set (v ∷ xs) (0 + 1) Top else v ∷ xs) ≡ v ∷ (if b then slice_set xs 0 Top else xs)
    go true = refl
    go false = refl

with_next : (v x : VType) (xs : List VType) → with_local (x ∷ xs) 1 v ≡ hidden x ∷ with_local xs 0 v
unfolding with_local
with_next v x xs = go (is_long x) (is_long v)
  where
    go : (b c : Bool) → (if c then slice_set (slice_set (if b then Top ∷ xs else x ∷ xs) 1 v) (1 + 1) Top else slice_set (if b then Top ∷ xs else x ∷ xs) 1 v)
        ≡ (if b then Top else x) ∷ (if c then slice_set (slice_set xs 0 v) (0 + 1) Top else slice_set xs 0 v)
    go true true = refl
    go true false = refl
    go false true = refl
    go false false = refl

with_later : (v x : VType) (xs : List VType) (n : ℕ) → with_local (x ∷ xs) (suc (suc n)) v ≡ x ∷ with_local xs (suc n) v
unfolding with_local
with_later v x xs n =
    ap (λ k. if is_long v then slice_set (slice_set (broken (x ∷ xs) (suc (suc n))) (suc (suc n)) v) k Top else slice_set (broken (x ∷ xs) (suc (suc n))) (suc (suc n)) v)
    (let e : suc (suc n) + 1 ≡ suc (suc n + 1) = omega arith in e)
    ∙ go (passes is_long (slice_get xs n)) (is_long v)
  where
    go : (b c : Bool) → (if c then slice_set (slice_set (if b then x ∷ slice_set xs n Top else x ∷ xs) (suc (suc n)) v) (suc (suc n + 1)) Top
        else slice_set (if b then x ∷ slice_set xs n Top else x ∷ xs) (suc (suc n)) v)
        ≡ x ∷ (if c then slice_set (slice_set (if b then slice_set xs n Top else xs) (suc n) v) (suc n + 1) Top else slice_set (if b then slice_set xs n Top else xs) (suc n) v)
    go true true = refl
    go true false = refl
    go false true = refl
    go false false = refl

put_is : (xs : List VType) (n : ℕ) (v : VType) → n < length xs → with_local xs n v ≡ put_at xs n v
put_is [] n v lt = absurd (omega (arith, lt))
put_is (x ∷ xs) zero v lt = with_first v x xs
put_is (x ∷ xs) (suc zero) v lt = with_next v x xs ∙ ap (λ ys. hidden x ∷ ys) (put_is xs zero v (omega (arith, lt)))
put_is (x ∷ xs) (suc (suc n)) v lt = with_later v x xs n ∙ ap (λ ys. x ∷ ys) (put_is xs (suc n) v (omega (arith, lt)))

module _ (t : Tree) where
  -- the first type is more precise than the second, or the same
  abbrev Sharp : VType → VType → Type 0
  Sharp a b = precise t a b ≡ true

  -- and so on the stack
  abbrev SharpItem : VType → VType → Type 0
  SharpItem a b = item_precise t a b ≡ true

  -- ---- the parts of locals

  pub head_sharp : (x y : VType) (xs ys : List VType) → LocalsSharp t (x ∷ xs) (y ∷ ys) → Sharp x y
  unfolding locals_precise
  head_sharp x y xs ys s = (both (precise t x y) (keeps_second y xs ys) (both (precise t x y && keeps_second y xs ys) (locals_precise t xs ys) s).0).0

  pub second_kept : (x y : VType) (xs ys : List VType) → LocalsSharp t (x ∷ xs) (y ∷ ys) → keeps_second y xs ys ≡ true
  unfolding locals_precise
  second_kept x y xs ys s = (both (precise t x y) (keeps_second y xs ys) (both (precise t x y && keeps_second y xs ys) (locals_precise t xs ys) s).0).1

  pub tail_sharp : (x y : VType) (xs ys : List VType) → LocalsSharp t (x ∷ xs) (y ∷ ys) → LocalsSharp t xs ys
  unfolding locals_precise
  tail_sharp x y xs ys s = (both (precise t x y && keeps_second y xs ys) (locals_precise t xs ys) s).1

  pub locals_of : (x y : VType) (xs ys : List VType) → Sharp x y → keeps_second y xs ys ≡ true → LocalsSharp t xs ys → LocalsSharp t (x ∷ xs) (y ∷ ys)
  unfolding locals_precise
  locals_of x y xs ys s k r = and_true (precise t x y && keeps_second y xs ys) (locals_precise t xs ys) (and_true (precise t x y) (keeps_second y xs ys) s k) r

  pub none_sharp : LocalsSharp t [] []
  unfolding locals_precise
  none_sharp = refl

  pub more_left : (x : VType) (xs : List VType) → LocalsSharp t (x ∷ xs) [] → ⊥
  unfolding locals_precise
  more_left x xs s = cc

  pub more_right : (y : VType) (ys : List VType) → LocalsSharp t [] (y ∷ ys) → ⊥
  unfolding locals_precise
  more_right y ys s = cc

  pub same_length : (xs ys : List VType) → LocalsSharp t xs ys → length xs ≡ length ys
  same_length [] [] s = refl
  same_length [] (y ∷ ys) s = absurd (more_right y ys s)
  same_length (x ∷ xs) [] s = absurd (more_left x xs s)
  same_length (x ∷ xs) (y ∷ ys) s = ap suc (same_length xs ys (tail_sharp x y xs ys s))

  -- ---- what is loaded

  -- a local more precise than one, of which the second place stays
  pub record At (xs ys : List VType) (n : ℕ) (b : VType) : Type 0 where
    pub there : VType
    pub is : slice_get xs n ≡ Some there
    pub sharp : Sharp there b
    pub second : is_long b ≡ true → passes is_top (slice_get ys (suc n)) ≡ true → passes is_top (slice_get xs (suc n)) ≡ true

  second_top : (l b c : Bool) → implies (l && b) c ≡ true → l ≡ true → b ≡ true → c ≡ true
  second_top true true c e f g = e
  second_top true false c e f g = absurd (cc)
  second_top false b c e f g = absurd (cc)

  pub local_at : (xs ys : List VType) (n : ℕ) (b : VType) → LocalsSharp t xs ys → slice_get ys n ≡ Some b → At xs ys n b
  local_at xs [] n b s e = absurd (cc)
  local_at [] (y ∷ ys) n b s e = absurd (more_right y ys s)
  local_at (x ∷ xs) (y ∷ ys) zero b s e =
      let is = some_is y b e in
      record {
        there = x;
        is = refl;
        sharp = subst (λ b. Sharp x b) is (head_sharp x y xs ys s);
        second = λ l p.
            first_top xs ∙ second_top (is_long y) (begins_with_top ys) (begins_with_top xs) (second_kept x y xs ys s) (ap is_long is ∙ l) (sym (first_top ys) ∙ p);
      }
  local_at (x ∷ xs) (y ∷ ys) (suc n) b s e =
      let rest = local_at xs ys n b (tail_sharp x y xs ys s) e in
      record { there = rest.there; is = rest.is; sharp = rest.sharp; second = rest.second }

  -- ---- what is stored

  hidden_sharp : (x y : VType) → Sharp x y → Sharp (hidden x) (hidden y)
  hidden_sharp x Top s = refl
  hidden_sharp x Int s = subst (λ x. Sharp (hidden x) Int) (sym (sharp_int t x s)) refl
  hidden_sharp x Long s = refl
  hidden_sharp x Null s = subst (λ x. Sharp (hidden x) Null) (sym (sharp_null t x s)) refl
  hidden_sharp x UninitThis s = subst (λ x. Sharp (hidden x) UninitThis) (sym (sharp_this t x s)) refl
  hidden_sharp x (Uninit o) s = subst (λ x. Sharp (hidden x) (Uninit o)) (sym (sharp_new t x o s)) (subst (λ x. Sharp x (Uninit o)) (sharp_new t x o s) s)
  hidden_sharp x (Object d) s = at_object t (λ x. Sharp (hidden x) (Object d)) x d s refl (λ c w. w)
  hidden_sharp x (Array b) s = at_array t (λ x. Sharp (hidden x) (Array b)) x b s refl (λ a w. w)
  hidden_sharp x Ctx s = subst (λ x. Sharp (hidden x) Ctx) (sym (sharp_context t x s)) refl

  hidden_short : (y : VType) → is_long (hidden y) ≡ false
  hidden_short Top = refl
  hidden_short Int = refl
  hidden_short Long = refl
  hidden_short Null = refl
  hidden_short UninitThis = refl
  hidden_short (Uninit o) = refl
  hidden_short (Object c) = refl
  hidden_short (Array a) = refl
  hidden_short Ctx = refl

  hidden_top : (x : VType) → is_top x ≡ true → is_top (hidden x) ≡ true
  hidden_top Top e = refl
  hidden_top _ e = absurd (cc)

  -- of two that were put, the second place of a long stays
  hidden_kept : (l : Bool) (x y : VType) → Sharp x y → implies (l && is_top y) (is_top x) ≡ true → implies (l && is_top (hidden y)) (is_top (hidden x)) ≡ true
  hidden_kept l x Top s h = implies_then (l && true) (is_top x) (is_top (hidden x)) (hidden_top x) h
  hidden_kept l x Long s h = implies_true (l && true) (is_top (hidden x)) (ap (λ x. is_top (hidden x)) (sharp_long t x s))
  hidden_kept l x Int s h = implies_none l (is_top (hidden x))
  hidden_kept l x Null s h = implies_none l (is_top (hidden x))
  hidden_kept l x UninitThis s h = implies_none l (is_top (hidden x))
  hidden_kept l x (Uninit o) s h = implies_none l (is_top (hidden x))
  hidden_kept l x (Object c) s h = implies_none l (is_top (hidden x))
  hidden_kept l x (Array a) s h = implies_none l (is_top (hidden x))
  hidden_kept l x Ctx s h = implies_none l (is_top (hidden x))

  put_kept : (z a b : VType) (xs ys : List VType) (n : ℕ) → LocalsSharp t xs ys → keeps_second z xs ys ≡ true → keeps_second z (put_at xs (suc n) a) (put_at ys (suc n) b) ≡ true
  put_kept z a b [] [] n s h = h
  put_kept z a b [] (y ∷ ys) n s h = absurd (more_right y ys s)
  put_kept z a b (x ∷ xs) [] n s h = absurd (more_left x xs s)
  put_kept z a b (x ∷ xs) (y ∷ ys) zero s h =
      ap (λ p. implies (is_long z && p) (begins_with_top (hidden x ∷ put_at xs zero a))) (begins_is (hidden y) (put_at ys zero b))
      ∙ ap (λ q. implies (is_long z && is_top (hidden y)) q) (begins_is (hidden x) (put_at xs zero a))
      ∙ hidden_kept (is_long z) x y (head_sharp x y xs ys s)
      (sym (ap (λ p. implies (is_long z && p) (begins_with_top (x ∷ xs))) (begins_is y ys) ∙ ap (λ q. implies (is_long z && is_top y) q) (begins_is x xs)) ∙ h)
  put_kept z a b (x ∷ xs) (y ∷ ys) (suc n) s h =
      ap (λ p. implies (is_long z && p) (begins_with_top (x ∷ put_at xs (suc n) a))) (begins_is y (put_at ys (suc n) b))
      ∙ ap (λ q. implies (is_long z && is_top y) q) (begins_is x (put_at xs (suc n) a))
      ∙ sym (ap (λ p. implies (is_long z && p) (begins_with_top (x ∷ xs))) (begins_is y ys) ∙ ap (λ q. implies (is_long z && is_top y) q) (begins_is x xs)) ∙ h

  long_is : (a : VType) → is_long a ≡ true → a ≡ Long
  long_is Long e = refl
  long_is _ e = absurd (cc)

  longs_put : (xs ys : List VType) → LocalsSharp t xs ys → LocalsSharp t (Long ∷ slice_set xs 0 Top) (Long ∷ slice_set ys 0 Top)
  longs_put [] [] s = locals_of Long Long [] [] refl refl s
  longs_put [] (y ∷ ys) s = absurd (more_right y ys s)
  longs_put (x ∷ xs) [] s = absurd (more_left x xs s)
  longs_put (x ∷ xs) (y ∷ ys) s = locals_of Long Long (Top ∷ xs) (Top ∷ ys) refl refl (locals_of Top Top xs ys refl refl (tail_sharp x y xs ys s))

  first_put : (a b : VType) (xs ys : List VType) → SharpItem a b → LocalsSharp t xs ys → LocalsSharp t (a ∷ second a xs) (b ∷ second b ys)
  first_put a b xs ys i s = go (is_long a) refl (is_long b) refl (same_long t a b i)
    where
      go : (l : Bool) → is_long a ≡ l → (m : Bool) → is_long b ≡ m → is_long a ≡ is_long b → LocalsSharp t (a ∷ second a xs) (b ∷ second b ys)
      go true la true lb e =
          subst (λ a. LocalsSharp t (a ∷ second a xs) (b ∷ second b ys)) (sym (long_is a la))
          (subst (λ b. LocalsSharp t (Long ∷ slice_set xs 0 Top) (b ∷ second b ys)) (sym (long_is b lb)) (longs_put xs ys s))
      go false la false lb e =
          subst (λ l. LocalsSharp t (a ∷ (if l then slice_set xs 0 Top else xs)) (b ∷ second b ys)) (sym la)
          (subst (λ l. LocalsSharp t (a ∷ xs) (b ∷ (if l then slice_set ys 0 Top else ys))) (sym lb) (locals_of a b xs ys (sharp_of t a b i) (not_long b xs ys lb) s))
      go true la false lb e = absurd (cc)
      go false la true lb e = absurd (cc)

  put_sharp : (xs ys : List VType) (n : ℕ) (a b : VType) → SharpItem a b → LocalsSharp t xs ys → LocalsSharp t (put_at xs n a) (put_at ys n b)
  put_sharp [] [] n a b i s = s
  put_sharp [] (y ∷ ys) n a b i s = absurd (more_right y ys s)
  put_sharp (x ∷ xs) [] n a b i s = absurd (more_left x xs s)
  put_sharp (x ∷ xs) (y ∷ ys) zero a b i s = first_put a b xs ys i (tail_sharp x y xs ys s)
  put_sharp (x ∷ xs) (y ∷ ys) (suc zero) a b i s =
      locals_of (hidden x) (hidden y) (put_at xs zero a) (put_at ys zero b) (hidden_sharp x y (head_sharp x y xs ys s))
      (not_long (hidden y) (put_at xs zero a) (put_at ys zero b) (hidden_short y))
      (put_sharp xs ys zero a b i (tail_sharp x y xs ys s))
  put_sharp (x ∷ xs) (y ∷ ys) (suc (suc n)) a b i s =
      locals_of x y (put_at xs (suc n) a) (put_at ys (suc n) b) (head_sharp x y xs ys s)
      (put_kept y a b xs ys n (tail_sharp x y xs ys s) (second_kept x y xs ys s))
      (put_sharp xs ys (suc n) a b i (tail_sharp x y xs ys s))

  pub with_sharp : (xs ys : List VType) (n : ℕ) (a b : VType) → n < length ys → SharpItem a b → LocalsSharp t xs ys → LocalsSharp t (with_local xs n a) (with_local ys n b)
  with_sharp xs ys n a b lt i s =
      subst (λ us. LocalsSharp t us (with_local ys n b)) (sym (put_is xs n a (let l = same_length xs ys s in omega arith)))
      (subst (λ vs. LocalsSharp t (put_at xs n a) vs) (sym (put_is ys n b lt)) (put_sharp xs ys n a b i s))

  -- ---- the rows

  pub load_kept : (most : ℕ) (k : Kind) (n : ℕ) → Keeps t (ProofNames.load most k n)
  load_kept most k n a b c sharp e = go (slice_get b.locals n) refl e
    where
      next : suc n ≡ n + 1
      next = omega arith

      whole : (x y : VType) → SharpItem x y → At a.locals b.locals n y → is_whole b.locals n y ≡ true → is_whole a.locals n x ≡ true
      whole x y i one h = on (is_long x) refl (is_long y) refl (same_long t x y i) h
        where
          on : (l : Bool) → is_long x ≡ l → (m : Bool) → is_long y ≡ m → is_long x ≡ is_long y →
              (if m then passes is_top (slice_get b.locals (n + 1)) else true) ≡ true → is_whole a.locals n x ≡ true
          on false lx m ly e h = ap (λ l. if l then passes is_top (slice_get a.locals (n + 1)) else true) lx
          on true lx true ly e h =
              ap (λ l. if l then passes is_top (slice_get a.locals (n + 1)) else true) lx
              ∙ subst (λ m. passes is_top (slice_get a.locals m) ≡ true) next (one.second ly (subst (λ m. passes is_top (slice_get b.locals m) ≡ true) (sym next) h))
          on true lx false ly e h = absurd (cc)

      loaded : (y : VType) → At a.locals b.locals n y → (w : Bool) → (is_of k y && is_whole b.locals n y) ≡ w →
          (if w then pushed most y b else None) ≡ Some c → Found t (ProofNames.load most k n) a c
      loaded y one false w h = absurd (cc)
      loaded y one true w h =
          let parts = both (is_of k y) (is_whole b.locals n y) w in
          let x = one.there in
          let i = item_of t x y one.sharp (known t k y parts.0) in
          let r = room_kept t most a b c (x ∷ a.stack) (y ∷ b.stack) sharp (pushed_sharp t x y a.stack b.stack i sharp.stack) h in
          record {
            frame = r.frame;
            is = ap (locals.load_from most k n a) one.is
                ∙ ap (λ w. if w then pushed most x a else None) (and_true (is_of k x) (is_whole a.locals n x) (kind_kept t k x y one.sharp parts.0) (whole x y i one parts.1))
                ∙ r.is;
            sharp = r.sharp;
          }

      go : (o : Option VType) → slice_get b.locals n ≡ o → locals.load_from most k n b o ≡ Some c → Found t (ProofNames.load most k n) a c
      go None is h = absurd (cc)
      go (Some y) is h = loaded y (local_at a.locals b.locals n y sharp.locals is) (is_of k y && is_whole b.locals n y) refl h

  some_place : (n m : ℕ) (y : VType) → nat_le (n + length (places y)) m ≡ true → n < m
  some_place n m y h = go (is_long y) h
    where
      go : (l : Bool) → nat_le (n + length (if l then y ∷ Top ∷ [] else y ∷ [])) m ≡ true → n < m
      go true h = grind (arith, nat_tests)
      go false h = grind (arith, nat_tests)

  pub store_kept : (k : Kind) (n : ℕ) → Keeps t (ProofNames.store k n)
  unfolding all_fit
  store_kept k n a b c sharp e = go a.stack b.stack refl sharp.stack e
    where
      when : (x y : VType) (xs ys : List VType) → a.stack ≡ x ∷ xs → SharpItem x y → StackSharp t xs ys → (w : Bool) → (is_of k y && nat_le (n + length (places y)) (length b.locals)) ≡ w →
          (if w then Some (record { locals = with_local b.locals n y; stack = ys; flag = b.flag }) else None) ≡ Some c → Found t (ProofNames.store k n) a c
      when x y xs ys at i rest false w h = absurd (cc)
      when x y xs ys at i rest true w h =
          let parts = both (is_of k y) (nat_le (n + length (places y)) (length b.locals)) w in
          let fits : nat_le (n + length (places x)) (length a.locals) ≡ true =
          ap (λ m. nat_le (n + m) (length a.locals)) (same_places t x y i) ∙ ap (λ m. nat_le (n + length (places y)) m) (same_length a.locals b.locals sharp.locals) ∙ parts.1 in
          found t (ProofNames.store k n) a (record { locals = with_local a.locals n x; stack = xs; flag = a.flag }) (record { locals = with_local b.locals n y; stack = ys; flag = b.flag }) c
          (ap (locals.store_on k n a) at
          ∙ ap (λ w. if w then Some (record { locals = with_local a.locals n x; stack = xs; flag = a.flag }) else None)
          (and_true (is_of k x) (nat_le (n + length (places x)) (length a.locals)) (kind_kept t k x y (sharp_of t x y i) parts.0) fits))
          (record { locals = with_sharp a.locals b.locals n x y (some_place n (length b.locals) y parts.1) i sharp.locals; stack = rest; flag = sharp.flag }) h

      go : (xs ys : List VType) → a.stack ≡ xs → StackSharp t xs ys → locals.store_on k n b ys ≡ Some c → Found t (ProofNames.store k n) a c
      go xs [] at s h = absurd (cc)
      go [] (y ∷ ys) at s h = absurd (cc)
      go (x ∷ xs) (y ∷ ys) at s h =
          let parts = both (item_precise t x y) (all_fit (item_precise t) xs ys) s in
          when x y xs ys at parts.0 parts.1 (is_of k y && nat_le (n + length (places y)) (length b.locals)) refl h

  pub increment_kept : (n : ℕ) → Keeps t (locals.increment n)
  increment_kept n a b c sharp e = go (slice_get b.locals n) refl e
    where
      when : (y : VType) → At a.locals b.locals n y → (w : Bool) → is_int y ≡ w → (if w then Some b else None) ≡ Some c → Found t (locals.increment n) a c
      when y one false w h = absurd (cc)
      when y one true w h =
          found t (locals.increment n) a a b c
          (ap (λ o. if passes is_int o then Some a else None) one.is ∙ ap (λ w. if w then Some a else None) (kind_kept t kinds.Int one.there y one.sharp w)) sharp h

      go : (o : Option VType) → slice_get b.locals n ≡ o → (if passes is_int o then Some b else None) ≡ Some c → Found t (locals.increment n) a c
      go None is h = absurd (cc)
      go (Some y) is h = when y (local_at a.locals b.locals n y sharp.locals is) (is_int y) refl h
