-- Operands that serve.
use Rattle.std.proofs.Common.{◌≡◌, ◌∙◌, ℕ, suc, ◌+◌, ◌<◌, ◌≤◌, ◌⊎◌, inl, inr, Bool, true, false, ◌&&◌, List, [], ◌∷◌, ◌++◌, drop, get_or, length, map, Option, Some, None, refl, sym, ap}
use Rattle.std.specs.Prelude.{is_some, option_map, slice_get, if◌then◌else◌}
use Rattle.std.proofs.lemmas.List.{at_drop_all, at_drop_more, length-map}
use Rattle.std.proofs.lemmas.Option.{slice_get_cases}
use Rattle.jvalues.specs.declared.jops.value.Value.{Value}
use Rattle.jresolution.specs.jprogram.ProgramClasses.{Program}
use Rattle.jresolution.specs.declared.juses.types.TypeRef.{TypeRef}
use Rattle.jresolution.specs.juses.InternedTypes.{named}
use Rattle.jtyping.specs.jrule.StackEffects.{Fits, Want}
use Rattle.jsemantics.specs.jmachine.TakenOperands.{Taken, serves, taken, with_value, serves_as}
use Rattle.jsemantics.specs.jmachine.Store.{Store}
use Rattle.jsemantics.specs.jmachine.World.{World, world}
use Rattle.jruntime.specs.jstate.HeapMeaningLaws.{SeesEach}
use Rattle.jserving.specs.jfits.TypeQueries.{fits}
use Rattle.jserving.specs.declared.jserve.values.Objects.{Objects}
use Rattle.jserving.specs.jserve.OperandChecks.{all_serve, one_serves, serves_in, took_if}
use Rattle.jserving.specs.jserve.ValueTypes.{IsStore, type_in}
use Rattle.jserving.proofs.JserveProofs.ValueTypes.{type_is}

-- ---- one value

pub no_type : (p : Program) (x : Objects) (want : TypeRef) (v : Value ℕ) → None ≡ type_in x v → false ≡ serves_in p x (Fits (named p want)) v
no_type p x want v e = ap (λ (t : Option TypeRef). serves_as (world p) (Fits (named p want)) (option_map (named p) t)) e

pub of_type : (p : Program) (x : Objects) (want : TypeRef) (v : Value ℕ) (t : TypeRef) (b : Bool) → Some t ≡ type_in x v
    → b ≡ fits p (named p t) (named p want)
    → b ≡ serves_in p x (Fits (named p want)) v
unfolding world
of_type p x want v t b e h = h ∙ ap (λ (t : Option TypeRef). serves_as (world p) (Fits (named p want)) (option_map (named p) t)) e

-- as the definition has it
pub serves_seen : SeesEach → (p : Program) (x : Objects) (s : Store ℕ) → IsStore p x s → (want : Want) (v : Value ℕ)
    → serves (world p) s want v ≡ serves_in p x want v
serves_seen law p x s store want v = ap (serves_as (world p) want) (type_is law p x s v store)

-- ---- several

module _ (f : Want → Value ℕ → Bool) where
  -- one after the other, by their places
  step : (w : Want) (ws : List Want) (ops : List (Value ℕ)) (i : ℕ) → all_serve f (w ∷ ws) (drop i ops)
      ≡ (one_serves f w (slice_get ops i) && all_serve f ws (drop (i + 1) ops))
  unfolding all_serve
  step w ws ops i = by_cases (slice_get_cases ops i).1
    where
      by_cases : ((x : Value ℕ) × (i < length ops) × (slice_get ops i ≡ Some x) × (get_or ops i x ≡ x)) ⊎ ((length ops ≤ i) × (slice_get ops i ≡ None))
          → all_serve f (w ∷ ws) (drop i ops) ≡ (one_serves f w (slice_get ops i) && all_serve f ws (drop (i + 1) ops))
      by_cases (inl (v, few, e, d)) =
          at_drop_more (all_serve f (w ∷ ws)) ops i v few
          ∙ ap (λ (x : Value ℕ). f w x && all_serve f ws (drop (i + 1) ops)) d
          ∙ ap (λ (o : Option (Value ℕ)). one_serves f w o && all_serve f ws (drop (i + 1) ops)) (sym e)
      by_cases (inr (few, e)) =
          at_drop_all (all_serve f (w ∷ ws)) ops i few
          ∙ ap (λ (o : Option (Value ℕ)). one_serves f w o && all_serve f ws (drop (i + 1) ops)) (sym e)

  pub next : (p : Program) (ts : List TypeRef) (j : ℕ) (d : TypeRef) (ops : List (Value ℕ)) (i : ℕ) (b : Bool) → j < length ts
      → b ≡ one_serves f (Fits (named p (get_or ts j d))) (slice_get ops i)
      → all_serve f (map Fits (map (named p) (drop j ts))) (drop i ops) ≡ (b && all_serve f (map Fits (map (named p) (drop (j + 1) ts))) (drop (i + 1) ops))
  next p ts j d ops i b few e =
      let rest = map Fits (map (named p) (drop (j + 1) ts)) in
      at_drop_more (λ (us : List TypeRef). all_serve f (map Fits (map (named p) us)) (drop i ops)) ts j d few
      ∙ step (Fits (named p (get_or ts j d))) rest ops i ∙ ap (λ (c : Bool). c && all_serve f rest (drop (i + 1) ops)) (sym e)

  pub fails : (p : Program) (ts : List TypeRef) (i : ℕ) (d : TypeRef) (ops : List (Value ℕ)) → i < length ts → (b : Bool)
      → b ≡ one_serves f (Fits (named p (get_or ts i d))) (slice_get ops i) → b ≡ false
      → all_serve f (map Fits (map (named p) (drop i ts))) (drop i ops) ≡ false
  fails p ts i d ops few b e isnt =
      next p ts i d ops i b few e ∙ ap (λ (c : Bool). c && all_serve f (map Fits (map (named p) (drop (i + 1) ts))) (drop (i + 1) ops)) isnt

  pub goes_on : (p : Program) (ts : List TypeRef) (i : ℕ) (d : TypeRef) (ops : List (Value ℕ)) → i < length ts → (b : Bool)
      → b ≡ one_serves f (Fits (named p (get_or ts i d))) (slice_get ops i) → b ≡ true
      → all_serve f (map Fits (map (named p) (drop i ts))) (drop i ops) ≡ all_serve f (map Fits (map (named p) (drop (i + 1) ts))) (drop (i + 1) ops)
  goes_on p ts i d ops few b e serves =
      next p ts i d ops i b few e ∙ ap (λ (c : Bool). c && all_serve f (map Fits (map (named p) (drop (i + 1) ts))) (drop (i + 1) ops)) serves

  pub none_left : (p : Program) (ts : List TypeRef) (j : ℕ) (ops : List (Value ℕ)) → length ts ≤ j
      → all_serve f (map Fits (map (named p) (drop j ts))) ops ≡ true
  unfolding all_serve
  none_left p ts j ops few = at_drop_all (λ (us : List TypeRef). all_serve f (map Fits (map (named p) us)) ops) ts j few

  -- one more behind others
  one_more : (ws : List Want) (w : Want) (ops : List (Value ℕ)) → all_serve f (ws ++ w ∷ []) ops
      ≡ (all_serve f ws ops && one_serves f w (slice_get ops (length ws)))
  unfolding all_serve
  one_more [] w [] = refl
  one_more [] w (v ∷ ops) = and_true (f w v)
    where
      and_true : (b : Bool) → (b && true) ≡ b
      and_true true = refl
      and_true false = refl
  one_more (u ∷ ws) w [] = refl
  one_more (u ∷ ws) w (v ∷ ops) = ap (λ (b : Bool). f u v && b) (one_more ws w ops)
      ∙ between (f u v) (all_serve f ws ops) (one_serves f w (slice_get ops (length ws)))
    where
      between : (a b c : Bool) → (a && (b && c)) ≡ ((a && b) && c)
      between true b c = refl
      between false b c = refl

  pub with_object : (p : Program) (ts : List TypeRef) (t : TypeRef) (ops : List (Value ℕ))
      → all_serve f (map Fits (map (named p) ts) ++ Fits (named p t) ∷ []) ops
      ≡ (all_serve f (map Fits (map (named p) ts)) ops && one_serves f (Fits (named p t)) (slice_get ops (length ts)))
  with_object p ts t ops =
      let ws = map Fits (map (named p) ts) in
      let count : length ws ≡ length ts = length-map (map (named p) ts) Fits ∙ length-map ts (named p) in
      one_more ws (Fits (named p t)) ops ∙ ap (λ (n : ℕ). all_serve f ws ops && one_serves f (Fits (named p t)) (slice_get ops n)) count

  pub both_serve : (p : Program) (ts : List TypeRef) (t : TypeRef) (ops : List (Value ℕ)) (a b : Bool)
      → a ≡ all_serve f (map Fits (map (named p) ts)) ops → b ≡ one_serves f (Fits (named p t)) (slice_get ops (length ts))
      → (a && b) ≡ all_serve f (map Fits (map (named p) ts) ++ Fits (named p t) ∷ []) ops
  both_serve p ts t ops a b ha hb =
      ap (λ (c : Bool). c && b) ha ∙ ap (λ (c : Bool). all_serve f (map Fits (map (named p) ts)) ops && c) hb ∙ sym (with_object p ts t ops)

-- ---- taking

module _ (w : World) (s : Store ℕ) (f : Want → Value ℕ → Bool) (same : (want : Want) (v : Value ℕ) → serves w s want v ≡ f want v) where
  -- so many are taken where they serve
  pub taken_all : (wants : List Want) (ops : List (Value ℕ)) → taken w s wants ops ≡ took_if (length wants) ops (all_serve f wants ops)
  unfolding taken all_serve
  taken_all [] ops = refl
  taken_all (want ∷ wants) [] = refl
  taken_all (want ∷ wants) (v ∷ ops) =
      ap (λ (b : Bool). if b then option_map (with_value v) (taken w s wants ops) else None) (same want v)
      ∙ ap (λ o. if f want v then option_map (with_value v) o else None) (taken_all wants ops)
      ∙ joined (f want v) (all_serve f wants ops)
    where
      joined : (b c : Bool) → (if b then option_map (with_value v) (took_if (length wants) ops c) else None) ≡ took_if (suc (length wants)) (v ∷ ops) (b && c)
      joined true true = refl
      joined true false = refl
      joined false c = refl

  -- one
  pub single : (want : Want) (ops : List (Value ℕ)) → is_some (taken w s (want ∷ []) ops) ≡ one_serves f want (slice_get ops 0)
  unfolding taken
  single want [] = refl
  single want (v ∷ ops) = ap (λ (b : Bool). is_some (if b then option_map (with_value v) (taken w s [] ops) else None)) (same want v) ∙ by (f want v)
    where
      by : (b : Bool) → is_some (if b then option_map (with_value v) (taken w s [] ops) else None) ≡ b
      by true = refl
      by false = refl

  -- and two
  pub double : (want more : Want) (ops : List (Value ℕ))
      → is_some (taken w s (want ∷ more ∷ []) ops) ≡ (one_serves f want (slice_get ops 0) && one_serves f more (slice_get ops 1))
  unfolding taken
  double want more [] = refl
  double want more (v ∷ ops) =
      ap (λ (b : Bool). is_some (if b then option_map (with_value v) (taken w s (more ∷ []) ops) else None)) (same want v)
      ∙ by (f want v) (taken w s (more ∷ []) ops) ∙ ap (λ (b : Bool). f want v && b) (single more ops)
    where
      by : (b : Bool) (o : Option (Taken ℕ)) → is_some (if b then option_map (with_value v) o else None) ≡ (b && is_some o)
      by true None = refl
      by true (Some t) = refl
      by false o = refl

  -- and three
  pub triple : (a b c : Want) (ops : List (Value ℕ)) → is_some (taken w s (a ∷ b ∷ c ∷ []) ops)
      ≡ (one_serves f a (slice_get ops 0) && (one_serves f b (slice_get ops 1) && one_serves f c (slice_get ops 2)))
  unfolding taken
  triple a b c [] = refl
  triple a b c (v ∷ ops) =
      ap (λ (t : Bool). is_some (if t then option_map (with_value v) (taken w s (b ∷ c ∷ []) ops) else None)) (same a v)
      ∙ by (f a v) (taken w s (b ∷ c ∷ []) ops) ∙ ap (λ (t : Bool). f a v && t) (double b c ops)
    where
      by : (t : Bool) (o : Option (Taken ℕ)) → is_some (if t then option_map (with_value v) o else None) ≡ (t && is_some o)
      by true None = refl
      by true (Some x) = refl
      by false o = refl

-- so many operands are there, if they serve
pub is_took : (n : ℕ) (ops : List (Value ℕ)) (b : Bool) → is_some (took_if n ops b) ≡ b
is_took n ops true = refl
is_took n ops false = refl
