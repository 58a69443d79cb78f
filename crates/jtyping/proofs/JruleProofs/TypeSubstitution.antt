-- Types with others in their place: one after the other, by number and by name.
use Rattle.std.proofs.Common.{◌≡◌, ℕ, zero, suc, ◌<◌, Bool, true, false, List, [], ◌∷◌, ◌++◌, length, map, take, drop, reverse, get_or, None, refl, ap, sym, ◌∙◌, arith}
use Rattle.std.specs.Prelude.{set, if◌then◌else◌}
use Rattle.std.specs.List.{list_any}
use Rattle.std.proofs.lemmas.List.{reverse-append, map-append}
use Rattle.std.proofs.lemmas.List.Sorted.{list_any-IsPermutation, IsPermutation-reverse}
use Rattle.jresolution.specs.declared.juses.types.TypeRef.{TypeRef}
use Rattle.jresolution.specs.declared.juses.types.TypeRef.TheVariants as refs
use Rattle.jresolution.specs.juses.InternedTypes.{named}
use Rattle.jresolution.specs.jprogram.ProgramClasses.{Program}
use Rattle.jtyping.specs.declared.jrule.unready.Unready.{Unready}
use Rattle.jtyping.specs.declared.jrule.unready.Unready.TheVariants as unready
use Rattle.jtypes.specs.declared.vtype.VType.{VType}
use Rattle.jtypes.specs.declared.vtype.VType.TheVariants.{Top, Uninit}
use Rattle.jtypes.specs.TypeFrames.{Frame}
use Rattle.jtyping.specs.declared.jrule.frame.FrameRef.{FrameRef}
use Rattle.jtyping.specs.jrule.StackOperands.{pushed}
use Rattle.jtyping.specs.jrule.InternedFrames.{seen}
use Rattle.jtyping.specs.jrule.ObjectRule.{all_replaced, is_it, make}
use Rattle.jtyping.specs.ProofNames.{replaced}
use Rattle.jtyping.specs.jrule.OperandSlots.{long_count, longs_in}
use Rattle.jtyping.specs.jrule.TypeSubstitution.{is_for, swapped}

-- the next item of a list of which those in front are done
pub done_next : {A : Type 0} (f : A → A) (xs : List A) (i : ℕ) (d : A) → i < length xs →
    set (map f (take i xs) ++ drop i xs) i (f (get_or (map f (take i xs) ++ drop i xs) i d)) ≡ map f (take (suc i) xs) ++ drop (suc i) xs
done_next f [] i d lt = absurd (omega (arith, lt))
done_next f (x ∷ xs) zero d lt = refl
done_next f (x ∷ xs) (suc i) d lt = ap (λ ys. f x ∷ ys) (done_next f xs i d (omega (arith, lt)))

pub done_at : {A : Type 0} (f : A → A) (xs ys : List A) (i n : ℕ) (v w : A) →
    ys ≡ map f (take i xs) ++ drop i xs → v ≡ get_or ys i v → w ≡ f v → n ≡ suc i → i < length xs → set ys i w ≡ map f (take n xs) ++ drop n xs
done_at f xs ys i n v w e g h en lt =
    ap (λ zs. set zs i w) e ∙ ap (λ u. set (map f (take i xs) ++ drop i xs) i u) (h ∙ ap f (g ∙ ap (λ zs. get_or zs i v) e))
    ∙ done_next f xs i v lt ∙ ap (λ k. map f (take k xs) ++ drop k xs) (sym en)

-- a type by number stands for an object where its name does
pub for_named : (p : Program) (it : Unready) (t : TypeRef) → is_it it (named p t) ≡ is_for it t
for_named p unready.This refs.Top = refl
for_named p unready.This refs.Int = refl
for_named p unready.This refs.Long = refl
for_named p unready.This refs.Null = refl
for_named p unready.This refs.UninitThis = refl
for_named p unready.This (refs.Uninit o) = refl
for_named p unready.This (refs.Object c) = refl
for_named p unready.This (refs.Array a) = refl
for_named p unready.This refs.Ctx = refl
for_named p (unready.New o) refs.Top = refl
for_named p (unready.New o) refs.Int = refl
for_named p (unready.New o) refs.Long = refl
for_named p (unready.New o) refs.Null = refl
for_named p (unready.New o) refs.UninitThis = refl
for_named p (unready.New o) (refs.Uninit at) = refl
for_named p (unready.New o) (refs.Object c) = refl
for_named p (unready.New o) (refs.Array a) = refl
for_named p (unready.New o) refs.Ctx = refl

either_named : (p : Program) (new t : TypeRef) (b : Bool) → named p (if b then new else t) ≡ (if b then named p new else named p t)
either_named p new t true = refl
either_named p new t false = refl

swapped_named : (p : Program) (it : Unready) (new t : TypeRef) → named p (swapped it new t) ≡ replaced it (named p new) (named p t)
swapped_named p it new t = rw (for_named p it t) (either_named p new t (is_for it t))

pub all_named : (p : Program) (it : Unready) (new : TypeRef) (ts : List TypeRef) → map (named p) (map (swapped it new) ts) ≡ all_replaced it (named p new) (map (named p) ts)
all_named p it new [] = refl
all_named p it new (t ∷ ts) = grind (arith, swapped_named p it new t, all_named p it new ts)

pub all_named_at : (p : Program) (it : Unready) (new : TypeRef) (ts us : List TypeRef) → us ≡ map (swapped it new) ts → map (named p) us ≡ all_replaced it (named p new) (map (named p) ts)
all_named_at p it new ts us e = ap (map (named p)) e ∙ all_named p it new ts

pub any_named : (p : Program) (it : Unready) (ts : List TypeRef) → list_any (is_it it) (map (named p) ts) ≡ list_any (is_for it) ts
any_named p it [] = refl
any_named p it (t ∷ ts) = grind (arith, for_named p it t, any_named p it ts)

-- ---- newest first

pub map_reversed : {A B : Type 0} (f : A → B) (xs : List A) → map f (reverse xs) ≡ reverse (map f xs)
map_reversed f [] = refl
map_reversed f (x ∷ xs) =
    ap (map f) (reverse-append (x ∷ []) xs) ∙ map-append f (reverse xs) (x ∷ []) ∙ ap (λ ys. ys ++ f x ∷ []) (map_reversed f xs) ∙ sym (reverse-append (f x ∷ []) (map f xs))

pub any_reversed : {A : Type 0} (test : A → Bool) (xs : List A) → list_any test (reverse xs) ≡ list_any test xs
any_reversed test xs = sym (list_any-IsPermutation test xs (reverse xs) (IsPermutation-reverse xs))

-- ---- longs

either_longs : (new t : TypeRef) (it : Unready) (b : Bool) → is_for it t ≡ b → longs_in new ≡ 0 → longs_in (if b then new else t) ≡ longs_in t
either_longs new t it false e h = refl
either_longs new refs.Top it true e h = h
either_longs new refs.Int it true e h = h
either_longs new refs.Long unready.This true e h = absurd cc
either_longs new refs.Long (unready.New o) true e h = absurd cc
either_longs new refs.Null it true e h = h
either_longs new refs.UninitThis it true e h = h
either_longs new (refs.Uninit o) it true e h = h
either_longs new (refs.Object c) it true e h = h
either_longs new (refs.Array a) it true e h = h
either_longs new refs.Ctx it true e h = h

-- no object is a long, so as many are longs as before
pub longs_swapped : (it : Unready) (new : TypeRef) (ts : List TypeRef) → longs_in new ≡ 0 → long_count (map (swapped it new) ts) ≡ long_count ts
unfolding long_count
longs_swapped it new [] h = refl
longs_swapped it new (t ∷ ts) h = grind (arith, either_longs new t it (is_for it t) refl h, longs_swapped it new ts h)

pub longs_kept : (it : Unready) (new : TypeRef) (ts us : List TypeRef) (n : ℕ) → longs_in new ≡ 0 → us ≡ map (swapped it new) ts → n ≡ long_count (reverse ts) → n ≡ long_count (reverse us)
longs_kept it new ts us n h e known =
    known ∙ sym (longs_swapped it new (reverse ts) h) ∙ ap long_count (map_reversed (swapped it new) ts) ∙ ap (λ xs. long_count (reverse xs)) (sym e)

-- ---- new

pub made_before : (p : Program) (most at : ℕ) (f : FrameRef) → list_any (is_for (unready.New at)) f.stack ≡ true → None ≡ make most at (seen p f)
made_before p most at f h =
    ap (λ b. if b then None else pushed most (Uninit at) (record { locals = all_replaced (unready.New at) Top (map (named p) f.locals); stack = map (named p) f.stack; flag = f.flag }))
    (sym (any_named p (unready.New at) f.stack ∙ h))

pub made_anew : (p : Program) (most at : ℕ) (f : FrameRef) (locals : List VType) → list_any (is_for (unready.New at)) f.stack ≡ false →
    locals ≡ all_replaced (unready.New at) Top (map (named p) f.locals) →
    pushed most (Uninit at) (record { locals = locals; stack = map (named p) f.stack; flag = f.flag }) ≡ make most at (seen p f)
made_anew p most at f locals h e =
    ap (λ ls. pushed most (Uninit at) (record { locals = ls; stack = map (named p) f.stack; flag = f.flag })) e
    ∙ ap (λ b. if b then None else pushed most (Uninit at) (record { locals = all_replaced (unready.New at) Top (map (named p) f.locals); stack = map (named p) f.stack; flag = f.flag }))
    (sym (any_named p (unready.New at) f.stack ∙ h))

abbrev frame : List VType → List VType → Bool → Frame
frame locals stack flag = record { locals = locals; stack = stack; flag = flag }

pub same_frame : (ls ms xs ys : List VType) (flag : Bool) → ls ≡ ms → xs ≡ ys → frame ls xs flag ≡ frame ms ys flag
same_frame ls ms xs ys flag l x = ap (λ zs. frame zs xs flag) l ∙ ap (λ zs. frame ms zs flag) x
