-- Objects before their `<init>` and arrays, in frames of more precise types.
use Rattle.std.proofs.Common.{◌≡◌, ℕ, zero, suc, ◌-◌, Bool, true, false, List, [], ◌∷◌, Option, Some, None, refl, sym, ap, subst, ◌∙◌, arith}
use Rattle.std.specs.Prelude.{◌&&◌, ◌||◌, nat_lt, option_map, option_and_then, if◌then◌else◌}
use Rattle.std.specs.List.{list_any}
use Rattle.jparts.specs.declared.jcode.names.Element as items
use Rattle.jparts.specs.declared.jcode.names.Element.TheVariants as item
use Rattle.jparts.specs.declared.jcode.op_form.ArrayForm.TheVariants as arrays
use Rattle.jtypes.specs.declared.vtype.Name.{Name}
use Rattle.jtypes.specs.declared.vtype.Element.{Element}
use Rattle.jtypes.specs.declared.vtype.Element.TheVariants as elements
use Rattle.jtypes.specs.declared.vtype.ArrayType.{ArrayType}
use Rattle.jtypes.specs.declared.vtype.VType.{VType}
use Rattle.jtypes.specs.declared.vtype.VType.TheVariants.{Top, Int, Long, Null, UninitThis, Uninit, Object, Array, Ctx}
use Rattle.jtypes.specs.DescriptorElements.{alone, in_brackets}
use Rattle.jtypes.specs.Assignability.{array_fits, element_fits}
use Rattle.jtypes.specs.TypeFrames.{Frame, all_fit, implies, is_long}
use Rattle.jtypes.specs.ClassTrees.{Tree}
use Rattle.jresolution.specs.juses.InstructionMeanings.{CallMeaning}
use Rattle.jtyping.specs.declared.jrule.unready.Unready.{Unready}
use Rattle.jtyping.specs.declared.jrule.unready.Unready.TheVariants as unready
use Rattle.jtyping.specs.jrule.ArrayRule as array
use Rattle.jtyping.specs.jrule.ArrayRule.{component, loaded, loaded_on, operands}
use Rattle.jtyping.specs.jrule.StackEffects.{held_as, holds, is_int, same_items}
use Rattle.jtyping.specs.jrule.InstructionContext.{Here}
use Rattle.jtyping.specs.jrule.LocalRule.{is_top}
use Rattle.jtyping.specs.jrule.ObjectRule.{all_replaced, init, init_on, is_it, is_named, make, may_ready_this, readied}
use Rattle.jtyping.specs.ProofNames.{init_of, replaced}
use Rattle.jtyping.specs.jrule.StackOperands.{below, given, pushed, taken, with_stack}
use Rattle.jtyping.specs.jrule.PreciseFrames.{begins_with_top, item_precise, keeps_second, precise}
use Rattle.jtyping.specs.jrule.PoolEffects.{arguments}
use Rattle.jtyping.proofs.JruleProofs.Conjunctions.{and_true, both, implies_none, implies_part, implies_then}
use Rattle.jtyping.proofs.JruleProofs.PreciseTypes.{InOrder, at_array, at_object, item_itself, item_of, item_top, none_above, nothing, sharp_context, sharp_int, sharp_itself, sharp_long, sharp_new, sharp_null, sharp_of, sharp_this}
use Rattle.jtyping.proofs.JruleProofs.FramePrecision.{below_kept, Found, IsSharp, Keeps, LocalsSharp, StackSharp, found, given_kept, pushed_sharp, room_kept, taken_kept, then_kept}
use Rattle.jtyping.proofs.JruleProofs.SharpLocals.{begins_is, head_sharp, locals_of, more_left, more_right, second_kept, tail_sharp}

module _ (t : Tree) where
  -- the first type is more precise than the second, or the same
  abbrev Sharp : VType → VType → Type 0
  Sharp a b = precise t a b ≡ true

  -- and so on the stack
  abbrev SharpItem : VType → VType → Type 0
  SharpItem a b = item_precise t a b ≡ true

  -- either both are the same, or the second is Top, or both stand for no object before its `<init>` and the second isn't Top
  pub data Alike (a b : VType) : Type 0 where
    Equal : a ≡ b → Alike a b
    Loose : b ≡ Top → Alike a b
    Ready : ((it : Unready) → is_it it a ≡ false) → ((it : Unready) → is_it it b ≡ false) → is_top b ≡ false → Alike a b

  no_object : (c : Name) (it : Unready) → is_it it (Object c) ≡ false
  no_object c unready.This = refl
  no_object c (unready.New o) = refl

  no_array : (x : ArrayType) (it : Unready) → is_it it (Array x) ≡ false
  no_array x unready.This = refl
  no_array x (unready.New o) = refl

  no_null : (it : Unready) → is_it it Null ≡ false
  no_null unready.This = refl
  no_null (unready.New o) = refl

  no_top : (it : Unready) → is_it it Top ≡ false
  no_top unready.This = refl
  no_top (unready.New o) = refl

  alike : (a b : VType) → Sharp a b → Alike a b
  alike a Top s = Loose refl
  alike a Int s = Equal (sharp_int t a s)
  alike a Long s = Equal (sharp_long t a s)
  alike a Null s = Equal (sharp_null t a s)
  alike a UninitThis s = Equal (sharp_this t a s)
  alike a (Uninit o) s = Equal (sharp_new t a o s)
  alike a Ctx s = Equal (sharp_context t a s)
  alike a (Object d) s = at_object t (λ a. Alike a (Object d)) a d s (Ready no_null (no_object d) refl) (λ c w. Ready (no_object c) (no_object d) refl)
  alike a (Array y) s = at_array t (λ a. Alike a (Array y)) a y s (Ready no_null (no_array y) refl) (λ x w. Ready (no_array x) (no_array y) refl)

  -- ---- what is replaced

  stays : (it : Unready) (new a : VType) → is_it it a ≡ false → replaced it new a ≡ a
  stays it new a e = ap (λ b. if b then new else a) e

  module _ (o : InOrder t) (it : Unready) (new : VType) (short : is_long new ≡ false) where
    replaced_sharp : (a b : VType) → Sharp a b → Sharp (replaced it new a) (replaced it new b)
    replaced_sharp a b s = go (alike a b s)
      where
        go : Alike a b → Sharp (replaced it new a) (replaced it new b)
        go (Equal e) = subst (λ a. Sharp (replaced it new a) (replaced it new b)) (sym e) (sharp_itself t o (replaced it new b))
        go (Loose e) = subst (λ b. Sharp (replaced it new a) (replaced it new b)) (sym e) (subst (λ b. Sharp (replaced it new a) b) (sym (stays it new Top (no_top it))) refl)
        go (Ready f g n) = subst (λ x. Sharp x (replaced it new b)) (sym (stays it new a (f it))) (subst (λ y. Sharp a y) (sym (stays it new b (g it))) s)

    -- where Top comes for the second it comes for the first
    top_kept : (l : Bool) (a b : VType) → Sharp a b → implies (l && is_top b) (is_top a) ≡ true → implies (l && is_top (replaced it new b)) (is_top (replaced it new a)) ≡ true
    top_kept l a b s h = go (alike a b s)
      where
        still_top : is_top a ≡ true → is_top (replaced it new a) ≡ true
        still_top e = subst (λ a. is_top (replaced it new a) ≡ true) (sym (is a e)) (ap is_top (stays it new Top (no_top it)))
          where
            is : (a : VType) → is_top a ≡ true → a ≡ Top
            is Top e = refl
            is _ e = absurd (cc)

        go : Alike a b → implies (l && is_top (replaced it new b)) (is_top (replaced it new a)) ≡ true
        go (Equal e) = subst (λ a. implies (l && is_top (replaced it new b)) (is_top (replaced it new a)) ≡ true) (sym e) (implies_part l (is_top (replaced it new b)))
        go (Loose e) =
            subst (λ b. implies (l && is_top (replaced it new b)) (is_top (replaced it new a)) ≡ true) (sym e)
            (subst (λ b. implies (l && is_top b) (is_top (replaced it new a)) ≡ true) (sym (stays it new Top (no_top it)))
            (implies_then (l && true) (is_top a) (is_top (replaced it new a)) still_top (subst (λ b. implies (l && is_top b) (is_top a) ≡ true) e h)))
        go (Ready f g n) = ap (λ x. implies (l && x) (is_top (replaced it new a))) (ap is_top (stays it new b (g it)) ∙ n) ∙ implies_none l (is_top (replaced it new a))

    same_size : (b : VType) → is_long (replaced it new b) ≡ is_long b
    same_size b = go it b
      where
        either : (x : Bool) (a : VType) → is_long a ≡ false → is_long (if x then new else a) ≡ is_long a
        either true a e = short ∙ sym e
        either false a e = refl

        go : (it : Unready) (b : VType) → is_long (replaced it new b) ≡ is_long b
        go it UninitThis = either (is_it it UninitThis) UninitThis refl
        go it (Uninit n) = either (is_it it (Uninit n)) (Uninit n) refl
        go it Int = either (is_it it Int) Int refl
        go it Null = either (is_it it Null) Null refl
        go it Top = either (is_it it Top) Top refl
        go it (Object c) = either (is_it it (Object c)) (Object c) refl
        go it (Array x) = either (is_it it (Array x)) (Array x) refl
        go it Ctx = either (is_it it Ctx) Ctx refl
        go unready.This Long = refl
        go (unready.New n) Long = refl

    tops_kept : (y : VType) (xs ys : List VType) → LocalsSharp t xs ys → keeps_second y xs ys ≡ true → keeps_second (replaced it new y) (all_replaced it new xs) (all_replaced it new ys) ≡ true
    tops_kept y xs ys s h = ap (λ l. implies (l && begins_with_top (all_replaced it new ys)) (begins_with_top (all_replaced it new xs))) (same_size y) ∙ go xs ys s h
      where
        go : (xs ys : List VType) → LocalsSharp t xs ys → keeps_second y xs ys ≡ true → keeps_second y (all_replaced it new xs) (all_replaced it new ys) ≡ true
        go [] [] s h = h
        go [] (z ∷ ys) s h = absurd (more_right t z ys s)
        go (x ∷ xs) [] s h = absurd (more_left t x xs s)
        go (x ∷ xs) (z ∷ ys) s h =
            ap (λ p. implies (is_long y && p) (begins_with_top (all_replaced it new (x ∷ xs)))) (begins_is (replaced it new z) (all_replaced it new ys))
            ∙ ap (λ q. implies (is_long y && is_top (replaced it new z)) q) (begins_is (replaced it new x) (all_replaced it new xs))
            ∙ top_kept (is_long y) x z (head_sharp t x z xs ys s)
            (sym (ap (λ p. implies (is_long y && p) (begins_with_top (x ∷ xs))) (begins_is z ys) ∙ ap (λ q. implies (is_long y && is_top z) q) (begins_is x xs)) ∙ h)

    locals_replaced : (xs ys : List VType) → LocalsSharp t xs ys → LocalsSharp t (all_replaced it new xs) (all_replaced it new ys)
    locals_replaced [] [] s = s
    locals_replaced [] (y ∷ ys) s = absurd (more_right t y ys s)
    locals_replaced (x ∷ xs) [] s = absurd (more_left t x xs s)
    locals_replaced (x ∷ xs) (y ∷ ys) s =
        locals_of t (replaced it new x) (replaced it new y) (all_replaced it new xs) (all_replaced it new ys) (replaced_sharp x y (head_sharp t x y xs ys s))
        (tops_kept y xs ys (tail_sharp t x y xs ys s) (second_kept t x y xs ys s)) (locals_replaced xs ys (tail_sharp t x y xs ys s))

    stack_replaced : (xs ys : List VType) → StackSharp t xs ys → StackSharp t (all_replaced it new xs) (all_replaced it new ys)
    unfolding all_fit
    stack_replaced [] [] s = refl
    stack_replaced [] (y ∷ ys) s = absurd (cc)
    stack_replaced (x ∷ xs) [] s = absurd (cc)
    stack_replaced (x ∷ xs) (y ∷ ys) s =
        let parts = both (item_precise t x y) (all_fit (item_precise t) xs ys) s in
        let one = both (precise t x y) (implies (is_top y) (is_top x)) parts.0 in
        and_true (item_precise t (replaced it new x) (replaced it new y)) (all_fit (item_precise t) (all_replaced it new xs) (all_replaced it new ys))
        (and_true (precise t (replaced it new x) (replaced it new y)) (implies (is_top (replaced it new y)) (is_top (replaced it new x))) (replaced_sharp x y one.0) (top_kept true x y one.0 one.1))
        (stack_replaced xs ys parts.1)

  -- ---- new

  same_it : (it : Unready) (a b : VType) → SharpItem a b → is_it it a ≡ is_it it b
  same_it it a b i = go (alike a b (sharp_of t a b i))
    where
      go : Alike a b → is_it it a ≡ is_it it b
      go (Equal e) = ap (is_it it) e
      go (Loose e) = ap (is_it it) (item_top t a (subst (λ b. SharpItem a b) e i) ∙ sym e)
      go (Ready f g n) = f it ∙ sym (g it)

  same_any : (it : Unready) (xs ys : List VType) → StackSharp t xs ys → list_any (is_it it) xs ≡ list_any (is_it it) ys
  unfolding all_fit
  same_any it [] [] s = refl
  same_any it [] (y ∷ ys) s = absurd (cc)
  same_any it (x ∷ xs) [] s = absurd (cc)
  same_any it (x ∷ xs) (y ∷ ys) s =
      let parts = both (item_precise t x y) (all_fit (item_precise t) xs ys) s in
      ap (λ b. b || list_any (is_it it) xs) (same_it it x y parts.0) ∙ ap (λ b. is_it it y || b) (same_any it xs ys parts.1)

  abbrev frame : List VType → List VType → Bool → Frame
  frame locals stack flag = record { locals = locals; stack = stack; flag = flag }

  pub make_kept : (o : InOrder t) (most at : ℕ) → Keeps t (make most at)
  make_kept o most at a b c sharp e = go (list_any (is_it (unready.New at)) b.stack) refl e
    where
      without : Frame → Frame
      without f = frame (all_replaced (unready.New at) Top f.locals) f.stack f.flag

      go : (w : Bool) → list_any (is_it (unready.New at)) b.stack ≡ w →
          (if w then None else pushed most (Uninit at) (frame (all_replaced (unready.New at) Top b.locals) b.stack b.flag)) ≡ Some c → Found t (make most at) a c
      go true w h = absurd (cc)
      go false w h =
          let left : IsSharp t (frame (all_replaced (unready.New at) Top a.locals) a.stack a.flag) (frame (all_replaced (unready.New at) Top b.locals) b.stack b.flag) =
          record { locals = locals_replaced o (unready.New at) Top refl a.locals b.locals sharp.locals; stack = sharp.stack; flag = sharp.flag } in
          let r = room_kept t most (frame (all_replaced (unready.New at) Top a.locals) a.stack a.flag) (frame (all_replaced (unready.New at) Top b.locals) b.stack b.flag) c
          (Uninit at ∷ a.stack) (Uninit at ∷ b.stack) left (pushed_sharp t (Uninit at) (Uninit at) a.stack b.stack (item_itself t o (Uninit at)) sharp.stack) h in
          record {
            frame = r.frame;
            is = ap (λ w. if w then None else pushed most (Uninit at) (frame (all_replaced (unready.New at) Top a.locals) a.stack a.flag)) (same_any (unready.New at) a.stack b.stack sharp.stack ∙ w) ∙ r.is;
            sharp = r.sharp;
          }

  -- ---- calls of an `<init>`

  readied_sharp : (o : InOrder t) (it : Unready) (class : Name) (flag flag' : Bool) (xs ys us vs : List VType) → implies flag flag' ≡ true → LocalsSharp t xs ys → StackSharp t us vs →
      IsSharp t (readied it class flag xs us) (readied it class flag' ys vs)
  readied_sharp o it class flag flag' xs ys us vs f l s = record {
    locals = locals_replaced o it (Object class) refl xs ys l;
    stack = stack_replaced o it (Object class) refl us vs s;
    flag = f;
  }

  if_found : (r : Frame → Option Frame) (a b c d : Frame) (w : Bool) → r a ≡ (if w then Some d else None) → IsSharp t d b → (if w then Some b else None) ≡ Some c → Found t r a c
  if_found r a b c d true is sharp h = found t r a d b c is sharp h
  if_found r a b c d false is sharp h = absurd (cc)

  init_of_kept : (o : InOrder t) (here : Here) (owner : Name) → Keeps t (init_of here owner)
  unfolding all_fit
  init_of_kept o here owner a b c sharp e = go a.stack b.stack refl sharp.stack e
    where
      go : (xs ys : List VType) → a.stack ≡ xs → StackSharp t xs ys → init_on here owner b ys ≡ Some c → Found t (init_of here owner) a c
      go xs [] at s h = absurd (cc)
      go [] (y ∷ ys) at s h = absurd (cc)
      go (x ∷ xs) (Uninit n ∷ ys) at s h =
          let parts = both (item_precise t x (Uninit n)) (all_fit (item_precise t) xs ys) s in
          if_found (init_of here owner) a (readied (unready.New n) owner b.flag b.locals ys) c (readied (unready.New n) owner a.flag a.locals xs) (is_named owner (here.makes n))
          (ap (init_on here owner a) (at ∙ ap (λ x. x ∷ xs) (sharp_new t x n (sharp_of t x (Uninit n) parts.0))))
          (readied_sharp o (unready.New n) owner a.flag b.flag a.locals b.locals xs ys sharp.flag sharp.locals parts.1) h
      go (x ∷ xs) (UninitThis ∷ ys) at s h =
          let parts = both (item_precise t x UninitThis) (all_fit (item_precise t) xs ys) s in
          if_found (init_of here owner) a (readied unready.This here.class false b.locals ys) c (readied unready.This here.class false a.locals xs) (may_ready_this here owner)
          (ap (init_on here owner a) (at ∙ ap (λ x. x ∷ xs) (sharp_this t x (sharp_of t x UninitThis parts.0))))
          (readied_sharp o unready.This here.class false false a.locals b.locals xs ys refl sharp.locals parts.1) h
      go (x ∷ xs) (Top ∷ ys) at s h = absurd (cc)
      go (x ∷ xs) (Int ∷ ys) at s h = absurd (cc)
      go (x ∷ xs) (Long ∷ ys) at s h = absurd (cc)
      go (x ∷ xs) (Null ∷ ys) at s h = absurd (cc)
      go (x ∷ xs) (Object d ∷ ys) at s h = absurd (cc)
      go (x ∷ xs) (Array d ∷ ys) at s h = absurd (cc)
      go (x ∷ xs) (Ctx ∷ ys) at s h = absurd (cc)

  pub init_kept : (o : InOrder t) (here : Here) (m : CallMeaning) → Keeps t (init t here m)
  init_kept o here m =
      then_kept t (λ f. option_and_then (init_of here m.owner) (taken t (arguments m) f)) (given here.max_stack m.ret)
      (then_kept t (taken t (arguments m)) (init_of here m.owner) (taken_kept t o (arguments m)) (init_of_kept o here m.owner)) (given_kept t o here.max_stack m.ret)

  -- ---- arrays

  alone_sharp : (x y : Element) → element_fits t x y ≡ true → SharpItem (alone x) (alone y)
  alone_sharp elements.Boolean elements.Boolean h = refl
  alone_sharp elements.Char elements.Char h = refl
  alone_sharp elements.Byte elements.Byte h = refl
  alone_sharp elements.Short elements.Short h = refl
  alone_sharp elements.Int elements.Int h = refl
  alone_sharp elements.Long elements.Long h = refl
  alone_sharp (elements.Class c) (elements.Class d) h = item_of t (Object c) (Object d) h refl
  alone_sharp _ _ h = absurd (cc)

  one_less : (d : ℕ) → suc d ≡ suc (suc d) - 1
  one_less d = omega arith

  component_sharp : (d e : ℕ) (x y : Element) → array_fits nothing t d x e y ≡ true → SharpItem (in_brackets (d - 1) x) (in_brackets (e - 1) y)
  unfolding array_fits
  component_sharp zero zero x y h = alone_sharp x y h
  component_sharp zero (suc e) x y h = absurd (cc)
  component_sharp (suc d) zero x y h = absurd (none_above t y h)
  component_sharp (suc zero) (suc zero) x y h = alone_sharp x y h
  component_sharp (suc zero) (suc (suc e)) x y h = absurd (cc)
  component_sharp (suc (suc d)) (suc zero) x y h = absurd (none_above t y h)
  component_sharp (suc (suc d)) (suc (suc e)) x y h =
      subst (λ n. SharpItem (in_brackets n x) (in_brackets (suc (suc e) - 1) y)) (one_less d)
      (subst (λ n. SharpItem (in_brackets (suc d) x) (in_brackets n y)) (one_less e)
      (item_of t (Array (record { depth = suc d; element = x })) (Array (record { depth = suc e; element = y })) h refl))

  null_alone : (x : Element) → same_items item.Ref (held_as x) ≡ true → SharpItem Null (alone x)
  null_alone (elements.Class c) h = refl
  null_alone elements.Boolean h = absurd (cc)
  null_alone elements.Char h = absurd (cc)
  null_alone elements.Byte h = absurd (cc)
  null_alone elements.Short h = absurd (cc)
  null_alone elements.Int h = absurd (cc)
  null_alone elements.Long h = absurd (cc)

  null_component : (d : ℕ) (x : Element) → same_items item.Ref (if nat_lt 1 d then item.Ref else held_as x) ≡ true → SharpItem Null (in_brackets (d - 1) x)
  null_component zero x h = null_alone x h
  null_component (suc zero) x h = null_alone x h
  null_component (suc (suc d)) x h = subst (λ n. SharpItem Null (in_brackets n x)) (one_less d) refl

  loaded_sharp : (e : items.Element) (a b : VType) → Sharp a b → holds e b ≡ true → SharpItem (loaded e a) (loaded e b)
  loaded_sharp item.Int a b s h = refl
  loaded_sharp item.Byte a b s h = refl
  loaded_sharp item.Char a b s h = refl
  loaded_sharp item.Short a b s h = refl
  loaded_sharp item.Long a b s h = refl
  loaded_sharp item.Ref a Null s h = subst (λ a. SharpItem (loaded item.Ref a) Null) (sym (sharp_null t a s)) refl
  loaded_sharp item.Ref a (Array y) s h =
      at_array t (λ a. SharpItem (loaded item.Ref a) (component y)) a y s (null_component y.depth y.element h) (λ x w. component_sharp x.depth y.depth x.element y.element w)
  loaded_sharp item.Ref a Top s h = absurd (cc)
  loaded_sharp item.Ref a Int s h = absurd (cc)
  loaded_sharp item.Ref a Long s h = absurd (cc)
  loaded_sharp item.Ref a UninitThis s h = absurd (cc)
  loaded_sharp item.Ref a (Uninit n) s h = absurd (cc)
  loaded_sharp item.Ref a (Object c) s h = absurd (cc)
  loaded_sharp item.Ref a Ctx s h = absurd (cc)

  -- the array lies below the index
  loaded_on_sharp : (e : items.Element) (xs ys zs : List VType) → StackSharp t xs ys → below t (operands e (arrays.Load e)) ys ≡ Some zs → SharpItem (loaded_on e xs) (loaded_on e ys)
  unfolding below all_fit
  loaded_on_sharp e xs [] zs s h = absurd (cc)
  loaded_on_sharp e [] (y ∷ ys) zs s h = absurd (cc)
  loaded_on_sharp e (x ∷ xs) (y ∷ []) zs s h = absurd (lacks (is_int y) h)
    where
      lacks : (b : Bool) → (if b then None else None) ≡ Some zs → ⊥
      lacks true h = cc
      lacks false h = cc
  loaded_on_sharp e (x ∷ []) (y ∷ z ∷ ys) zs s h = absurd (lacks (item_precise t x y) s)
    where
      lacks : (b : Bool) → (b && false) ≡ true → ⊥
      lacks true h = cc
      lacks false h = cc
  loaded_on_sharp e (x ∷ w ∷ xs) (y ∷ z ∷ ys) zs s h = loaded_sharp e w z (sharp_of t w z second.0) (held (is_int y) (holds e z) h)
    where
      rest : (item_precise t w z && all_fit (item_precise t) xs ys) ≡ true
      rest = (both (item_precise t x y) (item_precise t w z && all_fit (item_precise t) xs ys) s).1

      second : (item_precise t w z ≡ true) × (all_fit (item_precise t) xs ys ≡ true)
      second = both (item_precise t w z) (all_fit (item_precise t) xs ys) rest

      held : (b c : Bool) → (if b then (if c then Some ys else None) else None) ≡ Some zs → c ≡ true
      held b true h = refl
      held true false h = absurd (cc)
      held false false h = absurd (cc)

  pub array_load_kept : (o : InOrder t) (most : ℕ) (e : items.Element) → Keeps t (array.load t most e)
  unfolding taken
  array_load_kept o most e a b c sharp h = go (below t (operands e (arrays.Load e)) b.stack) refl h
    where
      go : (r : Option (List VType)) → below t (operands e (arrays.Load e)) b.stack ≡ r →
          option_and_then (pushed most (loaded_on e b.stack)) (option_map (with_stack b) r) ≡ Some c → Found t (array.load t most e) a c
      go None is h = absurd (cc)
      go (Some zs) is h =
          let rest = below_kept t o (operands e (arrays.Load e)) a.stack b.stack zs sharp.stack is in
          let i = loaded_on_sharp e a.stack b.stack zs sharp.stack is in
          let left : IsSharp t (with_stack a rest.0) (with_stack b zs) = record { locals = sharp.locals; stack = rest.2; flag = sharp.flag } in
          let r = room_kept t most (with_stack a rest.0) (with_stack b zs) c (loaded_on e a.stack ∷ rest.0) (loaded_on e b.stack ∷ zs) left
          (pushed_sharp t (loaded_on e a.stack) (loaded_on e b.stack) rest.0 zs i rest.2) h in
          record {
            frame = r.frame;
            is = ap (λ r. option_and_then (pushed most (loaded_on e a.stack)) (option_map (with_stack a) r)) rest.1 ∙ r.is;
            sharp = r.sharp;
          }
