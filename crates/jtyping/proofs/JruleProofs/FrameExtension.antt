-- What the rule does to a frame it does to one with further locals, and with more room on the stack.
use Rattle.std.proofs.Common.{◌≡◌, ℕ, zero, suc, ◌+◌, ◌<◌, ◌≤◌, Bool, true, false, List, [], ◌∷◌, ◌++◌, length, Option, Some, None, nat_le, refl, ap, ◌∙◌, arith}
use Rattle.std.specs.Prelude.{◌&&◌, ◌||◌, option_map, option_and_then, slice_get, slice_set, if◌then◌else◌}
use Rattle.std.specs.List.{list_any}
use Rattle.std.proofs.lemmas.Grind.{common_steps}
use Rattle.std.proofs.lemmas.Bool.Decides.{nat_tests}
use Rattle.std.proofs.lemmas.List.{map-append, set-append_left}
use Rattle.jvalues.specs.declared.jnames.kinds.Kind.{Kind}
use Rattle.jvalues.specs.declared.jnames.names.Shuffle.{Shuffle}
use Rattle.jtypes.specs.declared.vtype.Name.{Name}
use Rattle.jtypes.specs.declared.vtype.VType.{VType}
use Rattle.jtypes.specs.declared.vtype.VType.TheVariants.{Top, Int, Long, Null, UninitThis, Uninit, Object, Array, Ctx}
use Rattle.jtypes.specs.TypeFrames.{Frame, is_long, places, within}
use Rattle.jtypes.specs.ClassTrees.{Tree}
use Rattle.jresolution.specs.juses.InstructionMeanings.{CallMeaning}
use Rattle.jtyping.specs.declared.jrule.unready.Unready.{Unready}
use Rattle.jtyping.specs.declared.jrule.unready.Unready.TheVariants as unready
use Rattle.jtyping.specs.jrule.StackEffects.{Exchange, Want, is_int, is_of}
use Rattle.jtyping.specs.jrule.FrameExtension.{is_unready, roomy, with_more}
use Rattle.jtyping.specs.jrule.InstructionContext.{Here}
use Rattle.jtyping.specs.jrule.LocalRule as locals
use Rattle.jtyping.specs.ProofNames
use Rattle.jtyping.specs.jrule.LocalRule.{broken, is_whole, passes, with_local, with_second}
use Rattle.jtyping.specs.jrule.StackMoveRule.{move}
use Rattle.jtyping.specs.ProofNames.{shuffled, init_of, replaced}
use Rattle.jtyping.specs.jrule.ObjectRule as objects
use Rattle.jtyping.specs.jrule.ObjectRule.{all_replaced, is_it, is_named, may_ready_this, readied}
use Rattle.jtyping.specs.jrule.StackOperands.{below, exchanged, given, pushed, taken, with_room, with_stack}
use Rattle.jtyping.specs.jrule.PoolEffects.{arguments}
use Rattle.jtyping.proofs.JruleProofs.Conjunctions.{and_true, both}
use Rattle.jtyping.proofs.JruleProofs.LocalWrites.{broken_length}

-- a step to frames, and one with further locals
abbrev pub Carries : List VType → (Frame → Option Frame) → (Frame → Option Frame) → Type 0
Carries more r s = (f g : Frame) → r f ≡ Some g → s (with_more more f) ≡ Some (with_more more g)

pub then_carried : (more : List VType) (r s r' s' : Frame → Option Frame) → Carries more r s → Carries more r' s' →
    Carries more (λ f. option_and_then r' (r f)) (λ f. option_and_then s' (s f))
then_carried more r s r' s' first second f g e = go (r f) refl e
  where
    go : (o : Option Frame) → r f ≡ o → option_and_then r' o ≡ Some g → option_and_then s' (s (with_more more f)) ≡ Some (with_more more g)
    go None is h = absurd (cc)
    go (Some h) is to = ap (option_and_then s') (first f h is) ∙ second h g to

-- ---- the stack

pub taken_carried : (more : List VType) (t : Tree) (ws : List Want) → Carries more (taken t ws) (taken t ws)
unfolding taken
taken_carried more t ws f g e = go (below t ws f.stack) e
  where
    go : (o : Option (List VType)) → option_map (with_stack f) o ≡ Some g → option_map (with_stack (with_more more f)) o ≡ Some (with_more more g)
    go None h = absurd (cc)
    go (Some stack) h = ap (option_map (with_more more)) h

room_wider : (few most : ℕ) (stack : List VType) → few ≤ most → within few stack ≡ true → within most stack ≡ true
room_wider few most stack le w = grind (arith, nat_tests)

pub room_carried : (more : List VType) (few most : ℕ) (f g : Frame) (stack : List VType) → few ≤ most →
    with_room few f stack ≡ Some g → with_room most (with_more more f) stack ≡ Some (with_more more g)
room_carried more few most f g stack le e = go (within few stack) refl e
  where
    go : (b : Bool) → within few stack ≡ b → (if b then Some (with_stack f stack) else None) ≡ Some g → with_room most (with_more more f) stack ≡ Some (with_more more g)
    go false w h = absurd (cc)
    go true w h =
        ap (λ b. if b then Some (with_stack (with_more more f) stack) else None) (room_wider few most stack le w)
        ∙ ap (option_map (with_more more)) h

pub given_carried : (more : List VType) (few most : ℕ) (a : Option VType) → few ≤ most → Carries more (given few a) (given most a)
given_carried more few most None le f g e = ap (option_map (with_more more)) e
given_carried more few most (Some a) le f g e = room_carried more few most f g (a ∷ f.stack) le e

pub exchanged_carried : (more : List VType) (t : Tree) (few most : ℕ) (e : Exchange) → few ≤ most → Carries more (exchanged t few e) (exchanged t most e)
exchanged_carried more t few most e le =
    then_carried more (taken t e.takes) (taken t e.takes) (given few e.gives) (given most e.gives) (taken_carried more t e.takes) (given_carried more few most e.gives le)

pub move_carried : (more : List VType) (few most : ℕ) (s : Shuffle) → few ≤ most → Carries more (move few s) (move most s)
move_carried more few most s le f g e = go (shuffled s f.stack) e
  where
    go : (o : Option (List VType)) → option_and_then (with_room few f) o ≡ Some g → option_and_then (with_room most (with_more more f)) o ≡ Some (with_more more g)
    go None h = absurd (cc)
    go (Some stack) h = room_carried more few most f g stack le h

-- ---- locals

get_front : (xs more : List VType) (n : ℕ) (a : VType) → slice_get xs n ≡ Some a → slice_get (xs ++ more) n ≡ Some a
get_front [] more n a e = absurd (cc)
get_front (x ∷ xs) more zero a e = e
get_front (x ∷ xs) more (suc n) a e = get_front xs more n a e

get_same : (xs more : List VType) (n : ℕ) → n < length xs → slice_get (xs ++ more) n ≡ slice_get xs n
get_same [] more n lt = absurd (omega (arith, lt))
get_same (x ∷ xs) more zero lt = refl
get_same (x ∷ xs) more (suc n) lt = get_same xs more n (omega (arith, lt))

passes_front : (test : VType → Bool) (xs more : List VType) (n : ℕ) → passes test (slice_get xs n) ≡ true → passes test (slice_get (xs ++ more) n) ≡ true
passes_front test [] more n e = absurd (cc)
passes_front test (x ∷ xs) more zero e = e
passes_front test (x ∷ xs) more (suc n) e = passes_front test xs more n e

whole_front : (xs more : List VType) (n : ℕ) (a : VType) → is_whole xs n a ≡ true → is_whole (xs ++ more) n a ≡ true
whole_front xs more n a e = go (is_long a) e
  where
    go : (b : Bool) → (if b then passes locals.is_top (slice_get xs (n + 1)) else true) ≡ true → (if b then passes locals.is_top (slice_get (xs ++ more) (n + 1)) else true) ≡ true
    go true h = passes_front locals.is_top xs more (n + 1) h
    go false h = refl

pub load_carried : (more : List VType) (few most : ℕ) (k : Kind) (n : ℕ) → few ≤ most → Carries more (ProofNames.load few k n) (ProofNames.load most k n)
load_carried more few most k n le f g e = at (slice_get f.locals n) refl e
  where
    on : (a : VType) → slice_get (f.locals ++ more) n ≡ Some a → (b : Bool) → (is_of k a && is_whole f.locals n a) ≡ b →
        (if b then pushed few a f else None) ≡ Some g → ProofNames.load most k n (with_more more f) ≡ Some (with_more more g)
    on a is false w h = absurd (cc)
    on a is true w h =
        let parts = both (is_of k a) (is_whole f.locals n a) w in
        ap (locals.load_from most k n (with_more more f)) is
        ∙ ap (λ b. if b then pushed most a (with_more more f) else None) (and_true (is_of k a) (is_whole (f.locals ++ more) n a) parts.0 (whole_front f.locals more n a parts.1))
        ∙ room_carried more few most f g (a ∷ f.stack) le h

    at : (o : Option VType) → slice_get f.locals n ≡ o → locals.load_from few k n f o ≡ Some g → ProofNames.load most k n (with_more more f) ≡ Some (with_more more g)
    at None is h = absurd (cc)
    at (Some a) is h = on a (get_front f.locals more n a is) (is_of k a && is_whole f.locals n a) refl h

-- ---- stores

set_front : (xs more : List VType) (n : ℕ) (a : VType) → n < length xs → slice_set (xs ++ more) n a ≡ slice_set xs n a ++ more
set_front xs more n a lt = set-append_left xs more n a lt

broken_front : (xs more : List VType) (n : ℕ) → n < length xs → broken (xs ++ more) n ≡ broken xs n ++ more
broken_front xs more zero lt = refl
broken_front xs more (suc n) lt =
    ap (λ o. if passes is_long o then slice_set (xs ++ more) n Top else xs ++ more) (get_same xs more n (omega (arith, lt))) ∙ go (passes is_long (slice_get xs n))
  where
    go : (b : Bool) → (if b then slice_set (xs ++ more) n Top else xs ++ more) ≡ (if b then slice_set xs n Top else xs) ++ more
    go true = set_front xs more n Top (omega (arith, lt))
    go false = refl

second_front : (xs more : List VType) (n : ℕ) (a : VType) → n + length (places a) ≤ length xs → with_second a n (xs ++ more) ≡ with_second a n xs ++ more
second_front xs more n a le = go (is_long a) le
  where
    go : (b : Bool) → n + length (if b then a ∷ Top ∷ [] else a ∷ []) ≤ length xs →
        (if b then slice_set (xs ++ more) (n + 1) Top else xs ++ more) ≡ (if b then slice_set xs (n + 1) Top else xs) ++ more
    go true h = set_front xs more (n + 1) Top (omega (arith, h))
    go false h = refl

some_place : (n m : ℕ) (a : VType) → n + length (places a) ≤ m → n < m
some_place n m a le = go (is_long a) le
  where
    go : (b : Bool) → n + length (if b then a ∷ Top ∷ [] else a ∷ []) ≤ m → n < m
    go true h = omega (arith, h)
    go false h = omega (arith, h)

set_length : (xs : List VType) (n : ℕ) (a : VType) → length (slice_set xs n a) ≡ length xs
set_length xs n a = grind (arith, common_steps)

local_front : (xs more : List VType) (n : ℕ) (a : VType) → n + length (places a) ≤ length xs → with_local (xs ++ more) n a ≡ with_local xs n a ++ more
unfolding with_local
local_front xs more n a le =
    let within = some_place n (length xs) a le in
    let whole : length (slice_set (broken xs n) n a) ≡ length xs = set_length (broken xs n) n a ∙ broken_length xs n in
    ap (λ ys. with_second a n (slice_set ys n a)) (broken_front xs more n within)
    ∙ ap (with_second a n) (set_front (broken xs n) more n a (let l = broken_length xs n in omega arith))
    ∙ second_front (slice_set (broken xs n) n a) more n a (omega arith)

pub store_carried : (more : List VType) (k : Kind) (n : ℕ) → Carries more (ProofNames.store k n) (ProofNames.store k n)
store_carried more k n f g e = on f.stack e
  where
    wide : (m : ℕ) → nat_le m (length f.locals) ≡ true → nat_le m (length (f.locals ++ more)) ≡ true
    wide m h = grind (arith, common_steps, nat_tests)

    small : (m : ℕ) → nat_le m (length f.locals) ≡ true → m ≤ length f.locals
    small m h = grind (arith, nat_tests)

    when : (a : VType) (stack : List VType) (b : Bool) → (is_of k a && nat_le (n + length (places a)) (length f.locals)) ≡ b →
        (if b then Some (record { locals = with_local f.locals n a; stack = stack; flag = f.flag }) else None) ≡ Some g →
        locals.store_on k n (with_more more f) (a ∷ stack) ≡ Some (with_more more g)
    when a stack false w h = absurd (cc)
    when a stack true w h =
        let parts = both (is_of k a) (nat_le (n + length (places a)) (length f.locals)) w in
        ap (λ (b : Bool). if b then Some (record { locals = with_local (f.locals ++ more) n a; stack = stack; flag = f.flag }) else None)
        (and_true (is_of k a) (nat_le (n + length (places a)) (length (f.locals ++ more))) parts.0 (wide (n + length (places a)) parts.1))
        ∙ ap (λ ls. Some (record { locals = ls; stack = stack; flag = f.flag })) (local_front f.locals more n a (small (n + length (places a)) parts.1))
        ∙ ap (option_map (with_more more)) h

    on : (stack : List VType) → locals.store_on k n f stack ≡ Some g → locals.store_on k n (with_more more f) stack ≡ Some (with_more more g)
    on [] h = absurd (cc)
    on (a ∷ stack) h = when a stack (is_of k a && nat_le (n + length (places a)) (length f.locals)) refl h

pub increment_carried : (more : List VType) (n : ℕ) → Carries more (locals.increment n) (locals.increment n)
increment_carried more n f g e = go (passes is_int (slice_get f.locals n)) refl e
  where
    go : (b : Bool) → passes is_int (slice_get f.locals n) ≡ b → (if b then Some f else None) ≡ Some g → locals.increment n (with_more more f) ≡ Some (with_more more g)
    go false w h = absurd (cc)
    go true w h = ap (λ b. if b then Some (with_more more f) else None) (passes_front is_int f.locals more n w) ∙ ap (option_map (with_more more)) h

-- ---- objects

-- what is no object before its `<init>` stays
stays : (it : Unready) (new a : VType) → is_unready a ≡ false → replaced it new a ≡ a
stays unready.This new UninitThis e = absurd (cc)
stays (unready.New o) new UninitThis e = absurd (cc)
stays it new (Uninit at) e = absurd (cc)
stays unready.This new Top e = refl
stays unready.This new Int e = refl
stays unready.This new Long e = refl
stays unready.This new Null e = refl
stays unready.This new (Object c) e = refl
stays unready.This new (Array a) e = refl
stays unready.This new Ctx e = refl
stays (unready.New o) new Top e = refl
stays (unready.New o) new Int e = refl
stays (unready.New o) new Long e = refl
stays (unready.New o) new Null e = refl
stays (unready.New o) new (Object c) e = refl
stays (unready.New o) new (Array a) e = refl
stays (unready.New o) new Ctx e = refl

all_stay : (it : Unready) (new : VType) (more : List VType) → list_any is_unready more ≡ false → all_replaced it new more ≡ more
all_stay it new [] e = refl
all_stay it new (a ∷ more) e = go (is_unready a) refl e (all_stay it new more)
  where
    rest : (b c : Bool) → b ≡ false → (b || c) ≡ false → c ≡ false
    rest b c e h = cc

    none : (b c : Bool) → b ≡ true → (b || c) ≡ false → ⊥
    none b c e h = cc

    go : (b : Bool) → is_unready a ≡ b → list_any is_unready (a ∷ more) ≡ false → (list_any is_unready more ≡ false → all_replaced it new more ≡ more) →
        all_replaced it new (a ∷ more) ≡ a ∷ more
    go true w h ih = absurd (none (is_unready a) (list_any is_unready more) w h)
    go false w h ih =
        ap (λ x. x ∷ all_replaced it new more) (stays it new a w) ∙ ap (λ xs. a ∷ xs) (ih (rest (is_unready a) (list_any is_unready more) w h))

replaced_front : (it : Unready) (new : VType) (xs more : List VType) → list_any is_unready more ≡ false → all_replaced it new (xs ++ more) ≡ all_replaced it new xs ++ more
replaced_front it new xs more e = map-append (replaced it new) xs more ∙ ap (λ ys. all_replaced it new xs ++ ys) (all_stay it new more e)

abbrev frame : List VType → List VType → Bool → Frame
frame locals stack flag = record { locals = locals; stack = stack; flag = flag }

pub make_carried : (more : List VType) (few most at : ℕ) → few ≤ most → list_any is_unready more ≡ false → Carries more (objects.make few at) (objects.make most at)
make_carried more few most at le none f g e = go (list_any (is_it (unready.New at)) f.stack) e
  where
    go : (b : Bool) → (if b then None else pushed few (Uninit at) (frame (all_replaced (unready.New at) Top f.locals) f.stack f.flag)) ≡ Some g →
        (if b then None else pushed most (Uninit at) (frame (all_replaced (unready.New at) Top (f.locals ++ more)) f.stack f.flag)) ≡ Some (with_more more g)
    go true h = absurd (cc)
    go false h =
        ap (λ ls. pushed most (Uninit at) (frame ls f.stack f.flag)) (replaced_front (unready.New at) Top f.locals more none)
        ∙ room_carried more few most (frame (all_replaced (unready.New at) Top f.locals) f.stack f.flag) g (Uninit at ∷ f.stack) le h

readied_carried : (more : List VType) (it : Unready) (class : Name) (flag : Bool) (ls stack : List VType) → list_any is_unready more ≡ false →
    readied it class flag (ls ++ more) stack ≡ with_more more (readied it class flag ls stack)
readied_carried more it class flag ls stack none = ap (λ ms. frame ms (all_replaced it (Object class) stack) flag) (replaced_front it (Object class) ls more none)

if_carried : (more : List VType) (b : Bool) (f h g : Frame) → h ≡ with_more more f → (if b then Some f else None) ≡ Some g → (if b then Some h else None) ≡ Some (with_more more g)
if_carried more false f h g is e = absurd (cc)
if_carried more true f h g is e = ap Some is ∙ ap (option_map (with_more more)) e

init_of_carried : (more : List VType) (here : Here) (most : ℕ) (owner : Name) → list_any is_unready more ≡ false → Carries more (init_of here owner) (init_of (roomy most here) owner)
init_of_carried more here most owner none f g e = on f.stack e
  where
    on : (stack : List VType) → objects.init_on here owner f stack ≡ Some g → objects.init_on (roomy most here) owner (with_more more f) stack ≡ Some (with_more more g)
    on [] h = absurd (cc)
    on (Uninit o ∷ stack) h =
        if_carried more (is_named owner (here.makes o)) (readied (unready.New o) owner f.flag f.locals stack) (readied (unready.New o) owner f.flag (f.locals ++ more) stack) g
        (readied_carried more (unready.New o) owner f.flag f.locals stack none) h
    on (UninitThis ∷ stack) h =
        if_carried more (may_ready_this here owner) (readied unready.This here.class false f.locals stack) (readied unready.This here.class false (f.locals ++ more) stack) g
        (readied_carried more unready.This here.class false f.locals stack none) h
    on (Top ∷ stack) h = absurd (cc)
    on (Int ∷ stack) h = absurd (cc)
    on (Long ∷ stack) h = absurd (cc)
    on (Null ∷ stack) h = absurd (cc)
    on (Object c ∷ stack) h = absurd (cc)
    on (Array a ∷ stack) h = absurd (cc)
    on (Ctx ∷ stack) h = absurd (cc)

pub init_carried : (more : List VType) (t : Tree) (here : Here) (most : ℕ) (c : CallMeaning) → here.max_stack ≤ most → list_any is_unready more ≡ false →
    Carries more (objects.init t here c) (objects.init t (roomy most here) c)
init_carried more t here most c le none =
    then_carried more (λ f. option_and_then (init_of here c.owner) (taken t (arguments c) f)) (λ f. option_and_then (init_of (roomy most here) c.owner) (taken t (arguments c) f))
    (given here.max_stack c.ret) (given most c.ret)
    (then_carried more (taken t (arguments c)) (taken t (arguments c)) (init_of here c.owner) (init_of (roomy most here) c.owner)
    (taken_carried more t (arguments c)) (init_of_carried more here most c.owner none))
    (given_carried more here.max_stack most c.ret le)
