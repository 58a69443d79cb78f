-- What stands in a pool stays where the pool grows.
use Rattle.std.proofs.Common.{◌≡◌, ℕ, zero, suc, Bool, true, false, List, [], ◌∷◌, ◌++◌, Option, Some, None, refl, sym, ap, subst, ◌∙◌}
use Rattle.std.specs.Prelude.{IsTrue, is_some, slice_get, option_and_then}
use Rattle.jparts.specs.declared.jpool.entry.Entry.{Entry}
use Rattle.jparts.specs.jpool.ConstantPools.{class_name_at, is_class, is_utf8, utf8_at}
use Rattle.jmove.specs.PoolAdditions.{IsFront}
use Rattle.jparts.specs.jpool.PoolEntries.{utf8_parts, class_parts}

pub get_front : {A : Type 0} (xs ys : List A) (i : ℕ) (x : A) → slice_get xs i ≡ Some x → slice_get (xs ++ ys) i ≡ Some x
get_front [] ys i x h = absurd cc
get_front (z ∷ xs) ys zero x h = h
get_front (z ∷ xs) ys (suc i) x h = get_front xs ys i x h

pub at_front : (pool whole : List Entry) → IsFront pool whole → (i : ℕ) (e : Entry) → slice_get pool i ≡ Some e → slice_get whole i ≡ Some e
at_front pool whole f i e h = subst (λ (w : List Entry). slice_get w i ≡ Some e) (sym f.is) (get_front pool f.rest i e h)

there_then : (pool whole : List Entry) → IsFront pool whole → (i : ℕ) (o : Option Entry) → slice_get pool i ≡ o → IsTrue (is_some o) → slice_get whole i ≡ slice_get pool i
there_then pool whole f i None e h = absurd cc
there_then pool whole f i (Some x) e h = at_front pool whole f i x e ∙ sym e

-- where something stands
pub same_at : (pool whole : List Entry) → IsFront pool whole → (i : ℕ) → IsTrue (is_some (slice_get pool i)) → slice_get whole i ≡ slice_get pool i
same_at pool whole f i h = there_then pool whole f i (slice_get pool i) refl h

-- what passes a test that nothing else passes is there
pub is_there : {A : Type 0} (test : Option A → Bool) (o : Option A) → test None ≡ false → IsTrue (test o) → IsTrue (is_some o)
is_there test None n h = let no : true ≡ false = sym h ∙ n in absurd cc
is_there test (Some e) n h = refl

-- where an entry passes a test
pub kept_test : (pool whole : List Entry) → IsFront pool whole → (test : Option Entry → Bool) → test None ≡ false → (i : ℕ) → IsTrue (test (slice_get pool i)) → slice_get whole i ≡ slice_get pool i
kept_test pool whole f test n i h = same_at pool whole f i (is_there test (slice_get pool i) n h)

pub test_stays : (pool whole : List Entry) → IsFront pool whole → (test : Option Entry → Bool) → test None ≡ false → (i : ℕ) → IsTrue (test (slice_get pool i)) → IsTrue (test (slice_get whole i))
test_stays pool whole f test n i h = ap test (kept_test pool whole f test n i h) ∙ h

-- ---- texts

pub utf8_stays : (pool whole : List Entry) → IsFront pool whole → (i : ℕ) → IsTrue (is_utf8 pool i) → IsTrue (is_utf8 whole i)
unfolding is_utf8
utf8_stays pool whole f i h = test_stays pool whole f (λ o. is_some (option_and_then utf8_parts o)) refl i h

pub same_text : (pool whole : List Entry) → IsFront pool whole → (i : ℕ) → IsTrue (is_utf8 pool i) → utf8_at whole i ≡ utf8_at pool i
unfolding is_utf8 utf8_at
same_text pool whole f i h = ap (option_and_then utf8_parts) (kept_test pool whole f (λ o. is_some (option_and_then utf8_parts o)) refl i h)

pub text_utf8 : (pool : List Entry) (i : ℕ) (text : List ℕ) → utf8_at pool i ≡ Some text → IsTrue (is_utf8 pool i)
unfolding is_utf8 utf8_at
text_utf8 pool i text h = ap is_some h

pub text_stays : (pool whole : List Entry) → IsFront pool whole → (i : ℕ) (text : List ℕ) → utf8_at pool i ≡ Some text → utf8_at whole i ≡ Some text
text_stays pool whole f i text h = same_text pool whole f i (text_utf8 pool i text h) ∙ h

-- ---- classes

pub class_stays : (pool whole : List Entry) → IsFront pool whole → (i : ℕ) → IsTrue (is_class pool i) → IsTrue (is_class whole i)
unfolding is_class
class_stays pool whole f i h = test_stays pool whole f (λ o. is_some (option_and_then class_parts o)) refl i h

named_stays : (pool whole : List Entry) → IsFront pool whole → (o : Option ℕ) (name : List ℕ) → option_and_then (utf8_at pool) o ≡ Some name → option_and_then (utf8_at whole) o ≡ Some name
named_stays pool whole f None name h = absurd cc
named_stays pool whole f (Some n) name h = text_stays pool whole f n name h

pub is_named : {A B : Type 0} (g : A → Option B) (o : Option A) (b : B) → option_and_then g o ≡ Some b → IsTrue (is_some o)
is_named g None b h = absurd cc
is_named g (Some a) b h = refl

pub class_name_stays : (pool whole : List Entry) → IsFront pool whole → (i : ℕ) (name : List ℕ) → class_name_at pool i ≡ Some name → class_name_at whole i ≡ Some name
unfolding class_name_at
class_name_stays pool whole f i name h =
    let same = kept_test pool whole f (λ o. is_some (option_and_then class_parts o)) refl i (is_named (utf8_at pool) (option_and_then class_parts (slice_get pool i)) name h) in
    ap (λ (o : Option Entry). option_and_then (utf8_at whole) (option_and_then class_parts o)) same ∙ named_stays pool whole f (option_and_then class_parts (slice_get pool i)) name h
