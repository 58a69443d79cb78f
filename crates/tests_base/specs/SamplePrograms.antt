-- A program of few classes, which the tests run over: `p/B` extends `p/A`, and `p/I` is an interface.
use Rattle.std.specs.Prelude.{◌≡◌, ℕ, Bool, true, false, ◌||◌, ◌&&◌, List, codes}
use Rattle.std.specs.Str.{bytes_eq}
use Rattle.std.proofs.Common.{◌≢◌, ◌⊎◌, ⊎_elim, inl, inr, refl, sym, ◌∙◌, subst}
use mathlib.Core.Bool.{true≢false}
use Rattle.std.proofs.lemmas.Slice.Eq.{bytes_eq-Decides}
use Rattle.jtypes.specs.declared.vtype.Name.{Name}
use Rattle.jtypes.specs.ClassTrees.{Tree}

abbrev object : List ℕ
object = codes "java/lang/Object"

abbrev upper : List ℕ
upper = codes "p/A"

abbrev lower : List ℕ
lower = codes "p/B"

abbrev pub few_interface : List ℕ → Bool
few_interface c = bytes_eq c (codes "java/lang/Cloneable") || bytes_eq c (codes "java/io/Serializable") || bytes_eq c (codes "p/I")

abbrev stands_above : List ℕ → List ℕ → Bool
stands_above d c = bytes_eq d object || (bytes_eq c lower && bytes_eq d upper)

abbrev pub few_extends : List ℕ → List ℕ → Bool
few_extends c d = bytes_eq c d || stands_above d c

abbrev pub few : Tree
few = record { is_interface = λ c. few_interface c.0; extends = λ c d. few_extends c.0 d.0 }

either : (a b : Bool) → (a || b) ≡ true → (a ≡ true) ⊎ (b ≡ true)
either true b h = inl refl
either false b h = inr h

first_of : (a b : Bool) → a ≡ true → (a || b) ≡ true
first_of true b h = refl
first_of false b h = absurd (true≢false (sym h))

second_of : (a b : Bool) → b ≡ true → (a || b) ≡ true
second_of true b h = refl
second_of false b h = h

both : (a b : Bool) → (a && b) ≡ true → (a ≡ true) × (b ≡ true)
both true b h = (refl, h)
both false b h = absurd (true≢false (sym h))

same : (a b : List ℕ) → bytes_eq a b ≡ true → a ≡ b
same a b h = (bytes_eq-Decides a b).0 h

itself : (a : List ℕ) → bytes_eq a a ≡ true
itself a = (bytes_eq-Decides a a).1 refl

to_object : (c d : List ℕ) → bytes_eq d object ≡ true → few_extends c d ≡ true
to_object c d h = second_of (bytes_eq c d) (stands_above d c) (first_of (bytes_eq d object) (bytes_eq c lower && bytes_eq d upper) h)

-- a name that is one isn't another
apart : (x a b : List ℕ) → bytes_eq a b ≡ false → bytes_eq x a ≡ true → bytes_eq x b ≢ true
apart x a b h at other = true≢false (sym other ∙ subst (λ y. bytes_eq y b ≡ false) (sym (same x a at)) h)

-- nothing stands below the lower class
lowest : (c d : List ℕ) → bytes_eq d lower ≡ true → stands_above d c ≢ true
lowest c d low h = ⊎_elim
    (λ at. apart d lower object refl low at)
    (λ at. apart d lower upper refl low (both (bytes_eq c lower) (bytes_eq d upper) at).1)
    (either (bytes_eq d object) (bytes_eq c lower && bytes_eq d upper) h)

onward : (c d e : List ℕ) → stands_above d c ≡ true → stands_above e d ≡ true → few_extends c e ≡ true
onward c d e first second = ⊎_elim
    (λ at. to_object c e at)
    (λ at. absurd (lowest c d (both (bytes_eq d lower) (bytes_eq e upper) at).0 first))
    (either (bytes_eq e object) (bytes_eq d lower && bytes_eq e upper) second)

along : (c d e : List ℕ) → few_extends c d ≡ true → few_extends d e ≡ true → few_extends c e ≡ true
along c d e first second = ⊎_elim
    (λ at. subst (λ x. few_extends x e ≡ true) (sym (same c d at)) second)
    (λ above. ⊎_elim
    (λ at. subst (λ x. few_extends c x ≡ true) (same d e at) first)
    (λ further. onward c d e above further)
    (either (bytes_eq d e) (stands_above e d) second))
    (either (bytes_eq c d) (stands_above d c) first)

pub few_itself : (c : Name) → few.extends c c ≡ true
few_itself c = first_of (bytes_eq c.0 c.0) (stands_above c.0 c.0) (itself c.0)

pub few_chain : (c d e : Name) → few.extends c d ≡ true → few.extends d e ≡ true → few.extends c e ≡ true
few_chain c d e first second = along c.0 d.0 e.0 first second

pub few_object : (c d : Name) → d.0 ≡ codes "java/lang/Object" → few.extends c d ≡ true
few_object c d at = to_object c.0 d.0 (subst (λ x. bytes_eq x object ≡ true) (sym at) (itself object))

-- what is above an interface
above : (c d : List ℕ) → few_interface c ≡ true → few_extends c d ≡ true → (few_interface d ≡ true) ⊎ (d ≡ object)
above c d is ext = ⊎_elim
    (λ at. inl (subst (λ x. few_interface x ≡ true) (same c d at) is))
    (λ further. ⊎_elim
    (λ at. inr (same d object at))
    (λ at. absurd (true≢false (sym (subst (λ x. few_interface x ≡ true) (same c lower (both (bytes_eq c lower) (bytes_eq d upper) at).0) is))))
    (either (bytes_eq d object) (bytes_eq c lower && bytes_eq d upper) further))
    (either (bytes_eq c d) (stands_above d c) ext)

pub few_above : (c d : Name) → few.is_interface c ≡ true → few.extends c d ≡ true → (few.is_interface d ≡ true) ⊎ (d.0 ≡ codes "java/lang/Object")
few_above c d is ext = above c.0 d.0 is ext
