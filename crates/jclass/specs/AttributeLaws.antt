-- The laws of numbers, indices and constant values as formats, which the readers of blocks cite.
use Rattle.std.proofs.Common.{◌≡◌, ℕ, Bool, true, false, ◌⊎◌, List, ◌++◌, Ok, refl, subst, inl, inr}
use Rattle.std.specs.Prelude.{IsTrue}
use Rattle.std.specs.Int.{w16, w32}
use Rattle.jground.specs.declared.jformat.error.Fault.{Fault}
use Rattle.jground.specs.jformat.Format.{Format, unless}
use Rattle.jground.specs.jformat.BodyFormats.{Body, block}
use Rattle.jground.proofs.JformatProofs.FormatLaws.{Takes, IsFormat, wide16, wide32, number_law, such_law, ok_reading}
use Rattle.jground.proofs.JformatProofs.ReadingSteps.{bind_ok, ok_is}
use Rattle.jground.proofs.JformatProofs.Blocks.{IsBody, sized_law, block_law, whole_law}
use Rattle.jparts.specs.declared.jpool.entry.Entry.{Entry}
use Rattle.jclass.specs.declared.fault.ClassFault.{ClassFault}
use Rattle.jclass.specs.declared.fault.ClassFault.TheVariants.{Truncated, Trailing, Index}
use Rattle.jclass.specs.IndexFormats.{u2, u4, run, index, by_test}
use Rattle.jclass.specs.FlagRules.{suits_field}
use Rattle.jclass.specs.Attributes.{name_once, content, constant}

-- ---- numbers and indices

pub u2_law : IsFormat u2
u2_law = number_law w16 Truncated wide16

pub u4_law : IsFormat u4
u4_law = number_law w32 Truncated wide32

pub run_law : IsFormat run
run_law = sized_law u4 Truncated u4_law

pub index_law : (test : ℕ → Bool) → IsFormat (index test)
index_law test = such_law (λ i. unless (test i) Index) u2 u2_law

-- ---- one of two by a test

again_left : {A B : Type 0} (f : Format ClassFault A) (g : Format ClassFault B) → IsFormat f → (x : A ⊎ B) (rest : List ℕ)
    → IsTrue ((by_test true f g).fits x)
    → (by_test true f g).read ((by_test true f g).spell x ++ rest) ≡ Ok (x, rest)
again_left f g F (inl a) rest fit = rw (F.again a rest fit) refl
again_left f g F (inr b) rest fit = absurd cc

again_right : {A B : Type 0} (f : Format ClassFault A) (g : Format ClassFault B) → IsFormat g → (x : A ⊎ B) (rest : List ℕ)
    → IsTrue ((by_test false f g).fits x)
    → (by_test false f g).read ((by_test false f g).spell x ++ rest) ≡ Ok (x, rest)
again_right f g G (inl a) rest fit = absurd cc
again_right f g G (inr b) rest fit = rw (G.again b rest fit) refl

by_test_law : {A B : Type 0} (test : Bool) (f : Format ClassFault A) (g : Format ClassFault B) → IsFormat f → IsFormat g → IsFormat (by_test test f g)
by_test_law {A} {B} true f g F G = record {
  takes = λ bytes x fits e.
      let a = bind_ok (f.read bytes) (λ y. Ok (inl y.0, y.1)) x e in
      let s = F.takes bytes a.0 fits a.1 in
      let made : (A ⊎ B) × List ℕ = (inl a.0.0, a.0.1) in
      let same : made ≡ x = ok_is (Fault ClassFault) made x a.2 in
      let all : Takes (by_test true f g).spell (by_test true f g).fits bytes made =
      record { parts = s.parts; rest_fits = s.rest_fits; fit = s.fit } in
      subst (λ (y : (A ⊎ B) × List ℕ). Takes (by_test true f g).spell (by_test true f g).fits bytes y) same all;
  again = again_left f g F;
  reading = ok_reading f.read inl F.reading;
}
by_test_law {A} {B} false f g F G = record {
  takes = λ bytes x fits e.
      let b = bind_ok (g.read bytes) (λ y. Ok (inr y.0, y.1)) x e in
      let s = G.takes bytes b.0 fits b.1 in
      let made : (A ⊎ B) × List ℕ = (inr b.0.0, b.0.1) in
      let same : made ≡ x = ok_is (Fault ClassFault) made x b.2 in
      let all : Takes (by_test false f g).spell (by_test false f g).fits bytes made =
      record { parts = s.parts; rest_fits = s.rest_fits; fit = s.fit } in
      subst (λ (y : (A ⊎ B) × List ℕ). Takes (by_test false f g).spell (by_test false f g).fits bytes y) same all;
  again = again_right f g G;
  reading = ok_reading g.read inr G.reading;
}

pub content_law : {A : Type 0} (here : Bool) (body : Body ClassFault A) → IsBody body → IsFormat (content here body)
content_law here body B = by_test_law here (block u4 Truncated body) run (block_law u4 Truncated body u4_law B) run_law

pub name_once_law : (pool : List Entry) (here : ℕ → Bool) (again : ClassFault) (seen : Bool) → IsFormat (name_once pool here again seen)
name_once_law pool here again seen = such_law _ u2 u2_law

-- ---- of a field

pub constant_law : (pool : List Entry) (desc : ℕ) → IsBody (constant pool desc)
constant_law pool desc = whole_law Trailing (index (suits_field pool desc)) (index_law (suits_field pool desc))
