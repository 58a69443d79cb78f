-- What is known of the code of a class file.
use Rattle.std.proofs.Common.{◌≡◌, ◌≤◌, ℕ, zero, suc, ◌+◌, List, [], ◌∷◌, ◌++◌, length, Option, Some, None, refl, subst, ap, ◌∙◌, arith}
use Rattle.std.specs.Prelude.{IsTrue, slice_get}
use Rattle.std.proofs.lemmas.List.{length-append}
use Rattle.jground.specs.jbase.FirstFaults.{first_some, or_else}
use Rattle.jground.specs.jformat.StatefulFormats.{fits_from, spell_from}
use Rattle.jground.proofs.JformatProofs.ReadingSteps.{first_true, second_true}
use Rattle.jparts.specs.declared.jmaps.types.RawFrame.{RawFrame}
use Rattle.jparts.specs.jmaps.StackMapFormat as frames
use Rattle.jparts.specs.jmaps.StackMapFormat.{maps}
use Rattle.jparts.specs.declared.jcode.op.Placed.{Placed}
use Rattle.jparts.specs.jcode.Instructions.{code, instructions, place_behind, placed, size}
use Rattle.jparts.proofs.JcodeProofs.CodeLaws.{fits_at}
use Rattle.jparts.proofs.JcodeProofs.Places.{fit_rises}
use Rattle.jclass.specs.declared.class.ClassParts.{ClassParts}
use Rattle.jclass.specs.declared.class.CodeAttribute.{CodeAttribute}
use Rattle.jclass.specs.declared.class.CodeAttribute.TheVariants.{Maps, Raw}
use Rattle.jclass.specs.declared.class.CodeBody.{CodeBody}
use Rattle.jclass.specs.declared.class.MemberInfo.{MemberInfo}
use Rattle.jclass.specs.Class.{class_file}
use Rattle.jclass.specs.MemberFormat.{body_of}
use Rattle.jclass.specs.FileContents.{HasCode, IsIn}
use Rattle.jclass.proofs.FittingClasses.{code_fits, code_frames, code_items}
use Rattle.jresolution.specs.jprogram.ClassFileParts.{code_of}
use Rattle.jtyping.specs.jwelltyped.ProofNames.{or_none}
use Rattle.jverify.specs.CheckedMethods.{AreShort, IsGood}
use Rattle.jclass.specs.CodeFormat.{maps_of}

-- ---- what is found is there

pub record IsFound {A B : Type 0} (f : A → Option B) (xs : List A) (y : B) : Type 0 where
  pub item : A
  pub there : IsIn item xs
  pub gives : f item ≡ Some y

found_from : {A B : Type 0} (f : A → Option B) (x : A) (xs : List A) (y : B) (o : Option B) → f x ≡ o → or_else o (first_some f xs) ≡ Some y → (first_some f xs ≡ Some y → IsFound f xs y) → IsFound f (x ∷ xs) y
found_from f x xs y None is e more = let r = more e in record { item = r.item; there = (suc r.there.0, r.there.1); gives = r.gives }
found_from f x xs y (Some z) is e more = record { item = x; there = (0, refl); gives = is ∙ e }

pub first_found : {A B : Type 0} (f : A → Option B) (xs : List A) (y : B) → first_some f xs ≡ Some y → IsFound f xs y
unfolding first_some
first_found f [] y e = absurd cc
first_found f (x ∷ xs) y e = found_from f x xs y (f x) refl e (first_found f xs y)

-- ---- places are of two bytes

within_from : (s : ℕ) (ps : List Placed) (i : ℕ) (o : Placed) → IsTrue (fits_from (λ t. (placed t).fits) place_behind s ps) → slice_get ps i ≡ Some o → o.at ≤ s + length (spell_from (λ t. (placed t).spell) place_behind s ps)
unfolding fits_from spell_from size
within_from s [] i o fit at = absurd cc
within_from s (p ∷ ps) zero o fit at =
    let f = fits_at s p (first_true ((placed s).fits p) (fits_from (λ t. (placed t).fits) place_behind (place_behind s p) ps) fit) in
    let same : o.at ≡ p.at = cc in
    omega (arith, f.0, same)
within_from s (p ∷ ps) (suc i) o fit at =
    let f = fits_at s p (first_true ((placed s).fits p) (fits_from (λ t. (placed t).fits) place_behind (place_behind s p) ps) fit) in
    let tail = spell_from (λ t. (placed t).spell) place_behind (place_behind s p) ps in
    let len : length ((placed s).spell p ++ tail) ≡ length ((placed s).spell p) + length tail = length-append ((placed s).spell p) tail in
    let one : length ((placed s).spell p) ≡ size s p.op = ap length f.2 in
    let more : o.at ≤ s + size s p.op + length tail = within_from (place_behind s p) ps i o (second_true ((placed s).fits p) (fits_from (λ t. (placed t).fits) place_behind (place_behind s p) ps) fit) at in
    omega arith

short_from : (ps : List Placed) → IsTrue (instructions.fits ps) → length (instructions.spell ps) ≤ 0xffff → AreShort ps
unfolding instructions
short_from ps fit few i o at =
    let le : o.at ≤ 0 + length (spell_from (λ t. (placed t).spell) place_behind 0 ps) = within_from 0 ps i o fit at in
    omega arith

short : (ps : List Placed) → IsTrue (code.fits ps) → length (code.spell ps) ≤ 0xffff → AreShort ps
unfolding code
short ps fit few = short_from ps (first_true (instructions.fits ps) _ fit) few

-- ---- frames

none_fit : IsTrue (maps.fits [])
unfolding maps frames.frames
none_fit = refl

frames_by : (c : ClassParts) (body : CodeBody) → HasCode c body → (fs : List RawFrame) (a : CodeAttribute) → IsIn a body.attributes → maps_of a ≡ Some fs → IsTrue (maps.fits fs)
frames_by c body has fs (Maps name all) there gives =
    let same : all ≡ fs = cc in
    subst (λ (x : List RawFrame). IsTrue (maps.fits x)) same (code_frames c.pool body name all (code_fits c body has) there)
frames_by c body has fs (Raw name bytes) there gives = absurd cc

frames_at : (c : ClassParts) (body : CodeBody) → HasCode c body → (fs : List RawFrame) → IsFound maps_of body.attributes fs → IsTrue (maps.fits fs)
frames_at c body has fs r = frames_by c body has fs r.item r.there r.gives

frames_of : (c : ClassParts) (body : CodeBody) → HasCode c body → (o : Option (List RawFrame)) → first_some maps_of body.attributes ≡ o → IsTrue (maps.fits (or_none o))
frames_of c body has None e = none_fit
frames_of c body has (Some fs) e = frames_at c body has fs (first_found maps_of body.attributes fs e)

-- ---- all

good_body : (c : ClassParts) (body : CodeBody) → HasCode c body → IsGood body
good_body c body has =
    let fit = code_items c.pool body (code_fits c body has) in
    record {
      rises = fit_rises body.ops fit.0;
      short = short body.ops fit.0 fit.1;
      frames = frames_of c body has (first_some maps_of body.attributes) refl;
    }

pub good_code : (c : ClassParts) (m : MemberInfo) (body : CodeBody) → IsTrue (class_file.fits c) → IsIn m c.methods → code_of m ≡ Some body → IsGood body
unfolding code_of
good_code c m body fit there e =
    let r = first_found body_of m.attributes body e in
    good_body c body (record { good = fit; method = m; attribute = r.item; in_class = there; in_method = r.there; is_body = r.gives })
