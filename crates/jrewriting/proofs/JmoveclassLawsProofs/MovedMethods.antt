-- The methods of a moved class, one by one: flags and names stay, descriptors have one more parameter, and who has code has code.
use Rattle.std.proofs.Common.{◌≡◌, ℕ, suc, ◌≤◌, Bool, true, false, List, [], ◌∷◌, ◌++◌, length, Option, Some, None, refl, ap, ◌∙◌, arith}
use Rattle.std.specs.Prelude.{is_some, slice_get, if◌then◌else◌}
use Rattle.jground.specs.jbase.FirstFaults.{first_some, or_else}
use Rattle.jparts.specs.declared.jpool.entry.Entry.{Entry}
use Rattle.jparts.specs.jpool.ConstantPools.{utf8_at}
use Rattle.jclass.specs.declared.class.Attribute.{Attribute}
use Rattle.jclass.specs.declared.class.Attribute.TheVariants.{Code, ConstantValue, Raw}
use Rattle.jclass.specs.declared.class.ClassParts.{ClassParts}
use Rattle.jclass.specs.declared.class.CodeBody.{CodeBody}
use Rattle.jclass.specs.declared.class.MemberInfo.{MemberInfo}
use Rattle.jclass.specs.MemberFormat.{body_of}
use Rattle.jclass.specs.FileContents.{IsIn}
use Rattle.jmove.specs.PoolAdditions.{IsFront, with_text, ◌>>◌}
use Rattle.jmove.proofs.PoolGrowth.{front_on, front_self}
use Rattle.jresolution.specs.jprogram.ProgramClasses.{Program}
use Rattle.jresolution.specs.jprogram.ClassFileParts.{code_of, has_code}
use Rattle.jmoveclass.specs.KeptAttributes.{method_keeps}
use Rattle.jmoveclass.specs.MovedMembers.{new_desc, with_attribute, with_code, with_method}
use Rattle.jmoveclass.specs.MovedClasses.{moved_class}
use Rattle.jmoveclass.specs.PoolPuts.{with_each}
use Rattle.jmoveclass.proofs.PoolStability.{text_stays}
use Rattle.jmoveclass.proofs.Growth.{attribute_grows, method_grows}
use Rattle.jmoveclass.proofs.ItemAdditions.{each_grows}
use Rattle.jrewriting.specs.jmoveclass_laws.MovedFiles.{CanBeFile}
use Rattle.jrewriting.proofs.JmoveclassLawsProofs.Methods.{movable_of, text_at}
use Rattle.jrewriting.proofs.JmoveclassLawsProofs.PoolFormat.{Grown, few_in, new_text, put_method, sound_of}
use Rattle.jrewriting.proofs.JmoveclassLawsProofs.SoundPools.{front_length, put_text}

-- ---- code

is_body : (p : Program) (c : ClassParts) (domain : ℕ) (m : MemberInfo) (name : ℕ) (b : CodeBody) (pool : List Entry) → is_some (body_of (with_code p c domain m name b pool).0) ≡ true
unfolding with_code ◌>>◌
is_body p c domain m name b pool = refl

or_some : {A : Type 0} (o q : Option A) → is_some o ≡ true → is_some (or_else o q) ≡ true
or_some None q h = absurd cc
or_some (Some x) q h = refl

none_more : (b : Bool) (name : ℕ) (bytes : List ℕ) (others : List Attribute) → first_some body_of ((if b then Raw name bytes ∷ [] else []) ++ others) ≡ first_some body_of others
unfolding first_some
none_more true name bytes others = refl
none_more false name bytes others = refl

codes_same : (p : Program) (c : ClassParts) (domain : ℕ) (m : MemberInfo) (xs : List Attribute) (pool : List Entry) → is_some (first_some body_of (with_each (with_attribute p c domain m) xs pool).0) ≡ is_some (first_some body_of xs)
unfolding with_each ◌>>◌ first_some
codes_same p c domain m [] pool = refl
codes_same p c domain m (Code name stack locals ops handlers others ∷ xs) pool =
    let b : CodeBody = record { max_stack = stack; max_locals = locals; ops = ops; handlers = handlers; attributes = others } in
    or_some (body_of (with_code p c domain m name b pool).0) _ (is_body p c domain m name b pool)
codes_same p c domain m (ConstantValue name value ∷ xs) pool = codes_same p c domain m xs pool
codes_same p c domain m (Raw name bytes ∷ xs) pool = ap is_some (none_more (method_keeps c.pool (Raw name bytes)) name bytes (with_each (with_attribute p c domain m) xs pool).0) ∙ codes_same p c domain m xs pool

-- ---- one by one

-- a method and the moved one
pub record Like (c : ClassParts) (whole : List Entry) (m n : MemberInfo) : Type 0 where
  pub flags : n.flags ≡ m.flags
  pub name : n.name ≡ m.name
  pub desc : utf8_at whole n.desc ≡ Some (new_desc c m)
  pub code : has_code n ≡ has_code m

abbrev pub Alike : ClassParts → List Entry → List MemberInfo → List MemberInfo → Type 0
Alike c whole [] [] = Unit {0}
Alike c whole (m ∷ ms) (n ∷ ns) = Like c whole m n × Alike c whole ms ns
Alike c whole _ _ = ⊥

methods_like : (p : Program) (domain : ℕ) (c : ClassParts) → CanBeFile p domain c → (ms : List MemberInfo) → ((i : ℕ) (m : MemberInfo) → slice_get ms i ≡ Some m → IsIn m c.methods) → (pool whole : List Entry) → Grown c.pool pool
    → length (with_each (with_method p c domain) ms pool).1 ≤ 65535 → IsFront (with_each (with_method p c domain) ms pool).1 whole → Alike c whole ms (with_each (with_method p c domain) ms pool).0
unfolding with_each ◌>>◌ with_method code_of
methods_like p domain c k [] there pool whole g few later = tt
methods_like p domain c k (m ∷ ms) there pool whole g few later =
    let text = new_desc c m in
    let w = with_text text pool in
    let v = with_each (with_attribute p c domain m) m.attributes w.1 in
    let x = with_method p c domain m pool in
    let y = with_each (with_method p c domain) ms x.1 in
    let inner = (each_grows (with_attribute p c domain m) (attribute_grows p c domain m) m.attributes).on w.1 in
    let grown = (each_grows (with_method p c domain) (method_grows p c domain) ms).on x.1 in
    let less : length w.1 ≤ length x.1 = front_length w.1 x.1 inner in
    let le : length x.1 ≤ length y.1 = front_length x.1 y.1 grown in
    let is = there 0 m refl in
    let q = put_text text pool g.sound (new_text c m k.good (sound_of c k.good) is (k.short m is)) (omega arith) in
    let behind : IsFront w.1 whole = front_on w.1 x.1 whole inner (front_on x.1 y.1 whole grown later) in
    let sound = put_method p c domain m pool (movable_of p domain c k) is g (omega arith) in
    let next : Grown c.pool x.1 = record { front = front_on c.pool pool x.1 g.front ((method_grows p c domain m).on pool); before = g.before; sound = sound } in (
      record { flags = refl; name = refl; desc = text_stays w.1 whole behind w.0 text (text_at w.1 w.0 text q.there); code = codes_same p c domain m m.attributes w.1 },
      methods_like p domain c k ms (λ i d at. there (suc i) d at) x.1 whole next few later,
    )

pub members_alike : (p : Program) (domain : ℕ) (c : ClassParts) → CanBeFile p domain c → Alike c (moved_class p domain c).pool c.methods (moved_class p domain c).methods
unfolding moved_class
members_alike p domain c k =
    let s = sound_of c k.good in
    let x = with_each (with_method p c domain) c.methods c.pool in
    methods_like p domain c k c.methods (λ i m at. (i, at)) c.pool x.1 (record { front = front_self c.pool; before = s; sound = s }) (few_in p domain c k.none) (front_self x.1)
