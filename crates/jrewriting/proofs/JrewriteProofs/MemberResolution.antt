-- Members that are found along the same classes, in a program and in the moved program.
use Rattle.std.proofs.Common.{◌≡◌, ℕ, Bool, true, false, List, [], ◌∷◌, Option, Some, None, refl, ap, sym, ◌∙◌, subst}
use Rattle.std.specs.Prelude.{if◌then◌else◌}
use Rattle.std.specs.Str.{bytes_eq}
use Rattle.jground.specs.jbase.FirstFaults.{first_some, or_else}
use Rattle.jground.proofs.JbaseProofs.Firsts.{none_of}
use Rattle.jresolution.specs.declared.jprogram.member.Member.{Member}
use Rattle.jresolution.specs.declared.jprogram.reach.Reach.{Reach}
use Rattle.jresolution.specs.declared.jprogram.reach.Reach.TheVariants as reach
use Rattle.jresolution.specs.jprogram.ProgramClasses.{Program, superinterfaces, up}
use Rattle.jresolution.specs.jprogram.MemberResolution.{allows, field_at, init, may_use, method_at, owner_of, reach_of, resolve_field, resolve_method}
use Rattle.jresolution.specs.jprogram.NameChecks.{is_reserved}
use Rattle.jlinking.specs.jreferring.ReferenceUses.{facts_of}
use Rattle.jrewriting.specs.jrewrite.RewrittenPrograms.{moved}
use Rattle.jrewriting.proofs.JrewriteProofs.FinalOverrides.{Likewise, SameChain}
use Rattle.jrewriting.proofs.JrewriteProofs.HierarchyPhases.{AllPlain, IsPlain}
use Rattle.jrewriting.proofs.JrewriteProofs.SupertypeChains.{extends_same, supers_above, up_same}

-- the moved program has one that is this to it
pub record Is (R : Member → Member → Type 0) (x : Member) (q : Option Member) : Type 0 where
  pub other : Member
  pub is : q ≡ Some other
  pub like : R x other

-- Where nothing is found the moved program finds nothing, and of the members that are looked at it finds its own.
pub record Finds (R : Member → Member → Type 0) (good : Member → Bool) (o q : Option Member) : Type 0 where
  pub none : o ≡ None → q ≡ None
  pub some : (x : Member) → o ≡ Some x → good x ≡ true → Is R x q

pub no_some : {P : Type 0} (x : Member) → None ≡ Some x → P
no_some x e = absurd cc

nothing : (R : Member → Member → Type 0) (good : Member → Bool) → Finds R good None None
nothing R good = record { none = λ e. refl; some = λ x e g. no_some x e }

or_some : (R : Member → Member → Type 0) (good : Member → Bool) (o q a b : Option Member) → Finds R good o q → Finds R good a b → (x : Member) → or_else o a ≡ Some x → good x ≡ true → Is R x (or_else q b)
or_some R good None q a b f h x e g =
    let k = h.some x e g in
    record { other = k.other; is = ap (λ (z : Option Member). or_else z b) (f.none refl) ∙ k.is; like = k.like }
or_some R good (Some z) q a b f h x e g =
    let k = f.some x e g in
    record { other = k.other; is = ap (λ (z : Option Member). or_else z b) k.is; like = k.like }

or_finds : (R : Member → Member → Type 0) (good : Member → Bool) (o q a b : Option Member) → Finds R good o q → Finds R good a b → Finds R good (or_else o a) (or_else q b)
or_finds R good o q a b f h = record {
  none = λ e. ap (λ (z : Option Member). or_else z b) (f.none (none_of o a e).0) ∙ h.none (none_of o a e).1;
  some = or_some R good o q a b f h;
}

-- along names that aren't kept
abbrev pub Along : (Member → Member → Type 0) → (Member → Bool) → (List ℕ → Option Member) → (List ℕ → Option Member) → Type 0
Along R good f g = (n : List ℕ) → is_reserved n ≡ false → Finds R good (f n) (g n)

first_finds : (R : Member → Member → Type 0) (good : Member → Bool) (f g : List ℕ → Option Member) (names : List (List ℕ)) → AllPlain names → Along R good f g → Finds R good (first_some f names) (first_some g names)
unfolding first_some
first_finds R good f g [] plain h = nothing R good
first_finds R good f g (n ∷ names) plain h = or_finds R good (f n) (g n) (first_some f names) (first_some g names) (h n plain.0) (first_finds R good f g names plain.1 h)

chain_finds : (p : Program) (R : Member → Member → Type 0) (good : Member → Bool) (f g : List ℕ → Option Member) (xs ys : List (List ℕ)) → SameChain p xs ys → Along R good f g → Finds R good (first_some f xs) (first_some g ys)
chain_finds p R good f g xs ys k h = subst (λ (l : List (List ℕ)). Finds R good (first_some f xs) (first_some g l)) (sym k.same) (first_finds R good f g xs k.plain h)

if_finds : (R : Member → Member → Type 0) (good : Member → Bool) (b : Bool) (o q a c : Option Member) → Finds R good o q → Finds R good a c → Finds R good (if b then o else a) (if b then q else c)
if_finds R good true o q a c h k = h
if_finds R good false o q a c h k = k

pub method_finds : (p : Program) → IsPlain p → (R : Member → Member → Type 0) (good : Member → Bool) (class name desc new : List ℕ) → is_reserved class ≡ false → Along R good (method_at p name desc) (method_at (moved p) name new)
    → Finds R good (resolve_method p class name desc) (resolve_method (moved p) class name new)
unfolding resolve_method
method_finds p is R good class name desc new plain h =
    let f = method_at p name desc in
    let g = method_at (moved p) name new in
    let above = up_same p is class plain in
    if_finds R good (bytes_eq name init) (f class) (g class) _ _ (h class plain)
    (or_finds R good (first_some f (up p class)) (first_some g (up (moved p) class)) _ _ (chain_finds p R good f g (up p class) (up (moved p) class) above h)
    (chain_finds p R good (λ x. first_some f (superinterfaces p x)) (λ x. first_some g (superinterfaces (moved p) x)) (up p class) (up (moved p) class) above
    (λ n here. chain_finds p R good f g (superinterfaces p n) (superinterfaces (moved p) n) (supers_above p is n here) h)))

pub field_finds : (p : Program) → IsPlain p → (R : Member → Member → Type 0) (good : Member → Bool) (class name desc : List ℕ) → is_reserved class ≡ false → Along R good (field_at p name desc) (field_at (moved p) name desc)
    → Finds R good (resolve_field p class name desc) (resolve_field (moved p) class name desc)
unfolding resolve_field
field_finds p is R good class name desc plain h =
    let f = field_at p name desc in
    let g = field_at (moved p) name desc in
    chain_finds p R good (λ x. or_else (f x) (first_some f (superinterfaces p x))) (λ x. or_else (g x) (first_some g (superinterfaces (moved p) x))) (up p class) (up (moved p) class) (up_same p is class plain)
    (λ n here. or_finds R good (f n) (g n) (first_some f (superinterfaces p n)) (first_some g (superinterfaces (moved p) n)) (h n here)
    (chain_finds p R good f g (superinterfaces p n) (superinterfaces (moved p) n) (supers_above p is n here) h))

-- ---- what members that are alike may be used for

allows_same : (p : Program) → IsPlain p → (r : Reach) (owner from : List ℕ) → is_reserved from ≡ false → allows (moved p) r owner from ≡ allows p r owner from
allows_same p is reach.Public owner from plain = refl
allows_same p is reach.Protected owner from plain = rw (extends_same p is from owner plain) refl
allows_same p is reach.Package owner from plain = refl
allows_same p is reach.Private owner from plain = refl

pub facts_same : (p : Program) → IsPlain p → (from : List ℕ) (x y : Member) → is_reserved from ≡ false → Likewise p x y → facts_of (moved p) from y ≡ facts_of p from x
unfolding may_use
facts_same p is from x y plain l =
    rw (l.reach, l.owner, l.final, l.static, allows_same p is (reach_of p x) (owner_of p x) from plain) refl
