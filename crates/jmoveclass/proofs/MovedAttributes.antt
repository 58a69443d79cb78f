-- What becomes of attributes; and that where no method breaks a limit none of its codes does.
use Rattle.std.proofs.Common.{◌≡◌, ℕ, List, [], ◌∷◌, Option, Some, None, refl, ap, sym, ◌∙◌, subst}
use Rattle.std.specs.Prelude.{IsTrue, option_map}
use Rattle.jground.proofs.JbaseProofs.Firsts.{none_fails}
use Rattle.jparts.specs.declared.jpool.entry.Entry.{Entry}
use Rattle.jclass.specs.declared.class.Attribute.{Attribute}
use Rattle.jclass.specs.declared.class.Attribute.TheVariants.{Code, ConstantValue, Raw}
use Rattle.jclass.specs.declared.class.ClassParts.{ClassParts}
use Rattle.jclass.specs.declared.class.CodeBody.{CodeBody}
use Rattle.jclass.specs.declared.class.MemberInfo.{MemberInfo}
use Rattle.jclass.specs.Class.{class_file}
use Rattle.jclass.specs.MemberFormat.{body_of}
use Rattle.jclass.specs.FileContents.{IsIn}
use Rattle.jmove.specs.declared.method.MoveError.{MoveError}
use Rattle.jmove.specs.PoolAdditions.{Adding, Refused, giving, ◌>>◌}
use Rattle.jmove.proofs.PoolGrowth.{giving_grows}
use Rattle.jmove.specs.MethodExpansion.{limit_of}
use Rattle.jresolution.specs.jprogram.ProgramClasses.{Program}
use Rattle.jmoveclass.specs.declared.limit.RewriteKind.{RewriteKind}
use Rattle.jmoveclass.specs.EntryLocals.{bare_beginning}
use Rattle.jmoveclass.specs.CallExpansion.{expands}
use Rattle.jmoveclass.specs.ClassLimits.{HasNone, at_method, kind_of, limit_with, method_limit}
use Rattle.jmoveclass.specs.MovedMembers.{kept_alone, method_in, with_attribute, with_code}
use Rattle.jmoveclass.specs.MovableClasses.{HasNoLimit, named_body}
use Rattle.jmoveclass.proofs.MethodContents.{only_code}
use Rattle.jmoveclass.proofs.ItemAdditions.{first_refused, then_is}

-- ---- attributes

pub code_is : (p : Program) (c : ClassParts) (domain : ℕ) (m : MemberInfo) (a : Attribute) (name : ℕ) (b : CodeBody) → named_body a ≡ Some (name, b) → with_attribute p c domain m a ≡ (with_code p c domain m name b >> λ x. giving (x ∷ []))
code_is p c domain m (Code n stack locals ops handlers others) name b e =
    let made : ℕ × CodeBody = (n, record { max_stack = stack; max_locals = locals; ops = ops; handlers = handlers; attributes = others }) in
    let pair : ℕ × CodeBody = (name, b) in
    let same : made ≡ pair = cc in
    ap (λ (x : ℕ × CodeBody). with_code p c domain m x.0 x.1 >> λ a. giving (a ∷ [])) same
code_is p c domain m (Raw n bytes) name b e = absurd cc
code_is p c domain m (ConstantValue n value) name b e = absurd cc

pub body_is : (a : Attribute) (name : ℕ) (b : CodeBody) → named_body a ≡ Some (name, b) → body_of a ≡ Some b
body_is (Code n stack locals ops handlers others) name b e =
    let made : ℕ × CodeBody = (n, record { max_stack = stack; max_locals = locals; ops = ops; handlers = handlers; attributes = others }) in
    let pair : ℕ × CodeBody = (name, b) in
    let same : made ≡ pair = cc in
    ap (λ (x : ℕ × CodeBody). Some x.1) same
body_is (Raw n bytes) name b e = absurd cc
body_is (ConstantValue n value) name b e = absurd cc

pub kept_is : (p : Program) (c : ClassParts) (domain : ℕ) (m : MemberInfo) (a : Attribute) → named_body a ≡ None → with_attribute p c domain m a ≡ giving (kept_alone c.pool a)
kept_is p c domain m (Code n stack locals ops handlers others) e = absurd cc
kept_is p c domain m (Raw n bytes) e = refl
kept_is p c domain m (ConstantValue n value) e = refl

-- ---- limits

kind_none : (o : Option MoveError) → option_map kind_of o ≡ None → o ≡ None
kind_none None h = refl
kind_none (Some e) h = absurd cc

place_none : (j : ℕ) (o : Option RewriteKind) → at_method j o ≡ None → o ≡ None
place_none j None h = refl
place_none j (Some kind) h = absurd cc

pub no_limit : (p : Program) (c : ClassParts) (m : MemberInfo) → IsTrue (class_file.fits c) → IsIn m c.methods → HasNone p c → HasNoLimit p c m
unfolding method_limit
no_limit p c m fit there none a b is body =
    let one = place_none there.0 (method_limit p c m) (none_fails (λ j x. at_method j (method_limit p c x)) c.methods there.0 m none there.1) in
    kind_none (limit_of (method_in c m b (bare_beginning c m)) (expands p c.pool b.ops)) (ap (limit_with p c m) (sym (only_code c m a b fit there is body)) ∙ one)

-- ---- an attribute that is code

pub attribute_refused : (p : Program) (c : ClassParts) (domain : ℕ) (m : MemberInfo) (a : Attribute) (name : ℕ) (b : CodeBody) (e : MoveError) (pool : List Entry) → named_body a ≡ Some (name, b)
    → Refused e (with_code p c domain m name b pool).1 → Refused e (with_attribute p c domain m a pool).1
attribute_refused p c domain m a name b e pool is r =
    subst (λ (f : Adding (List Attribute)). Refused e (f pool).1) (sym (code_is p c domain m a name b is))
    (first_refused (with_code p c domain m name b) (λ x. giving (x ∷ [])) e pool (λ x. giving_grows (x ∷ [])) r)

pub attribute_put : (p : Program) (c : ClassParts) (domain : ℕ) (m : MemberInfo) (a : Attribute) (name : ℕ) (b : CodeBody) (code : Attribute) (pool new : List Entry) → named_body a ≡ Some (name, b)
    → with_code p c domain m name b pool ≡ (code, new) → with_attribute p c domain m a pool ≡ (code ∷ [], new)
attribute_put p c domain m a name b code pool new is r =
    ap (λ (f : Adding (List Attribute)). f pool) (code_is p c domain m a name b is) ∙ then_is (with_code p c domain m name b) (λ x. giving (x ∷ [])) pool new code r
