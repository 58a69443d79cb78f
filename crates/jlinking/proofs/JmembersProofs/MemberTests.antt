-- The tests of a member, one behind the other.
use Rattle.std.proofs.Common.{◌≡◌, ℕ, Bool, true, false, List, Option, Some, None, refl, ap, ◌∙◌}
use Rattle.std.specs.Prelude.{not}
use Rattle.jground.specs.jbase.FirstFaults.{or_else}
use Rattle.jclass.specs.declared.class.ClassParts.{ClassParts}
use Rattle.jclass.specs.declared.class.MemberInfo.{MemberInfo}
use Rattle.jresolution.specs.declared.jprogram.fault.LinkKind.{LinkKind}
use Rattle.jresolution.specs.declared.jprogram.fault.LinkKind.TheVariants.{Twice}
use Rattle.jresolution.specs.jprogram.ProgramClasses.{Program}
use Rattle.jlinking.specs.jmembers.MemberDeclarations.{again_test, field_left_out_test, field_test, final_test, is_again, library_test, method_left_out_test, method_test, types_test}

pub again_none : (c : ClassParts) (before : List MemberInfo) (m : MemberInfo) (fresh : Bool) → is_again c before m ≡ not fresh → fresh ≡ true → None ≡ again_test c before m
unfolding again_test
again_none c before m fresh is e = rw (is, e) refl

pub again_some : (c : ClassParts) (before : List MemberInfo) (m : MemberInfo) (fresh : Bool) → is_again c before m ≡ not fresh → fresh ≡ false → Some Twice ≡ again_test c before m
unfolding again_test
again_some c before m fresh is e = rw (is, e) refl

pub method_by : (p : Program) (i : ℕ) (c : ClassParts) (before : List MemberInfo) (k : ℕ) (m : MemberInfo) (a l t b f : Option LinkKind) → a ≡ again_test c before m → l ≡ method_left_out_test p.side c m → t ≡ types_test p c m → b ≡ library_test p c m → f ≡ final_test p i c k m
    → or_else a (or_else l (or_else t (or_else b f))) ≡ method_test p i c before k m
method_by p i c before k m a l t b f ea el et eb ef =
    ap (λ (x : Option LinkKind). or_else x (or_else l (or_else t (or_else b f)))) ea
    ∙ ap (λ (x : Option LinkKind). or_else (again_test c before m) (or_else x (or_else t (or_else b f)))) el
    ∙ ap (λ (x : Option LinkKind). or_else (again_test c before m) (or_else (method_left_out_test p.side c m) (or_else x (or_else b f)))) et
    ∙ ap (λ (x : Option LinkKind). or_else (again_test c before m) (or_else (method_left_out_test p.side c m) (or_else (types_test p c m) (or_else x f)))) eb
    ∙ ap (λ (x : Option LinkKind). or_else (again_test c before m) (or_else (method_left_out_test p.side c m) (or_else (types_test p c m) (or_else (library_test p c m) x)))) ef

pub field_by : (p : Program) (c : ClassParts) (before : List MemberInfo) (m : MemberInfo) (a l t : Option LinkKind) → a ≡ again_test c before m → l ≡ field_left_out_test c m → t ≡ types_test p c m → or_else a (or_else l t) ≡ field_test p c before m
field_by p c before m a l t ea el et =
    ap (λ (x : Option LinkKind). or_else x (or_else l t)) ea
    ∙ ap (λ (x : Option LinkKind). or_else (again_test c before m) (or_else x t)) el
    ∙ ap (λ (x : Option LinkKind). or_else (again_test c before m) (or_else (field_left_out_test c m) x)) et
