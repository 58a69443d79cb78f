-- No method of the library stands in the way of a user's.
use Rattle.std.proofs.Common.{◌≡◌, ℕ, true, false, List, Some, None, refl}
use Rattle.std.specs.Prelude.{option_and_then, slice_get}
use Rattle.std.specs.Str.{bytes_eq}
use Rattle.jclass.specs.declared.class.MemberInfo.{MemberInfo}
use Rattle.jresolution.specs.declared.jprogram.member.Member.TheVariants.{Method}
use Rattle.jresolution.specs.declared.jprogram.member.MethodId.{MethodId}
use Rattle.jresolution.specs.declared.jprogram.part.CodePart.{CodePart}
use Rattle.jresolution.specs.jprogram.ProgramClasses.{Program, extends, find, holds, implements, is_interface, up}
use Rattle.jresolution.specs.jprogram.MemberResolution.{init, method_at, resolve_method}
use Rattle.jresolution.specs.jprogram.NameChecks.{is_reserved}
use Rattle.jresolution.specs.jprogram.ClassFileParts.{member_desc}
use Rattle.jlinking.specs.jlink.ClassOrder.{in_order}
use Rattle.jtyping.specs.jwelltyped.VerifierTests.{WellTyped}
use Rattle.jmoveclass.specs.MovedMembers.{new_desc}
use Rattle.jmoveclass.specs.MovedClasses.{moved_class}
use Rattle.jrewriting.specs.jrewrite.LinkageLaws.{IsLinked}
use Rattle.jrewriting.specs.jrewrite.RewrittenPrograms.{limits, moved}
use Rattle.jrewriting.proofs.JrewriteProofs.MemberPhase.{all_moving}
use Rattle.jrewriting.proofs.JrewriteProofs.PlainPrograms.{is_plain}
use Rattle.jmoved_laws.specs.names.ShadowedMethods.{IsClear}
use Rattle.jmoved_laws.specs.names.MovedLookUps.{kept}
use Rattle.jmoved_laws.proofs.NamesProofs.ContextMethodLookup.{found_kept}
use Rattle.jmoved_laws.proofs.NamesProofs.ChainLookup.{user_has, user_meets}
use Rattle.jmoved_laws.proofs.NamesProofs.MethodResolution.{resolved_at}

pub below : (p : Program) (owner name desc class : List ℕ) (m : MethodId) → IsLinked p → is_reserved owner ≡ false → bytes_eq name init ≡ false → resolve_method p owner name desc ≡ Some (Method m)
    → extends p class owner ≡ true → IsClear p name desc (up p class)
below p owner name desc class m is plain named e ext =
    (user_meets p (is_plain p is) (in_order p is.links) is.links name desc named owner plain m (resolved_at p owner name desc (Method m) named e) class ext).clear

pub had : (p : Program) (owner name desc class : List ℕ) (m : MethodId) → IsLinked p → is_reserved owner ≡ false → bytes_eq name init ≡ false → resolve_method p owner name desc ≡ Some (Method m)
    → holds is_interface (find p owner) ≡ true → implements p class owner ≡ true → is_reserved class ≡ false → IsClear p name desc (up p class)
unfolding implements
had p owner name desc class m is plain named e face has kept =
    (user_has p (is_plain p is) (in_order p is.links) is.links name desc named owner plain m (resolved_at p owner name desc (Method m) named e) class face has kept).clear

-- a method is found as itself
pub found_so : (p : Program) → IsLinked p → WellTyped p → limits p ≡ None → (i j : ℕ) (part : CodePart) (m : MemberInfo) (name class : List ℕ)
    → slice_get p.parts i ≡ Some part → slice_get part.class.methods j ≡ Some m → is_reserved class ≡ false
    → method_at (moved p) name (new_desc part.class m) class ≡ option_and_then kept (method_at p name (member_desc part.class m) class)
found_so p linked well few i j part m name class at there plain =
    let all = all_moving p linked well few in
    let k = all i part.class (moved_class p part.domain part.class) (record { part = part; at = at; here = refl; there = refl }) in
    found_kept p (is_plain p linked) all part.class m name (k.0.facts m (j, there)) class plain
