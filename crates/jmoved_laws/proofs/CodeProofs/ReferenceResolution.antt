-- What references resolve to in the moved program: to the members themselves, and where they are handed a context to their forms there.
use Rattle.std.proofs.Common.{◌≡◌, ℕ, List, Option, Some, None, refl, ap, ◌∙◌, false}
use Rattle.jclass.specs.declared.class.ClassParts.{ClassParts}
use Rattle.jlib.specs.declared.calls.LibCall.{LibCall}
use Rattle.jlib.specs.declared.calls.LibCall.TheVariants as calls
use Rattle.jlib.specs.declared.calls.ThreadCall.TheVariants as thread
use Rattle.jmove.specs.declared.method.Expand.TheVariants as kinds
use Rattle.jmoveclass.specs.CallExpansion.{calling}
use Rattle.jresolution.specs.declared.jprogram.member.Member.{Member}
use Rattle.jresolution.specs.declared.jprogram.member.Member.TheVariants as members
use Rattle.jresolution.specs.jprogram.ProgramClasses.{Program}
use Rattle.jresolution.specs.jprogram.MemberResolution.{resolve_field, resolve_method}
use Rattle.jresolution.specs.jprogram.NameChecks.{class_reserved, text_reserved}
use Rattle.jrewriting.specs.jrewrite.LinkageLaws.{IsLinked}
use Rattle.jrewriting.specs.jrewrite.RewrittenPrograms.{moved}
use Rattle.jrewriting.proofs.JrewriteProofs.Calls.{Known, unchanged_is}
use Rattle.jrewriting.proofs.JrewriteProofs.ContextMethodLookup.{form_of, run_form}
use Rattle.jrewriting.proofs.JrewriteProofs.FieldLookup.{any, field_same}
use Rattle.jrewriting.proofs.JrewriteProofs.LibraryLookup.{IsItself, methods_kept, unchanged}
use Rattle.jrewriting.proofs.JrewriteProofs.PlainPrograms.{is_plain}
use Rattle.jrewriting.proofs.JrewriteProofs.MemberResolution.{Finds, field_finds, method_finds}
use Rattle.jrewriting.proofs.JrewriteProofs.Targets.{Change, Target, change_found, changed_desc, plain_owner}
use Rattle.jsimulation_laws.specs.relation.InstructionExpansion.{moved_member, passing}

-- ---- fields

abbrev IsSame : Member → Member → Type 0
IsSame x y = y ≡ x

all_same : (o q : Option Member) → Finds IsSame any o q → q ≡ o
all_same None q f = f.none refl
all_same (Some x) q f =
    let r = f.some x refl refl in
    r.is ∙ ap (λ (y : Member). Some y) r.like

finds_same : (o q : Option Member) → q ≡ o → Finds IsSame any o q
finds_same o q e = record { none = λ h. e ∙ h; some = λ x h good. record { other = x; is = e ∙ h; like = refl } }

pub field_resolved : (p : Program) → IsLinked p → (owner name desc : List ℕ) → class_reserved owner ≡ false → resolve_field (moved p) owner name desc ≡ resolve_field p owner name desc
field_resolved p is owner name desc plain =
    all_same (resolve_field p owner name desc) (resolve_field (moved p) owner name desc)
    (field_finds p (is_plain p is) IsSame any owner name desc (plain_owner owner plain) (λ class here. finds_same _ _ (field_same p is class name desc here)))

-- ---- methods

unchanged_same : (p : Program) (n : ℕ) (o q : Option Member) → Finds (IsItself p) unchanged o q → calling n o ≡ kinds.Same → q ≡ o
unchanged_same p n None q f h = f.none refl
unchanged_same p n (Some x) q f h =
    let r = f.some x refl (unchanged_is n x h) in
    r.is ∙ ap (λ (y : Member). Some y) r.like.is

-- one whose call stays as it is
pub method_resolved : (p : Program) (c d : ClassParts) → Known p c d → (n : ℕ) (owner name desc : List ℕ) → class_reserved owner ≡ false → text_reserved desc ≡ false → calling n (resolve_method p owner name desc) ≡ kinds.Same
    → resolve_method (moved p) owner name desc ≡ resolve_method p owner name desc
method_resolved p c d k n owner name desc plain typed h =
    let plainly = is_plain p k.linked in
    unchanged_same p n (resolve_method p owner name desc) (resolve_method (moved p) owner name desc)
    (method_finds p plainly (IsItself p) unchanged owner name desc desc (plain_owner owner plain) (methods_kept p plainly k.all name desc typed)) h

form_is : (m : LibCall) → run_form m ≡ passing m
form_is (calls.Run side) = refl
form_is (calls.RunAction side) = refl
form_is (calls.Thread (thread.Init side)) = refl
form_is (calls.Thread thread.Start) = refl
form_is (calls.Thread thread.Join) = refl
form_is (calls.Thread thread.Yield) = refl
form_is (calls.Controller one) = refl
form_is calls.ObjectInit = refl
form_is (calls.ThrownInit t i) = refl
form_is calls.AccessControlInit = refl
form_is calls.GetMessage = refl
form_is (calls.String one) = refl
form_is (calls.Builder one) = refl
form_is calls.Out = refl
form_is calls.PrintEnd = refl
form_is (calls.Print piece) = refl
form_is calls.ContextCheck = refl
form_is (calls.PermissionInit one) = refl
form_is (calls.Rt one) = refl

member_form : (x : Member) → form_of x ≡ moved_member x
member_form (members.Method m) = refl
member_form (members.LibMethod m) = ap (λ (y : LibCall). members.LibMethod y) (form_is m)
member_form (members.Field i j) = refl
member_form members.LibField = refl

-- one that is handed a context
pub change_resolved : (p : Program) (c d : ClassParts) → Known p c d → (i : ℕ) (t : Target c.pool i) (k : Change p c i t) → resolve_method (moved p) t.says.owner t.says.name (changed_desc c i t) ≡ Some (moved_member k.member)
change_resolved p c d k i t change =
    let r = change_found p k.linked k.all c k.pair.kept i t change in
    r.is ∙ ap (λ (y : Member). Some y) (r.like.form ∙ member_form change.member)
