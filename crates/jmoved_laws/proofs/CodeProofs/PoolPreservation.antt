-- The entries of a class's pool stand in the moved class for what they stood for.
use Rattle.std.proofs.Common.{◌≡◌, ℕ, Bool, true, false, Option, Some, None, refl, ap, sym, ◌∙◌, subst}
use Rattle.std.specs.Prelude.{slice_get}
use Rattle.std.specs.Str.{bytes_eq}
use Rattle.jparts.specs.declared.jpool.entry.Entry.{Entry}
use Rattle.jparts.specs.declared.jpool.entry.Entry.TheVariants.{Unused, Utf8, Integer, Float, Long, Double, Class, Str, Field, Method, InterfaceMethod, NameAndType, MethodHandle, MethodType, InvokeDynamic}
use Rattle.jclass.specs.declared.class.ClassParts.{ClassParts}
use Rattle.jmove.specs.declared.method.Expand.{Expand}
use Rattle.jmove.specs.declared.method.Expand.TheVariants.{Same, Call, Check, Snapshot, Privileged, PrivilegedWith, PrivilegedLimited}
use Rattle.jmoveclass.specs.CallExpansion.{calling}
use Rattle.jmoveclass.specs.MovedClasses.{moved_class}
use Rattle.jrewriting.proofs.JmoveclassLawsProofs.CallReferences.{kind_in}
use Rattle.jresolution.specs.declared.jprogram.member.Member.{Member}
use Rattle.jresolution.specs.jprogram.ProgramClasses.{Program}
use Rattle.jresolution.specs.jprogram.MemberResolution.{init}
use Rattle.jresolution.specs.juses.InstructionMeanings.{AMethod, CallMeaning, EntryMeaning, Reference, call_meant, entry_meant, method_entry}
use Rattle.jlinking.proofs.JlinkProofs.PresentValues.{map_is}
use Rattle.jrewriting.specs.jrewrite.RewrittenPrograms.{moved}
use Rattle.jrewriting.proofs.JrewriteProofs.Calls.{Known}
use Rattle.jrewriting.proofs.JrewriteProofs.CodeNames.{stands_for}
use Rattle.jrewriting.proofs.JrewriteProofs.Targets.{Target, target_of}
use Rattle.jrewriting.proofs.JrewriteProofs.PoolAdditions.{known_of}
use Rattle.jsimulation_laws.specs.relation.InstructionExpansion.{Alone, way_of}
use Rattle.jmoved_laws.specs.code.MovedMeanings.{EntriesStay, HandsNone}
use Rattle.jmoved_laws.proofs.CodeProofs.Entries.{entry_same, member_is, method_at, method_same, said}
use Rattle.jmoved_laws.proofs.CodeProofs.ExpansionMeanings.{way_by, way_is}

alone_same : (x : Expand) → way_by x ≡ Alone → x ≡ Same
alone_same Same h = refl
alone_same (Call i) h = absurd cc
alone_same (Check i) h = absurd cc
alone_same (Snapshot i) h = absurd cc
alone_same (Privileged i) h = absurd cc
alone_same (PrivilegedWith i) h = absurd cc
alone_same (PrivilegedLimited i) h = absurd cc

-- what a reference to a method stands for is a method
method_entry_is : (p : Program) (r : Reference) (e : EntryMeaning) → method_entry p r ≡ Some e → (b : Bool) × ((m : CallMeaning) × (AMethod b m ≡ e))
method_entry_is p r e h =
    let m = map_is (AMethod (bytes_eq r.name init)) (call_meant p r) e h in
    (bytes_eq r.name init, (m.0, m.2))

call_stays : (p : Program) (c d : ClassParts) → Known p c d → (n : ℕ) → Target c.pool n → (e : EntryMeaning) → entry_meant p c.pool (slice_get c.pool n) ≡ Some e → HandsNone e → entry_meant (moved p) d.pool (slice_get d.pool n) ≡ Some e
call_stays p c d k n t e at alone =
    let m = method_entry_is p (said t.says.owner t.says.name t.says.desc) e (sym (method_at p c.pool n t) ∙ at) in
    let here : entry_meant p c.pool (slice_get c.pool n) ≡ Some (AMethod m.0 m.1.0) = at ∙ ap (λ (x : EntryMeaning). Some x) (sym m.1.1) in
    let none : way_of m.1.0.member ≡ Alone = subst HandsNone (sym m.1.1) alone in
    let same = alone_same (calling n (stands_for p c n)) (ap (λ (o : Option Member). way_by (calling n o)) (member_is p c n t m.0 m.1.0 here) ∙ sym (way_is n m.1.0.member) ∙ none) in
    method_same p c d k n t same ∙ at

by_entry : (p : Program) (c d : ClassParts) → Known p c d → (n : ℕ) (o : Option Entry) → slice_get c.pool n ≡ o → (e : EntryMeaning) → entry_meant p c.pool (slice_get c.pool n) ≡ Some e → HandsNone e → entry_meant (moved p) d.pool (slice_get d.pool n) ≡ Some e
unfolding entry_meant
by_entry p c d k n None there e at alone =
    let no : None ≡ Some e = sym (ap (entry_meant p c.pool) there) ∙ at in
    absurd cc
by_entry p c d k n (Some (Method a b)) there e at alone = call_stays p c d k n (target_of c.pool n false k.pair.sound (ap kind_in there)) e at alone
by_entry p c d k n (Some (InterfaceMethod a b)) there e at alone = call_stays p c d k n (target_of c.pool n true k.pair.sound (ap kind_in there)) e at alone
by_entry p c d k n (Some Unused) there e at alone = entry_same p c d k n Unused there refl ∙ at
by_entry p c d k n (Some (Utf8 t)) there e at alone = entry_same p c d k n (Utf8 t) there refl ∙ at
by_entry p c d k n (Some (Integer x)) there e at alone = entry_same p c d k n (Integer x) there refl ∙ at
by_entry p c d k n (Some (Float x)) there e at alone = entry_same p c d k n (Float x) there refl ∙ at
by_entry p c d k n (Some (Long x)) there e at alone = entry_same p c d k n (Long x) there refl ∙ at
by_entry p c d k n (Some (Double x)) there e at alone = entry_same p c d k n (Double x) there refl ∙ at
by_entry p c d k n (Some (Class x)) there e at alone = entry_same p c d k n (Class x) there refl ∙ at
by_entry p c d k n (Some (Str x)) there e at alone = entry_same p c d k n (Str x) there refl ∙ at
by_entry p c d k n (Some (Field a b)) there e at alone = entry_same p c d k n (Field a b) there refl ∙ at
by_entry p c d k n (Some (NameAndType a b)) there e at alone = entry_same p c d k n (NameAndType a b) there refl ∙ at
by_entry p c d k n (Some (MethodHandle a b)) there e at alone = entry_same p c d k n (MethodHandle a b) there refl ∙ at
by_entry p c d k n (Some (MethodType x)) there e at alone = entry_same p c d k n (MethodType x) there refl ∙ at
by_entry p c d k n (Some (InvokeDynamic a b)) there e at alone = entry_same p c d k n (InvokeDynamic a b) there refl ∙ at

pub entries_stay : EntriesStay
entries_stay p is typed none i part stands n e at alone =
    let c = part.class in
    by_entry p c (moved_class p part.domain c) (known_of p is typed none i part stands) n (slice_get c.pool n) refl e at alone
