-- Calls that stay as they are, and calls that are handed a context: what linking asks of them holds in the moved program.
use Rattle.std.proofs.Common.{◌≡◌, ℕ, Bool, true, ◌&&◌, not, List, Option, Some, None, refl, ap, sym, ◌∙◌}
use Rattle.std.specs.Prelude.{option_map, slice_get, ◌||◌}
use Rattle.jground.specs.jbase.FirstFaults.{fault_if}
use Rattle.jground.proofs.JbaseProofs.Firsts.{none_of}
use Rattle.jparts.specs.declared.jpool.entry.Entry.{Entry}
use Rattle.jparts.specs.jpool.Descriptors.{slots_of}
use Rattle.jparts.specs.declared.jcode.names.CallOp.{CallOp}
use Rattle.jclass.specs.declared.class.ClassParts.{ClassParts}
use Rattle.jmove.specs.PoolAdditions.{IsFront}
use Rattle.jmove.specs.declared.method.Expand.TheVariants as kinds
use Rattle.jmoveclass.proofs.PoolStability.{at_front}
use Rattle.jrewriting.proofs.JmoveclassLawsProofs.AddedReferences.{reference}
use Rattle.jresolution.specs.declared.jprogram.fault.LinkKind.TheVariants.{LeftOut}
use Rattle.jresolution.specs.declared.jprogram.member.Member.{Member}
use Rattle.jresolution.specs.declared.jprogram.member.Member.TheVariants as members
use Rattle.jresolution.specs.jprogram.ProgramClasses.{Program}
use Rattle.jresolution.specs.jprogram.MemberResolution.{referred, resolve_method}
use Rattle.jresolution.specs.jprogram.ClassFileParts.{this_name}
use Rattle.jlinking.specs.declared.jreferring.judged.MemberFacts.{MemberFacts}
use Rattle.jlinking.specs.declared.jreferring.judged.MemberUse.{MemberUse}
use Rattle.jlinking.specs.jreferring.PoolEntryMeanings.{judge_pool}
use Rattle.jlinking.specs.jreferring.ReferenceUses.{call_left_out_test, call_test, called_by_interface_test, called_test, facts_of, interface_test}
use Rattle.jlinking.specs.ProofNames.{is_virtual, call_at, interface_call_at}
use Rattle.jlinking.specs.jreferring.CodeUnits.{member_at, or_no_member}
use Rattle.jmoveclass.specs.CallExpansion.{calling}
use Rattle.jrewriting.specs.jrewrite.LinkageLaws.{IsLinked}
use Rattle.jrewriting.specs.jrewrite.RewrittenPrograms.{moved}
use Rattle.jrewriting.proofs.JrewriteProofs.DeclarationChecks.{first_false, no_again}
use Rattle.jrewriting.proofs.JrewriteProofs.PoolEntries.{Pair, desc_kept, owner_kept, says_on, use_same}
use Rattle.jrewriting.proofs.JrewriteProofs.LibraryLookup.{IsItself, methods_kept, unchanged}
use Rattle.jrewriting.proofs.JrewriteProofs.FinalOverrides.{AllMoving}
use Rattle.jrewriting.proofs.JrewriteProofs.PlainPrograms.{is_plain}
use Rattle.jrewriting.proofs.JrewriteProofs.MemberResolution.{Finds, facts_same, method_finds}
use Rattle.jrewriting.proofs.JrewriteProofs.ParameterSlots.{AllFew}
use Rattle.jrewriting.proofs.JrewriteProofs.Security.{IsPassing}
use Rattle.jrewriting.proofs.JrewriteProofs.MemberSides.{same_stands}
use Rattle.jrewriting.proofs.JrewriteProofs.Targets.{Change, Target, call_use, change_few, change_more, change_slots, changed_desc, plain_owner, referred_is, sort_by, target_use}
use Rattle.jrewriting.proofs.JrewriteProofs.ReferenceChecks.{call_more, interface_more, one_more}

-- ---- what stays

pub unchanged_is : (n : ℕ) (x : Member) → calling n (Some x) ≡ kinds.Same → unchanged x ≡ true
unchanged_is n (members.Method m) h = absurd cc
unchanged_is n (members.LibMethod m) h = same_stands n m h
unchanged_is n (members.Field i j) h = refl
unchanged_is n members.LibField h = refl

-- what is known of the program and of a class of it
pub record Known (p : Program) (c d : ClassParts) : Type 0 where
  pub linked : IsLinked p
  pub all : AllMoving p
  pub few : AllFew p
  pub passing : IsPassing (moved p)
  pub pair : Pair c d

facts_by : (p : Program) (c d : ClassParts) → Known p c d → (i : ℕ) (o q : Option Member) → Finds (IsItself p) unchanged o q → ((x : Member) → o ≡ Some x → calling i (Some x) ≡ kinds.Same)
    → option_map (facts_of (moved p) (this_name c)) q ≡ option_map (facts_of p (this_name c)) o
facts_by p c d k i None q f h = ap (option_map (facts_of (moved p) (this_name c))) (f.none refl)
facts_by p c d k i (Some x) q f h =
    let r = f.some x refl (unchanged_is i x (h x refl)) in
    ap (option_map (facts_of (moved p) (this_name c))) r.is ∙ ap (λ (m : MemberFacts). Some m) (facts_same p (is_plain p k.linked) (this_name c) x r.other k.pair.plain r.like.like)

same_as : (i : ℕ) (o : Option Member) (x : Member) → calling i o ≡ kinds.Same → o ≡ Some x → calling i (Some x) ≡ kinds.Same
same_as i o x h e = ap (calling i) (sym e) ∙ h

kept_use : (p : Program) (c d : ClassParts) → Known p c d → (i : ℕ) (t : Target c.pool i) → calling i (referred p c.pool (slice_get c.pool i)) ≡ kinds.Same
    → call_use (moved p) (this_name c) t.interface t.says.owner t.says.name t.says.desc ≡ call_use p (this_name c) t.interface t.says.owner t.says.name t.says.desc
kept_use p c d k i t h =
    let plainly = is_plain p k.linked in
    let owner = owner_kept c t.class t.two k.pair.kept t.says in
    let desc = desc_kept c t.class t.two k.pair.kept t.says in
    let o = resolve_method p t.says.owner t.says.name t.says.desc in
    let q = resolve_method (moved p) t.says.owner t.says.name t.says.desc in
    let f = method_finds p plainly (IsItself p) unchanged t.says.owner t.says.name t.says.desc t.says.desc (plain_owner t.says.owner owner) (methods_kept p plainly k.all t.says.name t.says.desc desc) in
    let same = ap (calling i) (sym (referred_is p c.pool i t)) ∙ h in
    use_same p plainly (this_name c) k.pair.plain (sort_by t.interface) o q t.says.owner t.says.name t.says.desc owner desc (facts_by p c d k i o q f (λ x e. same_as i o x same e))

-- a reference stays where it is
abbrev pub target_on : (pool whole : List Entry) → IsFront pool whole → (i : ℕ) → Target pool i → Target whole i
target_on pool whole f i t = record {
  interface = t.interface;
  class = t.class;
  two = t.two;
  there = at_front pool whole f i (reference t.interface t.class t.two) t.there;
  says = says_on pool whole f t.class t.two t.says;
}

pub kept_member : (p : Program) (c d : ClassParts) → Known p c d → (i : ℕ) (t : Target c.pool i) → calling i (referred p c.pool (slice_get c.pool i)) ≡ kinds.Same → member_at (judge_pool (moved p) d) i ≡ member_at (judge_pool p c) i
kept_member p c d k i t h =
    target_use (moved p) (this_name d) d.pool i (target_on c.pool d.pool k.pair.front i t)
    ∙ ap (λ (from : List ℕ). Some (call_use (moved p) from t.interface t.says.owner t.says.name t.says.desc)) k.pair.this
    ∙ ap (λ (u : MemberUse). Some u) (kept_use p c d k i t h)
    ∙ sym (target_use p (this_name c) c.pool i t)

-- ---- what changes

-- a reference of the moved class that takes the place of another one
pub record Takes (p : Program) (c : ClassParts) (whole : List Entry) (i j : ℕ) : Type 0 where
  pub old : Target c.pool i
  pub change : Change p c i old
  pub new : Target whole j
  pub interface : new.interface ≡ old.interface
  pub owner : new.says.owner ≡ old.says.owner
  pub name : new.says.name ≡ old.says.name
  pub desc : new.says.desc ≡ changed_desc c i old

taken_use : (p : Program) (c d : ClassParts) → Known p c d → (i j : ℕ) (t : Takes p c d.pool i j)
    → member_at (judge_pool (moved p) d) j ≡ Some (call_use (moved p) (this_name c) t.old.interface t.old.says.owner t.old.says.name (changed_desc c i t.old))
taken_use p c d k i j t =
    target_use (moved p) (this_name d) d.pool j t.new
    ∙ ap (λ (from : List ℕ). Some (call_use (moved p) from t.new.interface t.new.says.owner t.new.says.name t.new.says.desc)) k.pair.this
    ∙ ap (λ (b : Bool). Some (call_use (moved p) (this_name c) b t.new.says.owner t.new.says.name t.new.says.desc)) t.interface
    ∙ ap (λ (o : List ℕ). Some (call_use (moved p) (this_name c) t.old.interface o t.new.says.name t.new.says.desc)) t.owner
    ∙ ap (λ (o : List ℕ). Some (call_use (moved p) (this_name c) t.old.interface t.old.says.owner o t.new.says.desc)) t.name
    ∙ ap (λ (o : List ℕ). Some (call_use (moved p) (this_name c) t.old.interface t.old.says.owner t.old.says.name o)) t.desc

pub call_good : (p : Program) (c d : ClassParts) → Known p c d → (op : CallOp) (i j : ℕ) → Takes p c d.pool i j → call_at (judge_pool p c) op i ≡ None → call_at (judge_pool (moved p) d) op j ≡ None
call_good p c d k op i j t h =
    let u = call_use p (this_name c) t.old.interface t.old.says.owner t.old.says.name t.old.says.desc in
    let v = call_use (moved p) (this_name c) t.old.interface t.old.says.owner t.old.says.name (changed_desc c i t.old) in
    let test : call_test op u ≡ None = ap (or_no_member (call_test op)) (sym (target_use p (this_name c) c.pool i t.old)) ∙ h in
    let a = none_of u.names _ test in
    let b = none_of (call_left_out_test op u) (called_test op u u.member) a.1 in
    let barred = first_false u.barred (not (is_virtual op) && u.of_interface) (no_again (u.barred || (not (is_virtual op) && u.of_interface)) LeftOut b.0) in
    ap (or_no_member (call_test op)) (taken_use p c d k i j t)
    ∙ call_more op u v (change_more p k.linked k.all k.passing c k.pair.kept (this_name c) k.pair.plain i t.old t.change a.0 barred) test

pub interface_good : (p : Program) (c d : ClassParts) → Known p c d → (count i j : ℕ) → Takes p c d.pool i j → interface_call_at (judge_pool p c) i count ≡ None → interface_call_at (judge_pool (moved p) d) j (one_more count) ≡ None
interface_good p c d k count i j t h =
    let u = call_use p (this_name c) t.old.interface t.old.says.owner t.old.says.name t.old.says.desc in
    let v = call_use (moved p) (this_name c) t.old.interface t.old.says.owner t.old.says.name (changed_desc c i t.old) in
    let test : interface_test count u ≡ None = ap (or_no_member (interface_test count)) (sym (target_use p (this_name c) c.pool i t.old)) ∙ h in
    let a = none_of u.names _ test in
    let b = none_of (fault_if u.barred LeftOut) (called_by_interface_test count u u.member) a.1 in
    let slots = change_slots p c (this_name c) i t.old t.change in
    ap (or_no_member (interface_test (one_more count))) (taken_use p c d k i j t)
    ∙ interface_more count (slots_of t.change.ps) u v (change_more p k.linked k.all k.passing c k.pair.kept (this_name c) k.pair.plain i t.old t.change a.0 (no_again u.barred LeftOut b.0))
    slots.0 slots.1 (change_few p c (this_name c) i t.old t.change) test
