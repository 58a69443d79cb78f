-- The tests of references to methods, in the moved program as in the program.
use Rattle.std.proofs.Common.{◌≡◌, ℕ, ◌+◌, ◌≤◌, ◌<◌, Bool, true, false, ◌&&◌, not, Option, Some, None, refl, ap, sym, ◌∙◌, arith}
use Rattle.std.specs.Prelude.{IsTrue, nat_lt, ◌||◌, ◌==◌, if◌then◌else◌}
use Rattle.std.proofs.lemmas.Bool.{eq-eqb, eqb-true, lt-ltb}
use Rattle.jground.specs.jbase.FirstFaults.{fault_if, or_else}
use Rattle.jground.proofs.JbaseProofs.Firsts.{none_of}
use Rattle.jparts.specs.declared.jcode.names.CallOp.{CallOp}
use Rattle.jparts.specs.declared.jcode.names.CallOp.TheVariants as callops
use Rattle.jresolution.specs.declared.jprogram.fault.LinkKind.TheVariants.{BadUse, LeftOut}
use Rattle.jlinking.specs.declared.jreferring.judged.MemberFacts.{MemberFacts}
use Rattle.jlinking.specs.declared.jreferring.judged.MemberUse.{MemberUse}
use Rattle.jlinking.specs.jreferring.ReferenceUses.{access_test, call_left_out_test, call_test, called_by_interface_test, called_test, counts, differs, interface_test, is_misused, is_miscalled}
use Rattle.jlinking.specs.ProofNames.{calls_static, is_virtual}
use Rattle.jrewriting.proofs.JrewriteProofs.DeclarationChecks.{first_false, no_again, no_fault, or_join, second_false}
use Rattle.jrewriting.proofs.JrewriteProofs.MemberPhase.{none_or}

-- ---- a reference with one more parameter

-- what may be used as another one
pub record IsMore (u v : MemberUse) : Type 0 where
  pub names : v.names ≡ None
  pub barred : v.barred ≡ false
  pub of_interface : v.of_interface ≡ u.of_interface
  pub crossed : v.crossed ≡ u.crossed
  pub upward : v.upward ≡ u.upward
  pub init : v.init ≡ u.init
  pub member : v.member ≡ u.member

miscalled_same : (op : CallOp) (u v : MemberUse) (m : MemberFacts) → v.upward ≡ u.upward → v.init ≡ u.init → is_miscalled op v m ≡ is_miscalled op u m
miscalled_same callops.Virtual u v m up init = ap (λ (b : Bool). b || m.is_private) init
miscalled_same callops.Special u v m up init = ap (λ (b : Bool). not (b || v.upward)) init ∙ ap (λ (b : Bool). not (u.init || b)) up
miscalled_same callops.Static u v m up init = init

called_same : (op : CallOp) (u v : MemberUse) (o : Option MemberFacts) → IsMore u v → called_test op v o ≡ called_test op u o
called_same op u v None k = refl
called_same op u v (Some m) k =
    let now = differs (calls_static op) m.is_static in
    ap (λ (b : Bool). or_else (access_test false m) (fault_if (now || (b || is_miscalled op v m)) BadUse)) k.crossed
    ∙ ap (λ (b : Bool). or_else (access_test false m) (fault_if (now || (u.crossed || b)) BadUse)) (miscalled_same op u v m k.upward k.init)

pub call_more : (op : CallOp) (u v : MemberUse) → IsMore u v → call_test op u ≡ None → call_test op v ≡ None
call_more op u v k h =
    let a = none_of u.names _ h in
    let b = none_of (call_left_out_test op u) (called_test op u u.member) a.1 in
    let left = second_false u.barred (not (is_virtual op) && u.of_interface) (no_again (u.barred || (not (is_virtual op) && u.of_interface)) LeftOut b.0) in
    none_or v.names _ k.names
    (none_or (call_left_out_test op v) (called_test op v v.member)
    (no_fault (v.barred || (not (is_virtual op) && v.of_interface)) LeftOut (or_join v.barred (not (is_virtual op) && v.of_interface) k.barred (ap (λ (b : Bool). not (is_virtual op) && b) k.of_interface ∙ left)))
    (ap (called_test op v) k.member ∙ called_same op u v u.member k ∙ b.1))

-- ---- by invokeinterface

-- the count of a call with one more argument
abbrev pub one_more : ℕ → ℕ
one_more count = if nat_lt count 255 then count + 1 else count

counted : (count k : ℕ) → IsTrue (k + 1 == count) → k ≤ 253 → (k + 1 + 1 == one_more count) ≡ true
counted count k h few =
    let is : k + 1 ≡ count = eqb-true (k + 1) count h in
    let less : count < 255 = omega arith in
    ap (λ (b : Bool). k + 1 + 1 == (if b then count + 1 else count)) (lt-ltb count 255 less) ∙ eq-eqb (k + 1 + 1) (count + 1) (omega arith)

-- the slots of the arguments, where the call isn't of a static method
abbrev pub FewSlots : MemberUse → ℕ → Type 0
FewSlots u k = (m : MemberFacts) → u.member ≡ Some m → m.is_static ≡ false → k ≤ 253

counts_some : (count k : ℕ) (o : Option ℕ) → o ≡ Some k → counts count o ≡ true → IsTrue (k + 1 == count)
counts_some count k o e h = sym (ap (counts count) e) ∙ h

not_true : (b : Bool) → not b ≡ false → b ≡ true
not_true true h = refl
not_true false h = absurd cc

true_not : (b : Bool) → b ≡ true → not b ≡ false
true_not true h = refl
true_not false h = absurd cc

interface_by : (count k : ℕ) (u v : MemberUse) (o : Option MemberFacts) → u.member ≡ o → IsMore u v → u.slots ≡ Some k → v.slots ≡ Some (k + 1) → FewSlots u k → called_by_interface_test count u o ≡ None → called_by_interface_test (one_more count) v o ≡ None
interface_by count k u v None at more old new few h = absurd cc
interface_by count k u v (Some m) at more old new few h =
    let a = none_of (access_test false m) (fault_if (is_misused count u m) BadUse) h in
    let b = no_again (is_misused count u m) BadUse a.1 in
    let static = first_false m.is_static _ b in
    let c = second_false m.is_static (u.crossed || (u.init || (m.is_private || not (counts count u.slots)))) b in
    let crossed = first_false u.crossed _ c in
    let d = second_false u.crossed (u.init || (m.is_private || not (counts count u.slots))) c in
    let init = first_false u.init _ d in
    let e = second_false u.init (m.is_private || not (counts count u.slots)) d in
    let hidden = first_false m.is_private _ e in
    let right = counts_some count k u.slots old (not_true (counts count u.slots) (second_false m.is_private (not (counts count u.slots)) e)) in
    let now : counts (one_more count) v.slots ≡ true = ap (counts (one_more count)) new ∙ counted count k right (few m at static) in
    none_or (access_test false m) (fault_if (is_misused (one_more count) v m) BadUse) a.0
    (no_fault (is_misused (one_more count) v m) BadUse
    (or_join m.is_static _ static
    (or_join v.crossed _ (more.crossed ∙ crossed)
    (or_join v.init _ (more.init ∙ init)
    (or_join m.is_private _ hidden (true_not (counts (one_more count) v.slots) now))))))

pub interface_more : (count k : ℕ) (u v : MemberUse) → IsMore u v → u.slots ≡ Some k → v.slots ≡ Some (k + 1) → FewSlots u k → interface_test count u ≡ None → interface_test (one_more count) v ≡ None
interface_more count k u v more old new few h =
    let a = none_of u.names _ h in
    let b = none_of (fault_if u.barred LeftOut) (called_by_interface_test count u u.member) a.1 in
    none_or v.names _ more.names
    (none_or (fault_if v.barred LeftOut) (called_by_interface_test (one_more count) v v.member) (no_fault v.barred LeftOut more.barred)
    (ap (called_by_interface_test (one_more count) v) more.member ∙ interface_by count k u v u.member refl more old new few b.1))
