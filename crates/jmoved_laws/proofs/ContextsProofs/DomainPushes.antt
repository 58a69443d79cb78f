-- In moved code each call that is told a domain stands behind the instruction that pushes the method's own, and nothing else leads to it.
use Rattle.std.proofs.Common.{◌≡◌, ℕ, zero, suc, ◌+◌, ◌<◌, Bool, true, false, List, [], ◌∷◌, length, map, Option, Some, None, refl, sym, ap, subst, ◌∙◌, inl, inr, arith}
use Rattle.std.specs.Prelude.{◌⊎◌, is_some, not, nat_lt, option_and_then, option_map, slice_get, ◌||◌, if◌then◌else◌}
use Rattle.std.specs.List.{AllByRecursion, find}
use Rattle.std.proofs.lemmas.Bool.{lt-ltb}
use Rattle.jparts.specs.declared.jcode.op.Handler.{Handler}
use Rattle.jparts.specs.declared.jcode.op.Op.{Op}
use Rattle.jparts.specs.declared.jcode.op.Placed.{Placed}
use Rattle.jclass.specs.declared.class.ClassParts.{ClassParts}
use Rattle.jclass.specs.declared.class.CodeBody.{CodeBody}
use Rattle.jclass.specs.declared.class.MemberInfo.{MemberInfo}
use Rattle.jclass.specs.FileContents.{Leads}
use Rattle.jclass.proofs.FittingClasses.{code_fits, code_leads}
use Rattle.jlib.specs.declared.calls.LibCall.{LibCall}
use Rattle.jlib.specs.declared.calls.LibCall.TheVariants as calls
use Rattle.jlib.specs.declared.calls.RtCall.TheVariants as rt
use Rattle.jlib.specs.declared.side.Side.{Side}
use Rattle.jlib.specs.declared.side.Side.TheVariants.{Source}
use Rattle.jlib.specs.LibraryMembers as library
use Rattle.jtypes.specs.declared.vtype.VType.{VType}
use Rattle.jmove.specs.declared.method.Expand.{Expand}
use Rattle.jmove.specs.declared.method.Setting.{Setting}
use Rattle.jmove.specs.MethodExpansion.{expansion, moved_handler}
use Rattle.jmoveclass.specs.EntryLocals.{slots}
use Rattle.jmoveclass.specs.MovedClasses.{moved_class}
use Rattle.jrewriting.proofs.JmoveclassLawsProofs.CodeFormat.{begin_of, new_body, set_of}
use Rattle.jrewriting.proofs.JmoveclassLawsProofs.MovedMethods.{Alike, Like}
use Rattle.jrewriting.specs.jmove_laws.InstructionNumbers.{new_place, standing}
use Rattle.jrewriting.proofs.JmoveLawsProofs.BranchTargets.{first_of, jumps, within}
use Rattle.jrewriting.proofs.JmoveLawsProofs.InstructionNumbers.{covered, fetched as stands_at}
use Rattle.jrewriting.proofs.JmoveLawsProofs.HandlerRanges.{labelled, there}
use Rattle.jresolution.specs.declared.jprogram.member.Member.{Member}
use Rattle.jresolution.specs.declared.jprogram.member.Member.TheVariants.{Field, LibField, LibMethod, Method}
use Rattle.jresolution.specs.declared.jprogram.member.MethodId.{MethodId}
use Rattle.jresolution.specs.declared.jprogram.part.CodePart.{CodePart}
use Rattle.jresolution.specs.jprogram.ProgramClasses.{Program}
use Rattle.jresolution.specs.jprogram.MemberResolution.{part_of}
use Rattle.jresolution.specs.jprogram.ClassFileParts.{code_of}
use Rattle.jresolution.proofs.JprogramProofs.NameReachability.{or_right}
use Rattle.jresolution.specs.juses.IndexedInstructions.{Instruction, Used, body_in, code_at, goes_on, instruction, instruction_at, instruction_in, targets}
use Rattle.jresolution.specs.juses.InstructionMeanings as meanings
use Rattle.jlinking.proofs.JlinkProofs.CodeMeanings.{coded, leads_within, means}
use Rattle.jlinking.proofs.JlinkProofs.PresentValues.{has_some, then_is}
use Rattle.jtyping.specs.jwelltyped.VerifierTests.{WellTyped}
use Rattle.jsemantics.specs.jmachine.FrameOperations.{domain_in, domain_of}
use Rattle.jsemantics.specs.jmachine.MachineSteps.{fetched, unless_last}
use Rattle.jsemantics.specs.jmachine.Unwinding.{handler_at, handler_from, handler_in, number_at, takes}
use Rattle.jrewriting.specs.jrewrite.LinkageLaws.{IsLinked}
use Rattle.jrewriting.specs.jrewrite.RewrittenPrograms.{limits, moved}
use Rattle.jrewriting.proofs.JrewriteProofs.FinalOverrides.{moved_at}
use Rattle.jrewriting.proofs.JrewriteProofs.HierarchyPhases.{part_of_moved}
use Rattle.jrewriting.proofs.JrewriteProofs.PoolAdditions.{known_of}
use Rattle.jsimulation_laws.specs.relation.InstructionExpansion.{Place, expanded, prologue, push}
use Rattle.jmoved_laws.proofs.CodeProofs.MovedMethodCode.{Both, both_of, instruction_there, some_code}
use Rattle.jmoved_laws.proofs.CodeProofs.InstructionFetch.{Row, each, first_law, fits, gets, got, many, number, place, row_at}
use Rattle.jmoved_laws.proofs.CodeProofs.ExpansionMeanings.{Each, Means}
use Rattle.jmoved_laws.proofs.ContextsProofs.NamedMembers.{NamesOn, names_on}
use Rattle.jmoved_laws.proofs.ContextsProofs.DomainCalls.{expanded_leads, expanded_told, is_told, prologue_leads, prologue_told, told_at, told_in, told_library, told_member}

-- ---- what is asked of code

-- A call that is told a domain stands behind the instruction that pushes the method's own; and no instruction and no handler leads to it.
pub record Guards (q : Program) : Type 0 where
  pub behind : (m : MethodId) (k : ℕ) → told_at q m (k + 1) ≡ true → fetched q m k ≡ Some (push (domain_of q m))
  pub first : (m : MethodId) → told_at q m 0 ≡ false
  pub leads : (m : MethodId) (k : ℕ) (x : Instruction) → fetched q m k ≡ Some x → AllByRecursion (λ to. told_at q m to ≡ false) (targets x)
  pub handles : (m : MethodId) (thrown : VType) (k to : ℕ) → handler_at q thrown m k ≡ Some to → told_at q m to ≡ false

-- ---- programs of the source side tell no domains

told_source : (call : LibCall) → library.call_stands_on Source call ≡ true → told_library call ≡ false
told_source (calls.Rt rt.Enter) h = absurd cc
told_source (calls.Rt rt.Check) h = refl
told_source (calls.Rt rt.Snapshot) h = refl
told_source (calls.Rt rt.Privileged) h = absurd cc
told_source (calls.Rt rt.PrivilegedWith) h = absurd cc
told_source (calls.Rt rt.PrivilegedLimited) h = absurd cc
told_source (calls.Run side) h = refl
told_source (calls.RunAction side) h = refl
told_source (calls.Thread call) h = refl
told_source (calls.Controller call) h = refl
told_source calls.ObjectInit h = refl
told_source (calls.ThrownInit class how) h = refl
told_source calls.AccessControlInit h = refl
told_source calls.GetMessage h = refl
told_source (calls.String call) h = refl
told_source (calls.Builder call) h = refl
told_source calls.Out h = refl
told_source calls.PrintEnd h = refl
told_source (calls.Print piece) h = refl
told_source calls.ContextCheck h = refl
told_source (calls.PermissionInit one) h = refl

quiet_member : (m : Member) → ((call : LibCall) → m ≡ LibMethod call → library.call_stands_on Source call ≡ true) → told_member m ≡ false
quiet_member (Method i) h = refl
quiet_member (LibMethod call) h = told_source call (h call refl)
quiet_member (Field i j) h = refl
quiet_member LibField h = refl

quiet : (p : Program) → p.side ≡ Source → (i : Instruction) → NamesOn p i → is_told i ≡ false
quiet p source (Used (meanings.Call by c)) h = quiet_member c.member (λ call e. ap (λ (s : Side). library.call_stands_on s call) (sym source) ∙ h call e)
quiet p source (Used (meanings.Push c)) h = refl
quiet p source (Used (meanings.Field op f)) h = refl
quiet p source (Used (meanings.Make c)) h = refl
quiet p source (Used (meanings.MakeArray t)) h = refl
quiet p source (Used (meanings.Cast op t)) h = refl
quiet p source _ h = refl

-- ---- lists that correspond

pub record Beside (P : Op → Instruction → Type 0) (xs : List Instruction) (j : ℕ) (o : Op) : Type 0 where
  pub other : Instruction
  pub there : slice_get xs j ≡ Some other
  pub is : P o other

beside : (P : Op → Instruction → Type 0) (os : List Op) (xs : List Instruction) → Each P os xs → (j : ℕ) (o : Op) → slice_get os j ≡ Some o → Beside P xs j o
beside P [] xs h j o at = absurd cc
beside P (a ∷ os) [] h j o at = absurd h
beside P (a ∷ os) (y ∷ xs) h zero o at = let same : a ≡ o = cc in record { other = y; there = refl; is = subst (λ (b : Op). P b y) same h.0 }
beside P (a ∷ os) (y ∷ xs) h (suc j) o at =
    let r = beside P os xs h.1 j o at in
    record { other = r.other; there = r.there; is = r.is }

one_is : {A : Type 0} (o : Option A) (x y : A) → o ≡ Some x → o ≡ Some y → x ≡ y
one_is o x y e f = cc

told_some : (o : Option Instruction) → told_in o ≡ true → (x : Instruction) × (o ≡ Some x) × (is_told x ≡ true)
told_some None h = absurd cc
told_some (Some x) h = (x, refl, h)

-- where it isn't told when it is
not_so : (b : Bool) → (b ≡ true → b ≡ false) → b ≡ false
not_so true h = h refl
not_so false h = refl

-- what is found among handlers that were moved is one of them
record FoundMoved (to : ℕ → ℕ) (hs : List Handler) (h : Handler) : Type 0 where
  l : ℕ
  old : Handler
  at : slice_get hs l ≡ Some old
  is : moved_handler to old ≡ h

found_moved : (to : ℕ → ℕ) (test : Handler → Bool) (hs : List Handler) (h : Handler) → find test (map (moved_handler to) hs) ≡ Some h → FoundMoved to hs h
found_moved to test [] h e = absurd cc
found_moved to test (x ∷ hs) h e = by (test (moved_handler to x)) e (found_moved to test hs h)
  where
    by : (b : Bool) → (if b then Some (moved_handler to x) else find test (map (moved_handler to) hs)) ≡ Some h → (find test (map (moved_handler to) hs) ≡ Some h → FoundMoved to hs h) → FoundMoved to (x ∷ hs) h
    by true e later = record { l = 0; old = x; at = refl; is = cc }
    by false e later = let r = later e in record { l = suc r.l; old = r.old; at = r.at; is = r.is }

-- ---- one method

module _ (p : Program) (linked : IsLinked p) (m : MethodId) (b : CodeBody) (at : code_at p m ≡ Some b) (r : Both p m b) where
  abbrev c : ClassParts
  c = r.part.class

  abbrev d : ClassParts
  d = moved_class p r.part.domain c

  abbrev q : Program
  q = moved p

  abbrev s : Setting
  s = set_of c r.method b r.part.domain r.first

  abbrev begin : List Op
  begin = begin_of c r.method b r.part.domain r.first r.enter

  abbrev now : CodeBody
  now = new_body c r.method b r.part.domain r.first r.enter r.ms r.context

  abbrev new : List Placed
  new = now.ops

  abbrev to : ℕ → ℕ
  to = new_place begin s r.ms b.ops

  abbrev at_number : ℕ → ℕ
  at_number = number p m b r

  abbrev here : Place
  here = place p m b r

  -- an old instruction, with what it means
  record Old (n : ℕ) (i : Placed) : Type 0 where
    it : Instruction
    quiet : is_told it ≡ false
    leads : AllByRecursion (λ k. k < length b.ops) (targets it)
    row : Row p m b r n i it

  old : (n : ℕ) (i : Placed) → slice_get b.ops n ≡ Some i → Old n i
  old n i stands =
      let x = has_some (instruction_at p m n) (means p m b n linked.links linked.files at (within b.ops n i stands)) in
      let meant : instruction p c.pool b.ops i ≡ Some x.0 =
      sym (ap (option_and_then (instruction p c.pool b.ops)) stands) ∙ sym (instruction_there p m c b r.old n) ∙ x.1 in
      record {
        it = x.0;
        quiet = quiet p linked.source x.0 (names_on p c.pool b.ops i x.0 meant);
        leads = leads_within p m b n x.0 at x.1;
        row = row_at p m b r n i x.0 stands meant;
      }

  -- ---- what is fetched

  -- an instruction of moved code is one of an expansion
  record Spot (k : ℕ) (x : Instruction) : Type 0 where
    n : ℕ
    j : ℕ
    i : Placed
    one : Old n i
    number_is : k ≡ at_number n + j
    there : slice_get (expanded here at_number one.it) j ≡ Some x

  spot_there : (n j : ℕ) (i : Placed) (one : Old n i) (k : ℕ) (x : Instruction) → k ≡ at_number n + j → j < length (expansion s one.row.kind i.op) → fetched q m k ≡ Some x
      → slice_get (expanded here at_number one.it) j ≡ Some x
  spot_there n j i one k x is less h =
      let os = expansion s one.row.kind i.op in
      let op = there os j less in
      let y = beside (Means q d.pool new to i.at) os (expanded here at_number one.it) one.row.row j op.0 op.1 in
      let z = standing to i.at (to i.at) os j op.0 in
      let stands : slice_get new k ≡ Some z = ap (slice_get new) is ∙ stands_at begin s r.ms b.ops (fits p m b r) n j one.row.kind i op.0 one.row.is_nth op.1 in
      let g = got q m d now r.new k x h in
      let same : z ≡ g.i = one_is (slice_get new k) z g.i stands g.stands in
      let meant : instruction q d.pool new z ≡ Some x = ap (instruction q d.pool new) same ∙ g.means in
      let is_x : y.other ≡ x = one_is (instruction q d.pool new z) y.other x (y.is z.at) meant in
      y.there ∙ ap (λ (w : Instruction). Some w) is_x

  spot_at : (n j : ℕ) (i : Placed) (one : Old n i) (k : ℕ) (x : Instruction) → k ≡ at_number n + j → j < length (expansion s one.row.kind i.op) → fetched q m k ≡ Some x → Spot k x
  spot_at n j i one k x is less h = record { n = n; j = j; i = i; one = one; number_is = is; there = spot_there n j i one k x is less h }

  covered_at : (k : ℕ) (x : Instruction) → fetched q m k ≡ Some x → (k < 4) ⊎ Spot k x
  covered_at k x h =
      let g = got q m d now r.new k x h in
      elim (covered begin s r.ms b.ops k (within new k g.i g.stands)) as (λ _. (k < 4) ⊎ Spot k x) [
        | inl low ↦ inl low
        | inr e ↦ inr (
            let one = old e.n e.old e.nth.old in
            let kinds : one.row.kind ≡ e.kind = one_is (slice_get r.ms e.n) one.row.kind e.kind one.row.is_nth.kind e.nth.kind in
            spot_at e.n e.j e.old one k x e.is_number (subst (λ (w : Expand). e.j < length (expansion s w e.old.op)) (sym kinds) e.within) h
            )
      ]

  -- the instructions with which it begins
  front_is : (k : ℕ) (y : Instruction) → slice_get (prologue (slots c r.method) here) k ≡ Some y → (x : Instruction) → fetched q m k ≡ Some x → slice_get (prologue (slots c r.method) here) k ≡ Some x
  front_is k y there x h = there ∙ ap (λ (w : Instruction). Some w) (one_is (fetched q m k) y x (first_law p m b r k y there) h)

  front : (k : ℕ) (x : Instruction) → k < 4 → fetched q m k ≡ Some x → slice_get (prologue (slots c r.method) here) k ≡ Some x
  front zero x lt h = front_is 0 _ refl x h
  front (suc zero) x lt h = front_is 1 _ refl x h
  front (suc (suc zero)) x lt h = front_is 2 _ refl x h
  front (suc (suc (suc zero))) x lt h = front_is 3 _ refl x h
  front (suc (suc (suc (suc k)))) x lt h = absurd (omega (arith, lt))

  -- ---- behind which instruction a call stands that is told a domain

  has_next : (k : ℕ) (x y : Instruction) → fetched q m (k + 1) ≡ Some x → (not (goes_on y) || nat_lt (k + 1) (length new)) ≡ true
  has_next k x y h =
      let g = got q m d now r.new (k + 1) x h in
      or_right (not (goes_on y)) (nat_lt (k + 1) (length new)) (lt-ltb (k + 1) (length new) (within new (k + 1) g.i g.stands))

  behind_spot : (k : ℕ) (x : Instruction) → fetched q m (k + 1) ≡ Some x → is_told x ≡ true → Spot (k + 1) x → fetched q m k ≡ Some (push here.domain)
  behind_spot k x h told e =
      let w = expanded_told here at_number e.one.it e.one.quiet e.j x e.there told in
      let os = expansion s e.one.row.kind e.i.op in
      let many = many p m b r e.n e.i e.one.it e.one.row in
      let less : w.before < length os = omega (arith, many, within (expanded here at_number e.one.it) w.before (push here.domain) w.there) in
      let op = there os w.before less in
      let y = beside (Means q d.pool new to e.i.at) os (expanded here at_number e.one.it) e.one.row.row w.before op.0 op.1 in
      let z = standing to e.i.at (to e.i.at) os w.before op.0 in
      let number_is : at_number e.n + w.before ≡ k = omega (arith, w.is, e.number_is) in
      let stands : slice_get new k ≡ Some z = ap (slice_get new) (sym number_is) ∙ stands_at begin s r.ms b.ops (fits p m b r) e.n w.before e.one.row.kind e.i op.0 e.one.row.is_nth op.1 in
      let is_push : y.other ≡ push here.domain = one_is (slice_get (expanded here at_number e.one.it) w.before) y.other (push here.domain) y.there w.there in
      gets q m d now r.new k z (push here.domain) stands (y.is z.at ∙ ap (λ (v : Instruction). Some v) is_push) (has_next k x (push here.domain) h)

  behind_front : (k : ℕ) (x : Instruction) → k + 1 < 4 → fetched q m (k + 1) ≡ Some x → is_told x ≡ true → fetched q m k ≡ Some (push here.domain)
  behind_front k x lt h told =
      let w = prologue_told (slots c r.method) here (k + 1) x (front (k + 1) x lt h) told in
      let number_is : w.before ≡ k = omega (arith, w.is) in
      first_law p m b r k (push here.domain) (ap (slice_get (prologue (slots c r.method) here)) (sym number_is) ∙ w.there)

  pub behind_here : (k : ℕ) → told_at q m (k + 1) ≡ true → fetched q m k ≡ Some (push here.domain)
  behind_here k told =
      let x = told_some (fetched q m (k + 1)) told in
      elim (covered_at (k + 1) x.0 x.1) as (λ _. fetched q m k ≡ Some (push here.domain)) [
        | inl low ↦ behind_front k x.0 low x.1 x.2
        | inr e ↦ behind_spot k x.0 x.1 x.2 e
      ]

  no_front : (x : Instruction) → fetched q m 0 ≡ Some x → is_told x ≡ true → told_at q m 0 ≡ false
  no_front x h told = let w = prologue_told (slots c r.method) here 0 x (front 0 x (omega arith) h) told in absurd (omega (arith, w.is))

  pub first_here : told_at q m 0 ≡ false
  first_here = not_so (told_at q m 0) (λ told. (let x = told_some (fetched q m 0) told in no_front x.0 x.1 x.2))

  -- ---- where instructions and handlers lead

  -- the first instruction of an expansion is told no domain
  no_start : (n : ℕ) (i : Placed) → slice_get b.ops n ≡ Some i → (x : Instruction) → fetched q m (at_number n) ≡ Some x → is_told x ≡ true → told_at q m (at_number n) ≡ false
  no_start n i stands x h told =
      let one = old n i stands in
      let zeroth = first_of s one.row.kind i.op in
      let none : at_number n ≡ at_number n + 0 = omega arith in
      let at_first = spot_there n 0 i one (at_number n) x none (within (expansion s one.row.kind i.op) 0 zeroth.0 zeroth.1) h in
      let w = expanded_told here at_number one.it one.quiet 0 x at_first told in
      absurd (omega (arith, w.is))

  start : (n : ℕ) (i : Placed) → slice_get b.ops n ≡ Some i → told_at q m (at_number n) ≡ false
  start n i stands = not_so (told_at q m (at_number n)) (λ told. (let x = told_some (fetched q m (at_number n)) told in no_start n i stands x.0 x.1 x.2))

  all_start : (ns : List ℕ) → AllByRecursion (λ n. n < length b.ops) ns → AllByRecursion (λ n. told_at q m (at_number n) ≡ false) ns
  all_start [] h = tt
  all_start (n ∷ ns) h = (let i = there b.ops n h.0 in start n i.0 i.1, all_start ns h.1)

  pub leads_here : (k : ℕ) (x : Instruction) → fetched q m k ≡ Some x → AllByRecursion (λ n. told_at q m n ≡ false) (targets x)
  leads_here k x h = elim (covered_at k x h) as (λ _. AllByRecursion (λ n. told_at q m n ≡ false) (targets x)) [
    | inl low ↦ prologue_leads (λ n. told_at q m n ≡ false) (slots c r.method) here k x (front k x low h)
    | inr e ↦ expanded_leads (λ n. told_at q m n ≡ false) here at_number e.one.it (all_start (targets e.one.it) e.one.leads) e.j x e.there
  ]

  handler_there : (thrown : VType) (k : ℕ) → handler_at q thrown m k ≡ option_and_then (handler_from q d.pool thrown now) (slice_get new k)
  unfolding handler_at
  handler_there thrown k = ap (option_and_then (λ x. option_and_then (handler_in q thrown k x) (body_in x m.method))) r.new.class ∙ ap (option_and_then (handler_in q thrown k d)) r.new.body

  pub handles_here : (thrown : VType) (k l : ℕ) → handler_at q thrown m k ≡ Some l → told_at q m l ≡ false
  handles_here thrown k l h =
      let one = then_is (handler_from q d.pool thrown now) (slice_get new k) l (sym (handler_there thrown k) ∙ h) in
      let x = then_is (λ (y : Handler). number_at new y.at) (find (takes q d.pool thrown one.0.at) (map (moved_handler to) b.handlers)) l one.2 in
      let f = found_moved to (takes q d.pool thrown one.0.at) b.handlers x.0 x.1 in
      let lead : Leads b.ops f.old = code_leads c.pool b f.old (code_fits c b r.has) (f.l, f.at) in
      let label = labelled r.ms b.ops f.old.at (each p m b r) lead.3 in
      let number_new : number_at new (to f.old.at) ≡ Some (at_number label.number) =
      subst (λ (y : ℕ). number_at new (to y) ≡ Some (at_number label.number)) label.place (jumps begin s r.ms b.ops (fits p m b r) label.number label.kind label.one label.nth) in
      let same : at_number label.number ≡ l =
      one_is (number_at new (to f.old.at)) (at_number label.number) l number_new (ap (λ (y : Handler). number_at new y.at) f.is ∙ x.2) in
      subst (λ (n : ℕ). told_at q m n ≡ false) same (start label.number label.one label.nth.old)

  pub domain_here : domain_of q m ≡ here.domain
  domain_here = ap domain_in (moved_at p m.class r.part r.stands)

-- ---- all methods

-- a method with code in the moved program had code
record Back (c d : ClassParts) (xs : List MemberInfo) (j : ℕ) (n : MemberInfo) : Type 0 where
  old : MemberInfo
  at : slice_get xs j ≡ Some old
  like : Like c d.pool old n

back_at : (c d : ClassParts) (xs ys : List MemberInfo) (j : ℕ) (n : MemberInfo) → Alike c d.pool xs ys → slice_get ys j ≡ Some n → Back c d xs j n
back_at c d [] [] j n all at = absurd cc
back_at c d [] (y ∷ ys) j n all at = absurd all
back_at c d (x ∷ xs) [] j n all at = absurd all
back_at c d (x ∷ xs) (y ∷ ys) zero n all at = let same : y ≡ n = cc in record { old = x; at = refl; like = subst (Like c d.pool x) same all.0 }
back_at c d (x ∷ xs) (y ∷ ys) (suc j) n all at = let e = back_at c d xs ys j n all.1 at in record { old = e.old; at = e.at; like = e.like }

module _ (p : Program) (linked : IsLinked p) (typed : WellTyped p) (few : limits p ≡ None) where
  code_back : (m : MethodId) (now : CodeBody) → code_at (moved p) m ≡ Some now → (b : CodeBody) × (code_at p m ≡ Some b)
  code_back m now h =
      let w = coded (moved p) m now h in
      let f = part_of_moved p m.class w.part w.stands in
      let c = f.part.class in
      let d = moved_class p f.part.domain c in
      let k = known_of p linked typed few m.class f.part f.at in
      let alike = k.all m.class c d (record { part = f.part; at = f.at; here = refl; there = refl }) in
      let there : slice_get d.methods m.method ≡ Some w.method = ap (λ (x : CodePart). slice_get x.class.methods m.method) f.is ∙ w.declared in
      let e = back_at c d c.methods d.methods m.method w.method alike.1 there in
      let code = some_code e.old (sym e.like.code ∙ ap is_some w.coded) in
      (code.0, ap (option_and_then (λ (x : ClassParts). body_in x m.method)) (ap (option_map (λ (x : CodePart). x.class)) f.at) ∙ ap (option_and_then code_of) e.at ∙ code.1)

  code_of_fetched : (m : MethodId) (k : ℕ) (x : Instruction) → fetched (moved p) m k ≡ Some x → (now : CodeBody) × (code_at (moved p) m ≡ Some now)
  unfolding fetched instruction_at
  code_of_fetched m k x h =
      let i = then_is (unless_last (moved p) m k) (instruction_at (moved p) m k) x h in
      let c = then_is (λ (y : ClassParts). option_and_then (instruction_in (moved p) y k) (body_in y m.method)) (part_of (moved p) m.class) i.0 i.1 in
      let b = then_is (instruction_in (moved p) c.0 k) (body_in c.0 m.method) i.0 c.2 in
      (b.0, ap (option_and_then (λ (y : ClassParts). body_in y m.method)) c.1 ∙ b.1)

  code_of_handled : (m : MethodId) (thrown : VType) (k l : ℕ) → handler_at (moved p) thrown m k ≡ Some l → (now : CodeBody) × (code_at (moved p) m ≡ Some now)
  unfolding handler_at
  code_of_handled m thrown k l h =
      let c = then_is (λ (y : ClassParts). option_and_then (handler_in (moved p) thrown k y) (body_in y m.method)) (part_of (moved p) m.class) l h in
      let b = then_is (handler_in (moved p) thrown k c.0) (body_in c.0 m.method) l c.2 in
      (b.0, ap (option_and_then (λ (y : ClassParts). body_in y m.method)) c.1 ∙ b.1)

  both : (m : MethodId) (b : CodeBody) → code_at p m ≡ Some b → Both p m b
  both m b at = both_of p linked typed few m b at

  fetched_back : (m : MethodId) (k : ℕ) (x : Instruction) → fetched (moved p) m k ≡ Some x → (b : CodeBody) × (code_at p m ≡ Some b)
  fetched_back m k x h = let now = code_of_fetched m k x h in code_back m now.0 now.1

  all_behind : (m : MethodId) (k : ℕ) → told_at (moved p) m (k + 1) ≡ true → fetched (moved p) m k ≡ Some (push (domain_of (moved p) m))
  all_behind m k told =
      let x = told_some (fetched (moved p) m (k + 1)) told in
      let b = fetched_back m (k + 1) x.0 x.1 in
      let r = both m b.0 b.1 in
      behind_here p linked m b.0 b.1 r k told ∙ ap (λ (n : ℕ). Some (push n)) (sym (domain_here p linked m b.0 b.1 r))

  all_first : (m : MethodId) → told_at (moved p) m 0 ≡ false
  all_first m = not_so (told_at (moved p) m 0) (λ told. (
      let x = told_some (fetched (moved p) m 0) told in
      let b = fetched_back m 0 x.0 x.1 in
      first_here p linked m b.0 b.1 (both m b.0 b.1)))

  -- The code of a moved program is so.
  pub moved_guards : Guards (moved p)
  moved_guards = record {
    behind = all_behind;
    first = all_first;
    leads = λ m k x h. (let b = fetched_back m k x h in leads_here p linked m b.0 b.1 (both m b.0 b.1) k x h);
    handles = λ m thrown k l h. (
        let now = code_of_handled m thrown k l h in
        let b = code_back m now.0 now.1 in
        handles_here p linked m b.0 b.1 (both m b.0 b.1) thrown k l h);
  }
