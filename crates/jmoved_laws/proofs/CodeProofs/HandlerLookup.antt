-- Where moved code handles what is thrown: an expansion's instructions where their old instruction does.
use Rattle.std.proofs.Common.{◌≡◌, ℕ, suc, ◌+◌, ◌<◌, Bool, true, false, ◌&&◌, List, [], ◌∷◌, length, map, Option, Some, None, refl, ap, sym, ◌∙◌, subst, arith}
use Rattle.std.specs.Prelude.{IsTrue, option_and_then, option_map, slice_get, nat_le, nat_lt, ◌||◌, ◌==◌, ◌↔◌, if◌then◌else◌}
use Rattle.std.specs.List.{find, list_all}
use Rattle.std.proofs.lemmas.Bool.{le-leb, leb-true, lt-ltb, ltb-true}
use Rattle.jground.proofs.JformatProofs.ReadingSteps.{first_true, second_true}
use Rattle.jparts.specs.jpool.ConstantPools.{is_class}
use Rattle.jparts.proofs.JpoolProofs.PoolLaws.{at_index}
use Rattle.jparts.specs.declared.jcode.op.Handler.{Handler}
use Rattle.jparts.specs.declared.jcode.op.Placed.{Placed}
use Rattle.jparts.specs.jcode.Instructions as jcode
use Rattle.jclass.specs.declared.class.ClassParts.{ClassParts}
use Rattle.jclass.specs.declared.class.CodeBody.{CodeBody}
use Rattle.jclass.specs.CodeFormat.{handler}
use Rattle.jclass.specs.FlagRules.{names_caught}
use Rattle.jclass.specs.FileContents.{Leads}
use Rattle.jclass.proofs.FittingClasses.{code_fits, code_leads}
use Rattle.jclass.specs.IndexFormats.{u2}
use Rattle.jmove.specs.declared.method.Expand.{Expand}
use Rattle.jmove.specs.declared.method.Setting.{Setting}
use Rattle.jmove.specs.MethodExpansion.{expansion, moved_handler}
use Rattle.jmove.proofs.CodeLayout.{code_laid}
use Rattle.jmoveclass.specs.MovedClasses.{moved_class}
use Rattle.jrewriting.specs.jmove_laws.InstructionNumbers.{IsNth, new_place, standing}
use Rattle.jrewriting.specs.jmove_laws.HandlerRanges.{Covers, IsRange}
use Rattle.jrewriting.proofs.JmoveLawsProofs.BranchTargets.{jumps, numbered}
use Rattle.jrewriting.proofs.JmoveLawsProofs.InstructionNumbers.{fetched}
use Rattle.jrewriting.proofs.JmoveLawsProofs.HandlerRanges.{labelled, ranges, there}
use Rattle.jrewriting.proofs.JmoveclassLawsProofs.CodeFormat.{begin_of, code_parts_of, new_body, set_of}
use Rattle.jtypes.specs.declared.vtype.Name.{Name}
use Rattle.jtypes.specs.declared.vtype.VType.{VType}
use Rattle.jtypes.specs.Assignability.{fits_where, is_above_arrays}
use Rattle.jtypes.specs.ClassTrees.{Tree}
use Rattle.jresolution.specs.declared.jprogram.member.MethodId.{MethodId}
use Rattle.jresolution.specs.jprogram.ProgramClasses.{Program}
use Rattle.jresolution.specs.juses.IndexedInstructions.{Instruction, body_in}
use Rattle.jresolution.specs.juses.InstructionMeanings.{class_at}
use Rattle.jresolution.specs.ProofNames.{as_class}
use Rattle.jtyping.proofs.JruleProofs.Conjunctions.{and_true}
use Rattle.jsemantics.specs.jmachine.MachineSteps as steps
use Rattle.jsemantics.specs.jmachine.Unwinding.{catches, handler_at, handler_from, handler_in, is_caught, number_at, takes}
use Rattle.jparts.specs.jcode.Instructions.{covers}
use Rattle.jsemantics.specs.jmachine.World.{World, is_instance, world}
use Rattle.jrewriting.specs.jrewrite.RewrittenPrograms.{moved}
use Rattle.jrewriting.proofs.JrewriteProofs.Bodies.{caught}
use Rattle.jrewriting.proofs.JrewriteProofs.CodeNames.{stays_by}
use Rattle.jsimulation_laws.specs.relation.InstructionExpansion.{expanded}
use Rattle.jsimulation_laws.specs.relation.ProgramRelation.{SameClasses}
use Rattle.jmoved_laws.proofs.CodeProofs.MovedMethodCode.{Both, IsThere}
use Rattle.jmoved_laws.proofs.CodeProofs.Entries.{entry_same}
use Rattle.jmoved_laws.proofs.CodeProofs.InstructionFetch.{each, fits, got, many, number, place, row_at}
use Rattle.jmoved_laws.proofs.CodeProofs.ExpansionMeanings.{is_name}

-- ---- what a program handles

handler_there : (q : Program) (m : MethodId) (c : ClassParts) (b : CodeBody) → IsThere q m c b → (thrown : VType) (n : ℕ) → handler_at q thrown m n ≡ option_and_then (handler_from q c.pool thrown b) (slice_get b.ops n)
unfolding handler_at
handler_there q m c b t thrown n = ap (option_and_then (λ x. option_and_then (handler_in q thrown n x) (body_in x m.method))) t.class ∙ ap (option_and_then (handler_in q thrown n c)) t.body

-- ---- what a class entry catches

abbrev instance_by : Tree → (Name → Name → Bool) → VType → VType → Bool
instance_by t implements = fits_where is_above_arrays (record { is_interface = λ c. false; extends = λ c d. t.extends c d || implements c d })

same_instance : (w v : World) → SameClasses w v → is_instance v ≡ is_instance w
same_instance w v s = ap (λ (t : Tree). instance_by t v.implements) s.tree ∙ ap (instance_by w.tree) s.implements

caught_same : (p q : Program) → SameClasses (world p) (world q) → (thrown : VType) (o : Option VType) → is_caught q thrown o ≡ is_caught p thrown o
caught_same p q s thrown None = refl
caught_same p q s thrown (Some class) = ap (λ (f : VType → VType → Bool). f thrown class) (same_instance (world p) (world q) s)

-- ---- tests that agree

abbrev Agree : Bool → Bool → Type 0
Agree a b = (a ≡ true) ↔ (b ≡ true)

agreed : (a b : Bool) → Agree a b → a ≡ b
agreed true b h = sym (h.0 refl)
agreed false true h = h.1 refl
agreed false false h = refl

covering : (h : Handler) (at : ℕ) → covers at h ≡ true → Covers h at
covering h at e = (leb-true h.start at (first_true (nat_le h.start at) (nat_lt at h.end) e), ltb-true at h.end (second_true (nat_le h.start at) (nat_lt at h.end) e))

covered : (h : Handler) (at : ℕ) → Covers h at → covers at h ≡ true
covered h at e = and_true (nat_le h.start at) (nat_lt at h.end) (le-leb h.start at e.0) (lt-ltb at h.end e.1)

-- what is found among handlers that were moved, where the tests agree
found_moved : (to number : ℕ → ℕ) (f : Handler → Option ℕ) (g : Handler → Option ℕ) (t u : Handler → Bool) (hs : List Handler) → ((i : ℕ) (h : Handler) → slice_get hs i ≡ Some h → (t (moved_handler to h) ≡ u h) × (f (moved_handler to h) ≡ option_map number (g h)))
    → option_and_then f (find t (map (moved_handler to) hs)) ≡ option_map number (option_and_then g (find u hs))
found_moved to number f g t u [] all = refl
found_moved to number f g t u (h ∷ hs) all = step (u h) (all 0 h refl).0 (found_moved to number f g t u hs (λ i x at. all (suc i) x at))
  where
    step : (b : Bool) → t (moved_handler to h) ≡ b → option_and_then f (find t (map (moved_handler to) hs)) ≡ option_map number (option_and_then g (find u hs))
        → option_and_then f (if t (moved_handler to h) then Some (moved_handler to h) else find t (map (moved_handler to) hs)) ≡ option_map number (option_and_then g (if b then Some h else find u hs))
    step true e later = ap (λ (x : Bool). option_and_then f (if x then Some (moved_handler to h) else find t (map (moved_handler to) hs))) e ∙ (all 0 h refl).1
    step false e later = ap (λ (x : Bool). option_and_then f (if x then Some (moved_handler to h) else find t (map (moved_handler to) hs))) e ∙ later

-- ---- the moved code

module _ (p : Program) (m : MethodId) (b : CodeBody) (r : Both p m b) (worlds : SameClasses (world p) (world (moved p))) where
  abbrev c : ClassParts
  c = r.part.class

  abbrev d : ClassParts
  d = moved_class p r.part.domain c

  abbrev q : Program
  q = moved p

  abbrev s : Setting
  s = set_of c r.method b r.part.domain r.first

  abbrev now : CodeBody
  now = new_body c r.method b r.part.domain r.first r.enter r.ms r.context

  abbrev new : List Placed
  new = now.ops

  abbrev to : ℕ → ℕ
  to = new_place (begin_of c r.method b r.part.domain r.first r.enter) s r.ms b.ops

  abbrev at : ℕ → ℕ
  at = number p m b r

  class_same : (n : ℕ) → IsTrue (is_class c.pool n) → class_at q d.pool n ≡ class_at p c.pool n
  unfolding class_at is_class
  class_same n h =
      let x = stays_by is_name (λ a b. refl) (λ a b. refl) refl (slice_get c.pool n) h in
      ap (option_and_then as_class) (entry_same p c d r.known n x.e x.at x.kept)

  caught_by : (thrown : VType) (n : ℕ) (t : Bool) → IsTrue (t || is_class c.pool n) → (t || is_caught q thrown (class_at q d.pool n)) ≡ (t || is_caught p thrown (class_at p c.pool n))
  caught_by thrown n true h = refl
  caught_by thrown n false h = ap (is_caught q thrown) (class_same n h) ∙ caught_same p q worlds thrown (class_at p c.pool n)

  catches_same : (thrown : VType) (h : Handler) → IsTrue (names_caught c.pool h.class) → catches q d.pool thrown (moved_handler to h) ≡ catches p c.pool thrown h
  unfolding names_caught
  catches_same thrown h there = caught_by thrown h.class (h.class == 0) there

  handles_one : (n j : ℕ) (kind : Expand) (i z : Placed) → IsNth r.ms b.ops n kind i → j < length (expansion s kind i.op) → slice_get new (at n + j) ≡ Some z → (thrown : VType) (l : ℕ) (h : Handler) → slice_get b.handlers l ≡ Some h
      → (takes q d.pool thrown z.at (moved_handler to h) ≡ takes p c.pool thrown i.at h) × (number_at new (moved_handler to h).at ≡ option_map at (number_at b.ops h.at))
  handles_one n j kind i z nth lt stands thrown l h is =
      let fit = code_fits c b r.has in
      let lead : Leads b.ops h = code_leads c.pool b h fit (l, is) in
      let begin = begin_of c r.method b r.part.domain r.first r.enter in
      let range : IsRange b.ops h = record { start = lead.1; «end» = lead.2 } in
      let iff = ranges begin s r.ms b.ops (each p m b r) (fits p m b r) h range n j kind i z nth lt stands in
      let same : covers z.at (moved_handler to h) ≡ covers i.at h =
      agreed (covers z.at (moved_handler to h)) (covers i.at h) (λ e. covered h i.at (iff.0 (covering (moved_handler to h) z.at e)), λ e. covered (moved_handler to h) z.at (iff.1 (covering h i.at e))) in
      let caught_there = caught c.pool b.ops h (at_index (handler c.pool b.ops).fits b.handlers l h (first_true (list_all (handler c.pool b.ops).fits b.handlers) (u2.fits (length b.handlers)) (code_parts_of c.pool b fit).handlers) is) in
      let label = labelled r.ms b.ops h.at (each p m b r) lead.3 in
      let number_old : number_at b.ops h.at ≡ Some label.number =
      subst (λ (x : ℕ). number_at b.ops x ≡ Some label.number) label.place (numbered (length (jcode.code.spell b.ops)) b.ops label.number label.one (code_laid b.ops (fits p m b r)) label.nth.old) in
      let number_new : number_at new (to h.at) ≡ Some (at label.number) =
      subst (λ (x : ℕ). number_at new (to x) ≡ Some (at label.number)) label.place (jumps begin s r.ms b.ops (fits p m b r) label.number label.kind label.one label.nth) in (
        ap (λ (x : Bool). x && catches q d.pool thrown (moved_handler to h)) same ∙ ap (λ (x : Bool). covers i.at h && x) (catches_same thrown h caught_there),
        number_new ∙ sym (ap (option_map at) number_old),
      )

  pub handles_law : (thrown : VType) (n j : ℕ) (it : Instruction) → steps.fetched p m n ≡ Some it → j < length (expanded (place p m b r) at it) → handler_at q thrown m (at n + j) ≡ option_map at (handler_at p thrown m n)
  handles_law thrown n j it h lt =
      let g = got p m c b r.old n it h in
      let x = row_at p m b r n g.i it g.stands g.means in
      let os = expansion s x.kind g.i.op in
      let less : j < length os = omega (arith, lt, many p m b r n g.i it x) in
      let op = there os j less in
      let begin = begin_of c r.method b r.part.domain r.first r.enter in
      let z : Placed = standing to g.i.at (to g.i.at) os j op.0 in
      let stands : slice_get new (at n + j) ≡ Some z = fetched begin s r.ms b.ops (fits p m b r) n j x.kind g.i op.0 x.is_nth op.1 in
      handler_there q m d now r.new thrown (at n + j)
      ∙ ap (option_and_then (handler_from q d.pool thrown now)) stands
      ∙ found_moved to at (λ k. number_at new k.at) (λ k. number_at b.ops k.at) (takes q d.pool thrown z.at) (takes p c.pool thrown g.i.at) b.handlers (λ l k is. handles_one n j x.kind g.i z x.is_nth less stands thrown l k is)
      ∙ sym (ap (option_map at) (handler_there p m c b r.old thrown n ∙ ap (option_and_then (handler_from p c.pool thrown b)) g.stands))
