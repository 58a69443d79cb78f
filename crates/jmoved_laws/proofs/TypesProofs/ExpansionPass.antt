-- The walk over one expansion, and over all of them.
use Rattle.std.proofs.Common.{◌≡◌, ℕ, suc, ◌+◌, ◌≤◌, ◌<◌, Bool, true, false, List, [], ◌∷◌, length, take, Option, Some, None, refl, sym, ap, subst, ◌∙◌, arith}
use Rattle.std.specs.Prelude.{pos, slice_get}
use Rattle.std.specs.List.{list_all}
use Rattle.jparts.specs.declared.jcode.op.Handler.{Handler}
use Rattle.jparts.specs.declared.jcode.op.Op.{Op}
use Rattle.jparts.specs.declared.jcode.op.Placed.{Placed}
use Rattle.jparts.specs.jcode.InstructionForms.{branches, form, goes_on}
use Rattle.jparts.specs.jcode.Instructions.{covers, is_place, size}
use Rattle.jclass.specs.FileContents.{IsIn}
use Rattle.jtypes.specs.declared.vtype.VType.{VType}
use Rattle.jtypes.specs.declared.vtype.VType.TheVariants.{Int, Ctx}
use Rattle.jtypes.specs.TypeFrames.{Frame, slots}
use Rattle.jmove.specs.declared.method.Expand.{Expand}
use Rattle.jmove.specs.declared.method.Expand.TheVariants.{Same, Call, Check, Snapshot, Privileged, PrivilegedWith, PrivilegedLimited}
use Rattle.jmove.specs.AssemblyLines.{Laid, led, reach}
use Rattle.jmove.specs.ProofNames.{distance}
use Rattle.jmove.specs.MethodExpansion.{call_static, calling, expansion, move_ref, moved_handler, push_int}
use Rattle.jparts.specs.declared.jcode.names.Access.TheVariants.{Load}
use Rattle.jrewriting.specs.jmove_laws.InstructionNumbers.{IsNth}
use Rattle.jrewriting.proofs.JmoveLawsProofs.BranchTargets.{within}
use Rattle.jrewriting.proofs.JmoveLawsProofs.CodePlaces.{ends}
use Rattle.jrewriting.proofs.JmoveLawsProofs.HandlerRanges.{there}
use Rattle.jsimulation_laws.specs.relation.InstructionExpansion.{expanded}
use Rattle.jresolution.specs.juses.IndexedInstructions.{Instruction, Used, instruction}
use Rattle.jresolution.specs.juses.InstructionMeanings as meanings
use Rattle.jtyping.specs.jrule.FormRules.{by_form}
use Rattle.jtyping.specs.jrule.InstructionContext.{Here}
use Rattle.jtyping.specs.jrule.StackOperands.{with_stack}
use Rattle.jtyping.specs.jrule.TypingRule.{rule}
use Rattle.jtyping.proofs.JruleProofs.FormRules.{form_agrees}
use Rattle.jtyping.specs.jwelltyped.DeclaredFrames.{declared_at}
use Rattle.jtyping.specs.jwelltyped.VerifierTests.{begun, handler_fits, handlers_fit, onward, walk}
use Rattle.jtyping.specs.jwelltyped.ProofNames.{branch_fits}
use Rattle.jtyping.proofs.JwelltypedProofs.Bodies.{AllServe}
use Rattle.jtyping.proofs.JwelltypedProofs.InstructionTests.{Begins, onward_of, sent}
use Rattle.jtyping.proofs.JwelltypedProofs.Tests.{in_all}
use Rattle.jmoved_laws.proofs.CodeProofs.ExpansionMeanings.{Each, Means}
use Rattle.jmoved_laws.proofs.TypesProofs.PlaceInjectivity.{nowhere, same_covers, stands_there}
use Rattle.jmoved_laws.proofs.TypesProofs.ExpansionEntry.{arrives, context_at, few_slots}
use Rattle.jmoved_laws.proofs.TypesProofs.CarriedFrames.{declared_nowhere}
use Rattle.jmoved_laws.proofs.TypesProofs.ExpansionEffect.{Last, One, Three, Two, double, plain_goes, single, triple}
use Rattle.jmoved_laws.proofs.TypesProofs.SuccessorFrames.{branches_on, good_place, goes_same, handlers_on}
use Rattle.jmoved_laws.proofs.TypesProofs.StackBounds.{keeps_room}
use Rattle.jmoved_laws.proofs.TypesProofs.InstructionPreservation.{Finer, IsMoving, Moving, Row, begin, call_anywhere, carry, here_at, more, new, news, number, old_here, ops, place, put_at, same_here, step_at, to, ws, y}
use Rattle.jmoved_laws.proofs.TypesProofs.PassPreservation.{Arrived, Roomy, Walks, here, lead_on, now, onward_next, rest_of, walk_on}

-- ---- an instruction, with what is known of it and of what stands behind

pub record Point (m : Moving) (k : IsMoving m) : Type 0 where
  pub n : ℕ
  pub e : Expand
  pub i : Placed
  pub nth : IsNth m.ks (ops m) n e i
  -- its frame and the one behind it
  pub f : Frame
  pub g : Frame
  pub handlers : (h : Handler) → IsIn h m.x.body.handlers → covers i.at h ≡ true → handler_fits m.p m.x (ws m) f h ≡ true
  pub gives : by_form m.p (old_here m k i) m.x.pool (form i.op) f ≡ Some g
  pub leads : list_all (branch_fits m.p (ws m) i.at g) (branches (form i.op)) ≡ true
  -- the one that arrives at the expansion
  pub a : Frame
  pub finer : Finer m k a (carry m f)
  pub roomy : Roomy m k f
  -- what stands behind the expansion
  pub rest : List Placed
  pub onwards : (d : Frame) → Finer m k d (carry m g) → onward m.q (news m) d (goes_on (form i.op)) rest ≡ Some (sent (goes_on (form i.op)) d)
  pub later : (d : Frame) → Finer m k d (carry m g) → Walks m rest (sent (goes_on (form i.op)) d)

module _ (m : Moving) (k : IsMoving m) (c : Point m k) where
  abbrev from : ℕ
  from = c.i.at

  abbrev os : List Op
  os = expansion m.s c.e c.i.op

  -- where its instructions stand
  abbrev at : ℕ → ℕ
  at j = reach (to m c.i.at) (take j (expansion m.s c.e c.i.op))

  abbrev P : Op → Instruction → Type 0
  P = Means m.q m.pool (new m) (to m) c.i.at

  row : Row m c.e c.i
  row = k.rows c.n c.e c.i c.nth

  step : (d : Frame) × (rule m.q (same_here m k c.i) row.it c.a ≡ Some d) × Finer m k d (carry m c.g)
  step = step_at m k c.n c.e c.i row.it c.f c.g c.a c.nth row.means c.gives c.finer

  covers_at : (j : ℕ) → j < length (expansion m.s c.e c.i.op) → (h : Handler) → IsIn h m.x.body.handlers → covers (at j) (moved_handler (to m) h) ≡ covers c.i.at h
  covers_at j lt h is = same_covers (begin m) m.s m.ks (ops m) k.each k.fits c.n c.e c.i c.nth j lt h (k.ranges h is)

  handlers_at : (j : ℕ) → j < length (expansion m.s c.e c.i.op) → (b : Frame) → b.locals ≡ c.a.locals → b.flag ≡ c.a.flag → handlers_fit m.q (y m) (news m) (at j) b ≡ true
  handlers_at j lt b locals flag = handlers_on m k c.i (at j) c.f c.a b c.finer locals flag (covers_at j lt) c.handlers

  -- behind its first instruction no frame is declared
  none_at : (j : ℕ) → 0 < j → j < length (expansion m.s c.e c.i.op) → declared_at (news m) (pos (at j)) ≡ None
  none_at j some lt =
      declared_nowhere (to m) (more m) (ws m) (at j) (λ w is. nowhere (begin m) m.s m.ks (ops m) k.each k.fits c.n c.e c.i c.nth j some lt w.at (good_place m k w is))

  -- ---- an instruction that becomes itself

  one_walk : (arr : Option Frame) → One m k P c.i.op row.it → 0 < length (expansion m.s c.e c.i.op) → begun (declared_at (news m) (pos (to m c.i.at))) arr ≡ Some c.a
      → Walks m (now m c.i.at (to m c.i.at) c.i.op ∷ c.rest) arr
  unfolding instruction
  one_walk arr z lt b =
      let spot = to m c.i.at in
      let s = step in
      let ruled : rule m.q (here m spot) z.is c.a ≡ Some s.0 =
      ap (λ (h : Here). rule m.q h z.is c.a) (sym (here_at m k c.i spot (covers_at 0 lt))) ∙ z.same (same_here m k c.i) c.a ∙ s.1 in
      let gives = sym (form_agrees m.q (here m spot) m.pool (new m) spot (form (led (to m) c.i.at spot c.i.op)) z.is c.a (z.row spot)) ∙ ruled in
      let goes = goes_same (distance (to m) c.i.at spot) c.i.op in
      walk_on m (now m c.i.at spot c.i.op) c.rest arr (sent (goes_on (form c.i.op)) s.0) c.a s.0 b (handlers_at 0 lt c.a refl refl) gives
      (branches_on m k c.i spot c.g s.0 s.2 c.leads)
      (ap (λ (v : Bool). onward m.q (news m) s.0 v c.rest) goes ∙ c.onwards s.0 s.2) (c.later s.0 s.2)

  -- ---- a call behind what it is handed

  last_walk : (j : ℕ) → 0 < j → j < length (expansion m.s c.e c.i.op) → (o : Op) (puts : List VType → List VType) → Last m k P o puts row.it
      → Walks m (now m c.i.at (at j) o ∷ c.rest) (Some (with_stack c.a (puts c.a.stack)))
  unfolding instruction
  last_walk j some lt o puts l =
      let b = with_stack c.a (puts c.a.stack) in
      let spot = at j in
      let s = step in
      let ruled : rule m.q (here m spot) l.is b ≡ Some s.0 =
      l.does (here m spot) c.a
      ∙ ap (λ (h : Here). rule m.q h row.it c.a) (sym (here_at m k c.i spot (covers_at j lt)))
      ∙ ap (λ (z : Instruction). rule m.q (put_at m k spot (same_here m k c.i)) z c.a) l.it_is
      ∙ call_anywhere m k (same_here m k c.i) spot l.by l.call c.a
      ∙ ap (λ (z : Instruction). rule m.q (same_here m k c.i) z c.a) (sym l.it_is)
      ∙ s.1 in
      let gives = sym (form_agrees m.q (here m spot) m.pool (new m) spot (form (led (to m) c.i.at spot o)) l.is b (l.row spot)) ∙ ruled in
      let new_goes = plain_goes m.q m.pool (new m) spot (form (led (to m) c.i.at spot o)) l.is (l.row spot) l.plain in
      let old_goes : goes_on (form c.i.op) ≡ true =
      (plain_goes m.p m.x.pool (ops m) c.i.at (form c.i.op) (Used (meanings.Call l.by l.call)) (row.means ∙ ap (λ (z : Instruction). Some z) l.it_is) refl).1 in
      walk_on m (now m c.i.at spot o) c.rest (Some b) (sent (goes_on (form c.i.op)) s.0) b s.0 (ap (λ (d : Option Frame). begun d (Some b)) (none_at j some lt))
      (handlers_at j lt b refl refl) gives
      (ap (list_all _) new_goes.0)
      (ap (λ (v : Bool). onward m.q (news m) s.0 v c.rest) (new_goes.1 ∙ sym old_goes) ∙ c.onwards s.0 s.2) (c.later s.0 s.2)

  room : (n : ℕ) → n ≤ 3 → n + slots c.a.stack ≤ m.x.body.max_stack + 3
  room n le = let few = few_slots m k c.f c.a c.finer c.roomy in omega arith

  two_walk : (arr : Option Frame) (o u : Op) → expansion m.s c.e c.i.op ≡ o ∷ u ∷ [] → Two m k P o u row.it → begun (declared_at (news m) (pos (to m c.i.at))) arr ≡ Some c.a
      → Walks m (now m c.i.at (to m c.i.at) o ∷ now m c.i.at (to m c.i.at + size (to m c.i.at) o) u ∷ c.rest) arr
  two_walk arr o u is t b =
      let spot = to m c.i.at in
      let long : length (expansion m.s c.e c.i.op) ≡ 2 = ap length is in
      let second : at 1 ≡ spot + size spot o = ap (λ (xs : List Op). reach spot (take 1 xs)) is in
      let le : slots (t.put ∷ c.a.stack) ≤ m.x.body.max_stack + 3 = subst (λ (n : ℕ). n ≤ m.x.body.max_stack + 3) (sym (t.lead.short c.a.stack)) (room 1 (omega arith)) in
      lead_on m c.i.at spot o t.lead.is (now m c.i.at (spot + size spot o) u) c.rest arr c.a (with_stack c.a (t.put ∷ c.a.stack)) t.lead.row t.lead.plain b
      (handlers_at 0 (omega (arith, long)) c.a refl refl)
      (t.lead.puts (here m spot) c.a (context_at m k c.f c.a c.finer c.roomy) le)
      (ap (λ (n : ℕ). declared_at (news m) (pos n)) (sym second) ∙ none_at 1 (omega arith) (omega (arith, long)))
      (subst (λ (n : ℕ). Walks m (now m c.i.at n u ∷ c.rest) (Some (with_stack c.a (t.put ∷ c.a.stack)))) second
      (last_walk 1 (omega arith) (omega (arith, long)) u (λ xs. t.put ∷ xs) t.last))

  three_walk : (arr : Option Frame) (o u v : Op) → expansion m.s c.e c.i.op ≡ o ∷ u ∷ v ∷ [] → Three m k P o u v row.it
      → begun (declared_at (news m) (pos (to m c.i.at))) arr ≡ Some c.a
      → let one = to m c.i.at in let two = one + size one o in
      Walks m (now m c.i.at one o ∷ now m c.i.at two u ∷ now m c.i.at (two + size two u) v ∷ c.rest) arr
  three_walk arr o u v is t b =
      let one = to m c.i.at in
      let two = one + size one o in
      let long : length (expansion m.s c.e c.i.op) ≡ 3 = ap length is in
      let second : at 1 ≡ two = ap (λ (xs : List Op). reach one (take 1 xs)) is in
      let third : at 2 ≡ two + size two u = ap (λ (xs : List Op). reach one (take 2 xs)) is in
      let b1 = with_stack c.a (Ctx ∷ c.a.stack) in
      let b2 = with_stack c.a (Int ∷ Ctx ∷ c.a.stack) in
      let context = context_at m k c.f c.a c.finer c.roomy in
      let le : slots (Ctx ∷ c.a.stack) ≤ m.x.body.max_stack + 3 = subst (λ (n : ℕ). n ≤ m.x.body.max_stack + 3) (sym (t.lead.short c.a.stack)) (room 1 (omega arith)) in
      let wide : slots (Int ∷ Ctx ∷ c.a.stack) ≤ m.x.body.max_stack + 3 =
      (let short = t.lead.short c.a.stack in let shorter = t.next.short (Ctx ∷ c.a.stack) in let few = room 2 (omega arith) in omega arith) in
      let none : declared_at (news m) (pos two) ≡ None = ap (λ (n : ℕ). declared_at (news m) (pos n)) (sym second) ∙ none_at 1 (omega arith) (omega (arith, long)) in
      lead_on m c.i.at one o t.lead.is (now m c.i.at two u) (now m c.i.at (two + size two u) v ∷ c.rest) arr c.a b1 t.lead.row t.lead.plain b
      (handlers_at 0 (omega (arith, long)) c.a refl refl)
      (t.lead.puts (here m one) c.a context le) none
      (lead_on m c.i.at two u t.next.is (now m c.i.at (two + size two u) v) c.rest (Some b1) b1 b2 t.next.row t.next.plain
      (ap (λ (d : Option Frame). begun d (Some b1)) none)
      (subst (λ (n : ℕ). handlers_fit m.q (y m) (news m) n b1 ≡ true) second (handlers_at 1 (omega (arith, long)) b1 refl refl))
      (t.next.puts (here m two) b1 context wide)
      (ap (λ (n : ℕ). declared_at (news m) (pos n)) (sym third) ∙ none_at 2 (omega arith) (omega (arith, long)))
      (subst (λ (n : ℕ). Walks m (now m c.i.at n v ∷ c.rest) (Some b2)) third (last_walk 2 (omega arith) (omega (arith, long)) v (λ xs. Int ∷ Ctx ∷ xs) t.last)))

  -- ---- each of them

  row_as : (e : Expand) → c.e ≡ e → Each P (expansion m.s e c.i.op) (expanded (place m) (number m) row.it)
  row_as e same = subst (λ (z : Expand). Each P (expansion m.s z c.i.op) (expanded (place m) (number m) row.it)) same row.row

  ops_as : (e : Expand) → c.e ≡ e → expansion m.s c.e c.i.op ≡ expansion m.s e c.i.op
  ops_as e same = ap (λ (z : Expand). expansion m.s z c.i.op) same

  two_as : (arr : Option Frame) (e : Expand) (o u : Op) → c.e ≡ e → expansion m.s e c.i.op ≡ o ∷ u ∷ [] → begun (declared_at (news m) (pos (to m c.i.at))) arr ≡ Some c.a
      → Walks m (now m c.i.at (to m c.i.at) o ∷ now m c.i.at (to m c.i.at + size (to m c.i.at) o) u ∷ c.rest) arr
  two_as arr e o u same is b =
      two_walk arr o u (ops_as e same ∙ is) (double m k P o u row.it row.asks (subst (λ (xs : List Op). Each P xs (expanded (place m) (number m) row.it)) is (row_as e same))) b

  two_rest : (arr : Option Frame) (e : Expand) (o u : Op) (r : List Placed) → c.rest ≡ r → c.e ≡ e → expansion m.s e c.i.op ≡ o ∷ u ∷ []
      → begun (declared_at (news m) (pos (to m c.i.at))) arr ≡ Some c.a
      → Walks m (now m c.i.at (to m c.i.at) o ∷ now m c.i.at (to m c.i.at + size (to m c.i.at) o) u ∷ r) arr
  two_rest arr e o u r rest same is b =
      subst (λ (z : List Placed). Walks m (now m c.i.at (to m c.i.at) o ∷ now m c.i.at (to m c.i.at + size (to m c.i.at) o) u ∷ z) arr) rest (two_as arr e o u same is b)

  by_kind : (e : Expand) → c.e ≡ e → (ks : List Expand) (is : List Placed) → c.rest ≡ rest_of m k (reach (to m c.i.at) (expansion m.s e c.i.op)) ks is
      → (arr : Option Frame) → begun (declared_at (news m) (pos (to m c.i.at))) arr ≡ Some c.a → Walks m (rest_of m k (to m c.i.at) (e ∷ ks) (c.i ∷ is)) arr
  by_kind Same same ks is rest arr b =
      let long : length (expansion m.s c.e c.i.op) ≡ 1 = ap length (ops_as Same same) in
      subst (λ (r : List Placed). Walks m (now m c.i.at (to m c.i.at) c.i.op ∷ r) arr) rest
      (one_walk arr (single m k P c.i.op row.it (row_as Same same)) (omega (arith, long)) b)
  by_kind (Call n) same ks is rest arr b = two_rest arr (Call n) (move_ref Load m.s.local) (calling n c.i.op)
      (rest_of m k (reach (to m c.i.at) (expansion m.s (Call n) c.i.op)) ks is) rest same refl b
  by_kind (Check n) same ks is rest arr b = two_rest arr (Check n) (move_ref Load m.s.local) (call_static n)
      (rest_of m k (reach (to m c.i.at) (expansion m.s (Check n) c.i.op)) ks is) rest same refl b
  by_kind (Snapshot n) same ks is rest arr b = two_rest arr (Snapshot n) (move_ref Load m.s.local) (call_static n)
      (rest_of m k (reach (to m c.i.at) (expansion m.s (Snapshot n) c.i.op)) ks is) rest same refl b
  by_kind (Privileged n) same ks is rest arr b = two_rest arr (Privileged n) (push_int m.s.domain) (call_static n)
      (rest_of m k (reach (to m c.i.at) (expansion m.s (Privileged n) c.i.op)) ks is) rest same refl b
  by_kind (PrivilegedWith n) same ks is rest arr b = two_rest arr (PrivilegedWith n) (push_int m.s.domain) (call_static n)
      (rest_of m k (reach (to m c.i.at) (expansion m.s (PrivilegedWith n) c.i.op)) ks is) rest same refl b
  by_kind (PrivilegedLimited n) same ks is rest arr b =
      let o = move_ref Load m.s.local in
      let u = push_int m.s.domain in
      let v = call_static n in
      let one = to m c.i.at in
      let two = one + size one o in
      let e = PrivilegedLimited n in
      subst (λ (r : List Placed). Walks m (now m c.i.at one o ∷ now m c.i.at two u ∷ now m c.i.at (two + size two u) v ∷ r) arr) rest
      (three_walk arr o u v (ops_as e same) (triple m k P o u v row.it row.asks (row_as e same)) b)

-- ---- all instructions

module _ (m : Moving) (k : IsMoving m) where
  walks_none : (arr : Option Frame) → Walks m [] arr
  unfolding walk
  walks_none arr = refl

  sent_arrived : (goes : Bool) (g d : Frame) → Finer m k d (carry m g) → Roomy m k g → Arrived m k (sent goes d) (sent goes g)
  sent_arrived true g d finer roomy = (finer, roomy)
  sent_arrived false g d finer roomy = tt

  pub laid_first : (from last : ℕ) (is : List Placed) (i : Placed) → Laid from is last → slice_get is 0 ≡ Some i → i.at ≡ from
  laid_first from last [] i h e = absurd cc
  laid_first from last (x ∷ is) i h e =
      let same : x ≡ i = cc in
      ap (λ (z : Placed). z.at) (sym same) ∙ h.0

  -- instructions of the method, with their expansions
  abbrev pub AreIn : List Expand → List Placed → Type 0
  AreIn ks is = (j : ℕ) (e : Expand) (i : Placed) → slice_get ks j ≡ Some e → slice_get is j ≡ Some i → (n : ℕ) × IsNth m.ks (ops m) n e i

  pub first_in : (ks : List Expand) (is : List Placed) → length ks ≡ length is → AreIn ks is → (i : Placed) → slice_get is 0 ≡ Some i → is_place (ops m) (pos i.at) ≡ true
  first_in ks is each all i at =
      let e = there ks 0 (omega (arith, each, within is 0 i at)) in
      let r = all 0 e.0 i e.1 at in
      stands_there (ops m) r.0 i r.1.old

  pub walks : (ks : List Expand) (is : List Placed) (fs : List Frame) → length ks ≡ length is → AreIn ks is → (from last : ℕ) → Laid from is last → (arr new_arr : Option Frame)
      → Begins (ws m) is arr fs → AllServe m.p m.x (ws m) is fs → Arrived m k new_arr arr → Walks m (rest_of m k (to m from) ks is) new_arr
  walks [] is fs each all from last laid arr new_arr b serve arrived = walks_none new_arr
  walks (e ∷ ks) [] fs each all from last laid arr new_arr b serve arrived = walks_none new_arr
  walks (e ∷ ks) (i ∷ is) [] each all from last laid arr new_arr b serve arrived = absurd serve
  walks (e ∷ ks) (i ∷ is) (f ∷ fs) each all from last laid arr new_arr b serve arrived =
      let r = all 0 e i refl refl in
      let hit = stands_there (ops m) r.0 i r.1.old in
      let s = serve.0 in
      let goes = goes_on (form i.op) in
      let a = arrives m k i hit arr new_arr f b arrived in
      let behind = i.at + size i.at i.op in
      let end_at : reach (to m i.at) (expansion m.s e i.op) ≡ to m behind = ends (begin m) m.s m.ks (ops m) k.fits r.0 e i r.1 in
      let next : Laid behind is last = subst (λ (q : ℕ). Laid (q + size q i.op) is last) (sym laid.0) laid.1 in
      let fewer : length ks ≡ length is = omega (arith, each) in
      let others : AreIn ks is = λ j c z x y. all (suc j) c z x y in
      let roomy = keeps_room m.x.body.max_locals m.p (old_here m k i) m.x.pool (form i.op) f s.behind s.gives a.roomy in
      let point : Point m k = record {
        n = r.0;
        e = e;
        i = i;
        nth = r.1;
        f = f;
        g = s.behind;
        handlers = s.handlers;
        gives = s.gives;
        leads = in_all (branch_fits m.p (ws m) i.at s.behind) (branches (form i.op)) s.leads;
        a = a.frame;
        finer = a.finer;
        roomy = a.roomy;
        rest = rest_of m k (reach (to m i.at) (expansion m.s e i.op)) ks is;
        onwards = λ d finer. onward_next m k s.behind d goes (reach (to m i.at) (expansion m.s e i.op)) ks is fs finer fewer
            (λ z at. (end_at ∙ ap (to m) (sym (laid_first behind last is z next at)), first_in ks is fewer others z at)) s.follows;
        later = λ d finer. subst (λ (q : ℕ). Walks m (rest_of m k q ks is) (sent goes d)) (sym end_at)
            (walks ks is fs fewer others behind last next (sent goes s.behind) (sent goes d) (onward_of m.p m.x (ws m) i f is fs s) serve.1
            (sent_arrived goes s.behind d finer roomy));
      } in
      subst (λ (q : ℕ). Walks m (rest_of m k (to m q) (e ∷ ks) (i ∷ is)) new_arr) laid.0 (by_kind m k point e refl ks is refl new_arr a.begins)
