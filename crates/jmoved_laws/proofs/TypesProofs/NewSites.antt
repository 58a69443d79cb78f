-- What the `new`s of moved code make, by where their old ones stood.
use Rattle.std.proofs.Common.{◌≡◌, ◌≢◌, ℕ, zero, suc, ◌+◌, pos, Bool, true, false, cond, List, [], ◌∷◌, length, Option, Some, None, refl, sym, ap, subst, ◌∙◌, arith, inl, inr}
use Rattle.std.specs.Prelude.{IsTrue, ◌||◌, ◌==◌, option_map, option_and_then, slice_get}
use Rattle.std.specs.List.{find}
use Rattle.std.specs.Ordering.{int_eq}
use Rattle.std.proofs.lemmas.Bool.{cases_Bool, eq-eqb, ne_eqb}
use Rattle.std.proofs.lemmas.Bool.Decides.{Decides-int_eq}
use Rattle.jparts.specs.declared.jpool.entry.Entry.{Entry}
use Rattle.jparts.specs.declared.jcode.names.CallOp.{CallOp}
use Rattle.jparts.specs.declared.jcode.names.CastOp.{CastOp}
use Rattle.jparts.specs.declared.jcode.names.FieldOp.{FieldOp}
use Rattle.jparts.specs.declared.jcode.op_form.ArrayForm.{ArrayForm}
use Rattle.jparts.specs.declared.jcode.op_form.ArrayForm.TheVariants as arrays
use Rattle.jparts.specs.declared.jcode.op_form.Flow.{Flow}
use Rattle.jparts.specs.declared.jcode.op_form.Flow.TheVariants as flows
use Rattle.jparts.specs.declared.jcode.op_form.OpForm.{OpForm}
use Rattle.jparts.specs.declared.jcode.op_form.OpForm.TheVariants as forms
use Rattle.jparts.specs.declared.jcode.op_form.PoolForm.{PoolForm}
use Rattle.jparts.specs.declared.jcode.op_form.PoolForm.TheVariants as pools
use Rattle.jparts.specs.declared.jcode.op.Op.{Op}
use Rattle.jparts.specs.declared.jcode.op.Placed.{Placed}
use Rattle.jparts.specs.declared.jcode.op.Switch.{Switch as SwitchOp}
use Rattle.jparts.specs.jcode.InstructionForms.{form}
use Rattle.jparts.specs.jcode.Instructions.{code, is_place, size}
use Rattle.jlib.specs.declared.calls.ControllerCall.TheVariants as controller
use Rattle.jlinking.proofs.JlinkProofs.PresentValues.{map_is, then_is}
use Rattle.jmove.specs.declared.method.Expand.{Expand}
use Rattle.jmove.specs.declared.method.Setting.{Setting}
use Rattle.jmove.specs.AssemblyLines.{Laid, end_of, place_of}
use Rattle.jmove.specs.MethodExpansion.{expansion, lines}
use Rattle.jmove.proofs.Bounds.{laid_above}
use Rattle.jmove.proofs.CodeLayout.{code_laid}
use Rattle.jmove.proofs.Sizes.{size_some}
use Rattle.jrewriting.specs.jmove_laws.InstructionNumbers.{IsNth, index_of, moved, new_place, standing}
use Rattle.jrewriting.proofs.JmoveLawsProofs.BranchTargets.{first_of}
use Rattle.jrewriting.proofs.JmoveLawsProofs.InstructionNumbers.{fetched, not_first}
use Rattle.jrewriting.proofs.JmoveLawsProofs.HandlerRanges.{labelled}
use Rattle.jrewriting.proofs.JmoveLawsProofs.InstructionSizes.{laid_placed}
use Rattle.jresolution.specs.jprogram.ProgramClasses.{Program}
use Rattle.jtypes.specs.declared.vtype.Name.{Name}
use Rattle.jtyping.specs.jwelltyped.MethodPremises.{made, made_in}
use Rattle.jtyping.specs.jwelltyped.ProofNames.{made_by}
use Rattle.jresolution.specs.juses.IndexedInstructions as instructions
use Rattle.jresolution.specs.ProofNames
use Rattle.jresolution.specs.juses.IndexedInstructions.{Instruction, Jump, Switch, Used, instruction}
use Rattle.jresolution.specs.juses.InstructionMeanings as meanings
use Rattle.jresolution.specs.juses.InstructionMeanings.{AClass, AConstant, AField, AMethod, CallMeaning, EntryMeaning, Make, Meaning, array_meant, entry_meant, meant, used}
use Rattle.jresolution.specs.ProofNames.{array_made}
use Rattle.jresolution.specs.juses.DescriptorTypes.{array_over}
use Rattle.jsimulation_laws.specs.relation.InstructionExpansion.{Alone, Asking, Handed, Place, Way, calling, expanded, way_of}
use Rattle.jresolution.specs.declared.juses.meaning.InvokeKind.{InvokeKind}
use Rattle.jresolution.specs.declared.juses.meaning.InvokeKind.TheVariants as how
use Rattle.jmoved_laws.proofs.CodeProofs.ExpansionMeanings.{Each, Means}
use Rattle.jmoved_laws.specs.types.RenamedPlaces.{IsApart, Renames}
use Rattle.jmoved_laws.proofs.TypesProofs.PlaceInjectivity.{apart, missed_end}

-- ---- what an instruction makes

abbrev made_it : Instruction → Option Name
made_it (Used (Make c)) = Some c
made_it i = None

as_it : (i j : Instruction) (o : Option Name) → Some j ≡ Some i → o ≡ made_it j → o ≡ made_it i
as_it i j o e h = let same : j ≡ i = cc in h ∙ ap made_it same

made_used : (p : Program) (pool : List Entry) (i : ℕ) (m : Option Meaning) (it : Instruction) → option_map Used m ≡ Some it → made_by m ≡ made_it it
made_used p pool i None it e = absurd cc
made_used p pool i (Some (Make c)) it e = as_it it (Used (Make c)) (Some c) e refl
made_used p pool i (Some (meanings.Push c)) it e = as_it it (Used (meanings.Push c)) None e refl
made_used p pool i (Some (meanings.Field op f)) it e = as_it it (Used (meanings.Field op f)) None e refl
made_used p pool i (Some (meanings.Call by c)) it e = as_it it (Used (meanings.Call by c)) None e refl
made_used p pool i (Some (meanings.MakeArray t)) it e = as_it it (Used (meanings.MakeArray t)) None e refl
made_used p pool i (Some (meanings.Cast op t)) it e = as_it it (Used (meanings.Cast op t)) None e refl

-- a meaning that makes no object
abbrev MakesNone : Meaning → Type 0
MakesNone m = made_it (Used m) ≡ None

none_made : (o : Option Meaning) (it : Instruction) → option_map Used o ≡ Some it → ((m : Meaning) → o ≡ Some m → MakesNone m) → None ≡ made_it it
none_made None it e h = absurd cc
none_made (Some m) it e h = as_it it (Used m) None e (sym (h m refl))

same_none : (n m : Meaning) → Some n ≡ Some m → MakesNone n → MakesNone m
same_none n m e h = let same : n ≡ m = cc in subst MakesNone same h

abbrev NoNew : PoolForm → EntryMeaning → Type 0
NoNew f e = (m : Meaning) → used f e ≡ Some m → MakesNone m

constant_none : (i : ℕ) (e : EntryMeaning) → NoNew (pools.Constant i) e
constant_none i (AConstant (meanings.Int n)) m h = same_none (meanings.Push (meanings.Int n)) m h refl
constant_none i (AConstant (meanings.Text t)) m h = same_none (meanings.Push (meanings.Text t)) m h refl
constant_none i (AConstant (meanings.Long n)) m h = absurd cc
constant_none i (AClass t) m h = absurd cc
constant_none i (AField f) m h = absurd cc
constant_none i (AMethod b c) m h = absurd cc

long_none : (i : ℕ) (e : EntryMeaning) → NoNew (pools.LongConstant i) e
long_none i (AConstant (meanings.Long n)) m h = same_none (meanings.Push (meanings.Long n)) m h refl
long_none i (AConstant (meanings.Int n)) m h = absurd cc
long_none i (AConstant (meanings.Text t)) m h = absurd cc
long_none i (AClass t) m h = absurd cc
long_none i (AField f) m h = absurd cc
long_none i (AMethod b c) m h = absurd cc

other_none : (f : PoolForm) (p : Program) (pool : List Entry) (it : Instruction) → option_map Used (meant p pool f) ≡ Some it → ((e : EntryMeaning) → NoNew f e) → None ≡ made_it it
unfolding meant
other_none f p pool it e h =
    none_made (meant p pool f) it e (λ m is. (let r = then_is (used f) (entry_meant p pool (slice_get pool (meanings.index_of f))) m is in h r.0 m r.2))

call_some : (op : CallOp) (i : ℕ) (e : EntryMeaning) → NoNew (pools.Call op i) e
call_some op i (AMethod b c) m h = same_none (meanings.Call (meanings.how_of op b) c) m h refl
call_some op i (AConstant x) m h = absurd cc
call_some op i (AClass t) m h = absurd cc
call_some op i (AField f) m h = absurd cc

interface_some : (i slots : ℕ) (e : EntryMeaning) → NoNew (pools.CallInterface i slots) e
interface_some i slots (AMethod b c) m h = same_none (meanings.Call how.Interface c) m h refl
interface_some i slots (AConstant x) m h = absurd cc
interface_some i slots (AClass t) m h = absurd cc
interface_some i slots (AField f) m h = absurd cc

field_some : (op : FieldOp) (i : ℕ) (e : EntryMeaning) → NoNew (pools.Field op i) e
field_some op i (AField f) m h = same_none (meanings.Field op f) m h refl
field_some op i (AConstant x) m h = absurd cc
field_some op i (AClass t) m h = absurd cc
field_some op i (AMethod b c) m h = absurd cc

cast_some : (op : CastOp) (i : ℕ) (e : EntryMeaning) → NoNew (pools.Cast op i) e
cast_some op i (AClass t) m h = same_none (meanings.Cast op t) m h refl
cast_some op i (AConstant x) m h = absurd cc
cast_some op i (AField f) m h = absurd cc
cast_some op i (AMethod b c) m h = absurd cc

array_some : (e : EntryMeaning) (m : Meaning) → array_made e ≡ Some m → MakesNone m
array_some (AClass t) m h =
    let r = map_is meanings.MakeArray (array_over t) m h in
    subst MakesNone r.2 refl
array_some (AConstant x) m h = absurd cc
array_some (AField f) m h = absurd cc
array_some (AMethod b c) m h = absurd cc

flow_none : (ops : List Placed) (at : ℕ) (f : Flow SwitchOp) (it : Instruction) → instructions.flow ops at f ≡ Some it → None ≡ made_it it
flow_none ops at (flows.If test by) it e = let r = map_is (Jump (instructions.If test)) (instructions.target ops at by) it e in ap made_it r.2
flow_none ops at (flows.IfInt test by) it e = let r = map_is (Jump (instructions.IfInt test)) (instructions.target ops at by) it e in ap made_it r.2
flow_none ops at (flows.IfRef test by) it e = let r = map_is (Jump (instructions.IfRef test)) (instructions.target ops at by) it e in ap made_it r.2
flow_none ops at (flows.Goto by) it e = let r = map_is (Jump instructions.Always) (instructions.target ops at by) it e in ap made_it r.2
flow_none ops at (flows.Switch s) it e =
    let found = then_is (λ l. option_map (Switch l) (instructions.target ops at (instructions.default s))) (instructions.cases ops at s) it e in
    let other = map_is (Switch found.0) (instructions.target ops at (instructions.default s)) it found.2 in
    ap made_it other.2
flow_none ops at (flows.Return kind) it e = as_it it (instructions.Return kind) None e refl
flow_none ops at flows.Throw it e = as_it it instructions.Throw None e refl

array_none : (p : Program) (pool : List Entry) (f : ArrayForm) (it : Instruction) → ProofNames.array p pool f ≡ Some it → None ≡ made_it it
unfolding array_meant
array_none p pool (arrays.NewRef i) it e =
    none_made (array_meant p pool i) it e (λ m is. (let r = then_is array_made (entry_meant p pool (slice_get pool i)) m is in array_some r.0 m r.2))
array_none p pool (arrays.New kind) it e = as_it it (instructions.Array (arrays.New kind)) None e refl
array_none p pool (arrays.Load items) it e = as_it it (instructions.Array (arrays.Load items)) None e refl
array_none p pool (arrays.Store items) it e = as_it it (instructions.Array (arrays.Store items)) None e refl
array_none p pool arrays.Length it e = as_it it (instructions.Array arrays.Length) None e refl

made_is : (p : Program) (pool : List Entry) (ops : List Placed) (at : ℕ) (f : OpForm SwitchOp) (it : Instruction) → instructions.by_form p pool ops at f ≡ Some it
    → made p pool f ≡ made_it it
made_is p pool ops at (forms.Simple f) it e = as_it it (instructions.Simple f) None e refl
made_is p pool ops at (forms.Local f) it e = as_it it (instructions.Local f) None e refl
made_is p pool ops at (forms.Stack s) it e = as_it it (instructions.Stack s) None e refl
made_is p pool ops at (forms.Flow f) it e = flow_none ops at f it e
made_is p pool ops at (forms.Array f) it e = array_none p pool f it e
made_is p pool ops at (forms.Pool (pools.New i)) it e = made_used p pool i (meant p pool (pools.New i)) it e
made_is p pool ops at (forms.Pool (pools.Constant i)) it e = other_none (pools.Constant i) p pool it e (constant_none i)
made_is p pool ops at (forms.Pool (pools.LongConstant i)) it e = other_none (pools.LongConstant i) p pool it e (long_none i)
made_is p pool ops at (forms.Pool (pools.Field op i)) it e = other_none (pools.Field op i) p pool it e (field_some op i)
made_is p pool ops at (forms.Pool (pools.Call op i)) it e = other_none (pools.Call op i) p pool it e (call_some op i)
made_is p pool ops at (forms.Pool (pools.CallInterface i slots)) it e = other_none (pools.CallInterface i slots) p pool it e (interface_some i slots)
made_is p pool ops at (forms.Pool (pools.Cast op i)) it e = other_none (pools.Cast op i) p pool it e (cast_some op i)

-- ---- what stands at a place

find_at : (from last : ℕ) (ps : List Placed) (k : ℕ) (z : Placed) → Laid from ps last → slice_get ps k ≡ Some z → find (λ one. one.at == z.at) ps ≡ Some z
find_at from last [] k z h e = absurd cc
find_at from last (x ∷ ps) zero z h e =
    let same : x ≡ z = cc in
    let hit : (x.at == z.at) ≡ true = eq-eqb x.at z.at (ap (λ (y : Placed). y.at) same) in
    ap (λ (b : Bool). cond b (Some x) (find (λ one. one.at == z.at) ps)) hit ∙ ap Some same
find_at from last (x ∷ ps) (suc k) z h e =
    let other : z.at ≢ x.at = not_first from last x ps k z h e in
    let miss : (x.at == z.at) ≡ false = ne_eqb x.at z.at (λ s. other (sym s)) in
    ap (λ (b : Bool). cond b (Some x) (find (λ one. one.at == z.at) ps)) miss ∙ find_at (from + size from x.op) last ps k z h.1 e

-- no instruction stands where code ends
find_end : (from last : ℕ) (ps : List Placed) → Laid from ps last → find (λ one. one.at == last) ps ≡ None
find_end from last [] h = refl
find_end from last (x ∷ ps) h =
    let miss : (x.at == last) ≡ false = ne_eqb x.at last (omega (arith, h.0, size_some from x.op, laid_above (from + size from x.op) last ps h.1)) in
    ap (λ (b : Bool). cond b (Some x) (find (λ one. one.at == last) ps)) miss ∙ find_end (from + size from x.op) last ps h.1

find_none : (ps : List Placed) (o : ℕ) → is_place ps (pos o) ≡ false → find (λ one. one.at == o) ps ≡ None
find_none [] o h = refl
find_none (x ∷ ps) o h =
    let miss : (x.at == o) ≡ false = ne_eqb x.at o (λ e. no_hit (int_eq (pos x.at) (pos o)) (is_place ps (pos o)) h
    ((Decides-int_eq (pos x.at) (pos o)).1 (ap (λ (n : ℕ). pos n) e))) in
    ap (λ (b : Bool). cond b (Some x) (find (λ one. one.at == o) ps)) miss ∙ find_none ps o (later (int_eq (pos x.at) (pos o)) (is_place ps (pos o)) h)
  where
    no_hit : (a b : Bool) → (a || b) ≡ false → a ≡ true → ⊥
    no_hit true b e h = absurd cc
    no_hit false b e h = absurd cc

    later : (a b : Bool) → (a || b) ≡ false → b ≡ false
    later true b e = absurd cc
    later false b e = e

-- ---- in moved code

module _ (p q : Program) (old_pool new_pool : List Entry) (begin : List Op) (s : Setting) (ks : List Expand) (ops : List Placed) (each : length ks ≡ length ops)
    (fits : IsTrue (code.fits ops)) where
  abbrev new : List Placed
  new = moved begin s ks ops

  abbrev to : ℕ → ℕ
  to = new_place begin s ks ops

  abbrev place : Place
  place = record { local = s.local; domain = s.domain }

  abbrev number : ℕ → ℕ
  number = index_of begin s ks ops

  pub record Meant (k : Expand) (i : Placed) : Type 0 where
    pub it : Instruction
    pub means : instruction p old_pool ops i ≡ Some it
    pub row : Each (Means q new_pool new to i.at) (expansion s k i.op) (expanded place number it)

  abbrev P : ℕ → Op → Instruction → Type 0
  P from = Means q new_pool new to from

  -- the first instruction of an expansion makes what its old instruction does
  first_call : (from : ℕ) (o : Op) (os : List Op) (by : InvokeKind) (c : CallMeaning) (w : Way) → Each (P from) (o ∷ os) (calling place by c w)
      → (x : Instruction) × (P from o x × (made_it x ≡ None))
  first_call from o os by c Alone e = (Used (meanings.Call by c), (e.0, refl))
  first_call from o os by c Handed e = (_, (e.0, refl))
  first_call from o os by c (Asking controller.Check) e = (_, (e.0, refl))
  first_call from o os by c (Asking controller.Snapshot) e = (_, (e.0, refl))
  first_call from o os by c (Asking controller.Privileged) e = (_, (e.0, refl))
  first_call from o os by c (Asking controller.PrivilegedWith) e = (_, (e.0, refl))
  first_call from o os by c (Asking controller.PrivilegedLimited) e = (_, (e.0, refl))

  first_makes : (from : ℕ) (o : Op) (os : List Op) (it : Instruction) → Each (P from) (o ∷ os) (expanded place number it)
      → (x : Instruction) × (P from o x × (made_it x ≡ made_it it))
  first_makes from o os (Jump test n) e = (_, (e.0, refl))
  first_makes from o os (Switch cases other) e = (_, (e.0, refl))
  first_makes from o os (instructions.Simple f) e = (_, (e.0, refl))
  first_makes from o os (instructions.Local f) e = (_, (e.0, refl))
  first_makes from o os (instructions.Stack f) e = (_, (e.0, refl))
  first_makes from o os (instructions.Return kind) e = (_, (e.0, refl))
  first_makes from o os instructions.Throw e = (_, (e.0, refl))
  first_makes from o os (instructions.Array f) e = (_, (e.0, refl))
  first_makes from o os (Used (meanings.Call by c)) e = first_call from o os by c (way_of c.member) e
  first_makes from o os (Used (meanings.Push c)) e = (_, (e.0, refl))
  first_makes from o os (Used (meanings.Field op f)) e = (_, (e.0, refl))
  first_makes from o os (Used (Make c)) e = (_, (e.0, refl))
  first_makes from o os (Used (meanings.MakeArray t)) e = (_, (e.0, refl))
  first_makes from o os (Used (meanings.Cast op t)) e = (_, (e.0, refl))

  -- an expansion has a first instruction
  head : (from : ℕ) (os : List Op) (o : Op) (it : Instruction) → slice_get os 0 ≡ Some o → Each (P from) os (expanded place number it)
      → (x : Instruction) × (P from o x × (made_it x ≡ made_it it))
  head from [] o it at e = absurd cc
  head from (u ∷ os) o it at e =
      let same : u ≡ o = cc in
      subst (λ (z : Op). (x : Instruction) × (P from z x × (made_it x ≡ made_it it))) same (first_makes from u os it e)

  module _ (rows : (n : ℕ) (k : Expand) (i : Placed) → IsNth ks ops n k i → Meant k i) where
    made_there : (n : ℕ) (k : Expand) (i : Placed) → IsNth ks ops n k i → made_in q new_pool new (to i.at) ≡ made_in p old_pool ops i.at
    unfolding made_in instruction
    made_there n k i nth =
        let r = rows n k i nth in
        let one = first_of s k i.op in
        let at = fetched begin s ks ops fits n 0 k i one.0 nth one.1 in
        let z = standing to i.at (to i.at) (expansion s k i.op) 0 one.0 in
        let laid = laid_placed (λ (old : ℕ). place_of old 0 (lines begin s ks ops)) 0 (lines begin s ks ops) in
        let new_found = find_at 0 (end_of 0 (lines begin s ks ops)) new (number n + 0) z laid at in
        let old_found = find_at 0 (length (code.spell ops)) ops n i (code_laid ops fits) nth.old in
        let x = head i.at (expansion s k i.op) one.0 r.it one.1 r.row in
        ap (option_and_then (λ (y : Placed). made q new_pool (form y.op))) new_found
        ∙ made_is q new_pool new z.at (form z.op) x.0 (x.1.0 (to i.at))
        ∙ x.1.1
        ∙ sym (made_is p old_pool ops i.at (form i.op) r.it r.means)
        ∙ sym (ap (option_and_then (λ (y : Placed). made p old_pool (form y.op))) old_found)

    nowhere_made : (o : ℕ) → is_place ops (pos o) ≡ false → made_in p old_pool ops o ≡ None
    unfolding made_in
    nowhere_made o miss = ap (option_and_then (λ (y : Placed). made p old_pool (form y.op))) (find_none ops o miss)

    end_made : (o : ℕ) → is_place ops (pos o) ≡ false → made_in q new_pool new (to o) ≡ None
    unfolding made_in
    end_made o miss =
        let last : to o ≡ end_of 0 (lines begin s ks ops) = missed_end begin s ks ops each fits o miss in
        let laid = laid_placed (λ (old : ℕ). place_of old 0 (lines begin s ks ops)) 0 (lines begin s ks ops) in
        ap (λ (n : ℕ). option_and_then (λ (y : Placed). made q new_pool (form y.op)) (find (λ one. one.at == n) new)) last
        ∙ ap (option_and_then (λ (y : Placed). made q new_pool (form y.op))) (find_end 0 (end_of 0 (lines begin s ks ops)) new laid)

    stays : (o : ℕ) → made_in q new_pool new (to o) ≡ made_in p old_pool ops o
    stays o = elim (cases_Bool (is_place ops (pos o))) [
      | inl hit ↦
          let r = labelled ks ops o each hit in
          subst (λ (n : ℕ). made_in q new_pool new (to n) ≡ made_in p old_pool ops n) r.place (made_there r.number r.kind r.one r.nth)
      | inr miss ↦ end_made o miss ∙ sym (nowhere_made o miss)
    ]

    apart_made : (o : ℕ) (c : Name) → made_in p old_pool ops o ≡ Some c → IsApart to o
    apart_made o c e = elim (cases_Bool (is_place ops (pos o))) [
      | inl hit ↦
          let r = labelled ks ops o each hit in
          subst (IsApart to) r.place (apart begin s ks ops each fits r.number r.kind r.one r.nth)
      | inr miss ↦ absurd (let none = sym (nowhere_made o miss) ∙ e in cc)
    ]

    pub renames : Renames to (made_in p old_pool ops) (made_in q new_pool new)
    renames = record { stays = stays; apart = apart_made }
