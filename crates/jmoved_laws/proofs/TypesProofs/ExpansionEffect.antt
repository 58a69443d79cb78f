-- What the instructions of an expansion do together: what their old instruction did.
use Rattle.std.proofs.Common.{◌≡◌, ℕ, ◌+◌, ◌≤◌, Bool, true, false, List, [], ◌∷◌, Option, Some, refl, sym, ap, ◌∙◌}
use Rattle.std.specs.Prelude.{ℤ, option_map, slice_get}
use Rattle.jparts.specs.declared.jpool.entry.Entry.{Entry}
use Rattle.jparts.specs.declared.jcode.op_form.Flow.{Flow}
use Rattle.jparts.specs.declared.jcode.op_form.Flow.TheVariants as flows
use Rattle.jparts.specs.declared.jcode.op_form.OpForm.{OpForm}
use Rattle.jparts.specs.declared.jcode.op_form.OpForm.TheVariants as forms
use Rattle.jparts.specs.declared.jcode.op.Op.{Op}
use Rattle.jparts.specs.declared.jcode.op.Placed.{Placed}
use Rattle.jparts.specs.declared.jcode.op.Switch.{Switch as SwitchOp}
use Rattle.jparts.specs.jcode.InstructionForms.{branches, goes_on}
use Rattle.jlib.specs.declared.calls.ControllerCall.{ControllerCall}
use Rattle.jlib.specs.declared.calls.ControllerCall.TheVariants as controller
use Rattle.jlib.specs.declared.calls.RtCall.TheVariants as rt
use Rattle.jtypes.specs.declared.vtype.VType.{VType}
use Rattle.jtypes.specs.declared.vtype.VType.TheVariants.{Int, Ctx}
use Rattle.jtypes.specs.TypeFrames.{Frame, slots}
use Rattle.jresolution.specs.jprogram.ProgramClasses.{Program}
use Rattle.jresolution.specs.declared.juses.meaning.InvokeKind.{InvokeKind}
use Rattle.jresolution.specs.declared.juses.meaning.InvokeKind.TheVariants as how
use Rattle.jresolution.specs.juses.IndexedInstructions as instructions
use Rattle.jresolution.specs.juses.IndexedInstructions.{Array, Instruction, Jump, Local, Return, Simple, Stack, Switch, Test, Throw, Used}
use Rattle.jresolution.specs.juses.InstructionMeanings as meanings
use Rattle.jresolution.specs.juses.InstructionMeanings.{Call, CallMeaning}
use Rattle.jlinking.proofs.JlinkProofs.PresentValues.{map_is, then_is}
use Rattle.jtyping.specs.jrule.InstructionContext.{Here}
use Rattle.jtyping.specs.jrule.StackOperands.{with_stack}
use Rattle.jtyping.specs.jrule.TypingRule.{rule}
use Rattle.jsimulation_laws.specs.relation.InstructionExpansion.{Alone, Asking, Handed, Way, asking_params, calling, expanded, handed, load, push, rt_meaning, way_of}
use Rattle.jmoved_laws.proofs.CodeProofs.ExpansionMeanings.{Each}
use Rattle.jmoved_laws.proofs.TypesProofs.InstructionPreservation.{IsAsked, IsMoving, Moving, asked_ret, context_taken, handed_rule, load_rule, number, number_taken, place, push_rule, static_is, static_rule}

-- ---- instructions that lead nowhere but on

abbrev pub is_plain : Instruction → Bool
is_plain (Jump test to) = false
is_plain (Switch cases other) = false
is_plain (Return kind) = false
is_plain Throw = false
is_plain i = true

not_plain : (i j : Instruction) → Some j ≡ Some i → is_plain j ≡ false → is_plain i ≡ true → ⊥
not_plain i j e h k = absurd cc

flow_not : (ops : List Placed) (at : ℕ) (f : Flow SwitchOp) (i : Instruction) → instructions.flow ops at f ≡ Some i → is_plain i ≡ true → ⊥
flow_not ops at (flows.If test by) i e h = let r = map_is (Jump (instructions.If test)) (instructions.target ops at by) i e in not_plain i (Jump (instructions.If test) r.0)
    (ap (λ (j : Instruction). Some j) r.2) refl h
flow_not ops at (flows.IfInt test by) i e h = let r = map_is (Jump (instructions.IfInt test)) (instructions.target ops at by) i e in not_plain i
    (Jump (instructions.IfInt test) r.0) (ap (λ (j : Instruction). Some j) r.2) refl h
flow_not ops at (flows.IfRef test by) i e h = let r = map_is (Jump (instructions.IfRef test)) (instructions.target ops at by) i e in not_plain i
    (Jump (instructions.IfRef test) r.0) (ap (λ (j : Instruction). Some j) r.2) refl h
flow_not ops at (flows.Goto by) i e h = let r = map_is (Jump instructions.Always) (instructions.target ops at by) i e in not_plain i (Jump instructions.Always r.0)
    (ap (λ (j : Instruction). Some j) r.2) refl h
flow_not ops at (flows.Switch s) i e h =
    let found = then_is (λ l. option_map (Switch l) (instructions.target ops at (instructions.default s))) (instructions.cases ops at s) i e in
    let other = map_is (Switch found.0) (instructions.target ops at (instructions.default s)) i found.2 in
    not_plain i (Switch found.0 other.0) (ap (λ (j : Instruction). Some j) other.2) refl h
flow_not ops at (flows.Return kind) i e h = not_plain i (Return kind) e refl h
flow_not ops at flows.Throw i e h = not_plain i Throw e refl h

pub plain_goes : (p : Program) (pool : List Entry) (ops : List Placed) (at : ℕ) (f : OpForm SwitchOp) (i : Instruction) → instructions.by_form p pool ops at f ≡ Some i
    → is_plain i ≡ true → (branches f ≡ []) × (goes_on f ≡ true)
unfolding branches goes_on
plain_goes p pool ops at (forms.Simple f) i e h = (refl, refl)
plain_goes p pool ops at (forms.Local f) i e h = (refl, refl)
plain_goes p pool ops at (forms.Stack f) i e h = (refl, refl)
plain_goes p pool ops at (forms.Array f) i e h = (refl, refl)
plain_goes p pool ops at (forms.Pool f) i e h = (refl, refl)
plain_goes p pool ops at (forms.Flow f) i e h = absurd (flow_not ops at f i e h)

-- ---- expansions

module _ (m : Moving) (k : IsMoving m) (P : Op → Instruction → Type 0) where
  abbrev Same : Instruction → Instruction → Type 0
  Same z it = (h : Here) (a : Frame) → rule m.q h z a ≡ rule m.q h it a

  -- what stands for an instruction alone
  pub record One (o : Op) (it : Instruction) : Type 0 where
    pub is : Instruction
    pub row : P o is
    pub same : Same is it

  one : (o : Op) (z it : Instruction) → Each P (o ∷ []) (z ∷ []) → Same z it → One o it
  one o z it e h = record { is = z; row = e.0; same = h }

  no_more : (o : Op) (z u : Instruction) (us : List Instruction) → Each P (o ∷ []) (z ∷ u ∷ us) → ⊥
  no_more o z u us e = absurd e.1

  one_call : (o : Op) (by : InvokeKind) (c : CallMeaning) (w : Way) → Each P (o ∷ []) (calling (place m) by c w) → One o (Used (Call by c))
  one_call o by c Alone e = one o (Used (Call by c)) (Used (Call by c)) e (λ h a. refl)
  one_call o by c Handed e = absurd e.1
  one_call o by c (Asking controller.Check) e = absurd e.1
  one_call o by c (Asking controller.Snapshot) e = absurd e.1
  one_call o by c (Asking controller.Privileged) e = absurd e.1
  one_call o by c (Asking controller.PrivilegedWith) e = absurd e.1
  one_call o by c (Asking controller.PrivilegedLimited) e = absurd e.1

  jump_same : (test : Test) (to there : ℕ) → Same (Jump test to) (Jump test there)
  unfolding rule
  jump_same test to there h a = refl

  switch_same : (cases others : List (ℤ × ℕ)) (to there : ℕ) → Same (Switch cases to) (Switch others there)
  unfolding rule
  switch_same cases others to there h a = refl

  pub single : (o : Op) (it : Instruction) → Each P (o ∷ []) (expanded (place m) (number m) it) → One o it
  single o (Jump test n) e = one o (Jump test (number m n)) (Jump test n) e (jump_same test (number m n) n)
  single o (Switch cases other) e = one o (Switch _ (number m other)) (Switch cases other) e (switch_same _ cases (number m other) other)
  single o (Simple f) e = one o (Simple f) (Simple f) e (λ h a. refl)
  single o (Local f) e = one o (Local f) (Local f) e (λ h a. refl)
  single o (Stack s) e = one o (Stack s) (Stack s) e (λ h a. refl)
  single o (Return kind) e = one o (Return kind) (Return kind) e (λ h a. refl)
  single o Throw e = one o Throw Throw e (λ h a. refl)
  single o (Array f) e = one o (Array f) (Array f) e (λ h a. refl)
  single o (Used (Call by c)) e = one_call o by c (way_of c.member) e
  single o (Used (meanings.Push c)) e = one o (Used (meanings.Push c)) (Used (meanings.Push c)) e (λ h a. refl)
  single o (Used (meanings.Field op f)) e = one o (Used (meanings.Field op f)) (Used (meanings.Field op f)) e (λ h a. refl)
  single o (Used (meanings.Make c)) e = one o (Used (meanings.Make c)) (Used (meanings.Make c)) e (λ h a. refl)
  single o (Used (meanings.MakeArray t)) e = one o (Used (meanings.MakeArray t)) (Used (meanings.MakeArray t)) e (λ h a. refl)
  single o (Used (meanings.Cast op t)) e = one o (Used (meanings.Cast op t)) (Used (meanings.Cast op t)) e (λ h a. refl)

  -- ---- calls that hand something on

  -- an instruction that puts this on the stack, where there is room, and the context is at hand
  abbrev pub Puts : Instruction → VType → Type 0
  Puts z t = (h : Here) (a : Frame) → slice_get a.locals m.s.local ≡ Some Ctx → slots (t ∷ a.stack) ≤ h.max_stack → rule m.q h z a ≡ Some (with_stack a (t ∷ a.stack))

  load_puts : Puts (load m.s.local) Ctx
  load_puts h a e le = load_rule m k h m.s.local a e le

  push_puts : Puts (push m.s.domain) Int
  push_puts h a e le = push_rule m k h m.s.domain a le

  pub record Lead (o : Op) (t : VType) : Type 0 where
    pub is : Instruction
    pub row : P o is
    pub plain : is_plain is ≡ true
    pub puts : Puts is t
    pub short : (xs : List VType) → slots (t ∷ xs) ≡ 1 + slots xs

  context_slots : (xs : List VType) → slots (Ctx ∷ xs) ≡ 1 + slots xs
  unfolding slots
  context_slots xs = refl

  number_slots : (xs : List VType) → slots (Int ∷ xs) ≡ 1 + slots xs
  unfolding slots
  number_slots xs = refl

  load_lead : (o : Op) → P o (load m.s.local) → Lead o Ctx
  load_lead o r = record { is = load m.s.local; row = r; plain = refl; puts = load_puts; short = context_slots }

  push_lead : (o : Op) → P o (push m.s.domain) → Lead o Int
  push_lead o r = record { is = push m.s.domain; row = r; plain = refl; puts = push_puts; short = number_slots }

  -- a call with some more operands, which does what another one does without
  pub record Last (o : Op) (puts : List VType → List VType) (it : Instruction) : Type 0 where
    pub is : Instruction
    pub row : P o is
    pub plain : is_plain is ≡ true
    pub by : InvokeKind
    pub call : CallMeaning
    pub it_is : it ≡ Used (Call by call)
    pub does : (h : Here) (a : Frame) → rule m.q h is (with_stack a (puts a.stack)) ≡ rule m.q h it a

  pub record Two (o u : Op) (it : Instruction) : Type 0 where
    pub put : VType
    pub lead : Lead o put
    pub last : Last u (λ xs. put ∷ xs) it

  pub record Three (o u v : Op) (it : Instruction) : Type 0 where
    pub lead : Lead o Ctx
    pub next : Lead u Int
    pub last : Last v (λ xs. Int ∷ Ctx ∷ xs) it

  abbrev Asks : Instruction → Type 0
  Asks it = (by : InvokeKind) (c : CallMeaning) (call : ControllerCall) → it ≡ Used (Call by c) → way_of c.member ≡ Asking call → IsAsked by c call

  -- what is asked of AccessController, by what is taken and given
  asked_is : (by : InvokeKind) (c : CallMeaning) (call : ControllerCall) → IsAsked by c call → (h : Here) (a : Frame)
      → static_rule m k h (asking_params call) (asked_ret call) a ≡ rule m.q h (Used (Call by c)) a
  asked_is by c call asked h a =
      ap (λ (o : Option VType). static_rule m k h (asking_params call) o a) (sym asked.ret)
      ∙ ap (λ (ps : List VType). static_rule m k h ps c.ret a) (sym asked.params)
      ∙ sym (static_is m k h c a)
      ∙ ap (λ (b : InvokeKind). rule m.q h (Used (Call b c)) a) (sym asked.static)

  -- what stands for it is given the context besides, or the domain, or both
  with_context : (call : ControllerCall) (d : CallMeaning) → d.params ≡ Ctx ∷ asking_params call → d.ret ≡ asked_ret call → (by : InvokeKind) (c : CallMeaning) → IsAsked by c call
      → (h : Here) (a : Frame) → rule m.q h (Used (Call how.Static d)) (with_stack a (Ctx ∷ a.stack)) ≡ rule m.q h (Used (Call by c)) a
  with_context call d params ret by c asked h a =
      static_is m k h d (with_stack a (Ctx ∷ a.stack))
      ∙ ap (λ (ps : List VType). static_rule m k h ps d.ret (with_stack a (Ctx ∷ a.stack))) params
      ∙ ap (λ (o : Option VType). static_rule m k h (Ctx ∷ asking_params call) o (with_stack a (Ctx ∷ a.stack))) ret
      ∙ context_taken m k h (asking_params call) (asked_ret call) a ∙ asked_is by c call asked h a

  with_number : (call : ControllerCall) (d : CallMeaning) → d.params ≡ Int ∷ asking_params call → d.ret ≡ asked_ret call → (by : InvokeKind) (c : CallMeaning) → IsAsked by c call
      → (h : Here) (a : Frame) → rule m.q h (Used (Call how.Static d)) (with_stack a (Int ∷ a.stack)) ≡ rule m.q h (Used (Call by c)) a
  with_number call d params ret by c asked h a =
      static_is m k h d (with_stack a (Int ∷ a.stack))
      ∙ ap (λ (ps : List VType). static_rule m k h ps d.ret (with_stack a (Int ∷ a.stack))) params
      ∙ ap (λ (o : Option VType). static_rule m k h (Int ∷ asking_params call) o (with_stack a (Int ∷ a.stack))) ret
      ∙ number_taken m k h (asking_params call) (asked_ret call) a ∙ asked_is by c call asked h a

  with_both : (call : ControllerCall) (d : CallMeaning) → d.params ≡ Int ∷ Ctx ∷ asking_params call → d.ret ≡ asked_ret call → (by : InvokeKind) (c : CallMeaning) → IsAsked by c call
      → (h : Here) (a : Frame) → rule m.q h (Used (Call how.Static d)) (with_stack a (Int ∷ Ctx ∷ a.stack)) ≡ rule m.q h (Used (Call by c)) a
  with_both call d params ret by c asked h a =
      static_is m k h d (with_stack a (Int ∷ Ctx ∷ a.stack))
      ∙ ap (λ (ps : List VType). static_rule m k h ps d.ret (with_stack a (Int ∷ Ctx ∷ a.stack))) params
      ∙ ap (λ (o : Option VType). static_rule m k h (Int ∷ Ctx ∷ asking_params call) o (with_stack a (Int ∷ Ctx ∷ a.stack))) ret
      ∙ number_taken m k h (Ctx ∷ asking_params call) (asked_ret call) (with_stack a (Ctx ∷ a.stack))
      ∙ context_taken m k h (asking_params call) (asked_ret call) a ∙ asked_is by c call asked h a

  by_context : (o u : Op) (call : ControllerCall) (d : CallMeaning) (by : InvokeKind) (c : CallMeaning) → d.params ≡ Ctx ∷ asking_params call → d.ret ≡ asked_ret call → IsAsked by c call
      → Each P (o ∷ u ∷ []) (load m.s.local ∷ Used (Call how.Static d) ∷ []) → Two o u (Used (Call by c))
  by_context o u call d by c params ret asked e = record {
    put = Ctx;
    lead = load_lead o e.0;
    last = record { is = Used (Call how.Static d); row = e.1.0; plain = refl; by = by; call = c; it_is = refl; does = with_context call d params ret by c asked };
  }

  by_number : (o u : Op) (call : ControllerCall) (d : CallMeaning) (by : InvokeKind) (c : CallMeaning) → d.params ≡ Int ∷ asking_params call → d.ret ≡ asked_ret call → IsAsked by c call
      → Each P (o ∷ u ∷ []) (push m.s.domain ∷ Used (Call how.Static d) ∷ []) → Two o u (Used (Call by c))
  by_number o u call d by c params ret asked e = record {
    put = Int;
    lead = push_lead o e.0;
    last = record { is = Used (Call how.Static d); row = e.1.0; plain = refl; by = by; call = c; it_is = refl; does = with_number call d params ret by c asked };
  }

  two_call : (o u : Op) (by : InvokeKind) (c : CallMeaning) → Asks (Used (Call by c)) → (w : Way) → way_of c.member ≡ w → Each P (o ∷ u ∷ []) (calling (place m) by c w)
      → Two o u (Used (Call by c))
  two_call o u by c asks Alone at e = absurd e.1
  two_call o u by c asks Handed at e = record {
    put = Ctx;
    lead = load_lead o e.0;
    last = record { is = Used (Call by (handed c)); row = e.1.0; plain = refl; by = by; call = c; it_is = refl; does = λ h a. handed_rule m k h by c a };
  }
  two_call o u by c asks (Asking controller.Check) at e = by_context o u controller.Check (rt_meaning rt.Check) by c refl refl (asks by c controller.Check refl at) e
  two_call o u by c asks (Asking controller.Snapshot) at e = by_context o u controller.Snapshot (rt_meaning rt.Snapshot) by c refl refl (asks by c controller.Snapshot refl at) e
  two_call o u by c asks (Asking controller.Privileged) at e = by_number o u controller.Privileged (rt_meaning rt.Privileged) by c refl refl
      (asks by c controller.Privileged refl at) e
  two_call o u by c asks (Asking controller.PrivilegedWith) at e = by_number o u controller.PrivilegedWith (rt_meaning rt.PrivilegedWith) by c refl refl
      (asks by c controller.PrivilegedWith refl at) e
  two_call o u by c asks (Asking controller.PrivilegedLimited) at e = absurd e.1.1

  pub double : (o u : Op) (it : Instruction) → Asks it → Each P (o ∷ u ∷ []) (expanded (place m) (number m) it) → Two o u it
  double o u (Used (Call by c)) asks e = two_call o u by c asks (way_of c.member) refl e
  double o u (Jump test n) asks e = absurd e.1
  double o u (Switch cases other) asks e = absurd e.1
  double o u (Simple f) asks e = absurd e.1
  double o u (Local f) asks e = absurd e.1
  double o u (Stack s) asks e = absurd e.1
  double o u (Return kind) asks e = absurd e.1
  double o u Throw asks e = absurd e.1
  double o u (Array f) asks e = absurd e.1
  double o u (Used (meanings.Push c)) asks e = absurd e.1
  double o u (Used (meanings.Field op f)) asks e = absurd e.1
  double o u (Used (meanings.Make c)) asks e = absurd e.1
  double o u (Used (meanings.MakeArray t)) asks e = absurd e.1
  double o u (Used (meanings.Cast op t)) asks e = absurd e.1

  three_call : (o u v : Op) (by : InvokeKind) (c : CallMeaning) → Asks (Used (Call by c)) → (w : Way) → way_of c.member ≡ w → Each P (o ∷ u ∷ v ∷ []) (calling (place m) by c w)
      → Three o u v (Used (Call by c))
  three_call o u v by c asks Alone at e = absurd e.1
  three_call o u v by c asks Handed at e = absurd e.1.1
  three_call o u v by c asks (Asking controller.Check) at e = absurd e.1.1
  three_call o u v by c asks (Asking controller.Snapshot) at e = absurd e.1.1
  three_call o u v by c asks (Asking controller.Privileged) at e = absurd e.1.1
  three_call o u v by c asks (Asking controller.PrivilegedWith) at e = absurd e.1.1
  three_call o u v by c asks (Asking controller.PrivilegedLimited) at e = record {
    lead = load_lead o e.0;
    next = push_lead u e.1.0;
    last = record {
      is = Used (Call how.Static (rt_meaning rt.PrivilegedLimited));
      row = e.1.1.0;
      plain = refl;
      by = by;
      call = c;
      it_is = refl;
      does = with_both controller.PrivilegedLimited (rt_meaning rt.PrivilegedLimited) refl refl by c (asks by c controller.PrivilegedLimited refl at);
    };
  }

  pub triple : (o u v : Op) (it : Instruction) → Asks it → Each P (o ∷ u ∷ v ∷ []) (expanded (place m) (number m) it) → Three o u v it
  triple o u v (Used (Call by c)) asks e = three_call o u v by c asks (way_of c.member) refl e
  triple o u v (Jump test n) asks e = absurd e.1
  triple o u v (Switch cases other) asks e = absurd e.1
  triple o u v (Simple f) asks e = absurd e.1
  triple o u v (Local f) asks e = absurd e.1
  triple o u v (Stack s) asks e = absurd e.1
  triple o u v (Return kind) asks e = absurd e.1
  triple o u v Throw asks e = absurd e.1
  triple o u v (Array f) asks e = absurd e.1
  triple o u v (Used (meanings.Push c)) asks e = absurd e.1
  triple o u v (Used (meanings.Field op f)) asks e = absurd e.1
  triple o u v (Used (meanings.Make c)) asks e = absurd e.1
  triple o u v (Used (meanings.MakeArray t)) asks e = absurd e.1
  triple o u v (Used (meanings.Cast op t)) asks e = absurd e.1
