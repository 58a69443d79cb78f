-- One instruction of a moved method: behind a frame that is more precise than what the method carries, the rule gives one that is more precise
-- than what it carries on.
use Rattle.std.proofs.Common.{◌≡◌, ℕ, zero, suc, ◌+◌, ◌-◌, ◌≤◌, ◌<◌, Bool, true, false, cond, List, [], ◌∷◌, ◌++◌, length, map, replicate, Option, Some, None, refl, sym, ap, subst, ◌∙◌, arith}
use Rattle.std.specs.Prelude.{IsTrue, ◌||◌, option_map, option_and_then, slice_get}
use Rattle.std.specs.List.{list_any}
use Rattle.std.proofs.lemmas.Bool.{le-leb}
use Rattle.jparts.specs.declared.jpool.entry.Entry.{Entry}
use Rattle.jparts.specs.declared.jcode.names.LocalKind.TheVariants as locals
use Rattle.jparts.specs.declared.jcode.op.Handler.{Handler}
use Rattle.jparts.specs.declared.jcode.op.Op.{Op}
use Rattle.jparts.specs.declared.jcode.op.Placed.{Placed}
use Rattle.jparts.specs.declared.jcode.op.Switch.{Switch as SwitchOp}
use Rattle.jparts.specs.jcode.InstructionForms as codes_of
use Rattle.jparts.specs.jcode.InstructionForms.{form}
use Rattle.jparts.specs.jcode.Instructions.{code, covers}
use Rattle.jclass.specs.declared.class.CodeAttribute.{CodeAttribute}
use Rattle.jclass.specs.declared.class.CodeBody.{CodeBody}
use Rattle.jclass.specs.FileContents.{IsIn}
use Rattle.jlib.specs.declared.calls.ControllerCall.{ControllerCall}
use Rattle.jlib.specs.declared.calls.ControllerCall.TheVariants as controller
use Rattle.jlib.specs.declared.classes.LibClass.TheVariants as lib
use Rattle.jlib.specs.declared.calls.RtCall.TheVariants as rt
use Rattle.jtypes.specs.declared.vtype.Name.{Name}
use Rattle.jtypes.specs.declared.vtype.VType.{VType}
use Rattle.jtypes.specs.declared.vtype.VType.TheVariants.{Top, Int, Long, Null, UninitThis, Uninit, Object, Array, Ctx}
use Rattle.jtypes.specs.TypeFrames as frames
use Rattle.jtypes.specs.TypeFrames.{Frame, slots}
use Rattle.jtypes.specs.ClassTrees.{Tree}
use Rattle.jmove.specs.declared.method.Expand.{Expand}
use Rattle.jmove.specs.declared.method.Setting.{Setting}
use Rattle.jmove.specs.MethodExpansion as moves
use Rattle.jmove.specs.MethodExpansion.{expansion, moved_handler}
use Rattle.jrewriting.specs.jmove_laws.InstructionNumbers.{IsNth, index_of, moved, new_place}
use Rattle.jrewriting.specs.jmove_laws.HandlerRanges.{IsRange}
use Rattle.jresolution.specs.declared.jprogram.member.Member.{Member}
use Rattle.jresolution.specs.jprogram.ProgramClasses.{Program, extends, tree}
use Rattle.jresolution.specs.jprogram.OrderedPrograms.{StandsInOrder}
use Rattle.jresolution.specs.declared.juses.meaning.InvokeKind.{InvokeKind}
use Rattle.jresolution.specs.declared.juses.meaning.InvokeKind.TheVariants as how
use Rattle.jresolution.specs.juses.IndexedInstructions.{Instruction, Used, instruction}
use Rattle.jresolution.specs.juses.InstructionMeanings.{Call, CallMeaning}
use Rattle.jtyping.specs.jrule.StackEffects.{Fits}
use Rattle.jtyping.specs.jrule.FormRules.{by_form}
use Rattle.jtyping.specs.jrule.FrameExtension.{is_unready, roomy}
use Rattle.jtyping.specs.jrule.InstructionContext.{Here}
use Rattle.jtyping.specs.jrule.LocalRule as local
use Rattle.jtyping.specs.jrule.ObjectRule.{init_on}
use Rattle.jtyping.specs.ProofNames.{init_of}
use Rattle.jtyping.specs.jrule.StackOperands.{below, exchanged, given, pushed, taken, with_stack}
use Rattle.jtyping.specs.jrule.PreciseFrames.{frame_precise, precise}
use Rattle.jtyping.specs.jrule.TypingRule.{is_own, rule}
use Rattle.jtyping.specs.jrule.PoolEffects.{arguments, exchange, of_library}
use Rattle.jtyping.proofs.JruleProofs.FormRules.{form_agrees}
use Rattle.jtyping.proofs.JruleProofs.OrderedPrograms.{keeps_precise}
use Rattle.jresolution.proofs.JprogramProofs.SuperclassOrder as extending
use Rattle.jtyping.proofs.JruleProofs.PreciseTypes.{InOrder, sharp_context}
use Rattle.jtyping.proofs.JruleProofs.FramePrecision.{LocalsSharp}
use Rattle.jtyping.proofs.JruleProofs.SharpLocals.{head_sharp, more_right, tail_sharp}
use Rattle.jtyping.proofs.JruleProofs.UnreadLocals.{looks_no_further}
use Rattle.jsimulation_laws.specs.relation.InstructionExpansion.{Asking, Place, asking_params, context, expanded, handed, load, push, rt_meaning, way_of}
use Rattle.jtyping.specs.jwelltyped.DeclaredFrames.{Written, is_good, written}
use Rattle.jtyping.specs.jwelltyped.MethodPremises.{Method, here_of, makes}
use Rattle.jtyping.specs.jwelltyped.VerifierTests.{caught_type}
use Rattle.jmoved_laws.proofs.CodeProofs.ExpansionMeanings.{Each, Means}
use Rattle.jmoved_laws.specs.types.RenamedPlaces.{Renames, gone, renamed, renamed_type}
use Rattle.jmoved_laws.proofs.TypesProofs.PlaceInjectivity.{apart}
use Rattle.jmoved_laws.proofs.TypesProofs.RuleAgreement.{asks_tree}
use Rattle.jmoved_laws.proofs.TypesProofs.CarriedFrames.{carried, carried_written}
use Rattle.jmoved_laws.proofs.TypesProofs.NewSubstitution.{goes_along}

-- ---- a moved method

-- A method, and what it became: its code begins with `enter`, and each instruction became what stands for it in `ks`.
pub record Moving : Type 0 where
  pub p : Program
  pub q : Program
  pub x : Method
  pub pool : List Entry
  pub attributes : List CodeAttribute
  pub slots : ℕ
  pub enter : ℕ
  pub s : Setting
  pub ks : List Expand

-- what the methods of AccessController give
abbrev pub asked_ret : ControllerCall → Option VType
asked_ret controller.Check = None
asked_ret controller.Snapshot = Some context
asked_ret call = Some (of_library lib.Object)

pub record IsAsked (by : InvokeKind) (c : CallMeaning) (call : ControllerCall) : Type 0 where
  pub static : by ≡ how.Static
  pub params : c.params ≡ asking_params call
  pub ret : c.ret ≡ asked_ret call

module _ (m : Moving) where
  abbrev pub ops : List Placed
  ops = m.x.body.ops

  abbrev pub begin : List Op
  begin = moves.prologue m.slots m.s m.enter

  abbrev pub to : ℕ → ℕ
  to = new_place begin m.s m.ks ops

  abbrev pub number : ℕ → ℕ
  number = index_of begin m.s m.ks ops

  abbrev pub place : Place
  place = record { local = m.s.local; domain = m.s.domain }

  abbrev pub more : List VType
  more = replicate (m.s.local - m.x.body.max_locals) Top ++ Ctx ∷ []

  abbrev pub new : List Placed
  new = moved begin m.s m.ks ops

  abbrev pub body : CodeBody
  body = record {
    max_stack = m.x.body.max_stack + 3;
    max_locals = m.s.local + 1;
    ops = new;
    handlers = map (moved_handler to) m.x.body.handlers;
    attributes = m.attributes;
  }

  -- the method that it became, with the context as one more parameter
  abbrev pub y : Method
  y = record { class = m.x.class; above = m.x.above; is_init = m.x.is_init; params = m.x.params ++ Ctx ∷ []; returns = m.x.returns; pool = m.pool; body = body }

  abbrev pub ws : List Written
  ws = written m.p m.x

  abbrev pub news : List Written
  news = map (carried_written to more) ws

  -- a frame of the old method, as the new one carries it
  abbrev pub carry : Frame → Frame
  carry = carried to more

  -- what an instruction means, and its expansion
  pub record Row (k : Expand) (i : Placed) : Type 0 where
    pub it : Instruction
    pub means : instruction m.p m.x.pool ops i ≡ Some it
    pub row : Each (Means m.q m.pool new to i.at) (expansion m.s k i.op) (expanded place number it)
    -- a method of AccessController is called as it is declared
    pub asks : (by : InvokeKind) (c : CallMeaning) (call : ControllerCall) → it ≡ Used (Call by c) → way_of c.member ≡ Asking call → IsAsked by c call

  -- what is known of the two
  pub record IsMoving : Type 0 where
    pub stands : StandsInOrder m.p
    pub same_tree : tree m.q ≡ tree m.p
    pub owners : (f : Member) → is_own m.q m.x.is_init m.x.class f ≡ is_own m.p m.x.is_init m.x.class f
    pub fits : IsTrue (code.fits ops)
    pub each : length m.ks ≡ length ops
    pub ranges : (h : Handler) → IsIn h m.x.body.handlers → IsRange ops h
    pub caught : (h : Handler) → IsIn h m.x.body.handlers → caught_type m.q y (moved_handler to h) ≡ caught_type m.p m.x h
    pub rows : (n : ℕ) (k : Expand) (i : Placed) → IsNth m.ks ops n k i → Row k i
    pub enters : Means m.q m.pool new to 0 (moves.call_static m.enter) (Used (Call how.Static (rt_meaning rt.Enter)))
    pub names : Renames to (makes m.p m.x) (makes m.q y)
    pub written_is : written m.q y ≡ news
    pub good : (w : Written) → IsIn w ws → is_good m.p m.x w ≡ true
    pub slots_is : m.slots ≡ length (frames.places_of m.x.params)
    -- it has code, and what it is given is ready but for `this`
    pub some : (i : Placed) × (slice_get ops 0 ≡ Some i)
    pub params_stay : map (renamed_type to) m.x.params ≡ m.x.params
    pub behind : m.x.body.max_locals ≤ m.s.local
    pub behind_slots : m.slots < m.s.local

-- ---- frames that are more precise

pub context_there : (t : Tree) (xs ys : List VType) (n : ℕ) → LocalsSharp t xs ys → slice_get ys n ≡ Some Ctx → slice_get xs n ≡ Some Ctx
context_there t [] [] n h e = absurd cc
context_there t [] (y ∷ ys) n h e = absurd (more_right t y ys h)
context_there t (x ∷ xs) [] n h e = absurd cc
context_there t (x ∷ xs) (y ∷ ys) zero h e =
    let same : y ≡ Ctx = cc in
    ap Some (sharp_context t x (subst (λ (z : VType). precise t x z ≡ true) same (head_sharp t x y xs ys h)))
context_there t (x ∷ xs) (y ∷ ys) (suc n) h e = context_there t xs ys n (tail_sharp t x y xs ys h) e

tops_end : (m : ℕ) (a : VType) (l : ℕ) → l ≡ m → slice_get (replicate m Top ++ a ∷ []) l ≡ Some a
tops_end zero a zero e = refl
tops_end zero a (suc l) e = absurd cc
tops_end (suc m) a zero e = absurd cc
tops_end (suc m) a (suc l) e = tops_end m a l (omega (arith, e))

pub at_end : (xs : List VType) (n m : ℕ) (a : VType) → length xs ≡ n → slice_get (xs ++ (replicate m Top ++ a ∷ [])) (n + m) ≡ Some a
at_end [] n m a e = tops_end m a (n + m) (omega (arith, e))
at_end (x ∷ xs) zero m a e = absurd cc
at_end (x ∷ xs) (suc n) m a e =
    let sum : suc n + m ≡ suc (n + m) = omega arith in
    ap (slice_get (x ∷ (xs ++ (replicate m Top ++ a ∷ [])))) sum ∙ at_end xs n m a (omega (arith, e))

-- ---- steps

module _ (m : Moving) (k : IsMoving m) where
  abbrev pub Finer : Frame → Frame → Type 0
  Finer a f = frame_precise (tree m.p) a f ≡ true

  pub order : InOrder (tree m.p)
  order = record {
    itself = λ c. extending.extends_itself m.p c.0;
    chain = λ c d e first second. extending.extends_chain m.p k.stands c.0 d.0 e.0 first second;
    below_object = λ c d at. ap (extends m.p c.0) at ∙ extending.extends_object m.p c.0;
    interfaces = extending.interfaces_extend m.p k.stands;
  }

  none_unready : (n : ℕ) → list_any is_unready (replicate n Top ++ Ctx ∷ []) ≡ false
  none_unready zero = refl
  none_unready (suc n) = none_unready n

  few : m.x.body.max_stack ≤ m.x.body.max_stack + 3
  few = omega arith

  abbrev pub old_here : Placed → Here
  old_here i = here_of m.p m.x i.at

  abbrev pub same_here : Placed → Here
  same_here i = roomy (m.x.body.max_stack + 3) (gone (to m) (makes m.q (y m)) (old_here i))

  -- where an instruction of an expansion stands, by whether a handler covers it
  here_is : (i : Placed) (at : ℕ) → list_any (covers at) (body m).handlers ≡ list_any (covers i.at) m.x.body.handlers →
      record {
        class = m.x.class;
        above = m.x.above;
        is_init = m.x.is_init;
        returns = m.x.returns;
        max_stack = m.x.body.max_stack + 3;
        at = at;
        covered = list_any (covers i.at) m.x.body.handlers;
        makes = makes m.q (y m);
      } ≡ here_of m.q (y m) at
  here_is i at e =
      ap (λ (b : Bool). record {
        class = m.x.class;
        above = m.x.above;
        is_init = m.x.is_init;
        returns = m.x.returns;
        max_stack = m.x.body.max_stack + 3;
        at = at;
        covered = b;
        makes = makes m.q (y m);
      }) (sym e)

  -- The instruction itself, as it is in the moved program, where the expansion begins.
  pub step_at : (n : ℕ) (e : Expand) (i : Placed) (it : Instruction) (f g a : Frame) → IsNth m.ks (ops m) n e i → instruction m.p m.x.pool (ops m) i ≡ Some it
      → by_form m.p (old_here i) m.x.pool (form i.op) f ≡ Some g → Finer a (carry m f)
      → (d : Frame) × (rule m.q (same_here i) it a ≡ Some d) × Finer d (carry m g)
  unfolding instruction
  step_at n e i it f g a nth means gives finer =
      let far = apart (begin m) m.s m.ks (ops m) k.each k.fits n e i nth in
      let elsewhere = goes_along SwitchOp m.p (to m) (makes m.q (y m)) (old_here i) m.x.pool (form i.op) f k.names far ∙ ap (option_map (renamed (to m))) gives in
      let wider = looks_no_further SwitchOp m.p (gone (to m) (makes m.q (y m)) (old_here i)) (m.x.body.max_stack + 3) m.x.pool (form i.op) (renamed (to m) f) (renamed (to m) g)
      (more m) few
      (none_unready (m.s.local - m.x.body.max_locals)) elsewhere in
      let kept = keeps_precise SwitchOp m.p (same_here i) m.x.pool (form i.op) a (carry m f) (carry m g) k.stands finer wider in
      (kept.0, asks_tree m.p m.q (same_here i) it a k.same_tree k.owners ∙ form_agrees m.p (same_here i) m.x.pool (ops m) i.at (form i.op) it a means ∙ kept.1, kept.2)

  -- ---- what calls are handed

  pub handed_rule : (h : Here) (by : InvokeKind) (c : CallMeaning) (a : Frame) → rule m.q h (Used (Call by (handed c))) (with_stack a (Ctx ∷ a.stack)) ≡ rule m.q h (Used (Call by c)) a
  unfolding rule exchange taken below
  handed_rule h how.Virtual c a = refl
  handed_rule h how.Special c a = refl
  handed_rule h how.Static c a = refl
  handed_rule h how.Interface c a = refl
  handed_rule h how.Init c a = refl

  -- a static call, by what it takes and gives
  abbrev pub static_rule : Here → List VType → Option VType → Frame → Option Frame
  static_rule h params ret a = exchanged (tree m.q) h.max_stack (record { takes = map Fits params ++ []; gives = ret }) a

  pub static_is : (h : Here) (c : CallMeaning) (a : Frame) → rule m.q h (Used (Call how.Static c)) a ≡ static_rule h c.params c.ret a
  unfolding rule exchange
  static_is h c a = refl

  pub context_taken : (h : Here) (params : List VType) (ret : Option VType) (a : Frame)
      → static_rule h (Ctx ∷ params) ret (with_stack a (Ctx ∷ a.stack)) ≡ static_rule h params ret a
  unfolding taken below
  context_taken h params ret a = refl

  pub number_taken : (h : Here) (params : List VType) (ret : Option VType) (a : Frame)
      → static_rule h (Int ∷ params) ret (with_stack a (Int ∷ a.stack)) ≡ static_rule h params ret a
  unfolding taken below
  number_taken h params ret a = refl

  -- ---- what is put on the stack before

  pub pushed_is : (h : Here) (t : VType) (a : Frame) → slots (t ∷ a.stack) ≤ h.max_stack → pushed h.max_stack t a ≡ Some (with_stack a (t ∷ a.stack))
  pushed_is h t a le = ap (λ (b : Bool). cond b (Some (with_stack a (t ∷ a.stack))) None) (le-leb (slots (t ∷ a.stack)) h.max_stack le)

  pub push_rule : (h : Here) (n : ℕ) (a : Frame) → slots (Int ∷ a.stack) ≤ h.max_stack → rule m.q h (push n) a ≡ Some (with_stack a (Int ∷ a.stack))
  unfolding rule taken below
  push_rule h n a le = pushed_is h Int a le

  pub load_rule : (h : Here) (n : ℕ) (a : Frame) → slice_get a.locals n ≡ Some Ctx → slots (Ctx ∷ a.stack) ≤ h.max_stack
      → rule m.q h (load n) a ≡ Some (with_stack a (Ctx ∷ a.stack))
  unfolding rule
  load_rule h n a e le = ap (local.load_from h.max_stack (codes_of.local locals.Ref) n a) e ∙ pushed_is h Ctx a le

  -- ---- where calls stand

  abbrev pub put_at : ℕ → Here → Here
  put_at at h = record {
    class = h.class;
    above = h.above;
    is_init = h.is_init;
    returns = h.returns;
    max_stack = h.max_stack;
    at = at;
    covered = h.covered;
    makes = h.makes;
  }

  same_then : {A B : Type 0} (g h : A → Option B) → ((a : A) → g a ≡ h a) → (o : Option A) → option_and_then g o ≡ option_and_then h o
  same_then g h e None = refl
  same_then g h e (Some a) = e a

  init_anywhere : (h : Here) (at : ℕ) (owner : Name) (f : Frame) (stack : List VType) → init_on (put_at at h) owner f stack ≡ init_on h owner f stack
  init_anywhere h at owner f [] = refl
  init_anywhere h at owner f (Uninit o ∷ stack) = refl
  init_anywhere h at owner f (UninitThis ∷ stack) = refl
  init_anywhere h at owner f (Top ∷ stack) = refl
  init_anywhere h at owner f (Int ∷ stack) = refl
  init_anywhere h at owner f (Long ∷ stack) = refl
  init_anywhere h at owner f (Null ∷ stack) = refl
  init_anywhere h at owner f (Object c ∷ stack) = refl
  init_anywhere h at owner f (Array a ∷ stack) = refl
  init_anywhere h at owner f (Ctx ∷ stack) = refl

  -- a call asks nothing of its own place
  pub call_anywhere : (h : Here) (at : ℕ) (by : InvokeKind) (c : CallMeaning) (a : Frame) → rule m.q (put_at at h) (Used (Call by c)) a ≡ rule m.q h (Used (Call by c)) a
  unfolding rule
  call_anywhere h at how.Virtual c a = refl
  call_anywhere h at how.Special c a = refl
  call_anywhere h at how.Static c a = refl
  call_anywhere h at how.Interface c a = refl
  call_anywhere h at how.Init c a =
      ap (option_and_then (given h.max_stack c.ret))
      (same_then (init_of (put_at at h) c.owner) (init_of h c.owner) (λ g. init_anywhere h at c.owner g g.stack) (taken (tree m.q) (arguments c) a))

  -- where an instruction of an expansion stands, by its old instruction
  pub here_at : (i : Placed) (at : ℕ) → ((h : Handler) → IsIn h m.x.body.handlers → covers at (moved_handler (to m) h) ≡ covers i.at h)
      → put_at at (same_here i) ≡ here_of m.q (y m) at
  here_at i at h = here_is i at (any_mapped m.x.body.handlers h)
    where
      any_mapped : (hs : List Handler) → ((h : Handler) → IsIn h hs → covers at (moved_handler (to m) h) ≡ covers i.at h)
          → list_any (covers at) (map (moved_handler (to m)) hs) ≡ list_any (covers i.at) hs
      any_mapped [] e = refl
      any_mapped (h ∷ hs) e =
          ap (λ (b : Bool). b || list_any (covers at) (map (moved_handler (to m)) hs)) (e h (0, refl))
          ∙ ap (λ (b : Bool). covers i.at h || b) (any_mapped hs (λ g is. e g (suc is.0, is.1)))
