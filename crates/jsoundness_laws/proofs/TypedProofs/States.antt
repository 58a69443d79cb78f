-- Frames that go on behind a call, and those that handle an exception.
use Rattle.std.proofs.Common.{◌≡◌, ℕ, zero, suc, pos, ◌+◌, Bool, true, false, ◌&&◌, ◌||◌, ◌==◌, List, [], ◌∷◌, ◌++◌, length, drop, Option, Some, None, refl, sym, ap, subst, arith, ◌∙◌}
use Rattle.std.specs.List.{AllByRecursion, find, position}
use Rattle.std.proofs.lemmas.List.Quantifiers.{position-Some}
use Rattle.std.proofs.lemmas.Option.{slice_get-get_or}
use Rattle.std.specs.Prelude.{get_or, option_and_then, option_map, option_to_list, slice_get, if◌then◌else◌}
use Rattle.jclass.specs.declared.class.ClassParts.{ClassParts}
use Rattle.jclass.specs.declared.class.CodeBody.{CodeBody}
use Rattle.jclass.specs.FileContents.{IsIn}
use Rattle.jparts.specs.declared.jcode.op.Handler.{Handler}
use Rattle.jparts.specs.declared.jcode.op.Placed.{Placed}
use Rattle.jvalues.specs.declared.jops.value.Value.{Value}
use Rattle.jvalues.specs.declared.jops.value.Value.TheVariants.{Ref}
use Rattle.jparts.specs.declared.jpool.entry.Entry.{Entry}
use Rattle.jtypes.specs.declared.vtype.VType.{VType}
use Rattle.jtypes.specs.Assignability.{fits}
use Rattle.jtypes.specs.TypeFrames.{Frame}
use Rattle.jresolution.specs.declared.jprogram.member.Member.TheVariants.{Method}
use Rattle.jresolution.specs.declared.jprogram.member.MethodId.{MethodId}
use Rattle.jresolution.specs.declared.jprogram.part.CodePart.{CodePart}
use Rattle.jresolution.specs.jprogram.ProgramClasses.{Program, tree}
use Rattle.jresolution.specs.jprogram.MemberResolution.{desc_of, is_init, part_of}
use Rattle.jresolution.specs.jprogram.ClassFileParts.{code_of, member_desc, this_name}
use Rattle.jresolution.specs.jprogram.OrderedPrograms.{StandsInOrder}
use Rattle.jlinking.proofs.JlinkProofs.PresentValues.{then_is}
use Rattle.jresolution.specs.declared.juses.meaning.InvokeKind.{InvokeKind}
use Rattle.jresolution.specs.declared.juses.meaning.InvokeKind.TheVariants as how
use Rattle.jresolution.specs.juses.IndexedInstructions.{Used, body_in}
use Rattle.jresolution.specs.juses.InstructionMeanings as meanings
use Rattle.jresolution.specs.juses.InstructionMeanings.{CallMeaning, class_at}
use Rattle.jresolution.specs.juses.DescriptorTypes.{Called, Held, Typed, Untyped, name, typed}
use Rattle.jtyping.specs.jrule.InstructionContext.{Here}
use Rattle.jtyping.specs.jrule.ObjectRule.{init_on}
use Rattle.jtyping.specs.jrule.StackOperands.{given, taken, with_stack}
use Rattle.jtyping.specs.jrule.TypingRule.{rule}
use Rattle.jtyping.specs.jrule.PoolEffects.{arguments, exchange, of_call, throwable}
use Rattle.jtyping.specs.jwelltyped.DeclaredFrames.{declared_at, written}
use Rattle.jtyping.specs.jwelltyped.MethodPremises.{Method as TypedMethod, here_of, params_of, receiver}
use Rattle.jtyping.specs.jwelltyped.ProofNames.{return_of}
use Rattle.jtyping.specs.jwelltyped.VerifierTests.{caught_fits, caught_type, leads_in}
use Rattle.jtyping.specs.jwelltyped.WellTypedness.{Continues}
use Rattle.jtyping.proofs.JwelltypedProofs.Successors.{gives_rule, number_onward}
use Rattle.jtyping.proofs.JwelltypedProofs.TypedFrames.{also_at}
use Rattle.jsemantics.specs.jmachine.MachineStates.{FrameOf}
use Rattle.jsemantics.specs.jmachine.FrameOperations.{onward, standing}
use Rattle.jsemantics.specs.jmachine.HeapObjects.{Object, class_of}
use Rattle.jsemantics.specs.jmachine.Store.{Store, object_at}
use Rattle.jsemantics.specs.jmachine.Unwinding.{catches, caught, handler_at, handler_from, handler_in, is_caught, number_at, resumed, takes, unwound}
use Rattle.jparts.specs.jcode.Instructions.{covers}
use Rattle.jsemantics.specs.jmachine.World.{World, fits as runs_fits, world}
use Rattle.jtypes.specs.ClassTrees.{Tree}
use Rattle.jsoundness_laws.specs.typed.TypedCalls.{Coded, method, operand_count}
use Rattle.jsoundness_laws.specs.typed.TypedFrames.{AllHave, Suits}
use Rattle.jsoundness_laws.specs.typed.ControlFlow.{DeclareDimensions, SuitsAt, inside}
use Rattle.jsoundness_laws.specs.typed.StoreGrowth.{Grows}
use Rattle.jsoundness_laws.specs.typed.FrameStacks.{AreGuarded, AreStacked, Awaits, FramesResume, FramesUnwind, Guarded, Older, StackedLater, Stands, returns_at, without}
use Rattle.jsoundness_laws.specs.typed.TypedValues.{AreOf, HasDimensions, IsA, known}
use Rattle.jsoundness_laws.proofs.TypedProofs.CallTargets.{have_all}
use Rattle.jsoundness_laws.proofs.TypedProofs.Dimensions.{IsNamed, IsTypedNamed, all_append, all_reversed_by, class_at_named, declare_dimensions, typed_named}
use Rattle.jsoundness_laws.proofs.TypedProofs.Faces.{faces_of, instance_is}
use Rattle.jsoundness_laws.proofs.TypedProofs.Inits.{given_is}
use Rattle.jsoundness_laws.proofs.TypedProofs.StraightSuccessors.{arrived_at, declared_by, fitted_at}
use Rattle.jsoundness_laws.proofs.TypedProofs.StoreMonotonicity.{all_kept, have_kept, suits_later}
use Rattle.jsoundness_laws.proofs.TypedProofs.TypedValues.{has_of, have_given}
use Rattle.jsoundness_laws.proofs.TypedProofs.ValueKinds.{whole_class}
use Rattle.jsoundness_laws.proofs.TypedProofs.SelectedMethods.{desc_is}
use Rattle.jsoundness_laws.proofs.TypedProofs.FrameSubsumption.{both}

some_is : {A : Type 0} (a b : A) → Some a ≡ Some b → a ≡ b
some_is a b e = cc

-- the type that is known of a number is the class of its object
known_class : {K : Type 0} (w : World) (s : Store K) (n : ℕ) (x : Object K) (t : VType) → object_at s n ≡ Some x → known w s (Ref n) ≡ Some t → known w s (Ref n) ≡ Some (class_of w.named x)
known_class w s zero x t at e = absurd (cc)
known_class w s (suc n) x t at e =
    let y = whole_class w s (object_at s (suc n)) t e in
    e ∙ ap (λ t. Some t) (y.2 ∙ ap (λ x. class_of w.named x) (some_is y.0 x (sym y.1 ∙ at)))

-- ---- in stores behind

module _ {K E : Type 0} (p : Program) (s t : Store K) (grows : Grows (world p) s t) where
  stands_later : (f : FrameOf K E) → Stands p s f → Stands p t f
  stands_later f x =
      let here = inside p (method p f.method x.coded) in
      record {
        coded = x.coded;
        is_typed = x.is_typed;
        news = x.news;
        suits = record {
          shape = x.suits.shape;
          there = x.suits.there;
          suits = record {
            locals = all_kept (world p) s t grows here x.news x.suits.shape.locals f.locals x.suits.suits.locals;
            operands = have_kept (world p) s t grows here x.news x.suits.shape.stack f.operands x.suits.suits.operands;
          };
        };
      }

  pub awaits_later : (ret : Option VType) (f : FrameOf K E) → Awaits p s ret f → Awaits p t ret f
  awaits_later ret f x =
      let here = inside p (method p f.method x.coded) in
      record {
        coded = x.coded;
        is_typed = x.is_typed;
        news = x.news;
        at = x.at;
        returns = x.returns;
        before = suits_later K E (world p) s t here x.news (without (operand_count x.at.by x.at.call) x.at.shape) f grows x.before;
        after = suits_later K E (world p) s t here x.news (without (length (option_to_list ret)) x.at.behind) f grows x.after;
      }

  pub older_later : (ret : Option VType) (fs : List (FrameOf K E)) → Older p s ret fs → Older p t ret fs
  older_later ret [] h = tt
  older_later ret (f ∷ fs) h = (awaits_later ret f h.0, older_later (returns_at p f.method) fs h.1)

pub stacked_later : (K E : Type 0) → StackedLater K E
stacked_later K E p s t [] grows h = tt
stacked_later K E p s t (f ∷ fs) grows h = (stands_later p s t grows f h.0, older_later p s t grows (returns_at p f.method) fs h.1)

-- ---- what methods are given and return is named

ret_dimensions : (p : Program) (t : Typed) → IsTypedNamed p t → AllByRecursion HasDimensions (option_to_list (return_of t))
ret_dimensions p Untyped h = tt
ret_dimensions p (Held t) h = tt
ret_dimensions p (Called params None) h = tt
ret_dimensions p (Called params (Some t)) h = (h.1.0.1, tt)

named_dimensions : (ts : List VType) → AllByRecursion IsNamed ts → AllByRecursion HasDimensions ts
named_dimensions [] h = tt
named_dimensions (t ∷ ts) h = (h.0.1, named_dimensions ts h.1)

params_dimensions : (p : Program) (t : Typed) → IsTypedNamed p t → AllByRecursion HasDimensions (params_of t)
params_dimensions p Untyped h = tt
params_dimensions p (Held t) h = tt
params_dimensions p (Called params ret) h = all_reversed_by HasDimensions params (named_dimensions params h.0)

this_dimensions : (static begun : Bool) (c : _) → AllByRecursion HasDimensions (receiver static begun c)
this_dimensions true begun c = tt
this_dimensions false true c = (tt, tt)
this_dimensions false false c = (tt, tt)

module _ (p : Program) (m : MethodId) (x : Coded p m) where
  -- all frames that a method declares have dimensions
  pub coded_dimensions : DeclareDimensions (written p (method p m x))
  coded_dimensions = declare_dimensions p (method p m x)
      (all_append HasDimensions (receiver _ (is_init x.part.class x.info) (name (this_name x.part.class))) (params_of (typed p (member_desc x.part.class x.info)))
      (this_dimensions _ (is_init x.part.class x.info) (name (this_name x.part.class))) (params_dimensions p (typed p (member_desc x.part.class x.info)) (typed_named p (member_desc x.part.class x.info))))

  pub returns_is : returns_at p m ≡ (method p m x).returns
  returns_is = ap (λ (d : List ℕ). return_of (typed p d)) (desc_is p m x.part x.info x.stands x.declared)

-- ---- behind a call

-- what is returned stands on the stack behind
returned_on : (most : ℕ) (ret : Option VType) (o : Option Frame) (g : Frame) → option_and_then (given most ret) o ≡ Some g
    → (rest : List VType) × (g.stack ≡ (option_to_list ret ++ rest))
returned_on most ret None g e = absurd (cc)
returned_on most ret (Some f) g e = (f.stack, (given_is most ret f g e).1)

call_returns : (p : Program) (here : Here) (by : InvokeKind) (c : CallMeaning) (f g : Frame) → rule p here (Used (meanings.Call by c)) f ≡ Some g
    → (rest : List VType) × (g.stack ≡ (option_to_list c.ret ++ rest))
unfolding rule exchange
call_returns p here how.Init c f g e =
    returned_on here.max_stack c.ret (option_and_then (λ f. init_on here c.owner f f.stack) (taken (tree p) (arguments c) f)) g e
call_returns p here how.Virtual c f g e = returned_on here.max_stack c.ret (taken (tree p) (of_call here.class how.Virtual c).takes f) g e
call_returns p here how.Special c f g e = returned_on here.max_stack c.ret (taken (tree p) (of_call here.class how.Special c).takes f) g e
call_returns p here how.Static c f g e = returned_on here.max_stack c.ret (taken (tree p) (of_call here.class how.Static c).takes f) g e
call_returns p here how.Interface c f g e = returned_on here.max_stack c.ret (taken (tree p) (of_call here.class how.Interface c).takes f) g e

pub drop_returned : (ret : Option VType) (rest : List VType) → drop (length (option_to_list ret)) (option_to_list ret ++ rest) ≡ rest
drop_returned None rest = refl
drop_returned (Some t) rest = refl

module _ {K E : Type 0} (p : Program) (s : Store K) (ret : Option VType) (f : FrameOf K E) (x : Awaits p s ret f) where
  abbrev Calling : TypedMethod
  Calling = method p f.method x.coded

  stack_is : x.at.behind.stack ≡ (option_to_list ret ++ drop (length (option_to_list ret)) x.at.behind.stack)
  stack_is =
      let on = call_returns p (here_of p Calling x.at.op.at) x.at.by x.at.call x.at.shape x.at.behind x.at.gives in
      let is : x.at.behind.stack ≡ (option_to_list ret ++ on.0) = on.1 ∙ ap (λ ret. option_to_list ret ++ on.0) x.returns in
      let left : drop (length (option_to_list ret)) x.at.behind.stack ≡ on.0 = ap (drop (length (option_to_list ret))) is ∙ drop_returned ret on.0 in
      is ∙ ap (λ rest. option_to_list ret ++ rest) (sym left)

  -- behind its call stands another instruction
  call_continues : Continues p Calling (written p Calling) x.is_typed.frames f.place x.at.behind
  call_continues =
      let i = Used (meanings.Call x.at.by x.at.call) in
      let serves = x.is_typed.are_frames.serves f.place x.at.op x.at.shape x.at.stands x.at.there in
      let ruled = gives_rule p Calling (written p Calling) x.is_typed.frames f.place x.at.op x.at.shape i serves x.at.means in
      let same : serves.behind ≡ x.at.behind = some_is serves.behind x.at.behind (sym ruled ∙ x.at.gives) in
      subst (λ g. Continues p Calling (written p Calling) x.is_typed.frames f.place g) same
      (number_onward p Calling (written p Calling) x.is_typed.frames f.place x.at.op x.at.shape i serves x.at.means refl)

  -- with what is returned the frame suits the next instruction
  pub returned_suits : (values : List (Value K)) → StandsInOrder p → AreOf (world p) s (option_to_list ret) values → AllByRecursion HasDimensions (option_to_list ret)
      → SuitsAt p Calling x.is_typed.frames x.news s (suc f.place) (onward f values)
  returned_suits values good are dims =
      let here = inside p Calling in
      let rest = drop (length (option_to_list ret)) x.at.behind.stack in
      let have = have_given (world p) s here x.news ret values rest f.operands (have_all (world p) s here x.news (option_to_list ret) values dims are) x.after.operands in
      let suits : Suits (world p) s here x.news x.at.behind (onward f values) = record {
        locals = x.after.locals;
        operands = subst (λ ts. AllHave (world p) s here x.news ts (values ++ f.operands)) (sym stack_is) have;
      } in
      let next = call_continues in
      arrived_at p good s Calling (written p Calling) x.is_typed.frames (coded_dimensions p f.method x.coded) x.news x.at.behind (suc f.place) (onward f values) suits
      next.frame (pos next.next.at) (declared_at (written p Calling) (pos next.next.at)) next.there refl next.arrives

-- ---- returns

resumed_suits : {K E : Type 0} (p : Program) (s : Store K) (entry_of : ℕ → E) (f : FrameOf K E) (ret : Option VType) (values : List (Value K)) → StandsInOrder p → (x : Awaits p s ret f)
    → AreOf (world p) s (option_to_list ret) values → AllByRecursion HasDimensions (option_to_list ret) → Stands p s (resumed entry_of p f (f.place + 1) (values ++ f.operands))
resumed_suits p s entry_of f ret values good x are dims =
    let at = returned_suits p s ret f x values good are dims in
    record {
      coded = x.coded;
      is_typed = x.is_typed;
      news = x.news;
      suits = record {
        shape = at.shape;
        there = ap (slice_get x.is_typed.frames) (suc_is f.place) ∙ at.there;
        suits = record { locals = at.suits.locals; operands = at.suits.operands };
      };
    }
  where
    suc_is : (n : ℕ) → n + 1 ≡ suc n
    suc_is n = omega arith

pub frames_resume : (K E : Type 0) → FramesResume K E
frames_resume K E p s entry_of m f values good x are =
    resumed_suits p s entry_of f (returns_at p m) values good x are (ret_dimensions p (typed p (desc_of p (Method m))) (typed_named p (desc_of p (Method m))))

-- ---- handlers

find_in : (t : Handler → Bool) (hs : List Handler) (h : Handler) → find t hs ≡ Some h → IsIn h hs × (t h ≡ true)
find_in t [] h e = absurd (cc)
find_in t (x ∷ hs) h e = go (t x) refl (find_in t hs h) e
  where
    go : (b : Bool) → t x ≡ b → (find t hs ≡ Some h → IsIn h hs × (t h ≡ true)) → (if b then Some x else find t hs) ≡ Some h → IsIn h (x ∷ hs) × (t h ≡ true)
    go true is more e = let same = some_is x h e in ((0, e), ap t (sym same) ∙ is)
    go false is more e = let found = more e in ((suc found.0.0, found.0.1), found.1)

-- where an exception is handled: a handler that covers the place and catches its class, and the number of its instruction
record IsHandled (p : Program) (pool : List Entry) (thrown : VType) (body : CodeBody) (i to : ℕ) : Type 0 where
  one : Placed
  op : slice_get body.ops i ≡ Some one
  handler : Handler
  inside_of : IsIn handler body.handlers
  covered : covers one.at handler ≡ true
  catching : catches p pool thrown handler ≡ true
  goal : Placed
  stands : slice_get body.ops to ≡ Some goal
  there : goal.at ≡ handler.at

same_at : (o n : ℕ) → o == n ≡ true → o ≡ n
same_at o n e = grind arith

from_position : (ops : List Placed) (at to : ℕ) → number_at ops at ≡ Some to → (o : Placed) × (slice_get ops to ≡ Some o) × (o.at ≡ at)
from_position [] at to e = absurd (cc)
from_position (d ∷ ops) at to e =
    let found = position-Some (λ (one : Placed). one.at == at) (d ∷ ops) to d e in
    (get_or (d ∷ ops) to d, slice_get-get_or (d ∷ ops) to d found.0, same_at (get_or (d ∷ ops) to d).at at found.1)

handled_at : (p : Program) (m : MethodId) (x : Coded p m) (thrown : VType) (i to : ℕ) → handler_at p thrown m i ≡ Some to → IsHandled p x.part.class.pool thrown x.body i to
unfolding handler_at
handled_at p m x thrown i to e =
    let part : part_of p m.class ≡ Some x.part.class = ap (option_map (λ (part : CodePart). part.class)) x.stands in
    let body : body_in x.part.class m.method ≡ Some x.body = ap (option_and_then code_of) x.declared ∙ x.code in
    let here : handler_in p thrown i x.part.class x.body ≡ Some to =
    sym (ap (λ o. option_and_then (λ (c : ClassParts). option_and_then (handler_in p thrown i c) (body_in c m.method)) o) part ∙ ap (option_and_then (handler_in p thrown i x.part.class)) body) ∙ e in
    let one = then_is (handler_from p x.part.class.pool thrown x.body) (slice_get x.body.ops i) to here in
    let h = then_is (λ (h : Handler). number_at x.body.ops h.at) (find (takes p x.part.class.pool thrown one.0.at) x.body.handlers) to one.2 in
    let found = find_in (takes p x.part.class.pool thrown one.0.at) x.body.handlers h.0 h.1 in
    let test = both (covers one.0.at h.0) (catches p x.part.class.pool thrown h.0) found.1 in
    let goal = from_position x.body.ops h.0.at to h.2 in
    record {
      one = one.0;
      op = one.1;
      handler = h.0;
      inside_of = found.0;
      covered = test.0;
      catching = test.1;
      goal = goal.0;
      stands = goal.1;
      there = goal.2;
    }

-- what is caught is of the handler's type
module _ {K : Type 0} (p : Program) (good : StandsInOrder p) (s : Store K) (n : ℕ) (thrown : VType) (is : known (world p) s (Ref n) ≡ Some thrown) where
  caught_is : (m : MethodId) (x : Coded p m) (h : Handler) (c : VType) → IsA (world p) s throwable (Ref n) → catches p x.part.class.pool thrown h ≡ true
      → caught_type p (method p m x) h ≡ Some c → IsA (world p) s c (Ref n) × HasDimensions c
  caught_is m x h c whole catching type = go (h.class == 0) catching type
    where
      of_class : (o : Option VType) → class_at p x.part.class.pool h.class ≡ o → is_caught p thrown o ≡ true → o ≡ Some c → IsA (world p) s c (Ref n) × HasDimensions c
      of_class None at e k = absurd (cc)
      of_class (Some d) at e k =
          let same = some_is d c k in (
            record { type = thrown; is = is; met = ap (λ c. runs_fits (world p) thrown c) (sym same) ∙ instance_is (world p) (faces_of p good) thrown d e },
            subst HasDimensions same (class_at_named p x.part.class.pool h.class d at).1,
          )

      go : (b : Bool) → b || is_caught p thrown (class_at p x.part.class.pool h.class) ≡ true → (if b then Some throwable else class_at p x.part.class.pool h.class) ≡ Some c
          → IsA (world p) s c (Ref n) × HasDimensions c
      go true e k = let same = some_is throwable c k in (subst (λ c. IsA (world p) s c (Ref n)) same whole, subst HasDimensions same tt)
      go false e k = of_class (class_at p x.part.class.pool h.class) refl e k

-- the frame of a handler suits, with what is caught alone on its stack
module _ {K E : Type 0} (p : Program) (good : StandsInOrder p) (s : Store K) (entry_of : ℕ → E) (n : ℕ) (thrown : VType) (is : known (world p) s (Ref n) ≡ Some thrown)
    (whole : IsA (world p) s throwable (Ref n)) where
  caught_there : (t : Tree) (f : Frame) (d : Option Frame) (o : Option VType) → caught_fits t f d o ≡ true → (c : VType) × (o ≡ Some c) × (leads_in t (with_stack f (c ∷ [])) d ≡ true)
  caught_there t f d None e = absurd (cc)
  caught_there t f d (Some c) e = (c, refl, (both (fits t c throwable) (leads_in t (with_stack f (c ∷ [])) d) e).1)

  pub handler_stands : (f : FrameOf K E) (x : Guarded p s f) (to : ℕ) → handler_at p thrown f.method f.place ≡ Some to → Stands p s (resumed entry_of p f to (Ref n ∷ []))
  handler_stands f x to e =
      let m = method p f.method x.coded in
      let here = inside p m in
      let h = handled_at p f.method x.coded thrown f.place to e in
      let serves = x.is_typed.are_frames.serves f.place h.one x.shape h.op x.there in
      let fit = serves.handlers h.handler h.inside_of h.covered in
      let c = caught_there (tree p) x.shape (declared_at (written p m) (pos h.handler.at)) (caught_type p m h.handler) fit in
      let of = caught_is p good s n thrown is f.method x.coded h.handler c.0 whole h.catching c.1 in
      let g = also_at m.body.ops x.is_typed.frames to h.goal x.is_typed.are_frames.each h.stands in
      let declared = declared_by p m (written p m) x.is_typed.frames x.is_typed.are_frames to h.goal (with_stack x.shape (c.0 ∷ [])) g.0 (pos h.handler.at)
      (declared_at (written p m) (pos h.handler.at)) h.stands g.1 (ap (λ k. pos k) h.there) refl c.2 in
      let next = standing f to (Ref n ∷ []) in
      let suits : Suits (world p) s here x.news (with_stack x.shape (c.0 ∷ [])) next = record {
        locals = x.locals;
        operands = (has_of (world p) s here x.news c.0 (Ref n) of.0 of.1, tt);
      } in
      let at = fitted_at p good s m (written p m) x.is_typed.frames (coded_dimensions p f.method x.coded) x.news (with_stack x.shape (c.0 ∷ [])) to next suits
      declared.frame declared.there (coded_dimensions p f.method x.coded declared.at declared.frame declared.declared) declared.arrives in
      record {
        coded = x.coded;
        is_typed = x.is_typed;
        news = x.news;
        suits = record { shape = at.shape; there = at.there; suits = record { locals = at.suits.locals; operands = at.suits.operands } };
      }

  guarded : (ret : Option VType) (f : FrameOf K E) → Awaits p s ret f → Guarded p s f
  guarded ret f x = record { coded = x.coded; is_typed = x.is_typed; news = x.news; shape = x.at.shape; there = x.at.there; locals = x.before.locals }

  guarded_older : (ret : Option VType) (fs : List (FrameOf K E)) → Older p s ret fs → AreGuarded p s fs
  guarded_older ret [] h = tt
  guarded_older ret (f ∷ fs) h = (guarded ret f h.0, h.1)

  unwinds : (fs rest : List (FrameOf K E)) → AreGuarded p s fs → unwound entry_of p thrown n fs ≡ Some rest → AreStacked p s rest
  unfolding unwound
  unwinds [] rest h e = absurd (cc)
  unwinds (f ∷ fs) rest h e = go (handler_at p thrown f.method f.place) refl (unwinds fs rest (guarded_older (returns_at p f.method) fs h.1)) e
    where
      go : (o : Option ℕ) → handler_at p thrown f.method f.place ≡ o → (unwound entry_of p thrown n fs ≡ Some rest → AreStacked p s rest)
          → caught entry_of p n f fs o (unwound entry_of p thrown n fs) ≡ Some rest → AreStacked p s rest
      go None at more e = more e
      go (Some to) at more e =
          let same = some_is (resumed entry_of p f to (Ref n ∷ []) ∷ fs) rest e in
          subst (AreStacked p s) same (handler_stands f h.0 to at, h.1)

pub frames_unwind : (K E : Type 0) → FramesUnwind K E
frames_unwind K E p s entry_of n x fs rest good h at whole e =
    unwinds p good s entry_of n (class_of (world p).named x) (known_class (world p) s n x whole.type at whole.is) whole fs rest h e
