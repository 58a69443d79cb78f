-- An instruction of a frame that stands is done, and what it does leaves frames that stand.
use Rattle.std.proofs.Common.{◌≡◌, ◌<◌, ℕ, zero, suc, ◌+◌, arith, Bool, true, false, not, ◌||◌, ◌&&◌, List, [], ◌∷◌, length, Some, None, option_map, refl, sym, ap, subst, ◌∙◌}
use Rattle.std.specs.Prelude.{nat_lt, option_and_then, slice_get, if◌then◌else◌}
use Rattle.std.specs.Str.{bytes_eq}
use Rattle.std.proofs.lemmas.Bool.{lt-ltb}
use Rattle.jclass.specs.declared.class.ClassParts.{ClassParts}
use Rattle.jparts.specs.declared.jcode.op.Placed.{Placed}
use Rattle.jtypes.specs.TypeFrames.{Frame}
use Rattle.jresolution.specs.declared.jprogram.member.Member.TheVariants.{Method as AMethod}
use Rattle.jresolution.specs.declared.jprogram.member.MethodId.{MethodId}
use Rattle.jresolution.specs.declared.jprogram.part.CodePart.{CodePart}
use Rattle.jresolution.specs.jprogram.ProgramClasses.{Program}
use Rattle.jresolution.specs.jprogram.MemberResolution.{init, is_init as is_constructor, is_static}
use Rattle.jresolution.specs.jprogram.ClassFileParts.{code_of, member_name, this_name}
use Rattle.jresolution.specs.juses.IndexedInstructions.{Instruction, body_in, code_at, goes_on, instruction, instruction_at, instruction_in}
use Rattle.jresolution.specs.juses.DescriptorTypes.{name}
use Rattle.jtyping.specs.jrule.TypingRule.{is_own}
use Rattle.jtyping.specs.jwelltyped.DeclaredFrames.{written}
use Rattle.jtyping.specs.jwelltyped.MethodPremises.{here_of}
use Rattle.jtyping.specs.jwelltyped.WellTypedness.{IsTyped, Serves}
use Rattle.jtyping.proofs.JwelltypedProofs.TypedFrames.{also_at}
use Rattle.jtyping.proofs.JwelltypedProofs.Successors.{number_onward}
use Rattle.jsemantics.specs.jmachine.MachineStates.{FrameOf}
use Rattle.jsemantics.specs.jmachine.InstructionSites.{Site}
use Rattle.jsemantics.specs.jmachine.MachineSteps.{fetched, has_next, is_init, own_fields, unless_last}
use Rattle.jsemantics.specs.jmachine.Store.{Store}
use Rattle.jsemantics.specs.jmachine.World.{world}
use Rattle.jsoundness_laws.specs.typed.TypedCalls.{Coded, method}
use Rattle.jsoundness_laws.specs.typed.ControlFlow.{SuitsAt, inside}
use Rattle.jsoundness_laws.specs.typed.TypedFrames.{AllHold, News}
use Rattle.jsoundness_laws.specs.typed.ProgressLaws.{IsAt}
use Rattle.jsoundness_laws.specs.typed.FrameStacks.{Guarded, Stands}
use Rattle.jsoundness_laws.proofs.TypedProofs.SelectedMethods.{name_is, static_is, user_name}
use Rattle.jsoundness_laws.specs.progress.SoundPrograms.{IsSaid}
use Rattle.jsoundness_laws.proofs.ProgressProofs.ProgramPremises.{IsFounded}
use Rattle.jsoundness_laws.proofs.ProgressProofs.PushedFrames.{there_is}

lt_at : {A : Type 0} (xs : List A) (n : ℕ) (x : A) → slice_get xs n ≡ Some x → n < length xs
lt_at [] n x at = absurd (cc)
lt_at (y ∷ xs) zero x at = omega arith
lt_at (y ∷ xs) (suc n) x at = let more = lt_at xs n x at in omega (arith, more)

lt_length : {A : Type 0} (xs : List A) (n : ℕ) (x : A) → slice_get xs n ≡ Some x → nat_lt n (length xs) ≡ true
lt_length xs n x at = lt-ltb n (length xs) (lt_at xs n x at)

suc_is : (n : ℕ) → n + 1 ≡ suc n
suc_is n = omega arith

-- ---- what is fetched

module _ (p : Program) (sound : IsFounded p) (m : MethodId) (x : Coded p m) (typed : IsTyped p (method p m x)) (n : ℕ) (shape : Frame) (there : slice_get typed.frames n ≡ Some shape) where
  -- the instruction of a number that has a frame
  pub record IsFetched : Type 0 where
    pub op : Placed
    pub at : slice_get x.body.ops n ≡ Some op
    pub it : Instruction
    pub means : instruction p x.part.class.pool x.body.ops op ≡ Some it
    pub said : IsSaid p (here_of p (method p m x) op.at) it
    pub is : fetched p m n ≡ Some it

  pub serves_at : (o : Placed) → slice_get x.body.ops n ≡ Some o → Serves p (method p m x) (written p (method p m x)) typed.frames n o shape
  serves_at o at = typed.are_frames.serves n o shape at there

  code_found : code_at p m ≡ Some x.body
  code_found = ap (λ o. option_and_then (λ (c : ClassParts). body_in c m.method) (option_map (λ (part : CodePart). part.class) o)) x.stands ∙ ap (option_and_then code_of) x.declared ∙ x.code

  found_at : (o : Placed) → slice_get x.body.ops n ≡ Some o → (i : Instruction) → instruction p x.part.class.pool x.body.ops o ≡ Some i → instruction_at p m n ≡ Some i
  unfolding instruction_at
  found_at o at i e =
      ap (λ q. option_and_then (λ (c : ClassParts). option_and_then (instruction_in p c n) (body_in c m.method)) (option_map (λ (part : CodePart). part.class) q)) x.stands
      ∙ ap (option_and_then (instruction_in p x.part.class n)) (ap (option_and_then code_of) x.declared ∙ x.code)
      ∙ ap (option_and_then (instruction p x.part.class.pool x.body.ops)) at ∙ e

  followed : (o : Placed) → slice_get x.body.ops n ≡ Some o → (i : Instruction) → instruction p x.part.class.pool x.body.ops o ≡ Some i → (b : Bool) → goes_on i ≡ b
      → not b || has_next (code_at p m) n ≡ true
  followed o at i e false g = refl
  followed o at i e true g =
      let c = number_onward p (method p m x) (written p (method p m x)) typed.frames n o shape i (serves_at o at) e g in
      ap (λ q. has_next q n) code_found ∙ ap (λ k. nat_lt k (length x.body.ops)) (suc_is n) ∙ lt_length x.body.ops (suc n) c.next c.stands

  pub fetched_is : IsFetched
  unfolding fetched
  fetched_is =
      let o = also_at typed.frames x.body.ops n shape (sym typed.are_frames.each) there in
      let i = there_is (instruction p x.part.class.pool x.body.ops o.0) (sound.means m x n o.0 o.1) in
      record {
        op = o.0;
        at = o.1;
        it = i.0;
        means = i.1;
        said = sound.says m x n o.0 i.0 o.1 i.1;
        is = ap (option_and_then (unless_last p m n)) (found_at o.0 o.1 i.0 i.1) ∙ ap (λ b. if b then Some i.0 else None) (followed o.0 o.1 i.0 i.1 (goes_on i.0) refl);
      }

-- ---- where it stands

module _ (p : Program) (m : MethodId) (x : Coded p m) where
  begins_same : is_init p m ≡ is_constructor x.part.class x.info
  begins_same =
      ap (λ (n : List ℕ). bytes_eq n init && not (is_static p (AMethod m))) (name_is p m x.part x.info x.stands x.declared)
      ∙ ap (λ b. bytes_eq (member_name x.part.class x.info) init && not b) (static_is p m x.part x.info x.stands x.declared)

  named_same : (world p).named m.class ≡ name (this_name x.part.class)
  unfolding world
  named_same = ap name (user_name p m.class x.part x.stands)

  own_same : own_fields p m ≡ is_own p (is_constructor x.part.class x.info) (name (this_name x.part.class))
  own_same = ap (λ b. is_own p b ((world p).named m.class)) begins_same ∙ ap (is_own p (is_constructor x.part.class x.info)) named_same

  pub is_at : (at : Site) (k : ℕ) → at.world ≡ world p → at.class ≡ m.class → IsAt p at (own_fields p m) (here_of p (method p m x) k)
  is_at at k in_world class = record {
    program = in_world;
    class = ap (λ w. w.named at.class) in_world ∙ ap (λ i. (world p).named i) class ∙ named_same;
    own_fields = own_same;
  }

-- ---- frames that stand

-- where a frame suits its instruction's, it stands
pub stands_by : {K E : Type 0} (p : Program) (m : MethodId) (x : Coded p m) (typed : IsTyped p (method p m x)) (news : News) (t : Store K) (k : ℕ) (g : FrameOf K E)
    → SuitsAt p (method p m x) typed.frames news t k g → m ≡ g.method → k ≡ g.place → Stands p t g
stands_by {K} {E} p m x typed news t k g suits same place = go m same x typed suits
  where
    here : (x : Coded p g.method) (typed : IsTyped p (method p g.method x)) → SuitsAt p (method p g.method x) typed.frames news t k g → Stands p t g
    here x typed suits = record { coded = x; is_typed = typed; news = news; suits = subst (λ k. SuitsAt p (method p g.method x) typed.frames news t k g) place suits }

    go : (m : MethodId) → m ≡ g.method → (x : Coded p m) (typed : IsTyped p (method p m x)) → SuitsAt p (method p m x) typed.frames news t k g → Stands p t g
    go m same = subst (λ m. (x : Coded p m) (typed : IsTyped p (method p m x)) → SuitsAt p (method p m x) typed.frames news t k g → Stands p t g) (sym same) here

-- and where its locals are those of a frame that stands, it is guarded
pub guarded_by : {K E : Type 0} (p : Program) (s : Store K) (f g : FrameOf K E) → Stands p s f → f.method ≡ g.method → f.place ≡ g.place → f.locals ≡ g.locals → Guarded p s g
guarded_by {K} {E} p s f g x same place locals = go f.method same x.coded x.is_typed x.suits.there x.suits.suits.locals
  where
    Guards : MethodId → Type 0
    Guards m = (c : Coded p m) (typed : IsTyped p (method p m c)) → slice_get typed.frames f.place ≡ Some x.suits.shape
        → AllHold (world p) s (inside p (method p m c)) x.news x.suits.shape.locals f.locals → Guarded p s g

    here : Guards g.method
    here c typed there held = record {
      coded = c;
      is_typed = typed;
      news = x.news;
      shape = x.suits.shape;
      there = subst (λ k. slice_get typed.frames k ≡ Some x.suits.shape) place there;
      locals = subst (λ ls. AllHold (world p) s (inside p (method p g.method c)) x.news x.suits.shape.locals ls) locals held;
    }

    go : (m : MethodId) → m ≡ g.method → Guards m
    go m same = subst (λ m. Guards m) (sym same) here
