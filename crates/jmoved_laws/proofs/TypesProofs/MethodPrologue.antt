-- What a moved method begins with: its caller's context and its domain are entered, and the context that this gives is kept in a local.
use Rattle.std.proofs.Common.{◌≡◌, ℕ, zero, suc, ◌+◌, ◌-◌, ◌≤◌, ◌<◌, Bool, true, false, cond, List, [], ◌∷◌, ◌++◌, length, map, replicate, Option, Some, None, refl, sym, ap, subst, ◌∙◌, arith}
use Rattle.std.specs.Prelude.{◌&&◌, ◌||◌, pos, slice_get, slice_set}
use Rattle.std.specs.List.{list_all, list_any}
use Rattle.std.proofs.lemmas.Bool.{le-leb, ne_eqb}
use Rattle.std.proofs.lemmas.List.{length-append, map-append}
use Rattle.std.proofs.lemmas.List.Concat.{flat_map-append, flat_map-cons}
use Rattle.jparts.specs.declared.jcode.names.Access.TheVariants.{Load, Store}
use Rattle.jparts.specs.declared.jcode.op.Handler.{Handler}
use Rattle.jparts.specs.declared.jcode.op.Placed.{Placed}
use Rattle.jparts.specs.jcode.InstructionForms.{form}
use Rattle.jparts.specs.jcode.Instructions.{code, covers, size}
use Rattle.jlib.specs.declared.calls.RtCall.TheVariants as rt
use Rattle.jtypes.specs.declared.vtype.VType.{VType}
use Rattle.jtypes.specs.declared.vtype.VType.TheVariants.{Top, Int, Ctx}
use Rattle.jtypes.specs.TypeFrames.{Frame, all_fit, implies, is_long, places, places_of, slots}
use Rattle.jtypes.specs.ClassTrees.{Tree}
use Rattle.jmove.specs.AssemblyLines.{led, reach}
use Rattle.jmove.specs.MethodExpansion.{call_static, move_ref, moved_handler, push_int}
use Rattle.jmove.proofs.CodeLayout.{code_laid}
use Rattle.jmove.proofs.Sizes.{size_some}
use Rattle.jrewriting.proofs.JmoveLawsProofs.CodePlaces.{first}
use Rattle.jresolution.specs.jprogram.ProgramClasses.{tree}
use Rattle.jresolution.specs.declared.juses.meaning.InvokeKind.TheVariants as how
use Rattle.jresolution.specs.juses.IndexedInstructions.{Used, instruction}
use Rattle.jresolution.specs.juses.InstructionMeanings as meanings
use Rattle.jtyping.specs.jrule.StackEffects.{is_uninit_this}
use Rattle.jtyping.specs.jrule.InstructionContext.{Here}
use Rattle.jtyping.specs.jrule.LocalRule.{broken, passes, with_local}
use Rattle.jtyping.specs.jrule.StackOperands as operands
use Rattle.jtyping.specs.jrule.StackOperands.{taken, with_stack}
use Rattle.jtyping.specs.jrule.PreciseFrames.{begins_with_top}
use Rattle.jtyping.specs.jrule.TypingRule.{rule}
use Rattle.jtyping.proofs.JruleProofs.Conjunctions.{implies_itself, implies_true}
use Rattle.jtyping.proofs.JruleProofs.FormRules.{form_agrees}
use Rattle.jtyping.proofs.JruleProofs.RuleMonotonicity.{precise_is, sharp_frame}
use Rattle.jtyping.proofs.JruleProofs.PreciseTypes.{InOrder, sharp_itself}
use Rattle.jtyping.proofs.JruleProofs.FramePrecision.{LocalsSharp}
use Rattle.jtyping.proofs.JruleProofs.SharpLocals.{locals_of}
use Rattle.jsimulation_laws.specs.relation.InstructionExpansion.{keep, load, push, rt_meaning}
use Rattle.jtyping.specs.jwelltyped.DeclaredFrames.{declared_at, filled, first_frame}
use Rattle.jtyping.specs.jwelltyped.WellTypedness.{AreFrames, Follows}
use Rattle.jtyping.specs.jwelltyped.VerifierTests.{begun, handler_fits, handlers_fit, onward}
use Rattle.jtyping.specs.jwelltyped.ProofNames.{handler_test}
use Rattle.jtyping.proofs.JwelltypedProofs.TypedFrames.{also_at}
use Rattle.jtyping.proofs.JwelltypedProofs.FrameIndices.{frames_begin, frames_serve}
use Rattle.jtyping.proofs.JwelltypedProofs.Tests.{where_holds}
use Rattle.jmoved_laws.proofs.CodeProofs.ExpansionMeanings.{keep_means, load_means, push_means}
use Rattle.jmoved_laws.specs.types.RenamedPlaces.{renamed_type}
use Rattle.jmoved_laws.proofs.TypesProofs.PlaceInjectivity.{above, uncovered}
use Rattle.jmoved_laws.proofs.TypesProofs.CarriedFrames.{declared_nowhere}
use Rattle.jmoved_laws.proofs.TypesProofs.ExpansionEffect.{plain_goes}
use Rattle.jmoved_laws.proofs.TypesProofs.SuccessorFrames.{all_mapped}
use Rattle.jmoved_laws.proofs.TypesProofs.NewSubstitution.{long_same}
use Rattle.jmoved_laws.proofs.TypesProofs.ExpansionPass.{AreIn, first_in, laid_first, walks}
use Rattle.jmoved_laws.proofs.TypesProofs.InstructionPreservation.{Finer, IsMoving, Moving, begin, carry, context_taken, load_rule, more, new, news, number_taken, ops, order, push_rule, pushed_is, static_is, to, ws, y}
use Rattle.jmoved_laws.proofs.TypesProofs.PassPreservation.{Roomy, Walks, here, lead_on, now, onward_next, rest_of, walk_on}

-- ---- lists

pub joined : (xs ys zs : List VType) → (xs ++ ys) ++ zs ≡ xs ++ (ys ++ zs)
joined [] ys zs = refl
joined (x ∷ xs) ys zs = ap (λ (us : List VType). x ∷ us) (joined xs ys zs)

set_behind : (xs ys : List VType) (j l : ℕ) (a : VType) → l ≡ length xs + j → slice_set (xs ++ ys) l a ≡ xs ++ slice_set ys j a
set_behind [] ys j l a e = let same : l ≡ j = omega (arith, e) in ap (λ (n : ℕ). slice_set ys n a) same
set_behind (x ∷ xs) ys j zero a e = absurd (omega (arith, e))
set_behind (x ∷ xs) ys j (suc l) a e = ap (λ (zs : List VType). x ∷ zs) (set_behind xs ys j l a (omega (arith, e)))

get_behind : (xs ys : List VType) (j l : ℕ) → l ≡ length xs + j → slice_get (xs ++ ys) l ≡ slice_get ys j
get_behind [] ys j l e = let same : l ≡ j = omega (arith, e) in ap (slice_get ys) same
get_behind (x ∷ xs) ys j zero e = absurd (omega (arith, e))
get_behind (x ∷ xs) ys j (suc l) e = get_behind xs ys j l (omega (arith, e))

tops_set : (r : ℕ) (a : VType) → slice_set (replicate (suc r) Top) r a ≡ replicate r Top ++ a ∷ []
tops_set zero a = refl
tops_set (suc r) a = ap (λ (zs : List VType). Top ∷ zs) (tops_set r a)

tops_get : (r j : ℕ) → j < r → slice_get (replicate r Top) j ≡ Some Top
tops_get zero j lt = absurd (omega arith)
tops_get (suc r) zero lt = refl
tops_get (suc r) (suc j) lt = tops_get r j (omega arith)

pub tops_length : (r : ℕ) → length (replicate r Top) ≡ r
tops_length zero = refl
tops_length (suc r) = ap suc (tops_length r)

pub tops_join : (a b : ℕ) (xs : List VType) → replicate a Top ++ (replicate b Top ++ xs) ≡ replicate (a + b) Top ++ xs
tops_join zero b xs = let same : 0 + b ≡ b = omega arith in ap (λ (n : ℕ). replicate n Top ++ xs) (sym same)
tops_join (suc a) b xs =
    let same : suc a + b ≡ suc (a + b) = omega arith in
    ap (λ (zs : List VType). Top ∷ zs) (tops_join a b xs) ∙ ap (λ (n : ℕ). replicate n Top ++ xs) (sym same)

-- ---- locals that a context is put into

-- Behind values stand the caller's context and nothing else; the context goes into the last local.
abbrev handed_locals : List VType → ℕ → List VType
handed_locals xs r = xs ++ Ctx ∷ replicate (suc r) Top

no_long : (xs : List VType) (r j : ℕ) → j ≡ length xs + r → passes is_long (slice_get (handed_locals xs r) j) ≡ false
no_long xs zero j e = ap (passes is_long) (get_behind xs (Ctx ∷ replicate 1 Top) 0 j e)
no_long xs (suc r) j e = ap (passes is_long) (get_behind xs (Ctx ∷ replicate (suc (suc r)) Top) (suc r) j e ∙ tops_get (suc (suc r)) r (omega arith))

unbroken : (xs : List VType) (r l : ℕ) → l ≡ length xs + suc r → broken (handed_locals xs r) l ≡ handed_locals xs r
unbroken xs r zero e = refl
unbroken xs r (suc l) e = ap (λ (b : Bool). cond b (slice_set (handed_locals xs r) l Top) (handed_locals xs r)) (no_long xs r l (omega (arith, e)))

kept_locals : (xs : List VType) (r l : ℕ) → l ≡ length xs + suc r → with_local (handed_locals xs r) l Ctx ≡ xs ++ Ctx ∷ (replicate r Top ++ Ctx ∷ [])
unfolding with_local
kept_locals xs r l e =
    ap (λ (zs : List VType). slice_set zs l Ctx) (unbroken xs r l e) ∙ set_behind xs (Ctx ∷ replicate (suc r) Top) (suc r) l Ctx e
    ∙ ap (λ (zs : List VType). xs ++ Ctx ∷ zs) (tops_set r Ctx)

-- ---- values in their places

module _ (t : Tree) (o : InOrder t) where
  locals_itself : (xs : List VType) → LocalsSharp t xs xs
  locals_itself xs = (sharp_frame t o (record { locals = xs; stack = []; flag = false })).locals

  one_behind : (a : VType) (xs ys : List VType) → LocalsSharp t xs ys → LocalsSharp t (places a ++ xs) (places a ++ ys)
  one_behind a xs ys h = go (is_long a) refl
    where
      go : (b : Bool) → is_long a ≡ b → LocalsSharp t ((cond b (a ∷ Top ∷ []) (a ∷ [])) ++ xs) ((cond b (a ∷ Top ∷ []) (a ∷ [])) ++ ys)
      go true e = locals_of t a a (Top ∷ xs) (Top ∷ ys) (sharp_itself t o a) (implies_true (is_long a && true) true refl) (locals_of t Top Top xs ys refl refl h)
      go false e = locals_of t a a xs ys (sharp_itself t o a) (ap (λ (b : Bool). implies (b && begins_with_top ys) (begins_with_top xs)) e) h

  values_behind : (vs xs ys : List VType) → LocalsSharp t xs ys → LocalsSharp t (places_of vs ++ xs) (places_of vs ++ ys)
  values_behind [] xs ys h = h
  values_behind (v ∷ vs) xs ys h =
      let one = one_behind v (places_of vs ++ xs) (places_of vs ++ ys) (values_behind vs xs ys h) in
      let left : places_of (v ∷ vs) ++ xs ≡ places v ++ (places_of vs ++ xs) = ap (λ (zs : List VType). zs ++ xs) (flat_map-cons places v vs)
      ∙ joined (places v) (places_of vs) xs in
      let right : places_of (v ∷ vs) ++ ys ≡ places v ++ (places_of vs ++ ys) = ap (λ (zs : List VType). zs ++ ys) (flat_map-cons places v vs)
      ∙ joined (places v) (places_of vs) ys in
      subst (λ (zs : List VType). LocalsSharp t zs (places_of (v ∷ vs) ++ ys)) (sym left)
      (subst (λ (zs : List VType). LocalsSharp t (places v ++ (places_of vs ++ xs)) zs) (sym right) one)

-- where `new`s go elsewhere values stay in their places
pub places_same : (to : ℕ → ℕ) (vs : List VType) → map (renamed_type to) (places_of vs) ≡ places_of (map (renamed_type to) vs)
places_same to [] = refl
places_same to (v ∷ vs) =
    ap (map (renamed_type to)) (flat_map-cons places v vs) ∙ map-append (renamed_type to) (places v) (places_of vs)
    ∙ ap (λ (zs : List VType). zs ++ map (renamed_type to) (places_of vs)) one ∙ ap (λ (zs : List VType). places (renamed_type to v) ++ zs) (places_same to vs)
    ∙ sym (flat_map-cons places (renamed_type to v) (map (renamed_type to) vs))
  where
    go : (b : Bool) → map (renamed_type to) (cond b (v ∷ Top ∷ []) (v ∷ [])) ≡ cond b (renamed_type to v ∷ Top ∷ []) (renamed_type to v ∷ [])
    go true = refl
    go false = refl

    one : map (renamed_type to) (places v) ≡ places (renamed_type to v)
    one = go (is_long v) ∙ ap (λ (b : Bool). cond b (renamed_type to v ∷ Top ∷ []) (renamed_type to v ∷ [])) (sym (long_same to v))

any_behind : (vs : List VType) → list_any is_uninit_this (vs ++ Ctx ∷ []) ≡ list_any is_uninit_this vs
any_behind [] = refl
any_behind (v ∷ vs) = ap (λ (b : Bool). is_uninit_this v || b) (any_behind vs)

-- ---- what it begins with

module _ (m : Moving) (k : IsMoving m) (room : length (places_of m.x.params) ≤ m.x.body.max_locals) where
  abbrev xs : List VType
  xs = places_of m.x.params

  -- how many locals stand between the caller's context and its own
  abbrev between : ℕ
  between = m.s.local - (m.slots + 1)

  abbrev pub entry : Frame
  entry = first_frame (y m)

  local_is : m.s.local ≡ length xs + suc between
  local_is = let slots = k.slots_is in let less = k.behind_slots in omega arith

  entry_locals : entry.locals ≡ handed_locals xs between
  entry_locals =
      let all : places_of (m.x.params ++ Ctx ∷ []) ≡ xs ++ Ctx ∷ [] = flat_map-append places m.x.params (Ctx ∷ []) in
      let long : length (xs ++ Ctx ∷ []) ≡ length xs + 1 = length-append xs (Ctx ∷ []) in
      let left : m.s.local + 1 - length (xs ++ Ctx ∷ []) ≡ suc between = (let is = local_is in omega arith) in
      ap (filled (m.s.local + 1)) all ∙ ap (λ (n : ℕ). (xs ++ Ctx ∷ []) ++ replicate n Top) left ∙ joined xs (Ctx ∷ []) (replicate (suc between) Top)

  context_handed : slice_get entry.locals m.slots ≡ Some Ctx
  context_handed =
      let at : m.slots ≡ length xs + 0 = (let slots = k.slots_is in omega arith) in
      ap (λ (ls : List VType). slice_get ls m.slots) entry_locals ∙ get_behind xs (Ctx ∷ replicate (suc between) Top) 0 m.slots at

  entry_length : length entry.locals ≡ m.s.local + 1
  entry_length =
      let sum : length (handed_locals xs between) ≡ length xs + length (Ctx ∷ replicate (suc between) Top) = length-append xs (Ctx ∷ replicate (suc between) Top) in
      let tops = tops_length (suc between) in
      let is = local_is in
      ap length entry_locals ∙ omega arith

  -- behind the prologue
  abbrev kept : Frame
  kept = record { locals = with_local entry.locals m.s.local Ctx; stack = []; flag = entry.flag }

  kept_is : kept.locals ≡ xs ++ Ctx ∷ (replicate between Top ++ Ctx ∷ [])
  kept_is = ap (λ (ls : List VType). with_local ls m.s.local Ctx) entry_locals ∙ kept_locals xs between m.s.local local_is

  -- the frame with which the old method begins, as the moved one carries it
  carried_is : (carry m (first_frame m.x)).locals ≡ xs ++ Top ∷ (replicate between Top ++ Ctx ∷ [])
  carried_is =
      let max = m.x.body.max_locals in
      let stay : map (renamed_type (to m)) xs ≡ xs = places_same (to m) m.x.params ∙ ap places_of k.params_stay in
      let tops : map (renamed_type (to m)) (replicate (max - length xs) Top) ≡ replicate (max - length xs) Top = tops_stay (max - length xs) in
      let sum : max - length xs + (m.s.local - max) ≡ suc between = (let is = local_is in let le = k.behind in omega arith) in
      ap (λ (zs : List VType). zs ++ more m) (map-append (renamed_type (to m)) xs (replicate (max - length xs) Top))
      ∙ ap (λ (zs : List VType). (zs ++ map (renamed_type (to m)) (replicate (max - length xs) Top)) ++ more m) stay
      ∙ ap (λ (zs : List VType). (xs ++ zs) ++ more m) tops
      ∙ joined xs (replicate (max - length xs) Top) (more m)
      ∙ ap (λ (zs : List VType). xs ++ zs) (tops_join (max - length xs) (m.s.local - max) (Ctx ∷ []) ∙ ap (λ (n : ℕ). replicate n Top ++ Ctx ∷ []) sum)
    where
      tops_stay : (n : ℕ) → map (renamed_type (to m)) (replicate n Top) ≡ replicate n Top
      tops_stay zero = refl
      tops_stay (suc n) = ap (λ (zs : List VType). Top ∷ zs) (tops_stay n)

  kept_finer : Finer m k kept (carry m (first_frame m.x))
  unfolding all_fit
  kept_finer =
      let t = tree m.p in
      let o = order m k in
      let tail = replicate between Top ++ Ctx ∷ [] in
      let behind : LocalsSharp t (Ctx ∷ tail) (Top ∷ tail) = locals_of t Ctx Top tail tail refl refl (locals_itself t o tail) in
      let whole = values_behind t o m.x.params (Ctx ∷ tail) (Top ∷ tail) behind in
      precise_is t o kept (carry m (first_frame m.x)) (record {
        locals = subst (λ (ls : List VType). LocalsSharp t ls (carry m (first_frame m.x)).locals) (sym kept_is) (subst (LocalsSharp t (xs ++ Ctx ∷ tail)) (sym carried_is) whole);
        stack = refl;
        flag = ap (λ (b : Bool). implies b (list_any is_uninit_this m.x.params)) (any_behind m.x.params) ∙ implies_itself (list_any is_uninit_this m.x.params);
      })

  first_roomy : Roomy m k (first_frame m.x)
  unfolding slots
  first_roomy = record {
    locals =
        (let sum = length-append xs (replicate (m.x.body.max_locals - length xs) Top) in
        let tops = tops_length (m.x.body.max_locals - length xs) in
        omega arith);
    stack = omega arith;
  }

  -- ---- its instructions

  abbrev pub last : ℕ
  last = reach 0 (begin m)

  pub none_before : (at : ℕ) → at < last → declared_at (news m) (pos at) ≡ None
  none_before at lt =
      declared_nowhere (to m) (more m) (ws m) at (λ w is. ne_eqb (to m w.at) at (let le = above (begin m) m.s m.ks (ops m) k.each k.fits w.at in omega arith))

  no_handlers : (at : ℕ) → at < last → (f : Frame) → handlers_fit m.q (y m) (news m) at f ≡ true
  no_handlers at lt f =
      all_mapped (handler_test m.q (y m) (news m) at f) (moved_handler (to m)) m.x.body.handlers
      (λ h is. where_holds (covers at (moved_handler (to m) h)) (handler_fits m.q (y m) (news m) f (moved_handler (to m) h))
      (λ e. absurd (no_cover h at (uncovered (begin m) m.s m.ks (ops m) k.each k.fits h at lt) e)))
    where
      no_cover : (h : Handler) (at : ℕ) → covers at (moved_handler (to m) h) ≡ false → covers at (moved_handler (to m) h) ≡ true → ⊥
      no_cover h at a b = absurd cc

  stored : (h : Here) → rule m.q h (keep m.s.local) (with_stack entry (Ctx ∷ [])) ≡ Some kept
  unfolding rule
  stored h = ap (λ (b : Bool). cond b (Some kept) None) (le-leb (m.s.local + 1) (length entry.locals) (let long = entry_length in omega arith))

  entered : (h : Here) → h.max_stack ≡ m.x.body.max_stack + 3 → rule m.q h (Used (meanings.Call how.Static (rt_meaning rt.Enter))) (with_stack entry (Int ∷ Ctx ∷ [])) ≡ Some
      (with_stack entry (Ctx ∷ []))
  unfolding taken operands.below slots
  entered h is =
      static_is m k h (rt_meaning rt.Enter) (with_stack entry (Int ∷ Ctx ∷ []))
      ∙ number_taken m k h (Ctx ∷ []) (Some Ctx) (with_stack entry (Ctx ∷ []))
      ∙ context_taken m k h [] (Some Ctx) entry
      ∙ pushed_is m k h Ctx entry (omega (arith, is))

  context_room : slots (Ctx ∷ []) ≤ m.x.body.max_stack + 3
  unfolding slots
  context_room = omega arith

  both_room : slots (Int ∷ Ctx ∷ []) ≤ m.x.body.max_stack + 3
  unfolding slots
  both_room = omega arith

  -- where its instructions stand
  abbrev pub second : ℕ
  second = 0 + size 0 (move_ref Load m.slots)

  abbrev pub third : ℕ
  third = second + size second (push_int m.s.domain)

  abbrev pub fourth : ℕ
  fourth = third + size third (call_static m.enter)

  pub below : (0 < last) × ((second < last) × ((third < last) × (fourth < last)))
  below =
      let a = size_some 0 (move_ref Load m.slots) in
      let b = size_some second (push_int m.s.domain) in
      let c = size_some third (call_static m.enter) in
      let d = size_some fourth (move_ref Store m.s.local) in
      (omega arith, (omega arith, (omega arith, omega arith)))

  module _ (fs : List Frame) (are : AreFrames m.p m.x (ws m) fs) where
    begins_all : AreIn m k m.ks (ops m)
    begins_all j e i x z = (j, record { kind = x; old = z })

    to_first : to m 0 ≡ last
    to_first = first (begin m) m.s m.ks (ops m) k.fits

    follows : Follows m.p (ws m) (first_frame m.x) true (slice_get (ops m) 0) (slice_get fs 0)
    follows =
        let i = k.some in
        let f = also_at (ops m) fs 0 i.0 are.each i.1 in
        let arrives = are.begins i.0 f.0 i.1 f.1 in
        subst (λ (o : Option Placed). Follows m.p (ws m) (first_frame m.x) true o (slice_get fs 0)) (sym i.1)
        (subst (λ (o : Option Frame). Follows m.p (ws m) (first_frame m.x) true (Some i.0) o) (sym f.1) arrives)

    behind : Walks m (rest_of m k last m.ks (ops m)) (Some kept)
    behind =
        subst (λ (n : ℕ). Walks m (rest_of m k n m.ks (ops m)) (Some kept)) to_first
        (walks m k m.ks (ops m) fs k.each begins_all 0 (length (code.spell (ops m))) (code_laid (ops m) k.fits) (Some (first_frame m.x)) (Some kept)
        (frames_begin m.p m.x (ws m) fs are) (frames_serve m.p m.x (ws m) fs are) (kept_finer, first_roomy))

    keeps : Walks m (now m 0 fourth (move_ref Store m.s.local) ∷ rest_of m k last m.ks (ops m)) (Some (with_stack entry (Ctx ∷ [])))
    unfolding instruction
    keeps =
        let o = move_ref Store m.s.local in
        let b = with_stack entry (Ctx ∷ []) in
        let means = keep_means m.q m.pool (new m) (to m) 0 m.s.local fourth in
        let goes = plain_goes m.q m.pool (new m) fourth (form (led (to m) 0 fourth o)) (keep m.s.local) means refl in
        let gives = sym (form_agrees m.q (here m fourth) m.pool (new m) fourth (form (led (to m) 0 fourth o)) (keep m.s.local) b means) ∙ stored (here m fourth) in
        walk_on m (now m 0 fourth o) (rest_of m k last m.ks (ops m)) (Some b) (Some kept) b kept
        (ap (λ (d : Option Frame). begun d (Some b)) (none_before fourth below.1.1.1)) (no_handlers fourth below.1.1.1 b) gives (ap (list_all _) goes.0)
        (ap (λ (v : Bool). onward m.q (news m) kept v (rest_of m k last m.ks (ops m))) goes.1
        ∙ onward_next m k (first_frame m.x) kept true last m.ks (ops m) fs kept_finer k.each
        (λ i at. (
          sym to_first ∙ ap (to m) (sym (laid_first m k 0 (length (code.spell (ops m))) (ops m) i (code_laid (ops m) k.fits) at)),
          first_in m k m.ks
              (ops m) k.each begins_all i at,
        )) follows)
        behind

    -- no test of the walk fails
    pub begins_walk : Walks m (new m) (Some entry)
    begins_walk =
        let o = move_ref Load m.slots in
        let u = push_int m.s.domain in
        let v = call_static m.enter in
        let w = move_ref Store m.s.local in
        let rest = rest_of m k last m.ks (ops m) in
        let b1 = with_stack entry (Ctx ∷ []) in
        let b2 = with_stack entry (Int ∷ Ctx ∷ []) in
        lead_on m 0 0 o (load m.slots) (now m 0 second u) (now m 0 third v ∷ now m 0 fourth w ∷ rest) (Some entry) entry b1
        (load_means m.q m.pool (new m) (to m) 0 m.slots) refl
        (ap (λ (d : Option Frame). begun d (Some entry)) (none_before 0 below.0)) (no_handlers 0 below.0 entry)
        (load_rule m k (here m 0) m.slots entry context_handed context_room) (none_before second below.1.0)
        (lead_on m 0 second u (push m.s.domain) (now m 0 third v) (now m 0 fourth w ∷ rest) (Some b1) b1 b2
        (push_means m.q m.pool (new m) (to m) 0 m.s.domain) refl
        (ap (λ (d : Option Frame). begun d (Some b1)) (none_before second below.1.0)) (no_handlers second below.1.0 b1)
        (push_rule m k (here m second) m.s.domain b1 both_room) (none_before third below.1.1.0)
        (lead_on m 0 third v (Used (meanings.Call how.Static (rt_meaning rt.Enter))) (now m 0 fourth w) rest (Some b2) b2 b1
        k.enters refl
        (ap (λ (d : Option Frame). begun d (Some b2)) (none_before third below.1.1.0)) (no_handlers third below.1.1.0 b2)
        (entered (here m third) refl) (none_before fourth below.1.1.1) keeps))
