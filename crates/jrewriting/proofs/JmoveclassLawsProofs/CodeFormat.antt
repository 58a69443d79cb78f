-- A moved code meets the demands on codes of a class file.
use Rattle.std.proofs.Common.{◌≡◌, ℕ, ◌+◌, ◌≤◌, ◌<◌, pos, Bool, true, false, cond, ◌&&◌, List, [], ◌∷◌, ◌++◌, length, map, max, Option, Some, None, refl, ap, subst, ◌∙◌, arith}
use Rattle.std.specs.Prelude.{All, IsTrue, codes, nat_lt, slice_get, ◌||◌, ◌==◌}
use Rattle.std.specs.List.{list_all}
use Rattle.std.proofs.lemmas.Bool.{le-ltb, lt-ltb, ltb-false, ltb-true, ne_eqb}
use Rattle.std.proofs.lemmas.List.{length-map}
use Rattle.std.proofs.lemmas.List.Elements.{recursion_from_All}
use Rattle.jground.specs.jbase.FirstFaults.{first_some}
use Rattle.jground.specs.jformat.BodyFormats.{block, counted}
use Rattle.jground.specs.jformat.Format.{is_good}
use Rattle.jground.specs.jformat.StatefulFormats.{counted_from, fits_from, spell_from}
use Rattle.jground.proofs.JformatProofs.ReadingSteps.{both, first_true, second_true}
use Rattle.jparts.specs.declared.jpool.entry.Entry.{Entry}
use Rattle.jparts.specs.jpool.ConstantPools.{is_utf8}
use Rattle.jparts.specs.declared.jcode.names.Access.TheVariants.{Load, Store}
use Rattle.jparts.specs.declared.jcode.op.Op.{Op}
use Rattle.jparts.specs.declared.jcode.op.Placed.{Placed}
use Rattle.jparts.specs.jcode.Instructions
use Rattle.jparts.specs.jcode.Instructions.{is_place, size}
use Rattle.jparts.specs.declared.jmaps.types.FullFrame.{FullFrame}
use Rattle.jparts.specs.declared.jmaps.types.MapType.{MapType}
use Rattle.jparts.specs.jmaps.ExpandedFrames.{can_follow, can_write, full_forms, place_after}
use Rattle.jclass.specs.declared.class.ClassParts.{ClassParts}
use Rattle.jclass.specs.declared.class.CodeAttribute.{CodeAttribute}
use Rattle.jclass.specs.declared.class.CodeAttribute.TheVariants as code
use Rattle.jclass.specs.declared.class.CodeBody.{CodeBody}
use Rattle.jclass.specs.declared.class.MemberInfo.{MemberInfo}
use Rattle.jclass.specs.declared.fault.ClassFault.TheVariants as kinds
use Rattle.jclass.specs.Attributes.{name_once}
use Rattle.jclass.specs.IndexFormats.{u2, u4}
use Rattle.jclass.specs.CodeFormat.{attribute, behind_ops, code_content, code_length, handler, maps, ops, saw_maps, frames_in}
use Rattle.jclass.specs.ProofNames.{length_fault}
use Rattle.jclass.specs.PoolOperands.{names_well}
use Rattle.jclass.specs.FlagRules.{is_maps, is_text}
use Rattle.jclass.specs.FileContents.{HasCode}
use Rattle.jclass.proofs.FittingClasses.{code_fits}
use Rattle.jmove.specs.declared.method.Expand.{Expand}
use Rattle.jmove.specs.declared.method.MethodIn.{MethodIn}
use Rattle.jmove.specs.declared.method.MoveError.{MoveError}
use Rattle.jmove.specs.declared.method.MoveError.TheVariants as errors
use Rattle.jmove.specs.declared.method.Setting.{Setting}
use Rattle.jmove.specs.PoolAdditions.{IsFront, with_body}
use Rattle.jmove.specs.MovedFrames.{items_of, widths}
use Rattle.jmove.specs.MethodLimits.{bare_frame}
use Rattle.jmove.specs.AssemblyLines.{Do, end_of}
use Rattle.jmove.specs.MethodExpansion.{CanMove, call_static, context_local, expansions, limit_of, lines, move_ref, moved_handler, prologue, push_int, setting}
use Rattle.jmove.specs.ProofNames.{too_many}
use Rattle.jmove.proofs.LineSequences.{end_above}
use Rattle.jmove.proofs.PoolGrowth.{body_grows, front_on}
use Rattle.jmove.proofs.MethodLimits.{no_limit, short}
use Rattle.jmove.proofs.MoveAnswers.{named_can, named_limit}
use Rattle.jmove.proofs.Sizes.{size_some}
use Rattle.jrewriting.specs.jmove_laws.FramePlaces.{StandAt, new_frame}
use Rattle.jrewriting.specs.jmove_laws.InstructionNumbers.{moved, new_place}
use Rattle.jrewriting.specs.jmove_laws.SpelledCode.{InRange}
use Rattle.jrewriting.proofs.JmoveLawsProofs.CodeEncodings.{spelled}
use Rattle.jresolution.specs.jprogram.ProgramClasses.{Program}
use Rattle.jresolution.specs.jprogram.MemberResolution.{referred}
use Rattle.jmoveclass.specs.EntryLocals.{bare_beginning, slots}
use Rattle.jmoveclass.specs.CallExpansion.{expands}
use Rattle.jmoveclass.specs.MovedMembers.{frames_of, maps_name, method_in, moved_maps, with_first}
use Rattle.jmoveclass.proofs.CodeMoves.{code_can, code_limit}
use Rattle.jmoveclass.proofs.PoolStability.{class_stays, same_text, utf8_stays}
use Rattle.jmoveclass.proofs.DemandPreservation.{once_text}
use Rattle.jmoveclass.proofs.LimitInvariance.{first_alike}
use Rattle.jmoveclass.proofs.MethodContents.{frames_fit}
use Rattle.jrewriting.proofs.JmoveclassLawsProofs.PrologueClasses.{AreItems, items_on}
use Rattle.jrewriting.proofs.JmoveclassLawsProofs.CallReferences.{AreNumbered, IsContext, IsRt, kind_stays, numbers_on}
use Rattle.jrewriting.proofs.JmoveclassLawsProofs.EntryKinds.{moved_well, numbers_small}
use Rattle.jrewriting.proofs.JmoveclassLawsProofs.FrameClasses.{AllItems, full_items, raw_items}
use Rattle.jrewriting.proofs.JmoveclassLawsProofs.HandlerFormat.{Moves, handlers_fit, moved_bytes}
use Rattle.jrewriting.proofs.JmoveclassLawsProofs.StackMaps.{can_write_full, frames_there, moved_frames_fit, raw_on}
use Rattle.jrewriting.proofs.JmoveclassLawsProofs.CodeLength.{body_fits, four_bytes, maps_attribute_bytes, maps_bytes}
use Rattle.jrewriting.proofs.JmoveclassLawsProofs.PoolFormat.{IsCodePut, ops_named}

-- ---- the parts of a code

pub record CodeParts (pool : List Entry) (b : CodeBody) : Type 0 where
  pub handlers : IsTrue ((counted u2 (handler pool b.ops)).fits b.handlers)
  pub attributes : IsTrue (fits_from (λ t. (attribute pool t).fits) saw_maps false b.attributes)

pub code_parts_of : (pool : List Entry) (b : CodeBody) → IsTrue ((code_content pool).fits b) → CodeParts pool b
unfolding code_content
code_parts_of pool b fit =
    let a = second_true (u2.fits b.max_stack) _ fit in
    let c = second_true (u2.fits b.max_locals) _ a in
    let d = second_true ((block code_length kinds.Truncated (ops pool)).fits b.ops) ((behind_ops pool b.ops).fits (b.handlers, b.attributes)) c in
    let all = (counted_from u2 (attribute pool) saw_maps false).fits b.attributes in
    record {
      handlers = first_true ((counted u2 (handler pool b.ops)).fits b.handlers) all d;
      attributes = first_true (fits_from (λ t. (attribute pool t).fits) saw_maps false b.attributes) (u2.fits (length b.attributes)) (second_true ((counted u2 (handler pool b.ops)).fits b.handlers) all d);
    }

pub content_fits : (pool : List Entry) (b : CodeBody) → IsTrue (u2.fits b.max_stack) → IsTrue (u2.fits b.max_locals) → IsTrue (Instructions.code.fits b.ops) → IsTrue (list_all (λ i. names_well pool i.op) b.ops)
    → IsTrue (code_length.fits (length (Instructions.code.spell b.ops))) → IsTrue ((counted u2 (handler pool b.ops)).fits b.handlers) → IsTrue ((counted_from u2 (attribute pool) saw_maps false).fits b.attributes) → IsTrue ((code_content pool).fits b)
unfolding code_content ops
content_fits pool b stack locals code names long handlers others =
    both (u2.fits b.max_stack) _ stack (both (u2.fits b.max_locals) _ locals
    (both ((block code_length kinds.Truncated (ops pool)).fits b.ops) ((behind_ops pool b.ops).fits (b.handlers, b.attributes))
    (both ((ops pool).fits b.ops) (code_length.fits (length (Instructions.code.spell b.ops))) (both (Instructions.code.fits b.ops) (list_all (λ i. names_well pool i.op) b.ops) code names) long)
    (both ((counted u2 (handler pool b.ops)).fits b.handlers) ((counted_from u2 (attribute pool) saw_maps false).fits b.attributes) handlers others)))

-- ---- numbers

pub short_length : (n : ℕ) → 1 ≤ n → n ≤ 32767 → IsTrue (code_length.fits n)
short_length n some few =
    let not_none : (n == 0) ≡ false = ne_eqb n 0 (omega arith) in
    let not_many : nat_lt 0xffff n ≡ false = le-ltb 0xffff n (omega arith) in
    both (u4.fits n) (is_good (length_fault n)) (four_bytes n (omega arith)) (rw (not_none, not_many) refl)

pub two_bytes : (n : ℕ) → n < 65536 → IsTrue (u2.fits n)
two_bytes n h = lt-ltb n 65536 h

-- the items of frames that break no limit
or_no : (a b : Bool) → (a || b) ≡ false → b ≡ false
or_no true b e = absurd cc
or_no false b e = e

many_by : (a b : Bool) (rest : Option MoveError) → cond a (Some errors.Slots) (cond b (Some errors.Locals) rest) ≡ None → b ≡ false
many_by true b rest e = absurd cc
many_by false true rest e = absurd cc
many_by false false rest e = refl

few_items : (m : MethodIn) (ks : List Expand) → limit_of m ks ≡ None → items_of (context_local m) m.frames ≤ 16777216
unfolding limit_of
few_items m ks e =
    let many = many_by (m.slots == 255) (too_many m) _ e in
    ltb-false 16777216 (items_of (context_local m) m.frames) (or_no (m.max_locals == 65535) (nat_lt 16777216 (items_of (context_local m) m.frames)) many)

few_frames : (fs : List FullFrame) → IsTrue (can_write fs) → length fs < 65536
few_frames fs h = ltb-true (length fs) 65536 (second_true (fits_from can_follow place_after None fs) (nat_lt (length fs) 65536) h)

-- moved code isn't empty
some_bytes : (slots enter : ℕ) (s : Setting) (ks : List Expand) (is : List Placed) → 1 ≤ end_of 0 (lines (prologue slots s enter) s ks is)
some_bytes slots enter s ks is = omega (arith, size_some 0 (move_ref Load slots), end_above (0 + size 0 (move_ref Load slots)) (map (Do 0) (push_int s.domain ∷ call_static enter ∷ move_ref Store s.local ∷ []) ++ expansions s ks is))

-- ---- frames at the same places

stand_alike : (is : List Placed) (fs gs : List FullFrame) → map bare_frame fs ≡ map bare_frame gs → StandAt is fs → StandAt is gs
stand_alike is [] [] e h = refl
stand_alike is [] (g ∷ gs) e h = absurd cc
stand_alike is (f ∷ fs) [] e h = absurd cc
stand_alike is (f ∷ fs) (g ∷ gs) e h =
    let one : bare_frame f ≡ bare_frame g = cc in
    let rest : map bare_frame fs ≡ map bare_frame gs = cc in
    let same : f.at ≡ g.at = ap (λ (x : FullFrame). x.at) one in
    let others = list_all (λ x. is_place is (pos x.at)) fs in
    both (is_place is (pos g.at)) (list_all (λ x. is_place is (pos x.at)) gs) (subst (λ (p : ℕ). IsTrue (is_place is (pos p))) same (first_true (is_place is (pos f.at)) others h))
    (stand_alike is fs gs rest (second_true (is_place is (pos f.at)) others h))

-- ---- the attribute that holds frames

record IsMaps (pool : List Entry) (name : ℕ) : Type 0 where
  pub fits : IsTrue (u2.fits name)
  pub text : IsTrue (is_utf8 pool name)
  pub is : IsTrue (is_maps pool name)

maps_named : (pool : List Entry) (seen : Bool) (xs : List CodeAttribute) (name : ℕ) → IsTrue (fits_from (λ t. (attribute pool t).fits) saw_maps seen xs) → first_some maps_name xs ≡ Some name → IsMaps pool name
unfolding fits_from attribute first_some
maps_named pool seen [] name h e = absurd cc
maps_named pool seen (code.Maps n fs ∷ xs) name h e =
    let same : n ≡ name = cc in
    let one = first_true ((attribute pool seen).fits (code.Maps n fs)) (fits_from (λ t. (attribute pool t).fits) saw_maps true xs) h in
    let once = first_true ((name_once pool (is_maps pool) kinds.Maps seen).fits n) (is_maps pool n && (block u4 kinds.Truncated (maps pool)).fits fs) one in
    let inside = second_true ((name_once pool (is_maps pool) kinds.Maps seen).fits n) (is_maps pool n && (block u4 kinds.Truncated (maps pool)).fits fs) one in
    subst (IsMaps pool) same (record {
      fits = first_true (u2.fits n) _ once;
      text = once_text pool (is_maps pool) kinds.Maps seen n once;
      is = first_true (is_maps pool n) ((block u4 kinds.Truncated (maps pool)).fits fs) inside;
    })
maps_named pool seen (code.Raw n bytes ∷ xs) name h e = maps_named pool seen xs name (second_true ((attribute pool seen).fits (code.Raw n bytes)) (fits_from (λ t. (attribute pool t).fits) saw_maps seen xs) h) e

maps_on : (base whole : List Entry) → IsFront base whole → (name : ℕ) → IsMaps base name → IsTrue (is_maps whole name)
unfolding is_maps
maps_on base whole f name h = ap (λ (o : Option (List ℕ)). is_text o (codes "StackMapTable")) (same_text base whole f name h.text) ∙ h.is

once_fits : (whole : List Entry) (name : ℕ) → IsTrue (u2.fits name) → IsTrue (is_utf8 whole name) → IsTrue ((name_once whole (is_maps whole) kinds.Maps false).fits name)
once_fits whole name fits text = rw text (both (u2.fits name) true fits refl)

-- where frames are moved, the one attribute that is kept
record IsKept (pool : List Entry) (xs : List CodeAttribute) : Type 0 where
  pub fits : IsTrue ((counted_from u2 (attribute pool) saw_maps false).fits xs)
  pub bytes : length (spell_from (λ t. (attribute pool t).spell) saw_maps false xs) ≤ 50790409

none_kept : (pool : List Entry) → IsKept pool []
unfolding fits_from spell_from
none_kept pool = record { fits = refl; bytes = omega arith }

maps_kept : (pool : List Entry) (name : ℕ) (gs : List FullFrame) → IsTrue (u2.fits name) → IsTrue (is_utf8 pool name) → IsTrue (is_maps pool name) → IsTrue ((maps pool).fits (full_forms None gs)) → length ((maps pool).spell (full_forms None gs)) ≤ 50790403
    → IsKept pool (code.Maps name (full_forms None gs) ∷ [])
unfolding fits_from attribute
maps_kept pool name gs fits text is there few =
    let forms = full_forms None gs in
    let one = both ((name_once pool (is_maps pool) kinds.Maps false).fits name) (is_maps pool name && (block u4 kinds.Truncated (maps pool)).fits forms) (once_fits pool name fits text)
    (both (is_maps pool name) ((block u4 kinds.Truncated (maps pool)).fits forms) is (both ((maps pool).fits forms) (u4.fits (length ((maps pool).spell forms))) there (four_bytes (length ((maps pool).spell forms)) (omega arith)))) in
    let bytes = maps_attribute_bytes pool name forms in
    record {
      fits = both ((attribute pool false).fits (code.Maps name forms) && true) (u2.fits 1) (both ((attribute pool false).fits (code.Maps name forms)) true one refl) refl;
      bytes = omega arith;
    }

attributes_kept : (base whole : List Entry) → IsFront base whole → (xs : List CodeAttribute) (gs : List FullFrame) (o : Option ℕ) → IsTrue (fits_from (λ t. (attribute base t).fits) saw_maps false xs) → first_some maps_name xs ≡ o
    → IsTrue ((maps whole).fits (full_forms None gs)) → length ((maps whole).spell (full_forms None gs)) ≤ 50790403 → IsKept whole (moved_maps gs o)
attributes_kept base whole f xs [] o h e there few = none_kept whole
attributes_kept base whole f xs (g ∷ gs) None h e there few = none_kept whole
attributes_kept base whole f xs (g ∷ gs) (Some name) h e there few =
    let is = maps_named base false xs name h e in
    maps_kept whole name (g ∷ gs) is.fits (utf8_stays base whole f name is.text) (maps_on base whole f name is) there few

-- ---- the whole

-- what is known of a code that is to be moved
pub record IsMovable (p : Program) (c : ClassParts) (m : MemberInfo) (b : CodeBody) (domain : ℕ) : Type 0 where
  pub has : HasCode c b
  pub can : CanMove (method_in c m b (bare_beginning c m)) (expands p c.pool b.ops)
  pub none : limit_of (method_in c m b (bare_beginning c m)) (expands p c.pool b.ops) ≡ None
  pub stand : StandAt b.ops (frames_of (bare_beginning c m) b)
  pub small : domain ≤ 0x7fff

-- a method in which a code begins with these items, whose expansions name these numbers
pub record Setup (p : Program) (c : ClassParts) (m : MemberInfo) (b : CodeBody) (domain : ℕ) (first : List MapType) (whole : List Entry) (enter : ℕ) (ms : List Expand) (context : ℕ) : Type 0 where
  pub front : IsFront c.pool whole
  pub has : HasCode c b
  pub can : CanMove (method_in c m b first) ms
  pub none : limit_of (method_in c m b first) ms ≡ None
  pub stand : StandAt b.ops (frames_of first b)
  pub items : AreItems whole first
  pub enters : IsRt whole enter
  pub numbers : AreNumbered c.pool whole (expands p c.pool b.ops) ms
  pub contexts : IsContext whole (frames_of first b) context
  pub small : domain ≤ 0x7fff

abbrev pub set_of : ClassParts → MemberInfo → CodeBody → ℕ → List MapType → Setting
set_of c m b domain first = setting (method_in c m b first) domain

abbrev pub begin_of : ClassParts → MemberInfo → CodeBody → ℕ → List MapType → ℕ → List Op
begin_of c m b domain first enter = prologue (slots c m) (set_of c m b domain first) enter

local_small : (a b : ℕ) → a < 65535 → b < 255 → max a (b + 1) < 0xffff
local_small a b h k = omega arith

under_local : (a b n : ℕ) → n ≤ a → n ≤ max a b
under_local a b n h = omega arith

-- the code itself
setup_moves : (p : Program) (c : ClassParts) (m : MemberInfo) (b : CodeBody) (domain : ℕ) (first : List MapType) (whole : List Entry) (enter : ℕ) (ms : List Expand) (context : ℕ) → Setup p c m b domain first whole enter ms context
    → Moves (begin_of c m b domain first enter) (set_of c m b domain first) ms b.ops
setup_moves p c m b domain first whole enter ms context u =
    let n = method_in c m b first in
    let s = set_of c m b domain first in
    let within = no_limit n ms u.can u.none in
    let near = short n ms u.can u.none domain enter in
    let local : s.local < 0xffff = local_small b.max_locals (slots c m) within.locals within.slots in
    let few : slots c m < 255 = within.slots in
    let range : InRange (slots c m) enter s ms = record { place = omega arith; call = u.enters.0; local = omega arith; domain = u.small; calls = numbers_small c.pool whole (expands p c.pool b.ops) ms u.numbers } in
    record { each = u.can.each; old = u.can.is_code; new = spelled (slots c m) enter s ms b.ops u.can.each u.can.is_code range near; near = near }

abbrev pub new_ops : ClassParts → MemberInfo → CodeBody → ℕ → List MapType → ℕ → List Expand → List Placed
new_ops c m b domain first enter ms = moved (begin_of c m b domain first enter) (set_of c m b domain first) ms b.ops

setup_names : (p : Program) (c : ClassParts) (m : MemberInfo) (b : CodeBody) (domain : ℕ) (first : List MapType) (whole : List Entry) (enter : ℕ) (ms : List Expand) (context : ℕ) → Setup p c m b domain first whole enter ms context
    → IsTrue (list_all (λ i. names_well whole i.op) (new_ops c m b domain first enter ms))
unfolding expands
setup_names p c m b domain first whole enter ms context u =
    moved_well c.pool whole u.front (slots c m) enter (set_of c m b domain first) (λ n. referred p c.pool (slice_get c.pool n)) b.ops ms u.enters u.numbers (ops_named c.pool b (code_fits c b u.has))
    (new_place (begin_of c m b domain first enter) (set_of c m b domain first) ms b.ops)

abbrev pub new_frames : ClassParts → MemberInfo → CodeBody → ℕ → List MapType → ℕ → List Expand → ℕ → List FullFrame
new_frames c m b domain first enter ms context = map (new_frame (begin_of c m b domain first enter) (set_of c m b domain first) ms b.ops context) (frames_of first b)

record AreFrames (whole : List Entry) (gs : List FullFrame) : Type 0 where
  pub fit : IsTrue ((maps whole).fits (full_forms None gs))
  pub bytes : length ((maps whole).spell (full_forms None gs)) ≤ 50790403

setup_frames : (p : Program) (c : ClassParts) (m : MemberInfo) (b : CodeBody) (domain : ℕ) (first : List MapType) (whole : List Entry) (enter : ℕ) (ms : List Expand) (context : ℕ) → Setup p c m b domain first whole enter ms context
    → AreFrames whole (new_frames c m b domain first enter ms context)
unfolding frames_of
setup_frames p c m b domain first whole enter ms context u =
    let n = method_in c m b first in
    let s = set_of c m b domain first in
    let begin = begin_of c m b domain first enter in
    let fs = frames_of first b in
    let fit = code_fits c b u.has in
    let there = frames_there c.pool b.attributes (code_parts_of c.pool b fit).attributes in
    let all : AllItems whole fs = full_items whole first b u.items (raw_on c.pool whole u.front (frames_in b) (raw_items c.pool (frames_in b) there)) in
    let most : b.max_locals ≤ 0xffff = u.can.locals in
    let write : IsTrue (can_write fs) = can_write_full c.pool b.max_locals first (frames_in b) most there (frames_fit c b u.has) (recursion_from_All (λ f. widths f.locals ≤ b.max_locals) fs u.can.frames) in
    let wide : All (λ f. widths f.locals ≤ s.local) fs = λ k d lt. under_local b.max_locals (slots c m + 1) _ (u.can.frames k d lt) in
    let within = no_limit n ms u.can u.none in
    let local : s.local < 0xffff = local_small b.max_locals (slots c m) within.locals within.slots in
    record {
      fit = moved_frames_fit whole begin s ms b.ops (setup_moves p c m b domain first whole enter ms context u) local context fs u.contexts u.stand wide write all;
      bytes = maps_bytes whole (new_place begin s ms b.ops) s.local context fs (few_frames fs write) (few_items n ms u.none);
    }

abbrev pub new_body : ClassParts → MemberInfo → CodeBody → ℕ → List MapType → ℕ → List Expand → ℕ → CodeBody
new_body c m b domain first enter ms context = record {
  max_stack = b.max_stack + 3;
  max_locals = context_local (method_in c m b first) + 1;
  ops = new_ops c m b domain first enter ms;
  handlers = map (moved_handler (new_place (begin_of c m b domain first enter) (set_of c m b domain first) ms b.ops)) b.handlers;
  attributes = moved_maps (new_frames c m b domain first enter ms context) (first_some maps_name b.attributes);
}

pub record IsGood (whole : List Entry) (b : CodeBody) : Type 0 where
  pub fits : IsTrue ((code_content whole).fits b)
  pub bytes : IsTrue (u4.fits (length ((code_content whole).spell b)))

pub setup_good : (p : Program) (c : ClassParts) (m : MemberInfo) (b : CodeBody) (domain : ℕ) (first : List MapType) (whole : List Entry) (enter : ℕ) (ms : List Expand) (context : ℕ) → Setup p c m b domain first whole enter ms context
    → IsGood whole (new_body c m b domain first enter ms context)
setup_good p c m b domain first whole enter ms context u =
    let n = method_in c m b first in
    let s = set_of c m b domain first in
    let begin = begin_of c m b domain first enter in
    let now = new_body c m b domain first enter ms context in
    let moves = setup_moves p c m b domain first whole enter ms context u in
    let within = no_limit n ms u.can u.none in
    let local : s.local < 0xffff = local_small b.max_locals (slots c m) within.locals within.slots in
    let stack : b.max_stack ≤ 65532 = within.stack in
    let parts = code_parts_of c.pool b (code_fits c b u.has) in
    let frames = setup_frames p c m b domain first whole enter ms context u in
    let kept = attributes_kept c.pool whole u.front b.attributes (new_frames c m b domain first enter ms context) (first_some maps_name b.attributes) parts.attributes refl frames.fit frames.bytes in
    let long : length (Instructions.code.spell now.ops) ≡ end_of 0 (lines begin s ms b.ops) = moved_bytes begin s ms b.ops moves.new in
    let some : 1 ≤ end_of 0 (lines begin s ms b.ops) = some_bytes (slots c m) enter s ms b.ops in
    let near : end_of 0 (lines begin s ms b.ops) ≤ 32767 = moves.near in
    let old = (handler c.pool b.ops).fits in
    let each = first_true (list_all old b.handlers) (u2.fits (length b.handlers)) parts.handlers in
    let count : length b.handlers < 65536 = ltb-true (length b.handlers) 65536 (second_true (list_all old b.handlers) (u2.fits (length b.handlers)) parts.handlers) in
    let same : length now.handlers ≡ length b.handlers = length-map b.handlers (moved_handler (new_place begin s ms b.ops)) in
    let handlers = both (list_all (handler whole now.ops).fits now.handlers) (u2.fits (length now.handlers)) (handlers_fit c.pool whole u.front begin s ms b.ops moves b.handlers each) (two_bytes (length now.handlers) (omega arith)) in
    record {
      fits = content_fits whole now (two_bytes (b.max_stack + 3) (omega arith)) (two_bytes (s.local + 1) (omega arith)) moves.new (setup_names p c m b domain first whole enter ms context u) (short_length (length (Instructions.code.spell now.ops)) (omega arith) (omega arith)) handlers kept.fits;
      bytes = body_fits whole now (omega arith) (omega arith) kept.bytes;
    }

contexts_on : (pool whole : List Entry) → IsFront pool whole → (fs : List FullFrame) (n : ℕ) → IsContext pool fs n → IsContext whole fs n
contexts_on pool whole f [] n h = tt
contexts_on pool whole f (x ∷ fs) n h = (h.0, class_stays pool whole f n h.1)

-- what was put for a code makes such a method
pub setup_of : (p : Program) (c : ClassParts) (m : MemberInfo) (b : CodeBody) (domain : ℕ) (pool whole : List Entry) → IsMovable p c m b domain → IsCodePut p c m b pool → IsFront c.pool whole
    → IsFront (with_body (expands p c.pool b.ops) (frames_of (with_first c m (frames_in b) pool).0 b) (with_first c m (frames_in b) pool).1).1 whole
    → Setup p c m b domain (with_first c m (frames_in b) pool).0 whole
    (with_body (expands p c.pool b.ops) (frames_of (with_first c m (frames_in b) pool).0 b) (with_first c m (frames_in b) pool).1).0.enter
    (with_body (expands p c.pool b.ops) (frames_of (with_first c m (frames_in b) pool).0 b) (with_first c m (frames_in b) pool).1).0.kinds
    (with_body (expands p c.pool b.ops) (frames_of (with_first c m (frames_in b) pool).0 b) (with_first c m (frames_in b) pool).1).0.context
setup_of p c m b domain pool whole k put front later =
    let ks = expands p c.pool b.ops in
    let x = with_first c m (frames_in b) pool in
    let n = method_in c m b x.0 in
    let y = with_body ks n.frames x.1 in
    let can = code_can p c m b pool x.1 x.0 refl k.can in
    let none = code_limit p c m b pool x.1 x.0 refl k.none in
    let alike = first_alike c m b ks pool x.1 x.0 refl in
    let grown : IsFront x.1 whole = front_on x.1 y.1 whole ((body_grows ks n.frames).on x.1) later in
    record {
      front = front;
      has = k.has;
      can = named_can n ks x.1 y.1 y.0 refl can;
      none = named_limit n ks x.1 y.1 y.0 refl none;
      stand = stand_alike b.ops (frames_of (bare_beginning c m) b) n.frames alike.frames k.stand;
      items = items_on x.1 whole grown x.0 put.items;
      enters = (put.body.enter.0, kind_stays y.1 whole later y.0.enter false put.body.enter.1);
      numbers = numbers_on c.pool y.1 whole later ks y.0.kinds put.body.kinds;
      contexts = contexts_on y.1 whole later n.frames y.0.context put.body.context;
      small = k.small;
    }
