-- The code of a moved method names what it may name: its instructions, its handlers and its frames.
use Rattle.std.proofs.Common.{◌≡◌, ℕ, Bool, true, false, List, [], ◌∷◌, length, map, Option, Some, None, refl, ap, sym, ◌∙◌}
use Rattle.std.specs.Prelude.{IsTrue, nat_lt, option_and_then, slice_get, codes, ◌||◌, ◌==◌, if◌then◌else◌}
use Rattle.std.specs.List.{list_all, list_any}
use Rattle.jground.specs.jbase.FirstFaults.{fault_if, first_some, or_else}
use Rattle.jground.proofs.JbaseProofs.Firsts.{none_of}
use Rattle.jground.specs.jformat.Format.{is_good, unless, ◌·◌}
use Rattle.jground.proofs.JformatProofs.ReadingSteps.{first_true, second_true}
use Rattle.jparts.specs.declared.jpool.entry.Entry.{Entry}
use Rattle.jparts.specs.declared.jpool.entry.Entry.TheVariants.{Class}
use Rattle.jparts.specs.jpool.ConstantPools.{class_name_at, is_class, utf8_at}
use Rattle.jparts.specs.declared.jcode.op.Handler.{Handler}
use Rattle.jparts.specs.declared.jcode.op.Placed.{Placed}
use Rattle.jclass.specs.declared.class.Attribute.{Attribute}
use Rattle.jclass.specs.declared.class.Attribute.TheVariants.{Code, ConstantValue, Raw}
use Rattle.jclass.specs.declared.class.ClassParts.{ClassParts}
use Rattle.jclass.specs.declared.class.CodeAttribute.{CodeAttribute}
use Rattle.jclass.specs.declared.class.CodeAttribute.TheVariants as code
use Rattle.jclass.specs.declared.class.CodeBody.{CodeBody}
use Rattle.jclass.specs.declared.class.MemberInfo.{MemberInfo}
use Rattle.jclass.specs.declared.fault.ClassFault.TheVariants.{Index}
use Rattle.jclass.specs.IndexFormats.{index, u2}
use Rattle.jclass.specs.CodeFormat.{handler, handler_parts, named_type, target_fault, maps_of, frames_in}
use Rattle.jclass.specs.FlagRules.{names_caught}
use Rattle.jclass.specs.FileContents.{HasCode}
use Rattle.jclass.proofs.FittingClasses.{code_fits}
use Rattle.jparts.specs.declared.jmaps.types.FullFrame.{FullFrame}
use Rattle.jparts.specs.declared.jmaps.types.MapType.{MapType}
use Rattle.jparts.specs.declared.jmaps.types.MapType.TheVariants as items
use Rattle.jparts.specs.declared.jmaps.types.RawFrame.{RawFrame}
use Rattle.jparts.specs.jmaps.StackMapFormat.{map_type}
use Rattle.jparts.specs.jmaps.ExpandedFrames.{expand_from, full_forms}
use Rattle.jmove.specs.declared.method.Expand.{Expand}
use Rattle.jmove.specs.declared.naming.Security.TheVariants as security
use Rattle.jmove.specs.PoolAdditions.{IsFront, with_body, ◌>>◌}
use Rattle.jmove.specs.MovedFrames.{moved_frame}
use Rattle.jmove.specs.AssemblyLines.{place_of}
use Rattle.jmove.specs.MethodExpansion.{context_local, lines, moved_by, moved_handler, prologue, setting}
use Rattle.jmove.proofs.PoolGrowth.{body_grows, front_on}
use Rattle.jresolution.specs.declared.jprogram.fault.LinkKind.TheVariants.{LeftOut}
use Rattle.jresolution.specs.jprogram.ProgramClasses.{Program}
use Rattle.jresolution.specs.jprogram.ClassFileParts.{member_desc, or_empty, this_name}
use Rattle.jmoveclass.specs.EntryLocals.{slots}
use Rattle.jmoveclass.specs.CallExpansion.{expands}
use Rattle.jmoveclass.specs.MovedMembers.{frames_of, maps_name, method_in, moved_maps, new_desc, with_code, with_first}
use Rattle.jmoveclass.specs.ProofNames.{or_no_frames, or_none}
use Rattle.jmoveclass.proofs.DemandPreservation.{good_is}
use Rattle.jrewriting.proofs.JmoveclassLawsProofs.CodeFormat.{code_parts_of}
use Rattle.jrewriting.proofs.JmoveclassLawsProofs.CallReferences.{named_in}
use Rattle.jrewriting.proofs.JmoveclassLawsProofs.FrameClasses.{RawItems, raw_items}
use Rattle.jrewriting.proofs.JmoveclassLawsProofs.StackMaps.{frames_there}
use Rattle.jrewriting.proofs.JmoveclassLawsProofs.PoolFormat.{ops_named}
use Rattle.jlinking.proofs.JlinkProofs.PresentValues.{then_is}
use Rattle.jlinking.specs.declared.jreferring.judged.ClassUse.{ClassUse}
use Rattle.jlinking.specs.declared.jreferring.judged.Judged.{Judged}
use Rattle.jlinking.specs.jreferring.InitialFrames.{first_frame_test}
use Rattle.jlinking.specs.jreferring.CodeChecks.{body_test, frames_test, units_test}
use Rattle.jlinking.specs.jreferring.PoolEntryMeanings.{judge, judge_pool}
use Rattle.jlinking.specs.jreferring.ClassEntryUses.{class_use, operand_test}
use Rattle.jlinking.specs.jreferring.CodeUnits.{attribute_test, class_at, frame_test, handler_test, is_barred, item_names, op_test}
use Rattle.jlinking.specs.ProofNames.{class_in}
use Rattle.jrewriting.specs.jrewrite.RewrittenPrograms.{moved}
use Rattle.jrewriting.proofs.JrewriteProofs.Calls.{Known}
use Rattle.jrewriting.proofs.JrewriteProofs.CodeNames.{class_stays, moved_good}
use Rattle.jrewriting.proofs.JrewriteProofs.DeclarationChecks.{first_false, no_again, no_fault, or_join, second_false}
use Rattle.jrewriting.proofs.JrewriteProofs.ParameterAccess.{Handed, first_good}
use Rattle.jrewriting.proofs.JrewriteProofs.FrameItems.{AllFull, AllName, AllRaw, Names, full_names, moved_full, names_on, raw_on, written_full}
use Rattle.jrewriting.proofs.JrewriteProofs.PoolEntries.{class_kept, judged_at}
use Rattle.jrewriting.proofs.JmoveclassLawsProofs.CallReferences.{class_entry}
use Rattle.jrewriting.proofs.JrewriteProofs.MemberPhase.{none_or}
use Rattle.jrewriting.proofs.JrewriteProofs.Params.{Fits, context_fits}
use Rattle.jrewriting.proofs.JrewriteProofs.PlainPrograms.{is_plain}
use Rattle.jrewriting.proofs.JrewriteProofs.PoolReferences.{AreNumbered, IsBody, IsContext, IsSecurity, context_on, numbers_on, security_on}
use Rattle.jrewriting.proofs.JrewriteProofs.SupertypeChains.{class_use_same}
use Rattle.jparts.specs.jpool.PoolEntries.{class_parts}

-- ---- names for what definitions say in place

abbrev is_barred_at : Option ClassUse → Bool
is_barred_at = elim [ None ↦ false | Some u ↦ u.barred_item ]

-- ---- what a Class entry stands for

class_at_is : (q : Program) (from : List ℕ) (pool : List Entry) (n : ℕ) (name : List ℕ) → class_name_at pool n ≡ Some name → class_at (map (judge q from pool) pool) n ≡ Some (class_use q from name)
unfolding class_name_at judge
class_at_is q from pool n name h =
    let r = then_is (utf8_at pool) (option_and_then class_parts (slice_get pool n)) name h in
    ap class_in (judged_at q from pool n (Class r.0) (class_entry (slice_get pool n) r.0 r.1)) ∙ ap (λ (o : Option (List ℕ)). Some (class_use q from (or_empty o))) r.2

-- ---- items

-- what an item names breaks no rule
record ItemGood (table : List Judged) (t : MapType) : Type 0 where
  pub names : item_names table t ≡ None
  pub barred : is_barred table t ≡ false

item_good : (p : Program) (c d : ClassParts) → Known p c d → (t : MapType) → Names (Fits (moved p) (this_name c)) d.pool t → ItemGood (judge_pool (moved p) d) t
item_good p c d k (items.Object n) h =
    let at = class_at_is (moved p) (this_name d) d.pool n h.0 h.1.0 ∙ ap (λ (from : List ℕ). Some (class_use (moved p) from h.0)) k.pair.this in
    record { names = ap (option_and_then (λ u. u.names)) at ∙ h.1.1.0; barred = ap is_barred_at at ∙ h.1.1.1 }
item_good p c d k items.Top h = record { names = refl; barred = refl }
item_good p c d k items.Int h = record { names = refl; barred = refl }
item_good p c d k items.Long h = record { names = refl; barred = refl }
item_good p c d k items.Null h = record { names = refl; barred = refl }
item_good p c d k items.UninitThis h = record { names = refl; barred = refl }
item_good p c d k (items.Uninit o) h = record { names = refl; barred = refl }

names_good : (p : Program) (c d : ClassParts) → Known p c d → (ts : List MapType) → AllName (Fits (moved p) (this_name c)) d.pool ts → first_some (item_names (judge_pool (moved p) d)) ts ≡ None
unfolding first_some
names_good p c d k [] h = refl
names_good p c d k (t ∷ ts) h =
    let table = judge_pool (moved p) d in
    none_or (item_names table t) (first_some (item_names table) ts) (item_good p c d k t h.0).names (names_good p c d k ts h.1)

unbarred : (p : Program) (c d : ClassParts) → Known p c d → (ts : List MapType) → AllName (Fits (moved p) (this_name c)) d.pool ts → list_any (is_barred (judge_pool (moved p) d)) ts ≡ false
unbarred p c d k [] h = refl
unbarred p c d k (t ∷ ts) h =
    let table = judge_pool (moved p) d in
    or_join (is_barred table t) (list_any (is_barred table) ts) (item_good p c d k t h.0).barred (unbarred p c d k ts h.1)

frames_good : (p : Program) (c d : ClassParts) → Known p c d → (fs : List RawFrame) → AllRaw (Fits (moved p) (this_name c)) d.pool fs → first_some (frame_test (judge_pool (moved p) d)) fs ≡ None
unfolding first_some frame_test
frames_good p c d k [] h = refl
frames_good p c d k (f ∷ fs) h =
    let table = judge_pool (moved p) d in
    let barred = list_any (is_barred table) f.locals || list_any (is_barred table) f.stack in
    none_or (or_else (first_some (item_names table) f.locals) (or_else (first_some (item_names table) f.stack) (fault_if barred LeftOut))) (first_some (frame_test table) fs)
    (none_or (first_some (item_names table) f.locals) _ (names_good p c d k f.locals h.0.0)
    (none_or (first_some (item_names table) f.stack) (fault_if barred LeftOut) (names_good p c d k f.stack h.0.1)
    (no_fault barred LeftOut (or_join (list_any (is_barred table) f.locals) (list_any (is_barred table) f.stack) (unbarred p c d k f.locals h.0.0) (unbarred p c d k f.stack h.0.1)))))
    (frames_good p c d k fs h.1)

-- ---- the frames that were written

class_of_item : (pool : List Entry) (n : ℕ) → IsTrue ((named_type pool).fits (items.Object n)) → IsTrue (is_class pool n)
unfolding map_type
class_of_item pool n h = good_is (is_class pool n) Index (second_true (nat_lt n 65536) (is_good (unless (is_class pool n) Index)) h)

old_item : (p : Program) (c d : ClassParts) → Known p c d → (t : MapType) → IsTrue ((named_type c.pool).fits t) → item_names (judge_pool p c) t ≡ None → is_barred (judge_pool p c) t ≡ false → Names (Fits (moved p) (this_name c)) c.pool t
old_item p c d k (items.Object n) fit names barred =
    let from = this_name c in
    let named = named_in c.pool n k.pair.sound (class_of_item c.pool n fit) in
    let at = class_at_is p from c.pool n named.0 named.1 in
    let same = class_use_same p (is_plain p k.linked) from named.0 (class_kept c n named.0 k.pair.kept named.1) in
    (named.0, (named.1, (ap (λ (u : ClassUse). u.names) same ∙ ap (option_and_then (λ u. u.names)) (sym at) ∙ names, ap (λ (u : ClassUse). u.barred_item) same ∙ ap is_barred_at (sym at) ∙ barred)))
old_item p c d k items.Top fit names barred = tt
old_item p c d k items.Int fit names barred = tt
old_item p c d k items.Long fit names barred = tt
old_item p c d k items.Null fit names barred = tt
old_item p c d k items.UninitThis fit names barred = tt
old_item p c d k (items.Uninit o) fit names barred = tt

old_items : (p : Program) (c d : ClassParts) → Known p c d → (ts : List MapType) → IsTrue (list_all (named_type c.pool).fits ts) → first_some (item_names (judge_pool p c)) ts ≡ None → list_any (is_barred (judge_pool p c)) ts ≡ false
    → AllName (Fits (moved p) (this_name c)) c.pool ts
unfolding first_some
old_items p c d k [] fit names barred = tt
old_items p c d k (t ∷ ts) fit names barred =
    let table = judge_pool p c in
    let a = none_of (item_names table t) (first_some (item_names table) ts) names in (
      old_item p c d k t (first_true ((named_type c.pool).fits t) (list_all (named_type c.pool).fits ts) fit) a.0 (first_false (is_barred table t) (list_any (is_barred table) ts) barred),
      old_items p c d k ts (second_true ((named_type c.pool).fits t) (list_all (named_type c.pool).fits ts) fit) a.1 (second_false (is_barred table t) (list_any (is_barred table) ts) barred),
    )

old_frames : (p : Program) (c d : ClassParts) → Known p c d → (fs : List RawFrame) → RawItems c.pool fs → first_some (frame_test (judge_pool p c)) fs ≡ None → AllRaw (Fits (moved p) (this_name c)) c.pool fs
unfolding first_some frame_test
old_frames p c d k [] fit h = tt
old_frames p c d k (f ∷ fs) fit h =
    let table = judge_pool p c in
    let barred = list_any (is_barred table) f.locals || list_any (is_barred table) f.stack in
    let a = none_of (or_else (first_some (item_names table) f.locals) (or_else (first_some (item_names table) f.stack) (fault_if barred LeftOut))) (first_some (frame_test table) fs) h in
    let b = none_of (first_some (item_names table) f.locals) (or_else (first_some (item_names table) f.stack) (fault_if barred LeftOut)) a.0 in
    let e = none_of (first_some (item_names table) f.stack) (fault_if barred LeftOut) b.1 in
    let none = no_again barred LeftOut e.1 in (
      (
        old_items p c d k f.locals fit.0.0 b.0 (first_false (list_any (is_barred table) f.locals) (list_any (is_barred table) f.stack) none),
        old_items p c d k f.stack fit.0.1 e.0 (second_false (list_any (is_barred table) f.locals) (list_any (is_barred table) f.stack) none),
      ),
      old_frames p c d k fs fit.1 a.1,
    )

maps_none : (table : List Judged) (xs : List CodeAttribute) → first_some (attribute_test table) xs ≡ None → first_some (frame_test table) (or_no_frames (first_some maps_of xs)) ≡ None
unfolding first_some
maps_none table [] h = refl
maps_none table (code.Maps name fs ∷ xs) h = (none_of (first_some (frame_test table) fs) (first_some (attribute_test table) xs) h).0
maps_none table (code.Raw name bytes ∷ xs) h = maps_none table xs h

-- ---- handlers

pub caught : (pool : List Entry) (is : List Placed) (h : Handler) → IsTrue ((handler pool is).fits h) → IsTrue (names_caught pool h.class)
unfolding handler
caught pool is h fit =
    let numbers = first_true ((u2 · u2 · u2 · index (names_caught pool)).fits (handler_parts h)) (is_good (target_fault is (handler_parts h))) fit in
    let last = second_true (u2.fits h.at) ((index (names_caught pool)).fits h.class)
    (second_true (u2.fits h.end) ((u2 · index (names_caught pool)).fits (h.at, h.class)) (second_true (u2.fits h.start) ((u2 · u2 · index (names_caught pool)).fits (h.end, (h.at, h.class))) numbers)) in
    good_is (names_caught pool h.class) Index (second_true (u2.fits h.class) _ last)

handler_by : (p : Program) (c d : ClassParts) → Known p c d → (n : ℕ) (b : Bool) → n == 0 ≡ b → IsTrue (b || is_class c.pool n) → (if b then None else option_and_then operand_test (class_at (judge_pool p c) n)) ≡ None
    → (if b then None else option_and_then operand_test (class_at (judge_pool (moved p) d) n)) ≡ None
handler_by p c d k n true e there h = refl
handler_by p c d k n false e there h = ap (λ (j : Option Judged). option_and_then operand_test (class_in j)) (class_stays p c d k n there) ∙ h

handler_good : (p : Program) (c d : ClassParts) → Known p c d → (to : ℕ → ℕ) (h : Handler) → IsTrue (names_caught c.pool h.class) → handler_test (judge_pool p c) h ≡ None → handler_test (judge_pool (moved p) d) (moved_handler to h) ≡ None
unfolding handler_test names_caught
handler_good p c d k to h there old = handler_by p c d k h.class (h.class == 0) refl there old

handlers_good : (p : Program) (c d : ClassParts) → Known p c d → (is : List Placed) (to : ℕ → ℕ) (hs : List Handler) → IsTrue (list_all (handler c.pool is).fits hs) → first_some (handler_test (judge_pool p c)) hs ≡ None
    → first_some (handler_test (judge_pool (moved p) d)) (map (moved_handler to) hs) ≡ None
unfolding first_some
handlers_good p c d k is to [] fit h = refl
handlers_good p c d k is to (x ∷ hs) fit h =
    let a = none_of (handler_test (judge_pool p c) x) (first_some (handler_test (judge_pool p c)) hs) h in
    let f = (handler c.pool is).fits in
    none_or (handler_test (judge_pool (moved p) d) (moved_handler to x)) (first_some (handler_test (judge_pool (moved p) d)) (map (moved_handler to) hs))
    (handler_good p c d k to x (caught c.pool is x (first_true (f x) (list_all f hs) fit)) a.0) (handlers_good p c d k is to hs (second_true (f x) (list_all f hs) fit) a.1)

-- ---- a code

-- what was put for a code
pub record IsCodePut (p : Program) (c : ClassParts) (m : MemberInfo) (b : CodeBody) (pool : List Entry) : Type 0 where
  pub items : AllName (Fits (moved p) (this_name c)) (with_first c m (frames_in b) pool).1 (with_first c m (frames_in b) pool).0
  pub body : IsBody p c (expands p c.pool b.ops) (frames_of (with_first c m (frames_in b) pool).0 b)
      (with_body (expands p c.pool b.ops) (frames_of (with_first c m (frames_in b) pool).0 b) (with_first c m (frames_in b) pool).1)

-- a code whose items and numbers stand in the moved class's pool
record Setup (p : Program) (c d : ClassParts) (b : CodeBody) (first : List MapType) (enter : ℕ) (ms : List Expand) (context : ℕ) : Type 0 where
  pub items : AllName (Fits (moved p) (this_name c)) d.pool first
  pub enters : IsSecurity security.Enter d.pool enter
  pub numbers : AreNumbered p c d.pool (expands p c.pool b.ops) ms
  pub contexts : IsContext d.pool (frames_of first b) context

context_names : (p : Program) (c d : ClassParts) → Known p c d → (n : ℕ) → class_name_at d.pool n ≡ Some (codes "sps/Ctx") → Names (Fits (moved p) (this_name c)) d.pool (items.Object n)
context_names p c d k n at = (codes "sps/Ctx", (at, context_fits (moved p) k.passing (this_name c)))

full_good : (p : Program) (c d : ClassParts) → Known p c d → (to : ℕ → ℕ) (local context : ℕ) (fs : List FullFrame) → IsContext d.pool fs context → AllFull (Fits (moved p) (this_name c)) d.pool fs
    → AllFull (Fits (moved p) (this_name c)) d.pool (map (moved_frame to local context) fs)
full_good p c d k to local context [] at h = tt
full_good p c d k to local context (f ∷ fs) at h = moved_full (Fits (moved p) (this_name c)) d.pool to local context (f ∷ fs) (context_names p c d k context at) h

maps_good : (p : Program) (c d : ClassParts) → Known p c d → (gs : List FullFrame) (o : Option ℕ) → AllFull (Fits (moved p) (this_name c)) d.pool gs → first_some (attribute_test (judge_pool (moved p) d)) (moved_maps gs o) ≡ None
unfolding first_some
maps_good p c d k [] o h = refl
maps_good p c d k (g ∷ gs) None h = refl
maps_good p c d k (g ∷ gs) (Some name) h =
    none_or (first_some (frame_test (judge_pool (moved p) d)) (full_forms None (g ∷ gs))) None (frames_good p c d k (full_forms None (g ∷ gs)) (written_full (Fits (moved p) (this_name c)) d.pool None (g ∷ gs) h)) refl

abbrev new_place : ClassParts → MemberInfo → CodeBody → ℕ → List MapType → ℕ → List Expand → ℕ → ℕ
new_place c m b domain first enter ms old = place_of old 0 (lines (prologue (slots c m) (setting (method_in c m b first) domain) enter) (setting (method_in c m b first) domain) ms b.ops)

-- where a code has no frames, the moved one has none
no_frames : (first : List MapType) (b : CodeBody) (to : ℕ → ℕ) (local context : ℕ) → frames_in b ≡ [] → map (moved_frame to local context) (frames_of first b) ≡ []
unfolding frames_of expand_from
no_frames first b to local context e = ap (λ (fs : List RawFrame). map (moved_frame to local context) (or_none (expand_from first 0 None fs))) e

code_good : (p : Program) (c d : ClassParts) → Known p c d → (m : MemberInfo) (b : CodeBody) → HasCode c b → body_test p (this_name c) (member_desc c m) (judge_pool p c) b ≡ None → Handed (moved p) (this_name c) (new_desc c m) (frames_in b)
    → (domain : ℕ) (first : List MapType) (enter : ℕ) (ms : List Expand) (context : ℕ) → Setup p c d b first enter ms context
    → body_test (moved p) (this_name c) (new_desc c m) (judge_pool (moved p) d) (record {
      max_stack = (moved_by (method_in c m b first) domain enter context ms).max_stack;
      max_locals = (moved_by (method_in c m b first) domain enter context ms).max_locals;
      ops = (moved_by (method_in c m b first) domain enter context ms).ops;
      handlers = (moved_by (method_in c m b first) domain enter context ms).handlers;
      attributes = moved_maps (moved_by (method_in c m b first) domain enter context ms).frames (first_some maps_name b.attributes);
    }) ≡ None
unfolding moved_by expands
code_good p c d k m b has old begins domain first enter ms context u =
    let table = judge_pool p c in
    let now = judge_pool (moved p) d in
    let from = this_name c in
    let s = setting (method_in c m b first) domain in
    let to = new_place c m b domain first enter ms in
    let fit = code_fits c b has in
    let parts = code_parts_of c.pool b fit in
    let a = none_of (units_test table b.ops b.handlers) (frames_test p from (member_desc c m) table b.attributes) old in
    let e = none_of (first_some (op_test table) b.ops) (first_some (handler_test table) b.handlers) a.0 in
    let g = none_of (first_frame_test p from (member_desc c m) b.attributes) (first_some (attribute_test table) b.attributes) a.1 in
    let frames = frames_of first b in
    let raw = old_frames p c d k (frames_in b) (raw_items c.pool (frames_in b) (frames_there c.pool b.attributes parts.attributes)) (maps_none table b.attributes g.1) in
    let full = full_names (Fits (moved p) from) d.pool first b u.items (raw_on (Fits (moved p) from) c.pool d.pool k.pair.front (frames_in b) raw) in
    let local = context_local (method_in c m b first) in
    let gs = map (moved_frame to local context) frames in
    let maps = moved_maps gs (first_some maps_name b.attributes) in
    let ops = (moved_by (method_in c m b first) domain enter context ms).ops in
    let units = none_or (first_some (op_test now) ops) (first_some (handler_test now) (map (moved_handler to) b.handlers)) (moved_good p c d k (slots c m) enter s b.ops ms u.enters u.numbers (ops_named c.pool b fit) e.0 to)
    (handlers_good p c d k b.ops to b.handlers (first_true (list_all (handler c.pool b.ops).fits b.handlers) (u2.fits (length b.handlers)) parts.handlers) e.1) in
    let written = none_or (first_frame_test (moved p) from (new_desc c m) maps) (first_some (attribute_test now) maps) (first_good (moved p) from (new_desc c m) (frames_in b) gs (first_some maps_name b.attributes) (no_frames first b to local context) begins)
    (maps_good p c d k gs (first_some maps_name b.attributes) (full_good p c d k to local context frames u.contexts full)) in
    none_or (units_test now ops (map (moved_handler to) b.handlers)) (frames_test (moved p) from (new_desc c m) now maps) units written

-- what an attribute's code names breaks no rule
abbrev pub AttributeGood : Program → List ℕ → List ℕ → List Judged → Attribute → Type 0
AttributeGood q from desc table (Code name stack locals ops handlers others) = body_test q from desc table (record { max_stack = stack; max_locals = locals; ops = ops; handlers = handlers; attributes = others }) ≡ None
AttributeGood q from desc table (ConstantValue name value) = Unit {0}
AttributeGood q from desc table (Raw name bytes) = Unit {0}

pub code_put_good : (p : Program) (c d : ClassParts) → Known p c d → (m : MemberInfo) (b : CodeBody) → HasCode c b → body_test p (this_name c) (member_desc c m) (judge_pool p c) b ≡ None → Handed (moved p) (this_name c) (new_desc c m) (frames_in b)
    → (domain name : ℕ) (pool : List Entry) → IsCodePut p c m b pool → IsFront (with_code p c domain m name b pool).1 d.pool → AttributeGood (moved p) (this_name c) (new_desc c m) (judge_pool (moved p) d) (with_code p c domain m name b pool).0
unfolding with_code ◌>>◌
code_put_good p c d k m b has old begins domain name pool put later =
    let ks = expands p c.pool b.ops in
    let x = with_first c m (frames_in b) pool in
    let fs = frames_of x.0 b in
    let y = with_body ks fs x.1 in
    let grown : IsFront x.1 d.pool = front_on x.1 y.1 d.pool ((body_grows ks fs).on x.1) later in
    code_good p c d k m b has old begins domain x.0 y.0.enter y.0.kinds y.0.context (record {
      items = names_on (Fits (moved p) (this_name c)) x.1 d.pool grown x.0 put.items;
      enters = security_on security.Enter y.1 d.pool later y.0.enter put.body.enter;
      numbers = numbers_on p c y.1 d.pool later ks y.0.kinds put.body.kinds;
      contexts = context_on y.1 d.pool later fs y.0.context put.body.context;
    })
