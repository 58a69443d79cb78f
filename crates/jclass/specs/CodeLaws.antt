-- The laws of frames, handlers and code as formats, which the readers of blocks cite.
use Rattle.std.proofs.Common.{◌≡◌, ℕ, ◌≤◌, Bool, false, ◌&&◌, ◌⊎◌, List, [], ◌∷◌, length, Option, Some, None, Result, Ok, Err, refl, sym, ap, subst, ◌∙◌, arith, inl, inr}
use Rattle.std.specs.Prelude.{IsTrue, ◌-◌}
use Rattle.std.specs.List.{list_all}
use Rattle.std.proofs.lemmas.Bool.{cases_Bool}
use Rattle.jground.specs.declared.jformat.error.Fault.{Fault}
use Rattle.jground.specs.jbase.FirstFaults.{or_else, first_some}
use Rattle.jground.specs.jformat.Format.{◌·◌, ◌▹◌, via, is_good, unless}
use Rattle.jground.specs.jformat.BodyFormats.{block, counted}
use Rattle.jground.specs.jformat.StatefulFormats.{counted_from}
use Rattle.jground.proofs.JformatProofs.ReadingSteps.{bind_ok, bind_err, both, first_true, second_true}
use Rattle.jground.proofs.JformatProofs.FormatLaws.{IsFormat, pair_law, then_law, via_law, such_law}
use Rattle.jground.proofs.JformatProofs.Blocks.{IsBody, block_law, whole_law, counted_law}
use Rattle.jground.proofs.JformatProofs.Skims.{passes_law, ahead_law}
use Rattle.jground.proofs.JformatProofs.StatefulFormats.{counted_from_law}
use Rattle.jparts.specs.declared.jmaps.types.RawFrame.{RawFrame}
use Rattle.jparts.specs.jmaps.StackMapFormat.{frames}
use Rattle.jparts.proofs.JmapsProofs.MapLaws.{type_law, frames_law, frames_spelling, frames_fitting}
use Rattle.jparts.specs.declared.jpool.entry.Entry.{Entry}
use Rattle.jparts.specs.declared.jcode.op.Placed.{Placed}
use Rattle.jparts.specs.jcode.Instructions
use Rattle.jparts.proofs.JcodeProofs.CodeLaws as coded
use Rattle.jclass.specs.PoolOperands.{names_well, misnamed}
use Rattle.jclass.specs.declared.class.CodeAttribute.{CodeAttribute}
use Rattle.jclass.specs.declared.class.CodeAttribute.TheVariants as code
use Rattle.jclass.specs.declared.fault.ClassFault.{ClassFault}
use Rattle.jclass.specs.declared.fault.ClassFault.TheVariants as kinds
use Rattle.jclass.specs.declared.fault.ClassFault.TheVariants.{Truncated, Trailing, Index}
use Rattle.jclass.specs.IndexFormats.{u2, u4, index, told}
use Rattle.jclass.specs.FlagRules.{names_caught, is_maps}
use Rattle.jclass.specs.Attributes.{name_once, content}
use Rattle.jclass.specs.CodeFormat.{frame_kinds, plain_type, type_fault, named_type, maps, attribute_from, attribute_parts, attribute, saw_maps, code_fault, none_misnamed, ops}
use Rattle.jclass.specs.CodeFormat.{handler_parts, target_fault, handler, code_length, behind_ops, code_content, code_body}
use Rattle.jclass.specs.ProofNames.{length_fault}
use Rattle.jclass.specs.AttributeLaws.{u2_law, u4_law, index_law, content_law, name_once_law}

-- ---- frames

pub plain_law : IsBody (frames frame_kinds plain_type)
plain_law = frames_law frame_kinds plain_type (type_law frame_kinds)

pub named_law : (pool : List Entry) → IsBody (frames frame_kinds (named_type pool))
named_law pool = frames_law frame_kinds (named_type pool) (such_law (type_fault pool) plain_type (type_law frame_kinds))

pub named_spelling : (pool : List Entry) (fs : List RawFrame)
    → (frames frame_kinds (named_type pool)).spell fs ≡ (frames frame_kinds plain_type).spell fs
named_spelling pool fs = frames_spelling frame_kinds frame_kinds (named_type pool) plain_type refl fs

pub named_fitting : (pool : List Entry) (fs : List RawFrame) → IsTrue ((frames frame_kinds (named_type pool)).fits fs)
    → IsTrue ((frames frame_kinds plain_type).fits fs)
named_fitting pool fs fit = frames_fitting frame_kinds frame_kinds (named_type pool) plain_type
    (λ t f. first_true (plain_type.fits t) (is_good (type_fault pool t)) f) fs fit

pub maps_law : (pool : List Entry) → IsBody (maps pool)
unfolding maps
maps_law pool = passes_law (frames frame_kinds plain_type).read (λ fs. fs) (λ _. frames frame_kinds (named_type pool)) (λ _. named_law pool)
    (λ _ fs fit. ap (frames frame_kinds plain_type).read (named_spelling pool fs) ∙ plain_law.again fs (named_fitting pool fs fit)) plain_law.within

attribute_back : (a : ℕ × (List RawFrame ⊎ List ℕ)) → attribute_parts (attribute_from a) ≡ a
attribute_back (name, inl fs) = refl
attribute_back (name, inr bytes) = refl

attribute_forth : (a : CodeAttribute) → attribute_from (attribute_parts a) ≡ a
attribute_forth (code.Maps name fs) = refl
attribute_forth (code.Raw name bytes) = refl

pub attribute_law : (pool : List Entry) (seen : Bool) → IsFormat (attribute pool seen)
unfolding attribute
attribute_law pool seen =
    via_law attribute_from attribute_parts (name_once pool (is_maps pool) kinds.Maps seen
    ▹ λ i. content (is_maps pool i) (maps pool)) (λ a fit. attribute_back a) (λ a fit. attribute_forth a)
    (then_law (name_once pool (is_maps pool) kinds.Maps seen) (λ i. content (is_maps pool i) (maps pool))
    (name_once_law pool (is_maps pool) kinds.Maps seen) (λ i. content_law (is_maps pool i) (maps pool) (maps_law pool)))

-- ---- handlers

four_law : IsFormat (u2 · u2 · u2 · u2)
four_law = pair_law u2 _ u2_law (pair_law u2 _ u2_law (pair_law u2 u2 u2_law u2_law))

three_law : (pool : List Entry) → IsFormat (u2 · u2 · u2 · index (names_caught pool))
three_law pool = pair_law u2 _ u2_law (pair_law u2 _ u2_law (pair_law u2 _ u2_law (index_law (names_caught pool))))

looser : (pool : List Entry) (p : ℕ × (ℕ × (ℕ × ℕ))) → IsTrue ((u2 · u2 · u2 · index (names_caught pool)).fits p)
    → IsTrue ((u2 · u2 · u2 · u2).fits p)
looser pool p fit =
    let a = first_true (u2.fits p.0) ((u2 · u2 · index (names_caught pool)).fits p.1) fit in
    let bs = second_true (u2.fits p.0) ((u2 · u2 · index (names_caught pool)).fits p.1) fit in
    let b = first_true (u2.fits p.1.0) ((u2 · index (names_caught pool)).fits p.1.1) bs in
    let cs = second_true (u2.fits p.1.0) ((u2 · index (names_caught pool)).fits p.1.1) bs in
    let c = first_true (u2.fits p.1.1.0) ((index (names_caught pool)).fits p.1.1.1) cs in
    let d = first_true (u2.fits p.1.1.1) (is_good (unless (names_caught pool p.1.1.1) Index))
    (second_true (u2.fits p.1.1.0) ((index (names_caught pool)).fits p.1.1.1) cs) in
    both _ _ a (both _ _ b (both _ _ c d))

handler_law : (pool : List Entry) (ps : List Placed) → IsFormat (handler pool ps)
unfolding handler
handler_law pool ps = ahead_law (u2 · u2 · u2 · u2).read handler_parts (target_fault ps)
    (via (λ p. record { start = p.0; end = p.1.0; at = p.1.1.0; class = p.1.1.1 }) handler_parts (u2 · u2 · u2 · index (names_caught pool)))
    (via_law _ handler_parts (u2 · u2 · u2 · index (names_caught pool)) (λ p fit. refl) (λ h fit. refl) (three_law pool))
    (λ h rest fit. four_law.again (handler_parts h) rest (looser pool (handler_parts h) fit)) four_law.reading.within

-- ---- code

pub code_length_law : IsFormat code_length
code_length_law = such_law length_fault u4 u4_law

-- a reading under other names of faults
pub told_ok : {K L A : Type 0} (name : K → L) (r : Result A (Fault K)) (x : A) → told name r ≡ Ok x → r ≡ Ok x
told_ok name (Ok y) x e = cc
told_ok name (Err d) x e = absurd cc

pub told_err : {K L A : Type 0} (name : K → L) (r : Result A (Fault K)) (d : Fault L) → told name r ≡ Err d
    → (c : Fault K) × (r ≡ Err c) × (d.left ≡ c.left)
told_err name (Ok y) d e = absurd cc
told_err {K} {L} name (Err c) d e =
    let made : Fault L = record { left = c.left; kind = name c.kind } in
    let same : made ≡ d = cc in (c, refl, ap (λ (y : Fault L). y.left) (sym same))

none_is : (bytes : List ℕ) (ps qs : List Placed) (o : Option ℕ) → none_misnamed bytes ps o ≡ Ok qs → (o ≡ None) × (ps ≡ qs)
none_is bytes ps qs None e = (refl, cc)
none_is bytes ps qs (Some at) e = absurd cc

misnamed_within : (bytes : List ℕ) (ps : List Placed) (o : Option ℕ) (d : Fault ClassFault) → none_misnamed bytes ps o ≡ Err d → d.left ≤ length bytes
misnamed_within bytes ps None d e = absurd cc
misnamed_within bytes ps (Some at) d e =
    let made : Fault ClassFault = record { left = length bytes - at; kind = Index } in
    let same : made ≡ d = cc in
    subst (λ (y : Fault ClassFault). y.left ≤ length bytes) same (omega arith)

well_or : (pool : List Entry) (p : Placed) (later : Option ℕ) → or_else (misnamed pool p) later ≡ None
    → (IsTrue (names_well pool p.op)) × (later ≡ None)
well_or pool p later e = elim (cases_Bool (names_well pool p.op)) [
  | inl well ↦ (well, rw well at e)
  | inr other ↦ let no : Some p.at ≡ None = rw other at e in absurd cc
]

all_well : (pool : List Entry) (ps : List Placed) → first_some (misnamed pool) ps ≡ None → IsTrue (list_all (λ p. names_well pool p.op) ps)
unfolding first_some
all_well pool [] e = refl
all_well pool (p ∷ ps) e =
    let w = well_or pool p (first_some (misnamed pool) ps) e in
    both _ _ w.0 (all_well pool ps w.1)

none_misnamed_in : (pool : List Entry) (ps : List Placed) → IsTrue (list_all (λ p. names_well pool p.op) ps) → first_some (misnamed pool) ps ≡ None
unfolding first_some
none_misnamed_in pool [] fit = refl
none_misnamed_in pool (p ∷ ps) fit =
    let here = first_true (names_well pool p.op) (list_all (λ q. names_well pool q.op) ps) fit in
    let others = none_misnamed_in pool ps (second_true (names_well pool p.op) (list_all (λ q. names_well pool q.op) ps) fit) in
    rw (here, others) refl

pub ops_law : (pool : List Entry) → IsBody (ops pool)
unfolding ops
ops_law pool = record {
  takes = λ bytes ps fits e.
      let a = bind_ok (told code_fault (Instructions.code.read bytes)) (λ qs. none_misnamed bytes qs (first_some (misnamed pool) qs)) ps e in
      let n = none_is bytes a.0 ps (first_some (misnamed pool) a.0) a.2 in
      let s = coded.code_law.takes bytes a.0 fits (told_ok code_fault (Instructions.code.read bytes) a.0 a.1) in
      subst (λ (qs : List Placed). IsTrue (Instructions.code.fits qs && list_all (λ p. names_well pool p.op) qs)
      × (bytes ≡ Instructions.code.spell qs))
      n.1 (both _ _ s.0 (all_well pool a.0 n.0), s.1);
  again = λ ps fit.
      let one = coded.code_law.again ps (first_true (Instructions.code.fits ps) (list_all (λ p. names_well pool p.op) ps) fit) in
      let none = none_misnamed_in pool ps (second_true (Instructions.code.fits ps) (list_all (λ p. names_well pool p.op) ps) fit) in
      rw (one, none) refl;
  within = λ bytes d e.
      elim (bind_err (told code_fault (Instructions.code.read bytes)) (λ qs. none_misnamed bytes qs (first_some (misnamed pool) qs)) d e) [
        | inl h ↦ let c = told_err code_fault (Instructions.code.read bytes) d h in let le : c.0.left ≤ length bytes =
            coded.code_law.within bytes c.0 c.1 in rw c.2 le
        | inr h ↦ misnamed_within bytes h.0 (first_some (misnamed pool) h.0) d h.2
      ];
}

pub code_content_law : (pool : List Entry) → IsFormat (code_content pool)
unfolding code_content
code_content_law pool = via_law _ _ (u2 · u2 · (block code_length Truncated (ops pool) ▹ behind_ops pool)) (λ p fit. refl) (λ c fit. refl)
    (pair_law u2 _ u2_law (pair_law u2 _ u2_law (then_law (block code_length Truncated (ops pool)) (behind_ops pool)
    (block_law code_length Truncated (ops pool) code_length_law (ops_law pool))
    (λ ps. pair_law (counted u2 (handler pool ps)) (counted_from u2 (attribute pool) saw_maps false)
    (counted_law u2 (handler pool ps) u2_law (handler_law pool ps))
    (counted_from_law u2 (attribute pool) saw_maps u2_law (attribute_law pool) false)))))

pub code_body_law : (pool : List Entry) → IsBody (code_body pool)
code_body_law pool = whole_law Trailing (code_content pool) (code_content_law pool)
