-- How many bytes a moved code takes in a class file: their number has 32 bits.
use Rattle.std.proofs.Common.{◌≡◌, ℕ, suc, ◌+◌, ◌*◌, ◌-◌, ◌≤◌, ◌<◌, false, List, [], ◌∷◌, ◌++◌, length, map, replicate, Option, Some, None, refl, ap, ◌∙◌, arith}
use Rattle.std.specs.Prelude.{IsTrue}
use Rattle.std.specs.Int.{to_be_bytes, w16}
use Rattle.std.specs.List.{flat_map}
use Rattle.std.proofs.lemmas.Bool.{lt-ltb}
use Rattle.std.proofs.lemmas.List.{append-nil, length-append, length-map, length-replicate}
use Rattle.jground.specs.jformat.StatefulFormats.{spell_from}
use Rattle.jparts.specs.declared.jpool.entry.Entry.{Entry}
use Rattle.jparts.specs.declared.jcode.op.Handler.{Handler}
use Rattle.jparts.specs.declared.jcode.op.Placed.{Placed}
use Rattle.jparts.specs.jcode.Instructions
use Rattle.jparts.specs.declared.jmaps.types.FullFrame.{FullFrame}
use Rattle.jparts.specs.declared.jmaps.types.MapType.{MapType}
use Rattle.jparts.specs.declared.jmaps.types.MapType.TheVariants as types
use Rattle.jparts.specs.declared.jmaps.types.RawFrame.{RawFrame}
use Rattle.jparts.specs.jmaps.StackMapFormat.{frame, frames, map_type, row}
use Rattle.jparts.specs.jmaps.ExpandedFrames.{full_form, full_forms}
use Rattle.jclass.specs.declared.class.CodeAttribute.TheVariants as code
use Rattle.jclass.specs.declared.class.CodeBody.{CodeBody}
use Rattle.jclass.specs.IndexFormats.{u4}
use Rattle.jclass.specs.CodeFormat.{attribute, code_content, frame_kinds, handler, maps, named_type, ops, saw_maps}
use Rattle.jmove.specs.MovedFrames.{items, items_of, moved_frame, moved_type, widths}

-- ---- frames

type_bytes : (pool : List Entry) (t : MapType) → length ((named_type pool).spell t) ≤ 3
unfolding map_type
type_bytes pool types.Top = (let e : length ((named_type pool).spell types.Top) ≡ 1 = refl in omega arith)
type_bytes pool types.Int = (let e : length ((named_type pool).spell types.Int) ≡ 1 = refl in omega arith)
type_bytes pool types.Long = (let e : length ((named_type pool).spell types.Long) ≡ 1 = refl in omega arith)
type_bytes pool types.Null = (let e : length ((named_type pool).spell types.Null) ≡ 1 = refl in omega arith)
type_bytes pool types.UninitThis = (let e : length ((named_type pool).spell types.UninitThis) ≡ 1 = refl in omega arith)
type_bytes pool (types.Uninit n) = (let e : length ((named_type pool).spell (types.Uninit n)) ≡ 3 = refl in omega arith)
type_bytes pool (types.Object n) = (let e : length ((named_type pool).spell (types.Object n)) ≡ 3 = refl in omega arith)

types_bytes : (pool : List Entry) (ts : List MapType) → length (flat_map (named_type pool).spell ts) ≤ 3 * length ts
types_bytes pool [] = omega arith
types_bytes pool (t ∷ ts) =
    let one = (named_type pool).spell t in
    let rest = flat_map (named_type pool).spell ts in
    let sum : length (one ++ rest) ≡ length one + length rest = length-append one rest in
    let first : length one ≤ 3 = type_bytes pool t in
    let others : length rest ≤ 3 * length ts = types_bytes pool ts in
    omega arith

form_bytes : (pool : List Entry) (e : Option ℕ) (f : FullFrame) → length ((frame frame_kinds (named_type pool)).spell (full_form e f)) ≤ 7 + 3 * (length f.locals + length f.stack)
unfolding frame row
form_bytes pool e f =
    let locals = flat_map (named_type pool).spell f.locals in
    let stack = flat_map (named_type pool).spell f.stack in
    let behind = to_be_bytes w16 (length f.stack) ++ stack in
    let whole : length ((frame frame_kinds (named_type pool)).spell (full_form e f)) ≡ suc (suc (suc (suc (suc (length (locals ++ behind)))))) = refl in
    let sum : length (locals ++ behind) ≡ length locals + length behind = length-append locals behind in
    let last : length behind ≡ suc (suc (length stack)) = refl in
    let a : length locals ≤ 3 * length f.locals = types_bytes pool f.locals in
    let b : length stack ≤ 3 * length f.stack = types_bytes pool f.stack in
    omega arith

-- a moved frame has as many items as were counted
moved_items : (to : ℕ → ℕ) (local context : ℕ) (f : FullFrame) → length (moved_frame to local context f).locals + length (moved_frame to local context f).stack ≡ items local f
moved_items to local context f =
    let front = map (moved_type to) f.locals in
    let tops : List MapType = replicate (local - widths f.locals) types.Top in
    let last : List MapType = types.Object context ∷ [] in
    omega (arith, length-append front (tops ++ last), length-map f.locals (moved_type to), length-append tops last, length-replicate (local - widths f.locals) types.Top, length-map f.stack (moved_type to))

forms_bytes : (pool : List Entry) (to : ℕ → ℕ) (local context : ℕ) (e : Option ℕ) (fs : List FullFrame)
    → length (flat_map (frame frame_kinds (named_type pool)).spell (full_forms e (map (moved_frame to local context) fs))) ≤ 7 * length fs + 3 * items_of local fs
unfolding full_forms
forms_bytes pool to local context e [] = omega arith
forms_bytes pool to local context e (f ∷ fs) =
    let g = moved_frame to local context f in
    let spell = (frame frame_kinds (named_type pool)).spell in
    let one = spell (full_form e g) in
    let rest = flat_map spell (full_forms (Some g.at) (map (moved_frame to local context) fs)) in
    let sum : length (one ++ rest) ≡ length one + length rest = length-append one rest in
    let first : length one ≤ 7 + 3 * (length g.locals + length g.stack) = form_bytes pool e g in
    let count : length g.locals + length g.stack ≡ items local f = moved_items to local context f in
    let others : length rest ≤ 7 * length fs + 3 * items_of local fs = forms_bytes pool to local context (Some g.at) fs in
    let all : items_of local (f ∷ fs) ≡ items local f + items_of local fs = refl in
    omega arith

maps_length : (pool : List Entry) (gs : List RawFrame) → length ((maps pool).spell gs) ≡ suc (suc (length (flat_map (frame frame_kinds (named_type pool)).spell gs)))
unfolding maps frames
maps_length pool gs = refl

pub maps_bytes : (pool : List Entry) (to : ℕ → ℕ) (local context : ℕ) (fs : List FullFrame) → length fs < 65536 → items_of local fs ≤ 16777216 → length ((maps pool).spell (full_forms None (map (moved_frame to local context) fs))) ≤ 50790403
maps_bytes pool to local context fs few small =
    let gs = full_forms None (map (moved_frame to local context) fs) in
    let all = length (flat_map (frame frame_kinds (named_type pool)).spell gs) in
    let whole : length ((maps pool).spell gs) ≡ suc (suc all) = maps_length pool gs in
    let most : all ≤ 7 * length fs + 3 * items_of local fs = forms_bytes pool to local context None fs in
    omega arith

-- ---- a code

handlers_bytes : (pool : List Entry) (ps : List Placed) (hs : List Handler) → length (flat_map (handler pool ps).spell hs) ≡ 8 * length hs
unfolding handler
handlers_bytes pool ps [] = omega arith
handlers_bytes pool ps (h ∷ hs) =
    let rest = flat_map (handler pool ps).spell hs in
    let one : length (flat_map (handler pool ps).spell (h ∷ hs)) ≡ suc (suc (suc (suc (suc (suc (suc (suc (length rest)))))))) = refl in
    let others : length rest ≡ 8 * length hs = handlers_bytes pool ps hs in
    omega arith

pub maps_attribute_bytes : (pool : List Entry) (name : ℕ) (gs : List RawFrame) → length (spell_from (λ t. (attribute pool t).spell) saw_maps false (code.Maps name gs ∷ [])) ≡ suc (suc (suc (suc (suc (suc (length ((maps pool).spell gs)))))))
unfolding spell_from attribute
maps_attribute_bytes pool name gs =
    let text = (maps pool).spell gs in
    let whole : length (spell_from (λ t. (attribute pool t).spell) saw_maps false (code.Maps name gs ∷ [])) ≡ suc (suc (suc (suc (suc (suc (length (text ++ []))))))) = refl in
    whole ∙ ap (λ (l : List ℕ). suc (suc (suc (suc (suc (suc (length l))))))) (append-nil text)

body_bytes : (pool : List Entry) (b : CodeBody) → length ((code_content pool).spell b)
    ≡ 12 + length (Instructions.code.spell b.ops) + 8 * length b.handlers + length (spell_from (λ t. (attribute pool t).spell) saw_maps false b.attributes)
unfolding code_content ops
body_bytes pool b =
    let text = Instructions.code.spell b.ops in
    let hs = flat_map (handler pool b.ops).spell b.handlers in
    let others = spell_from (λ t. (attribute pool t).spell) saw_maps false b.attributes in
    let last = to_be_bytes w16 (length b.attributes) ++ others in
    let rest = (to_be_bytes w16 (length b.handlers) ++ hs) ++ last in
    let one : length ((code_content pool).spell b) ≡ suc (suc (suc (suc (suc (suc (suc (suc (length (text ++ rest))))))))) = refl in
    let two : length (text ++ rest) ≡ length text + length rest = length-append text rest in
    let three : length rest ≡ suc (suc (length (hs ++ last))) = refl in
    let four : length (hs ++ last) ≡ length hs + length last = length-append hs last in
    let five : length last ≡ suc (suc (length others)) = refl in
    let six : length hs ≡ 8 * length b.handlers = handlers_bytes pool b.ops b.handlers in
    omega arith

pub four_bytes : (n : ℕ) → n < 4294967296 → IsTrue (u4.fits n)
four_bytes n h = lt-ltb n 4294967296 h

-- the number of a code's bytes has 32 bits
pub body_fits : (pool : List Entry) (b : CodeBody) → length (Instructions.code.spell b.ops) ≤ 32767 → length b.handlers < 65536 → length (spell_from (λ t. (attribute pool t).spell) saw_maps false b.attributes) ≤ 50790409
    → IsTrue (u4.fits (length ((code_content pool).spell b)))
body_fits pool b text hs others =
    let whole = body_bytes pool b in
    four_bytes (length ((code_content pool).spell b)) (omega arith)
