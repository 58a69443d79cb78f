-- What is put for a class only grows its pool.
use Rattle.std.proofs.Common.{ℕ, Bool, true, false, List, [], ◌∷◌, ◌++◌}
use Rattle.std.specs.Prelude.{if◌then◌else◌}
use Rattle.jparts.specs.declared.jpool.descriptor.FieldType.{FieldType}
use Rattle.jparts.specs.declared.jpool.entry.Entry.TheVariants as entries
use Rattle.jparts.specs.declared.jmaps.types.MapType.{MapType}
use Rattle.jparts.specs.declared.jmaps.types.RawFrame.{RawFrame}
use Rattle.jclass.specs.declared.class.Attribute.{Attribute}
use Rattle.jclass.specs.declared.class.Attribute.TheVariants.{Code, ConstantValue, Raw}
use Rattle.jclass.specs.declared.class.ClassParts.{ClassParts}
use Rattle.jclass.specs.declared.class.CodeBody.{CodeBody}
use Rattle.jclass.specs.declared.class.MemberInfo.{MemberInfo}
use Rattle.jmove.specs.declared.method.Expand.{Expand}
use Rattle.jmove.specs.declared.method.MethodIn.{MethodIn}
use Rattle.jmove.specs.PoolAdditions.{Adding, giving, with_body, with_class, with_text, ◌>>◌}
use Rattle.jmove.specs.MethodExpansion.{moved_by}
use Rattle.jmove.proofs.PoolGrowth.{Grows, body_grows, class_grows, entry_grows, giving_grows, then_grows}
use Rattle.jresolution.specs.jprogram.ProgramClasses.{Program}
use Rattle.jresolution.specs.jprogram.ClassFileParts.{is_static, this_name}
use Rattle.jmoveclass.specs.EntryLocals.{class_name, is_reference, item, params_of, this_item, with_beginning, with_item, with_this}
use Rattle.jresolution.specs.jprogram.MemberResolution.{is_init}
use Rattle.jmoveclass.specs.CallExpansion.{expands}
use Rattle.jmoveclass.specs.MovedMembers.{kept_alone, method_in, moved_code, moved_member, new_desc, with_attribute, with_code, with_first, with_method, with_moved}
use Rattle.jmoveclass.specs.PoolPuts.{with_each}
use Rattle.jmoveclass.proofs.ItemAdditions.{each_grows}
use Rattle.jclass.specs.CodeFormat.{frames_in}

if_grows : {A : Type 0} (b : Bool) (f g : Adding A) → Grows f → Grows g → Grows (if b then f else g)
if_grows true f g F G = F
if_grows false f g F G = G

pub item_grows : (t : FieldType) → Grows (with_item t)
item_grows t =
    if_grows (is_reference t) (with_class (class_name t) >> λ i. giving (item i t ∷ [])) (giving (item 0 t ∷ []))
    (then_grows (with_class (class_name t)) (λ i. giving (item i t ∷ [])) (class_grows (class_name t)) (λ i. giving_grows (item i t ∷ []))) (giving_grows (item 0 t ∷ []))

pub this_grows : (c : ClassParts) (m : MemberInfo) → Grows (with_this c m)
this_grows c m =
    if_grows (is_static m.flags) (giving []) (with_class (this_name c) >> λ i. giving (this_item (is_init c m) i ∷ [])) (giving_grows [])
    (then_grows (with_class (this_name c)) (λ i. giving (this_item (is_init c m) i ∷ [])) (class_grows (this_name c)) (λ i. giving_grows (this_item (is_init c m) i ∷ [])))

pub others_grow : (c : ClassParts) (m : MemberInfo) (this : List MapType) → Grows (with_each with_item (params_of c m) >> λ others. giving (this ++ others))
others_grow c m this = then_grows (with_each with_item (params_of c m)) (λ others. giving (this ++ others)) (each_grows with_item item_grows (params_of c m)) (λ others. giving_grows (this ++ others))

pub beginning_grows : (c : ClassParts) (m : MemberInfo) → Grows (with_beginning c m)
unfolding with_beginning
beginning_grows c m = then_grows (with_this c m) (λ this. with_each with_item (params_of c m) >> λ others. giving (this ++ others)) (this_grows c m) (others_grow c m)

pub first_grows : (c : ClassParts) (m : MemberInfo) (fs : List RawFrame) → Grows (with_first c m fs)
first_grows c m [] = giving_grows []
first_grows c m (f ∷ fs) = beginning_grows c m

pub moved_grows : (domain : ℕ) (ks : List Expand) (name : ℕ) (b : CodeBody) (m : MethodIn) → Grows (with_moved domain ks name b m)
moved_grows domain ks name b m =
    then_grows (with_body ks m.frames) (λ x. giving (moved_code name b (moved_by m domain x.enter x.context x.kinds))) (body_grows ks m.frames)
    (λ x. giving_grows (moved_code name b (moved_by m domain x.enter x.context x.kinds)))

pub code_grows : (p : Program) (c : ClassParts) (domain : ℕ) (m : MemberInfo) (name : ℕ) (b : CodeBody) → Grows (with_code p c domain m name b)
unfolding with_code
code_grows p c domain m name b =
    then_grows (with_first c m (frames_in b)) (λ first. with_moved domain (expands p c.pool b.ops) name b (method_in c m b first)) (first_grows c m (frames_in b))
    (λ first. moved_grows domain (expands p c.pool b.ops) name b (method_in c m b first))

pub attribute_grows : (p : Program) (c : ClassParts) (domain : ℕ) (m : MemberInfo) (a : Attribute) → Grows (with_attribute p c domain m a)
attribute_grows p c domain m (Code name stack locals ops handlers others) =
    let b : CodeBody = record { max_stack = stack; max_locals = locals; ops = ops; handlers = handlers; attributes = others } in
    then_grows (with_code p c domain m name b) (λ a. giving (a ∷ [])) (code_grows p c domain m name b) (λ a. giving_grows (a ∷ []))
attribute_grows p c domain m (Raw name bytes) = giving_grows (kept_alone c.pool (Raw name bytes))
attribute_grows p c domain m (ConstantValue name value) = giving_grows (kept_alone c.pool (ConstantValue name value))

pub attributes_grow : (p : Program) (c : ClassParts) (domain : ℕ) (m : MemberInfo) (desc : ℕ) → Grows (with_each (with_attribute p c domain m) m.attributes >> λ attributes. giving (moved_member m desc attributes ∷ []))
attributes_grow p c domain m desc =
    then_grows (with_each (with_attribute p c domain m) m.attributes) (λ attributes. giving (moved_member m desc attributes ∷ [])) (each_grows (with_attribute p c domain m) (attribute_grows p c domain m) m.attributes)
    (λ attributes. giving_grows (moved_member m desc attributes ∷ []))

pub method_grows : (p : Program) (c : ClassParts) (domain : ℕ) (m : MemberInfo) → Grows (with_method p c domain m)
unfolding with_method
method_grows p c domain m =
    then_grows (with_text (new_desc c m)) (λ desc. with_each (with_attribute p c domain m) m.attributes >> λ attributes. giving (moved_member m desc attributes ∷ []))
    (entry_grows (entries.Utf8 (new_desc c m))) (attributes_grow p c domain m)
