-- What is put for the beginning of a method, step by step.
use Rattle.std.proofs.Common.{◌≡◌, ℕ, Bool, true, false, List, [], ◌∷◌, ◌++◌, sym, ◌∙◌, subst}
use Rattle.std.specs.Prelude.{if◌then◌else◌}
use Rattle.jparts.specs.declared.jpool.descriptor.FieldType.{FieldType}
use Rattle.jparts.specs.declared.jpool.entry.Entry.{Entry}
use Rattle.jparts.specs.declared.jmaps.types.MapType.{MapType}
use Rattle.jclass.specs.declared.class.ClassParts.{ClassParts}
use Rattle.jclass.specs.declared.class.MemberInfo.{MemberInfo}
use Rattle.jmove.specs.declared.method.MoveError.{MoveError}
use Rattle.jmove.specs.PoolAdditions.{Adding, Refused, giving, with_class, ◌>>◌}
use Rattle.jmove.proofs.PoolGrowth.{giving_grows}
use Rattle.jresolution.specs.jprogram.ClassFileParts.{is_static, this_name}
use Rattle.jmoveclass.specs.EntryLocals.{class_name, is_reference, item, params_of, this_item, with_beginning, with_item, with_this}
use Rattle.jresolution.specs.jprogram.MemberResolution.{is_init}
use Rattle.jmoveclass.specs.PoolPuts.{with_each}
use Rattle.jmoveclass.proofs.Growth.{others_grow}
use Rattle.jmoveclass.proofs.ItemAdditions.{first_refused, then_is}

-- a choice that is made
then_refused : {A : Type 0} (b : Bool) (f g : Adding A) (e : MoveError) (pool : List Entry) → b ≡ true → Refused e (f pool).1 → Refused e ((if b then f else g) pool).1
then_refused true f g e pool h r = r
then_refused false f g e pool h r = absurd cc

else_refused : {A : Type 0} (b : Bool) (f g : Adding A) (e : MoveError) (pool : List Entry) → b ≡ false → Refused e (g pool).1 → Refused e ((if b then f else g) pool).1
else_refused true f g e pool h r = absurd cc
else_refused false f g e pool h r = r

then_gives : {A : Type 0} (b : Bool) (f g : Adding A) (pool : List Entry) (x : A × List Entry) → b ≡ true → f pool ≡ x → (if b then f else g) pool ≡ x
then_gives true f g pool x h r = r
then_gives false f g pool x h r = absurd cc

else_gives : {A : Type 0} (b : Bool) (f g : Adding A) (pool : List Entry) (x : A × List Entry) → b ≡ false → g pool ≡ x → (if b then f else g) pool ≡ x
else_gives true f g pool x h r = absurd cc
else_gives false f g pool x h r = r

-- ---- a type

pub item_refused : (t : FieldType) (e : MoveError) (pool : List Entry) → is_reference t ≡ true → Refused e (with_class (class_name t) pool).1 → Refused e (with_item t pool).1
item_refused t e pool h r =
    then_refused (is_reference t) (with_class (class_name t) >> λ i. giving (item i t ∷ [])) (giving (item 0 t ∷ [])) e pool h
    (first_refused (with_class (class_name t)) (λ i. giving (item i t ∷ [])) e pool (λ i. giving_grows (item i t ∷ [])) r)

pub item_put : (t : FieldType) (i : ℕ) (pool new : List Entry) → is_reference t ≡ true → with_class (class_name t) pool ≡ (i, new) → with_item t pool ≡ (item i t ∷ [], new)
item_put t i pool new h r =
    then_gives (is_reference t) (with_class (class_name t) >> λ i. giving (item i t ∷ [])) (giving (item 0 t ∷ [])) pool (item i t ∷ [], new) h
    (then_is (with_class (class_name t)) (λ i. giving (item i t ∷ [])) pool new i r)

-- ---- `this`

pub this_refused : (c : ClassParts) (m : MemberInfo) (e : MoveError) (pool : List Entry) → is_static m.flags ≡ false → Refused e (with_class (this_name c) pool).1 → Refused e (with_this c m pool).1
this_refused c m e pool h r =
    else_refused (is_static m.flags) (giving []) (with_class (this_name c) >> λ i. giving (this_item (is_init c m) i ∷ [])) e pool h
    (first_refused (with_class (this_name c)) (λ i. giving (this_item (is_init c m) i ∷ [])) e pool (λ i. giving_grows (this_item (is_init c m) i ∷ [])) r)

pub this_put : (c : ClassParts) (m : MemberInfo) (i : ℕ) (pool new : List Entry) → is_static m.flags ≡ false → with_class (this_name c) pool ≡ (i, new) → with_this c m pool ≡ (this_item (is_init c m) i ∷ [], new)
this_put c m i pool new h r =
    else_gives (is_static m.flags) (giving []) (with_class (this_name c) >> λ i. giving (this_item (is_init c m) i ∷ [])) pool (this_item (is_init c m) i ∷ [], new) h
    (then_is (with_class (this_name c)) (λ i. giving (this_item (is_init c m) i ∷ [])) pool new i r)

-- ---- both

pub this_first_refused : (c : ClassParts) (m : MemberInfo) (e : MoveError) (pool : List Entry) → Refused e (with_this c m pool).1 → Refused e (with_beginning c m pool).1
unfolding with_beginning
this_first_refused c m e pool r = first_refused (with_this c m) (λ this. with_each with_item (params_of c m) >> λ others. giving (this ++ others)) e pool (others_grow c m) r

pub others_refused : (c : ClassParts) (m : MemberInfo) (e : MoveError) (pool mid : List Entry) (this : List MapType) → with_this c m pool ≡ (this, mid) → Refused e (with_each with_item (params_of c m) mid).1 → Refused e (with_beginning c m pool).1
unfolding with_beginning
others_refused c m e pool mid this is r =
    let more = first_refused (with_each with_item (params_of c m)) (λ others. giving (this ++ others)) e mid (λ others. giving_grows (this ++ others)) r in
    subst (λ (x : List MapType × List Entry). Refused e x.1) (sym (then_is (with_this c m) (λ this. with_each with_item (params_of c m) >> λ others. giving (this ++ others)) pool mid this is)) more

pub begun_is : (c : ClassParts) (m : MemberInfo) (pool mid new : List Entry) (this others : List MapType) → with_this c m pool ≡ (this, mid) → with_each with_item (params_of c m) mid ≡ (others, new) → with_beginning c m pool ≡ (this ++ others, new)
unfolding with_beginning
begun_is c m pool mid new this others is more =
    then_is (with_this c m) (λ this. with_each with_item (params_of c m) >> λ others. giving (this ++ others)) pool mid this is
    ∙ then_is (with_each with_item (params_of c m)) (λ others. giving (this ++ others)) mid new others more
