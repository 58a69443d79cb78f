-- A method that is moved: its descriptor, and then its attributes.
use Rattle.std.proofs.Common.{◌≡◌, ℕ, List, [], ◌∷◌, sym, ◌∙◌, subst}
use Rattle.jparts.specs.declared.jpool.entry.Entry.{Entry}
use Rattle.jclass.specs.declared.class.Attribute.{Attribute}
use Rattle.jclass.specs.declared.class.ClassParts.{ClassParts}
use Rattle.jclass.specs.declared.class.MemberInfo.{MemberInfo}
use Rattle.jmove.specs.declared.method.MoveError.{MoveError}
use Rattle.jmove.specs.PoolAdditions.{Refused, giving, with_text, ◌>>◌}
use Rattle.jmove.proofs.PoolGrowth.{giving_grows}
use Rattle.jresolution.specs.jprogram.ProgramClasses.{Program}
use Rattle.jmoveclass.specs.MovedMembers.{moved_member, new_desc, with_attribute, with_method}
use Rattle.jmoveclass.specs.PoolPuts.{with_each}
use Rattle.jmoveclass.proofs.Growth.{attributes_grow}
use Rattle.jmoveclass.proofs.ItemAdditions.{first_refused, then_is}

pub desc_refused : (p : Program) (c : ClassParts) (domain : ℕ) (m : MemberInfo) (e : MoveError) (pool : List Entry) → Refused e (with_text (new_desc c m) pool).1 → Refused e (with_method p c domain m pool).1
unfolding with_method
desc_refused p c domain m e pool r =
    first_refused (with_text (new_desc c m)) (λ desc. with_each (with_attribute p c domain m) m.attributes >> λ attributes. giving (moved_member m desc attributes ∷ [])) e pool (attributes_grow p c domain m) r

pub attributes_refused : (p : Program) (c : ClassParts) (domain : ℕ) (m : MemberInfo) (e : MoveError) (pool mid : List Entry) (desc : ℕ) → with_text (new_desc c m) pool ≡ (desc, mid)
    → Refused e (with_each (with_attribute p c domain m) m.attributes mid).1 → Refused e (with_method p c domain m pool).1
unfolding with_method
attributes_refused p c domain m e pool mid desc is r =
    let more = first_refused (with_each (with_attribute p c domain m) m.attributes) (λ attributes. giving (moved_member m desc attributes ∷ [])) e mid (λ attributes. giving_grows (moved_member m desc attributes ∷ [])) r in
    subst (λ (x : List MemberInfo × List Entry). Refused e x.1)
    (sym (then_is (with_text (new_desc c m)) (λ desc. with_each (with_attribute p c domain m) m.attributes >> λ attributes. giving (moved_member m desc attributes ∷ [])) pool mid desc is)) more

pub method_put : (p : Program) (c : ClassParts) (domain : ℕ) (m : MemberInfo) (pool mid new : List Entry) (desc : ℕ) (attributes : List Attribute) → with_text (new_desc c m) pool ≡ (desc, mid)
    → with_each (with_attribute p c domain m) m.attributes mid ≡ (attributes, new) → with_method p c domain m pool ≡ (moved_member m desc attributes ∷ [], new)
unfolding with_method
method_put p c domain m pool mid new desc attributes is more =
    then_is (with_text (new_desc c m)) (λ desc. with_each (with_attribute p c domain m) m.attributes >> λ attributes. giving (moved_member m desc attributes ∷ [])) pool mid desc is
    ∙ then_is (with_each (with_attribute p c domain m) m.attributes) (λ attributes. giving (moved_member m desc attributes ∷ [])) mid new attributes more
