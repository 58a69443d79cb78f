use Rattle.std.proofs.Common.{◌≡◌, ℕ, List, ◌∙◌, refl}
use Rattle.jparts.specs.declared.jpool.entry.Entry.{Entry}
use Rattle.jclass.specs.declared.class.Attribute.{Attribute}
use Rattle.jclass.specs.declared.class.ClassParts.{ClassParts}
use Rattle.jclass.specs.declared.class.MemberInfo.{MemberInfo}
use Rattle.jclass.proofs.class.ClassParts.copy.Goals as goal

abbrev with_lists : ClassParts → List Entry → List ℕ → List MemberInfo → List MemberInfo → List Attribute → ClassParts
with_lists c pool interfaces fields methods attributes = record {
  minor = c.minor;
  major = c.major;
  pool = pool;
  flags = c.flags;
  this_class = c.this_class;
  super_class = c.super_class;
  interfaces = interfaces;
  fields = fields;
  methods = methods;
  attributes = attributes;
}

-- the same lists make the same parts
same_parts : (c : ClassParts) (pool : List Entry) (interfaces : List ℕ) (fields methods : List MemberInfo) (attributes : List Attribute) → pool ≡ c.pool
    → interfaces ≡ c.interfaces → fields ≡ c.fields → methods ≡ c.methods → attributes ≡ c.attributes → with_lists c pool interfaces fields methods attributes ≡ c
same_parts c pool interfaces fields methods attributes p i f m a = rw (p, i, f, m, a) refl

pub returns : goal.returns
returns c =
    same_parts c.args.self.now _ _ _ _ _ c.in_ok-pool.ensures c.in_ok-interfaces.ensures
    (c.in_ok-fields.ensures ∙ c.as_slice.ensures) (c.in_ok-methods.ensures ∙ c.as_slice-2.ensures) (c.in_ok-attributes.ensures ∙ c.as_slice-3.ensures)
