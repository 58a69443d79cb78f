-- What the rows of the machine ask of a program. A moved program has the same world.
use Rattle.std.specs.Prelude.{ℕ, Bool, false, ◌||◌, List, Option, Some, option_map}
use Rattle.jlib.specs.declared.classes.Thrown.TheVariants as thrown
use Rattle.jlib.specs.declared.classes.LibClass.TheVariants as lib
use Rattle.jtypes.specs.declared.vtype.Name.{Name}
use Rattle.jtypes.specs.declared.vtype.Element.{Element}
use Rattle.jtypes.specs.declared.vtype.VType.{VType}
use Rattle.jtypes.specs.Assignability.{fits_where, is_above_arrays}
use Rattle.jtypes.specs.ClassTrees.{Tree}
use Rattle.jresolution.specs.declared.jprogram.member.CallKind.{CallKind}
use Rattle.jresolution.specs.declared.jprogram.member.ClassId.{ClassId}
use Rattle.jresolution.specs.declared.jprogram.member.ClassId.TheVariants as id
use Rattle.jresolution.specs.declared.jprogram.member.Member.{Member}
use Rattle.jresolution.specs.declared.jprogram.member.Selected.{Selected}
use Rattle.jresolution.specs.declared.jprogram.part.ClassRef.{ClassRef}
use Rattle.jresolution.specs.declared.jprogram.part.ClassRef.TheVariants as refs
use Rattle.jresolution.specs.jprogram.ProgramClasses as classes
use Rattle.jresolution.specs.jprogram.ProgramClasses.{Program}
use Rattle.jresolution.specs.jprogram.MemberResolution as members
use Rattle.jresolution.specs.jprogram.ClassFileParts.{is_public_reach}
use Rattle.jresolution.specs.juses.DescriptorTypes.{name}
use Rattle.jresolution.specs.jlayout.FieldLayout as fields
use Rattle.jsemantics.specs.jmachine.HeapObjects.{library_name}

pub record World : Type 0 where
  pub tree : Tree
  -- the name of a user's class, by its place among the parts
  pub named : ℕ → Name
  -- the class of a name
  pub class : Name → Option ClassRef
  -- the class above a user's
  pub above : ℕ → Option ClassRef
  -- a class has an interface, itself or by a class above it, directly or through others
  pub implements : Name → Name → Bool
  -- the types of the fields of an object of a user's class
  pub layout : ℕ → List VType
  -- where a user's field stands
  pub slot : Member → Option ℕ
  -- what a user's field holds, where it is no array
  pub element : Member → Option Element
  -- the method that is selected where one is called on a class
  pub select : ClassId → Member → CallKind → Selected
  -- a method as it is
  pub itself : Member → Selected
  pub is_public : Member → Bool

abbrev pub class_id : ClassRef → ClassId
class_id = elim [ refs.User i ↦ id.User i | refs.Lib c ↦ id.Lib c ]

unfoldable pub world : Program → World
world p = record {
  tree = classes.tree p;
  named = λ i. name (classes.name_at p (refs.User i));
  class = λ c. option_map classes.ref_of (classes.find p c.0);
  above = λ i. classes.super_at p (refs.User i);
  implements = λ c d. classes.implements p c.0 d.0;
  layout = λ i. fields.layout p (classes.name_at p (refs.User i));
  slot = fields.slot p;
  element = λ m. fields.element (members.desc_of p m);
  select = members.select p;
  itself = λ m. members.as_selected p (Some m);
  is_public = λ m. is_public_reach (members.reach_of p m);
}

-- ---- which type fits which

-- Where the machine runs, every array fits every interface. An array fits Object, and Object fits an interface as programs are typed,
-- so that what fits may go by way of Object.
abbrev pub is_above : World → Name → Bool
is_above w c = is_above_arrays c || w.tree.is_interface c

abbrev pub fits : World → VType → VType → Bool
fits w = fits_where (is_above w) w.tree

-- Whether an object of the first type is one of the second as checkcast, instanceof and aastore ask (JVMS 6.5): an interface is one
-- that its class has, and an array is an object of Object, Cloneable and Serializable.
abbrev pub own_tree : World → Tree
own_tree w = record { is_interface = λ c. false; extends = λ c d. w.tree.extends c d || w.implements c d }

abbrev pub is_instance : World → VType → VType → Bool
is_instance w = fits_where is_above_arrays (own_tree w)

-- objects of a class can be thrown
abbrev pub can_be_thrown : World → Name → Bool
can_be_thrown w c = w.tree.extends c (library_name (lib.Thrown thrown.Throwable))
