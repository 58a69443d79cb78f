-- What typing has to know of a program's classes.
use Rattle.std.specs.Prelude.{◌≡◌, ◌⊎◌, Bool, true, codes}
use Rattle.jtypes.specs.declared.vtype.Name.{Name}

pub record Tree : Type 0 where
  -- the name is an interface's
  pub is_interface : Name → Bool
  -- the class of the first name is that of the second or stands below it
  pub extends : Name → Name → Bool

-- what an interface stands below is an interface or `java/lang/Object`
abbrev pub InterfacesExtendTheirs : Tree → Type 0
InterfacesExtendTheirs t = (c d : Name) → t.is_interface c ≡ true → t.extends c d ≡ true
    → (t.is_interface d ≡ true) ⊎ (d.0 ≡ codes "java/lang/Object")
