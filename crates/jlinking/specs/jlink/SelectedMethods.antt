-- What the selected method is called (JVMS 5.4.6).
use Rattle.std.specs.Prelude.{◌≡◌}
use Rattle.jresolution.specs.declared.jprogram.member.Member.{Member}
use Rattle.jresolution.specs.declared.jprogram.member.Member.TheVariants.{LibMethod, Method}
use Rattle.jresolution.specs.declared.jprogram.member.Selected.{Selected}
use Rattle.jresolution.specs.declared.jprogram.member.Selected.TheVariants as selected
use Rattle.jresolution.specs.jprogram.ProgramClasses.{Program}
use Rattle.jresolution.specs.jprogram.MemberResolution.{desc_of, name_of}

-- a member has the name and the descriptor of another one
abbrev pub IsCalledAs : Program → Member → Member → Type 0
IsCalledAs p m x = (name_of p x ≡ name_of p m) × (desc_of p x ≡ desc_of p m)

-- what is selected for a method has its name and its descriptor, if anything is selected
abbrev pub IsSelectedAs : Program → Member → Selected → Type 0
IsSelectedAs p m (selected.Method x) = IsCalledAs p m (Method x)
IsSelectedAs p m (selected.Abstract x) = IsCalledAs p m x
IsSelectedAs p m (selected.Lib x) = IsCalledAs p m (LibMethod x)
IsSelectedAs p m selected.Missing = Unit {0}
