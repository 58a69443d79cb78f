-- What a class that was found is.
use Rattle.jresolution.specs.declared.jprogram.found_class.FoundClass.{FoundClass}
use Rattle.jresolution.specs.declared.jprogram.found_class.FoundClass.TheVariants as found
use Rattle.jresolution.specs.jprogram.ProgramClasses.{Class, User, Lib}

abbrev pub seen : FoundClass → Class
seen (found.User i c) = User i c.now
seen (found.Lib c) = Lib c
