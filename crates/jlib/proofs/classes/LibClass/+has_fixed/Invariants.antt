use Rattle.jlib.specs.LibraryClasses.{height}
use Rattle.jlib.proofs.classes.LibClass.+has_fixed.Given as goal

-- the chain above the class grows shorter
abbrev pub decreases-has_fixed : goal.decreases-has_fixed
decreases-has_fixed l = height l.self
