-- What the typing rule has to know of the place where an instruction stands (JVMS 4.10.1.1).
use Rattle.std.specs.Prelude.{ℕ, Bool, Option}
use Rattle.jtypes.specs.declared.vtype.Name.{Name}
use Rattle.jtypes.specs.declared.vtype.VType.{VType}

pub record Here : Type 0 where
  -- the name of the class
  pub class : Name
  -- the name of the class that it extends
  pub above : Option Name
  -- the method is an `<init>`, and not a static one
  pub is_init : Bool
  -- the type of what the method returns
  pub returns : Option VType
  pub max_stack : ℕ
  -- the instruction's place among the bytes of the code
  pub at : ℕ
  -- a handler covers it
  pub covered : Bool
  -- the class of what the `new` at a place makes; none where no `new` stands
  pub makes : ℕ → Option Name
