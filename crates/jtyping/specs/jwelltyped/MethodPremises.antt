-- What typing has to know of a method with code (JVMS 4.10.1.6).
use Rattle.std.specs.Prelude.{ℕ, Bool, List, [], ◌∷◌, ◌++◌, reverse, Option, Some, None, option_and_then, ◌==◌, if◌then◌else◌}
use Rattle.std.specs.List.{find, list_any}
use Rattle.jparts.specs.declared.jpool.entry.Entry.{Entry}
use Rattle.jparts.specs.declared.jcode.op_form.OpForm.{OpForm}
use Rattle.jparts.specs.declared.jcode.op_form.OpForm.TheVariants as forms
use Rattle.jparts.specs.declared.jcode.op_form.PoolForm.TheVariants.{New}
use Rattle.jparts.specs.declared.jcode.op.Placed.{Placed}
use Rattle.jparts.specs.jcode.InstructionForms.{form}
use Rattle.jparts.specs.jcode.Instructions.{covers}
use Rattle.jclass.specs.declared.class.ClassParts.{ClassParts}
use Rattle.jclass.specs.declared.class.CodeBody.{CodeBody}
use Rattle.jclass.specs.declared.class.MemberInfo.{MemberInfo}
use Rattle.jtypes.specs.declared.vtype.Name.{Name}
use Rattle.jtypes.specs.declared.vtype.VType.{VType}
use Rattle.jtypes.specs.declared.vtype.VType.TheVariants.{UninitThis, Object}
use Rattle.jresolution.specs.jprogram.ClassFileParts.{is_static, member_desc, super_name, this_name}
use Rattle.jresolution.specs.jprogram.ProgramClasses.{Program}
use Rattle.jresolution.specs.jprogram.MemberResolution.{is_init}
use Rattle.jresolution.specs.juses.InstructionMeanings.{Make, meant}
use Rattle.jresolution.specs.juses.DescriptorTypes.{Typed, Called, name, there, typed}
use Rattle.jtyping.specs.jrule.InstructionContext.{Here}

pub record Method : Type 0 where
  -- the name of its class
  pub class : Name
  -- the name of the class that this one extends; in a program that links it is there
  pub above : Option Name
  -- it is an `<init>`, and not a static one
  pub is_init : Bool
  -- `this`, where there is one, and the parameters, the first one first
  pub params : List VType
  -- the type of what it returns
  pub returns : Option VType
  -- the pool of its class
  pub pool : List Entry
  pub body : CodeBody

-- ---- a method of a class

-- a static method has no `this`
abbrev pub receiver : Bool → Bool → Name → List VType
receiver is_static is_init class = if is_static then [] else (if is_init then UninitThis else Object class) ∷ []

-- The parameters by a descriptor. In a program that links it is one of a method, and all that it names is there.
abbrev pub params_of : Typed → List VType
params_of = elim [ Called params ret ↦ reverse params | _ ↦ [] ]

-- a method of a class with its code
abbrev pub method_of : Program → ClassParts → MemberInfo → CodeBody → Method
method_of p c m body = record {
  class = name (this_name c);
  above = option_and_then (there p) (super_name c);
  is_init = is_init c m;
  params = receiver (is_static m.flags) (is_init c m) (name (this_name c)) ++ params_of (typed p (member_desc c m));
  returns = elim (typed p (member_desc c m)) [ Called params ret ↦ ret | _ ↦ None ];
  pool = c.pool;
  body = body;
}

-- ---- its `new`s

-- the class of what an instruction makes, if it is a `new`
abbrev pub made : {S : Type 0} → Program → List Entry → OpForm S → Option Name
made p pool (forms.Pool (New i)) = option_and_then (elim [ Make c ↦ Some c | _ ↦ None ]) (meant p pool (New i))
made p pool f = None

-- the class of what the `new` at a place makes; none where no `new` stands
unfoldable pub made_in : Program → List Entry → List Placed → ℕ → Option Name
made_in p pool ops at = option_and_then (λ one. made p pool (form one.op)) (find (λ one. one.at == at) ops)

abbrev pub makes : Program → Method → ℕ → Option Name
makes p m = made_in p m.pool m.body.ops

-- ---- places in it

-- what the rule has to know of a place
abbrev pub here_of : Program → Method → ℕ → Here
here_of p m at = record {
  class = m.class;
  above = m.above;
  is_init = m.is_init;
  returns = m.returns;
  max_stack = m.body.max_stack;
  at = at;
  covered = list_any (covers at) m.body.handlers;
  makes = makes p m;
}
