-- Which objects are of which classes.
use Rattle.std.proofs.Common.{◌≡◌, ◌∙◌, Bool, true, false, Option, Some, None, refl, sym, ap}
use Rattle.std.specs.Prelude.{option_map}
use Rattle.jlib.specs.LibraryClasses as library
use Rattle.jlib.specs.declared.classes.LibClass.{LibClass}
use Rattle.jlib.specs.declared.classes.LibClass.TheVariants as lib
use Rattle.jlib.specs.declared.classes.Thrown.TheVariants as thrown
use Rattle.jlib.specs.declared.side.Side.{Side}
use Rattle.jlib.specs.declared.side.Side.TheVariants.{Source, Passing}
use Rattle.jlinking.specs.jlink.LinkedPrograms.{Links}
use Rattle.jlinking.specs.jlink.ClassOrder.{in_order}
use Rattle.jsemantics.specs.jmachine.Unwinding.{is_caught}
use Rattle.jsemantics.specs.jmachine.World.{fits, is_instance, world}
use Rattle.jresolution.specs.declared.jprogram.part.ClassRef.TheVariants as refs
use Rattle.jresolution.specs.jprogram.ProgramClasses.{Class, Program, User, Lib, find, holds, is_interface, ref_of}
use Rattle.jresolution.specs.jprogram.OrderedPrograms.{StandsInOrder}
use Rattle.jtyping.specs.jrule.PoolEffects.{throwable}
use Rattle.jtypes.specs.declared.vtype.ArrayType.{ArrayType}
use Rattle.jtypes.specs.declared.vtype.VType.{VType}
use Rattle.jtypes.specs.declared.vtype.VType.TheVariants as types
use Rattle.jresolution.specs.declared.juses.types.TypeRef.{TypeRef}
use Rattle.jresolution.specs.juses.InternedTypes.{named}

pub caught_none : (p : Program) (thrown : VType) (o : Option VType) (t : Option TypeRef) → option_map (named p) t ≡ o → t ≡ None
    → false ≡ is_caught p thrown o
caught_none p thrown o t h e = ap (is_caught p thrown) (sym (ap (option_map (named p)) e) ∙ h)

pub caught_some : (p : Program) (thrown : VType) (o : Option VType) (t : Option TypeRef) (x : TypeRef) (b : Bool) → option_map (named p) t ≡ o → t ≡ Some x
    → b ≡ is_instance (world p) thrown (named p x) → b ≡ is_caught p thrown o
caught_some p thrown o t x b h e is = is ∙ ap (is_caught p thrown) (sym (ap (option_map (named p)) e) ∙ h)

-- ---- what is thrown

abbrev root : LibClass
root = lib.Thrown thrown.Throwable

on_both : (side : Side) → library.stands_on side root ≡ true
on_both Source = refl
on_both Passing = refl

faceless : (o : Option Class) → option_map ref_of o ≡ Some (refs.Lib root) → holds is_interface o ≡ false
faceless None e = cc
faceless (Some (User i c)) e = cc
faceless (Some (Lib d)) e = let same : d ≡ root = cc in ap library.is_interface same

pub no_array : (p : Program) → Links p
    → ((q : Program) (c : LibClass) → StandsInOrder q → library.stands_on q.side c ≡ true → option_map ref_of (find q (library.name_of c)) ≡ Some (refs.Lib c))
    → (a : ArrayType) → fits (world p) (types.Array a) throwable ≡ false
unfolding world
no_array p links law a = faceless (find p (library.name_of root)) (law p root (in_order p links) (on_both p.side))
