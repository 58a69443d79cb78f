-- What calls come to in a moved program, object by object.
use Rattle.std.proofs.Common.{◌≡◌, ℕ, Bool, true, false, not, Option, Some, None, refl, ap, sym, ◌∙◌}
use Rattle.std.specs.Prelude.{◌||◌}
use Rattle.jground.specs.jbase.FirstFaults.{fault_if, or_else}
use Rattle.jlib.specs.declared.classes.LibClass.{LibClass}
use Rattle.jtypes.specs.declared.vtype.ArrayType.{ArrayType}
use Rattle.jtypes.specs.declared.vtype.Name.{Name}
use Rattle.jtypes.specs.declared.vtype.VType.{VType}
use Rattle.jtypes.specs.declared.vtype.VType.TheVariants as types
use Rattle.jresolution.specs.declared.jprogram.member.CallKind.TheVariants as kinds
use Rattle.jresolution.specs.declared.jprogram.member.ClassId.{ClassId}
use Rattle.jresolution.specs.declared.jprogram.member.ClassId.TheVariants as id
use Rattle.jresolution.specs.declared.jprogram.member.Member.{Member}
use Rattle.jresolution.specs.declared.jprogram.member.Member.TheVariants.{Method}
use Rattle.jresolution.specs.declared.jprogram.member.MethodId.{MethodId}
use Rattle.jresolution.specs.declared.jprogram.member.Selected.{Selected}
use Rattle.jresolution.specs.declared.jprogram.member.Selected.TheVariants as selected
use Rattle.jresolution.specs.jprogram.ProgramClasses.{Program}
use Rattle.jresolution.specs.jprogram.MemberResolution.{name_of_id}
use Rattle.jresolution.specs.juses.DescriptorTypes.{name}
use Rattle.jsemantics.specs.jmachine.CallTargets.{Target, Pushes, is_hidden, no_access, overflow, reached, unless, wrong_class}
use Rattle.jsemantics.specs.jmachine.HeapObjects.{Object, Array, Bare, Builder, Context, Instance, Permission, Piece, Text, Thread, Thrown, class_of, id_of}
use Rattle.jsemantics.specs.jmachine.World.{World, is_instance, world}
use Rattle.jresolution.specs.jprogram.ClassFileParts.{is_public_reach}
use Rattle.jrewriting.specs.jrewrite.RewrittenPrograms.{moved}
use Rattle.jrewriting.proofs.JrewriteProofs.FinalOverrides.{AllMoving}
use Rattle.jrewriting.proofs.JrewriteProofs.HierarchyPhases.{IsPlain}
use Rattle.jsimulation_laws.specs.relation.InstructionExpansion.{moved_member, moved_target}
use Rattle.jmoved_laws.specs.names.SelectionLaws.{moved_selected}
use Rattle.jmoved_laws.proofs.NamesProofs.Classes.{all_extends, all_implement, name_same}
use Rattle.jmoved_laws.proofs.NamesProofs.MemberSelection.{moved_as, same_as}
use Rattle.jmoved_laws.proofs.NamesProofs.Twins.{moved_twin, same_twin}

-- ---- what is reached

reached_by : (full : Bool) (m : MethodId) → moved_target (unless (fault_if full overflow) (Pushes m)) ≡ unless (fault_if full overflow) (Pushes m)
reached_by true m = refl
reached_by false m = refl

pub reached_moved : (full : Bool) (s : Selected) → reached full (moved_selected s) ≡ moved_target (reached full s)
reached_moved full (selected.Method m) = sym (reached_by full m)
reached_moved full (selected.Lib call) = refl
reached_moved full (selected.Abstract m) = refl
reached_moved full selected.Missing = refl

-- ---- a method as it is

module _ (p : Program) (is : IsPlain p) (all : AllMoving p) where
  pub itself_moved : (m : Member) → (world (moved p)).itself (moved_member m) ≡ moved_selected ((world p).itself m)
  unfolding world
  itself_moved m = moved_as p (λ x. (moved_twin p is all x).abstract) (Some m)

  pub itself_same : (m : Member) → (world (moved p)).itself m ≡ (world p).itself m
  unfolding world
  itself_same m = same_as p (λ x. (same_twin p is all x).abstract) (Some m)

  public_moved : (m : Member) → (world (moved p)).is_public (moved_member m) ≡ (world p).is_public m
  unfolding world
  public_moved m = ap is_public_reach (moved_twin p is all m).like.reach

  pub hidden_moved : (s : Selected) → is_hidden (world (moved p)) (moved_selected s) ≡ is_hidden (world p) s
  hidden_moved (selected.Method m) = ap not (public_moved (Method m))
  hidden_moved (selected.Abstract m) = ap not (public_moved m)
  hidden_moved (selected.Lib call) = refl
  hidden_moved selected.Missing = refl

  -- ---- the class of an object

  pub id_same : (on : ClassId) → name_of_id (moved p) on ≡ name_of_id p on
  id_same (id.User i) = name_same p is i
  id_same (id.Lib c) = refl
  id_same id.Array = refl

  named_same : (i : ℕ) → (world (moved p)).named i ≡ (world p).named i
  unfolding world
  named_same i = ap name (name_same p is i)

  pub class_same : {K : Type 0} (x : Object K) → class_of (world (moved p)).named x ≡ class_of (world p).named x
  class_same (Instance class message fields) = ap types.Object (named_same class)
  class_same (Thrown c message) = refl
  class_same (Text units) = refl
  class_same (Builder units) = refl
  class_same (Piece units) = refl
  class_same (Permission c held) = refl
  class_same (Context kept) = refl
  class_same (Thread number) = refl
  class_same (Bare c) = refl
  class_same (Array a items) = refl

  extends_same : (c d : Name) → (world (moved p)).tree.extends c d ≡ (world p).tree.extends c d
  unfolding world
  extends_same c d = all_extends p is c.0 d.0

  has_same : (c d : Name) → (world (moved p)).implements c d ≡ (world p).implements c d
  unfolding world
  has_same c d = all_implement p is c.0 d.0

  instance_same : (a : VType) (d : Name) → is_instance (world (moved p)) a (types.Object d) ≡ is_instance (world p) a (types.Object d)
  instance_same types.Top d = refl
  instance_same types.Int d = refl
  instance_same types.Long d = refl
  instance_same types.Null d = refl
  instance_same types.UninitThis d = refl
  instance_same (types.Uninit o) d = refl
  instance_same (types.Object c) d =
      ap (λ (b : Bool). b || (world (moved p)).implements c d) (extends_same c d) ∙ ap (λ (b : Bool). (world p).tree.extends c d || b) (has_same c d)
  instance_same (types.Array a) d = refl
  instance_same types.Ctx d = refl

  -- ---- by an interface

  abbrev comes : {K : Type 0} → World → Bool → Name → Object K → Selected → Target
  comes w full owner x found = unless (or_else (fault_if (not (is_instance w (class_of w.named x) (types.Object owner))) wrong_class) (fault_if (is_hidden w found) no_access)) (reached full found)

  unless_moved : (o : Option LibClass) (t : Target) → unless o (moved_target t) ≡ moved_target (unless o t)
  unless_moved None t = refl
  unless_moved (Some c) t = refl

  comes_if : (b c : Bool) (t u : Target) → (b ≡ true → u ≡ moved_target t) → unless (or_else (fault_if (not b) wrong_class) (fault_if c no_access)) u ≡ moved_target (unless (or_else (fault_if (not b) wrong_class) (fault_if c no_access)) t)
  comes_if false c t u h = refl
  comes_if true c t u h = ap (unless (fault_if c no_access)) (h refl) ∙ unless_moved (fault_if c no_access) t

  hidden_if : (b : Bool) (h g : Bool) (u : Target) → (b ≡ true → h ≡ g) → unless (or_else (fault_if (not b) wrong_class) (fault_if h no_access)) u ≡ unless (or_else (fault_if (not b) wrong_class) (fault_if g no_access)) u
  hidden_if false h g u e = refl
  hidden_if true h g u e = ap (λ (c : Bool). unless (fault_if c no_access) u) (e refl)

  pub interface_moved : {K : Type 0} (full : Bool) (owner : Name) (m : Member) (x : Object K)
      → (is_instance (world p) (class_of (world p).named x) (types.Object owner) ≡ true → (world (moved p)).select (id_of x) (moved_member m) kinds.Interface ≡ moved_selected ((world p).select (id_of x) m kinds.Interface))
      → comes (world (moved p)) full owner x ((world (moved p)).select (id_of x) (moved_member m) kinds.Interface) ≡ moved_target (comes (world p) full owner x ((world p).select (id_of x) m kinds.Interface))
  interface_moved full owner m x h =
      let inst = is_instance (world p) (class_of (world p).named x) (types.Object owner) in
      let found = (world p).select (id_of x) m kinds.Interface in
      let there = (world (moved p)).select (id_of x) (moved_member m) kinds.Interface in
      let same : is_instance (world (moved p)) (class_of (world (moved p)).named x) (types.Object owner) ≡ inst =
      ap (λ (a : VType). is_instance (world (moved p)) a (types.Object owner)) (class_same x) ∙ instance_same (class_of (world p).named x) owner in
      ap (λ (b : Bool). unless (or_else (fault_if (not b) wrong_class) (fault_if (is_hidden (world (moved p)) there) no_access)) (reached full there)) same
      ∙ hidden_if inst (is_hidden (world (moved p)) there) (is_hidden (world p) found) (reached full there) (λ has. ap (is_hidden (world (moved p))) (h has) ∙ hidden_moved found)
      ∙ comes_if inst (is_hidden (world p) found) (reached full found) (reached full there) (λ has. ap (reached full) (h has) ∙ reached_moved full found)

-- an object of a class, or an array
pub data Kind {K : Type 0} (p : Program) (x : Object K) : Type 0 where
  OfClass : class_of (world p).named x ≡ types.Object (name (name_of_id p (id_of x))) → Kind p x
  OfArray : id_of x ≡ id.Array → (a : ArrayType) → class_of (world p).named x ≡ types.Array a → Kind p x

pub kind : {K : Type 0} (p : Program) (x : Object K) → Kind p x
unfolding world
kind p (Instance class message fields) = OfClass refl
kind p (Thrown c message) = OfClass refl
kind p (Text units) = OfClass refl
kind p (Builder units) = OfClass refl
kind p (Piece units) = OfClass refl
kind p (Permission c held) = OfClass refl
kind p (Context kept) = OfClass refl
kind p (Thread number) = OfClass refl
kind p (Bare c) = OfClass refl
kind p (Array a items) = OfArray refl a refl
