-- A program and the moved one have the same classes and fields.
use Rattle.std.proofs.Common.{◌≡◌, ℕ, None, ap, ◌∙◌}
use Rattle.std.proofs.Math.Path.{fun_ext}
use Rattle.jtypes.specs.declared.vtype.Name.{Name}
use Rattle.jresolution.specs.jlayout.FieldLayout as fields
use Rattle.jresolution.specs.declared.jprogram.member.Member.{Member}
use Rattle.jresolution.specs.declared.jprogram.part.ClassRef.TheVariants as refs
use Rattle.jresolution.specs.jprogram.ProgramClasses as classes
use Rattle.jresolution.specs.jprogram.ProgramClasses.{Program}
use Rattle.jresolution.specs.juses.DescriptorTypes.{name}
use Rattle.jsemantics.specs.jmachine.World.{world}
use Rattle.jtyping.specs.jwelltyped.VerifierTests.{WellTyped}
use Rattle.jrewriting.specs.jrewrite.LinkageLaws.{IsLinked}
use Rattle.jrewriting.specs.jrewrite.RewrittenPrograms.{limits, moved}
use Rattle.jrewriting.proofs.JrewriteProofs.MemberPhase.{all_moving}
use Rattle.jrewriting.proofs.JrewriteProofs.PlainPrograms.{is_plain}
use Rattle.jsimulation_laws.specs.relation.ProgramRelation.{SameClasses}
use Rattle.jmoved_laws.proofs.NamesProofs.Classes.{all_implement, name_plain, name_same, same_tree}
use Rattle.jmoved_laws.proofs.NamesProofs.Fields.{element_same, layout_same, slot_same}

layout_at : (p : Program) → IsLinked p → (i : ℕ) → fields.layout (moved p) (classes.name_at (moved p) (refs.User i)) ≡ fields.layout p (classes.name_at p (refs.User i))
layout_at p linked i = ap (fields.layout (moved p)) (name_same p (is_plain p linked) i) ∙ layout_same p linked (classes.name_at p (refs.User i)) (name_plain p (is_plain p linked) i)

pub classes_stay : (p : Program) → IsLinked p → WellTyped p → limits p ≡ None → SameClasses (world p) (world (moved p))
unfolding world
classes_stay p linked well few =
    let is = is_plain p linked in
    record {
      tree = same_tree p is;
      named = fun_ext (λ (i : ℕ). ap name (name_same p is i));
      implements = fun_ext (λ (c : Name). fun_ext (λ (d : Name). all_implement p is c.0 d.0));
      layout = fun_ext (λ (i : ℕ). layout_at p linked i);
      slot = fun_ext (λ (m : Member). slot_same p linked m);
      element = fun_ext (λ (m : Member). element_same p linked (all_moving p linked well few) m);
    }
