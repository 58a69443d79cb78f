use Rattle.std.proofs.Common.{ℕ, List, length, refl, sym, ap, subst, ◌∙◌}
use Rattle.std.specs.Prelude.{slice_get}
use Rattle.std.specs.Str.{bytes_eq}
use Rattle.jresolution.specs.jprogram.MemberResolution.{init}
use Rattle.jresolution.specs.jprogram.ClassFileParts.{class_text, text}
use Rattle.jresolution.specs.jprogram.MemberResolution.{resolve_method}
use Rattle.jresolution.specs.declared.juses.descriptors.DescUse.{DescUse}
use Rattle.jresolution.specs.juses.PoolTables.{DescIs, DescWithin, desc_in, desc_named}
use Rattle.jresolution.specs.juses.DescriptorTypes.{there, typed}
use Rattle.jresolution.proofs.JusesProofs.EntryCaches.{method_found, method_no_class, method_no_pair, looked_up_at}
use Rattle.jresolution.proofs.JusesProofs.DescriptorCaches.{desc_is}
use Rattle.jresolution.proofs.juses.entries.method_entry.Goals as goal

pub returns-in_default : goal.returns-in_default
returns-in_default c = method_no_pair c.args.p.now c.args.texts.pool.now c.args.texts.types.now c.args.class c.args.both _ refl c.in_default.ensures

pub returns-in_default-class_there : goal.returns-in_default-class_there
returns-in_default-class_there c =
    method_no_class c.args.p.now c.args.texts.pool.now c.args.texts.types.now c.args.class c.args.both (c.in-Some.name, c.in-Some.desc) _ refl c.in-Some.ensures
    (c.in_default-class_there.ensures ∙ ap (there c.args.p.now) c.class_text-class.ensures)

pub returns : goal.returns
returns c =
    let says : DescIs c.args.p.now c.args.texts.types.now (desc_in (slice_get c.args.texts.descs.now c.in-Some.desc)) (typed c.args.p.now (text c.args.texts.pool.now c.in-Some.desc))
    = desc_is c.args.p.now c.args.texts.types.now c.args.texts.pool.now c.args.texts.descs.now c.in-Some.desc c.requires.descs in
    method_found c.args.p.now c.args.texts.pool.now c.args.texts.types.now c.args.class c.args.both (c.in-Some.name, c.in-Some.desc) c.in-Some-class_there.owner c.in_ok-member.member c.desc_at.result c.eq-is_init.result c.method_kept.result
    c.in-Some.ensures (c.in-Some-class_there.ensures ∙ ap (there c.args.p.now) c.class_text-class.ensures)
    (looked_up_at (resolve_method c.args.p.now) c.in_ok-member.member c.class_text-class.result.now c.text_at-name.result.now c.text_at.result.now
    (class_text c.args.texts.pool.now c.args.class) (text c.args.texts.pool.now c.in-Some.name) (text c.args.texts.pool.now c.in-Some.desc) c.class_text-class.ensures c.text_at-name.ensures c.text_at.ensures c.in_ok-member.ensures)
    (ap (desc_named c.args.p.now c.args.texts.types.now) c.desc_at.ensures ∙ says.means)
    (c.eq-is_init.ensures ∙ ap (λ (n : List ℕ). bytes_eq n init) c.text_at-name.ensures)
    (c.method_kept.ensures.named c.args.p.now c.args.texts.pool.now c.args.texts.types.now) c.method_kept.ensures.member (c.method_kept.ensures.within (length c.args.texts.types.now) (subst (λ (d : DescUse). DescWithin (length c.args.texts.types.now) d) (sym c.desc_at.ensures) says.within))
