use Rattle.std.proofs.Common.{◌≡◌, ◌∙◌, sym}
use Rattle.jparts.specs.declared.jcode.op_form.OpForm.TheVariants as forms
use Rattle.jparts.specs.jcode.InstructionForms.{form}
use Rattle.jtyping.specs.jrule.InternedFrames.{seen}
use Rattle.jverify.proofs.QuietForms.{form_rests}
use Rattle.jverify.proofs.LocalStores.{local_form}
use Rattle.jverify.proofs.InstructionWalks.{told}
use Rattle.jverify.proofs.storing.rests.Goals as goal

pub returns-then-is_quiet : goal.returns-then-is_quiet
returns-then-is_quiet c truth here pool =
    form_rests c.args.p.now here pool (form c.args.op.now) (seen c.args.p.now c.args.f.now) (sym c.is_quiet.ensures ∙ c.if-is_quiet.true)

pub returns-in-Some : goal.returns-in-Some
returns-in-Some c truth here pool =
    local_form c.args.p.now here pool (form c.args.op.now) c.in-Some.form (seen c.args.p.now c.args.f.now)
    (told (λ l. form c.args.op.now ≡ forms.Local l) c.local_of.result c.in-Some.form c.local_of.ensures c.in-Some.is)
    (c.local_rests.ensures truth here.max_stack)
