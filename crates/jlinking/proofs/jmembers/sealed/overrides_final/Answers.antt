use Rattle.std.proofs.Common.{◌≡◌, ℕ, ◌+◌, ◌-◌, Bool, List, length, Option, sym, ap, subst, ◌∙◌, arith}
use Rattle.jresolution.specs.declared.jprogram.member.Member.{Member}
use Rattle.jresolution.specs.jprogram.ProgramClasses.{chain, known, onward}
use Rattle.jresolution.specs.jprogram.MemberResolution.{method_at, methods_along}
use Rattle.jlinking.specs.jmembers.FinalOverrides.{Looks, barred_by, has}
use Rattle.jlinking.proofs.JmembersProofs.FinalOverrides.{walk_begin, walk_end, walk_found, walk_on, walk_top}
use Rattle.jlinking.proofs.jmembers.sealed.overrides_final.Goals as goal

pub loop-step-init : goal.loop-step-init
loop-step-init c =
    let all : c.most_steps-steps.result - 0 ≡ length (known c.args.program.now) + 1 = omega (arith, c.most_steps-steps.ensures) in (
      c.most_steps-steps.ensures,
      (
        c.at-at.ensures.at,
        ap (λ (from : List ℕ). barred_by c.args.program.now c.args.below (has c.new-shown.result) (methods_along c.args.program.now c.args.key.name.now c.args.key.desc.now (chain c.args.program.now (c.most_steps-steps.result - 0) from))) c.at-at.ensures.name
            ∙ ap (λ (n : ℕ). barred_by c.args.program.now c.args.below (has c.new-shown.result) (methods_along c.args.program.now c.args.key.name.now c.args.key.desc.now (chain c.args.program.now n c.args.from.now))) all
            ∙ walk_begin c.args.program.now c.args.below (methods_along c.args.program.now c.args.key.name.now c.args.key.desc.now (chain c.args.program.now (length (known c.args.program.now) + 1) c.args.from.now)) c.new-shown.result c.new-shown.ensures.empty,
      ),
    )

pub returns-then-branch : goal.returns-then-branch
returns-then-branch c =
    let seen = subst (λ (o : Option Member). Looks c.args.program.now c.args.below o c.loop-step.shown c.look_at.new.shown c.in_ok-look_at.field-0) c.method_here-above.ensures c.in_ok-look_at.ensures in
    let looks = subst (λ (b : Bool). Looks c.args.program.now c.args.below (method_at c.args.program.now c.args.key.name.now c.args.key.desc.now c.loop-step.at.name.now) c.loop-step.shown c.look_at.new.shown b) c.if-branch.true seen in
    walk_found c.args.program.now c.args.below c.args.key.name.now c.args.key.desc.now c.most_steps-steps.result c.loop-step.step c.loop-step.at.name.now c.loop-step.shown c.look_at.new.shown c.loop-step-test.true looks ∙ c.loop-step.invariant.1.1

pub returns-in-None : goal.returns-in-None
returns-in-None c =
    let seen = subst (λ (o : Option Member). Looks c.args.program.now c.args.below o c.loop-step.shown c.look_at.new.shown c.in_ok-look_at.field-0) c.method_here-above.ensures c.in_ok-look_at.ensures in
    let looks = subst (λ (b : Bool). Looks c.args.program.now c.args.below (method_at c.args.program.now c.args.key.name.now c.args.key.desc.now c.loop-step.at.name.now) c.loop-step.shown c.look_at.new.shown b) c.if-branch.false seen in
    let on = walk_on c.args.program.now c.args.below c.args.key.name.now c.args.key.desc.now c.most_steps-steps.result c.loop-step.step c.loop-step.at.name.now c.loop-step.shown c.look_at.new.shown c.loop-step-test.true looks in
    sym (walk_top c.args.program.now c.args.below c.args.key.name.now c.args.key.desc.now c.look_at.new.shown (chain c.args.program.now (c.most_steps-steps.result - (c.loop-step.step + 1))))
    ∙ ap (λ (o : Option (List ℕ)). barred_by c.args.program.now c.args.below (has c.look_at.new.shown) (methods_along c.args.program.now c.args.key.name.now c.args.key.desc.now (onward (chain c.args.program.now (c.most_steps-steps.result - (c.loop-step.step + 1))) o))) c.in-None.ensures.name
    ∙ sym on ∙ c.loop-step.invariant.1.1

pub loop-step-preserved : goal.loop-step-preserved
loop-step-preserved c =
    let seen = subst (λ (o : Option Member). Looks c.args.program.now c.args.below o c.loop-step.shown c.look_at.new.shown c.in_ok-look_at.field-0) c.method_here-above.ensures c.in_ok-look_at.ensures in
    let looks = subst (λ (b : Bool). Looks c.args.program.now c.args.below (method_at c.args.program.now c.args.key.name.now c.args.key.desc.now c.loop-step.at.name.now) c.loop-step.shown c.look_at.new.shown b) c.if-branch.false seen in
    let on = walk_on c.args.program.now c.args.below c.args.key.name.now c.args.key.desc.now c.most_steps-steps.result c.loop-step.step c.loop-step.at.name.now c.loop-step.shown c.look_at.new.shown c.loop-step-test.true looks in (
      c.loop-step.invariant.0,
      (
        c.in-Some.ensures.at,
        ap (λ (o : Option (List ℕ)). barred_by c.args.program.now c.args.below (has c.look_at.new.shown) (methods_along c.args.program.now c.args.key.name.now c.args.key.desc.now (onward (chain c.args.program.now (c.most_steps-steps.result - (c.loop-step.step + 1))) o))) c.in-Some.ensures.name
            ∙ sym on ∙ c.loop-step.invariant.1.1,
      ),
    )

pub returns : goal.returns
returns c =
    sym (walk_end c.args.program.now c.args.below c.args.key.name.now c.args.key.desc.now c.most_steps-steps.result c.loop-step.step c.loop-step.at.name.now c.loop-step.shown c.loop-step-test.false) ∙ c.loop-step.invariant.1.1
