use Rattle.std.proofs.Common.{drop, refl, sym, ap, ◌∙◌, add-one}
use Rattle.std.specs.Prelude.{option_map}
use Rattle.jtyping.specs.jwelltyped.VerifierTests.{step, walk}
use Rattle.jverify.specs.CheckedMethods.{IsHeld, frames_of, method_of, program_of}
use Rattle.jverify.specs.FrameFacts.{arrived, held_seen}
use Rattle.jverify.proofs.InstructionWalks.{ended, got, rest_is, stepped, stopped, told, unbegun}
use Rattle.jverify.proofs.ServedFrames.{first_arrives, first_held}
use Rattle.jverify.proofs.walk.Checking.walk.Goals as goal

pub loop-i-init : goal.loop-i-init
loop-i-init c = record {
  held = first_held c.args.self.now c.args.first c.first_of-arriving.result c.requires.count c.first_of-arriving.ensures.frame c.first_of-arriving.ensures.known;
  left = ap (walk (program_of c.args.self.now) (method_of c.args.self.now) (frames_of c.args.self.now) (method_of c.args.self.now).body.ops)
      (first_arrives (program_of c.args.self.now) c.args.first c.first_of-arriving.result c.first_of-arriving.ensures.frame c.first_of-arriving.ensures.comes);
}

pub returns-in_default : goal.returns-in_default
returns-in_default c =
    let p = program_of c.args.self.now in
    let ops = (method_of c.args.self.now).body.ops in
    let at = got ops c.loop-i.i _ c.index-ops-i.result c.loop-i-test.true refl c.index-ops-i.is in
    sym (unbegun p (method_of c.args.self.now) (frames_of c.args.self.now) ops c.loop-i.i c.index-ops-i.result (arrived p c.loop-i.arriving) at
    (sym c.in_ok-f.ensures.seen ∙ ap (option_map (held_seen p)) c.in_default.is))
    ∙ c.loop-i.invariant.left

pub step-requires-clause-held : goal.step-requires-clause-held
step-requires-clause-held c = told (IsHeld c.args.self.now) c.in_ok-f.field-0 c.in-Some.f c.in_ok-f.ensures.held c.in-Some.is

pub step-requires-clause-short : goal.step-requires-clause-short
step-requires-clause-short c =
    c.requires.checking.short c.loop-i.i c.index-ops-i.result (got (method_of c.args.self.now).body.ops c.loop-i.i _ c.index-ops-i.result c.loop-i-test.true refl c.index-ops-i.is)

pub returns-in-None : goal.returns-in-None
returns-in-None c =
    let p = program_of c.args.self.now in
    let m = method_of c.args.self.now in
    let ws = frames_of c.args.self.now in
    let ops = (method_of c.args.self.now).body.ops in
    let at = got ops c.loop-i.i _ c.index-ops-i.result c.loop-i-test.true refl c.index-ops-i.is in
    sym (stopped p m ws ops c.loop-i.i c.index-ops-i.result (arrived p c.loop-i.arriving) (held_seen p c.in-Some.f) at
    (sym c.in_ok-f.ensures.seen ∙ ap (option_map (held_seen p)) c.in-Some.is)
    (ap (λ rest. step p m ws c.index-ops-i.result rest (held_seen p c.in-Some.f)) (sym (rest_is ops c.loop-i.i)) ∙ sym c.in_ok-next.ensures.seen ∙ ap (option_map (arrived p)) c.in-None.is))
    ∙ c.loop-i.invariant.left

pub loop-i-preserved : goal.loop-i-preserved
loop-i-preserved c =
    let p = program_of c.args.self.now in
    let m = method_of c.args.self.now in
    let ws = frames_of c.args.self.now in
    let ops = (method_of c.args.self.now).body.ops in
    let at = got ops c.loop-i.i _ c.index-ops-i.result c.loop-i-test.true refl c.index-ops-i.is in
    record {
      held = told (λ a. IsHeld c.args.self.now a.held) c.in_ok-next.field-0 c.in-Some-2.next c.in_ok-next.ensures.held c.in-Some-2.is;
      left =
          ap (λ n. walk p m ws (drop n ops) (arrived p c.in-Some-2.next)) (add-one c.loop-i.i)
          ∙ sym (stepped p m ws ops c.loop-i.i c.index-ops-i.result (arrived p c.loop-i.arriving) (arrived p c.in-Some-2.next) (held_seen p c.in-Some.f) at
          (sym c.in_ok-f.ensures.seen ∙ ap (option_map (held_seen p)) c.in-Some.is)
          (ap (λ rest. step p m ws c.index-ops-i.result rest (held_seen p c.in-Some.f)) (sym (rest_is ops c.loop-i.i)) ∙ sym c.in_ok-next.ensures.seen ∙ ap (option_map (arrived p)) c.in-Some-2.is))
          ∙ c.loop-i.invariant.left;
    }

pub returns : goal.returns
returns c =
    ended (program_of c.args.self.now) (method_of c.args.self.now) (frames_of c.args.self.now) (method_of c.args.self.now).body.ops c.loop-i.i (arrived (program_of c.args.self.now) c.loop-i.arriving) c.loop-i-test.false
    ∙ c.loop-i.invariant.left
