use Rattle.std.proofs.Common.{rules, [], ◌∷◌, length, ap, refl}
use Rattle.jresolution.specs.jprogram.ProgramClasses.{tree}
use Rattle.jresolution.specs.juses.InternedTypes.{named}
use Rattle.jtyping.specs.jrule.StackOperands.{with_stack}
use Rattle.jtyping.specs.jrule.InternedFrames.{seen}
use Rattle.jtyping.specs.jwelltyped.VerifierTests.{leads_in}
use Rattle.jverify.proofs.FrameSearch.{declared_none, fits_there, found_again, kept_there, same_there}
use Rattle.jverify.proofs.declared.Declared.catches.Goals as goal

pub kept_fits-requires-clause-kept : goal.kept_fits-requires-clause-kept
kept_fits-requires-clause-kept c =
    kept_there c.args.self.now c.self.inside.most (length c.args.f.now.locals) c.self.inside.chains c.self.inside.frames.items c.args.at c.in-Some.k.now c.self.view_is c.self.invariant.0
    (found_again _ c.self.inside.frames.items c.args.at _ _ c.in-Some.ensures c.as_slice.ensures.value (search rules)) c.requires.count

pub kept_fits-requires-clause-same : goal.kept_fits-requires-clause-same
kept_fits-requires-clause-same c =
    same_there c.args.p.now c.args.self.now c.self.inside.most c.self.inside.chains c.self.inside.frames.items c.as_slice-in-Some.result.now c.args.f.now.locals c.args.from c.in-Some.k.now c.shares-same.result
    c.self.view_is c.as_slice-in-Some.ensures.value c.requires.count c.requires.from c.shares-same.ensures

pub returns-in-None : goal.returns-in-None
returns-in-None c =
    ap (leads_in (tree c.args.p.now) (with_stack (seen c.args.p.now c.args.f.now) (named c.args.p.now c.args.caught ∷ [])))
    (declared_none c.args.p.now c.args.self.now c.self.inside.most c.self.inside.chains c.self.inside.frames.items c.args.at c.self.view_is
    (found_again _ c.self.inside.frames.items c.args.at _ _ c.in-None.ensures c.as_slice.ensures.value (search rules)))

pub returns-in-Some : goal.returns-in-Some
returns-in-Some c =
    fits_there c.args.p.now (leads_in (tree c.args.p.now)) (λ f d. refl) c.args.self.now c.self.inside.most c.self.inside.chains c.self.inside.frames.items c.args.at c.in-Some.k.now
    c.args.f.now.locals (c.args.caught ∷ []) (c.args.caught ∷ []) c.args.f.now.flag c.kept_fits.result c.self.view_is
    (found_again _ c.self.inside.frames.items c.args.at _ _ c.in-Some.ensures c.as_slice.ensures.value (search rules)) c.requires.count refl c.kept_fits.ensures
