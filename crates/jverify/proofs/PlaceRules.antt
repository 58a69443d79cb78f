-- The rule at a place of a method that is being checked.
use Rattle.std.proofs.Common.{◌≡◌, ℕ, Bool, List, length, Option, Some, None, refl, sym, subst, ap, ◌∙◌}
use Rattle.std.specs.Borrow.{Bor}
use Rattle.std.specs.Prelude.{IfSome, option_map}
use Rattle.std.proofs.lemmas.List.{length-map}
use Rattle.jparts.specs.declared.jpool.entry.Entry.{Entry}
use Rattle.jparts.specs.declared.jcode.op_form.Flow.{Flow}
use Rattle.jparts.specs.declared.jcode.op_form.Flow.TheVariants as flows
use Rattle.jparts.specs.declared.jcode.op_form.OpForm.{OpForm}
use Rattle.jparts.specs.declared.jcode.op_form.OpForm.TheVariants as forms
use Rattle.jparts.specs.declared.jcode.op.Switch.{Switch}
use Rattle.jparts.specs.declared.jcode.op.Placed.{Placed}
use Rattle.jparts.specs.jcode.InstructionForms.{form, seen as seen_form, seen_flow}
use Rattle.jtypes.specs.declared.vtype.VType.{VType}
use Rattle.jtypes.specs.TypeFrames.{Frame}
use Rattle.jtypes.specs.ClassTrees.{Tree}
use Rattle.jresolution.specs.jprogram.ProgramClasses.{Program, tree}
use Rattle.jresolution.specs.juses.InternedTypes.{named}
use Rattle.jtyping.specs.declared.jrule.frame.FrameRef.{FrameRef}
use Rattle.jtyping.specs.jrule.FormRules.{by_form}
use Rattle.jtyping.specs.jrule.InstructionContext.{Here}
use Rattle.jtyping.specs.jrule.InternedFrames.{seen, seen_here}
use Rattle.jtyping.specs.jrule.BasicRule.{flow}
use Rattle.jresolution.specs.juses.PoolTables.{pool_at}
use Rattle.jtyping.specs.declared.jrule.place.TypingContext.{TypingContext}
use Rattle.jtyping.proofs.JruleProofs.NewInstructions.{asks_places}
use Rattle.jtyping.specs.jwelltyped.MethodPremises.{here_of, makes}
use Rattle.jverify.specs.declared.walk.Checking.{Checking}
use Rattle.jverify.specs.CheckedMethods.{IsChecking, IsHere, here_in, method_of, program_of}
use Rattle.jverify.specs.NewInstructions.{made_at}
use Rattle.jverify.proofs.LocalCounts.{Keeps, form_keeps}

-- ---- how a switch is lent doesn't count

flow_seen : (t : Tree) (is_init : Bool) (ret : Option VType) (form : Flow (Bor Switch)) (f : Frame) → flow t is_init ret (seen_flow form) f ≡ flow t is_init ret form f
flow_seen t is_init ret (flows.If test by) f = refl
flow_seen t is_init ret (flows.IfInt test by) f = refl
flow_seen t is_init ret (flows.IfRef test by) f = refl
flow_seen t is_init ret (flows.Goto by) f = refl
flow_seen t is_init ret (flows.Switch s) f = refl
flow_seen t is_init ret (flows.Return kind) f = refl
flow_seen t is_init ret flows.Throw f = refl

pub form_seen : (p : Program) (here : Here) (pool : List Entry) (form : OpForm (Bor Switch)) (f : Frame) → by_form p here pool (seen_form form) f ≡ by_form p here pool form f
unfolding by_form
form_seen p here pool (forms.Simple form) f = refl
form_seen p here pool (forms.Local form) f = refl
form_seen p here pool (forms.Stack form) f = refl
form_seen p here pool (forms.Flow form) f = flow_seen (tree p) here.is_init here.returns form f
form_seen p here pool (forms.Array form) f = refl
form_seen p here pool (forms.Pool form) f = refl

-- ---- the number of locals

kept_in : (p : Program) (f : FrameRef) (r : Option FrameRef) → Keeps (seen p f) (option_map (seen p) r) → (most : ℕ) → length f.locals ≡ most → IfSome r (λ g. length g.locals ≡ most)
kept_in p f None keeps most count = tt
kept_in p f (Some g) keeps most count = sym (length-map g.locals (named p)) ∙ keeps ∙ length-map f.locals (named p) ∙ count

pub counted : (p : Program) (here : Here) (pool : List Entry) (form : OpForm (Bor Switch)) (f : FrameRef) (r : Option FrameRef) (most : ℕ)
    → option_map (seen p) r ≡ by_form p here pool form (seen p f) → length f.locals ≡ most → IfSome r (λ g. length g.locals ≡ most)
counted p here pool form f r most e count = kept_in p f r (subst (Keeps (seen p f)) (sym e) (form_keeps p here pool form (seen p f))) most count

-- ---- at a place

pub ruled : (c : Checking) (o : Placed) (h : TypingContext) (f : FrameRef) (one : OpForm (Bor Switch)) (r : Option FrameRef)
    → IsChecking c → IsHere c o.at h → seen_form one ≡ form o.op
    → option_map (seen (program_of c)) r ≡ by_form (program_of c) (seen_here (program_of c) (made_at c.news.now) h) (pool_at (program_of c) h.class) one (seen (program_of c) f)
    → option_map (seen (program_of c)) r ≡ by_form (program_of c) (here_of (program_of c) (method_of c) o.at) (method_of c).pool (form o.op) (seen (program_of c) f)
ruled c o h f one r checking here is e =
    e
    ∙ ap (λ (x : TypingContext). by_form (program_of c) (seen_here (program_of c) (made_at c.news.now) x) (pool_at (program_of c) x.class) one (seen (program_of c) f)) here
    ∙ asks_places (Bor Switch) (program_of c) (seen_here (program_of c) (made_at c.news.now) (here_in c o.at)) (makes (program_of c) (method_of c)) (method_of c).pool one (seen (program_of c) f) checking.news
    ∙ sym (form_seen (program_of c) (here_of (program_of c) (method_of c) o.at) (method_of c).pool one (seen (program_of c) f))
    ∙ ap (λ (x : OpForm Switch). by_form (program_of c) (here_of (program_of c) (method_of c) o.at) (method_of c).pool x (seen (program_of c) f)) is
