use Rattle.std.proofs.Common.{refl, sym, ap, ◌∙◌}
use Rattle.std.specs.Prelude.{option_map}
use Rattle.jresolution.specs.juses.InternedTypes.{named}
use Rattle.jresolution.proofs.JusesProofs.EntryCaches.{class_found, class_no_text, class_no_type}
use Rattle.jresolution.proofs.juses.entries.class_entry.Goals as goal

pub returns-in_default : goal.returns-in_default
returns-in_default c = class_no_text c.args.p.now c.args.texts.pool.now c.args.texts.types.now c.args.name _ refl c.in_default.ensures

pub returns-in_default-2 : goal.returns-in_default-2
returns-in_default-2 c =
    class_no_type c.args.p.now c.args.texts.pool.now c.args.texts.types.now c.args.name c.in-Some.text.now _ refl c.in-Some.ensures
    (ap (option_map (named c.args.p.now)) (sym c.in_default-2.is) ∙ c.in_ok-class.ensures)

pub returns : goal.returns
returns c =
    class_found c.args.p.now c.args.texts.pool.now c.args.texts.types.now c.args.name c.in-Some.text.now c.in-Some-2.class _ refl c.in-Some.ensures
    (ap (option_map (named c.args.p.now)) (sym c.in-Some-2.is) ∙ c.in_ok-class.ensures)
