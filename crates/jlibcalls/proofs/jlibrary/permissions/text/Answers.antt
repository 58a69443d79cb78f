use Rattle.std.proofs.Common.{◌∙◌, List, ℕ, Some, ap}
use Rattle.std.specs.Prelude.{option_map}
use Rattle.jruntime.specs.jstate.HeapMeanings.{store_by}
use Rattle.jlibcalls.proofs.JlibraryProofs.ConstructorArguments.{text_units}
use Rattle.jlibcalls.proofs.jlibrary.permissions.text.Goals as goal

pub returns-in-None : goal.returns-in-None
returns-in-None c p shapes things constants =
    text_units (store_by p shapes things constants c.args.heap.now) c.args.value c.if-is_null.ensures
    ∙ ap (option_map (λ (us : List ℕ). Some us)) (c.in_ok-text_units.ensures p shapes things constants ∙ c.in-None.is)

pub returns-in-Some : goal.returns-in-Some
returns-in-Some c p shapes things constants =
    text_units (store_by p shapes things constants c.args.heap.now) c.args.value c.if-is_null.ensures
    ∙ ap (option_map (λ (us : List ℕ). Some us)) (c.in_ok-text_units.ensures p shapes things constants ∙ c.in-Some.is)
