use Rattle.std.proofs.Common.{arith, ap, ◌∙◌, ◌++◌, ◌≤◌, List, ℕ, length, subst, sym}
use Rattle.jgen.specs.GeneratedClasses.{name}
use Rattle.jgen.proofs.TextConcatenation.{name_short}
use Rattle.jgen.proofs.texts.name_of.Goals as goal

pub returns-clause-name : goal.returns-clause-name
returns-clause-name c = c.in_ok-put_name.ensures ∙ ap (λ (l : List ℕ). l ++ name c.args.i) c.new-out.ensures

pub returns-clause-short : goal.returns-clause-short
returns-clause-short c = subst (λ (l : List ℕ). length l ≤ 0xff) (sym (c.in_ok-put_name.ensures ∙ ap (λ (l : List ℕ). l ++ name c.args.i) c.new-out.ensures)) (name_short c.args.i (omega arith))
