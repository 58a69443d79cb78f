use Rattle.std.proofs.Common.{◌≡◌, Some, None, sym, ap, ◌∙◌}
use Rattle.jadder.specs.EntryInterning.{added, put_behind}
use Rattle.jadder.specs.ConstantNumbers.{number_at, number_in}
use Rattle.jadder.proofs.NumberedPools.{added_behind, added_there, least_there}
use Rattle.jadder.proofs.adder.Adder.add.Goals as goal

pub returns-in-Some-clause-value : goal.returns-in-Some-clause-value
returns-in-Some-clause-value c =
    let numbers = c.self.inside.numbers in
    let is : Some c.in-Some.i ≡ number_in numbers c.args.e = c.in-Some.ensures ∙ ap (number_at numbers) (c.as_slice.ensures.value ∙ c.in_ok-text.ensures.text) in
    rw (sym c.self.view_is) (added_there c.args.e c.self.inside.pool numbers c.in-Some.i c.self.invariant c.in_ok-text.ensures.fits is)

pub returns-in-Some-clause-least : goal.returns-in-Some-clause-least
returns-in-Some-clause-least c =
    let numbers = c.self.inside.numbers in
    let is : Some c.in-Some.i ≡ number_in numbers c.args.e = c.in-Some.ensures ∙ ap (number_at numbers) (c.as_slice.ensures.value ∙ c.in_ok-text.ensures.text) in
    rw (sym c.self.view_is) (least_there c.args.e c.self.inside.pool numbers c.in-Some.i c.self.invariant c.in_ok-text.ensures.fits is)

pub returns-clause-value : goal.returns-clause-value
returns-clause-value c =
    let numbers = c.self.inside.numbers in
    let is : None ≡ number_in numbers c.args.e = c.in_default.ensures ∙ ap (number_at numbers) (c.as_slice.ensures.value ∙ c.in_ok-text.ensures.text) in
    let behind : added c.args.e c.args.self.now ≡ put_behind c.args.e c.args.self.now = rw (sym c.self.view_is) (added_behind c.args.e c.self.inside.pool numbers c.self.invariant c.in_ok-text.ensures.fits is) in
    rw behind c.append.ensures.value
