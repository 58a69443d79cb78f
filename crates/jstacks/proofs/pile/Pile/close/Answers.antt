use Rattle.std.proofs.Common.{◌≡◌, ℕ, ◌+◌}
use Rattle.jstacks.proofs.ListUpdates.{closed_piled, closed_falls, none_left}
use Rattle.jstacks.proofs.pile.Pile.close.Goals as goal

pub invariant_of-self : goal.invariant_of-self
invariant_of-self g c =
    let none = none_left c.pop.result c.pop.new.self.items c.self.inside.starts.len c.pop.new.self.len (λ (_ : ℕ). c.pop.new.self.len + 1 ≡ c.self.inside.starts.len) c.pop.new.self.ok.0 c.pop.ensures.cases in
    rw (c.unwrap_or-self-inside.ensures, c.truncate.ensures.items)
    (closed_falls c.self.inside.start c.self.inside.starts.items c.pop.new.self.items c.pop.result c.self.inside.items.items c.self.invariant.0 c.self.invariant.1 c.pop.ensures.items none)

pub returns : goal.returns
returns g c =
    let none = none_left c.pop.result c.pop.new.self.items c.self.inside.starts.len c.pop.new.self.len (λ (_ : ℕ). c.pop.new.self.len + 1 ≡ c.self.inside.starts.len) c.pop.new.self.ok.0 c.pop.ensures.cases in
    rw (c.unwrap_or-self-inside.ensures, c.truncate.ensures.items)
    (closed_piled c.self.inside.start c.self.inside.starts.items c.pop.new.self.items c.pop.result c.self.inside.items.items c.args.self.now c.self.invariant.1 c.pop.ensures.items none c.self.view_is)
