use Rattle.std.proofs.Common.{◌∙◌, None}
use Rattle.std.specs.Prelude.{[], ◌∷◌}
use Rattle.jsemantics.specs.jmachine.PermissionCalls.{init, made_in}
use Rattle.jruntime.specs.jstate.HeapMeanings.{store_by}
use Rattle.jlibcalls.proofs.JlibraryProofs.ConstructorArguments.{as_row, named_row, no_name, no_object_named, stuck_row}
use Rattle.jlibcalls.proofs.jlibrary.permissions.named.Goals as goal

pub returns-in_default-clause-row : goal.returns-in_default-clause-row
returns-in_default-clause-row g c =
    stuck_row (λ s. init s c.args.cwd.now c.args.init (c.args.name ∷ c.args.object ∷ [])) c.args.permissions.now c.args.heap.now
    (λ p shapes things constants. no_object_named (store_by p shapes things constants c.args.heap.now) c.args.cwd.now c.args.init c.args.name c.args.object c.in_default.ensures)

pub returns-in_default-given-clause-row : goal.returns-in_default-given-clause-row
returns-in_default-given-clause-row g c =
    stuck_row (λ s. init s c.args.cwd.now c.args.init (c.args.name ∷ c.args.object ∷ [])) c.args.permissions.now c.args.heap.now
    (λ p shapes things constants. no_name (store_by p shapes things constants c.args.heap.now) c.args.cwd.now c.args.init c.args.name c.args.object c.in-Some.o c.in-Some.ensures (c.in_ok-given.ensures p shapes things constants ∙ c.in_default-given.is))

pub returns-clause-row : goal.returns-clause-row
returns-clause-row g c =
    as_row c.construct.result (λ s. init s c.args.cwd.now c.args.init (c.args.name ∷ c.args.object ∷ []))
    (λ s. made_in s c.args.cwd.now c.args.init (record { name = c.in-Some-given.given; actions = None; object = c.in-Some.o })) c.args.permissions.now c.construct.new.permissions
    c.args.heap.now c.construct.new.heap
    (λ p shapes things constants. named_row (store_by p shapes things constants c.args.heap.now) c.args.cwd.now c.args.init c.args.name c.args.object c.in-Some.o c.in-Some-given.given c.in-Some.ensures
    (c.in_ok-given.ensures p shapes things constants ∙ c.in-Some-given.is))
    c.construct.ensures.row
