use Rattle.std.proofs.Common.{◌∙◌}
use Rattle.std.specs.Prelude.{[], ◌∷◌}
use Rattle.jsemantics.specs.jmachine.PermissionCalls.{init, made_in}
use Rattle.jruntime.specs.jstate.HeapMeanings.{store_by}
use Rattle.jlibcalls.proofs.JlibraryProofs.ConstructorArguments.{as_row, no_actions, no_name_with, no_object_with, stuck_row, with_row}
use Rattle.jlibcalls.proofs.jlibrary.permissions.named_with.Goals as goal

pub returns-in_default-clause-row : goal.returns-in_default-clause-row
returns-in_default-clause-row g c =
    stuck_row (λ s. init s c.args.cwd.now c.args.init (c.args.actions ∷ c.args.name ∷ c.args.object ∷ [])) c.args.permissions.now c.args.heap.now
    (λ p shapes things constants. no_object_with (store_by p shapes things constants c.args.heap.now) c.args.cwd.now c.args.init c.args.actions c.args.name c.args.object c.in_default.ensures)

pub returns-in_default-first-clause-row : goal.returns-in_default-first-clause-row
returns-in_default-first-clause-row g c =
    stuck_row (λ s. init s c.args.cwd.now c.args.init (c.args.actions ∷ c.args.name ∷ c.args.object ∷ [])) c.args.permissions.now c.args.heap.now
    (λ p shapes things constants. no_name_with (store_by p shapes things constants c.args.heap.now) c.args.cwd.now c.args.init c.args.actions c.args.name c.args.object c.in-Some.o c.in-Some.ensures (c.in_ok-first.ensures p shapes things constants ∙ c.in_default-first.is))

pub returns-in_default-second-clause-row : goal.returns-in_default-second-clause-row
returns-in_default-second-clause-row g c =
    stuck_row (λ s. init s c.args.cwd.now c.args.init (c.args.actions ∷ c.args.name ∷ c.args.object ∷ [])) c.args.permissions.now c.args.heap.now
    (λ p shapes things constants. no_actions (store_by p shapes things constants c.args.heap.now) c.args.cwd.now c.args.init c.args.actions c.args.name c.args.object c.in-Some.o c.in-Some-first.first c.in-Some.ensures (c.in_ok-first.ensures p shapes things constants ∙ c.in-Some-first.is) (c.in_ok-second.ensures p shapes things constants ∙ c.in_default-second.is))

pub returns-clause-row : goal.returns-clause-row
returns-clause-row g c =
    as_row c.construct.result (λ s. init s c.args.cwd.now c.args.init (c.args.actions ∷ c.args.name ∷ c.args.object ∷ []))
    (λ s. made_in s c.args.cwd.now c.args.init (record { name = c.in-Some-first.first; actions = c.in-Some-second.second; object = c.in-Some.o })) c.args.permissions.now c.construct.new.permissions
    c.args.heap.now c.construct.new.heap
    (λ p shapes things constants. with_row (store_by p shapes things constants c.args.heap.now) c.args.cwd.now c.args.init c.args.actions c.args.name c.args.object c.in-Some.o c.in-Some-first.first c.in-Some-second.second c.in-Some.ensures
    (c.in_ok-first.ensures p shapes things constants ∙ c.in-Some-first.is) (c.in_ok-second.ensures p shapes things constants ∙ c.in-Some-second.is))
    c.construct.ensures.row
