use Rattle.std.proofs.Common.{◌≡◌, ℕ, false, [], slice_index_or, subst}
use Rattle.jperm.specs.Actions.{bit, file_actions, has_all}
use Rattle.jperm.specs.PermissionTexts.{word_parts}
use Rattle.jperm.proofs.permission.Permission.action_part.Goals as goal

pub returns-in-Property : goal.returns-in-Property
returns-in-Property c =
    let part : c.set_part.result.now ≡ slice_index_or (word_parts (λ action. has_all c.set.result.0 (bit action)) false file_actions) c.args.at [] = c.set_part.ensures in
    rw c.in-Property.is (subst (λ (n : ℕ). c.set_part.result.now ≡ slice_index_or (word_parts (λ action. has_all n (bit action)) false file_actions) c.args.at []) c.set.ensures.value part)

pub returns-in-File : goal.returns-in-File
returns-in-File c =
    let part : c.set_part-in-File.result.now ≡ slice_index_or (word_parts (λ action. has_all c.set-in-File.result.0 (bit action)) false file_actions) c.args.at [] =
    c.set_part-in-File.ensures in
    rw c.in-File.is (subst (λ (n : ℕ). c.set_part-in-File.result.now ≡ slice_index_or (word_parts (λ action. has_all n (bit action)) false file_actions) c.args.at []) c.set-in-File.ensures.value part)
