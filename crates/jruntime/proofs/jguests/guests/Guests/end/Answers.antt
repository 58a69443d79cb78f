use Rattle.std.proofs.Common.{◌∙◌, sym}
use Rattle.jruntime.proofs.JguestsProofs.ThreadLists.{ended, finished}
use Rattle.jruntime.proofs.jguests.guests.Guests.end.Goals as goal

pub returns-then-has_failed : goal.returns-then-has_failed
returns-then-has_failed g c store =
    ended _ _ (sym c.all_ended.ensures ∙ c.if-not-all_ended.false) (sym (c.has_failed.ensures store) ∙ c.if-has_failed.true)

pub returns : goal.returns
returns g c store =
    finished _ _ (sym c.all_ended.ensures ∙ c.if-not-all_ended.false) (sym (c.has_failed.ensures store) ∙ c.if-has_failed.false)
