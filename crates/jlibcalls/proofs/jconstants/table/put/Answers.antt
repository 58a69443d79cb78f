use Rattle.std.proofs.Common.{◌≡◌, ◌∙◌, ◌++◌, ◌∷◌, [], List, ap}
use Rattle.jlibcalls.specs.declared.jconstants.table.MadeText.{MadeText}
use Rattle.jlibcalls.proofs.JconstantsProofs.Tables.{put_kept}
use Rattle.jlibcalls.proofs.jconstants.table.put.Goals as goal

pub returns-clause-table : goal.returns-clause-table
returns-clause-table c =
    let whole : c.push_reserved.new.self.items ≡ c.args.table.now.made.items ++ c.args.one ∷ [] =
    c.push_reserved.ensures.items ∙ ap (λ (xs : List MadeText). xs ++ c.args.one ∷ []) c.in_ok-reserve.ensures.items in
    let kept =
    put_kept c.args.table.now.program.now c.args.table.now.made.items c.push_reserved.new.self.items c.args.one c.args.units c.into_vec.result
    c.args.table.now.objects c.insert.new.self c.args.table.now.known.items whole c.into_vec.ensures c.requires.units c.requires.new c.in_ok-insert.ensures.updates
    c.requires.table.objects c.requires.table.known in
    record { objects = kept.0; known = kept.1 }
