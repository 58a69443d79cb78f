use Rattle.std.proofs.Common.{◌≡◌, List, Some, ap, ◌∙◌}
use Rattle.joutput.specs.jio.ShelfFiles.{File, stored, file_at}
use Rattle.joutput.specs.jio.MemoryDevices.{ShelfState, files_of}
use Rattle.joutput.proofs.JioProofs.Files.{same_elsewhere}
use Rattle.joutput.proofs.jio.memory_shelf.MemoryShelfShelf.write.Goals as goal

pub returns-clause-others : goal.returns-clause-others
returns-clause-others c = λ other ne.
    let same : files_of c.self.inside.files.items ≡ c.args.self.now.files = ap (λ (s : ShelfState). s.files) (c.self.view_is ∙ c.begin_write.ensures.after) in
    ap (λ (fs : List File). Some (file_at fs other)) (c.in_ok-store.ensures.ok ∙ ap (stored c.args.path.now c.args.bytes.now) same) ∙ same_elsewhere c.args.path.now c.args.bytes.now c.args.self.now.files other ne
