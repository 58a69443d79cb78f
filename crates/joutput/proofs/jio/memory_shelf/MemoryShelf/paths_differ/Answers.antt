use Rattle.std.proofs.Common.{◌≡◌, ◌+◌, None, drop, ◌∙◌, arith, string_bytes}
use Rattle.joutput.specs.jio.ShelfFiles.{file_at}
use Rattle.joutput.specs.jio.MemoryDevices.{files_of}
use Rattle.joutput.proofs.JioProofs.Files.{differ_first, differ_more, nothing_there, something_there}
use Rattle.joutput.proofs.jio.memory_shelf.MemoryShelf.paths_differ.Goals as goal

pub returns-then-is_some : goal.returns-then-is_some
returns-then-is_some c = (
  λ h. cc,
  λ d. let s = differ_first c.args.files.now c.loop-i.i c.index-files-i.result (omega arith) c.index-files-i.is (c.loop-i.invariant.1 d) in
      absurd (something_there (file_at (files_of c.split_at.result.1.now) c.as_str.result.now) (c.if-is_some.ensures ∙ c.find.ensures.variant) (rw (c.split_at.ensures.back, c.as_str.ensures.value) s.0)),
)

pub loop-i-preserved : goal.loop-i-preserved
loop-i-preserved c =
    let none : file_at (files_of (drop (c.loop-i.i + 1) c.args.files.now)) (string_bytes c.index-files-i.result.0) ≡ None = rw (← c.split_at.ensures.back, ← c.as_str.ensures.value) (nothing_there (file_at (files_of c.split_at.result.1.now) c.as_str.result.now) (c.if-is_some.ensures ∙ c.find.ensures.variant)) in (
      λ d. c.loop-i.invariant.0 (differ_more c.args.files.now c.loop-i.i c.index-files-i.result (omega arith) c.index-files-i.is none d),
      λ d. (differ_first c.args.files.now c.loop-i.i c.index-files-i.result (omega arith) c.index-files-i.is (c.loop-i.invariant.1 d)).1,
    )
