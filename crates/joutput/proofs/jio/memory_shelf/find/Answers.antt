use Rattle.std.proofs.Common.{ℕ, List, Some, Option, is_some, sym, ap, ◌∙◌}
use Rattle.joutput.specs.jio.MemoryDevices.{files_of}
use Rattle.joutput.proofs.JioProofs.Files.{found_at, none_at}
use Rattle.joutput.proofs.jio.memory_shelf.find.Goals as goal

pub returns-in-Some : goal.returns-in-Some
returns-in-Some c =
    let found = found_at c.args.files.now c.args.path.now c.place.result c.in-Some.i c.index-files-i.result c.place.ensures.place c.in-Some.is in
    record {
      found = ap (λ (x : List ℕ). Some x) c.as_slice.ensures.value ∙ sym found;
      variant = sym (ap (λ (o : Option (List ℕ)). is_some o) found);
    }

pub returns-in-None : goal.returns-in-None
returns-in-None c =
    let none = none_at 0 (files_of c.args.files.now) c.args.path.now (sym c.place.ensures.place ∙ c.in-None.is) in
    record { found = sym none; variant = sym (ap (λ (o : Option (List ℕ)). is_some o) none) }
