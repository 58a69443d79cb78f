-- What a call stored, by its status.
use Rattle.std.proofs.Common.{◌≡◌, ◌⊎◌, inl, inr, List, [], Option, sym, subst, ◌∙◌}
use Rattle.joutput.specs.jio.ShelfFiles.{File}
use Rattle.jshow.specs.declared.status.Status.{Status}
use Rattle.jshow.specs.declared.status.Status.TheVariants as statuses
use Rattle.jstore.specs.FileWrites.{with_files}
use Rattle.jstore.proofs.StoredFiles.{front_same, with_none}
use Rattle.jtop.specs.jdriver.Answers.{Stores}

-- where no files are to be stored, nothing was done
pub stores_nothing : (s : Status) (old new : Option (List File)) → new ≡ old → Stores [] s old new
stores_nothing statuses.Finished old new h = h ∙ sym (with_none old)
stores_nothing statuses.Uncaught old new h = h ∙ sym (with_none old)
stores_nothing statuses.Usage old new h = h ∙ sym (with_none old)
stores_nothing statuses.Refused old new h = h ∙ sym (with_none old)
stores_nothing statuses.Bound old new h = h ∙ sym (with_none old)
stores_nothing statuses.HeapFull old new h = h ∙ sym (with_none old)
stores_nothing statuses.Deadlock old new h = h ∙ sym (with_none old)
stores_nothing statuses.ReadFault old new h = h
stores_nothing statuses.WriteFault old new h = h ∙ sym (with_none old)
stores_nothing statuses.StoreFault old new h = front_same [] old new h
stores_nothing statuses.OutOfMemory old new h = front_same [] old new h

-- all files were stored, and a line was written or not
pub stores_done : (files : List File) (s : Status) (old new : Option (List File)) → (s ≡ statuses.Finished) ⊎ (s ≡ statuses.WriteFault) → new ≡ with_files files old → Stores files s old new
stores_done files s old new (inl h) is = subst (λ (x : Status). Stores files x old new) (sym h) is
stores_done files s old new (inr h) is = subst (λ (x : Status). Stores files x old new) (sym h) is
