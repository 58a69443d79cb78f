-- The marks of a pool's texts.
use Rattle.std.proofs.Common.{◌≡◌, ℕ, false, List, Option, Some, None, refl, ap, ◌∙◌}
use Rattle.std.specs.Prelude.{option_map, slice_get, option_and_then}
use Rattle.std.proofs.lemmas.Option.{slice_get-map}
use Rattle.jparts.specs.declared.jpool.entry.Entry.{Entry}
use Rattle.jparts.specs.jpool.ConstantPools.{utf8_at}
use Rattle.jparts.specs.jpool.Descriptors.{descriptor_of}
use Rattle.jresolution.specs.jprogram.ClassFileParts.{or_empty, text}
use Rattle.jresolution.specs.jprogram.ProgramClasses.{Program}
use Rattle.jlinking.specs.declared.jmembers.descs.DescMarks.{DescMarks}
use Rattle.jlinking.specs.jmembers.MemberDeclarations.{text_left_out, text_missing}
use Rattle.jlinking.specs.jmembers.PoolTexts.{desc_marks, marks_in, marks_of}
use Rattle.jparts.specs.jpool.PoolEntries.{utf8_parts}

abbrev pub marks_or : Option DescMarks → DescMarks
marks_or None = record { left_out = false; missing = false }
marks_or (Some m) = m

in_entry : (p : Program) (o : Option Entry) → marks_or (option_map (marks_in p) o) ≡ marks_of p (or_empty (option_and_then utf8_parts o))
unfolding text_left_out text_missing descriptor_of
in_entry p None = refl
in_entry p (Some e) = refl

pub marked : (p : Program) (entries : List Entry) (marks : List DescMarks) (i : ℕ) → marks ≡ desc_marks p entries → marks_or (slice_get marks i) ≡ marks_of p (text entries i)
unfolding utf8_at
marked p entries marks i is = ap (λ (ms : List DescMarks). marks_or (slice_get ms i)) is ∙ ap marks_or (slice_get-map (marks_in p) entries i) ∙ in_entry p (slice_get entries i)
