-- The marks of a pool's texts.
use Rattle.std.proofs.Common.{◌≡◌, ℕ, Bool, false, List, Option, Some, None, refl, ap, ◌∙◌}
use Rattle.std.specs.Prelude.{option_map, slice_get, option_and_then}
use Rattle.std.proofs.lemmas.Option.{slice_get-map}
use Rattle.jparts.specs.declared.jpool.entry.Entry.{Entry}
use Rattle.jparts.specs.jpool.ConstantPools.{utf8_at}
use Rattle.jparts.specs.jpool.Descriptors.{descriptor_of}
use Rattle.jresolution.specs.declared.jprogram.naming.TextMarks.{TextMarks}
use Rattle.jresolution.specs.jprogram.ClassFileParts.{or_empty, text}
use Rattle.jresolution.specs.jprogram.NameChecks.{class_reserved, marks_in, text_marks, text_reserved}
use Rattle.jparts.specs.jpool.PoolEntries.{utf8_parts}

abbrev pub class_in : Option TextMarks → Bool
class_in None = false
class_in (Some m) = m.class

abbrev pub desc_in : Option TextMarks → Bool
desc_in None = false
desc_in (Some m) = m.desc

in_entry_class : (o : Option Entry) → class_in (option_map marks_in o) ≡ class_reserved (or_empty (option_and_then utf8_parts o))
unfolding text_reserved descriptor_of
in_entry_class None = refl
in_entry_class (Some e) = refl

in_entry_desc : (o : Option Entry) → desc_in (option_map marks_in o) ≡ text_reserved (or_empty (option_and_then utf8_parts o))
unfolding text_reserved descriptor_of
in_entry_desc None = refl
in_entry_desc (Some e) = refl

pub class_marked : (entries : List Entry) (marks : List TextMarks) (i : ℕ) → marks ≡ text_marks entries → class_in (slice_get marks i) ≡ class_reserved (text entries i)
unfolding utf8_at
class_marked entries marks i is = ap (λ (ms : List TextMarks). class_in (slice_get ms i)) is ∙ ap class_in (slice_get-map marks_in entries i) ∙ in_entry_class (slice_get entries i)

pub desc_marked : (entries : List Entry) (marks : List TextMarks) (i : ℕ) → marks ≡ text_marks entries → desc_in (slice_get marks i) ≡ text_reserved (text entries i)
unfolding utf8_at
desc_marked entries marks i is = ap (λ (ms : List TextMarks). desc_in (slice_get ms i)) is ∙ ap desc_in (slice_get-map marks_in entries i) ∙ in_entry_desc (slice_get entries i)
