-- Entries that have a spelling.
use Rattle.std.proofs.Common.{ℕ, ◌≤◌, ◌<◌, List, length, refl, arith}
use Rattle.std.specs.Prelude.{IsTrue, nat_lt}
use Rattle.std.specs.List.{list_all}
use Rattle.std.proofs.lemmas.Bool.{lt-ltb, ltb-true, le-leb}
use Rattle.jground.specs.jformat.Format.{IsBytes}
use Rattle.jground.proofs.JformatProofs.ReadingSteps.{both, second_true}
use Rattle.jground.proofs.JformatProofs.Blocks.{all_law}
use Rattle.jparts.specs.declared.jpool.entry.Entry.{Entry}
use Rattle.jparts.specs.declared.jpool.entry.Entry.TheVariants.{Unused, Utf8, Integer, Float, Long, Double, Class, Str, Field, Method, InterfaceMethod, NameAndType, MethodHandle, MethodType, InvokeDynamic}
use Rattle.jparts.specs.declared.jpool.fault.PoolFault.{PoolFault}
use Rattle.jparts.specs.jpool.EntryLayouts.{has_spelling}
use Rattle.jparts.specs.jpool.PoolEntries.{entry, text}

pub text_fits : (bytes : List ℕ) → IsBytes bytes → length bytes ≤ 65535 → IsTrue (text.fits bytes)
text_fits bytes fits le = both _ _ ((all_law {K = PoolFault}).takes bytes bytes fits refl).0 (lt-ltb (length bytes) 65536 (omega arith))

pub fits_spelling : (e : Entry) → IsTrue (entry.fits e) → IsTrue (has_spelling e)
unfolding entry
fits_spelling Unused h = absurd cc
fits_spelling (Utf8 bytes) h = let lt : length bytes < 65536 = ltb-true (length bytes) 65536 (second_true (list_all (λ b. nat_lt b 256) bytes) (nat_lt (length bytes) 65536) h) in le-leb (length bytes) 65535 (omega arith)
fits_spelling (Integer a) h = refl
fits_spelling (Float a) h = refl
fits_spelling (Long a) h = refl
fits_spelling (Double a) h = refl
fits_spelling (Class a) h = refl
fits_spelling (Str a) h = refl
fits_spelling (Field a b) h = refl
fits_spelling (Method a b) h = refl
fits_spelling (InterfaceMethod a b) h = refl
fits_spelling (NameAndType a b) h = refl
fits_spelling (MethodHandle a b) h = refl
fits_spelling (MethodType a) h = refl
fits_spelling (InvokeDynamic a b) h = refl
