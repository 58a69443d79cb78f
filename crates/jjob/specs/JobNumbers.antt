-- The numbers of words and of a job.
use Rattle.std.specs.Prelude.{ℕ, Bool, ◌&&◌, List, length, nat_le, nat_lt, Option, Some, None, if◌then◌else◌}
use Rattle.std.specs.Str.{all_ascii_digits}
use Rattle.std.specs.Str.Parse.{digits_value}

-- whether a text is 1 to 20 decimal digits
abbrev pub is_number : List ℕ → Bool
is_number digits = (nat_lt 0 (length digits) && nat_le (length digits) 20) && all_ascii_digits digits

-- the number that 1 to 20 decimal digits write, if it is at most `most`
unfoldable pub number_up_to : ℕ → List ℕ → Option ℕ
number_up_to most digits = if is_number digits && nat_le (digits_value 10 digits) most then Some (digits_value 10 digits) else None
