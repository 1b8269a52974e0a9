-- A number in decimal.
use Rattle.std.specs.Prelude.{ℕ, nat_le, ◌==◌, Bool, not, ◌&&◌, ◌||◌, if◌then◌else◌, List, length, slice_index, Option, Some, None}
use Rattle.std.specs.Char.{is_ascii_digit}
use Rattle.std.specs.List.{list_all}
use Rattle.std.specs.Str.Parse.{digits_value}

-- 1 to 5 decimal digits, the first of more than one not `0`
abbrev pub is_number : List ℕ → Bool
is_number field =
    nat_le 1 (length field) && nat_le (length field) 5
    && (length field == 1 || not (slice_index field 0 == 48))
    && list_all is_ascii_digit field

-- the number that a field says, if it is written so
abbrev pub number_in : List ℕ → Option ℕ
number_in field = if is_number field then Some (digits_value 10 field) else None
