-- The text of a run's rate.
use Rattle.std.specs.Prelude.{ℕ, ◌-◌, ◌*◌, ◌/◌, ◌%◌, ◌^◌, Bool, true, false, List, ◌++◌, codes, decimal, max, min}
use Rattle.std.specs.Fmt.{format_spec, styled_decimal}
use Rattle.program.specs.declared.rate.RateLine.{RateLine}

-- n with zeros before it, up to this many digits
abbrev pub zero_padded : ℕ → ℕ → List ℕ
zero_padded width n = styled_decimal (format_spec 32 0 4 width (2 ^ 64 - 1)) n

-- this many thousandths, with three decimals
abbrev pub thousandths_text : ℕ → List ℕ
thousandths_text n = decimal (n / 1000) ++ (codes "." ++ zero_padded 3 (n % 1000))

-- this many nanoseconds in seconds, with six decimals; a part of a microsecond is cut off
abbrev pub seconds_text : ℕ → List ℕ
seconds_text nanos = decimal (nanos / 1000000000) ++ (codes "." ++ zero_padded 6 (nanos / 1000 % 1000000))

-- how much of an amount comes in a nanosecond, where 0 nanoseconds count as 1; a product beyond 2^64 - 1 is that number
abbrev pub each_nano : ℕ → ℕ → ℕ → ℕ
each_nano amount factor nanos = min (amount * factor) (2 ^ 64 - 1) / max nanos 1

-- thousandths of a million frames per second
abbrev pub mpps_of : RateLine → ℕ
mpps_of l = each_nano l.frames 1000000 l.nanos

-- thousandths of a gigabit per second
abbrev pub gbps_of : RateLine → ℕ
gbps_of l = each_nano l.bytes 8000 l.nanos

-- the numbers, each after its word
abbrev pub rate_words : RateLine → List ℕ
rate_words l = codes "rate frames " ++ (decimal l.frames ++ (codes " bytes " ++ (decimal l.bytes ++ (codes " seconds " ++ (seconds_text l.nanos
    ++ (codes " mpps " ++ (thousandths_text (mpps_of l) ++ (codes " gbps " ++ thousandths_text (gbps_of l)))))))))

-- the numbers as a JSON object
abbrev pub rate_object : RateLine → List ℕ
rate_object l = codes "{\"frames\":" ++ (decimal l.frames ++ (codes ",\"bytes\":" ++ (decimal l.bytes ++ (codes ",\"seconds\":" ++ (seconds_text l.nanos
    ++ (codes ",\"mpps\":" ++ (thousandths_text (mpps_of l) ++ (codes ",\"gbps\":" ++ (thousandths_text (gbps_of l) ++ codes "}")))))))))

-- in this form
abbrev pub text_in : Bool → RateLine → List ℕ
text_in false l = rate_words l
text_in true l = rate_object l

abbrev pub rate_text : RateLine → List ℕ
rate_text l = text_in l.json l
