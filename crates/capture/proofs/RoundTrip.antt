-- Reading what was written gives the records back.
use Rattle.std.proofs.Common.{◌≡◌, ℕ, zero, suc, ◌+◌, ◌<◌, ◌≤◌, ◌^◌, false, nat_lt, List, [], ◌∷◌, ◌++◌, length, map, None, Ok, refl, ap, arith, length-append}
use Rattle.std.proofs.lemmas.Bool.{le-ltb}
use Rattle.std.specs.List.{AllByRecursion, flat_map}
use Rattle.byteorder.specs.Endian.{little_bytes}
use Rattle.byteorder.specs.Numbers.{little_number-reads_back}
use Rattle.limits.specs.declared.profile.TheConstants.{MOST_SCRIPT_FRAMES}
use Rattle.capture.specs.declared.entry.Entry.TheVariants.{Frame}
use Rattle.capture.specs.declared.header.Format.TheVariants.{Classic}
use Rattle.capture.specs.declared.header.Order.TheVariants.{Little}
use Rattle.capture.specs.declared.header.TimeUnit.TheVariants.{Micros}
use Rattle.capture.specs.Choosing.{chosen, first_refusal, frames_of, skipped_of}
use Rattle.capture.specs.Entries.{entry_in}
use Rattle.capture.specs.Reading.{all_records, capture_in, capture_with, checked_header, classic_header_in, header_in}
use Rattle.capture.specs.Record.{InRange, Record}
use Rattle.capture.specs.Sources.{Source, entries_from}
use Rattle.capture.specs.Writing.{capture_of, record_bytes}
use Rattle.capture.proofs.Parts.{record_is}

-- a record that is followed by other bytes
record_again : (r : Record) (rest : List ℕ) → InRange r → entry_in Little (record_bytes r ++ rest) ≡ (Frame r, rest)
unfolding record_bytes
record_again r rest fine =
    let n : ℕ = length r.frame in
    let small : n < 256 ^ 4 = omega (arith, fine.greatest) in
    let wire_small : r.wire_len < 256 ^ 4 = omega (arith, fine.greatest, fine.whole) in
    let after : List ℕ = r.frame ++ rest in
    record_is Little (record_bytes r ++ rest) rest r fine (omega arith)
    (little_number-reads_back 4 n (little_bytes 4 r.wire_len ++ after) small)
    (little_number-reads_back 4 r.wire_len after wire_small)
    (little_number-reads_back 4 r.seconds (little_bytes 4 r.fraction ++ (little_bytes 4 n ++ (little_bytes 4 r.wire_len ++ after))) fine.seconds)
    (little_number-reads_back 4 r.fraction (little_bytes 4 n ++ (little_bytes 4 r.wire_len ++ after)) fine.fraction)
    refl

-- how they are read
abbrev written_source : Source
written_source = record { format = Classic; order = Little; interfaces = [] }

-- all of them
records_again : (steps : ℕ) (rs : List Record) → AllByRecursion InRange rs → length rs ≤ steps
    → entries_from written_source steps (flat_map record_bytes rs) ≡ map Frame rs
unfolding entries_from record_bytes
records_again zero [] fine enough = refl
records_again (suc steps) [] fine enough = refl
records_again zero (r ∷ rs) fine enough = absurd (omega arith)
records_again (suc steps) (r ∷ rs) fine enough =
    let later = records_again steps rs fine.1 (omega arith) in
    rw (record_again r (flat_map record_bytes rs) fine.0, later) refl

-- a record has a byte at least
as_many : (rs : List Record) → length rs ≤ length (flat_map record_bytes rs)
unfolding record_bytes
as_many [] = omega arith
as_many (r ∷ rs) =
    let later = as_many rs in
    omega (arith, length-append (record_bytes r) (flat_map record_bytes rs))

-- there is no fault among them
no_refusal : (room k : ℕ) (rs : List Record) → length rs ≤ room → first_refusal false room k (map Frame rs) ≡ None
unfolding first_refusal
no_refusal zero k [] enough = refl
no_refusal (suc room) k [] enough = refl
no_refusal zero k (r ∷ rs) enough = absurd (omega arith)
no_refusal (suc room) k (r ∷ rs) enough = no_refusal room (k + 1) rs (omega arith)

frames_again : (rs : List Record) → frames_of (map Frame rs) ≡ rs
frames_again [] = refl
frames_again (r ∷ rs) = ap (λ found. r ∷ found) (frames_again rs)

chosen_again : (rs : List Record) → length rs ≤ MOST_SCRIPT_FRAMES → chosen all_records (map Frame rs) ≡ Ok (rs, skipped_of (map Frame rs))
unfolding chosen
chosen_again rs enough = rw (no_refusal MOST_SCRIPT_FRAMES 1 rs enough, frames_again rs) refl

pub read_back : (rs : List Record) → AllByRecursion InRange rs → length rs ≤ MOST_SCRIPT_FRAMES
    → capture_in (capture_of rs) ≡ Ok (record { unit = Micros; records = rs })
unfolding capture_in capture_with header_in classic_header_in checked_header
read_back rs fine enough =
    let long : nat_lt (length (capture_of rs)) 24 ≡ false = le-ltb (length (capture_of rs)) 24 (omega arith) in
    let some : nat_lt (length (capture_of rs)) 4 ≡ false = le-ltb (length (capture_of rs)) 4 (omega arith) in
    rw (some, long, records_again (length (flat_map record_bytes rs)) rs fine (as_many rs), chosen_again rs enough) refl
