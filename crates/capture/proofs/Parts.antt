-- A record of its parts.
use Rattle.std.proofs.Common.{◌≡◌, ◌∙◌, ap, ℕ, ◌≤◌, List, ◌++◌, length, drop, refl, append_assoc, arith, length-append}
use Rattle.std.proofs.lemmas.Bool.{le-ltb}
use Rattle.std.proofs.Math.Seq.{drop-append_seam, take-append_seam}
use Rattle.byteorder.specs.Endian.{little_bytes}
use Rattle.limits.specs.declared.profile.TheConstants.{LEAST_FRAME, MOST_FRAME}
use Rattle.capture.specs.declared.entry.Entry.TheVariants.{Frame}
use Rattle.capture.specs.declared.header.Order.{Order}
use Rattle.capture.specs.Entries.{entry_in}
use Rattle.capture.specs.Layout.{captured_in, fraction_in, numbers_in, seconds_in, wire_len_in}
use Rattle.capture.specs.Record.{InRange, Record}
use Rattle.capture.specs.Writing.{record_bytes}

-- bytes that have a record's numbers, and then its frame and others, begin with that record
pub record_is : (order : Order) (bytes rest : List ℕ) (r : Record) → InRange r → 16 ≤ length bytes
    → captured_in (numbers_in order) bytes ≡ length r.frame → wire_len_in (numbers_in order) bytes ≡ r.wire_len
    → seconds_in (numbers_in order) bytes ≡ r.seconds → fraction_in (numbers_in order) bytes ≡ r.fraction → drop 16 bytes ≡ r.frame ++ rest
    → entry_in order bytes ≡ (Frame r, rest)
unfolding entry_in
record_is order bytes rest r fine long captured wire seconds fraction after =
    rw (
      captured,
      wire,
      seconds,
      fraction,
      after,
      take-append_seam r.frame rest,
      drop-append_seam r.frame rest,
      le-ltb (length bytes) 16 long,
      le-ltb (length (r.frame ++ rest)) (length r.frame) (omega (arith, length-append r.frame rest)),
      le-ltb (length r.frame) r.wire_len fine.whole,
      le-ltb (length r.frame) LEAST_FRAME fine.least,
      le-ltb MOST_FRAME (length r.frame) fine.greatest,
    ) refl

-- five parts, put one after the other at the end of a list
joined : (old a b c d e : List ℕ) → ((((old ++ a) ++ b) ++ c) ++ d) ++ e ≡ old ++ (a ++ (b ++ (c ++ (d ++ e))))
joined old a b c d e = simp append_assoc

-- a record's bytes by its parts
bytes_again : (r : Record) (seconds fraction wire_len : ℕ) (frame : List ℕ)
    → seconds ≡ r.seconds → fraction ≡ r.fraction → wire_len ≡ r.wire_len → frame ≡ r.frame
    → little_bytes 4 seconds ++ (little_bytes 4 fraction ++ (little_bytes 4 (length frame) ++ (little_bytes 4 wire_len ++ frame))) ≡ record_bytes r
unfolding record_bytes
bytes_again r seconds fraction wire_len frame s f l same = rw (s, f, l, same) refl

-- a record that is written part by part at the end of some bytes
pub written : (old v w x y z : List ℕ) (r : Record) (seconds fraction wire_len : ℕ) (frame : List ℕ)
    → seconds ≡ r.seconds → fraction ≡ r.fraction → wire_len ≡ r.wire_len → frame ≡ r.frame
    → v ≡ old ++ little_bytes 4 seconds → w ≡ v ++ little_bytes 4 fraction → x ≡ w ++ little_bytes 4 (length frame) → y ≡ x ++ little_bytes 4 wire_len → z ≡ y ++ frame
    → z ≡ old ++ record_bytes r
written old v w x y z r seconds fraction wire_len frame s f l same first second third fourth fifth =
    fifth
    ∙ ap (λ (m : List ℕ). m ++ frame) fourth
    ∙ ap (λ (m : List ℕ). (m ++ little_bytes 4 wire_len) ++ frame) third
    ∙ ap (λ (m : List ℕ). ((m ++ little_bytes 4 (length frame)) ++ little_bytes 4 wire_len) ++ frame) second
    ∙ ap (λ (m : List ℕ). (((m ++ little_bytes 4 fraction) ++ little_bytes 4 (length frame)) ++ little_bytes 4 wire_len) ++ frame) first
    ∙ joined old (little_bytes 4 seconds) (little_bytes 4 fraction) (little_bytes 4 (length frame)) (little_bytes 4 wire_len) frame
    ∙ ap (λ (m : List ℕ). old ++ m) (bytes_again r seconds fraction wire_len frame s f l same)
