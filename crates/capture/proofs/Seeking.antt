-- Going over the pieces of a capture to one packet.
use Rattle.std.proofs.Common.{◌≡◌, ℕ, zero, suc, ◌-◌, ◌<◌, ◌≤◌, List, [], ◌∷◌, ◌++◌, length, ◌==◌, false, Option, Some, None, Result, IfOk, IfErr, Ok, Err, refl, sym, ap, ◌∙◌, arith}
use Rattle.std.proofs.lemmas.Bool.{ne_eqb}
use Rattle.refusals.specs.declared.errors.CaptureError.{CaptureError}
use Rattle.refusals.specs.declared.errors.CaptureError.TheVariants.{Memory}
use Rattle.capture.specs.declared.entry.Entry.{Entry}
use Rattle.capture.specs.declared.entry.FaultyRecord.{FaultyRecord}
use Rattle.capture.specs.declared.header.CaptureForm.{CaptureForm}
use Rattle.capture.specs.declared.piece.Piece.{Piece}
use Rattle.capture.specs.declared.piece.Piece.TheVariants.{Packet, Section, Described, Other}
use Rattle.capture.specs.CaptureError.{Answers, Fails}
use Rattle.capture.specs.Reading.{header_in}
use Rattle.capture.specs.Sources.{Source, entries_from, entries_in, packets_of, piece_in, source_after, source_of}
use Rattle.capture.specs.Telling.{fault_after, fault_details, fault_in_piece, left_after}
use Rattle.capture.proofs.Chosen.{refused}
use Rattle.capture.proofs.Loop.{unrolled}

-- what is left has the packet that is meant
pub record Seeks (total : Option FaultyRecord) (source : Source) (n : ℕ) (rest : List ℕ) : Type 0 where
  pub steps : ℕ
  pub enough : length rest ≤ steps
  pub said : fault_after n (entries_from source steps rest) ≡ total

pub begins : (source : Source) (n : ℕ) (bytes : List ℕ) → Seeks (fault_after n (entries_in source bytes)) source n bytes
begins source n bytes = record { steps = length bytes; enough = omega arith; said = refl }

some_left : (n : ℕ) → (suc n == 0) ≡ false
some_left n = ne_eqb (suc n) 0 (λ e. omega arith)

here : (n : ℕ) (p : Piece) (entries : List Entry) → left_after n p ≡ None → fault_after n (packets_of p ++ entries) ≡ fault_in_piece p
unfolding fault_after
here zero (Packet entry) entries last = refl
here (suc n) (Packet entry) entries last =
    let wrong = rw (some_left n) at last in
    cc
here n (Section order) entries last = cc
here n (Described interface) entries last = cc
here n Other entries last = cc

further : (n m : ℕ) (p : Piece) (entries : List Entry) → left_after n p ≡ Some m → fault_after n (packets_of p ++ entries) ≡ fault_after m entries
unfolding fault_after
further zero m (Packet entry) entries more = cc
further (suc n) m (Packet entry) entries more =
    let one : suc n - 1 ≡ n = omega arith in
    let got = rw (some_left n) at more in
    let same : suc n - 1 ≡ m = cc in
    ap (λ k. fault_after k entries) (sym one ∙ same)
further n m (Section order) entries more = let same : n ≡ m = cc in ap (λ k. fault_after k entries) same
further n m (Described interface) entries more = let same : n ≡ m = cc in ap (λ k. fault_after k entries) same
further n m Other entries more = let same : n ≡ m = cc in ap (λ k. fault_after k entries) same

pub finds : (total : Option FaultyRecord) (source : Source) (n : ℕ) (rest : List ℕ) (p : Piece) (after : List ℕ) → Seeks total source n rest
    → 0 < length rest → p ≡ (piece_in source rest).0 → after ≡ (piece_in source rest).1 → left_after n p ≡ None → fault_in_piece p ≡ total
finds total source n rest p after before some is follows last =
    sym (here n p (entries_from (source_after source p) (before.steps - 1) after) last)
    ∙ ap (fault_after n) (sym (unrolled source before.steps rest p after some before.enough is follows)) ∙ before.said

pub goes_on : (total : Option FaultyRecord) (source : Source) (n m : ℕ) (rest : List ℕ) (p : Piece) (after : List ℕ) → Seeks total source n rest
    → 0 < length rest → p ≡ (piece_in source rest).0 → after ≡ (piece_in source rest).1 → length after < length rest → left_after n p ≡ Some m
    → Seeks total (source_after source p) m after
goes_on total source n m rest p after before some is follows shorter more = record {
  steps = before.steps - 1;
  enough = omega (arith, before.enough);
  said = sym (further n m p (entries_from (source_after source p) (before.steps - 1) after) more)
      ∙ ap (fault_after n) (sym (unrolled source before.steps rest p after some before.enough is follows)) ∙ before.said;
}

pub ends : (total : Option FaultyRecord) (source : Source) (n : ℕ) (rest : List ℕ) → Seeks total source n rest → length rest ≡ 0 → None ≡ total
unfolding entries_from fault_after
ends total source n [] before none = sym (nothing_left n before.steps) ∙ before.said
  where
    nothing_left : (k steps : ℕ) → fault_after k (entries_from source steps []) ≡ None
    nothing_left zero zero = refl
    nothing_left zero (suc steps) = refl
    nothing_left (suc k) zero = refl
    nothing_left (suc k) (suc steps) = refl
ends total source n (b ∷ bytes) before none = absurd (omega arith)

-- the header is refused
pub header_faulty : (k : ℕ) (bytes : List ℕ) (e : CaptureError) → header_in bytes ≡ Err e → Fails e (fault_details k bytes)
unfolding fault_details
header_faulty k bytes e bad = refused e (fault_details k bytes) (rw bad refl)

-- the packet is found
pub answered : (k n : ℕ) (bytes rest : List ℕ) (form : CaptureForm) (r : Result (Option FaultyRecord) CaptureError) → header_in bytes ≡ Ok (form, rest) → n ≡ k - 1
    → IfOk r (λ found. found ≡ fault_after n (entries_in (source_of form) rest)) → IfErr r (λ e. e ≡ Memory) → Answers r (fault_details k bytes)
unfolding fault_details
answered k n bytes rest form (Ok found) good same is refused = rw (good, is, same) refl
answered k n bytes rest form (Err e) good same is refused = rw refused tt
