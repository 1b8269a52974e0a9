-- The steps that only the transmit ring has: the event of each, and what else it establishes.
use Rattle.std.specs.Prelude.{◌≡◌, ℕ, ◌+◌, ◌/◌, ◌%◌, ◌^◌, ◌<◌, ◌≤◌, Bool, false, not, nat_lt, ◌==◌, List, length, Option, Some, None, slice_get, if◌then◌else◌}
use Rattle.buffer_pool.specs.Buffer.{Buffer}
use Rattle.ring_model.specs.declared.states.Completion.{Completion}
use Rattle.ring_model.specs.declared.states.Completion.TheVariants.{Status, Head}
use Rattle.ring_model.specs.shared.Places.{between_places}
use Rattle.shared_ring.specs.declared.events.DriverEvent.TheVariants as driver
use Rattle.shared_ring.specs.declared.events.ControllerEvent.TheVariants as controller
use Rattle.shared_ring.specs.Registers.{report_index}
use Rattle.tx_ring.specs.declared.events.TxDriverOwn.TheVariants.{NoReport, SawReport, Cleaned, EndedEpoch, ClearedReport}
use Rattle.tx_ring.specs.declared.events.TxControllerOwn.TheVariants.{Sent, Reported}
use Rattle.tx_ring.specs.Records.{Posting, DriverStep, ControllerStep, driving, knowing, outstanding, fetched_word}
use Rattle.tx_ring.specs.Rule.{filled}

-- DD of a transmit write-back.
abbrev pub is_done : ℕ → Bool
is_done word = (word / 2 ^ 32) % 2 == 1

-- The index of the word that reports item `j`: its descriptor, or the head word.
abbrev pub report_word : ℕ → Completion → ℕ → ℕ
report_word n Status j = j % n
report_word n Head j = report_index n

-- Whether the word loaded at this index reports item `j`, with `seen` items seen reported: DD in its descriptor, or a
-- head past its place.
abbrev pub reports_item : ℕ → ℕ → Option ℕ → ℕ → ℕ → Bool
reports_item n seen None place word = false
reports_item n seen (Some j) place word =
    if nat_lt place n then is_done word else not (nat_lt (between_places n (seen % n) word) (between_places n (seen % n) ((j + 1) % n)))

abbrev pub shows_report : ℕ → List DriverStep → ℕ → ℕ → Bool
shows_report n es place word = reports_item n (knowing es).seen (outstanding (driving es) (knowing es).seen) place word

-- B7: the word shows whether the oldest outstanding report is made. A head word holds a place of the ring.
abbrev pub reports_seen : ℕ → List DriverStep → ℕ → ℕ → Buffer → DriverStep
reports_seen n es place r b = driver.Own (if shows_report n es place r then SawReport place r else NoReport place r)

abbrev pub IsPlace : ℕ → List DriverStep → ℕ → ℕ → Buffer → Type 0
IsPlace n es place r b = n ≤ place → r < n

-- B8: the buffer of the oldest item that is not cleaned, as it was posted.
abbrev pub cleans : ℕ → List DriverStep → ℕ → ℕ → Buffer → DriverStep
cleans n es place r b = driver.Own (Cleaned place b)

pub record IsCleaned (n : ℕ) (es : List DriverStep) (place r : ℕ) (b : Buffer) : Type 0 where
  pub item : Posting
  pub there : slice_get (driving es).posted (length (driving es).reaped) ≡ Some item
  pub is : b ≡ filled item

-- C10, as the last step of an epoch.
abbrev pub ends_epoch : ℕ → List DriverStep → ℕ → ℕ → Buffer → DriverStep
ends_epoch n es place r b = driver.Own EndedEpoch

-- C12: the head word of reports is 0 again.
abbrev pub clears_report : ℕ → List DriverStep → ℕ → ℕ → Buffer → DriverStep
clears_report n es place r b = driver.Own ClearedReport

-- B5: the fetched posting is sent.
abbrev pub sends : ℕ → List ControllerStep → ℕ → ℕ → Buffer → ControllerStep
sends n es place r b = controller.Own (Sent r (fetched_word es) b)

-- B6: a report, in the descriptor or in the head word.
abbrev pub reports : ℕ → List ControllerStep → ℕ → ℕ → Buffer → ControllerStep
reports n es place r b = controller.Own (Reported place r)
