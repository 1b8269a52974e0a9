-- The meaning of a command line with any command: its words, the values that clap reads, and the request.
use Rattle.std.specs.Prelude.{◌≡◌, ℕ, zero, suc, Bool, true, false, List, Option, Some, None, codes}
use Rattle.clap.specs.Words.{Row, Text}
use Rattle.requests.specs.declared.conversion.CaptureRequest.TheVariants.{FromCapture, ToCapture}
use Rattle.requests.specs.declared.decode.DescriptorForm.{DescriptorForm}
use Rattle.requests.specs.declared.replay.QueuePlan.{QueuePlan}
use Rattle.capture.specs.declared.options.ReadOptions.{ReadOptions}
use Rattle.requests.specs.declared.covers.CoverRequest.{CoverRequest}
use Rattle.requests.specs.declared.printing.Printing.{Printing}
use Rattle.requests.specs.Files.{streamed_port}
use Rattle.settings.specs.declared.config.Config.{Config}
use Rattle.requests.specs.declared.lists.ScheduleRequest.{ScheduleRequest}
use Rattle.command_line.specs.CaptureWords.{HasFromCapture, HasToCapture, SaysFromCapture, SaysToCapture}
use Rattle.command_line.specs.CommandLine.{HasDecode, HasForward, HasOnce, HasPrinting, HasReplay, IsCapture, IsCover, IsDecode, IsForward, IsMisuse, IsOnce, IsReplayOf, IsRequest, IsSchedules}
use Rattle.command_line.specs.CommandLine.{SaysDecode, SaysForward, SaysOnce, SaysReplay}
use Rattle.command_line.specs.FileWords.{FileOptions}
use Rattle.command_line.specs.ScheduleWords.{HasCover, HasLists, SaysCover, SaysLists}
use Rattle.command_line.specs.declared.command.Asked.{Asked}

pub data ParsedCommand : Type 0 where
  once : Text → ParsedCommand
  decode : DescriptorForm → Text → ParsedCommand
  replay : QueuePlan → ParsedCommand
  forward : Config → Printing → FileOptions → ParsedCommand
  from_capture : ℕ → ℕ → ReadOptions → ParsedCommand  -- a port, a queue, and how the capture is read
  to_capture : ℕ → ParsedCommand  -- a port
  schedules : ScheduleRequest → ParsedCommand
  cover : CoverRequest → ParsedCommand

-- the words are this command line
abbrev pub Says : List Text → ParsedCommand → Type 0
Says words (once digits) = SaysOnce words digits
Says words (decode form digits) = SaysDecode words form digits
Says words (replay plan) = SaysReplay words plan
Says words (forward config printing files) = SaysForward words config printing files
Says words (from_capture port queue reading) = SaysFromCapture words port queue reading
Says words (to_capture port) = SaysToCapture words port
Says words (schedules request) = SaysLists words request
Says words (cover request) = SaysCover words request

-- the command's name
abbrev pub name_of : ParsedCommand → Text
name_of (once digits) = codes "once"
name_of (decode form digits) = codes "decode"
name_of (replay plan) = codes "replay"
name_of (forward config printing files) = codes "forward"
name_of (from_capture port queue reading) = codes "from-capture"
name_of (to_capture port) = codes "to-capture"
name_of (schedules request) = codes "schedules"
name_of (cover request) = codes "schedules"

-- the values of the command's arguments are these, apart from files
abbrev pub Holds : List Row → ParsedCommand → Type 0
Holds rows (once digits) = HasOnce rows digits
Holds rows (decode form digits) = HasDecode rows form digits
Holds rows (replay plan) = HasReplay rows plan
Holds rows (forward config printing files) = HasForward rows config × HasPrinting rows printing
Holds rows (from_capture port queue reading) = HasFromCapture rows port queue reading
Holds rows (to_capture port) = HasToCapture rows port
Holds rows (schedules request) = HasLists rows request
Holds rows (cover request) = HasCover rows request

-- the request is this command line's, apart from files
abbrev pub IsAsked : ParsedCommand → Asked → Type 0
IsAsked (once digits) a = IsRequest (λ r. IsOnce r digits) a
IsAsked (decode form digits) a = IsRequest (λ r. IsDecode r form digits) a
IsAsked (replay plan) a = IsRequest (λ r. IsReplayOf r plan) a
IsAsked (forward config printing files) a = IsForward a config printing
IsAsked (from_capture port queue reading) a = IsCapture a (FromCapture port queue reading)
IsAsked (to_capture port) a = IsCapture a (ToCapture port)
IsAsked (schedules request) a = IsSchedules a request
IsAsked (cover request) a = IsCover a request

-- besides refusals, a forwarding writes its progress and its rate to standard error, its counts if a capture goes to
-- standard output, the records that were left out of captures, and the flows that `--turns` cut
abbrev pub forward_shows : Bool → Bool → Option ℕ → Bool → ℕ → Bool
forward_shows true rate stream skip turns = true
forward_shows false true stream skip turns = true
forward_shows false false (Some port) skip turns = true
forward_shows false false None true turns = true
forward_shows false false None false zero = false
forward_shows false false None false (suc n) = true

-- `forward --progress`, `forward --rate`, `forward --wire-capture P=-`, `forward --skip`, `forward --turns`,
-- `from-capture --skip` and `schedules --cover` write to it
abbrev pub is_shown : ParsedCommand → Bool
is_shown (once digits) = false
is_shown (decode form digits) = false
is_shown (replay plan) = false
is_shown (forward config printing files) = forward_shows printing.progress printing.rate (streamed_port files.wires) files.reading.skip config.turns
is_shown (from_capture port queue reading) = reading.skip
is_shown (to_capture port) = false
is_shown (schedules request) = false
is_shown (cover request) = true

-- the words show nothing on standard error: they are no command line of the program, or one that shows nothing
pub data IsUnshown (words : List Text) : Type 0 where
  is_misuse : IsMisuse words → IsUnshown words
  asks : (saying : ParsedCommand) → Says words saying → is_shown saying ≡ false → IsUnshown words
