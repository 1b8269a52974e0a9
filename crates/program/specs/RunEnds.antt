-- How a run of the program ends.
use Rattle.std.specs.Prelude.{◌≡◌, ℕ, ◌||◌, nat_eq, List, [], length, Option, Some, None, Bool, not}
use Rattle.requests.specs.declared.answers.TheConstants.{EXIT_SUCCESS, EXIT_REFUSED}
use Rattle.program.specs.CaptureForwards.{EndsRefused, PrintsPage}
use Rattle.program.specs.Forwards.{EndsForward}
use Rattle.forward_io.specs.Streams.{Outlet, outlet}
use Rattle.settings.specs.declared.config.Config.{Config}
use Rattle.requests.specs.Files.{PortFile}
use Rattle.forward_io.specs.Intakes.{FrameIntake}
use Rattle.forward_io.specs.Meanings.{capture_meant, lines_meant}
use Rattle.commands.specs.Answers.{Ends, EndsDecode}
use Rattle.requests.specs.Answers.{EndsBy}
use Rattle.commands.specs.Frame.{frame_in}
use Rattle.commands.specs.Replay.{EndsReplay}
use Rattle.schedule_command.specs.Covers.{EndsCover}
use Rattle.schedule_command.specs.Lists.{EndsSchedules}
use Rattle.command_line.specs.FileWords.{FileOptions}
use Rattle.command_line.specs.ParsedCommands.{ParsedCommand}
use Rattle.command_line.specs.ParsedCommands.ParsedCommand.{once, decode, replay, forward, from_capture, to_capture, schedules, cover}

-- the frames that come in, with this input
abbrev pub intake_of : FileOptions → Bool → FrameIntake
intake_of files is_terminal = record { sources = files.sources; reading = files.reading; is_terminal = is_terminal }

-- the frames that leave are kept to be printed or written to files
abbrev pub are_kept : Bool → List PortFile → Bool
are_kept quiet wires = not quiet || not (nat_eq (length wires) 0)

-- the configuration by which a run with this output and these wire files forwards
abbrev pub config_for : Config → Bool → List PortFile → Config
config_for config quiet wires = record config { keep = are_kept quiet wires }

-- without captures the script of the input is forwarded, otherwise the captures, and the script if the input is read
pub record EndsForwarding (config : Config) (to : Outlet) (intake : FrameIntake) (input : Option (List ℕ)) (status : ℕ) (old new : Option (List ℕ)) : Type 0 where
  pub script : intake.sources ≡ [] → to.stream ≡ None → (text : List ℕ) → input ≡ Some text → EndsForward config to.printing text status old new
  pub captured : status ≡ EXIT_SUCCESS → PrintsPage config to intake input old new
  pub refused : status ≡ EXIT_REFUSED → EndsRefused config to intake input old new

-- how a run of it ends, with an input that may be a terminal and whose bytes may be unknown, and with the old and the new
-- output
abbrev pub EndsSaid : ParsedCommand → Bool → Option (List ℕ) → ℕ → Option (List ℕ) → Option (List ℕ) → Type 0
EndsSaid (once digits) is_terminal input status old new = Ends (frame_in digits) status old new
EndsSaid (decode form digits) is_terminal input status old new = EndsDecode form digits status old new
EndsSaid (replay plan) is_terminal input status old new = (text : List ℕ) → input ≡ Some text → EndsReplay plan text status old new
EndsSaid (forward config printing files) is_terminal input status old new = EndsForwarding (config_for config printing.quiet files.wires) (outlet printing files.wires) (intake_of files is_terminal) input status old new
EndsSaid (from_capture port queue reading) is_terminal input status old new = (bytes : List ℕ) → input ≡ Some bytes → EndsBy (lines_meant port queue reading bytes) status old new
EndsSaid (to_capture port) is_terminal input status old new = (text : List ℕ) → input ≡ Some text → EndsBy (capture_meant port text) status old new
EndsSaid (schedules request) is_terminal input status old new = EndsSchedules request status old new
EndsSaid (cover request) is_terminal input status old new = EndsCover request status old new
