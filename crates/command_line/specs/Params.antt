-- The options and arguments of a command as data, and the rule for each.
use Rattle.clap.specs.Words.{Rule}
use Rattle.command_line.specs.CaptureWords.{port_rule, queue_rule}
use Rattle.command_line.specs.CommandLine.{choice_rule, hex_rule}
use Rattle.command_line.specs.FileWords.{file_rule}
use Rattle.command_line.specs.OptionWords.{flag_rule, number_rule, optional_rule, word_rule}
use Rattle.command_line.specs.ScheduleWords.{said_rule, share_rule}
use Rattle.command_line.specs.declared.arguments.Param.{Param}
use Rattle.command_line.specs.declared.arguments.Param.TheVariants.{Number, Said, Share, Optional, Flag, Word, File, Hex, Choice, Port, Queue}

abbrev pub rule_for : Param → Rule
rule_for (Number id default help) = number_rule id.now default.now
rule_for (Said id help) = said_rule id.now
rule_for (Share id help) = share_rule id.now
rule_for (Optional id name value help) = optional_rule id.now value.now
rule_for (Flag id help) = flag_rule id.now
rule_for (Word id name help) = word_rule id.now
rule_for (File id name help) = file_rule id.now
rule_for (Hex help) = hex_rule
rule_for (Choice id name words help) = choice_rule id.now words
rule_for (Port help) = port_rule
rule_for (Queue help) = queue_rule
