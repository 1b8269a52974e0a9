use Rattle.std.proofs.Common.{◌≡◌, List, take}
use Rattle.clap.specs.Words.{Text, all_of, found_of, rows_of}
use Rattle.command_line.specs.FileWords.{AreTold, file_values}
use Rattle.command_line.proofs.SaidWords.{Tell}
use Rattle.command_line.proofs.files.told_in.Given as goal

abbrev pub invariant-loop-word : goal.invariant-loop-word
invariant-loop-word g l =
    goal.F-IsAlwaysCallable g l.told
    × ((texts : List Text) (xs : List _) → all_of l.id (rows_of (found_of l.matches)) ≡ file_values texts → AreTold (goal.F-post g l.told) texts xs
    → Tell (goal.F-post g l.told) l.word-items xs × (l.all.items ≡ take l.word-index xs))
