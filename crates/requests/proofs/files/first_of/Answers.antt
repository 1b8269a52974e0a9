use Rattle.std.proofs.Common.{rules}
use Rattle.std.proofs.lemmas.Str.{IsCharBoundary-after_ascii}
use Rattle.requests.proofs.files.first_of.Goals as goal

-- src/words.rt:129:21
pub split_at-requires : goal.split_at-requires
split_at-requires c = IsCharBoundary-after_ascii c.args.word.now 0 (c.utf8.word) (search rules) (search rules)
