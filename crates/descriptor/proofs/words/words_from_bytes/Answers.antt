use Rattle.std.proofs.Common.{arith}
use Rattle.descriptor.proofs.Bytes.{words-read}
use Rattle.descriptor.proofs.words.words_from_bytes.Goals as goal

pub returns-clause-words : goal.returns-clause-words
returns-clause-words c =
    words-read c.args.bytes.now c.if-bytes-ne-DESCRIPTOR_BYTES.false (λ i. omega (arith, c.type_inv.bytes i)) _ _ c.read_u64-first.ensures c.read_u64-second.ensures
