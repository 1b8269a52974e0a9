use Rattle.std.proofs.Common.{arith}
use Rattle.descriptor.proofs.ReceiveBack.{rx_back-first_refused, rx_back-second_refused, rx_back-accepted}
use Rattle.descriptor.proofs.rx_back.RxBackDescriptor.from_words.Goals as goal

pub returns-then-first-ne-FIRST_WORD-clause-refused : goal.returns-then-first-ne-FIRST_WORD-clause-refused
returns-then-first-ne-FIRST_WORD-clause-refused c =
    (rx_back-first_refused c.args.first c.args.second (omega arith) c.if-first-ne-FIRST_WORD.true).refused

pub returns-then-second-second_word_of-clause-refused : goal.returns-then-second-second_word_of-clause-refused
returns-then-second-second_word_of-clause-refused c =
    (rx_back-second_refused c.args.first c.args.second c.bits-len.result c.is_set-eop.result (omega arith) c.bits-len.ensures c.is_set-eop.ensures (omega arith)).refused

pub returns-clause-reads_back : goal.returns-clause-reads_back
returns-clause-reads_back c =
    (rx_back-accepted c.args.first c.args.second _ c.if-first-ne-FIRST_WORD.false (omega arith)).reads_back
