use Rattle.descriptor.proofs.ReceiveRead.{rx_read-accepted}
use Rattle.descriptor.proofs.rx_read.RxReadDescriptor.from_words.Goals as goal

pub returns-clause-reads_back : goal.returns-clause-reads_back
returns-clause-reads_back c =
    (rx_read-accepted c.args.first c.args.second _ c.in-Some.ensures.found c.if-second-ne-SECOND_WORD.false).reads_back
