use Rattle.std.proofs.Common.{arith}
use Rattle.descriptor.proofs.TransmitRead.{tx_read-first_refused, tx_read-second_refused, tx_read-kind_refused, tx_read-size_refused, tx_read-accepted}
use Rattle.descriptor.proofs.Bits.{not-when_false, when_true}
use Rattle.descriptor.proofs.tx_read.TxReadDescriptor.from_words.Goals as goal

pub returns-in_default-clause-refused : goal.returns-in_default-clause-refused
returns-in_default-clause-refused c =
    (tx_read-first_refused c.args.first c.args.second c.in_default.ensures.none).refused

pub returns-then-not-has_fixed_bits-clause-refused : goal.returns-then-not-has_fixed_bits-clause-refused
returns-then-not-has_fixed_bits-clause-refused c =
    (tx_read-second_refused c.args.first c.args.second (not-when_false c.has_fixed_bits.ensures c.if-not-has_fixed_bits.true)).refused

pub returns-then-not-is_data_descriptor-clause-refused : goal.returns-then-not-is_data_descriptor-clause-refused
returns-then-not-is_data_descriptor-clause-refused c =
    (tx_read-kind_refused c.args.first c.args.second c.in-Some.number (omega arith) c.in-Some.ensures.found
    (when_true c.has_fixed_bits.ensures c.if-not-has_fixed_bits.false)
    (not-when_false c.is_data_descriptor.ensures c.if-not-is_data_descriptor.true)).refused

pub returns-then-not-is_in_range-clause-refused : goal.returns-then-not-is_in_range-clause-refused
returns-then-not-is_in_range-clause-refused c =
    (tx_read-size_refused c.args.first c.args.second c.in-Some.number (omega arith) c.in-Some.ensures.found
    (when_true c.has_fixed_bits.ensures c.if-not-has_fixed_bits.false)
    (when_true c.is_data_descriptor.ensures c.if-not-is_data_descriptor.false)
    (not-when_false c.is_in_range.ensures c.if-not-is_in_range.true)).refused

pub returns-clause-reads_back : goal.returns-clause-reads_back
returns-clause-reads_back c =
    (tx_read-accepted c.args.first c.args.second _ (omega arith) c.in-Some.ensures.found
    (when_true c.has_fixed_bits.ensures c.if-not-has_fixed_bits.false)
    (when_true c.is_data_descriptor.ensures c.if-not-is_data_descriptor.false)
    (omega arith) (omega arith) (omega arith) (omega arith)).reads_back
