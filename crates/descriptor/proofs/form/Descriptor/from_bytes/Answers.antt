-- What the words answer is what their bytes answer.
use Rattle.descriptor.proofs.Codec.{bytes-read_back, bytes-refused}
use Rattle.descriptor.proofs.form.Descriptor.from_bytes.Goals as goal

pub returns-clause-reads_back : goal.returns-clause-reads_back
returns-clause-reads_back g c = bytes-read_back g.Self.Descriptor.form g.Self.Descriptor.numbers g.met.Self.Descriptor.fits c.args.bytes.now c.in_ok-first.ensures.words c.from_words.result c.from_words.ensures.reads_back

pub returns-clause-refused : goal.returns-clause-refused
returns-clause-refused g c = bytes-refused g.Self.Descriptor.form g.Self.Descriptor.numbers g.met.Self.Descriptor.fits c.args.bytes.now c.in_ok-first.ensures.words c.from_words.result c.from_words.ensures.refused
