-- What a descriptor is read as is what its form says, arm by arm.
use Rattle.commands.proofs.decode.read_as.Goals as goal

pub returns-in-RxRead : goal.returns-in-RxRead
returns-in-RxRead c = rw c.in-RxRead.is c.line_of.ensures

pub returns-in-RxBack : goal.returns-in-RxBack
returns-in-RxBack c = rw c.in-RxBack.is c.line_of-in-RxBack.ensures

pub returns-in-TxRead : goal.returns-in-TxRead
returns-in-TxRead c = rw c.in-TxRead.is c.line_of-in-TxRead.ensures

pub returns-in-TxBack : goal.returns-in-TxBack
returns-in-TxBack c = rw c.in-TxBack.is c.line_of-in-TxBack.ensures
