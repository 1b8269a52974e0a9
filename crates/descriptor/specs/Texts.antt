-- The printed text of a descriptor, one line without its end.
use Rattle.std.specs.Prelude.{ℕ, List, ◌++◌, codes}
use Rattle.std.specs.Fmt.{decimal}
use Rattle.descriptor.specs.declared.rx_back.RxBack.{RxBack}
use Rattle.descriptor.specs.declared.rx_read.RxRead.{RxRead}
use Rattle.descriptor.specs.declared.tx_back.TxBack.{TxBack}
use Rattle.descriptor.specs.declared.tx_read.TxRead.{TxRead}
use Rattle.descriptor.specs.Layout.{bit}

-- Numbers are decimal, and a flag is 0 or 1.
abbrev pub rx_read_text : RxRead → List ℕ
rx_read_text d = codes "buffer " ++ decimal d.number

abbrev pub rx_back_text : RxBack → List ℕ
rx_back_text d = codes "dd 1 eop " ++ decimal (bit d.eop) ++ codes " length " ++ decimal d.len

abbrev pub tx_read_text : TxRead → List ℕ
tx_read_text d =
    codes "buffer " ++ decimal d.number ++ codes " length " ++ decimal d.len
    ++ codes " eop " ++ decimal (bit d.eop) ++ codes " rs " ++ decimal (bit d.rs) ++ codes " paylen " ++ decimal d.paylen

abbrev pub tx_back_text : TxBack → List ℕ
tx_back_text _ = codes "dd 1"
