-- The pairs of objects that are closed together.
use Rattle.std.specs.Prelude.{◌≡◌, ⊤, ◌⊎◌, Option, None}
use Rattle.poll82599_c.specs.Handles.{as_rx_driver, as_rx_controller, as_tx_driver, as_tx_controller, as_rx_queue, as_rx_device, as_tx_queue, as_tx_device}
use Rattle.poll82599_c.specs.declared.end.End.{End}
use Rattle.poll82599_c.specs.declared.end.End.TheVariants as end
use Rattle.poll82599_c.specs.declared.pair.HandlePair.{HandlePair}
use Rattle.poll82599_c.specs.declared.pair.HandlePair.TheVariants.{RxRing, TxRing, RxQueue, TxQueue}

abbrev pub IsPair : HandlePair → End → End → Type 0
IsPair RxRing (end.RxDriver d) (end.RxController c) = ⊤
IsPair TxRing (end.TxDriver d) (end.TxController c) = ⊤
IsPair RxQueue (end.RxQueue q) (end.RxDevice d) = ⊤
IsPair TxQueue (end.TxQueue q) (end.TxDevice d) = ⊤
IsPair _ _ _ = ⊥

-- one of two handles does not hold its kind of the pair
abbrev pub LacksOne : HandlePair → Option End → Option End → Type 0
LacksOne RxRing one other = (as_rx_driver one ≡ None) ⊎ (as_rx_controller other ≡ None)
LacksOne TxRing one other = (as_tx_driver one ≡ None) ⊎ (as_tx_controller other ≡ None)
LacksOne RxQueue one other = (as_rx_queue one ≡ None) ⊎ (as_rx_device other ≡ None)
LacksOne TxQueue one other = (as_tx_queue one ≡ None) ⊎ (as_tx_device other ≡ None)
