-- An enabling takes no frame, and posts none.
use Rattle.std.proofs.Common.{◌∙◌, List, ◌++◌, map, ap, sym, refl}
use Rattle.buffer_pool.specs.Packed.{bytes_of}
use Rattle.ring_model.specs.shared.Frames.{frames}
use Rattle.ring_model.specs.shared.Handshakes.{is_open}
use Rattle.ring_model.specs.shared.Segments.{piece_of}
use Rattle.ring_model.specs.transmit.Ring.{carried}
use Rattle.rx_ring.specs.Ends as receive
use Rattle.tx_ring.specs.Ends as transmit
use Rattle.tx_ring.specs.Records.{Posting}
use Rattle.ring_bench.proofs.Enabled.{taken-enabled, posted-enabled}
use Rattle.ring_bench.proofs.kit.forwarding.Forwarder.enable.Goals as goal

pub returns : goal.returns
returns c =
    let old = c.args.self.now in let can = c.requires.can in let r = c.enable.ensures in let s = c.enable-2.ensures in record {
      can = record {
        receives = r.ring ∙ can.receives;
        sends = s.ring ∙ can.sends;
        whole = can.whole;
        relayed = ap (λ xs. frames piece_of xs) (taken-enabled old.rx c.enable.new.self (is_open (receive.driver_state old.rx.end)) refl r.open r.shut)
            ∙ (can.relayed ∙ ap (λ (ps : List Posting). frames carried ps ++ map bytes_of old.packets.items)
            (sym (posted-enabled old.tx c.enable-2.new.self (is_open (transmit.driver_state old.tx.end)) refl s.open s.shut)));
      };
    }
