use Rattle.std.proofs.Common.{rules, ◌≡◌, ◌∙◌, ◌+◌, ◌≤◌, length, map, sym, refl, subst, arith}
use Rattle.std.proofs.lemmas.Bool.{false≢true}
use Rattle.buffer_pool.specs.Packed.{bytes_of}
use Rattle.flows.specs.declared.flow_drivers.FlowDrivers.{FlowDrivers}
use Rattle.flows.specs.Driven.{IsEquipped, driving_of}
use Rattle.flows.proofs.FlowDrivers.{equipped-still}
use Rattle.flows.proofs.Closing.{last-cuts, relayed-as}
use Rattle.flows.proofs.flow_drivers.FlowDrivers.forward.Goals as goal

pub returns-then-is_last-clause-went : goal.returns-then-is_last-clause-went
returns-then-is_last-clause-went g c =
    let k = c.args.flow_spec.now in let old = c.relay.new.self in let q = c.close-then-is_last in let new = q.new.self in let waiting = map bytes_of old.packets.items in record {
      equipped = subst (λ (l : FlowDrivers). IsEquipped k l.pass (driving_of l)) (sym q.ensures.rest) (equipped-still k old.pass (driving_of old) new.rx new.tx c.relay.ensures.equipped q.ensures.rx q.ensures.tx);
      at = record {
        rx_stands = q.ensures.stopping.0;
        tx_stands = q.ensures.stopping.1;
        has_ended = record {
          waiting = waiting;
          relayed = relayed-as k.retries old.rx.end new.rx.end old.tx.end new.tx.end c.relay.new.counts waiting q.ensures.rx.taken q.ensures.tx.posted c.relay.ensures.relayed;
          ended_as = last-cuts k.turns c.args.made k.stops (search rules);
        };
      };
      few = subst (λ (l : FlowDrivers). length l.pass.hand.held + l.short ≤ k.most) (sym q.ensures.rest) (let was = c.requires.few in let less = c.relay.ensures.held in omega (arith, was, less));
      exact = λ _. subst (λ (l : FlowDrivers). length l.pass.hand.held + l.short ≡ k.most) (sym q.ensures.rest) (c.relay.ensures.held ∙ c.requires.exact refl);
      given_back = λ e. absurd (false≢true e);
    }
