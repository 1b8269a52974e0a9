use Rattle.std.proofs.Common.{sym, subst}
use Rattle.rx_ring.specs.Calls.{FoundFree}
use Rattle.rx_ring.specs.Ends.{ControllerSide}
use Rattle.poll82599_c.specs.rings.RxEnds.{StoredOne}
use Rattle.poll82599_c.proofs.Storing.{stored_known, stored_found}
use Rattle.poll82599_c.proofs.rings.serving.RxServing.store.Goals.{else-free-eq0-via-then-free-eq0+else-look-eq0, else-free-eq0-via-else-free-eq0}
use Rattle.poll82599_c.proofs.rings.serving.RxServing.store.Goals as goal

pub returns-clause-stored : goal.returns-clause-stored
returns-clause-stored c = λ one. elim c.else-free-eq0.branch [
  | else-free-eq0-via-then-free-eq0+else-look-eq0 w ↦ subst (λ (x : ControllerSide). StoredOne c.args.bytes.now c.args.eop x c.write.new.self) c.self.view_is
      (stored_found c.args.bytes.now c.args.eop c.self.inside.end c.else-free-eq0.self c.write.new.self w.look.result
      (subst (λ (x : ControllerSide). FoundFree c.self.inside.end w.look.result x) (sym w.self-is) w.look.ensures.step) c.write.ensures.wrote)
  | else-free-eq0-via-else-free-eq0 w ↦ stored_known c.args.bytes.now c.args.eop c.args.self.now c.else-free-eq0.self c.write.new.self w.self-is c.write.ensures.wrote
]
