-- The reclaiming of a buffer, as a store by which a buffer comes back.
use Rattle.std.proofs.Common.{◌≡◌, ℕ, ◌+◌, ◌%◌, ◌<◌, true, List, length, refl, arith}
use Rattle.ring_model.specs.declared.states.Completion.{Completion}
use Rattle.ring_model.specs.shared.Handshakes.{is_stopped}
use Rattle.shared_ring.specs.declared.events.DriverEvent.{DriverEvent}
use Rattle.shared_ring.specs.Directions.{IsDirection}
use Rattle.shared_ring.specs.Forms.{Form, driving}
use Rattle.shared_ring.specs.Own.{MayClear}
use Rattle.shared_ring.specs.Reclaims.{reclaiming, Reclaims}

module _ {Ring Posted Completed Reaped D C : Type 0} (form : Form Ring Posted Completed Reaped D C) (law : IsDirection form) (n : ℕ) (mode : Completion) (es : List (DriverEvent D)) where
  pub may-reclaim : (place : ℕ) → place ≡ (length (driving form es).reaped + (driving form es).reclaimed) % n → is_stopped (driving form es).state ≡ true → length (driving form es).reaped + (driving form es).reclaimed < length (driving form es).posted
      → MayClear form reclaiming (Reclaims form) n mode es place
  may-reclaim place at stopped out = record {
    goes = λ q cs words homes pos l. let a = law.allowed n mode q es cs words homes pos l in let f = a.driver in let t = f.reclaim place at stopped out in record {
      buf = t.buf;
      home = t.home;
      told = record { item = t.item; there = t.there; is_of = t.is_of };
      agrees = t.agrees;
    };
    back = λ b. record { posted = refl; back = omega arith };
    names = λ b. refl;
  }
