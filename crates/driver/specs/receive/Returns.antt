-- The buffers that a receive driver returns from a disabled queue.
use Rattle.std.specs.Prelude.{◌≡◌, ℕ, ◌<◌, true, List, [], ◌++◌, length, map, reverse}
use Rattle.buffer_pool.specs.Buffer.{Buffer}
use Rattle.ring_model.specs.shared.Handshakes.{is_stopped}
use Rattle.rx_ring.specs.Ends.{driver_state, posted, returned, known_of}
use Rattle.driver.specs.Reclaiming.{CameBack}
pub use Rattle.driver.specs.receive.Batches.{itself}
use Rattle.driver.specs.receive.Receiver.{Receiver}

abbrev pub numbers_of : List Buffer → List ℕ
numbers_of bufs = map (λ b. b.number) bufs

-- A disabled queue with no chain and no buffer out.
pub record IsEmptied (r : Receiver) : Type 0 where
  pub stopped : is_stopped (driver_state r.end) ≡ true
  pub no_chain : r.chain ≡ []
  pub none_out : returned r.end ≡ length (posted r.end)

-- The first buffers of a chain went into the stash one after another.
pub record Unchained (old : List Buffer) (had : List ℕ) (new : List Buffer) (has : List ℕ) : Type 0 where
  pub moved : List Buffer
  pub chain : old ≡ moved ++ new
  pub stash : has ≡ reverse (numbers_of moved) ++ had

-- The buffers of the chain went into the stash, as many as fit, and only then those of the ring.
pub record GaveBack (old : Receiver) (had : List ℕ) (new : Receiver) (has : List ℕ) : Type 0 where
  pub between : List ℕ
  pub chain : Unchained old.chain had new.chain between
  pub ring : CameBack itself old.end between new.end has
  pub in_order : 0 < length new.chain → ring.numbers ≡ []
  pub known : known_of new.end ≡ known_of old.end
  pub batch : new.batch ≡ old.batch
