-- What the records of the two sides amount to, from their making on.
use Rattle.std.proofs.Common.{◌≡◌, ◌∙◌, ℕ, ◌==◌, if◌then◌else◌, Bool, true, false, List, [], ◌∷◌, ◌++◌, map, ap, sym, refl, append_assoc}
use Rattle.std.proofs.lemmas.List.{map-append}
use Rattle.atomic_table.specs.Seated.{TableId}
use Rattle.buffer_pool.specs.Buffer.{Buffer}
use Rattle.buffer_pool.specs.Packed.{bytes_of}
use Rattle.ring_model.specs.declared.states.DriverState.{DriverState}
use Rattle.ring_model.specs.declared.states.DriverState.TheVariants as state
use Rattle.ring_model.specs.shared.Frames.{frames, unfinished}
use Rattle.ring_model.specs.shared.Handshakes.{is_open, is_live, is_answered, learned}
use Rattle.ring_model.specs.shared.Segments.{piece_of}
use Rattle.rx_ring.specs.Records.{driving}
use Rattle.rx_ring.specs.Ends.{DriverSide, driver_state, taken}
use Rattle.rx_ring.specs.Calls.{IsFreshDriver}
use Rattle.driver.specs.Handshake.{AskedEnabling, asking}
use Rattle.driver.specs.receive.Batches.{Hands, GrewBy}
use Rattle.driver.specs.receive.Chains.{going_on, segments_in}
use Rattle.driver.specs.receive.Receiver.{IsReady}
use Rattle.driver.proofs.receive.Chaining.{segments_in-append}
use Rattle.commands.specs.Passing.{TookPacket}

-- ---- the driver's side

pub fresh_ready : (driver : DriverSide) → IsFreshDriver driver → IsReady driver
fresh_ready driver fresh = record {
  between = ap (λ es. unfinished piece_of (driving es).reaped) fresh;
  going = ap (λ es. is_answered (driving es).state) fresh;
  none_back = ap (λ es. (driving es).reclaimed) fresh;
}

pub fresh_open : (driver : DriverSide) → IsFreshDriver driver → is_open (driver_state driver) ≡ true
fresh_open driver fresh = ap (λ es. is_open (driving es).state) fresh

pub fresh_takes : (driver : DriverSide) → IsFreshDriver driver → taken driver ≡ []
fresh_takes driver fresh = ap (λ es. (driving es).reaped) fresh

enabled_opens : (enabled : Bool) → is_open (if enabled then state.On else state.Asked) ≡ true
enabled_opens true = refl
enabled_opens false = refl

-- asking for an enabling leaves the queue open, whatever is loaded
learns_open : (s : DriverState) (word : ℕ) → is_open s ≡ true → is_open (learned (asking s) word) ≡ true
learns_open state.New word e = enabled_opens (word == 2)
learns_open state.Asked word e = enabled_opens (word == 2)
learns_open state.On word e = refl
learns_open state.Stopping word e = cc e
learns_open state.Stopped word e = cc e
learns_open state.Cleared word e = cc e
learns_open state.Tailed word e = cc e

pub stays_open : (old new : DriverSide) → AskedEnabling old new → is_open (driver_state old) ≡ true → is_open (driver_state new) ≡ true
stays_open old new asked e = ap (λ r. is_open r.state) asked.did ∙ learns_open (driver_state old) asked.word e

-- a driver that takes batches of a live queue: what it took are the packets of its list, and the beginning of a frame
pub record Takes (ring : TableId) (driver : DriverSide) (chain : List Buffer) (list : List (List Buffer)) : Type 0 where
  pub own : driver.table ≡ ring
  pub live : is_live (driver_state driver) ≡ true
  pub segments : taken driver ≡ segments_in list ++ going_on chain
  pub frames_are : frames piece_of (taken driver) ≡ map bytes_of list

pub takes_first : (ring : TableId) (driver : DriverSide) (chain : List Buffer) → driver.table ≡ ring → is_live (driver_state driver) ≡ true
    → taken driver ≡ [] → chain ≡ [] → Takes ring driver chain []
takes_first ring driver chain own live none no_chain = record {
  own = own;
  live = live;
  segments = none ∙ sym (ap going_on no_chain);
  frames_are = ap (frames piece_of) none;
}

pub takes_more : (ring : TableId) (old new : Hands) → GrewBy old new → Takes ring old.end old.chain old.list → Takes ring new.end new.chain new.list
takes_more ring old new grew had = record {
  own = grew.own ∙ had.own;
  live = ap is_live grew.state ∙ had.live;
  segments = grew.took ∙ (ap (λ ss. ss ++ grew.segments) had.segments
      ∙ (append_assoc (segments_in old.list) (going_on old.chain) grew.segments
      ∙ (ap (λ ss. segments_in old.list ++ ss) grew.chained
      ∙ (sym (append_assoc (segments_in old.list) (segments_in grew.packets) (going_on new.chain))
      ∙ (ap (λ ss. ss ++ going_on new.chain) (sym (segments_in-append old.list grew.packets))
      ∙ ap (λ ps. segments_in ps ++ going_on new.chain) (sym grew.appended))))));
  frames_are = grew.framed ∙ (ap (λ fs. fs ++ map bytes_of grew.packets) had.frames_are
      ∙ (sym (map-append bytes_of old.list grew.packets) ∙ ap (map bytes_of) (sym grew.appended)));
}

-- once a batch has grown the list, its last packet is taken off it
pub takes_packet : {old new : Hands} (ring : TableId) (before : List (List Buffer)) (packet : List Buffer) → GrewBy old new → Takes ring old.end old.chain old.list
    → new.list ≡ before ++ packet ∷ [] → TookPacket ring new.end packet
takes_packet {old} {new} ring before packet grew had last = let takes = takes_more ring old new grew had in record {
  own = takes.own;
  before = before;
  begun = new.chain;
  segments = takes.segments ∙ ap (λ ps. segments_in ps ++ going_on new.chain) last;
  frames_are = takes.frames_are ∙ ap (map bytes_of) last;
}
