-- The effects of calls of both directions whose result depends on a loaded value.
use Rattle.std.specs.Prelude.{◌≡◌, ℕ, ◌+◌, ◌-◌, ◌%◌, ◌<◌, ◌≤◌, ◌⊎◌, true, false, [], length, Option, Some, None}
use Rattle.buffer_pool.specs.Buffer.{Buffer}
use Rattle.limits.specs.RingLength.{IsRingLength}
use Rattle.ring_model.specs.declared.states.ControllerState.TheVariants.{Serving, Ended}
use Rattle.ring_model.specs.declared.states.DriverState.{DriverState}
use Rattle.ring_model.specs.declared.states.DriverState.TheVariants.{Asked, Stopping}
use Rattle.ring_model.specs.shared.Handshakes.{is_new, is_on, is_answered, is_serving, learned}
use Rattle.ring_model.specs.shared.Frames.{Piece}
use Rattle.shared_ring.specs.declared.control.Control.{Control}
use Rattle.shared_ring.specs.declared.control.Control.TheVariants.{Disabled, EnableAsked, Enabled, DisableAsked}
use Rattle.shared_ring.specs.declared.ends.DriverPlaces.{DriverPlaces}
use Rattle.shared_ring.specs.declared.ends.ControllerPlaces.{ControllerPlaces}
use Rattle.shared_ring.specs.declared.ends.ControllerLoad.{ControllerLoad}
use Rattle.shared_ring.specs.declared.ends.ControllerLoad.TheVariants.{Tail, Request}
use Rattle.shared_ring.specs.declared.ends.HandshakeStep.{HandshakeStep}
use Rattle.shared_ring.specs.declared.ends.HandshakeStep.TheVariants.{AskEnable, LoadControl, AskDisable}
use Rattle.shared_ring.specs.declared.events.DriverEvent.{DriverEvent}
use Rattle.shared_ring.specs.declared.events.DriverEvent.TheVariants as driver
use Rattle.shared_ring.specs.declared.events.ControllerEvent.TheVariants as controller
use Rattle.shared_ring.specs.Ends.{DriverSide, posted, returned, next_place, ControllerSide, controller_size, controller_record, controller_state, completed, known_ahead, held, is_at_frame_end, head_stored, serve_place, seen, controller_grown}
use Rattle.shared_ring.specs.Forms.{Form}
use Rattle.shared_ring.specs.Records.{Driven, Controlled, ends_whole}
use Rattle.shared_ring.specs.Slots.{is_there}
use Rattle.shared_ring.specs.Steps.{CameBack, FoundTail}
use Rattle.shared_ring.specs.Words.{control_word}

module _ {Ring Posted Completed Reaped D C : Type 0} {form : Form Ring Posted Completed Reaped D C} where
  abbrev pub IsFreshDriver : DriverSide form → Type 0
  IsFreshDriver d = d.events ≡ []

  abbrev pub IsFreshController : ControllerSide form → Type 0
  IsFreshController c = c.events ≡ []

  -- No buffer is out, and nothing changed.
  pub record NoneOut (old new : DriverSide form) : Type 0 where
    pub none_out : returned old ≡ length (posted old)
    pub same : new ≡ old

  -- The oldest buffer that was out came back, or no buffer was out.
  abbrev pub ReclaimedNext : DriverSide form → Option Buffer → DriverSide form → Type 0
  ReclaimedNext old None new = NoneOut old new
  ReclaimedNext old (Some buf) new = CameBack old (next_place old) buf new

  -- A3, B3: the tail was loaded, and `count` descriptors are ahead.
  pub record FoundAhead (old : ControllerSide form) (count : ℕ) (new : ControllerSide form) : Type 0 where
    pub tail : ℕ
    pub step : new ≡ controller_grown old (controller.Looked tail)
    pub available : count ≡ (tail + controller_size old - serve_place old) % controller_size old
    pub same : controller_record new ≡ record (controller_record old) { known = length (completed old) + count }
    pub grows : known_ahead old ≤ count

  -- An enabling was asked and may be answered.
  pub record MayEnable (c : ControllerSide form) : Type 0 where
    pub asked : seen c ≡ 1
    pub idle : is_serving (controller_state c) ≡ false

  -- A new epoch begins. Nothing is completed in it, and nothing is known.
  pub record AnsweredEnabling (old new : ControllerSide form) : Type 0 where
    pub was : is_serving (controller_state old) ≡ false
    pub step : new ≡ controller_grown old controller.Enabled
    pub same : controller_record new ≡ record (controller_record old) { completed = []; known = 0; head = 0; state = Serving; seen = 2; barred = false }

  -- The end serves and holds nothing, the last completed item ends a frame, the head is stored after it, and the direction
  -- allows a disabling.
  pub record IsSettled (c : ControllerSide form) : Type 0 where
    pub serving : is_serving (controller_state c) ≡ true
    pub held : held c ≡ None
    pub at_frame_end : is_at_frame_end c ≡ true
    pub head : head_stored c ≡ serve_place c
    pub may : form.MayDisable (controller_record c)

  -- A disabling was asked and may be answered.
  pub record MayDisable (c : ControllerSide form) : Type 0 where
    pub asked : seen c ≡ 3
    pub settled : IsSettled c
    pub open settled use *

  abbrev pub MayAnswer : ControllerSide form → Type 0
  MayAnswer c = MayEnable c ⊎ MayDisable c

  -- The answer that may be stored: to an asked enabling if nothing is held, or to an asked disabling.
  abbrev pub MayTell : Control → ControllerSide form → Type 0
  MayTell Enabled c = MayEnable c × (held c ≡ None)
  MayTell Disabled c = MayDisable c
  MayTell _ c = ⊥

  pub record AnsweredDisabling (old new : ControllerSide form) : Type 0 where
    pub was : is_serving (controller_state old) ≡ true
    pub step : new ≡ controller_grown old controller.Disabled
    pub same : controller_record new ≡ record (controller_record old) { state = Ended; seen = 0 }

  abbrev pub Answered : ControllerSide form → ControllerSide form → Type 0
  Answered old new = AnsweredEnabling old new ⊎ AnsweredDisabling old new

  -- A3, B3 or C2: a word was loaded.
  abbrev pub MayLoadWord : ControllerLoad → ControllerSide form → Type 0
  MayLoadWord Tail c = is_serving (controller_state c) ≡ true
  MayLoadWord Request c = Unit {0}

  pub record LoadedRequested (old : ControllerSide form) (word : ℕ) (new : ControllerSide form) : Type 0 where
    pub step : new ≡ controller_grown old (controller.LoadedRequest word)
    pub same : controller_record new ≡ record (controller_record old) { seen = word }

  abbrev pub LoadedWord : ControllerLoad → ControllerSide form → ℕ → ControllerSide form → Type 0
  LoadedWord Tail old word new = FoundTail old word new
  LoadedWord Request old word new = LoadedRequested old word new

-- A step of the driver's half of the handshake, with the control value that it stored or loaded: its event, the
-- driver's state after it, and when it may happen.
abbrev pub control_event : {D : Type 0} → HandshakeStep → ℕ → DriverEvent D
control_event AskEnable w = driver.AskedEnable
control_event LoadControl w = driver.LoadedControl w
control_event AskDisable w = driver.AskedDisable

abbrev pub after_control_step : HandshakeStep → DriverState → ℕ → DriverState
after_control_step AskEnable s w = Asked
after_control_step LoadControl s w = learned s w
after_control_step AskDisable s w = Stopping

-- A request stores this value.
abbrev pub StoredBy : HandshakeStep → Control → Type 0
StoredBy AskEnable c = c ≡ EnableAsked
StoredBy LoadControl c = Unit {0}
StoredBy AskDisable c = c ≡ DisableAsked

abbrev pub MayAsk : Control → DriverState → Type 0
MayAsk EnableAsked s = is_new s ≡ true
MayAsk DisableAsked s = is_on s ≡ true
MayAsk _ s = ⊥

abbrev pub MayControlStep : HandshakeStep → DriverState → Type 0
MayControlStep AskEnable s = is_new s ≡ true
MayControlStep LoadControl s = Unit {0}
MayControlStep AskDisable s = is_on s ≡ true

-- The fields of a driver's end agree with its record.
pub record IsPoster {Posted Reaped : Type 0} (n : ℕ) (x : Driven Posted Reaped) (at : DriverPlaces) : Type 0 where
  pub lawful : IsRingLength n
  pub size_is : at.size ≡ n
  pub fill_is : at.fill ≡ length x.posted % n
  pub next_is : at.next ≡ (length x.reaped + x.reclaimed) % n
  pub out_is : at.out + (length x.reaped + x.reclaimed) ≡ length x.posted
  pub room : at.out < n
  pub state_is : at.state ≡ x.state
  pub unreclaimed : is_answered x.state ≡ false → x.reclaimed ≡ 0

-- The fields of a controller's end agree with its record.
pub record IsServer {Completed : Type 0} (carries : Completed → Piece) (n : ℕ) (x : Controlled Completed) (at : ControllerPlaces) : Type 0 where
  pub lawful : IsRingLength n
  pub size_is : at.size ≡ n
  pub serve_is : at.serve ≡ length x.completed % n
  pub available_is : at.available + length x.completed ≡ x.known
  pub available_below : at.available < n
  pub held_is : at.holding ≡ is_there x.held
  pub held_available : at.holding ≡ true → 0 < at.available
  pub held_serving : at.holding ≡ true → is_serving x.state ≡ true
  pub at_frame_end_is : at.at_frame_end ≡ ends_whole carries x.completed
  pub state_is : at.state ≡ x.state
  pub seen_is : control_word at.seen ≡ x.seen
