-- What a queue's machine computes for each step of both directions, over its places and words.
use Rattle.std.specs.Prelude.{ℕ, replicate, Bool, true, not, ◌&&◌, ◌==◌, List, Option, Some, None, Result, Ok, Err, is_none, slice_set, if◌then◌else◌}
use Rattle.ring_model.specs.declared.states.DriverState.TheVariants.{New, Cleared, Tailed}
use Rattle.ring_model.specs.declared.steps.ControlStep.{ControlStep}
use Rattle.ring_model.specs.declared.notes.Note.{Note}
use Rattle.ring_model.specs.shared.Handshakes.{is_open, is_serving, first_handshake, enables, after_control_step}
use Rattle.ring_model.specs.shared.Agreement.{Wrapped}
use Rattle.ring_model.specs.shared.Places.{place_next}
use Rattle.refusals.specs.declared.errors.MachineError.{MachineError}
use Rattle.refusals.specs.declared.errors.MachineError.TheVariants as refusal

-- The words after this one is stored at a place, if there is one to store.
abbrev pub word_put : List ℕ → ℕ → Option ℕ → List ℕ
word_put words place None = words
word_put words place (Some x) = slice_set words place x

-- The driver is open, and there is room for one more.
abbrev pub can_post : Wrapped ℕ → Bool
can_post w = is_open w.handshake.driver && not (place_next w.size w.fill == w.next)

abbrev pub is_idle : Wrapped ℕ → Bool
is_idle w = is_serving w.handshake.controller && is_none w.held

abbrev pub can_fetch : Wrapped ℕ → Bool
can_fetch w = is_idle w && not (w.serve == w.known)

-- All posted buffers are back with the driver.
abbrev pub are_all_back : Wrapped ℕ → Bool
are_all_back w = w.next == w.fill

-- A disabling may be answered, as far as the queue decides it.
abbrev pub looks_settled : Wrapped ℕ → Bool
looks_settled w = is_none w.held && (w.head == w.serve) && w.whole

-- A step is refused if a slot that must have a buffer is empty.
abbrev pub refused_empty : (ℕ → Note) → Option ℕ → Result Note MachineError
refused_empty f None = Err refusal.NotEnabled
refused_empty f (Some b) = Ok (f b)

abbrev pub after_post : Wrapped ℕ → ℕ → ℕ → Wrapped ℕ
after_post w b word = record w { words = slice_set w.words w.fill word; slots = slice_set w.slots w.fill (Some b); fill = place_next w.size w.fill }

abbrev pub after_publish : Wrapped ℕ → Wrapped ℕ
after_publish w = record w { tail = w.fill }

abbrev pub after_look : Wrapped ℕ → Wrapped ℕ
after_look w = record w { known = w.tail }

-- After this buffer is fetched.
abbrev pub after_fetch : Wrapped ℕ → Option ℕ → Wrapped ℕ
after_fetch w None = w
after_fetch w (Some b) = record w { slots = slice_set w.slots w.serve None; held = Some b }

-- After this buffer is stored or sent, and its word written if there is one.
abbrev pub after_serve : Wrapped ℕ → Option ℕ → Bool → Option ℕ → Wrapped ℕ
after_serve w word ends None = w
after_serve w word ends (Some b) = record w { words = word_put w.words w.serve word; slots = slice_set w.slots w.serve (Some b); serve = place_next w.size w.serve; held = None; whole = ends }

abbrev pub after_head : Wrapped ℕ → Wrapped ℕ
after_head w = record w { head = w.serve }

-- After this buffer is taken out, and its word written if there is one.
abbrev pub after_out : Wrapped ℕ → Option ℕ → Option ℕ → Wrapped ℕ
after_out w word None = w
after_out w word (Some b) = record w { words = word_put w.words w.next word; slots = slice_set w.slots w.next None; next = place_next w.size w.next }

-- An answered enabling resets the controller's places.
abbrev pub after_control : Wrapped ℕ → ControlStep → Wrapped ℕ
after_control w c = record w { serve = if enables w.handshake c then 0 else w.serve; known = if enables w.handshake c then 0 else w.known; handshake = after_control_step w.handshake c }

abbrev pub after_clear_head : Wrapped ℕ → Wrapped ℕ
after_clear_head w = record w { head = 0; handshake = record w.handshake { driver = Cleared } }

abbrev pub after_clear_tail : Wrapped ℕ → Wrapped ℕ
after_clear_tail w = record w { tail = 0; handshake = record w.handshake { driver = Tailed } }

abbrev pub after_renew : Wrapped ℕ → Wrapped ℕ
after_renew w = record w { fill = 0; next = 0; handshake = record w.handshake { driver = New } }

-- A new machine.
abbrev pub begun : ℕ → Bool → Wrapped ℕ
begun n enabled = record {
  size = n;
  words = replicate n 0;
  head = 0;
  tail = 0;
  slots = replicate n None;
  fill = 0;
  next = 0;
  serve = 0;
  known = 0;
  held = None;
  whole = true;
  handshake = first_handshake enabled;
}
