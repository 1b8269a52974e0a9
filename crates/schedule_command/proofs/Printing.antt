-- One list more is printed.
use Rattle.std.proofs.Common.{◌≡◌, ◌∙◌, ℕ, ◌+◌, List, [], ◌∷◌, ◌++◌, length, length-append, Option, None, Some, refl, sym, ap, subst}
use Rattle.std.specs.Prelude.{All}
use Rattle.std.specs.Io.KnownBytes.{Appends}
use Rattle.std.proofs.KnownBytes.{Appends-nil, Appends-trans}
use Rattle.std.proofs.lemmas.List.{append-nil}
use Rattle.std.proofs.lemmas.List.Concat.{flat_map-append}
use Rattle.std.proofs.lemmas.List.Elements.{All-append, All-cons, All-nil}
use Rattle.commands.specs.Replay.{HasPage}
use Rattle.requests.specs.declared.replay.ReplayOutput.{ReplayOutput}
use Rattle.schedules.specs.Drawing.{IsDrawn}
use Rattle.schedules.specs.declared.drawing.Drawn.{Drawn}
use Rattle.schedule_command.specs.Lists.{AreShown, Follows, IsPrinted, IsShown, PrintsLists, joined, list_text, queues_of}
use Rattle.requests.specs.declared.lists.ScheduleRequest.{ScheduleRequest}

-- a list that is drawn as requested is printed alone, or with what `replay` prints for it
pub printed-alone : (r : ScheduleRequest) (list : List Drawn) (text : List ℕ) → r.expect ≡ None → IsDrawn r.plan list → text ≡ list_text list → IsPrinted r text
printed-alone r list text none drawn is = record {
  list = list;
  drawn = drawn;
  more = [];
  follows = subst (λ (e : Option ReplayOutput). Follows e (queues_of r) (list_text list) []) (sym none) refl;
  text_is = is ∙ sym (append-nil (list_text list));
}

pub printed-with : (r : ScheduleRequest) (list : List Drawn) (form : ReplayOutput) (more text : List ℕ) → r.expect ≡ Some form → IsDrawn r.plan list
    → HasPage (queues_of r form) (list_text list) more → text ≡ list_text list ++ more → IsPrinted r text
printed-with r list form more text some drawn has is = record {
  list = list;
  drawn = drawn;
  more = more;
  follows = subst (λ (e : Option ReplayOutput). Follows e (queues_of r) (list_text list) more) (sym some) has;
  text_is = is;
}

-- so many lists were printed; and there can be such queues, if there was one
pub record PrintedSoFar (r : ScheduleRequest) (k : ℕ) (old now : Option (List ℕ)) : Type 0 where
  pub texts : List (List ℕ)
  pub count : length texts ≡ k
  pub each : All (IsPrinted r) texts
  pub appends : Appends old now (joined texts)

pub none-printed : (r : ScheduleRequest) (old : Option (List ℕ)) → PrintedSoFar r 0 old old
none-printed r old = record { texts = []; count = refl; each = All-nil (IsPrinted r); appends = Appends-nil old }

joined-append : (ts : List (List ℕ)) (t : List ℕ) → joined (ts ++ t ∷ []) ≡ joined ts ++ t
joined-append ts t = flat_map-append (λ (x : List ℕ). x) ts (t ∷ []) ∙ ap (λ (x : List ℕ). joined ts ++ x) (append-nil t)

pub one-printed : (r : ScheduleRequest) (k : ℕ) (old now later : Option (List ℕ)) (text : List ℕ) → IsPrinted r text → Appends now later text → PrintedSoFar r k old now
    → PrintedSoFar r (k + 1) old later
one-printed r k old now later text is adds s = record {
  texts = s.texts ++ text ∷ [];
  count = length-append s.texts (text ∷ []) ∙ ap (λ (n : ℕ). n + 1) s.count;
  each = All-append (IsPrinted r) s.texts (text ∷ []) s.each (All-cons (IsPrinted r) text [] is (All-nil (IsPrinted r)));
  appends = subst (Appends old later) (sym (joined-append s.texts text)) (Appends-trans old now later (joined s.texts) text s.appends adds);
}

pub all-printed : (r : ScheduleRequest) (k : ℕ) (old new : Option (List ℕ)) → k ≡ r.count → PrintedSoFar r k old new → PrintsLists r old new
all-printed r k old new whole s = record { texts = s.texts; count = s.count ∙ whole; each = s.each; appends = s.appends }

-- so many lists are shown
pub record ShownSoFar (r : ScheduleRequest) (k : ℕ) (content : List ℕ) : Type 0 where
  pub contents : List (List ℕ)
  pub count : length contents ≡ k
  pub each : All (IsShown r) contents
  pub content_is : content ≡ joined contents

pub none-shown : (r : ScheduleRequest) (content : List ℕ) → content ≡ [] → ShownSoFar r 0 content
none-shown r content none = record { contents = []; count = refl; each = All-nil (IsShown r); content_is = none }

pub one-shown : (r : ScheduleRequest) (k : ℕ) (content one later : List ℕ) → IsShown r one → later ≡ content ++ one → ShownSoFar r k content → ShownSoFar r (k + 1) later
one-shown r k content one later is adds s = record {
  contents = s.contents ++ one ∷ [];
  count = length-append s.contents (one ∷ []) ∙ ap (λ (n : ℕ). n + 1) s.count;
  each = All-append (IsShown r) s.contents (one ∷ []) s.each (All-cons (IsShown r) one [] is (All-nil (IsShown r)));
  content_is = adds ∙ ap (λ (t : List ℕ). t ++ one) s.content_is ∙ sym (joined-append s.contents one);
}

pub all-shown : (r : ScheduleRequest) (k : ℕ) (content : List ℕ) → k ≡ r.count → ShownSoFar r k content → AreShown r content
all-shown r k content whole s = record { contents = s.contents; count = s.count ∙ whole; each = s.each; content_is = s.content_is }
