-- A list of moves, line after line.
use Rattle.std.proofs.Common.{◌≡◌, ◌⊎◌, ⊎_elim, inl, inr, ℕ, suc, ◌+◌, ◌≤◌, Bool, true, false, List, [], ◌∷◌, ◌++◌, length, map, Option, Some, None, Result, Ok, Err, sym, refl, ap, ap₂, ◌∙◌, subst, arith, append_assoc, length-append, if◌then◌else◌}
use Rattle.std.specs.Prelude.{◌↔◌, All, is_some}
use Rattle.std.specs.Int.{from_bool}
use Rattle.std.specs.List.{filter}
use Rattle.std.specs.Int.{is_power_of_two}
use Rattle.std.proofs.lemmas.Bool.{cases_lt}
use Rattle.std.specs.Result.{is_ok, result_ok}
use Rattle.std.proofs.lemmas.List.{append-nil, map-append}
use Rattle.std.proofs.lemmas.List.Elements.{All-append, All-cons, All-head, All-nil, All-tail, filter-append}
use Rattle.ring_machine.specs.declared.moves.Move.{Move}
use Rattle.ring_model.specs.declared.notes.Note.{Note}
use Rattle.refusals.specs.declared.errors.MachineError.{MachineError}
use Rattle.limits.specs.declared.profile.TheConstants.{LEAST_RING, MOST_PAIRS, MOST_RING}
use Rattle.ring_model.specs.transmit.Ring.{TxBeginning}
use Rattle.ring_model.specs.Worlds.{QueueMove, World, opening_world, after_move, after_moves, can_move, moves_happened, note_in, IsReachableWorld}
use Rattle.ring_laws.specs.Schedules.{reached-opening}
use Rattle.ring_laws.specs.Worlds.{reached_world}
use Rattle.ring_machine.specs.shared.Following.{Did}
use Rattle.ring_machine.specs.Queues.{AreQueues, QueueParts, QueuesAgree, queue_move}
use Rattle.ring_machine.specs.declared.registers.Registers.{Registers}
use Rattle.ring_machine.specs.text.Moves.{IsInRange, text_of}
use Rattle.ring_machine.proofs.QueuesRunning.{did-made, did-refused}
use Rattle.ring_machine.proofs.shared.Running.{joined}
use Rattle.text_lines.specs.Parts.{lines_of, says_something}
use Rattle.requests.specs.declared.replay.QueuePlan.{QueuePlan}
use Rattle.requests.specs.declared.replay.ReplayOutput.{ReplayOutput}
use Rattle.commands.specs.Replay.{after_it, count_line, drawn_at_last, drawn_at_once, drawn_of, last_from, line_in, opening_of, shown_registers, told_line, world_of, HasData, IsDrawn, IsListPage, IsPrinted, LacksMemory, IsFaulty, IsMoveList, IsNoMove, IsPageOf, IsReplay, Reads, Says, Tells, WroteMove}

-- what reading a line answers, in words of lists
pub read-line : (line : List ℕ) (result : Result Move MachineError) → ((m : Move) → (result ≡ Ok m) ↔ (IsInRange m × (line ≡ text_of m))) → is_ok result ≡ true → Reads line
read-line line (Ok m) exact ok = let e = (exact m).0 refl in inr (m, e.0, e.1)
read-line line (Err e) exact ok = absurd (let bad : ⊥ = cc ok in bad)

pub unread-line : (line : List ℕ) (result : Result Move MachineError) → ((m : Move) → (result ≡ Ok m) ↔ (IsInRange m × (line ≡ text_of m))) → says_something line ≡ true → is_ok result ≡ false → IsNoMove line
unread-line line (Ok m) exact move bad = absurd (let never : ⊥ = cc bad in never)
unread-line line (Err e) exact move bad = record { is_move = move; no_text = λ m range text. let ok = (exact m).1 (range, text) in absurd (let never : ⊥ = cc ok in never) }

says-none : Says [] []
says-none = record { texts = refl; in_range = All-nil IsInRange }

-- a line that is passed over says no more
says-skipped : (before : List (List ℕ)) (line : List ℕ) (ms : List Move) → says_something line ≡ false → Says before ms → Says (before ++ line ∷ []) ms
says-skipped before line ms e s = record {
  texts = filter-append says_something before (line ∷ []) ∙ ap (λ (x : List (List ℕ)). filter says_something before ++ x) (none_of e) ∙ append-nil (filter says_something before) ∙ s.texts;
  in_range = s.in_range;
}
  where
    none_of : says_something line ≡ false → filter says_something (line ∷ []) ≡ []
    none_of h = rw h refl

-- a line that is a move's text says that move
says-more : (before : List (List ℕ)) (line : List ℕ) (ms : List Move) (m : Move) → says_something line ≡ true → IsInRange m → line ≡ text_of m → Says before ms → Says (before ++ line ∷ []) (ms ++ m ∷ [])
says-more before line ms m e range text s = record {
  texts = filter-append says_something before (line ∷ []) ∙ ap₂ (λ (x y : List (List ℕ)). x ++ y) s.texts (one_of e) ∙ ap (λ (t : List ℕ). map text_of ms ++ t ∷ []) text ∙ sym (map-append text_of ms (m ∷ []));
  in_range = All-append IsInRange ms (m ∷ []) s.in_range (All-cons IsInRange m [] range (All-nil IsInRange));
}
  where
    one_of : says_something line ≡ true → filter says_something (line ∷ []) ≡ line ∷ []
    one_of h = rw h refl

-- a line, and what is drawn behind it
drawn_behind : (old line new drawn told : List ℕ) → line ≡ old ++ told → new ≡ line ++ drawn → new ≡ old ++ (told ++ drawn)
drawn_behind old line new drawn told is behind = behind ∙ ap (λ (t : List ℕ). t ++ drawn) is ∙ append_assoc old told drawn

-- what was answered to a move is the world's note, and whether there is one is whether it could be made
told : (w : World) (m : Move) (r : Result Note MachineError) (later : World) (before after : QueueParts) → Did QueuesAgree (note_in w (queue_move m)) later r before after
    → (note_in w (queue_move m) ≡ result_ok r) × (can_move w (queue_move m) ≡ is_some (result_ok r))
told w m (Ok t) later before after d = did-made w (queue_move m) t later before after d
told w m (Err why) later before after d = did-refused w (queue_move m) why later before after d

-- a move that was made has its note in its line, and one that was refused has none
pub wrote : (shown : ReplayOutput) (w : World) (m : Move) (r : Result Note MachineError) (old line new : List ℕ) (before later : QueueParts) → Did QueuesAgree (note_in w (queue_move m)) (after_it w m) r before later
    → (read : Option Registers) → ((w : World) → QueuesAgree later w → read ≡ shown_registers shown w m) → line ≡ old ++ told_line shown.json m (result_ok r) read
    → new ≡ line ++ drawn_of shown.pictures later (drawn_at_once shown.pictures m) → WroteMove shown w m (is_some (result_ok r)) old new later
wrote shown w m r old line new before later d read shows e behind = let did = told w m r (after_it w m) before later d in record {
  drawn = drawn_of shown.pictures later (drawn_at_once shown.pictures m);
  is_drawn = record { queues = later; agrees = d.agrees; drawn_is = refl };
  text = drawn_behind old line new (drawn_of shown.pictures later (drawn_at_once shown.pictures m)) (line_in shown w m)
      (e ∙ ap₂ (λ (told : Option Note) (r : Option Registers). old ++ told_line shown.json m told r) (sym did.0) (shows (after_it w m) d.agrees)) behind;
  agrees = d.agrees;
  counted = sym did.1;
}

-- so many lines are good, and these are left
pub record GoodSoFar (text : List ℕ) (number : ℕ) (rest : List (List ℕ)) : Type 0 where
  pub before : List (List ℕ)
  pub split : before ++ rest ≡ lines_of text
  pub count : number ≡ length before
  pub moves : List Move
  pub says : Says before moves

pub good-first : (text : List ℕ) → GoodSoFar text 0 (lines_of text)
good-first text = record { before = []; split = refl; count = refl; moves = []; says = says-none }

one-on : (before later lines : List (List ℕ)) (line : List ℕ) → before ++ line ∷ later ≡ lines → (before ++ line ∷ []) ++ later ≡ lines
one-on before later lines line e = append_assoc before (line ∷ []) later ∙ e

one-longer : (before : List (List ℕ)) (line : List ℕ) (number : ℕ) → number ≡ length before → number + 1 ≡ length (before ++ line ∷ [])
one-longer before line number e = ap (λ (k : ℕ). k + 1) e ∙ sym (length-append before (line ∷ []))

move-line-cases : (b : Bool) → (b ≡ true) ⊎ (b ≡ false)
move-line-cases true = inl refl
move-line-cases false = inr refl

pub good-next : (text : List ℕ) (number : ℕ) (line : List ℕ) (later : List (List ℕ)) → Reads line → GoodSoFar text number (line ∷ later) → GoodSoFar text (number + 1) later
good-next text number line later (inl skipped) g = record {
  before = g.before ++ line ∷ [];
  split = one-on g.before later (lines_of text) line g.split;
  count = one-longer g.before line number g.count;
  moves = g.moves;
  says = says-skipped g.before line g.moves skipped g.says;
}
good-next text number line later (inr (m, range, is)) g = by_case (move-line-cases (says_something line))
  where
    by_case : (says_something line ≡ true) ⊎ (says_something line ≡ false) → GoodSoFar text (number + 1) later
    by_case (inl e) = record {
      before = g.before ++ line ∷ [];
      split = one-on g.before later (lines_of text) line g.split;
      count = one-longer g.before line number g.count;
      moves = g.moves ++ m ∷ [];
      says = says-more g.before line g.moves m e range is g.says;
    }
    by_case (inr e) = record {
      before = g.before ++ line ∷ [];
      split = one-on g.before later (lines_of text) line g.split;
      count = one-longer g.before line number g.count;
      moves = g.moves;
      says = says-skipped g.before line g.moves e g.says;
    }

pub good-last : (text : List ℕ) (number : ℕ) → GoodSoFar text number [] → IsMoveList text
good-last text number g = (g.moves, subst (λ (lines : List (List ℕ)). Says lines g.moves) (sym (append-nil g.before) ∙ g.split) g.says)

pub good-faulty : (text : List ℕ) (number : ℕ) (line : List ℕ) (later : List (List ℕ)) → IsNoMove line → GoodSoFar text number (line ∷ later) → IsFaulty (lines_of text) (number + 1)
good-faulty text number line later none g = record {
  before = g.before;
  line = line;
  later = later;
  split = g.split;
  number = ap (λ (k : ℕ). k + 1) g.count;
  moves = g.moves;
  says = g.says;
  no_move = none;
}

-- so many moves are written, and these lines are left
pub record Followed (shown : ReplayOutput) (w : World) (moves : List Move) (page : List ℕ) (made : ℕ) (first now : QueueParts) : Type 0 where
  pub lines : List ℕ
  pub tells : Tells shown w moves lines
  pub page_is : page ≡ opening_of shown.pictures first ++ lines
  pub agrees : QueuesAgree now (after_moves w (map queue_move moves))
  pub counted : made ≡ moves_happened w (map queue_move moves)

pub record PageSoFar (shown : ReplayOutput) (text page : List ℕ) (made read : ℕ) (last : Option Move) (rest : List (List ℕ)) (first now : QueueParts) : Type 0 where
  pub before : List (List ℕ)
  pub split : before ++ rest ≡ lines_of text
  pub moves : List Move
  pub says : Says before moves
  pub count : read ≡ length moves
  pub last_is : last ≡ last_from None moves
  pub follows : (pairs n : ℕ) (w : World) → IsReachableWorld pairs n w → QueuesAgree first w → Followed shown w moves page made first now

pub page-first : (shown : ReplayOutput) (text page : List ℕ) (queues : QueueParts) → page ≡ opening_of shown.pictures queues → PageSoFar shown text page 0 0 None (lines_of text) queues queues
page-first shown text page queues e = record {
  before = [];
  split = refl;
  moves = [];
  says = says-none;
  count = refl;
  last_is = refl;
  follows = λ pairs n w reached agrees. record {
    lines = [];
    tells = refl;
    page_is = e ∙ sym (append-nil (opening_of shown.pictures queues));
    agrees = agrees;
    counted = refl;
  };
}

pub page-skipped : (shown : ReplayOutput) (text page : List ℕ) (made read : ℕ) (last : Option Move) (line : List ℕ) (later : List (List ℕ)) (first now : QueueParts) → says_something line ≡ false
    → PageSoFar shown text page made read last (line ∷ later) first now → PageSoFar shown text page made read last later first now
page-skipped shown text page made read last line later first now e p = record {
  before = p.before ++ line ∷ [];
  split = one-on p.before later (lines_of text) line p.split;
  moves = p.moves;
  says = says-skipped p.before line p.moves e p.says;
  count = p.count;
  last_is = p.last_is;
  follows = p.follows;
}

last_from-more : (o : Option Move) (ms : List Move) (m : Move) → last_from o (ms ++ m ∷ []) ≡ Some m
last_from-more o [] m = refl
last_from-more o (x ∷ ms) m = last_from-more (Some x) ms m

-- one line more, and what is drawn behind it
told-later : (line drawn later whole more : List ℕ) → whole ≡ line ++ (drawn ++ later) → whole ++ more ≡ line ++ (drawn ++ (later ++ more))
told-later line drawn later whole more is =
    ap (λ (t : List ℕ). t ++ more) is ∙ append_assoc line (drawn ++ later) more ∙ ap (λ (t : List ℕ). line ++ t) (append_assoc drawn later more)

tells-more : (shown : ReplayOutput) (w : World) (ms : List Move) (m : Move) (lines drawn : List ℕ) → Tells shown w ms lines
    → IsDrawn shown.pictures (after_it (after_moves w (map queue_move ms)) m) (drawn_at_once shown.pictures m) drawn
    → Tells shown w (ms ++ m ∷ []) (lines ++ (line_in shown (after_moves w (map queue_move ms)) m ++ drawn))
tells-more shown w [] m lines drawn is draws = (
  drawn,
  [],
  draws,
  refl,
  ap (λ (t : List ℕ). t ++ (line_in shown w m ++ drawn)) is ∙ ap (λ (t : List ℕ). line_in shown w m ++ t) (sym (append-nil drawn)),
)
tells-more shown w (x ∷ ms) m lines drawn (behind, later, drawn_first, told, is) draws = let more = line_in shown (after_moves (after_it w x) (map queue_move ms)) m ++ drawn in (
  behind,
  later ++ more,
  drawn_first,
  tells-more shown (after_it w x) ms m later drawn told draws,
  told-later (line_in shown w x) behind later lines more is,
)

one_happened : (b : Bool) → (if b then suc 0 else 0) ≡ from_bool b
one_happened true = refl
one_happened false = refl

pub one-at_most : (b : Bool) (n : ℕ) → n ≡ from_bool b → n ≤ 1
one-at_most true n e = omega (arith, e)
one-at_most false n e = omega (arith, e)

pub page-more : (shown : ReplayOutput) (text page later_page : List ℕ) (made added read : ℕ) (more : Bool) (last : Option Move) (line : List ℕ) (later : List (List ℕ)) (first now after : QueueParts) (m : Move) → says_something line ≡ true → IsInRange m → line ≡ text_of m
    → ((pairs n : ℕ) (w : World) → IsReachableWorld pairs n w → QueuesAgree now w → WroteMove shown w m more page later_page after)
    → added ≡ from_bool more → PageSoFar shown text page made read last (line ∷ later) first now → PageSoFar shown text later_page (made + added) (read + 1) (Some m) later first after
page-more shown text page later_page made added read more last line later first now after m e range is wrote adds p = record {
  before = p.before ++ line ∷ [];
  split = one-on p.before later (lines_of text) line p.split;
  moves = p.moves ++ m ∷ [];
  says = says-more p.before line p.moves m e range is p.says;
  count = ap (λ (k : ℕ). k + 1) p.count ∙ sym (length-append p.moves (m ∷ []));
  last_is = sym (last_from-more None p.moves m);
  follows = λ pairs n w reached agrees. let f = p.follows pairs n w reached agrees in let here = after_moves w (map queue_move p.moves) in let one = wrote pairs n here (reached_world pairs n w (map queue_move p.moves) reached) f.agrees in
      let both = joined can_move after_move QueuesAgree after w (map queue_move p.moves) (queue_move m ∷ []) made added f.counted (one.agrees, adds ∙ (ap from_bool one.counted ∙ sym (one_happened (can_move here (queue_move m))))) in
      let whole : map queue_move (p.moves ++ m ∷ []) ≡ map queue_move p.moves ++ queue_move m ∷ [] = map-append queue_move p.moves (m ∷ []) in record {
        lines = f.lines ++ (line_in shown here m ++ one.drawn);
        tells = tells-more shown w p.moves m f.lines one.drawn f.tells one.is_drawn;
        page_is = drawn_behind (opening_of shown.pictures first) page later_page (line_in shown here m ++ one.drawn) f.lines f.page_is one.text;
        agrees = subst (λ (ms : List QueueMove). QueuesAgree after (after_moves w ms)) (sym whole) both.0;
        counted = subst (λ (ms : List QueueMove). made + added ≡ moves_happened w ms) (sym whole) both.1;
      };
}

-- what the later lines never say is not said after one more line before them
unsaid-after : (b : List ℕ) (rest : List (List ℕ)) (ms : List Move) (keep : Bool) → says_something b ≡ keep → ((xs : List Move) → All IsInRange xs → filter says_something rest ≡ map text_of xs → ⊥) → All IsInRange ms → filter says_something (b ∷ rest) ≡ map text_of ms → ⊥
unsaid-after b rest ms false h never range e = never ms range (sym (dropped h) ∙ e)
  where
    dropped : says_something b ≡ false → filter says_something (b ∷ rest) ≡ filter says_something rest
    dropped h = rw h refl
unsaid-after b rest ms true h never range e = said ms range (sym (kept h) ∙ e)
  where
    kept : says_something b ≡ true → filter says_something (b ∷ rest) ≡ b ∷ filter says_something rest
    kept h = rw h refl

    said : (xs : List Move) → All IsInRange xs → b ∷ filter says_something rest ≡ map text_of xs → ⊥
    said [] all f = let bad : ⊥ = cc f in bad
    said (x ∷ xs) all f = let same : filter says_something rest ≡ map text_of xs = cc f in never xs (All-tail IsInRange x xs all) same

-- a line that is no move's text stands in no list of moves
unsaid : (before later : List (List ℕ)) (line : List ℕ) (ms : List Move) → IsNoMove line → All IsInRange ms → filter says_something (before ++ line ∷ later) ≡ map text_of ms → ⊥
unsaid [] later line ms none range e = first ms range (sym (skip none.is_move) ∙ e)
  where
    skip : says_something line ≡ true → filter says_something (line ∷ later) ≡ line ∷ filter says_something later
    skip h = rw h refl

    first : (xs : List Move) → All IsInRange xs → line ∷ filter says_something later ≡ map text_of xs → ⊥
    first [] all f = let bad : ⊥ = cc f in bad
    first (x ∷ xs) all f = let same : line ≡ text_of x = cc f in none.no_text x (All-head IsInRange x xs all) same
unsaid (b ∷ before) later line ms none range e = unsaid-after b (before ++ line ∷ later) ms (says_something b) refl (λ xs all f. unsaid before later line xs none all f) range e

pub faulty-unsaid : (lines : List (List ℕ)) (k : ℕ) (ms : List Move) → IsFaulty lines k → Says lines ms → ⊥
faulty-unsaid lines k ms f s = unsaid f.before f.later f.line ms f.no_move s.in_range (ap (filter says_something) f.split ∙ s.texts)

-- so a line of a list of moves that is to be read is read
pub read-said : (shown : ReplayOutput) (text page : List ℕ) (made read : ℕ) (last : Option Move) (line : List ℕ) (later : List (List ℕ)) (first now : QueueParts) → IsMoveList text → IsNoMove line
    → PageSoFar shown text page made read last (line ∷ later) first now → ⊥
read-said shown text page made read last line later first now (ms, says) none p = unsaid p.before later line ms none says.in_range (ap (filter says_something) p.split ∙ says.texts)

behind_opening : (opening lines page more drawn count whole : List ℕ) → page ≡ opening ++ lines → drawn ≡ page ++ more → whole ≡ drawn ++ count → whole ≡ opening ++ (lines ++ (more ++ count))
behind_opening opening lines page more drawn count whole page_is drawn_is whole_is =
    drawn_behind page drawn whole count more drawn_is whole_is ∙ ap (λ (t : List ℕ). t ++ (more ++ count)) page_is ∙ append_assoc opening lines (more ++ count)

-- when no line is left, the page lacks what is drawn at last, and the count
pub page-last : (shown : ReplayOutput) (w : World) (pairs n : ℕ) (text page drawn whole : List ℕ) (made read : ℕ) (last : Option Move) (first now : QueueParts) → IsReachableWorld pairs n w → QueuesAgree first w
    → drawn ≡ page ++ drawn_of shown.pictures now (drawn_at_last shown.pictures last) → whole ≡ drawn ++ count_line shown.json made read → PageSoFar shown text page made read last [] first now → IsPageOf shown w text whole
page-last shown w pairs n text page drawn whole made read last first now reached agrees behind e p = let f = p.follows pairs n w reached agrees in record {
  moves = p.moves;
  says = subst (λ (lines : List (List ℕ)). Says lines p.moves) (sym (append-nil p.before) ∙ p.split) p.says;
  printed = record {
    opening = opening_of shown.pictures first;
    is_opening = record { queues = first; agrees = agrees; opening_is = refl };
    lines = f.lines;
    drawn = drawn_of shown.pictures now (drawn_at_last shown.pictures last);
    tells = f.tells;
    is_drawn = record { queues = now; agrees = f.agrees; drawn_is = ap (λ (o : Option Move). drawn_of shown.pictures now (drawn_at_last shown.pictures o)) p.last_is };
    page_is = behind_opening (opening_of shown.pictures first) f.lines page (drawn_of shown.pictures now (drawn_at_last shown.pictures last)) drawn
        (count_line shown.json (moves_happened w (map queue_move p.moves)) (length p.moves)) whole f.page_is behind
        (e ∙ ap (λ (t : List ℕ). drawn ++ t) (ap₂ (λ (x y : ℕ). count_line shown.json x y) f.counted p.count));
  };
}

stable-le : (a b : ℕ) → ((a ≤ b → ⊥) → ⊥) → a ≤ b
stable-le a b nn = ⊎_elim (λ lt. absurd (nn (λ le. let bad : ⊥ = omega arith in bad))) (λ le. le) (cases_lt b a)

stable-true : (b : Bool) → ((b ≡ true → ⊥) → ⊥) → b ≡ true
stable-true true nn = refl
stable-true false nn = absurd (nn (λ e. let bad : ⊥ = cc e in bad))

-- where they were not refused, there can be such queues
pub are-queues : (pairs n : ℕ) → ((AreQueues pairs n → ⊥) → ⊥) → AreQueues pairs n
are-queues pairs n nn = (
  stable-le 1 pairs (λ no. nn (λ a. no a.0)),
  stable-le pairs MOST_PAIRS (λ no. nn (λ a. no a.1)),
  (stable-le LEAST_RING n (λ no. nn (λ a. no a.2.0)), stable-le n MOST_RING (λ no. nn (λ a. no a.2.1)), stable-true (is_power_of_two n) (λ no. nn (λ a. no a.2.2))),
)

opening-reached : (pairs n : ℕ) (b : TxBeginning) → IsReachableWorld pairs n (opening_world pairs n b)
opening-reached pairs n b = reached-opening can_move after_move (opening_world pairs n) b

page-of : (plan : QueuePlan) (text page : List ℕ) (queues : QueueParts) → QueuesAgree queues (world_of plan)
    → ((pairs n : ℕ) (w : World) → IsReachableWorld pairs n w → QueuesAgree queues w → IsPageOf plan.shown w text page) → IsPageOf plan.shown (world_of plan) text page
page-of plan text page queues agrees is_page =
    is_page plan.pairs plan.ring (world_of plan) (opening-reached plan.pairs plan.ring (record { enabled = plan.enabled; completion = plan.completion })) agrees

-- the data are those of the plan's queues as they are made
pub has-data : (plan : QueuePlan) (text page : List ℕ) (queues : QueueParts) → plan.lists ≡ false → ((AreQueues plan.pairs plan.ring → ⊥) → ⊥) → QueuesAgree queues (world_of plan)
    → ((pairs n : ℕ) (w : World) → IsReachableWorld pairs n w → QueuesAgree queues w → IsPageOf plan.shown w text page) → HasData plan text page
has-data plan text page queues one able agrees is_page = let p = page-of plan text page queues agrees is_page in record {
  moves = p.moves;
  replay = record { says = p.says; queues = are-queues plan.pairs plan.ring able };
  printed = subst (λ (b : Bool). IsPrinted b plan text p.moves page) (sym one) p.printed;
}

-- the moves were known, and had no memory
pub is-replay : (plan : QueuePlan) (text : List ℕ) → ((AreQueues plan.pairs plan.ring → ⊥) → ⊥) → IsMoveList text → (moves : List Move) × IsReplay plan text moves
is-replay plan text able (ms, says) = (ms, record { says = says; queues = are-queues plan.pairs plan.ring able })

pub list-page : (plan : QueuePlan) (text page : List ℕ) (queues : QueueParts) → QueuesAgree queues (world_of plan)
    → ((pairs n : ℕ) (w : World) → IsReachableWorld pairs n w → QueuesAgree queues w → IsPageOf plan.shown w text page) → IsListPage plan (lines_of text) page
list-page plan text page queues agrees is_page = let p = page-of plan text page queues agrees is_page in record { moves = p.moves; says = p.says; printed = p.printed }
