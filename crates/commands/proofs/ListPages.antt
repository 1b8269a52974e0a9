-- The pages of a text's lists, one list after another.
use Rattle.std.proofs.Common.{◌≡◌, ◌∙◌, ◌⊎◌, inl, inr, ℕ, ◌<◌, Bool, true, false, List, [], ◌∷◌, ◌++◌, length, map, Option, Some, None, Bor, refl, sym, ap, subst, append_assoc, if◌then◌else◌}
use Rattle.std.specs.Prelude.{All}
use Rattle.std.specs.List.{filter}
use Rattle.std.proofs.lemmas.List.{append-nil}
use Rattle.std.proofs.lemmas.List.Elements.{All-cons, All-head, All-nil, All-tail}
use Rattle.ring_machine.specs.declared.moves.Move.{Move}
use Rattle.ring_machine.specs.Queues.{AreQueues}
use Rattle.ring_machine.specs.text.Moves.{IsInRange, text_of}
use Rattle.text_lines.specs.Parts.{later_parts, lines_of, says_something}
use Rattle.refusals.specs.declared.errors.MachineError.TheVariants.{Memory as MachineMemory}
use Rattle.requests.specs.declared.refusal.Refusal.{Refusal}
use Rattle.requests.specs.declared.refusal.Refusal.TheVariants as refusal
use Rattle.requests.specs.declared.replay.QueuePlan.{QueuePlan}
use Rattle.commands.specs.Lists.{IsListCut, lists_of}
use Rattle.commands.specs.Replay.{ArePages, IsListPage, IsMoveList, IsPrinted, IsReplay, LacksMemory, Reads, ReplayRefused, Says}

-- ---- lines that each are read

says-by : (line : List ℕ) (lines : List (List ℕ)) (ms : List Move) (b : Bool) → says_something line ≡ b → Says (line ∷ lines) ms
    → Reads line × ((later : List Move) × Says lines later)
says-by line lines ms false e s = (inl e, (ms, record { texts = skipped e ∙ s.texts; in_range = s.in_range }))
  where
    skipped : says_something line ≡ false → filter says_something lines ≡ filter says_something (line ∷ lines)
    skipped h = rw h refl
says-by line lines [] true e s = let bad : line ∷ filter says_something lines ≡ [] = kept e ∙ s.texts in let never : ⊥ = cc bad in absurd never
  where
    kept : says_something line ≡ true → line ∷ filter says_something lines ≡ filter says_something (line ∷ lines)
    kept h = rw h refl
says-by line lines (m ∷ ms) true e s =
    let both : line ∷ filter says_something lines ≡ text_of m ∷ map text_of ms = kept e ∙ s.texts in
    let first : line ≡ text_of m = cc both in
    let later : filter says_something lines ≡ map text_of ms = cc both in
    (inr (m, All-head IsInRange m ms s.in_range, first), (ms, record { texts = later; in_range = All-tail IsInRange m ms s.in_range }))
  where
    kept : says_something line ≡ true → line ∷ filter says_something lines ≡ filter says_something (line ∷ lines)
    kept h = rw h refl

-- each line of a list of moves is read
all-read : (lines : List (List ℕ)) (ms : List Move) → Says lines ms → All Reads lines
all-read [] ms s = All-nil Reads
all-read (line ∷ lines) ms s =
    let parts = says-by line lines ms (says_something line) refl s in
    All-cons Reads line lines parts.0 (all-read lines parts.1.0 parts.1.1)

said-by : (line : List ℕ) (lines : List (List ℕ)) (b : Bool) → says_something line ≡ b → Reads line → ((ms : List Move) × Says lines ms) → (ms : List Move) × Says (line ∷ lines) ms
said-by line lines false e reads (ms, s) = (ms, record { texts = skipped e ∙ s.texts; in_range = s.in_range })
  where
    skipped : says_something line ≡ false → filter says_something (line ∷ lines) ≡ filter says_something lines
    skipped h = rw h refl
said-by line lines true e (inl none) (ms, s) = let bad : ⊥ = cc (e, none) in absurd bad
said-by line lines true e (inr (m, range, is)) (ms, s) = (m ∷ ms, record { texts = kept e ∙ both is s.texts; in_range = All-cons IsInRange m ms range s.in_range })
  where
    kept : says_something line ≡ true → filter says_something (line ∷ lines) ≡ line ∷ filter says_something lines
    kept h = rw h refl

    both : line ≡ text_of m → filter says_something lines ≡ map text_of ms → line ∷ filter says_something lines ≡ text_of m ∷ map text_of ms
    both a b = rw (a, b) refl

-- and lines that are each read are a list of moves
all-said : (lines : List (List ℕ)) → All Reads lines → (ms : List Move) × Says lines ms
all-said [] all = ([], record { texts = refl; in_range = All-nil IsInRange })
all-said (line ∷ lines) all = said-by line lines (says_something line) refl (All-head Reads line lines all) (all-said lines (All-tail Reads line lines all))

front-read : (a b : List (List ℕ)) → All Reads (a ++ b) → All Reads a
front-read [] b all = All-nil Reads
front-read (x ∷ a) b all = All-cons Reads x a (All-head Reads x (a ++ b) all) (front-read a b (All-tail Reads x (a ++ b) all))

back-read : (a b : List (List ℕ)) → All Reads (a ++ b) → All Reads b
back-read [] b all = all
back-read (x ∷ a) b all = back-read a b (All-tail Reads x (a ++ b) all)

-- with the same moves
says-same : (lines others : List (List ℕ)) (ms : List Move) → filter says_something others ≡ filter says_something lines → Says lines ms → Says others ms
says-same lines others ms same s = record { texts = same ∙ s.texts; in_range = s.in_range }

-- ---- the lists of so many lines are printed, and these lines are left

pub record PagesSoFar (plan : QueuePlan) (text pages : List ℕ) (rest : Option (Bor (List ℕ))) : Type 0 where
  pub reads : All Reads (later_parts 10 rest)
  pub follows : (later : List ℕ) → ArePages plan (lists_of (later_parts 10 rest)) later → ArePages plan (lists_of (lines_of text)) (pages ++ later)

pub pages-first : (plan : QueuePlan) (text : Bor (List ℕ)) (pages : List ℕ) → pages ≡ [] → IsMoveList text.now → PagesSoFar plan text.now pages (Some text)
pages-first plan text pages none (ms, says) = record {
  reads = all-read (lines_of text.now) ms says;
  follows = λ later are. subst (λ (t : List ℕ). ArePages plan (lists_of (lines_of text.now)) (t ++ later)) (sym none) are;
}

-- the list that is cut off is a list of moves
pub cut-moves : (plan : QueuePlan) (text pages list : List ℕ) (is_list : Bool) (left : Bor (List ℕ)) (rest : Option (Bor (List ℕ))) → IsListCut left.now list is_list rest
    → PagesSoFar plan text pages (Some left) → IsMoveList list
cut-moves plan text pages list is_list left rest cut p =
    let said = all-said cut.lines (front-read cut.lines (cut.between ++ later_parts 10 rest) (subst (All Reads) (sym cut.split) p.reads)) in
    (said.0, says-same cut.lines (lines_of list) said.0 cut.same_moves said.1)

cut-reads : (plan : QueuePlan) (text pages list : List ℕ) (is_list : Bool) (left : Bor (List ℕ)) (rest : Option (Bor (List ℕ))) → IsListCut left.now list is_list rest
    → PagesSoFar plan text pages (Some left) → All Reads (later_parts 10 rest)
cut-reads plan text pages list is_list left rest cut p =
    back-read cut.between (later_parts 10 rest) (back-read cut.lines (cut.between ++ later_parts 10 rest) (subst (All Reads) (sym cut.split) p.reads))

pub pages-next : (plan : QueuePlan) (text pages page list : List ℕ) (left : Bor (List ℕ)) (rest : Option (Bor (List ℕ))) → IsListCut left.now list true rest
    → IsListPage plan (lines_of list) page → PagesSoFar plan text pages (Some left) → PagesSoFar plan text (pages ++ page) rest
pages-next plan text pages page list left rest cut is p = record {
  reads = cut-reads plan text pages list true left rest cut p;
  follows = λ later are.
      let one : IsListPage plan cut.lines page = record { moves = is.moves; says = says-same (lines_of list) cut.lines is.moves (sym cut.same_moves) is.says; printed = is.printed } in
      subst (ArePages plan (lists_of (lines_of text))) (sym (append_assoc pages page later))
      (p.follows (page ++ later) (subst (λ (ls : List (List (List ℕ))). ArePages plan ls (page ++ later)) (sym cut.lists) (page, later, one, are, refl)));
}

pub pages-skipped : (plan : QueuePlan) (text pages list : List ℕ) (left : Bor (List ℕ)) (rest : Option (Bor (List ℕ))) → IsListCut left.now list false rest
    → PagesSoFar plan text pages (Some left) → PagesSoFar plan text pages rest
pages-skipped plan text pages list left rest cut p = record {
  reads = cut-reads plan text pages list false left rest cut p;
  follows = λ later are. p.follows later (subst (λ (ls : List (List (List ℕ))). ArePages plan ls later) (sym cut.lists) are);
}

pub pages-last : (plan : QueuePlan) (text pages : List ℕ) (rest : Option (Bor (List ℕ))) → rest ≡ None → PagesSoFar plan text pages rest → ArePages plan (lists_of (lines_of text)) pages
pages-last plan text pages None e p = subst (ArePages plan (lists_of (lines_of text))) (append-nil pages) (p.follows [] refl)
pages-last plan text pages (Some left) e p = let bad : ⊥ = cc e in absurd bad
