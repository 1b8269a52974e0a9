-- The queue of a move, and the moves that its step makes.
use Rattle.std.proofs.Common.{◌≡◌, ◌↔◌, ℕ, ◌+◌, ◌<◌, List, [], ◌∷◌, length, get_or, Some, refl, sym, ap, subst, ◌∙◌, arith}
use Rattle.std.proofs.lemmas.Fmt.{decimal_digit}
use Rattle.std.proofs.lemmas.Option.{same_Some}
use Rattle.limits.specs.declared.profile.TheConstants.{MOST_PAIRS}
use Rattle.ring_machine.specs.declared.moves.Move.{Move}
use Rattle.ring_machine.specs.declared.moves.Move.TheVariants.{Receive, Transmit}
use Rattle.ring_model.specs.declared.steps.RxStep.{RxStep}
use Rattle.ring_model.specs.declared.steps.TxStep.{TxStep}
use Rattle.ring_machine.specs.code.Fields.{Spells, SpellsRx, SpellsTx}
use Rattle.ring_machine.specs.text.Moves.{IsInRange, arguments_of, kind_of, queue_of}
use Rattle.ring_model.specs.transmit.Ring.{Posting}

abbrev letter_of : Move → ℕ
letter_of (Receive q s) = 114
letter_of (Transmit q s) = 116

abbrev pub number_of : Move → ℕ
number_of (Receive q s) = q
number_of (Transmit q s) = q

-- a queue is a letter and a digit
pub record IsQueue (queue : List ℕ) (letter number : ℕ) : Type 0 where
  pub two : length queue ≡ 2
  pub letter_is : get_or queue 0 0 ≡ letter
  pub digit_is : get_or queue 1 0 ≡ 48 + number
  pub below : number < MOST_PAIRS

of_two : (letter number : ℕ) → number < MOST_PAIRS → IsQueue (letter ∷ (48 + number) ∷ []) letter number
of_two letter number below = record { two = refl; letter_is = refl; digit_is = refl; below = below }

queue_is : (m : Move) → IsInRange m → queue_of m ≡ letter_of m ∷ (48 + number_of m) ∷ []
queue_is (Receive q s) r = ap (λ digits. 114 ∷ digits) (decimal_digit q (omega (arith, r.0)))
queue_is (Transmit q s) r = ap (λ digits. 116 ∷ digits) (decimal_digit q (omega (arith, r.0)))

number_below : (m : Move) → IsInRange m → number_of m < MOST_PAIRS
number_below (Receive q s) r = r.0
number_below (Transmit q s) r = r.0

pub queue_said : (queue name numbers : List ℕ) (m : Move) → Spells queue name numbers m
    → IsQueue queue (letter_of m) (number_of m)
queue_said queue name numbers m s =
    subst (λ q. IsQueue q (letter_of m) (number_of m)) (sym (s.queue ∙ queue_is m s.in_range))
    (of_two (letter_of m) (number_of m) (number_below m s.in_range))

two_bytes : (queue : List ℕ) → length queue ≡ 2 → queue ≡ get_or queue 0 0 ∷ get_or queue 1 0 ∷ []
two_bytes [] two = absurd (omega arith)
two_bytes (a ∷ []) two = absurd (omega arith)
two_bytes (a ∷ b ∷ []) two = refl
two_bytes (a ∷ b ∷ c ∷ more) two = absurd (omega arith)

queue_again : (queue : List ℕ) (m : Move) → IsInRange m → IsQueue queue (letter_of m) (number_of m) → queue ≡ queue_of m
queue_again queue m r is =
    let bytes : get_or queue 0 0 ∷ get_or queue 1 0 ∷ [] ≡ letter_of m ∷ (48 + number_of m) ∷ [] =
    cc (is.letter_is, is.digit_is) in
    two_bytes queue is.two ∙ bytes ∙ sym (queue_is m r)

-- a queue that was read
pub queue_read : (queue : List ℕ) (letter number : ℕ) → length queue ≡ 2 → get_or queue 0 0 ≡ letter → (number < MOST_PAIRS) × (get_or queue 1 0 ≡ 48 + number) → IsQueue queue letter number
queue_read queue letter number two letter_is digit = record { two = two; letter_is = letter_is; digit_is = digit.1; below = digit.0 }

-- what is read is what is meant, and nothing else is
abbrev pub IsExact : {X : Type 0} → X → (X → Type 0) → Type 0
IsExact {X} read Means = (x : X) → (Some read ≡ Some x) ↔ Means x

module _ (queue name numbers : List ℕ) where
  spelled : (m : Move) → IsInRange m → IsQueue queue (letter_of m) (number_of m) → name ≡ kind_of m → numbers ≡ arguments_of m → Spells queue name numbers m
  spelled m r is kind arguments = record { in_range = r; queue = queue_again queue m r is; kind = kind; arguments = arguments }

  -- a step that is exact makes a move that is, by the constructor of its letter
  made_exact : {Step : Type 0} (make : ℕ → Step → Move) (letter : ℕ) (Means : Step → Type 0) (q : ℕ) (s : Step) → IsQueue queue letter q → IsExact s Means
      → ((t : Step) → Means t → Spells queue name numbers (make q t)) → ((m : Move) → Spells queue name numbers m → letter_of m ≡ letter → (t : Step) × (m ≡ make (number_of m) t) × Means t)
      → IsExact (make q s) (Spells queue name numbers)
  made_exact make letter Means q s is exact spells steps m = (
    λ e. subst (λ x. Spells queue name numbers x) (same_Some (make q s) m e) (spells s ((exact s).0 refl)),
    λ h.
        let there = queue_said queue name numbers m h in
        let found = steps m h (sym there.letter_is ∙ is.letter_is) in
        let number : q ≡ number_of m = omega (arith, there.digit_is, is.digit_is) in
        let step = same_Some s found.0 ((exact found.0).1 found.2) in
        ap Some (ap (λ i. make i s) number ∙ ap (λ t. make (number_of m) t) step ∙ sym found.1),
  )

  pub receive_exact : (q : ℕ) (s : RxStep ℕ) → IsQueue queue 114 q → IsExact s (SpellsRx name numbers) → IsExact (Receive q s) (Spells queue name numbers)
  receive_exact q s is exact = made_exact Receive 114 (SpellsRx name numbers) q s is exact (λ t h. spelled (Receive q t) (is.below, h.in_range) is h.kind h.arguments) steps
    where
      steps : (m : Move) → Spells queue name numbers m → letter_of m ≡ 114 → (t : RxStep ℕ) × (m ≡ Receive (number_of m) t) × SpellsRx name numbers t
      steps (Receive p t) h letter = (t, refl, record { in_range = h.in_range.1; kind = h.kind; arguments = h.arguments })
      steps (Transmit p t) h letter = absurd (omega arith)

  pub transmit_exact : (q : ℕ) (s : TxStep (Posting ℕ)) → IsQueue queue 116 q → IsExact s (SpellsTx name numbers) → IsExact (Transmit q s) (Spells queue name numbers)
  transmit_exact q s is exact = made_exact Transmit 116 (SpellsTx name numbers) q s is exact (λ t h. spelled (Transmit q t) (is.below, h.in_range) is h.kind h.arguments) steps
    where
      steps : (m : Move) → Spells queue name numbers m → letter_of m ≡ 116 → (t : TxStep (Posting ℕ)) × (m ≡ Transmit (number_of m) t) × SpellsTx name numbers t
      steps (Receive p t) h letter = absurd (omega arith)
      steps (Transmit p t) h letter = (t, refl, record { in_range = h.in_range.1; kind = h.kind; arguments = h.arguments })
