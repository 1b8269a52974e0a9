-- Texts that are written one after another.
use Rattle.std.proofs.Common.{◌≡◌, ◌∙◌, List, ℕ, Bool, true, false, ◌++◌, ap, append_assoc, refl}
use Rattle.std.specs.Int.{from_bool}
use Rattle.std.specs.Prelude.{codes}
use Rattle.ring_model.specs.shared.Agreement.{Wrapped, bit}
use Rattle.pictures.specs.States.{queue_members}

pub two : (old t1 t2 a b : List ℕ) → t1 ≡ old ++ a → t2 ≡ t1 ++ b → t2 ≡ old ++ (a ++ b)
two old t1 t2 a b first second = second ∙ ap (λ (t : List ℕ). t ++ b) first ∙ append_assoc old a b

pub three : (old t1 t2 t3 a b c : List ℕ) → t1 ≡ old ++ a → t2 ≡ t1 ++ b → t3 ≡ t2 ++ c → t3 ≡ old ++ (a ++ (b ++ c))
three old t1 t2 t3 a b c first second third = two old t1 t3 a (b ++ c) first (two t1 t2 t3 b c second third)

pub four : (old t1 t2 t3 t4 a b c d : List ℕ) → t1 ≡ old ++ a → t2 ≡ t1 ++ b → t3 ≡ t2 ++ c → t4 ≡ t3 ++ d → t4 ≡ old ++ (a ++ (b ++ (c ++ d)))
four old t1 t2 t3 t4 a b c d first second third fourth = two old t1 t4 a (b ++ (c ++ d)) first (three t1 t2 t3 t4 b c d second third fourth)

pub five : (old t1 t2 t3 t4 t5 a b c d e : List ℕ) → t1 ≡ old ++ a → t2 ≡ t1 ++ b → t3 ≡ t2 ++ c → t4 ≡ t3 ++ d → t5 ≡ t4 ++ e
    → t5 ≡ old ++ (a ++ (b ++ (c ++ (d ++ e))))
five old t1 t2 t3 t4 t5 a b c d e first second third fourth fifth = two old t1 t5 a (b ++ (c ++ (d ++ e))) first (four t1 t2 t3 t4 t5 b c d e second third fourth fifth)

pub six : (old t1 t2 t3 t4 t5 t6 a b c d e f : List ℕ) → t1 ≡ old ++ a → t2 ≡ t1 ++ b → t3 ≡ t2 ++ c → t4 ≡ t3 ++ d → t5 ≡ t4 ++ e → t6 ≡ t5 ++ f
    → t6 ≡ old ++ (a ++ (b ++ (c ++ (d ++ (e ++ f)))))
six old t1 t2 t3 t4 t5 t6 a b c d e f first second third fourth fifth sixth =
    two old t1 t6 a (b ++ (c ++ (d ++ (e ++ f)))) first (five t1 t2 t3 t4 t5 t6 b c d e f second third fourth fifth sixth)

-- the members of a queue, as it is read
pub of_queue : (members : Wrapped ℕ → List ℕ) (read queue : Wrapped ℕ) (old new : List ℕ) → read ≡ queue → new ≡ old ++ members read → new ≡ old ++ members queue
of_queue members read queue old new same is = is ∙ ap (λ (w : Wrapped ℕ). old ++ members w) same

-- the line of a queue: its name with its size, its state and the end of the line
pub line-written : (letter : List ℕ) (number read size : ℕ) (state old t1 t2 t3 : List ℕ) → read ≡ size → t1 ≡ old ++ queue_members letter number read → t2 ≡ t1 ++ state
    → t3 ≡ t2 ++ codes "}\n" → t3 ≡ old ++ (queue_members letter number size ++ (state ++ codes "}\n"))
line-written letter number read size state old t1 t2 t3 same named stated ended =
    three old t1 t2 t3 (queue_members letter number size) state (codes "}\n") (named ∙ ap (λ (n : ℕ). old ++ queue_members letter number n) same) stated ended

-- a bit is the number that a flag is written as
pub bit_is : (b : Bool) → bit b ≡ from_bool b
bit_is true = refl
bit_is false = refl
