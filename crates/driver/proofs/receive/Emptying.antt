-- The buffers of a chain and of a ring, as a disabled queue gives them back.
use Rattle.std.proofs.Common.{◌≡◌, ◌∙◌, ℕ, ◌<◌, List, [], ◌∷◌, ◌++◌, length, reverse, sym, refl, ap, arith, append_assoc}
use Rattle.std.proofs.lemmas.List.{map-append, reverse-append}
use Rattle.buffer_pool.specs.Buffer.{Buffer}
use Rattle.driver.specs.receive.Returns.{numbers_of, Unchained}

pub no_chain : (bufs : List Buffer) → ¬ (0 < length bufs) → bufs ≡ []
no_chain [] h = refl
no_chain (b ∷ bufs) h = absurd (h (omega arith))

pub unchained-none : (chain : List Buffer) (stash : List ℕ) → Unchained chain stash chain stash
unchained-none chain stash = record { moved = []; chain = refl; stash = refl }

-- one more
pub unchained-one : (old : List Buffer) (had : List ℕ) (chain : List Buffer) (stash : List ℕ) (new : List Buffer) (has : List ℕ) (b : Buffer)
    → Unchained old had chain stash → chain ≡ b ∷ new → has ≡ b.number ∷ stash → Unchained old had new has
unchained-one old had chain stash new has b f first put = record {
  moved = f.moved ++ b ∷ [];
  chain = f.chain ∙ (ap (λ (l : List Buffer). f.moved ++ l) first ∙ sym (append_assoc f.moved (b ∷ []) new));
  stash = put ∙ (ap (λ (l : List ℕ). b.number ∷ l) f.stash ∙ ap (λ (l : List ℕ). l ++ had)
      (sym (ap reverse (map-append (λ (x : Buffer). x.number) f.moved (b ∷ [])) ∙ reverse-append (numbers_of f.moved) (b.number ∷ []))));
}
