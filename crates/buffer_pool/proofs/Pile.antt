-- A pile of buffers, as its top comes and goes.
use Rattle.std.proofs.Common.{◌≡◌, ℕ, zero, suc, List, [], ◌∷◌, ◌++◌, length, get_or, map, reverse, Option, Some, None, option_to_list, IfSome, refl, sym, ◌∙◌, ap, subst, arith, length-append}
use Rattle.std.proofs.lemmas.List.{reverse-append, length-reverse, length-map, get_or_append_left, append-nil}
use Rattle.std.proofs.lemmas.List.Elements.{All-append}
use Rattle.buffer_pool.specs.Buffer.{Buffer, buffer}
use Rattle.buffer_pool.specs.Shelf.{numbers_of, stock_of, AllReady}
use Rattle.buffer_pool.specs.Stocked.{Stocked, with_number, IsStock, IsOut, Shares}
use Rattle.buffer_pool.proofs.Numbers.{IsStock-rest, IsStock-with_number, IsOut-taken, Shares-taken, Shares-given}

pub numbers_of-push : (pile : List Buffer) (b : Buffer) → numbers_of (pile ++ b ∷ []) ≡ b.number ∷ numbers_of pile
numbers_of-push pile b = ap (map (λ (x : Buffer). x.number)) (reverse-append pile (b ∷ []))

-- one more buffer on the pile is one more number in the stock
stock_of-push : (first count : ℕ) (pile : List Buffer) (b : Buffer)
    → stock_of first count (pile ++ b ∷ []) ≡ with_number (stock_of first count pile) b.number
stock_of-push first count pile b =
    let with_numbers : List ℕ → Stocked = λ numbers. record { first = first; count = count; numbers = numbers } in
    ap with_numbers (numbers_of-push pile b)

pub length-numbers_of : (pile : List Buffer) → length (numbers_of pile) ≡ length pile
length-numbers_of pile = length-map (reverse pile) (λ b. b.number) ∙ length-reverse pile

AllReady-one : (b : Buffer) → b ≡ buffer b.number [] → AllReady (b ∷ [])
AllReady-one b e zero d h = e
AllReady-one b e (suc k) d h = absurd (omega arith)

pub AllReady-push : (pile : List Buffer) (b : Buffer) → AllReady pile → b ≡ buffer b.number [] → AllReady (pile ++ b ∷ [])
AllReady-push pile b ready e = All-append (λ x. x ≡ buffer x.number []) pile (b ∷ []) ready (AllReady-one b e)

AllReady-rest : (pile : List Buffer) (b : Buffer) → AllReady (pile ++ b ∷ []) → AllReady pile
AllReady-rest pile b ready k d h =
    let e : get_or (pile ++ b ∷ []) k d ≡ get_or pile k d = get_or_append_left pile (b ∷ []) d k h in
    rw e at (ready k d (omega (arith, length-append pile (b ∷ []))))

-- ---- a `pop`

-- what it leaves of the pile, and what it gave
pub record IsPopped (first count : ℕ) (pile rest : List Buffer) (top : Option Buffer) : Type 0 where
  pub numbers : IsStock (stock_of first count rest)
  pub ready : AllReady rest
  pub out : IfSome top (λ b. IsOut (stock_of first count rest) b.number)
  pub shared : IfSome top (λ b. (out : List ℕ) → Shares (stock_of first count pile) out
      → Shares (stock_of first count rest) (b.number ∷ out))

IsPopped-whole : (first count : ℕ) (rest : List Buffer) (top : Option Buffer)
    → IsStock (stock_of first count (rest ++ option_to_list top)) → AllReady (rest ++ option_to_list top)
    → IsPopped first count (rest ++ option_to_list top) rest top
IsPopped-whole first count rest None h ready = record {
  numbers = subst (λ (pile : List Buffer). IsStock (stock_of first count pile)) (append-nil rest) h;
  ready = subst AllReady (append-nil rest) ready;
  out = tt;
  shared = tt;
}
IsPopped-whole first count rest (Some b) h ready =
    let left : Stocked = stock_of first count rest in
    let e : stock_of first count (rest ++ b ∷ []) ≡ with_number left b.number = stock_of-push first count rest b in
    record {
      numbers = IsStock-rest left b.number (subst IsStock e h);
      ready = AllReady-rest rest b ready;
      out = IsOut-taken left b.number (subst IsStock e h);
      shared = λ out s. Shares-taken left b.number out (subst (λ (all : Stocked). Shares all out) e s);
    }

pub IsPopped-from : (first count : ℕ) (pile rest : List Buffer) (top : Option Buffer)
    → pile ≡ rest ++ option_to_list top → IsStock (stock_of first count pile) → AllReady pile
    → IsPopped first count pile rest top
IsPopped-from first count pile rest top e h ready =
    let Claim : List Buffer → Type 0 = λ p. IsStock (stock_of first count p) → AllReady p → IsPopped first count p rest top in
    subst Claim (sym e) (IsPopped-whole first count rest top) h ready

-- ---- a `push` of an empty buffer that is out

-- what it makes of the pile
pub record IsPushed (first count : ℕ) (pile more : List Buffer) (number : ℕ) : Type 0 where
  pub numbers : IsStock (stock_of first count more)
  pub ready : AllReady more
  pub shared : (out : List ℕ) → Shares (stock_of first count pile) (number ∷ out) → Shares (stock_of first count more) out

IsPushed-whole : (first count : ℕ) (pile : List Buffer) (number : ℕ)
    → IsStock (stock_of first count pile) → AllReady pile → IsOut (stock_of first count pile) number
    → IsPushed first count pile (pile ++ buffer number [] ∷ []) number
IsPushed-whole first count pile number h ready out =
    let before : Stocked = stock_of first count pile in
    let e : with_number before number ≡ stock_of first count (pile ++ buffer number [] ∷ []) =
    sym (stock_of-push first count pile (buffer number [])) in
    record {
      numbers = subst IsStock e (IsStock-with_number before number h out);
      ready = AllReady-push pile (buffer number []) ready refl;
      shared = λ others s. subst (λ (all : Stocked). Shares all others) e (Shares-given before number others s);
    }

pub IsPushed-from : (first count : ℕ) (pile more : List Buffer) (number : ℕ)
    → more ≡ pile ++ buffer number [] ∷ [] → IsStock (stock_of first count pile) → AllReady pile
    → IsOut (stock_of first count pile) number → IsPushed first count pile more number
IsPushed-from first count pile more number e h ready out =
    let Claim : List Buffer → Type 0 = λ p. IsPushed first count pile p number in
    subst Claim (sym e) (IsPushed-whole first count pile number h ready out)
