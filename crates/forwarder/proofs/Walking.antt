-- Lists that are walked over, item by item, and those that grow by it in room that was there before.
use Rattle.std.proofs.Common.{◌≡◌, ◌∙◌, ℕ, ◌+◌, ◌<◌, ◌≤◌, List, ◌∷◌, drop, get_or, map, sym, arith, Vec, vec_len, vec_capacity}
use Rattle.flows.specs.Driven.{Relaying}
use Rattle.flows.specs.Sides.{Controlling}
use Rattle.pool.specs.Owned.{Pooled}
use Rattle.forwarder.specs.Plans.{AreOfRings, AreOfAllRings}
use Rattle.forwarder.specs.declared.flow_rings.FlowRings.{FlowRings}
use Rattle.forwarder.proofs.Plans.{drop-later, flow_rings-at}

-- n of m items were taken, the first ones; these are left, and so many
pub record Taken {X : Type 0} (n m : ℕ) (items left : List X) (len : ℕ) : Type 0 where
  pub rest : left ≡ drop n items
  pub count : n + len ≡ m

-- n of m items were put behind one another
pub record Put {X Z : Type 0} (n m : ℕ) (made : Vec X Z) : Type 0 where
  pub len : vec_len made ≡ n
  pub room : m ≤ vec_capacity made

-- what one more item makes of a list that grows
pub record Grew {X Z : Type 0} (made made' : Vec X Z) : Type 0 where
  pub len : vec_len made' ≡ vec_len made + 1
  pub capacity : vec_capacity made' ≡ vec_capacity made

-- of each item that is taken of one list, one is put into each of two
pub record Makes {X Y W Z : Type 0} (n m : ℕ) (items left : List X) (len : ℕ) (ys : Vec Y Z) (ws : Vec W Z) : Type 0 where
  pub taken : Taken n m items left len
  pub one : Put n m ys
  pub other : Put n m ws

-- of two items that are taken of two lists, one is put into a third
pub record Meets {X Y W Z : Type 0} (n m : ℕ) (xs left : List X) (len : ℕ) (ys right : List Y) (more : ℕ) (ws : Vec W Z) : Type 0 where
  pub one : Taken n m xs left len
  pub other : Taken n m ys right more
  pub put : Put n m ws

taken-on : {X : Type 0} (n m : ℕ) (items left left' : List X) (len len' : ℕ) (x : X) → Taken n m items left len → left ≡ x ∷ left' → len' + 1 ≡ len → Taken (n + 1) m items left' len'
taken-on n m items left left' len len' x was first fewer = record {
  rest = drop-later n items x left' (sym was.rest ∙ first);
  count = omega (arith, was.count, fewer);
}

put-on : {X Z : Type 0} (n m : ℕ) (made made' : Vec X Z) → Put n m made → Grew made made' → Put (n + 1) m made'
put-on n m made made' was grew = record { len = omega (arith, was.len, grew.len); room = omega (arith, was.room, grew.capacity) }

module _ {X Y W Z : Type 0} (n m : ℕ) where
  pub makes-on : (items left left' : List X) (len len' : ℕ) (x : X) (ys ys' : Vec Y Z) (ws ws' : Vec W Z) → Makes n m items left len ys ws
      → left ≡ x ∷ left' → len' + 1 ≡ len → Grew ys ys' → Grew ws ws' → Makes (n + 1) m items left' len' ys' ws'
  makes-on items left left' len len' x ys ys' ws ws' was first fewer grew grew' = record {
    taken = taken-on n m items left left' len len' x was.taken first fewer;
    one = put-on n m ys ys' was.one grew;
    other = put-on n m ws ws' was.other grew';
  }

  pub meets-on : (xs left left' : List X) (len len' : ℕ) (x : X) (ys right right' : List Y) (more more' : ℕ) (y : Y) (ws ws' : Vec W Z) → Meets n m xs left len ys right more ws
      → left ≡ x ∷ left' → len' + 1 ≡ len → right ≡ y ∷ right' → more' + 1 ≡ more → Grew ws ws' → Meets (n + 1) m xs left' len' ys right' more' ws'
  meets-on xs left left' len len' x ys right right' more more' y ws ws' was first fewer first' fewer' grew = record {
    one = taken-on n m xs left left' len len' x was.one first fewer;
    other = taken-on n m ys right right' more more' y was.other first' fewer';
    put = put-on n m ws ws' was.put grew;
  }

-- both sides that are taken next are of the rings at their place
pub flow_rings-met : {W Z : Type 0} (pool : Pooled) (n m : ℕ) (rings : List FlowRings) (flow_rings : FlowRings) (drivers left ds : List Relaying) (len : ℕ) (driver : Relaying) (controllers right cs : List Controlling) (more : ℕ) (controller : Controlling) (made : Vec W Z)
    → AreOfAllRings pool m rings (map (λ f. f.key) drivers) (map (λ f. f.key) controllers) → Meets n m drivers left len controllers right more made
    → n < m → get_or rings n flow_rings ≡ flow_rings → left ≡ driver ∷ ds → right ≡ controller ∷ cs → AreOfRings pool flow_rings driver.key controller.key
flow_rings-met pool n m rings flow_rings drivers left ds len driver controllers right cs more controller made are was low here first first' =
    flow_rings-at pool m n rings flow_rings drivers ds driver controllers cs controller are low here (sym was.one.rest ∙ first) (sym was.other.rest ∙ first')
