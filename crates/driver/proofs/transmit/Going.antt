-- Going on by no step, by one, and by some after others.
use Rattle.std.proofs.Common.{◌≡◌, ℕ, Bool, true, List, [], ◌∷◌, ◌++◌, ap, sym, refl, ◌∙◌, append_assoc, append-nil}
use Rattle.std.specs.Prelude.{All}
use Rattle.std.proofs.lemmas.Bool.{false≢true}
use Rattle.std.proofs.lemmas.List.Elements.{All-head, All-tail}
use Rattle.shared_ring.specs.declared.events.DriverEvent.TheVariants.{Posted, Own}
use Rattle.shared_ring.proofs.Posting.{known-after}
use Rattle.tx_ring.specs.declared.events.TxDriverOwn.TheVariants.{Cleaned}
use Rattle.tx_ring.specs.Ends.{DriverSide, driver_record, known_of, fill_place, next_place, driver_grown}
use Rattle.tx_ring.specs.Records.{DriverStep, Posting, TxDriven, knowing, know}
use Rattle.tx_ring.specs.Rule.{filled, word_of}
use Rattle.driver.specs.Steps.{Runs, is_post}
use Rattle.driver.specs.transmit.Going.{WentOn, PostedAll, with_posted, with_cleaned}
use Rattle.driver.proofs.Running.{runs-none, runs-trans, runs-more}

-- the record with other lists
pub with_lists : (x : TxDriven) (ps qs : List Posting) (us vs : List ℕ) → ps ≡ qs → us ≡ vs → record x { posted = ps; reaped = us } ≡ record x { posted = qs; reaped = vs }
with_lists x ps qs us vs e f = ap (λ (l : List Posting). record x { posted = l; reaped = us }) e ∙ ap (λ (l : List ℕ). record x { posted = qs; reaped = l }) f

pub same_lists : (x : TxDriven) → x ≡ record x { posted = x.posted ++ []; reaped = x.reaped ++ [] }
same_lists x = with_lists x x.posted (x.posted ++ []) x.reaped (x.reaped ++ []) (sym (append-nil x.posted)) (sym (append-nil x.reaped))

more_lists : (x y z : TxDriven) (xs ys : List Posting) (us vs : List ℕ) → y ≡ record x { posted = x.posted ++ xs; reaped = x.reaped ++ us } → z ≡ record y { posted = y.posted ++ ys; reaped = y.reaped ++ vs }
    → z ≡ record x { posted = x.posted ++ (xs ++ ys); reaped = x.reaped ++ (us ++ vs) }
more_lists x y z xs ys us vs p q =
    q ∙ ap (λ (r : TxDriven). record r { posted = r.posted ++ ys; reaped = r.reaped ++ vs }) p
    ∙ with_lists x ((x.posted ++ xs) ++ ys) (x.posted ++ (xs ++ ys)) ((x.reaped ++ us) ++ vs) (x.reaped ++ (us ++ vs)) (append_assoc x.posted xs ys) (append_assoc x.reaped us vs)

module _ {kinds : DriverStep → Bool} where
  pub stood : (d : DriverSide) → WentOn kinds d [] [] d
  stood d = record { runs = runs-none kinds d; did = same_lists (driver_record d); head = refl }

  pub and_on : {a b c : DriverSide} {xs ys : List Posting} {us vs : List ℕ} → WentOn kinds a xs us b → WentOn kinds b ys vs c → WentOn kinds a (xs ++ ys) (us ++ vs) c
  and_on {a} {b} {c} {xs} {ys} {us} {vs} p q = record {
    runs = runs-trans kinds a b c p.runs q.runs;
    did = more_lists (driver_record a) (driver_record b) (driver_record c) xs ys us vs p.did q.did;
    head = q.head ∙ p.head;
  }

-- steps of some kinds are steps of more kinds
pub went-more : {some more : DriverStep → Bool} {a b : DriverSide} {xs : List Posting} {us : List ℕ} → ((e : DriverStep) → some e ≡ true → more e ≡ true) → WentOn some a xs us b → WentOn more a xs us b
went-more {some} {more} {a} {b} wider p = record { runs = runs-more some more a b wider p.runs; did = p.did; head = p.head }

-- steps behind others
pub with_posted-append : (xs ys : List Posting) (d : DriverSide) → with_posted (xs ++ ys) d ≡ with_posted ys (with_posted xs d)
with_posted-append [] ys d = refl
with_posted-append (p ∷ xs) ys d = with_posted-append xs ys (driver_grown d (Posted (fill_place d) (word_of p) (filled p)))

pub with_cleaned-append : (xs ys : List Posting) (d : DriverSide) → with_cleaned (xs ++ ys) d ≡ with_cleaned ys (with_cleaned xs d)
with_cleaned-append [] ys d = refl
with_cleaned-append (p ∷ xs) ys d = with_cleaned-append xs ys (driver_grown d (Own (Cleaned (next_place d) (filled p))))

pub none_posted_on : (d : DriverSide) → PostedAll d [] d
none_posted_on d = record { steps = refl; went = stood d }

pub posted_on : {a b c : DriverSide} {xs ys : List Posting} → PostedAll a xs b → PostedAll b ys c → PostedAll a (xs ++ ys) c
posted_on {a} {b} {c} {xs} {ys} p q = record { steps = q.steps ∙ ap (with_posted ys) p.steps ∙ sym (with_posted-append xs ys a); went = and_on p.went q.went }

-- posting teaches nothing
post-known : (d : DriverSide) (e : DriverStep) → is_post e ≡ true → know (driver_record d) (known_of d) e ≡ known_of d
post-known d (Posted place word buf) is = refl
post-known d e is = absurd (false≢true is)

posts-known : (steps : List DriverStep) (d : DriverSide) → All (λ e. is_post e ≡ true) steps → knowing (d.events ++ steps) ≡ known_of d
posts-known [] d only = ap (λ (es : List DriverStep). knowing es) (append-nil d.events)
posts-known (e ∷ steps) d only =
    ap (λ (es : List DriverStep). knowing es) (sym (append_assoc d.events (e ∷ []) steps))
    ∙ (posts-known steps (driver_grown d e) (All-tail (λ x. is_post x ≡ true) e steps only)
    ∙ (known-after d (driver_grown d e) e refl ∙ post-known d e (All-head (λ x. is_post x ≡ true) e steps only)))

pub runs-known : (d new : DriverSide) → Runs is_post d new → known_of new ≡ known_of d
runs-known d new f = ap (λ (s : DriverSide). known_of s) f.step ∙ posts-known f.steps d f.only
