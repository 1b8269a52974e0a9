-- Cells and pens before and after their flows.
use Rattle.std.proofs.Common.{◌≡◌, ◌∙◌, ℕ, ◌<◌, ◌≤◌, ◌^◌, List, [], ◌∷◌, All, ap, get_or, map, length, refl, sym, subst, arith, rules, Vec, Global}
use Rattle.std.specs.Option.{ForSome}
use Rattle.std.specs.Vec.{vec_len}
use Rattle.std.specs.Prelude.{Option, Some, None, IfSome, IfOk, Result, Ok, Err}
use Rattle.std.proofs.lemmas.List.{get_or_default, get_or-map, length-map}
use Rattle.std.proofs.lemmas.List.Elements.{All-cons, All-head, All-nil, All-tail}
use Rattle.counters.specs.Kinds.{driven_sum, none_taken, nothing, tally_sum}
use Rattle.counters.proofs.Pairs.{pens_of}
use Rattle.counters.specs.Paired.{ArePaired, ArePensOf}
use Rattle.counters.specs.Snapshots.{AreCounts, NoneFalls}
use Rattle.counters.specs.declared.driven.Driven.{Driven}
use Rattle.counters.specs.declared.flows.FlowCells.{FlowCells}
use Rattle.counters.specs.declared.flows.FlowPens.{FlowPens}
use Rattle.counters.specs.declared.tally.Tally.{Tally}
use Rattle.forwarding.specs.declared.report.FlowReport.{FlowReport}
use Rattle.forwarder.specs.LiveStatistics.{AllContinue, DrivenGoesOn, TallyGoesOn}
use Rattle.forwarder.specs.declared.report.Report.{Report}
use Rattle.forwarder.specs.declared.running.Watch.{Watch}
use Rattle.forwarder.specs.ShownCounts.{ContinueByReports, ShowReports}
use Rattle.forwarder.proofs.Moving.{same-by-places}

-- numbers that are none above counts are counts
pub counts-below : (xs ys : List ℕ) → NoneFalls xs ys → AreCounts ys → AreCounts xs
counts-below [] [] rose all = All-nil (λ n. n < 2 ^ 64)
counts-below [] (y ∷ ys) rose all = absurd rose
counts-below (x ∷ xs) [] rose all = absurd rose
counts-below (x ∷ xs) (y ∷ ys) rose all =
    let high : y < 2 ^ 64 = All-head (λ n. n < 2 ^ 64) y ys all in
    let more : x ≤ y = rose.0 in
    All-cons (λ n. n < 2 ^ 64) x xs (omega (arith, high, more)) (counts-below xs ys rose.1 (All-tail (λ n. n < 2 ^ 64) y ys all))

-- as many as there are cells
pub pens-count : (cells : List FlowCells) (pens : List FlowPens) → ArePensOf cells pens → length pens ≡ length cells
pens-count cells pens are =
    sym (length-map pens (λ p. p.stat.cell)) ∙ (ap length are.stat ∙ length-map cells (λ c. c.stat))

-- new pens show that there was nothing yet
none-shown : (cells : List FlowCells) (pens : List FlowPens) → ArePaired cells pens → All (λ p. p.stat.last ≡ nothing) pens × All (λ p. p.drive.last ≡ none_taken) pens
none-shown [] [] all = (All-nil (λ p. p.stat.last ≡ nothing), All-nil (λ p. p.drive.last ≡ none_taken))
none-shown [] (p ∷ ps) all = absurd all
none-shown (c ∷ cs) [] all = absurd all
none-shown (c ∷ cs) (p ∷ ps) all =
    let rest = none-shown cs ps all.1 in (
      All-cons (λ p. p.stat.last ≡ nothing) p ps (ap (λ k. k.last) all.0.stat) rest.0,
      All-cons (λ p. p.drive.last ≡ none_taken) p ps (ap (λ k. k.last) all.0.drive) rest.1,
    )

-- what is known of the last numbers of both pens of each flow
pub continue-all : (n : ℕ) (before after : List FlowPens) (tallies : List Tally) (counts : List Driven) → length before ≡ n → length after ≡ n
    → ((k : ℕ) (b c s : Tally) → k < n → TallyGoesOn (get_or (map (λ p. p.stat.last) before) k b) (get_or tallies k c) (get_or (map (λ p. p.stat.last) after) k s))
    → ((k : ℕ) (b c s : Driven) → k < n → DrivenGoesOn (get_or (map (λ p. p.drive.last) before) k b) (get_or counts k c) (get_or (map (λ p. p.drive.last) after) k s))
    → AllContinue n before after tallies counts
continue-all n before after tallies counts as_many as_many' stat drive k b a t d low =
    let here : k < length before = omega (arith, low, as_many) in
    let there : k < length after = omega (arith, low, as_many') in
    record {
      stat = subst (λ x. TallyGoesOn x (get_or tallies k t) (get_or after k a).stat.last) (get_or-map (λ p. p.stat.last) before k b b.stat.last here)
          (subst (λ x. TallyGoesOn (get_or (map (λ p. p.stat.last) before) k b.stat.last) (get_or tallies k t) x) (get_or-map (λ p. p.stat.last) after k a a.stat.last there) (stat k b.stat.last t a.stat.last low));
      drive = subst (λ x. DrivenGoesOn x (get_or counts k d) (get_or after k a).drive.last) (get_or-map (λ p. p.drive.last) before k b b.drive.last here)
          (subst (λ x. DrivenGoesOn (get_or (map (λ p. p.drive.last) before) k b.drive.last) (get_or counts k d) x) (get_or-map (λ p. p.drive.last) after k a a.drive.last there) (drive k b.drive.last d a.drive.last low));
    }

-- pens that wrote nothing, of flows that counted nothing
pub still : {F G : Type 0} (tally : F → Tally) (counts : G → Driven) (n : ℕ) (pens : List FlowPens) (fs : List F) (gs : List G) → length pens ≡ n → length fs ≡ n → length gs ≡ n
    → All (λ f. tally f ≡ nothing) fs → All (λ g. counts g ≡ none_taken) gs → AllContinue n pens pens (map tally fs) (map counts gs)
still tally counts n pens [] gs many many_f many_g none_f none_g k b a t d low = absurd (let bad : ⊥ = omega (arith, low, many_f) in bad)
still tally counts n pens (f ∷ fs) [] many many_f many_g none_f none_g k b a t d low = absurd (let bad : ⊥ = omega (arith, low, many_g) in bad)
still tally counts n pens (f ∷ fs) (g ∷ gs) many many_f many_g none_f none_g k b a t d low =
    let here : k < length pens = omega (arith, low, many) in
    let same : get_or pens k b ≡ get_or pens k a = get_or_default pens k b a here in
    let low_f : k < length (f ∷ fs) = omega (arith, low, many_f) in
    let low_g : k < length (g ∷ gs) = omega (arith, low, many_g) in
    let no_tally : get_or (map tally (f ∷ fs)) k t ≡ nothing = get_or-map tally (f ∷ fs) k f t low_f ∙ none_f k f low_f in
    let no_counts : get_or (map counts (g ∷ gs)) k d ≡ none_taken = get_or-map counts (g ∷ gs) k g d low_g ∙ none_g k g low_g in
    record {
      stat = subst (λ c. TallyGoesOn (get_or pens k b).stat.last c (get_or pens k a).stat.last) (sym no_tally) (subst (λ p. TallyGoesOn (get_or pens k b).stat.last nothing p.stat.last) same (tally-still (get_or pens k b).stat.last));
      drive = subst (λ c. DrivenGoesOn (get_or pens k b).drive.last c (get_or pens k a).drive.last) (sym no_counts) (subst (λ p. DrivenGoesOn (get_or pens k b).drive.last none_taken p.drive.last) same (driven-still (get_or pens k b).drive.last));
    }
  where
    tally-same : (x : Tally) → tally_sum x nothing ≡ x
    tally-same x = search rules

    driven-same : (x : Driven) → driven_sum x none_taken ≡ x
    driven-same x = search rules

    tally-still : (x : Tally) → TallyGoesOn x nothing x
    tally-still x = record { sums = λ _. sym (tally-same x); first = λ e. e }

    driven-still : (x : Driven) → DrivenGoesOn x none_taken x
    driven-still x = record { sums = λ _. sym (driven-same x); first = λ e. e }

-- the numbers of new cells are those of the reports
pub shows : (cells : List FlowCells) (before after : List FlowPens) (reports : List FlowReport) → ArePaired cells before → length cells ≡ length reports
    → ContinueByReports cells before after reports → ShowReports cells after reports
shows cells before after reports paired as_many c =
    let none = none-shown cells before paired in
    let had = pens-count cells before (pens_of cells before paired) in
    let has = pens-count cells after c.of_cells in
    record {
      of_cells = c.of_cells;
      offered = same-by-places (λ p. p.stat.last) (λ r. r.tally) after reports (has ∙ as_many) (λ k p r low.
          (let there : k < length reports = omega (arith, low, has, as_many) in
          (c.go_on k p p r.tally r.driven there).stat.first (none.0 k p (omega (arith, low, has, had))) ∙ get_or-map (λ q. q.tally) reports k r r.tally there));
      driven = same-by-places (λ p. p.drive.last) (λ r. r.driven) after reports (has ∙ as_many) (λ k p r low.
          (let there : k < length reports = omega (arith, low, has, as_many) in
          (c.go_on k p p r.tally r.driven there).drive.first (none.1 k p (omega (arith, low, has, had))) ∙ get_or-map (λ q. q.driven) reports k r r.driven there));
    }

-- the pens of watched flows, once their reports are there
pub watched : (o : Option Watch) (after : List FlowPens) (tallies : List Tally) (counts : List Driven) (reports : List FlowReport) → ForSome o (λ w. length w.cells.now ≡ length reports)
    → map (λ r. r.tally) reports ≡ tallies → map (λ r. r.driven) reports ≡ counts → IfSome o (λ w. ArePensOf w.cells.now after)
    → IfSome o (λ w. AllContinue (length w.cells.now) w.pens.items after tallies counts) → IfSome o (λ w. ContinueByReports w.cells.now w.pens.items after reports)
watched None after tallies counts reports many tally driven of go_on = tt
watched (Some w) after tallies counts reports many tally driven of go_on = record {
  of_cells = of;
  go_on = subst (λ n. AllContinue n w.pens.items after (map (λ r. r.tally) reports) (map (λ r. r.driven) reports)) (many w refl)
      (subst (λ t. AllContinue (length w.cells.now) w.pens.items after t (map (λ r. r.driven) reports)) (sym tally) (subst (λ d. AllContinue (length w.cells.now) w.pens.items after tallies d) (sym driven) go_on));
}

-- as many cells as reports, on a call that returned
pub as-many : {E : Type 0} (cells : List FlowCells) {n : ℕ} (o : Result (Report × Vec FlowPens Global) E) → length cells ≡ n → IfOk o (λ r. vec_len r.0.flows ≡ n) → IfOk o (λ r. length cells ≡ length r.0.flows.items)
as-many cells (Ok r) cells_many flows_many = cells_many ∙ (sym flows_many ∙ r.0.flows.ok.0)
as-many cells (Err e) cells_many flows_many = tt

pub shows-if : {E : Type 0} (cells : List FlowCells) (before : List FlowPens) (o : Result (Report × Vec FlowPens Global) E) → ArePaired cells before → IfOk o (λ r. length cells ≡ length r.0.flows.items)
    → IfOk o (λ r. ContinueByReports cells before r.1.items r.0.flows.items) → IfOk o (λ r. ShowReports cells r.1.items r.0.flows.items)
shows-if cells before (Ok r) paired many c = shows cells before r.1.items r.0.flows.items paired many c
shows-if cells before (Err e) paired many c = tt
