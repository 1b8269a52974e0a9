-- The text, the ring length and the options are those of the matches.
use Rattle.std.proofs.Common.{◌≡◌, ◌∙◌, ap, sym, subst, ℕ, Option, Some, unwrap_or}
use Rattle.clap.specs.Words.{Text}
use Rattle.settings.specs.Thresholds.{Fit, IsThresholds}
use Rattle.command_line.proofs.drivers.driver_fault_in.Goals as goal

same : (read said : Text) → Some read ≡ Some said → read ≡ said
same read said is = ap (λ (o : Option Text). unwrap_or o read) is

pub returns-clause-conflict : goal.returns-clause-conflict
returns-clause-conflict c text n excluded has is = c.fault_of.ensures.conflict (c.excludes.ensures excluded has.excludes ∙ is)

pub returns-clause-value : goal.returns-clause-value
returns-clause-value c text n excluded has is none =
    let text_is : c.in_ok-text.text.now ≡ text = same _ _ (c.in_ok-text.ensures ∙ has.value) in
    let ring_is : c.in_ok-ring.ring ≡ n = c.in_ok-ring.ensures n has.ring in
    c.fault_of.ensures.value (c.excludes.ensures excluded has.excludes ∙ is)
    (λ t h fit. none t (subst (λ (x : Text). IsThresholds x t) text_is h) (subst (λ (m : ℕ). Fit m t) ring_is fit))

pub returns-clause-fit : goal.returns-clause-fit
returns-clause-fit c text n excluded t has is states fit =
    let text_is : c.in_ok-text.text.now ≡ text = same _ _ (c.in_ok-text.ensures ∙ has.value) in
    let ring_is : c.in_ok-ring.ring ≡ n = c.in_ok-ring.ensures n has.ring in
    c.fault_of.ensures.fit t (c.excludes.ensures excluded has.excludes ∙ is) (subst (λ (x : Text). IsThresholds x t) (sym text_is) states)
    (subst (λ (m : ℕ). Fit m t) (sym ring_is) fit)
