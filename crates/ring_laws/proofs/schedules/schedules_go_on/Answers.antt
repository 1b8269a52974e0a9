-- Each clause is a lemma of `ring_model`.
use Rattle.ring_model.proofs.shared.Reaching.{after-append, next-happens, reached-opening, reached-more, reached-changed}
use Rattle.ring_laws.proofs.schedules.schedules_go_on.Goals as goal

pub returns : goal.returns
returns g c = record {
  after_append = after-append;
  next_happens = next-happens;
  reached_opening = λ can changed opening b. reached-opening can changed opening b;
  reached_more = λ can changed opening r more e. reached-more can changed opening r more e;
  reached_changed = λ can changed opening r s may e. reached-changed can changed opening r s may e;
}
