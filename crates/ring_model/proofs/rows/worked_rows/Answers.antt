-- Each row is computed.
use Rattle.std.proofs.Common.{true, false, refl, rules, arith}
use Rattle.std.proofs.lemmas.Bool.{false≢true}
use Rattle.ring_model.proofs.shared.Shapes.{shapes-cut}
use Rattle.ring_model.proofs.transmit.PostingRows.{begins, begun, goes_on, went_on}
use Rattle.ring_model.proofs.rows.worked_rows.Goals as goal

pub returns-clause-cut : goal.returns-clause-cut
returns-clause-cut c = record {
  no_bytes = λ f e. shapes-cut 1024 f _ e;
  one_byte = λ f e. shapes-cut 1024 f _ e;
  one_full = λ f e. shapes-cut 1024 f _ e;
  one_more = λ f e. shapes-cut 1024 f _ e;
  two_full = λ f e. shapes-cut 1024 f _ e;
  three = λ f e. shapes-cut 1024 f _ e;
  nine = λ f e. shapes-cut 1024 f _ e;
  by_2048 = λ f e. shapes-cut 2048 f _ e;
  fifteen = λ f e. shapes-cut 1024 f _ e;
}

pub returns-clause-follow : goal.returns-clause-follow
returns-clause-follow c = record {
  shortest = λ ps f count before len. record { some_bytes = omega arith; few_bytes = omega arith; segments = omega arith; descriptors = omega arith; most = omega arith; least = λ e. omega arith };
  too_short = λ ps f count before len fits. let bound = fits.least refl in omega arith;
  begun = λ ps f count before len. record { some_bytes = omega arith; few_bytes = omega arith; segments = omega arith; descriptors = omega arith; most = omega arith; least = λ e. absurd (false≢true e) };
  nothing = λ ps f count before len fits. let bound = fits.some_bytes in omega arith;
  full_buffer = λ ps f count before len. record { some_bytes = omega arith; few_bytes = omega arith; segments = omega arith; descriptors = omega arith; most = omega arith; least = λ e. omega arith };
  quiesced_full = λ ps f count before len fits. let bound = fits.few_bytes in omega arith;
  fifteenth = λ ps f count before len. record { some_bytes = omega arith; few_bytes = omega arith; segments = omega arith; descriptors = omega arith; most = omega arith; least = λ e. omega arith };
  too_long = λ ps f count before len fits. let bound = fits.most in omega arith;
  sixteenth = λ ps f count before len fits. let bound = fits.segments in omega arith;
  last_descriptor = λ ps f count before len. record { some_bytes = omega arith; few_bytes = omega arith; segments = omega arith; descriptors = omega arith; most = omega arith; least = λ e. omega arith };
  no_descriptor = λ ps f count before len fits. let bound = fits.descriptors in omega arith;
}

pub returns-clause-receive : goal.returns-clause-receive
returns-clause-receive c = search rules

pub returns-clause-transmit : goal.returns-clause-transmit
returns-clause-transmit c = search rules

pub returns-clause-receive_states : goal.returns-clause-receive_states
returns-clause-receive_states c = search rules

pub returns-clause-transmit_states : goal.returns-clause-transmit_states
returns-clause-transmit_states c = search rules

pub returns-clause-worlds : goal.returns-clause-worlds
returns-clause-worlds c = search rules

pub returns-clause-postings : goal.returns-clause-postings
returns-clause-postings c = record {
  paylen_13 = λ f l m. let b = begun 1 false false 13 f l m in let x = b.long_enough in absurd (omega arith);
  paylen_14 = begins 1 false false 14 (record { some_bytes = omega arith; few_bytes = omega arith; asks_at_end = λ e. absurd (false≢true e); long_enough = omega arith; short_enough = omega arith; within = omega arith; whole = λ e. absurd (false≢true e) });
  paylen_15_000 = begins 1 false false 15000 (record { some_bytes = omega arith; few_bytes = omega arith; asks_at_end = λ e. absurd (false≢true e); long_enough = omega arith; short_enough = omega arith; within = omega arith; whole = λ e. absurd (false≢true e) });
  paylen_15_001 = λ f l m. let b = begun 1 false false 15001 f l m in let x = b.short_enough in absurd (omega arith);
  shortest = begins 14 true true 14 (record { some_bytes = omega arith; few_bytes = omega arith; asks_at_end = λ e. refl; long_enough = omega arith; short_enough = omega arith; within = omega arith; whole = λ e. refl });
  too_short = λ f l m. let b = begun 13 true true 13 f l m in let x = b.long_enough in absurd (omega arith);
  nothing = λ f l m. let b = begun 0 false false 60 f l m in let x = b.some_bytes in absurd (omega arith);
  full_buffer = begins 2048 false false 15000 (record { some_bytes = omega arith; few_bytes = omega arith; asks_at_end = λ e. absurd (false≢true e); long_enough = omega arith; short_enough = omega arith; within = omega arith; whole = λ e. absurd (false≢true e) });
  quiesced_full = λ f l m. let b = begun 2049 false false 15000 f l m in let x = b.few_bytes in absurd (omega arith);
  report_at_end = begins 60 true true 60 (record { some_bytes = omega arith; few_bytes = omega arith; asks_at_end = λ e. refl; long_enough = omega arith; short_enough = omega arith; within = omega arith; whole = λ e. refl });
  no_report = begins 60 true false 60 (record { some_bytes = omega arith; few_bytes = omega arith; asks_at_end = λ e. refl; long_enough = omega arith; short_enough = omega arith; within = omega arith; whole = λ e. refl });
  report_too_early = λ f l m. let b = begun 60 false true 120 f l m in false≢true (b.asks_at_end refl);
  whole = λ f l m. let b = begun 60 true true 61 f l m in let x = b.whole refl in absurd (omega arith);
  rest = goes_on 60 true true 120 (record { some_bytes = omega arith; few_bytes = omega arith; asks_at_end = λ e. refl; same_frame = refl; within = omega arith; whole = λ e. refl });
  more = goes_on 59 false false 120 (record { some_bytes = omega arith; few_bytes = omega arith; asks_at_end = λ e. absurd (false≢true e); same_frame = refl; within = omega arith; whole = λ e. absurd (false≢true e) });
  all_but_end = goes_on 60 false false 120 (record { some_bytes = omega arith; few_bytes = omega arith; asks_at_end = λ e. absurd (false≢true e); same_frame = refl; within = omega arith; whole = λ e. absurd (false≢true e) });
  other_paylen = λ g f l k m. let b = went_on 30 false false 121 g f l k m in let x = b.same_frame in absurd (omega arith);
  lesser_paylen = λ g f l k m. let b = went_on 30 false false 119 g f l k m in let x = b.same_frame in absurd (omega arith);
  past_the_end = λ g f l k m. let b = went_on 61 false false 120 g f l k m in let x = b.within in absurd (omega arith);
  short_of_it = λ g f l k m. let b = went_on 59 true true 120 g f l k m in let x = b.whole refl in absurd (omega arith);
}
