use Rattle.std.proofs.Common.{◌∙◌, ap, refl}
use Rattle.std.proofs.lemmas.List.Elements.{All-same}
use Rattle.buffer_pool.specs.Buffer.{Buffer}
use Rattle.ring_model.specs.shared.Handshakes.{is_serving}
use Rattle.rx_ring.specs.Records.{RxControlled}
use Rattle.rx_ring.specs.Ends.{stored}
use Rattle.ring_model.specs.shared.Segments.{Segment, piece_of}
use Rattle.ring_model.specs.shared.Frames.{Bytes}
use Rattle.ring_bench.specs.Copies.{IsWhole}
use Rattle.ring_bench.proofs.Copies.{none_unfinished, whole_after}
use Rattle.ring_bench.proofs.kit.storing.store.Goals as goal

pub returns : goal.returns
returns c =
    let can = c.requires.can in
    let fetched = c.fetch-buf.ensures in
    let back = c.write_back.ensures in
    let before = stored c.fetch-buf.new.self in
    let all_before = All-same (λ (s : Segment Bytes). IsWhole c.args.frame.now (piece_of s)) before (stored c.args.controller.now) (ap (λ (x : RxControlled). x.completed) fetched.same) can.stored_only.only in
    let bytes = ap (λ (b : Buffer). b.bytes) c.fill.ensures in
    let all = whole_after piece_of c.args.frame.now before (stored c.write_back.new.self) _ all_before (record { bytes = bytes; last = refl }) (ap (λ (x : RxControlled). x.completed) back.record) in
    record {
      stored_only = record { own = ap (λ s. s.table) back.step ∙ (ap (λ s. s.table) fetched.step ∙ can.stored_only.own); only = all };
      none_unfinished = none_unfinished piece_of c.args.frame.now (stored c.write_back.new.self) all;
      none_held = ap (λ (x : RxControlled). x.held) back.record;
      serving = ap (λ (x : RxControlled). is_serving x.state) back.record ∙ (ap (λ (x : RxControlled). is_serving x.state) fetched.same ∙ can.serving);
      not_quiet = ap (λ (x : RxControlled). x.barred) back.record ∙ (ap (λ (x : RxControlled). x.barred) fetched.same ∙ can.not_quiet);
    }
