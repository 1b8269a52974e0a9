use Rattle.std.proofs.Common.{rules, ◌∙◌, ◌-◌, ◌++◌, length, take, drop, sym, ap, subst, arith, length-take}
use lib.Seq.{take-add, take-take}
use Rattle.std.specs.Io.KnownBytes.{Appends}
use Rattle.std.proofs.KnownBytes.{Appends-trans}
use Rattle.requests.proofs.answers.put.Goals as goal

pub loop-written-preserved : goal.loop-written-preserved
loop-written-preserved g c =
    let done = c.loop-written.written in
    let n = c.in_ok-written.field-0 in
    let xs = c.args.bytes.now in
    let fits = c.in_ok-written.ensures.some in
    let most = length-take (length xs - done) (drop done xs) in
    let joined = ap (λ l. take done xs ++ l) (take-take n (length xs - done) (drop done xs) (omega arith)) ∙ sym (take-add done n xs) in
    record {
      few = search rules;
      wrote = subst (Appends _ _) joined (Appends-trans _ _ _ _ _ c.loop-written.invariant.wrote c.in_ok-written.ensures.wrote);
    }
