-- The segments that are joined are the packet's bytes.
use Rattle.std.proofs.Common.{◌≡◌, ◌∙◌, ◌+◌, ◌≤◌, List, ℕ, length, take, drop, ap, subst, sym}
use Rattle.std.specs.List.{concat}
use Rattle.buffer_pool.specs.Packed.{bytes_of}
use Rattle.poll82599_c.proofs.Patching.{concat-bytes}
use Rattle.poll82599_c.proofs.batches.ranges.copy_range.Goals as goal

pub copy_pieces-requires : goal.copy_pieces-requires
copy_pieces-requires c =
    let joined : concat c.iter.result ≡ bytes_of c.args.packet.now = ap concat c.iter.ensures ∙ concat-bytes c.args.packet.now in
    subst (λ (bytes : List ℕ). c.args.at + length c.args.room.now ≤ length bytes) (sym joined) c.requires

pub returns : goal.returns
returns c =
    let joined : concat c.iter.result ≡ bytes_of c.args.packet.now = ap concat c.iter.ensures ∙ concat-bytes c.args.packet.now in
    c.copy_pieces.ensures ∙ ap (λ (bytes : List ℕ). take (length c.args.room.now) (drop c.args.at bytes)) joined
