use Rattle.std.proofs.Common.{◌≡◌, ℕ, ◌∙◌, ◌++◌, ◌∷◌, [], List, length, sym, ap, subst, arith, rules}
use Rattle.controller.specs.Laid.{Laid, frames_from, behind, AreEnds}
use Rattle.controller.proofs.Laying.{frames-snoc, behind-snoc, ends-snoc}
use Rattle.controller.proofs.arena.Arena.end_frame.Goals as goal

pub invariant_of-self : goal.invariant_of-self
invariant_of-self c =
    let bytes = c.self.inside.bytes.items in let ends = c.self.inside.ends.items in
    let past : c.len.result ≡ length bytes = search rules in
    subst (λ (l : List ℕ). AreEnds 0 (length bytes) l) (sym (c.push_reserved.ensures.items ∙ ap (λ (k : ℕ). ends ++ k ∷ []) past)) (ends-snoc 0 (length bytes) ends c.self.invariant)

pub returns : goal.returns
returns c =
    let bytes = c.self.inside.bytes.items in let ends = c.self.inside.ends.items in
    let past : c.len.result ≡ length bytes = search rules in
    let grew = c.push_reserved.ensures.items ∙ ap (λ (k : ℕ). ends ++ k ∷ []) past in
    record {
      frames = ap (λ (l : List ℕ). frames_from 0 bytes l) grew ∙ (frames-snoc 0 (length bytes) bytes ends (omega arith) c.self.invariant ∙ ap (λ (l : Laid). l.frames ++ l.begun ∷ []) c.self.view_is);
      begun = ap (λ (l : List ℕ). behind 0 bytes l) grew ∙ behind-snoc 0 (length bytes) bytes ends (omega arith) c.self.invariant;
    }
