-- Items that each carry the whole frame: what they leave unfinished, and the frames that they are.
use Rattle.std.proofs.Common.{◌≡◌, ◌∙◌, Bool, true, false, List, [], ◌∷◌, ◌++◌, length, map, ap, refl, append-nil, if◌then◌else◌}
use Rattle.std.specs.Prelude.{All, replicate}
use Rattle.std.proofs.lemmas.List.Elements.{All-nil, All-cons, All-head, All-tail, All-same, All-push}
use Rattle.ring_model.specs.shared.Lists.{IsBeginning}
use Rattle.ring_model.specs.shared.Frames.{Bytes, Piece, join, chains_from, ends_frame, frames, unfinished, unfinished_from}
use Rattle.ring_bench.specs.Copies.{IsWhole, AllWhole}

-- what holds of each item holds of each item of a beginning
pub All-beginning : {X : Type 0} (P : X → Type 0) (xs ys : List X) → IsBeginning xs ys → All P ys → All P xs
All-beginning P [] ys before all = All-nil P
All-beginning P (x ∷ xs) ys before all =
    let whole : All P (x ∷ (xs ++ before.0)) = All-same P (x ∷ (xs ++ before.0)) ys before.1 all in
    All-cons P x xs (All-head P x (xs ++ before.0) whole) (All-beginning P xs (xs ++ before.0) (before.0, refl) (All-tail P x (xs ++ before.0) whole))

-- what holds of each item holds of each item where there may be none
pub All-unless : {X : Type 0} (P : X → Type 0) (xs : List X) (none : Bool) → All P xs → All P (if none then [] else xs)
All-unless P xs true all = All-nil P
All-unless P xs false all = all

module _ {X : Type 0} (carries : X → Piece) (frame : Bytes) where
  abbrev Whole : X → Type 0
  Whole x = IsWhole frame (carries x)

  -- none is unfinished
  pub none_unfinished : (xs : List X) → AllWhole carries frame xs → unfinished carries xs ≡ []
  none_unfinished [] all = refl
  none_unfinished (x ∷ xs) all =
      let first = All-head Whole x xs all in
      ap (λ (e : Bool). unfinished_from carries (if e then [] else x ∷ []) xs) first.last ∙ none_unfinished xs (All-tail Whole x xs all)

  -- the last of them ends a frame, if there is one
  pub all_end : (ends : X → Bool) → ((x : X) → ends x ≡ (carries x).eop) → (xs : List X) → AllWhole carries frame xs → ends_frame ends true xs ≡ true
  all_end ends same [] all = refl
  all_end ends same (x ∷ xs) all =
      let first = All-head Whole x xs all in
      ap (λ (e : Bool). ends_frame ends e xs) (same x ∙ first.last) ∙ all_end ends same xs (All-tail Whole x xs all)

  -- they are so many copies of the frame
  pub copies : (xs : List X) → AllWhole carries frame xs → frames carries xs ≡ replicate (length xs) frame
  copies [] all = refl
  copies (x ∷ xs) all =
      let first = All-head Whole x xs all in
      let ends = ap (λ (e : Bool). map (join carries) (if e then (x ∷ []) ∷ chains_from carries [] xs else chains_from carries (x ∷ []) xs)) first.last in
      let bytes = append-nil (carries x).bytes ∙ first.bytes in
      ends ∙ ap (λ (f : Bytes). f ∷ frames carries xs) bytes ∙ ap (λ (fs : List Bytes). frame ∷ fs) (copies xs (All-tail Whole x xs all))

  -- with one more they all are whole
  pub whole_after : (before after : List X) (x : X) → AllWhole carries frame before → IsWhole frame (carries x) → after ≡ before ++ x ∷ [] → AllWhole carries frame after
  whole_after before after x all whole grew = All-same Whole after (before ++ x ∷ []) grew (All-push Whole before x all whole)
