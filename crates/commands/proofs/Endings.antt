-- How a request ends, from what it did to the output.
use Rattle.std.proofs.Common.{◌≡◌, inl, inr, ℕ, List, Option, Some, refl, sym, subst}
use Rattle.std.specs.Prelude.{◌⊎◌, Result, Ok, Err}
use Rattle.std.specs.Result.{result_map_both}
use Rattle.std.specs.Io.KnownBytes.{Appends, Keeps}
use Rattle.text_lines.specs.Parts.{lines_of}
use Rattle.requests.specs.declared.answers.TheConstants.{EXIT_SUCCESS, EXIT_REFUSED}
use Rattle.requests.specs.declared.decode.DescriptorForm.{DescriptorForm}
use Rattle.requests.specs.declared.refusal.Refusal.{Refusal}
use Rattle.requests.specs.declared.refusal.Refusal.TheVariants as refusal
use Rattle.requests.specs.declared.replay.QueuePlan.{QueuePlan}
use Rattle.requests.specs.declared.request.Request.{Request}
use Rattle.requests.specs.declared.request.Request.TheVariants.{Once, Decode, Replay}
use Rattle.commands.specs.Answers.{line_of, Ends, EndsAs, EndsDecode, Prints, Refuses}
use Rattle.commands.specs.Digits.{bytes_in}
use Rattle.commands.specs.Frame.{frame_in}
use Rattle.commands.specs.Decoding.{IsDecoded}
use Rattle.commands.specs.Replay.{EndsReplay, HasReplayed, IsReplayed}
use Rattle.commands.proofs.Replaying.{faulty-unsaid}

-- ---- once

once-done : (framed : Result (List ℕ) Refusal) (text : List ℕ) (old new : Option (List ℕ))
    → result_map_both line_of (λ (e : Refusal). e) framed ≡ Ok text → Appends old new text → Ends framed EXIT_SUCCESS old new
once-done (Ok frame) text old new is printed = let same : line_of frame ≡ text = cc is in inl (refl, subst (λ (t : List ℕ). Appends old new t) (sym same) printed)
once-done (Err e) text old new is printed = cc is

once-kept : (framed : Result (List ℕ) Refusal) (old new : Option (List ℕ)) → Keeps old new → Ends framed EXIT_REFUSED old new
once-kept (Ok frame) old new kept = inr refl
once-kept (Err e) old new kept = (refl, kept)

once-unprinted : (framed : Result (List ℕ) Refusal) (text : List ℕ) (old new : Option (List ℕ))
    → result_map_both line_of (λ (e : Refusal). e) framed ≡ Ok text → Ends framed EXIT_REFUSED old new
once-unprinted (Ok frame) text old new is = inr refl
once-unprinted (Err e) text old new is = cc is

-- ---- decode

decode-withheld : (form : DescriptorForm) (digits : List ℕ) (e : Refusal) (old new : Option (List ℕ))
    → (e ≡ refusal.Memory) ⊎ IsDecoded form (bytes_in digits) (Err e) → Keeps old new → EndsDecode form digits EXIT_REFUSED old new
decode-withheld form digits e old new (inl memory) kept = inr (refl, kept)
decode-withheld form digits e old new (inr is) kept = inl (Err e, is, (refl, kept))

-- ---- replay

replay-done : (plan : QueuePlan) (text page : List ℕ) (old new : Option (List ℕ)) → IsReplayed plan (Some text) page → Appends old new page → EndsReplay plan text EXIT_SUCCESS old new
replay-done plan text page old new (read, same, has) printed = subst (λ (t : List ℕ). EndsReplay plan t EXIT_SUCCESS old new) same (record {
  done = λ e. record { page = page; has = has; printed = printed };
  either = inl refl;
  faulty = λ k f. absurd (faulty-unsaid (lines_of read) k has.has.moves f has.has.replay.says);
  no_queues = λ cannot. absurd (cannot has.has.replay.queues);
})

-- refused is not done
undone : (plan : QueuePlan) (text : List ℕ) (old new : Option (List ℕ)) → EXIT_REFUSED ≡ EXIT_SUCCESS → HasReplayed plan text old new
undone plan text old new e = let bad : ⊥ = cc e in absurd bad

-- a refusal that prints nothing ends it, whatever the text is
replay-kept : (plan : QueuePlan) (text : List ℕ) (old new : Option (List ℕ)) → Keeps old new → EndsReplay plan text EXIT_REFUSED old new
replay-kept plan text old new kept = record { done = undone plan text old new; either = inr refl; faulty = λ k f. (refl, kept); no_queues = λ no. (refl, kept) }

-- what was made and not printed is of a list of moves, on queues that can be
replay-unprinted : (plan : QueuePlan) (text page : List ℕ) (old new : Option (List ℕ)) → IsReplayed plan (Some text) page → EndsReplay plan text EXIT_REFUSED old new
replay-unprinted plan text page old new (read, same, has) = subst (λ (t : List ℕ). EndsReplay plan t EXIT_REFUSED old new) same (record {
  done = undone plan read old new;
  either = inr refl;
  faulty = λ k f. absurd (faulty-unsaid (lines_of read) k has.has.moves f has.has.replay.says);
  no_queues = λ cannot. absurd (cannot has.has.replay.queues);
})

-- ---- a request

pub done-ends : (request : Request) (input old new : Option (List ℕ)) → Prints request input old new → EndsAs request input EXIT_SUCCESS old new
done-ends (Once digits) input old new (text, is, printed) = once-done (frame_in digits.now) text old new is printed
done-ends (Decode form digits) input old new (text, is, printed) = inl (Ok text, is, inl (refl, printed))
done-ends (Replay plan) input old new (page, is, printed) = λ text known. replay-done plan text page old new (subst (λ (i : Option (List ℕ)). IsReplayed plan i page) known is) printed

pub refused-ends : (request : Request) (input : Option (List ℕ)) (e : Refusal) (old new : Option (List ℕ)) → Refuses request input e old new → EndsAs request input EXIT_REFUSED old new
refused-ends (Once digits) input e old new (inl (why, kept)) = once-kept (frame_in digits.now) old new kept
refused-ends (Once digits) input e old new (inr (text, is, out)) = once-unprinted (frame_in digits.now) text old new is
refused-ends (Decode form digits) input e old new (inl (why, kept)) = decode-withheld form digits.now e old new why kept
refused-ends (Decode form digits) input e old new (inr (text, is, out)) = inl (Ok text, is, inr refl)
refused-ends (Replay plan) input e old new (inl (why, kept)) = λ text known. replay-kept plan text old new kept
refused-ends (Replay plan) input e old new (inr (page, is, out)) = λ text known. replay-unprinted plan text page old new (subst (λ (i : Option (List ℕ)). IsReplayed plan i page) known is)
