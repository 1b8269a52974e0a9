use Rattle.std.proofs.Common.{◌≡◌, ℕ, false, true, List, ◌∷◌, codes, None, Result, rules, sym, ap, ◌∙◌}
use Rattle.std.specs.Str.{bytes_eq}
use Rattle.text_lines.specs.Parts.{parts}
use Rattle.refusals.specs.declared.errors.ScriptError.{ScriptError}
use Rattle.wire_script.specs.Frame.{Frame}
use Rattle.wire_script.specs.Line.{fields_say}
use Rattle.wire_script.specs.Split.{frame_of_payload}
use Rattle.wire_script.proofs.SplitLemmas.{five_fields, no_byte, no_len, no_payload, other_word, parts-filled, three_fields}
use Rattle.wire_script.proofs.split.payload_of.Goals as goal

-- what the fields after port and queue say
abbrev says : ℕ → List ℕ → List ℕ → List (List ℕ) → Result Frame ScriptError
says k port queue fields = fields_say k (port ∷ queue ∷ fields)

pub returns-in-Some : goal.returns-in-Some
returns-in-Some c = λ k port queue p q.
    ap (says k port queue) c.in-Some.ensures.found ∙ three_fields k port queue c.in-Some.hex.now p q c.in-Some.ensures.filled

pub returns-in_err-word : goal.returns-in_err-word
returns-in_err-word c = λ k port queue p q.
    let none : c.from_residual.result ≡ None = search rules in
    no_payload k port queue (parts 32 c.args.bytes.now) c.in_default.ensures.none c.in_err-word.ensures.none
    ∙ sym (ap (frame_of_payload k port queue) none)

pub returns-then-not-is_fill : goal.returns-then-not-is_fill
returns-then-not-is_fill c = λ k port queue p q.
    let word : List ℕ = c.in_ok-word.word.now in
    let rest : List ℕ = c.in_ok-word.rest.now in
    let other : bytes_eq word (codes "fill") ≡ false = search rules in
    ap (says k port queue) c.in_ok-word.ensures.found ∙ other_word k port queue word (parts 32 rest) other (parts-filled 32 rest)

pub returns-in_err-len : goal.returns-in_err-len
returns-in_err-len c = λ k port queue p q.
    let word : List ℕ = c.in_ok-word.word.now in
    let rest : List ℕ = c.in_ok-word.rest.now in
    let none : c.from_residual-in_err-len.result ≡ None = search rules in
    ap (says k port queue) c.in_ok-word.ensures.found ∙ no_len k port queue word (parts 32 rest) c.in_err-len.ensures.none (parts-filled 32 rest)
    ∙ sym (ap (frame_of_payload k port queue) none)

pub returns-in_err-byte : goal.returns-in_err-byte
returns-in_err-byte c = λ k port queue p q.
    let word : List ℕ = c.in_ok-word.word.now in
    let len : List ℕ = c.in_ok-len.len.now in
    let none : c.from_residual-in_err-byte.result ≡ None = search rules in
    ap (says k port queue) (c.in_ok-word.ensures.found ∙ ap (λ fields. word ∷ fields) c.in_ok-len.ensures.found)
    ∙ no_byte k port queue word len (parts 32 c.in_ok-len.rest.now) c.in_err-byte.ensures.none
    ∙ sym (ap (frame_of_payload k port queue) none)

pub returns : goal.returns
returns c = λ k port queue p q.
    let word : List ℕ = c.in_ok-word.word.now in
    let len : List ℕ = c.in_ok-len.len.now in
    let byte : List ℕ = c.in_ok-byte.byte.now in
    let fill : bytes_eq word (codes "fill") ≡ true = search rules in
    ap (says k port queue) (c.in_ok-word.ensures.found ∙ ap (λ fields. word ∷ fields) (c.in_ok-len.ensures.found ∙ ap (λ fields. len ∷ fields) c.in_ok-byte.ensures.found))
    ∙ five_fields k port queue word len byte p q c.in_ok-word.ensures.filled c.in_ok-len.ensures.filled c.in_ok-byte.ensures.filled fill
