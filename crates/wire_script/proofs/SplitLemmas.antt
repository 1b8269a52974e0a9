-- What fields say, by how many there are and which are empty.
use Rattle.std.proofs.Common.{◌≡◌, ℕ, suc, ◌<◌, Bool, true, false, not, cond, nat_eq, List, [], ◌∷◌, ◌++◌, length, codes, Bor, Option, Some, None, is_some, Result, Err, refl, arith}
use Rattle.std.proofs.Math.Bool.{or-true}
use Rattle.std.proofs.lemmas.Bool.{eqb-true, ne_eqb, not-false}
use Rattle.std.specs.List.{onto_first}
use Rattle.std.specs.Str.{bytes_eq}
use Rattle.text_lines.specs.Parts.{later_parts, parts}
use Rattle.refusals.specs.declared.errors.ScriptError.{ScriptError}
use Rattle.refusals.specs.declared.errors.ScriptError.TheVariants.{Fields}
use Rattle.wire_script.specs.Frame.{Frame}
use Rattle.wire_script.specs.Line.{fields_say, fill_in, frame_in, frame_with, has_empty, hex_in}
use Rattle.wire_script.specs.Split.{begins_inner, is_last}

-- a first part is never missing
pub record Filled (fields : List (List ℕ)) : Type 0 where
  pub first : List ℕ
  pub more : List (List ℕ)
  pub is : fields ≡ first ∷ more

onto_filled : (b : Bool) (x : ℕ) (later : List (List ℕ)) → Filled (cond b ([] ∷ later) (onto_first x later))
onto_filled true x later = record { first = []; more = later; is = refl }
onto_filled false x [] = record { first = x ∷ []; more = []; is = refl }
onto_filled false x (part ∷ later) = record { first = x ∷ part; more = later; is = refl }

pub parts-filled : (separator : ℕ) (bytes : List ℕ) → Filled (parts separator bytes)
parts-filled separator [] = record { first = []; more = []; is = refl }
parts-filled separator (x ∷ xs) = onto_filled (nat_eq x separator) x (parts separator xs)

-- an empty field among others
has_empty-at : (front more : List (List ℕ)) → has_empty (front ++ [] ∷ more) ≡ true
has_empty-at [] more = refl
has_empty-at (field ∷ front) more = rw (has_empty-at front more) (or-true (nat_eq (length field) 0))

says_empty : (k : ℕ) (front more : List (List ℕ)) → fields_say k (front ++ [] ∷ more) ≡ Err (Fields k)
unfolding fields_say
says_empty k front more = rw (has_empty-at front more) refl

-- fields of another number
both_refuse : (b : Bool) (k : ℕ) (meant : Result Frame ScriptError) → meant ≡ Err (Fields k) → cond b (Err (Fields k)) meant ≡ Err (Fields k)
both_refuse true k meant e = refl
both_refuse false k meant e = e

says_other : (k : ℕ) (fields : List (List ℕ)) → frame_in k fields ≡ Err (Fields k) → fields_say k fields ≡ Err (Fields k)
unfolding fields_say
says_other k fields e = both_refuse (has_empty fields) k (frame_in k fields) e

-- a field that is empty by the test
empty_is : (field : List ℕ) → not (nat_eq (length field) 0) ≡ false → field ≡ []
empty_is [] h = refl
empty_is (x ∷ xs) h =
    let none : suc (length xs) ≡ 0 = eqb-true (length (x ∷ xs)) 0 (not-false (nat_eq (length (x ∷ xs)) 0) h) in
    absurd (omega arith)

-- no port, or no field after it
pub no_port : (k : ℕ) (fields : List (List ℕ)) → begins_inner fields ≡ false → fields_say k fields ≡ Err (Fields k)
unfolding frame_in
no_port k [] h = says_other k [] refl
no_port k (f ∷ []) h = says_other k (f ∷ []) refl
no_port k (f ∷ g ∷ more) h = rw (empty_is f h) (says_empty k [] (g ∷ more))

pub no_queue : (k : ℕ) (port : List ℕ) (fields : List (List ℕ)) → begins_inner fields ≡ false → fields_say k (port ∷ fields) ≡ Err (Fields k)
unfolding frame_in
no_queue k port [] h = says_other k (port ∷ []) refl
no_queue k port (f ∷ []) h = says_other k (port ∷ f ∷ []) refl
no_queue k port (f ∷ g ∷ more) h = rw (empty_is f h) (says_empty k (port ∷ []) (g ∷ more))

-- neither one field after the queue nor more
pub no_payload : (k : ℕ) (port queue : List ℕ) (fields : List (List ℕ)) → is_last fields ≡ false → begins_inner fields ≡ false
    → fields_say k (port ∷ queue ∷ fields) ≡ Err (Fields k)
unfolding frame_in
no_payload k port queue [] h i = says_other k (port ∷ queue ∷ []) refl
no_payload k port queue (f ∷ []) h i = rw (empty_is f h) (says_empty k (port ∷ queue ∷ []) [])
no_payload k port queue (f ∷ g ∷ more) h i = rw (empty_is f i) (says_empty k (port ∷ queue ∷ []) (g ∷ more))

-- a word other than `fill`, and more after it
pub other_word : (k : ℕ) (port queue word : List ℕ) (fields : List (List ℕ)) → bytes_eq word (codes "fill") ≡ false → Filled fields
    → fields_say k (port ∷ queue ∷ word ∷ fields) ≡ Err (Fields k)
unfolding frame_in
other_word k port queue word [] other filled = cc (filled.is)
other_word k port queue word (f ∷ []) other filled = says_other k (port ∷ queue ∷ word ∷ f ∷ []) refl
other_word k port queue word (f ∷ g ∷ []) other filled = says_other k (port ∷ queue ∷ word ∷ f ∷ g ∷ []) (rw other refl)
other_word k port queue word (f ∷ g ∷ h ∷ more) other filled = says_other k (port ∷ queue ∷ word ∷ f ∷ g ∷ h ∷ more) refl

-- no length, or no field after it
pub no_len : (k : ℕ) (port queue word : List ℕ) (fields : List (List ℕ)) → begins_inner fields ≡ false → Filled fields
    → fields_say k (port ∷ queue ∷ word ∷ fields) ≡ Err (Fields k)
unfolding frame_in
no_len k port queue word [] h filled = cc (filled.is)
no_len k port queue word (f ∷ []) h filled = says_other k (port ∷ queue ∷ word ∷ f ∷ []) refl
no_len k port queue word (f ∷ g ∷ more) h filled = rw (empty_is f h) (says_empty k (port ∷ queue ∷ word ∷ []) (g ∷ more))

-- no byte, or fields after it
pub no_byte : (k : ℕ) (port queue word len : List ℕ) (fields : List (List ℕ)) → is_last fields ≡ false
    → fields_say k (port ∷ queue ∷ word ∷ len ∷ fields) ≡ Err (Fields k)
unfolding frame_in
no_byte k port queue word len [] h = says_other k (port ∷ queue ∷ word ∷ len ∷ []) refl
no_byte k port queue word len (f ∷ []) h = rw (empty_is f h) (says_empty k (port ∷ queue ∷ word ∷ len ∷ []) [])
no_byte k port queue word len (f ∷ g ∷ more) h = says_other k (port ∷ queue ∷ word ∷ len ∷ f ∷ g ∷ more) refl

-- a field that is not empty
filled_test : (field : List ℕ) → 0 < length field → nat_eq (length field) 0 ≡ false
filled_test field h = ne_eqb (length field) 0 (λ none. omega arith)

pub three_fields : (k : ℕ) (port queue hex : List ℕ) → 0 < length port → 0 < length queue → 0 < length hex
    → fields_say k (port ∷ queue ∷ hex ∷ []) ≡ frame_with k port queue (hex_in k hex)
unfolding fields_say frame_in
three_fields k port queue hex p q h = rw (filled_test port p, filled_test queue q, filled_test hex h) refl

pub five_fields : (k : ℕ) (port queue word len byte : List ℕ) → 0 < length port → 0 < length queue → 0 < length word → 0 < length len → 0 < length byte
    → bytes_eq word (codes "fill") ≡ true
    → fields_say k (port ∷ queue ∷ word ∷ len ∷ byte ∷ []) ≡ frame_with k port queue (fill_in k len byte)
unfolding fields_say frame_in
five_fields k port queue word len byte p q w l b fill =
    rw (filled_test port p, filled_test queue q, filled_test word w, filled_test len l, filled_test byte b, fill) refl

-- a field before others is not the last
more_fields : (field : List ℕ) (fields : List (List ℕ)) → Filled fields → is_last (field ∷ fields) ≡ false
more_fields field [] filled = cc (filled.is)
more_fields field (f ∷ more) filled = refl

pub not_last : (field : List ℕ) (rest : Option (Bor (List ℕ))) → is_some rest ≡ true → is_last (field ∷ later_parts 32 rest) ≡ false
not_last field None some = cc
not_last field (Some rest) some = more_fields field (parts 32 rest.now) (parts-filled 32 rest.now)
