-- The view of a `Buf` in contracts.
use Rattle.std.specs.Prelude.{ℕ, List, []}
use Rattle.limits.specs.declared.profile.TheConstants.{BUFFER_BYTES}

-- The buffer's number, its bytes, and its capacity in bytes.
pub record Buffer : Type 0 where
  pub number : ℕ
  pub bytes : List ℕ
  pub capacity : ℕ

-- A buffer of a stock, with these bytes in it.
abbrev pub buffer : ℕ → List ℕ → Buffer
buffer number bytes = record { number = number; bytes = bytes; capacity = BUFFER_BYTES }

-- The default buffer, which has no room.
abbrev pub blank : Buffer
blank = record { number = 0; bytes = []; capacity = 0 }
