-- The address of a buffer: the whole first word of a descriptor (82599 datasheet, 7.1.6.1 and 7.2.3.2.4).
use Rattle.std.specs.Prelude.{ℕ, ◌*◌, List, [], ◌∷◌}
use Rattle.descriptor.specs.Layout.{BufferOffset, BufferNumber, AddressTop, fixed, range, Field, field}

-- In this project's profile, the address is 2,048 times the buffer's 16-bit number. The factor is part of this layout:
-- the number starts at bit 11.
abbrev pub buffer_address : ℕ → ℕ
buffer_address number = 2048 * number

abbrev pub address_fields : List Field
address_fields =
    field BufferOffset 0 11 (fixed 0)  -- 10:0
    ∷ field BufferNumber 11 16 (range 0 65535)  -- 26:11
    ∷ field AddressTop 27 37 (fixed 0)  -- 63:27
    ∷ []
