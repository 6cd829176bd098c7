-- The labels of devices. Own choice.
use Rattle.std.specs.Prelude.{ℕ, Bool, not, ◌&&◌, nat_eq, nat_le, List, [], ◌∷◌, length}
use Rattle.std.specs.List.{list_all, starts_with, ends_with}

-- the maximum length of a label, in bytes
abbrev pub max_label : ℕ
max_label = 32

-- a byte that a label may contain: from space to `~` of ASCII
abbrev pub is_label_byte : (byte : ℕ) → Bool
is_label_byte byte = nat_le 0x20 byte && nat_le byte 0x7E

abbrev pub space : List ℕ
space = 0x20 ∷ []

-- a label of any length: shown bytes, neither beginning nor ending with a space
abbrev pub is_label_of_any_length : (text : List ℕ) → Bool
is_label_of_any_length text =
    list_all is_label_byte text && not (starts_with nat_eq text space) && not (ends_with nat_eq text space)

-- the name of a device for people, or the empty text
abbrev pub is_label : (text : List ℕ) → Bool
is_label text = is_label_of_any_length text && nat_le (length text) max_label
