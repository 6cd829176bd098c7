-- Properties of the bytes of every label.
use Rattle.std.proofs.Common.{arith, ◌≡◌, ℕ, true, not, ◌&&◌, List, [], ◌∷◌}
use Rattle.std.specs.Prelude.{nat_eq}
use Rattle.std.specs.List.{list_all, starts_with, ends_with}
use Rattle.std.specs.Str.{IsAscii, IsUtf8}
use Rattle.std.proofs.lemmas.Bool.{and_parts}
use Rattle.std.proofs.lemmas.Bool.Decides.{nat_tests}
use Rattle.std.proofs.lemmas.Str.{IsUtf8-from_ascii}
use Rattle.std.proofs.lemmas.Str.Ascii.{IsAscii-nil, IsAscii-cons}
use Rattle.learned_devices.specs.Labels.{is_label_of_any_length, is_label_byte, space}

shown-ascii : (text : List ℕ) → list_all is_label_byte text ≡ true → IsAscii text
shown-ascii [] are = IsAscii-nil
shown-ascii (b ∷ more) are =
    let parts = and_parts (is_label_byte b) (list_all is_label_byte more) are in
    let shown = parts.0 in
    IsAscii-cons b more (grind (arith, nat_tests, shown)) (shown-ascii more parts.1)

-- a valid label of any length is UTF-8
pub name-utf8 : (text : List ℕ) → is_label_of_any_length text ≡ true → IsUtf8 text
name-utf8 text is =
    let parts =
    and_parts (list_all is_label_byte text && not (starts_with nat_eq text space)) (not (ends_with nat_eq text space))
    is in
    IsUtf8-from_ascii text
    (shown-ascii text (and_parts (list_all is_label_byte text) (not (starts_with nat_eq text space)) parts.0).0)
