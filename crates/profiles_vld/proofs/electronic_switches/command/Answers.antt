use Rattle.std.proofs.Common.{◌≡◌, ℕ, List, [], ◌∷◌, Some, None, refl, ◌∙◌}
use Rattle.std.specs.List.{slice_get}
use Rattle.bit_fields.specs.Bits.{byte_bits, bits, number, field}
use Rattle.profiles_vld.proofs.electronic_switches.command.Goals as goal

-- the first four bits are in the first byte
in_first : (bytes : List ℕ) (first : ℕ) → Some first ≡ slice_get bytes 0 → field (first ∷ []) 4 4 ≡ field bytes 4 4
unfolding field bits byte_bits
in_first [] first is = cc
in_first (byte ∷ bytes) first is = cc

in_none : (bytes : List ℕ) → None ≡ slice_get bytes 0 → 0 ≡ field bytes 4 4
unfolding field bits number
in_none [] is = refl
in_none (byte ∷ bytes) is = cc

pub returns-in-Some : goal.returns-in-Some
returns-in-Some c = c.get.ensures.value ∙ in_first c.args.payload.now c.in-Some.first.now c.in-Some.ensures.value

pub returns-in-None : goal.returns-in-None
returns-in-None c = in_none c.args.payload.now c.in-None.ensures.value
