-- Golden tests: framings of streams, by computing.
use Rattle.std.proofs.Common.{◌≡◌, ℕ, List, [], ◌∷◌, ◌++◌, refl}
use Rattle.esp3_frames.specs.Check.{power_of_x, byte_bits, bits, remainder, check}
use Rattle.esp3_frames.specs.Packet.{Packet}
use Rattle.esp3_frames.specs.PacketsAndRest.{front_of, packets_and_rest_after_skipping, packets_in, packets_and_rest}
use Rattle.esp3_frames.specs.PacketsAndRest.{PacketsAndRest}

abbrev contact : List ℕ
contact =
    0x55 ∷ 0x00 ∷ 0x07 ∷ 0x07 ∷ 0x01 ∷ 0x7A ∷ 0xD5 ∷ 0x09 ∷ 0x01 ∷ 0x80 ∷ 0x0A ∷ 0xBC ∷ 0x00
    ∷ 0x01 ∷ 0xFF ∷ 0xFF ∷ 0xFF ∷ 0xFF ∷ 0x2D ∷ 0x00 ∷ 0x1F ∷ []

abbrev contact_packet : Packet
contact_packet = record {
  kind = 1;
  body = 0xD5 ∷ 0x09 ∷ 0x01 ∷ 0x80 ∷ 0x0A ∷ 0xBC ∷ 0x00 ∷ [];
  opt = 0x01 ∷ 0xFF ∷ 0xFF ∷ 0xFF ∷ 0xFF ∷ 0x2D ∷ 0x00 ∷ [];
}

abbrev one_contact : PacketsAndRest
one_contact = record { ready = contact_packet ∷ []; rest = [] }

-- the header of the longest data
abbrev longest : List ℕ
longest = 0x55 ∷ 0xFF ∷ 0xFF ∷ 0x00 ∷ 0x09 ∷ 0xC5 ∷ []

-- a false header that announces three packets as its data, less one byte
abbrev held : List ℕ
held = 0x55 ∷ 0x00 ∷ 0x3F ∷ 0x00 ∷ 0x01 ∷ 0xA1 ∷ contact ++ contact ++ contact

record Worked : Type 0 where
  one : packets_and_rest contact ≡ one_contact
  wrong_data_crc_before_packet :
      packets_and_rest (0x55 ∷ 0x00 ∷ 0x07 ∷ 0x07 ∷ 0x01 ∷ 0x7A ∷ 0xD5 ∷ 0x09 ∷ 0x01 ∷ 0x80 ∷ 0x0A ∷ 0xBC ∷ 0x00
      ∷ 0x01 ∷ 0xFF ∷ 0xFF ∷ 0xFF ∷ 0xFF ∷ 0x2D ∷ 0x00 ∷ 0x1E ∷ contact) ≡ one_contact
  wrong_header_crc_before_packet : packets_and_rest (0x55 ∷ 0x55 ∷ 0x00 ∷ contact) ≡ one_contact
  empty_packet_is_none : packets_and_rest (0x55 ∷ 0x00 ∷ 0x00 ∷ 0x00 ∷ 0x00 ∷ 0x00 ∷ contact) ≡ one_contact
  longest_delays_packet : packets_and_rest (longest ++ contact) ≡ record { ready = []; rest = longest ++ contact }
  held_delays_packets : packets_in held ≡ []
  wrong_crc_releases_packets : packets_and_rest (held ++ 0x00 ∷ [])
      ≡ record { ready = contact_packet ∷ contact_packet ∷ contact_packet ∷ []; rest = [] }
  right_crc_makes_packet :
      packets_in (held ++ 0x36 ∷ []) ≡ record { kind = 1; body = contact ++ contact ++ contact; opt = [] } ∷ []

worked : Worked
unfolding front_of packets_and_rest_after_skipping check bits remainder power_of_x byte_bits
worked = record {
  one = refl;
  wrong_data_crc_before_packet = refl;
  wrong_header_crc_before_packet = refl;
  empty_packet_is_none = refl;
  longest_delays_packet = refl;
  held_delays_packets = refl;
  wrong_crc_releases_packets = refl;
  right_crc_makes_packet = refl;
}
