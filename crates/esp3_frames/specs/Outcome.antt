-- The results of the calls.
use Rattle.std.specs.Prelude.{ℕ, ◌+◌, ◌*◌, List, length, not, nat_lt, ◌==◌, ◌||◌, slice_index, slice_range}
use Rattle.std.specs.Prelude.{if◌then◌else◌, Result, Ok, Err}
use Rattle.esp3_frames.specs.Check.{check}
use Rattle.esp3_frames.specs.Packet.{max_data, max_optional_data, announces_data, Packet, spelling}
use Rattle.esp3_frames.specs.declared.packet.PacketRef.{PacketRef}
use Rattle.esp3_frames.specs.declared.packet.Header.{Header}
use Rattle.esp3_frames.specs.declared.packet.HeaderFault.{HeaderFault}
use Rattle.esp3_frames.specs.declared.packet.HeaderFault.TheVariants as header
use Rattle.esp3_frames.specs.declared.packet.PacketFault.{PacketFault}
use Rattle.esp3_frames.specs.declared.packet.PacketFault.TheVariants as packet

-- the packet of a reference
abbrev pub packet_of : PacketRef → Packet
packet_of r = record { kind = r.kind; body = r.body.now; opt = r.opt.now }

-- the lengths and the type that six bytes announce
abbrev pub decoded_header : List ℕ → Header
decoded_header b =
    record { data_len = 256 * slice_index b 1 + slice_index b 2; opt_len = slice_index b 3; kind = slice_index b 4 }

-- the header in six bytes, or the first fault. Announced lengths do not fit only if both are 0
abbrev pub header_of : List ℕ → Result Header HeaderFault
header_of b =
    if not (slice_index b 0 == 0x55) then Err header.NotSync
    else if not (slice_index b 5 == check (slice_range b 1 5)) then Err header.HeaderCheck
    else if not (announces_data (slice_index b 1) (slice_index b 2) (slice_index b 3)) then Err header.EmptyPacket
    else Ok (decoded_header b)

-- the result of writing a packet with this much capacity left: success, or the first fault
abbrev pub write_result : Packet → (room : ℕ) → Result (Unit {0}) PacketFault
write_result p room =
    if length p.body + length p.opt == 0 then Err packet.EmptyPacket
    else if nat_lt max_data (length p.body) || nat_lt max_optional_data (length p.opt) then Err packet.TooLong
    else if nat_lt room (length (spelling p)) then Err packet.NoRoom
    else Ok tt
