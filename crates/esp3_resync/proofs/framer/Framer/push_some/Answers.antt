use Rattle.std.proofs.Common.{◌≡◌, ◌<◌, ◌+◌, List, ℕ, ◌++◌, length, take, arith, length-append, length-take}
use Rattle.std.proofs.lemmas.List.{take_all}
use Rattle.esp3_frames.specs.PacketsAndRest.{PacketsAndRest, packets_and_rest}
use Rattle.esp3_frames.specs.declared.packet.Header.{Header}
use Rattle.esp3_resync.specs.private.WindowFronts.{IsWindowFront}
use Rattle.esp3_resync.specs.declared.front.WindowFront.{WindowFront}
use Rattle.esp3_resync.specs.declared.front.WindowFront.TheVariants as found
use Rattle.esp3_resync.proofs.PacketsAndRestLemmas.{IsUnready, few_unready, packets_and_rest-noise, partial_unready}
use Rattle.esp3_resync.proofs.HeaderLemmas.{held_bytes, empty_framer, no_header, is_part, header-longer, front-partial}
use Rattle.esp3_resync.proofs.framer.Framer.push_some.Goals as goal

pub invariant_of-self : goal.invariant_of-self
invariant_of-self c = grind (arith, header-longer, is_part, length-append)

pub returns-then-bytes-missing-clause-taken : goal.returns-then-bytes-missing-clause-taken
returns-then-bytes-missing-clause-taken c = grind (arith, held_bytes, take_all)

-- bytes up to the one before the packet's last make no packet ready
held_part_unready : (x : WindowFront) (w b : List ℕ) (f : PacketsAndRest) (h : Header) (k : ℕ)
    → x ≡ found.PartialPacket h
    → IsWindowFront x w → packets_and_rest w ≡ f → length f.ready ≡ 0 → length w + k < h.data_len + h.opt_len + 7
    → IsUnready (f.rest ++ take k b)
held_part_unready x w b f h k e is view none short =
    let has = (is_part x w h e is).0 in
    let size : length (w ++ take k b) < h.data_len + h.opt_len + 7 =
    omega (arith, length-append w (take k b), length-take k b) in
    rw (held_bytes x w f is view none).1 at (partial_unready (w ++ take k b)
    (front-partial (w ++ take k b) h (header-longer w (take k b) h has) size))

pub returns-then-bytes-missing-clause-before : goal.returns-then-bytes-missing-clause-before
returns-then-bytes-missing-clause-before c = grind (arith, held_part_unready)

pub returns-in-PartialPacket-clause-taken : goal.returns-in-PartialPacket-clause-taken
returns-in-PartialPacket-clause-taken c = grind (arith, held_bytes)

pub returns-in-PartialPacket-clause-before : goal.returns-in-PartialPacket-clause-before
returns-in-PartialPacket-clause-before c = grind (arith, held_part_unready)

pub push_header_bytes-count-requires : goal.push_header_bytes-count-requires
push_header_bytes-count-requires c = grind (arith, held_bytes, no_header)

pub returns-then-count-gt0-clause-taken : goal.returns-then-count-gt0-clause-taken
returns-then-count-gt0-clause-taken c = grind (arith, empty_framer, packets_and_rest-noise)

pub returns-then-count-gt0-clause-before : goal.returns-then-count-gt0-clause-before
returns-then-count-gt0-clause-before c = grind (arith, empty_framer, packets_and_rest-noise)

pub returns-clause-taken : goal.returns-clause-taken
returns-clause-taken c = grind (arith, held_bytes)

pub returns-clause-before : goal.returns-clause-before
returns-clause-before c = grind (arith, held_bytes, few_unready, length-append, length-take)
