-- How the bytes of a sink grow.
use Rattle.std.proofs.lemmas.Grind.{common_steps}
use Rattle.std.proofs.Common.{arith}
use Rattle.std.proofs.Common.{◌≡◌, ℕ, List, [], ◌∷◌, ◌++◌, refl, sym, append-nil, append_assoc}
use Rattle.std.specs.Prelude.{unwrap_or}
use Rattle.std.specs.List.{concat}
use Rattle.std.proofs.KnownBytes.{Appends-nil, Appends-trans}
use Rattle.std.proofs.lemmas.List.Concat.{concat_is, flat_map-append}
use Rattle.byte_io.specs.Streams.{SinkValue}
use Rattle.byte_io.specs.Transfers.{Transfer, bytes_of}
use Rattle.byte_io.specs.Writes.{Accepts, WritesText}

bytes_of-append : (first second : List Transfer) → bytes_of (first ++ second) ≡ bytes_of first ++ bytes_of second
bytes_of-append first second = flat_map-append (λ (transfer : Transfer). unwrap_or transfer []) first second

pub accepts-nil : (now : SinkValue) → Accepts now now [] []
accepts-nil now = record { made = sym (append-nil now.writes); accepted = refl; held = Appends-nil now.held }

pub accepts-trans : (old mid new : SinkValue) (writes more : List Transfer) (first second : List ℕ)
    → Accepts old mid writes first → Accepts mid new more second → Accepts old new (writes ++ more) (first ++ second)
accepts-trans old mid new writes more first second a b =
    grind (arith, common_steps, Appends-trans, append_assoc, bytes_of-append)

-- all bytes that the sink accepted so far
pub writes-bytes : (old new : SinkValue) (text : List ℕ) → WritesText old new text
    → bytes_of new.writes ≡ bytes_of old.writes ++ text
writes-bytes old new text a = grind (arith, common_steps, bytes_of-append)

pub concat-more : (pieces : List (List ℕ)) (bytes : List ℕ) → concat (pieces ++ bytes ∷ []) ≡ concat pieces ++ bytes
concat-more pieces bytes = grind (arith, common_steps, append-nil, concat_is, flat_map-append)
