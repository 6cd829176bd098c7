-- The texts of packet lines: composed of the texts of their members, and how long their parts are.
use Rattle.std.proofs.Common.{◌≡◌, ℕ, zero, suc, ◌<◌, ◌≤◌, List, [], ◌∷◌, ◌++◌, length, codes, arith, append_assoc}
use Rattle.std.proofs.Common.{append-nil, ap, lit<, rules, pos, negsuc, ◌-ℤ◌}
use Rattle.std.proofs.lemmas.Int.{ints}
use Rattle.std.specs.Int.Signed.{mag}
use Rattle.std.specs.List.{join_by}
use Rattle.std.proofs.lemmas.Grind.{flat_map-append}
use Rattle.std.proofs.lemmas.Fmt.{length_signed_le}
use Rattle.json_lines.specs.Lines.{dbm_text, member_text, object_text}
use Rattle.json_lines.specs.PacketLines.{packet_members, type_and_why_members, members_text}
use Rattle.json_lines.specs.declared.packet.ShownPacket.{ShownPacket}
use Rattle.gateway_state.specs.declared.handling_reason.HandlingReason.{HandlingReason}

-- a signal strength has a sign and at most three digits
pub mag-minus : (byte : ℕ) → mag (pos 0 -ℤ pos byte) ≤ byte
mag-minus zero = omega arith
mag-minus (suc n) = let below : pos 0 -ℤ pos (suc n) ≡ negsuc n = omega (arith, ints) in omega (arith, ap mag below)

pub length-dbm_text : (byte : ℕ) → byte < 256 → length (dbm_text byte) ≤ 4
length-dbm_text byte h =
    length_signed_le 3 (pos 0 -ℤ pos byte) (omega (arith, mag-minus byte)) (omega (arith, mag-minus byte))

-- the members of a sender, part by part
pub sender_pieces : (out dbm dest eep id maker : List ℕ)
    → out ++ codes "\"dbm\":" ++ dbm ++ codes ",\"dest\":" ++ dest ++ codes ",\"eep\":" ++ eep ++ codes ",\"id\":" ++ id
    ++ codes ",\"maker\":" ++ maker
    ≡ out ++ members_text ((codes "dbm", dbm) ∷ (codes "dest", dest) ∷ (codes "eep", eep) ∷ (codes "id", id)
    ∷ (codes "maker", maker) ∷ [])
sender_pieces out dbm dest eep id maker = simp (append_assoc, append-nil)

-- the payload, the RORG and the status, part by part
pub content_pieces : (out payload rorg status : List ℕ)
    → out ++ codes "\"payload\":" ++ payload ++ codes ",\"rorg\":" ++ rorg ++ codes ",\"status\":" ++ status
    ≡ out ++ members_text ((codes "payload", payload) ∷ (codes "rorg", rorg) ∷ (codes "status", status) ∷ [])
content_pieces out payload rorg status = simp (append_assoc, append-nil)

-- the type of the line and the reason, part by part
pub end_pieces : (out why : List ℕ) → (out ++ codes "\"type\":\"packet\",\"why\":") ++ why
    ≡ out ++ members_text ((codes "type", codes "\"packet\"") ∷ (codes "why", why) ∷ [])
end_pieces out why = simp (append_assoc, append-nil)

-- parts after others have the separator before them
join_by-append : {X : Type 0} (f : X → List ℕ) (s : List ℕ) (x : X) (xs : List X) (y : X) (ys : List X)
    → join_by f s ((x ∷ xs) ++ (y ∷ ys)) ≡ join_by f s (x ∷ xs) ++ (s ++ join_by f s (y ∷ ys))
join_by-append f s x xs y ys = rw (flat_map-append (λ z. s ++ f z) xs (y ∷ ys)) (simp append_assoc)

members_text-append : (ms ns : List (List ℕ × List ℕ)) → 0 < length ms → 0 < length ns
    → members_text (ms ++ ns) ≡ members_text ms ++ (codes "," ++ members_text ns)
members_text-append (m ∷ ms) (n ∷ ns) some others = join_by-append member_text (codes ",") m ms n ns
members_text-append ms ns some others = absurd (omega arith)

some_members : (packet : ShownPacket) → 0 < length (packet_members packet)
some_members packet = search rules

-- a line, part by part
braces : (first last all : List ℕ) → all ≡ first ++ (codes "," ++ last)
    → (((codes "{" ++ first) ++ codes ",") ++ last) ++ codes "}\n" ≡ (codes "{" ++ (all ++ codes "}")) ++ codes "\n"
braces first last all joined = rw joined (simp append_assoc)

pub line_pieces : (packet : ShownPacket) (why : HandlingReason)
    → codes "{" ++ members_text (packet_members packet) ++ codes "," ++ members_text (type_and_why_members why)
    ++ codes "}\n"
    ≡ object_text (packet_members packet ++ type_and_why_members why) ++ codes "\n"
line_pieces packet why =
    braces (members_text (packet_members packet)) (members_text (type_and_why_members why)) _
    (members_text-append (packet_members packet) (type_and_why_members why) (some_members packet) (lit< tt))
