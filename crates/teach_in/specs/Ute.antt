-- UTE (universal teach-in): queries that teach devices in and out, and the replies to them (EnOcean Equipment Profiles
-- 2.6, "Universal Uni- and Bidirectional Teach-in"). A telegram has seven bytes, DB6 to DB0. DB5 is the number of
-- channels, which has no effect.
use Rattle.std.specs.Prelude.{ℕ, List, Bool, ◌+◌, ◌*◌, ◌==◌, ◌∷◌, drop, Option, Some, None, option_map}
use Rattle.bit_fields.specs.Bits.{field}
use Rattle.erp1_telegrams.specs.declared.eep.Eep.{Eep}
use Rattle.erp1_telegrams.specs.Telegram.{Telegram}
use Rattle.teach_in.specs.declared.outcome.Outcome.{Outcome}
use Rattle.teach_in.specs.declared.outcome.Outcome.TheVariants.{Accepted, Deleted, Unsupported, Full, General}
use Rattle.teach_in.specs.declared.ute.UteQuery.{UteQuery}
use Rattle.teach_in.specs.Replies.{addressed_reply}

-- the profile in the payload of a query: RORG in DB0, FUNC in DB1, and TYPE in DB2
abbrev pub eep_in : (payload : List ℕ) → Eep
eep_in payload = record { rorg = field payload 48 8; func = field payload 40 8; typ = field payload 32 8 }

-- the manufacturer ID, which has 11 bits: the high 3 bits in DB3.2 to DB3.0, and the low 8 in DB4
abbrev pub maker_in : (payload : List ℕ) → ℕ
maker_in payload = 256 * field payload 29 3 + field payload 16 8

-- the query of a sender with this payload
abbrev pub query_of : (sender : ℕ) (payload : List ℕ) → UteQuery
query_of sender payload =
    record { id = sender; eep = eep_in payload; maker = maker_in payload; payload = payload }

-- whether it waits for a reply: DB6.6 is then 0
abbrev pub wants_reply : UteQuery → Bool
wants_reply query = field query.payload 1 1 == 0

-- Its request, in DB6.5 and DB6.4: 0 is a teach-in, 1 a deletion, 2 leaves open which of the two, and 3 is not used.
-- Own choice: 2 is a teach-in, even if the sender is already learned.
abbrev pub request_in : UteQuery → ℕ
request_in query = field query.payload 2 2

-- the request to forget the sender
abbrev pub deletion_request : ℕ
deletion_request = 1

-- the request that is not used
abbrev pub unused_request : ℕ
unused_request = 3

-- DB6.5 and DB6.4 of a reply with this outcome, if there is one
abbrev pub ute_reply_code : Outcome → Option ℕ
ute_reply_code Accepted = Some 1
ute_reply_code Deleted = Some 2
ute_reply_code Unsupported = Some 3
ute_reply_code Full = Some 0
ute_reply_code General = Some 0
ute_reply_code outcome = None

-- DB6 of a reply: DB6.7 as in the query, DB6.6 is 0, then the code, and the command 1 in DB6.3 to DB6.0
abbrev pub reply_first_byte : UteQuery → (code : ℕ) → ℕ
reply_first_byte query code = 128 * field query.payload 0 1 + 16 * code + 1

-- the reply to a query, from the gateway with this base ID, addressed to the sender: the query, except for DB6
abbrev pub ute_reply : UteQuery → Outcome → (base : ℕ) → Option Telegram
ute_reply query outcome base =
    option_map (λ code. addressed_reply 0xD4 (reply_first_byte query code ∷ drop 1 query.payload) query.id base)
    (ute_reply_code outcome)
