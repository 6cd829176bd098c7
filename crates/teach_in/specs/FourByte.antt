-- 4BS teach-in with a profile, and the replies to it (EnOcean Equipment Profiles 2.6, "4BS Telegram", variation 3).
use Rattle.std.specs.Prelude.{ℕ, List, [], ◌∷◌, ◌++◌, take, Option, Some, None, option_map}
use Rattle.bit_fields.specs.Bits.{field}
use Rattle.erp1_telegrams.specs.declared.eep.Eep.{Eep}
use Rattle.erp1_telegrams.specs.Telegram.{Telegram}
use Rattle.teach_in.specs.declared.four_byte.FourByteQuery.{FourByteQuery}
use Rattle.teach_in.specs.declared.outcome.Outcome.{Outcome}
use Rattle.teach_in.specs.declared.outcome.Outcome.TheVariants.{Accepted, Unsupported, Full}
use Rattle.teach_in.specs.Replies.{addressed_reply}

-- the profile in the payload of a query: FUNC has 6 bits, and TYPE has 7
abbrev pub eep_in : (payload : List ℕ) → Eep
eep_in payload = record { rorg = 0xA5; func = field payload 0 6; typ = field payload 6 7 }

-- the manufacturer ID, which has 11 bits
abbrev pub maker_in : (payload : List ℕ) → ℕ
maker_in payload = field payload 13 11

-- the query of a sender with this payload
abbrev pub query_of : (sender : ℕ) (payload : List ℕ) → FourByteQuery
query_of sender payload =
    record { id = sender; eep = eep_in payload; maker = maker_in payload; payload = payload }

-- DB0 of a reply with this outcome, if there is one: the learn bit DB0.3 is 0; DB0.4 is 1, for a reply; DB0.7 is 1, for
-- a profile; DB0.6 is 1 if the profile is supported, and DB0.5 if the sender is learned. Own choice: the other bits are
-- 0
abbrev pub four_byte_reply_code : Outcome → Option ℕ
four_byte_reply_code Accepted = Some 0xF0
four_byte_reply_code Unsupported = Some 0x90
four_byte_reply_code Full = Some 0xD0
four_byte_reply_code outcome = None

-- the reply to a query, from the gateway with this base ID, addressed to the sender: the query, except for DB0
abbrev pub four_byte_reply : FourByteQuery → Outcome → (base : ℕ) → Option Telegram
four_byte_reply query outcome base =
    option_map (λ code. addressed_reply 0xA5 (take 3 query.payload ++ code ∷ []) query.id base)
    (four_byte_reply_code outcome)
