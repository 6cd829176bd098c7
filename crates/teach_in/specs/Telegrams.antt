-- The role of a telegram in teach-in (EnOcean Equipment Profiles 2.6, "Teach-in process").
use Rattle.std.specs.Prelude.{ℕ, ◌==◌, List, if◌then◌else◌}
use Rattle.bit_fields.specs.Bits.{field}
use Rattle.erp1_telegrams.specs.Telegram.{Telegram}
use Rattle.teach_in.specs.FourByte as four_byte
use Rattle.teach_in.specs.Ute as ute
use Rattle.teach_in.specs.declared.telegrams.Teach.{Teach}
use Rattle.teach_in.specs.declared.telegrams.Teach.TheVariants.{Plain, Contact, Bare, FourByte, Ute, Answer}

-- 1BS: the learn bit DB0.3 is 0 at teach-in ("1BS Telegram")
abbrev pub one_byte_role : (payload : List ℕ) → Teach
one_byte_role payload = if field payload 4 1 == 0 then Contact else Plain

-- 4BS: the learn bit DB0.3 is 0 at teach-in, DB0.7 is 1 if there are a profile and a maker, and DB0.4 is 1 in a reply
-- ("4BS Telegram")
abbrev pub four_byte_role : (sender : ℕ) (payload : List ℕ) → Teach
four_byte_role sender payload =
    if field payload 28 1 == 1 then Plain
    else if field payload 24 1 == 0 then Bare
    else if field payload 27 1 == 0 then FourByte (four_byte.query_of sender payload)
    else Answer

-- UTE: a query has the command 0 in DB6.3 to DB6.0, and any other is a reply ("Universal Uni- and Bidirectional
-- Teach-in")
abbrev pub ute_role : (sender : ℕ) (payload : List ℕ) → Teach
ute_role sender payload = if field payload 4 4 == 0 then Ute (ute.query_of sender payload) else Answer

-- telegrams of the other kinds, RPS and VLD, are data
abbrev pub teach_in_of : Telegram → Teach
teach_in_of t =
    if t.rorg == 0xD5 then one_byte_role t.payload
    else if t.rorg == 0xA5 then four_byte_role t.sender t.payload
    else if t.rorg == 0xD4 then ute_role t.sender t.payload
    else Plain
