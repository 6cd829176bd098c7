-- The table of plans for the sender of a telegram. Own choice: the modes and the plans.
use Rattle.std.specs.Prelude.{ℕ, Bool, ◌==◌, ◌&&◌, ◌||◌, not, [], Option, Some, None, if◌then◌else◌}
use Rattle.bit_fields.specs.Bits.{field}
use Rattle.erp1_telegrams.specs.declared.eep.Eep.{Eep}
use Rattle.erp1_telegrams.specs.Telegram.{Telegram}
use Rattle.teach_in.specs.declared.mode.Mode.{Mode}
use Rattle.teach_in.specs.declared.mode.Mode.TheVariants.{Closed, Learn, LearnAnswer, LearnAs}
use Rattle.teach_in.specs.declared.outcome.Outcome.TheVariants.{Unsupported, General, NoProfile}
use Rattle.teach_in.specs.declared.plans.Plan.{Plan}
use Rattle.teach_in.specs.declared.plans.Plan.TheVariants.{Silent, Add, Forget, Refuse}
use Rattle.teach_in.specs.declared.telegrams.Teach.{Teach}
use Rattle.teach_in.specs.declared.telegrams.Teach.TheVariants.{Plain, Contact, Bare, FourByte, Ute, Answer}
use Rattle.teach_in.specs.declared.ute.UteQuery.{UteQuery}
use Rattle.teach_in.specs.Profiles.{supported}
use Rattle.teach_in.specs.Telegrams.{teach_in_of}
use Rattle.teach_in.specs.Ute.{request_in, deletion_request, unused_request}

-- the sender is learned with this profile and this maker
abbrev pub add : Telegram → Eep → (maker : Option ℕ) → Plan
add t eep maker = Add (record { id = t.sender; eep = eep; maker = maker; label = [] })

-- the same if the profile has this RORG, and nothing if it has another
abbrev pub add_if_rorg : (rorg : ℕ) → Telegram → Eep → (maker : Option ℕ) → Plan
add_if_rorg rorg t eep maker = if eep.rorg == rorg then add t eep maker else Silent

-- the profile of contacts (EnOcean Equipment Profiles 2.6, D5-00-01)
abbrev pub contact_eep : Eep
contact_eep = record { rorg = 0xD5; func = 0x00; typ = 0x01 }

-- the same with the profile and maker of a query, if the profile is supported
abbrev pub add_if_supported : Telegram → Eep → (maker : ℕ) → Plan
add_if_supported t eep maker = if supported eep then add t eep (Some maker) else Refuse Unsupported

-- the plan for a UTE query; its sender is also learned if it is already known
abbrev pub ute_plan : Telegram → UteQuery → Plan
ute_plan t query =
    if request_in query == deletion_request then Forget t.sender
    else if request_in query == unused_request then Refuse General
    else add_if_supported t query.eep query.maker

-- whether a sender can be learned by this data telegram: of RPS if a button is pressed (the bit at offset 3), and any
-- of VLD
abbrev pub can_be_learned_by : Telegram → Bool
can_be_learned_by t = (t.rorg == 0xF6 && field t.payload 3 1 == 1) || t.rorg == 0xD2

-- a row of the table: the plan by the telegram's own profile, in the modes Learn and LearnAnswer, and by the profile
-- that the desk has given, in the mode LearnAs
pub record PlanRow : Type 0 where
  pub by_own_profile : Plan
  pub by_desk_profile : Eep → Plan

-- The table: a row for each role of a telegram in teach-in; for data it depends on whether the sender is already known.
abbrev pub plan_row_of : Telegram → (known : Bool) → Teach → PlanRow
plan_row_of t known Contact = record {
  by_own_profile = add t contact_eep None;
  by_desk_profile = λ eep. add_if_rorg 0xD5 t eep None;
}
plan_row_of t known Bare = record {
  by_own_profile = Refuse NoProfile;
  by_desk_profile = λ eep. add_if_rorg 0xA5 t eep None;
}
plan_row_of t known (FourByte query) = record {
  by_own_profile = add_if_supported t query.eep query.maker;
  by_desk_profile = λ eep. add_if_rorg 0xA5 t eep (Some query.maker);
}
plan_row_of t known Plain = record {
  by_own_profile = Silent;
  by_desk_profile = λ eep. if not known && can_be_learned_by t then add_if_rorg t.rorg t eep None else Silent;
}
plan_row_of t known (Ute query) = record { by_own_profile = ute_plan t query; by_desk_profile = λ eep. Silent }
plan_row_of t known Answer = record { by_own_profile = Silent; by_desk_profile = λ eep. Silent }

-- the plan of a row in each mode
abbrev pub plan_in_mode : PlanRow → Mode → Plan
plan_in_mode row Closed = Silent
plan_in_mode row Learn = row.by_own_profile
plan_in_mode row LearnAnswer = row.by_own_profile
plan_in_mode row (LearnAs eep) = row.by_desk_profile eep

-- the plan for the sender of a telegram, by the mode and by whether it is known
abbrev pub plan_of : Telegram → Mode → (known : Bool) → Plan
plan_of t mode known = plan_in_mode (plan_row_of t known (teach_in_of t)) mode
