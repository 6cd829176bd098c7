-- Telegrams: every plan for the sender of a query can be replied to it, and the LRN bit of data.
use Rattle.std.proofs.Common.{◌≡◌, ℕ, Bool, false, refl, sym, arith, true}
use Rattle.erp1_telegrams.specs.Telegram.{Telegram}
use Rattle.teach_in.specs.declared.mode.Mode.{Mode}
use Rattle.teach_in.specs.declared.outcome.Outcome.{Outcome}
use Rattle.teach_in.specs.declared.outcome.Outcome.TheVariants.{Accepted, Deleted, Full}
use Rattle.teach_in.specs.declared.plans.Plan.{Plan}
use Rattle.teach_in.specs.declared.plans.Plan.TheVariants.{Silent, Add, Forget, Refuse}
use Rattle.teach_in.specs.declared.telegrams.Teach.{Teach}
use Rattle.teach_in.specs.Telegrams.{teach_in_of}
use Rattle.teach_in.specs.Plans.{plan_of}
use Rattle.teach_in.proofs.ForCallers.{Refuses, AsksDeletion, of_plan, query-sender, ute-sender}
use Rattle.gateway_core.specs.private.Attempts.{HasReplyCodeIfQuery}
use Rattle.profile_rows.specs.Payload.{is_data}
use Rattle.teach_in.specs.declared.telegrams.Teach.TheVariants.{Plain}
use Rattle.gateway_core.proofs.ByteLemmas.{field-below}
use Rattle.std.proofs.lemmas.Bool.Decides.{nat_tests}

-- the outcomes that a reply to the sender can have

learned-has_reply_code : (t : Telegram) (kind : Teach) → teach_in_of t ≡ kind
    → HasReplyCodeIfQuery kind t.sender Accepted × HasReplyCodeIfQuery kind t.sender Full
learned-has_reply_code t kind is = grind (arith, query-sender, ute-sender)

deleted-has_reply_code : (t : Telegram) (kind : Teach) → teach_in_of t ≡ kind → AsksDeletion kind
    → HasReplyCodeIfQuery kind t.sender Deleted
deleted-has_reply_code t kind is asks = grind (arith, ute-sender)

refused-has_reply_code : (t : Telegram) (kind : Teach) (outcome : Outcome) → teach_in_of t ≡ kind → Refuses kind outcome
    → HasReplyCodeIfQuery kind t.sender outcome
refused-has_reply_code t kind outcome is refuses = grind (arith, query-sender, ute-sender)

-- the outcomes of a plan can be replied
abbrev pub CanReply : Teach → ℕ → Plan → Type 0
CanReply kind sender Silent = Unit {0}
CanReply kind sender (Add known) = HasReplyCodeIfQuery kind known.id Accepted × HasReplyCodeIfQuery kind known.id Full
CanReply kind sender (Forget id) = HasReplyCodeIfQuery kind id Deleted
CanReply kind sender (Refuse outcome) = HasReplyCodeIfQuery kind sender outcome

planned : (t : Telegram) (mode : Mode) (known : Bool) → CanReply (teach_in_of t) t.sender (plan_of t mode known)
planned t mode known =
    let kind = teach_in_of t in
    of_plan (CanReply kind t.sender) t mode known (record {
      silent = tt;
      adds = λ hears eep maker. learned-has_reply_code t kind refl;
      forgets = λ learning asks. deleted-has_reply_code t kind refl asks;
      refuses = λ hears outcome is. refused-has_reply_code t kind outcome refl is;
    })

-- for the plan that was found
pub can_reply : (t : Telegram) (mode : Mode) (kind : Teach) (plan : Plan) → kind ≡ teach_in_of t
    → plan_of t mode false ≡ plan → CanReply kind t.sender plan
can_reply t mode kind plan is planned_so = rw (is, sym planned_so) (planned t mode false)

-- ---- data: the role in teach-in determines the LRN bit

-- a telegram that is plain data passes the test of its LRN bit
pub plain-is_data : (t : Telegram) → teach_in_of t ≡ Plain → is_data t.rorg t.payload ≡ true
plain-is_data t plain = grind (arith, nat_tests, field-below)
