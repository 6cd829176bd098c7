-- Properties of every plan, and of the query in a telegram.
use Rattle.std.proofs.Common.{◌≡◌, ◌≢◌, ◌⊎◌, inl, inr, ℕ, Bool, true, false, Option, refl, sym, ap, ◌∙◌, eqb-true}
use Rattle.std.specs.Prelude.{if◌then◌else◌, ◌==◌, ◌&&◌, not}
use Rattle.bit_fields.specs.Bits.{field}
use Rattle.erp1_telegrams.specs.declared.eep.Eep.{Eep}
use Rattle.erp1_telegrams.specs.Telegram.{Telegram}
use Rattle.teach_in.specs.declared.four_byte.FourByteQuery.{FourByteQuery}
use Rattle.teach_in.specs.declared.mode.Mode.{Mode}
use Rattle.teach_in.specs.declared.mode.Mode.TheVariants.{Closed, Learn, LearnAnswer, LearnAs}
use Rattle.teach_in.specs.declared.outcome.Outcome.{Outcome}
use Rattle.teach_in.specs.declared.outcome.Outcome.TheVariants.{Unsupported, General, NoProfile}
use Rattle.teach_in.specs.declared.plans.Plan.{Plan}
use Rattle.teach_in.specs.declared.plans.Plan.TheVariants.{Silent, Forget, Refuse}
use Rattle.teach_in.specs.declared.telegrams.Teach.{Teach}
use Rattle.teach_in.specs.declared.telegrams.Teach.TheVariants.{Plain, Contact, Bare, FourByte, Ute, Answer}
use Rattle.teach_in.specs.declared.ute.UteQuery.{UteQuery}
use Rattle.teach_in.specs.Profiles.{supported}
use Rattle.teach_in.specs.Telegrams.{teach_in_of, one_byte_role, four_byte_role, ute_role}
use Rattle.teach_in.specs.FourByte as four_byte
use Rattle.teach_in.specs.Ute as ute
use Rattle.teach_in.specs.Ute.{request_in, deletion_request, unused_request}
use Rattle.teach_in.specs.Plans.{add, ute_plan, can_be_learned_by, plan_row_of, plan_in_mode, plan_of}

-- what holds for both holds for the one that is chosen
pub either : {A : Type 0} (P : A → Type 0) (b : Bool) (one other : A) → P one → P other
    → P (if b then one else other)
either P true one other of_one of_other = of_one
either P false one other of_one of_other = of_other

-- ---- a plan

-- the outcomes with which a telegram is rejected: it has no profile, or an unsupported one, or a request that is not in
-- use
abbrev pub Refuses : Teach → Outcome → Type 0
Refuses Bare NoProfile = Unit {0}
Refuses (FourByte query) Unsupported = Unit {0}
Refuses (Ute query) Unsupported = Unit {0}
Refuses (Ute query) General = Unit {0}
Refuses kind outcome = ⊥

-- the gateway learns in this mode
abbrev pub IsOpen : Mode → Type 0
IsOpen Closed = ⊥
IsOpen mode = Unit {0}

-- it learns by a telegram's own profile
abbrev pub LearnsByTeachIn : Mode → Type 0
LearnsByTeachIn mode = (mode ≡ Learn) ⊎ (mode ≡ LearnAnswer)

-- a telegram with this role may have an effect
abbrev pub Hears : Mode → Teach → Type 0
Hears mode (Ute query) = LearnsByTeachIn mode
Hears mode kind = IsOpen mode

pub hears-open : (mode : Mode) (kind : Teach) → Hears mode kind → IsOpen mode
hears-open Closed (Ute query) (inl is) = absurd cc
hears-open Closed (Ute query) (inr is) = absurd cc
hears-open Closed kind hears = absurd hears
hears-open mode kind hears = tt

-- it is a query to forget its sender
abbrev pub AsksDeletion : Teach → Type 0
AsksDeletion kind = (query : UteQuery) × (kind ≡ Ute query) × (request_in query ≡ deletion_request)

-- a property of plans for a telegram with this role in teach-in, in this mode: it holds for each possible plan
pub record OfPlans (P : Plan → Type 0) (t : Telegram) (kind : Teach) (mode : Mode) : Type 0 where
  pub silent : P Silent
  pub adds : Hears mode kind → (eep : Eep) (maker : Option ℕ) → P (add t eep maker)
  pub forgets : LearnsByTeachIn mode → AsksDeletion kind → P (Forget t.sender)
  pub refuses : Hears mode kind → (outcome : Outcome) → Refuses kind outcome → P (Refuse outcome)

module _ (P : Plan → Type 0) (t : Telegram) where
  of-asked : (query : UteQuery) (mode : Mode) → LearnsByTeachIn mode → OfPlans P t (Ute query) mode
      → P (ute_plan t query)
  of-asked query mode reported each =
      by_request P (request_in query == deletion_request) _ _
      (λ is. each.forgets reported (query, refl, eqb-true (request_in query) deletion_request is))
      (either P (request_in query == unused_request) _ _ (each.refuses reported General tt)
      (either P (supported query.eep) _ _ (each.adds reported _ _) (each.refuses reported Unsupported tt)))
    where
      by_request : (P : Plan → Type 0) (b : Bool) (one other : Plan) → (b ≡ true → P one) → P other
          → P (if b then one else other)
      by_request P true one other of_one of_other = of_one refl
      by_request P false one other of_one of_other = of_other

  of-row : (known : Bool) (kind : Teach) (mode : Mode) → OfPlans P t kind mode
      → P (plan_in_mode (plan_row_of t known kind) mode)
  of-row known kind Closed each = each.silent
  of-row known Contact Learn each = each.adds tt _ _
  of-row known Contact LearnAnswer each = each.adds tt _ _
  of-row known Contact (LearnAs eep) each = either P (eep.rorg == 0xD5) _ _ (each.adds tt _ _) each.silent
  of-row known Bare Learn each = each.refuses tt NoProfile tt
  of-row known Bare LearnAnswer each = each.refuses tt NoProfile tt
  of-row known Bare (LearnAs eep) each = either P (eep.rorg == 0xA5) _ _ (each.adds tt _ _) each.silent
  of-row known (FourByte query) Learn each =
      either P (supported query.eep) _ _ (each.adds tt _ _) (each.refuses tt Unsupported tt)
  of-row known (FourByte query) LearnAnswer each =
      either P (supported query.eep) _ _ (each.adds tt _ _) (each.refuses tt Unsupported tt)
  of-row known (FourByte query) (LearnAs eep) each =
      either P (eep.rorg == 0xA5) _ _ (each.adds tt _ _) each.silent
  of-row known Plain (LearnAs eep) each =
      either P (not known && can_be_learned_by t) _ _ (either P (eep.rorg == t.rorg) _ _ (each.adds tt _ _) each.silent)
      each.silent
  of-row known (Ute query) Learn each = of-asked query Learn (inl refl) each
  of-row known (Ute query) LearnAnswer each = of-asked query LearnAnswer (inr refl) each
  of-row known kind mode each = each.silent

  -- so it holds for this one
  pub of_plan : (mode : Mode) (known : Bool) → OfPlans P t (teach_in_of t) mode → P (plan_of t mode known)
  of_plan mode known each = of-row known (teach_in_of t) mode each

-- for a teach-in telegram it does not matter whether its sender is known
pub plan-unasked : (t : Telegram) (mode : Mode) (known : Bool) (kind : Teach) → teach_in_of t ≡ kind → kind ≢ Plain
    → plan_of t mode known ≡ plan_of t mode false
plan-unasked t mode known kind is teaches =
    ap (λ k. plan_in_mode (plan_row_of t known k) mode) is ∙ same kind teaches
    ∙ ap (λ k. plan_in_mode (plan_row_of t false k) mode) (sym is)
  where
    same : (kind : Teach) → kind ≢ Plain
        → plan_in_mode (plan_row_of t known kind) mode ≡ plan_in_mode (plan_row_of t false kind) mode
    same Plain teaches = absurd (teaches refl)
    same kind teaches = refl

-- ---- a query

-- the sender of a query, and this one for any other role
abbrev sender_in : ℕ → Teach → ℕ
sender_in sender (FourByte query) = query.id
sender_in sender (Ute query) = query.id
sender_in sender kind = sender

-- a property of the role of a telegram: it holds for each possible role
pub of-role : (P : Teach → Type 0) (t : Telegram) → P Plain → P Contact → P Bare → P Answer
    → P (FourByte (four_byte.query_of t.sender t.payload)) → P (Ute (ute.query_of t.sender t.payload))
    → P (teach_in_of t)
of-role P t plain one_byte bare answer query ute_query =
    either P (t.rorg == 0xD5) (one_byte_role t.payload) _
    (either P (field t.payload 4 1 == 0) Contact Plain one_byte plain)
    (either P (t.rorg == 0xA5) (four_byte_role t.sender t.payload) _
    (either P (field t.payload 28 1 == 1) Plain _ plain
    (either P (field t.payload 24 1 == 0) Bare _ bare
    (either P (field t.payload 27 1 == 0) (FourByte (four_byte.query_of t.sender t.payload)) Answer query answer)))
    (either P (t.rorg == 0xD4) (ute_role t.sender t.payload) Plain
    (either P (field t.payload 4 4 == 0) (Ute (ute.query_of t.sender t.payload)) Answer ute_query answer) plain))

sender-in : (t : Telegram) → sender_in t.sender (teach_in_of t) ≡ t.sender
sender-in t = of-role (λ (kind : Teach). sender_in t.sender kind ≡ t.sender) t refl refl refl refl refl refl

-- a query is from the telegram's sender
pub query-sender : (t : Telegram) (query : FourByteQuery) → teach_in_of t ≡ FourByte query → query.id ≡ t.sender
query-sender t query is = sym (ap (sender_in t.sender) is) ∙ sender-in t

pub ute-sender : (t : Telegram) (query : UteQuery) → teach_in_of t ≡ Ute query → query.id ≡ t.sender
ute-sender t query is = sym (ap (sender_in t.sender) is) ∙ sender-in t
