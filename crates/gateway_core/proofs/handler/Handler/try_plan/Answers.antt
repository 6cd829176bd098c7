use Rattle.std.proofs.Common.{◌≡◌, false, sym, subst, ◌∙◌}
use Rattle.teach_in.specs.declared.plans.Plan.TheVariants.{Add, Refuse}
use Rattle.teach_in.specs.Plans.{plan_of}
use Rattle.gateway_core.specs.private.Attempts.{HasReplyCodeIfQuery, state_of}
use Rattle.gateway_core.proofs.TelegramLemmas.{can_reply}
use Rattle.gateway_core.proofs.AttemptLemmas.{teach_line-of_query, refusal_line-matches, attempts-unasked}
use Rattle.gateway_core.proofs.handler.Handler.try_plan.Goals as goal

pub try_accept-requires-clause-accepted : goal.try_accept-requires-clause-accepted
try_accept-requires-clause-accepted g c =
    (can_reply c.args.telegram.now _ c.args.teach.now (Add c.in-Add.device) c.requires
    (sym c.plan_for.ensures ∙ c.in-Add.is)).0

pub try_accept-requires-clause-full : goal.try_accept-requires-clause-full
try_accept-requires-clause-full g c =
    (can_reply c.args.telegram.now _ c.args.teach.now (Add c.in-Add.device) c.requires
    (sym c.plan_for.ensures ∙ c.in-Add.is)).1

pub refuse-requires-clause-reply : goal.refuse-requires-clause-reply
refuse-requires-clause-reply g c =
    subst (λ id. HasReplyCodeIfQuery c.args.teach.now id c.in-Refuse.outcome) (sym c.sender.ensures)
    (can_reply c.args.telegram.now _ c.args.teach.now (Refuse c.in-Refuse.outcome) c.requires
    (sym c.plan_for.ensures ∙ c.in-Refuse.is))

pub returns-in-Silent : goal.returns-in-Silent
returns-in-Silent g c =
    let plan = sym c.plan_for.ensures ∙ c.in-Silent.is in
    rw (← c.self.view_is) (attempts-unasked g.S.DeviceStore.store_state _ _ _
    (λ devices keeps. rw (plan, ← c.why_nothing_done.ensures) (c.ignored_effect.ensures c.args.is_data, keeps)))

pub returns-in_ok-refused-in-Refuse : goal.returns-in_ok-refused-in-Refuse
returns-in_ok-refused-in-Refuse g c =
    let plan : plan_of c.args.telegram.now c.args.self.now.mode false ≡ Refuse c.in-Refuse.outcome =
    rw (← c.self.view_is) (sym c.plan_for.ensures ∙ c.in-Refuse.is) in
    attempts-unasked g.S.DeviceStore.store_state _ _ _
    (λ devices keeps.
    rw plan (
      refusal_line-matches c.in_ok-refused-in-Refuse.refused (state_of c.args.self.now devices) c.args.telegram.now
          c.args.teach.now c.sender.result _ c.in-Refuse.outcome c.requires c.sender.ensures
          (teach_line-of_query c.sender.result c.args.teach.now c.in-Refuse.outcome _ _
          c.eep_and_maker_in_query-eep.ensures.eep
          c.eep_and_maker_in_query-eep.ensures.maker) (c.in_ok-refused-in-Refuse.ensures devices),
      keeps,
    ))
