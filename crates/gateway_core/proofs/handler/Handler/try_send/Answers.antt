use Rattle.std.proofs.lemmas.Grind.{common_steps}
use Rattle.std.proofs.Common.{arith}
use Rattle.std.proofs.Common.{◌≡◌, true, false, Some, None, Ok, sym, ◌∙◌, ℕ}
use Rattle.std.specs.Prelude.{is_some, Option}
use Rattle.std.proofs.lemmas.Result.{err_from_is_err_and}
use Rattle.desk_orders.specs.Recipients.{recipient_id, sends}
use Rattle.actuator_commands.specs.Packets.{order_telegram}
use Rattle.std.specs.Option.{option_copied}
use Rattle.gateway_core.specs.Step.{recipient_device, send_result_effect, order_effect, State}
use Rattle.gateway_core.specs.private.Attempts.{MatchesEffect, state_of}
use Rattle.gateway_core.proofs.EffectLemmas.{sends-effect}
use Rattle.gateway_core.proofs.AttemptLemmas.{MayFailFor-store, telegram-need, attempts-unasked, send-unchanging}
use Rattle.gateway_core.proofs.AttemptLemmas.{attempts-looked_up, applies-unchanged, known_with}
use Rattle.gateway_core.proofs.handler.Handler.try_send.Goals as goal
use Rattle.desk_orders.specs.declared.orders.Order.{Order}

-- the effect of the order, by its recipient
order-sends : (state : State) (order : Order) (id : Option ℕ) → sends order ≡ true → recipient_id order ≡ id
    → order_effect state (Ok order)
    ≡ send_result_effect (is_some id) (order_telegram order (recipient_device state.devices id) state.base)
order-sends state order id is recipient = rw (sends-effect state order is, recipient)

pub returns-in_default : goal.returns-in_default
returns-in_default g c =
    let stored = g.S.DeviceStore.store_state in
    let handler = c.args.self.now in
    let telegram = order_telegram c.args.order.now None handler.base in
    let gives : MatchesEffect c.send.result (send_result_effect false telegram) =
    rw (← c.self.view_is) (c.send.ensures false) in
    attempts-unasked stored _ _ _
    (λ devices keeps.
    rw (order-sends (state_of handler devices) c.args.order.now None c.requires.sends
    (sym c.recipient_id.ensures ∙ c.in_default.is))
    (applies-unchanged stored handler.registry handler.registry devices (send_result_effect false telegram)
    c.send.result (send-unchanging false telegram) gives keeps))

pub returns-in_err-device : goal.returns-in_err-device
returns-in_err-device g c =
    grind (
      arith,
      common_steps,
      attempts-looked_up,
      err_from_is_err_and,
      known_with,
      order-sends,
      MayFailFor-store,
      telegram-need,
    )

pub returns : goal.returns
returns g c =
    let stored = g.S.DeviceStore.store_state in
    let base = c.self.inside.base in
    let telegram = order_telegram c.args.order.now (option_copied c.as_ref.result) base in
    rw (← c.self.view_is)
    (attempts-looked_up stored _ _ _ _ _ _ c.in_ok-device.ensures
    (λ devices found.
    rw (
      order-sends (known_with base c.self.inside.mode c.self.inside.counts devices) c.args.order.now
          (Some c.in-Some.id) c.requires.sends (sym c.recipient_id.ensures ∙ c.in-Some.is),
      sym (c.as_ref.ensures.value ∙ found.0),
    )
    (applies-unchanged stored c.self.inside.registry c.find.new.self devices (send_result_effect true telegram)
    c.send-2.result (send-unchanging true telegram) (c.send-2.ensures true) found.1)))
