use Rattle.gateway_loop.proofs.driver.Driver.answer_order.Goals as goal

pub put-requires : goal.put-requires
put-requires g c = record { handled = rw c.count_input.ensures c.requires.handled }
