use Rattle.keyed_table.proofs.Common.{inl, inr, sym, ◌∙◌, cases_Bool, empty}
use Rattle.device_registry.proofs.laws.devices_are_held.Goals as goal

-- if the connection is closed, any devices will do
pub returns : goal.returns
returns g c = rw (← c.registry.view_is, ← c.table.view_is) (λ clean.
    elim (cases_Bool (g.C.SqlConnection.state c.table.inside.conn).is_open) [
      | inl is ↦ let ready = c.table.invariant.1 clean is in (ready.held, λ _ _. ready.shows.holds)
      | inr closed ↦ (empty, λ _ is_open. absurd (let e = sym closed ∙ is_open in cc))
    ])
