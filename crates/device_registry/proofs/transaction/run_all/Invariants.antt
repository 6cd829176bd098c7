use Rattle.keyed_table.proofs.Common.{◌≡◌, map, take}
use Rattle.device_registry.proofs.Common.{IsMidTransaction}
use Rattle.device_registry.proofs.transaction.run_all.Given as goal

abbrev pub invariant-loop-text : goal.invariant-loop-text
invariant-loop-text g l = (l.ours.conn.ghost_name ≡ l.initial.ours.conn.ghost_name)
    × IsMidTransaction g.S.Store
    (map (λ text. text.now) (take l.text-index l.texts)) l.initial.ours.conn.now l.ours.conn.now
