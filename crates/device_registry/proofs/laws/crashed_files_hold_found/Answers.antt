use Rattle.keyed_table.proofs.Common.{inl, inr, subst, IsSound, Schema, Trees}
use Rattle.device_registry.proofs.Common.{Devices, OpenFinds}
use Rattle.std.proofs.Math.Logic.{∥∥₁_map}
use Rattle.sqlite.proofs.Theorems.{opens_again}
use Rattle.device_registry.proofs.laws.crashed_files_hold_found.Goals as goal

sound_if_found : (trees : Trees) (devices : Devices) → OpenFinds trees devices
    → (schema : Schema) × IsSound schema trees
sound_if_found trees devices (inl (version, holds)) = (_, subst (IsSound _) holds.same holds.sound)
sound_if_found trees devices (inr (free, none)) = (_, subst (IsSound _) free.same free.sound)

pub returns : goal.returns
returns g c clean devices image finds may =
    ∥∥₁_map (opens_again c.args.conn.store
    (rw c.into_store.ensures.undone.numbered at c.into_store.ensures.numbered clean)
    (λ trees leaves. sound_if_found trees devices (finds trees leaves)) image may)
    (λ db. (db.0, db.2, finds db.0 db.1))
