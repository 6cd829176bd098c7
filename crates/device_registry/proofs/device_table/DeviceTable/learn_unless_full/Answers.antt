use Rattle.std.proofs.Common.{rules}
use Rattle.keyed_table.proofs.Common.{◌∙◌, Err, None, sym}
use Rattle.device_registry.proofs.Common.{learn_update, device_data}
use Rattle.device_registry.proofs.RegistryCalls.{err_is, shown_before, keeps, keeps_well, ready_before, reports}
use Rattle.device_registry.proofs.RegistryCalls.{looks_up}
use Rattle.device_registry.proofs.RegistryCalls.{unlearned, made_ready, upserted, upserted_learns, upserted_well}
use Rattle.learned_devices.proofs.ForCallers.{no_more_commits, one_more_commit}
use Rattle.device_registry.proofs.device_table.DeviceTable.learn_unless_full.Goals as goal

pub is_full_for-requires : goal.is_full_for-requires
is_full_for-requires g c = rw (← c.self.view_is) at c.requires.ready

-- ---- the count failed

pub invariant_of-self : goal.invariant_of-self
invariant_of-self g c = keeps_well c.is_full_for.ensures.stays c.self.invariant

pub returns-in_err-is_full_for-clause-adds : goal.returns-in_err-is_full_for-clause-adds
returns-in_err-is_full_for-clause-adds g c = rw (← c.self.view_is, err_is _ c.from_residual.ensures.1) (unlearned
    c.args.device (looks_up c.is_full_for.ensures.stays c.self.invariant {E = Unit {0}}
    (λ _. c.is_full_for.ensures.counted) (Err tt) (λ _ _ _. tt)))

-- ---- the registry is full

pub invariant_of-self-then-branch : goal.invariant_of-self-then-branch
invariant_of-self-then-branch g c = keeps_well c.is_full_for.ensures.stays c.self.invariant

pub returns-then-branch : goal.returns-then-branch
returns-then-branch g c =
    let stays = c.is_full_for.ensures.stays in
    let full = c.in_ok-is_full_for.ensures.full in
    rw (← c.self.view_is) (record {
      adds = record {
        clean = stays.clean;
        reopenable = (keeps_well stays c.self.invariant).0;
        commits = λ _. no_more_commits 0 c.is_full_for.ensures.counted;
        devices = λ clean devices has. (
          sym (reports stays c.self.invariant full clean devices has) ∙ c.if-branch.true,
          keeps stays c.self.invariant clean devices has,
        );
      };
      written = λ clean devices has is. absurd cc;
      ready = λ clean. (ready_before stays c.self.invariant clean (full clean).0.shows.is_open, (full clean).0);
    })

-- ---- the write

pub upsert-requires-clause-ready : goal.upsert-requires-clause-ready
upsert-requires-clause-ready g c clean = (c.in_ok-is_full_for.ensures.full clean).0

pub upsert-requires-clause-room : goal.upsert-requires-clause-room
upsert-requires-clause-room g c clean devices shows = search (
  rules,
  shown_before c.is_full_for.ensures.stays
      c.self.invariant clean shows,
  (c.in_ok-is_full_for.ensures.full clean).1 devices,
)

pub invariant_of-self-in_err-upsert : goal.invariant_of-self-in_err-upsert
invariant_of-self-in_err-upsert g c = upserted_well c.args.device c.upsert.ensures.turns
    c.is_full_for.ensures.stays c.self.invariant (rw (← c.self.view_is) at c.requires.learned)
    c.in_ok-is_full_for.ensures.full

pub returns-in_err-upsert-clause-adds : goal.returns-in_err-upsert-clause-adds
returns-in_err-upsert-clause-adds g c =
    rw (← c.self.view_is, err_is _ c.from_residual-in_err-upsert.ensures.1) (upserted_learns c.args.device
    c.in_err-upsert.ensures.turns c.is_full_for.ensures.stays c.self.invariant
    (rw (← c.self.view_is) at c.requires.learned) c.in_ok-is_full_for.ensures.full
    c.is_full_for.ensures.counted (one_more_commit c.upsert.ensures.counted) c.if-branch.false
    (g.met.C.SqlConnection.settled c.upsert.new.conn))

pub invariant_of-self-2 : goal.invariant_of-self-2
invariant_of-self-2 g c = upserted_well c.args.device c.upsert.ensures.turns
    c.is_full_for.ensures.stays c.self.invariant (rw (← c.self.view_is) at c.requires.learned)
    c.in_ok-is_full_for.ensures.full

pub returns : goal.returns
returns g c =
    let device = c.args.device in
    let stays = c.is_full_for.ensures.stays in
    let well = c.self.invariant in
    let made = rw (← c.self.view_is) at c.requires.learned in
    let full = c.in_ok-is_full_for.ensures.full in
    let turns = c.in_ok-upsert.ensures.turns in
    let done = upserted device turns stays well made full in
    rw (← c.self.view_is) (record {
      adds = upserted_learns device turns stays well made full c.is_full_for.ensures.counted
          (one_more_commit c.upsert.ensures.counted) c.if-branch.false
          (g.met.C.SqlConnection.settled c.upsert.new.conn);
      written = λ clean devices has _. record {
        row = device_data device;
        is = made (stays.clean (done.clean clean)) devices has;
        before = c.is_full_for.new.conn;
        had = (keeps stays well {a = None} {b = None} (done.clean clean) devices has).now;
        count = c.in_ok-upsert.field-0;
        executed = c.in_ok-upsert.ensures.written clean;
      };
      ready = λ clean. (
        (rw (← c.self.view_is) at c.requires.ready) (stays.clean (done.clean clean)),
        (made_ready (learn_update device) (keeps_well stays well) (λ early. (full early).0) done clean).1,
      );
    })
