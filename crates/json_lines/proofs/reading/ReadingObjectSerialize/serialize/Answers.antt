use Rattle.std.proofs.Common.{arith}
use Rattle.std.proofs.lemmas.Result.{on_ok_weaker}
use Rattle.json_lines.proofs.reading.ReadingObjectSerialize.serialize.Goals as goal

-- a member is its key, what is sent for it, and the members after it
pub returns : goal.returns
returns g c =
    on_ok_weaker c.end_map.result (λ ended. grind (
      arith,
      c.in_ok-begin_map.ensures,
      c.in_ok-key.ensures,
      c.in_ok-put_dbm.ensures,
      c.in_ok-key-2.ensures,
      c.in_ok-put_profile.ensures,
      c.in_ok-key-3.ensures,
      c.in_ok-put_id.ensures,
      c.in_ok-key-4.ensures,
      c.in_ok-put_readings.ensures,
      c.in_ok-key-5.ensures,
      c.in_ok-str.ensures,
    )) c.end_map.ensures
