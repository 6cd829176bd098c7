use Rattle.std.proofs.Common.{◌-◌, length, drop, length-drop, arith}
use Rattle.std.proofs.lemmas.List.{take_all}
use Rattle.esp3_frames.specs.Outcome.{packet_of}
use Rattle.erp1_telegrams.proofs.TelegramLemmas.{Taken, taken_is}
use Rattle.erp1_telegrams.proofs.serial.read.Goals as goal

pub returns : goal.returns
returns c =
    let b = c.args.p.now.body.now in
    let taken : Taken (packet_of c.args.p.now) _ c.from_be_bytes-sender.result c.destination_and_dbm-dest.result.0
    c.destination_and_dbm-dest.result.1 = record {
      kind = c.if-p-ne-RADIO_ERP1.false;
      not_empty = c.in-len1-up.len_at_least;
      rest = take_all (length b - 1) (drop 1 b) (omega (arith, length-drop 1 b));
      long = c.in-len5-up.len_at_least;
      sender = c.from_be_bytes-sender.ensures;
      dest = c.destination_and_dbm-dest.ensures.dest;
      dbm = c.destination_and_dbm-dest.ensures.dbm;
    } in
    taken_is (packet_of c.args.p.now) _ _ _ _ c.new.result taken c.new.ensures.ok c.new.ensures.other_kind
    c.new.ensures.bad_length c.new.ensures.no_other
