use Rattle.json_lines.proofs.PacketTexts.{sender_pieces}
use Rattle.json_lines.proofs.packet.put_reception_and_sender_members.Goals as goal

pub returns-clause-items : goal.returns-clause-items
returns-clause-items c =
    rw (← c.shown.view_is, c.put_maker.ensures.items, c.put-5.ensures.items, c.put_id.ensures.items)
    (rw (c.sender.ensures, c.put-4.ensures.items, c.put_profile_or_null.ensures.items, c.put-3.ensures.items)
    (rw (c.put_dest.ensures.items, c.dest.ensures, c.put-2.ensures.items, c.put_dbm.ensures.items, c.dbm.ensures)
    (rw c.put.ensures.items (sender_pieces c.args.out.now.items _ _ _ _ _))))
