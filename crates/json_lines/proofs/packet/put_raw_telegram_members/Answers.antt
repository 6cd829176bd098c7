use Rattle.json_lines.proofs.PacketTexts.{content_pieces}
use Rattle.json_lines.proofs.packet.put_raw_telegram_members.Goals as goal

pub returns-clause-items : goal.returns-clause-items
returns-clause-items c =
    rw (← c.shown.view_is, c.put_byte-2.ensures.items, c.status.ensures, c.put-3.ensures.items)
    (rw (c.put_byte.ensures.items, c.rorg.ensures, c.put-2.ensures.items, c.put_payload.ensures.items)
    (rw (c.payload.ensures.value, c.put.ensures.items) (content_pieces c.args.out.now.items _ _ _)))
