use Rattle.erp1_telegrams.proofs.TelegramLemmas.{carried_of, of_carried, one_carried}
use Rattle.erp1_telegrams.proofs.laws.telegram_of_packet_is_unique.Goals as goal

pub returns-clause-read : goal.returns-clause-read
returns-clause-read c p t = (carried_of p t, of_carried p t)

pub returns-clause-only : goal.returns-clause-only
returns-clause-only c = one_carried
