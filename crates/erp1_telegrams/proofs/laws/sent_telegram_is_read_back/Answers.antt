use Rattle.erp1_telegrams.proofs.TelegramLemmas.{sent_of}
use Rattle.erp1_telegrams.proofs.laws.sent_telegram_is_read_back.Goals as goal

pub returns : goal.returns
returns c = sent_of
