pub mod TelegramLemmas
