-- The contents of a telegram: its RORG and its payload (ISO/IEC 14543-3-10, "RORG").
use Rattle.std.specs.Prelude.{ℕ, List, length, IsTrue}
use Rattle.erp1_telegrams.specs.declared.contents.Contents.{Contents}
use Rattle.erp1_telegrams.specs.declared.contents.Contents.TheVariants.{Rps, OneBs, FourBs, Vld, Ute}
use Rattle.erp1_telegrams.specs.Telegram.{payload_length_fits}

-- the RORG of contents
abbrev pub rorg_in : Contents → ℕ
rorg_in (Rps bytes) = 0xF6
rorg_in (OneBs bytes) = 0xD5
rorg_in (FourBs bytes) = 0xA5
rorg_in (Vld bytes) = 0xD2
rorg_in (Ute bytes) = 0xD4

-- the payload of contents
abbrev pub payload_in : Contents → List ℕ
payload_in (Rps bytes) = bytes
payload_in (OneBs bytes) = bytes
payload_in (FourBs bytes) = bytes
payload_in (Vld bytes) = bytes.items
payload_in (Ute bytes) = bytes

-- the payload has a length of its RORG; only a payload of VLD can have another length
abbrev pub FitsRorg : Contents → Type 0
FitsRorg contents = IsTrue (payload_length_fits (rorg_in contents) (length (payload_in contents)))
