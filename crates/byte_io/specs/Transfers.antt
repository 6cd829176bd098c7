-- The reads of a source, and the writes of a sink.
use Rattle.std.specs.Prelude.{◌≡◌, ◌≢◌, ℕ, List, [], ◌++◌, All, take, Option, None, Some, IfSome, IsSomeAnd, unwrap_or}
use Rattle.std.specs.Prelude.{Result, Ok, Err}
use Rattle.std.specs.List.{flat_map}

-- one read or write: the bytes that it returned or accepted, perhaps none, or `None` if it failed
abbrev pub Transfer : Type 0
Transfer = Option (List ℕ)

-- the read or write with this result, where `bytes` are those of its buffer or its text
abbrev pub transfer_of : {E : Type 0} → Result ℕ E → (bytes : List ℕ) → Transfer
transfer_of (Ok n) bytes = Some (take n bytes)
transfer_of (Err e) bytes = None

-- all bytes that they returned or accepted
abbrev pub bytes_of : List Transfer → List ℕ
bytes_of transfers = flat_map (λ transfer. unwrap_or transfer []) transfers

-- it did not fail, and returned or accepted at least one byte
abbrev pub MovesBytes : Transfer → Type 0
MovesBytes transfer = IsSomeAnd transfer (λ bytes. bytes ≢ [])

-- it failed, or returned or accepted 0 bytes
abbrev pub MovesNothing : Transfer → Type 0
MovesNothing transfer = IfSome transfer (λ bytes. bytes ≡ [])

-- between the two states reads or writes were made, and each of them is so
pub record EachIs (is : Transfer → Type 0) (old new : List Transfer) : Type 0 where
  pub transfers : List Transfer
  pub made : new ≡ old ++ transfers
  pub each : All is transfers
