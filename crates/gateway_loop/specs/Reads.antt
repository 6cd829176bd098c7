-- The reads of a source: their bytes and their results. Own choice.
use Rattle.std.specs.Prelude.{◌≡◌, ◌≢◌, ◌≤◌, ◌⊎◌, ⊤, All, IfSome, Option, None, Some, ℕ, List, [], ◌∷◌, ◌++◌}
use Rattle.std.specs.Prelude.{length, map}
use Rattle.std.specs.Io.KnownBytes.{Consumes}
use Rattle.std.specs.List.{concat}
use Rattle.byte_io.specs.ReadLimit.{max_read}
use Rattle.byte_io.specs.Streams.{SourceValue}
use Rattle.byte_io.specs.Transfers.{Transfer}

-- The bytes of one read: `left` is what the source had left before all reads, if that is known, and `before` what the
-- reads before this one returned. If it is known, a read returns nothing only if they returned everything.
pub record IsNextRead (left : Option (List ℕ)) (before bytes : List ℕ) : Type 0 where
  pub short : length bytes ≤ max_read
  pub empty : bytes ≡ [] → IfSome left (λ all. all ≡ before)

-- each of these is a read after those before it
abbrev pub AreReads : Option (List ℕ) → (before : List ℕ) → List (List ℕ) → Type 0
AreReads left before [] = ⊤
AreReads left before (bytes ∷ more) = IsNextRead left before bytes × AreReads left (before ++ bytes) more

-- Exactly these reads were made, and those that did not fail returned these bytes, each perhaps none. The bytes that
-- the source has left, if they are known, are those after these.
pub record Returns (old new : SourceValue) (transfers : List Transfer) (reads : List (List ℕ)) : Type 0 where
  pub made : new.reads ≡ old.reads ++ transfers
  pub consumed : Consumes old.unread new.unread (concat reads)

-- exactly these reads were made, and none failed
pub record AllReadsSucceed (old new : SourceValue) (reads : List (List ℕ)) : Type 0 where
  pub returns : Returns old new (map Some reads) reads
  pub each : AreReads old.unread [] reads

-- exactly these reads were made, and then one that failed
pub record LastReadFails (old new : SourceValue) (reads : List (List ℕ)) : Type 0 where
  pub returns : Returns old new (map Some reads ++ None ∷ []) reads
  pub each : AreReads old.unread [] reads

-- these reads were made, and then perhaps one that failed
abbrev pub OnlyLastMayFail : (old new : SourceValue) (reads : List (List ℕ)) → Type 0
OnlyLastMayFail old new reads = AllReadsSucceed old new reads ⊎ LastReadFails old new reads

-- none of these reads returned 0 bytes
abbrev pub NoneIsEmpty : (reads : List (List ℕ)) → Type 0
NoneIsEmpty reads = All (λ bytes. bytes ≢ []) reads

-- only the last of these reads returned 0 bytes
pub record OnlyLastIsEmpty (reads : List (List ℕ)) : Type 0 where
  pub earlier : List (List ℕ)
  pub whole : reads ≡ earlier ++ [] ∷ []
  pub some : NoneIsEmpty earlier

-- this many reads were made
abbrev pub MakesReads : (old new : List Transfer) (count : ℕ) → Type 0
MakesReads old new count = (transfers : List Transfer) × (new ≡ old ++ transfers) × (length transfers ≡ count)
