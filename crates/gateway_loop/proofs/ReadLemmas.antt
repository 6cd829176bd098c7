-- How the reads of a source continue.
use Rattle.std.proofs.Common.{◌≡◌, ℕ, ◌+◌, ◌≤◌, List, [], ◌∷◌, ◌++◌, length, take, Option, ap, sym, ◌∙◌}
use Rattle.std.proofs.Common.{append-nil, append_assoc, arith, length-append, map, subst, None, Some}
use Rattle.std.specs.Prelude.{◌≢◌, IfSome, Ok}
use Rattle.std.specs.Io.KnownBytes.{Consumes, IsAtEnd, Keeps, ReadConsumes}
use Rattle.std.specs.List.{concat}
use Rattle.std.proofs.KnownBytes.{Consumes-nil, Consumes-trans, Consumes-kept}
use Rattle.std.proofs.lemmas.List.{length-map, length-take, map-append}
use Rattle.byte_io.specs.declared.failed.Failed.{Failed}
use Rattle.byte_io.specs.ReadLimit.{max_read}
use Rattle.byte_io.specs.Streams.{SourceValue}
use Rattle.byte_io.specs.Transfers.{Transfer}
use Rattle.byte_io.proofs.ForCallers.{concat-more}
use Rattle.gateway_loop.specs.Reads.{AllReadsSucceed, AreReads, IsNextRead, LastReadFails, MakesReads}

-- one more read after others
AreReads-push : (left : Option (List ℕ)) (before : List ℕ) (reads : List (List ℕ)) (bytes : List ℕ)
    → AreReads left before reads → IsNextRead left (before ++ concat reads) bytes
    → AreReads left before (reads ++ bytes ∷ [])
AreReads-push left before [] bytes each read = (rw append-nil at read, tt)
AreReads-push left before (first ∷ reads) bytes each read = (
  each.0,
  AreReads-push left (before ++ first) reads bytes each.1 (rw append_assoc read),
)

-- a read that returns nothing comes only after everything was read
all_read : (left later last : Option (List ℕ)) (before bytes : List ℕ) → Consumes left later before
    → Consumes later last bytes → bytes ≡ [] → IsAtEnd last → IfSome left (λ all. all ≡ before)
all_read None later last before bytes first second none end = tt
all_read (Some all) None last before bytes first second none end = absurd first
all_read (Some all) (Some more) None before bytes first second none end = absurd second
all_read (Some all) (Some more) (Some rest) before bytes first second none end =
    first ∙ ap (λ (s : List ℕ). before ++ s) (second ∙ ap (λ (s : List ℕ). s ++ rest) none ∙ end) ∙ append-nil before

take-empty : (count : ℕ) (buffer : List ℕ) → count ≤ length buffer → take count buffer ≡ [] → count ≡ 0
take-empty count buffer within none = let is = ap length none in omega (arith, within, is, length-take count buffer)

-- a read that returned some bytes
pub take-some : (count : ℕ) (buffer : List ℕ) → count ≤ length buffer → count ≢ 0 → take count buffer ≢ []
take-some count buffer within some none = some (take-empty count buffer within none)

pub reads-nothing : (source : SourceValue) → AllReadsSucceed source source []
reads-nothing source = record {
  returns = record { made = sym (append-nil source.reads); consumed = Consumes-nil source.unread };
  each = tt;
}

made-push : {old mid : SourceValue} {new : List Transfer} {reads : List (List ℕ)} (last : Transfer)
    → AllReadsSucceed old mid reads → new ≡ mid.reads ++ last ∷ []
    → new ≡ old.reads ++ (map Some reads ++ last ∷ [])
made-push {old} {reads = reads} last succeeded listed =
    listed ∙ ap (λ transfers. transfers ++ last ∷ []) succeeded.returns.made
    ∙ append_assoc old.reads (map Some reads) (last ∷ [])

-- one more read, which succeeds
pub reads-push : {old mid new : SourceValue} {reads : List (List ℕ)} (count : ℕ) (buffer : List ℕ)
    → AllReadsSucceed old mid reads → count ≤ length buffer → length buffer ≡ max_read
    → ReadConsumes {E = Failed} mid.unread new.unread (Ok count) buffer
    → new.reads ≡ mid.reads ++ Some (take count buffer) ∷ []
    → AllReadsSucceed old new (reads ++ take count buffer ∷ [])
reads-push {old} {mid} {new} {reads} count buffer succeeded within room (some, end) listed =
    let bytes = take count buffer in
    let read : IsNextRead old.unread (concat reads) bytes = record {
      short = omega (arith, room, length-take count buffer);
      empty = λ none. all_read old.unread mid.unread new.unread (concat reads) bytes succeeded.returns.consumed some
          none
          (end (take-empty count buffer within none) (omega (arith, room)));
    } in
    record {
      returns = record {
        made = made-push (Some bytes) succeeded listed
            ∙ ap (λ transfers. old.reads ++ transfers) (sym (map-append Some reads (bytes ∷ [])));
        consumed =
            subst (Consumes old.unread new.unread) (sym (concat-more reads bytes))
            (Consumes-trans old.unread mid.unread new.unread (concat reads) bytes succeeded.returns.consumed some);
      };
      each = AreReads-push old.unread [] reads bytes succeeded.each read;
    }

-- a read that returned nothing
pub reads-end : {old mid new : SourceValue} {reads : List (List ℕ)} (count : ℕ) (buffer : List ℕ)
    → AllReadsSucceed old mid reads → count ≤ length buffer → length buffer ≡ max_read
    → ReadConsumes {E = Failed} mid.unread new.unread (Ok count) buffer
    → new.reads ≡ mid.reads ++ Some (take count buffer) ∷ [] → count ≡ 0 → AllReadsSucceed old new (reads ++ [] ∷ [])
reads-end {old} {mid} {new} {reads} count buffer succeeded within room bytes listed none =
    subst (λ (part : List ℕ). AllReadsSucceed old new (reads ++ part ∷ [])) (ap (λ n. take n buffer) none)
    (reads-push count buffer succeeded within room bytes listed)

pub concat-end : (reads : List (List ℕ)) → concat (reads ++ [] ∷ []) ≡ concat reads
concat-end reads = concat-more reads [] ∙ append-nil (concat reads)

-- one more read, which fails
pub reads-fail : {old mid new : SourceValue} {reads : List (List ℕ)} → AllReadsSucceed old mid reads
    → Keeps mid.unread new.unread → new.reads ≡ mid.reads ++ None ∷ [] → LastReadFails old new reads
reads-fail {old} {mid} {new} {reads} succeeded kept listed = record {
  returns = record {
    made = made-push None succeeded listed;
    consumed = Consumes-kept old.unread mid.unread new.unread (concat reads) succeeded.returns.consumed kept;
  };
  each = succeeded.each;
}

-- ---- how many reads are made

pub makes_reads-succeeded : {old new : SourceValue} {reads : List (List ℕ)} {count : ℕ} → AllReadsSucceed old new reads
    → length reads ≡ count → MakesReads old.reads new.reads count
makes_reads-succeeded {reads = reads} succeeded is =
    (map Some reads, succeeded.returns.made, length-map reads Some ∙ is)

pub makes_reads-failed : {old new : SourceValue} {reads : List (List ℕ)} {count : ℕ} → LastReadFails old new reads
    → length reads ≡ count → MakesReads old.reads new.reads (count + 1)
makes_reads-failed {reads = reads} failed is = (
  map Some reads ++ None ∷ [],
  failed.returns.made,
  length-append (map Some reads) (None ∷ []) ∙ ap (λ n. n + 1) (length-map reads Some ∙ is),
)
