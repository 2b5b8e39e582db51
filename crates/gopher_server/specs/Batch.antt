-- Lines of requests that are gathered before they are written, and what a write leaves of them.
use Rattle.std.specs.Prelude.{◌≡◌, ℕ, ◌+◌, ◌&&◌, ◌==◌, Bool, true, false, List, [], ◌++◌, codes, length, take, drop, min, nat_le, Option, Result, Ok, Err, if◌then◌else◌}
use Rattle.std.specs.Fmt.{decimal}
use Rattle.std.specs.Io.KnownBytes.{Appends, Keeps}
use Rattle.std.specs.declared.io.ErrorKind.{ErrorKind}
use Rattle.std.specs.declared.io.ErrorKind.TheVariants as kind
use Rattle.gopher_server.specs.RequestLine.{RequestData, logged_bytes}
use Rattle.gopher_server.specs.declared.logging.queue.Receipt.{Receipt}

-- the lines, as bytes, and the number of requests that were dropped since the last of them
pub record BatchData : Type 0 where
  pub written : List ℕ
  pub dropped : ℕ

abbrev pub no_lines : BatchData
no_lines = record { written = []; dropped = 0 }

abbrev pub is_full : BatchData → Bool
is_full batch = nat_le 65_536 (length batch.written)

abbrev pub is_empty : BatchData → Bool
is_empty batch = (length batch.written == 0) && (batch.dropped == 0)

-- one more request was dropped; the count stops at 2^64 - 1
abbrev pub with_dropped : BatchData → BatchData
with_dropped batch =
    record { written = batch.written; dropped = min (batch.dropped + 1) 18_446_744_073_709_551_615 }

abbrev pub with_line : BatchData → RequestData → BatchData
with_line batch request =
    record { written = batch.written ++ logged_bytes request; dropped = batch.dropped }

-- a batch that is full takes no line
abbrev pub with_request : BatchData → RequestData → BatchData
with_request batch request = if is_full batch then batch else with_line batch request

-- the line of a request was added to a batch that isn't full
abbrev pub AddsLineTo : RequestData → BatchData → BatchData → Type 0
AddsLineTo request before after = (is_full before ≡ false) × (after ≡ with_line before request)

-- the receipt for a batch that the queue took
abbrev pub receipt_of : BatchData → Receipt
receipt_of batch = record { bytes = length batch.written; dropped = batch.dropped }

-- the lines, followed by the line of the dropped requests, if any were dropped
abbrev pub with_told : BatchData → BatchData
with_told batch =
    let told = codes "# dropped " ++ decimal batch.dropped ++ codes "\n" in
    if batch.dropped == 0 then batch else record { written = batch.written ++ told; dropped = 0 }

-- one write of the lines, by the contents of a writer, the writer before and after, and the batch
-- before and after: what was written is gone from the lines
abbrev pub WritesFirst : {W E : Type 0} → (W → Option (List ℕ)) → W → W → BatchData → BatchData
    → Result ℕ E → Type 0
WritesFirst contents old new before after (Ok count) =
    Appends (contents old) (contents new) (take count before.written)
    × (after ≡ record { written = drop count before.written; dropped = before.dropped })
WritesFirst contents old new before after (Err why) =
    Keeps (contents old) (contents new) × (after ≡ before)

-- a batch that isn't empty is kept, and `more` says that there is something to write
abbrev pub KeepsPending : BatchData → BatchData → Bool → Type 0
KeepsPending before after more = is_empty before ≡ false → (more ≡ true) × (after ≡ before)

-- whether a write that failed is tried again at once
abbrev pub is_tried_again : ErrorKind → Bool
is_tried_again kind.Interrupted = true
is_tried_again _ = false
