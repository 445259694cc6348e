-- What a clause says of a board and its receipts.
use Rattle.std.specs.Prelude.{ℕ}
use Rattle.boxcar.specs.Table.{Shows}
use Rattle.machine_batches.specs.declared.batch.Batch.{Batch}
use Rattle.verdicts.specs.declared.board.Board.{Board}
use Rattle.verdicts.specs.declared.board.Receipt.{Receipt}

-- the receipt is of this board
abbrev pub IsReceiptOf : Board → Receipt → Type 0
IsReceiptOf board receipt = Shows board.batches receipt.pushed

-- the batch that was published for the receipt
abbrev pub shown_by : Receipt → Batch
shown_by receipt = receipt.pushed.value
