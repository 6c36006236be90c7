use lib.Bits.{bit_and}
use lib.Count.{trailing_le}
use native.Mathlib.Omega.{arith}
use Rattle.utf8.proofs.Digits.{ascii_below}
use Rattle.utf8.proofs.ascii.leading.Goals as goal

pub returns : goal.returns
returns c =
    let l = trailing_le 64 (bit_and c.from_le_bytes-highest.result 0x8080808080808080) in
    (omega arith, ascii_below _ _ c.fits-bytes c.from_le_bytes-highest.ensures)
