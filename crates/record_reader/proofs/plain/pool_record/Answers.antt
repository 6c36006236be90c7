use Rattle.record_reader.proofs.Headers.{pool_open, pool_whole}
use Rattle.record_reader.proofs.plain.pool_record.Goals as goal

pub returns-in_err-fits : goal.returns-in_err-fits
returns-in_err-fits c = λ at pool. rw c.from_residual-in_err-fits.ensures (pool_open at pool c.args.d.now c.in_ok-count.ensures (rw c.many.ensures at c.in_err-fits.ensures))

pub returns : goal.returns
returns c = λ at pool. rw c.from.ensures (pool_whole at pool c.args.d.now c.in_ok-count.ensures (rw c.many.ensures at c.in_ok-fits.ensures))
