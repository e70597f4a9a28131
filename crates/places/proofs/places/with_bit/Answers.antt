-- `places::with_bit` meets its contract.
-- Assumes nothing.
use Rattle.places.proofs.WordLaws.{bit-fits, bit-on, bit-off}
use Rattle.places.proofs.places.with_bit.Goals as goal

pub overflow_add-result : goal.overflow_add-result
overflow_add-result c = record { fits = bit-fits c.args.b c.requires.0 c.requires.1 }

pub returns-then-on : goal.returns-then-on
returns-then-on c = bit-on c.args.b c.args.word c.args.on c.requires.0 c.if-on.true

pub returns-else-on : goal.returns-else-on
returns-else-on c = bit-off c.args.b c.args.word c.args.on c.if-on.false
