-- `digits::with_digits` meets its contract.
-- Assumes nothing.
use Rattle.places.proofs.ShiftLaws.{digits-fit, digits_more}
use Rattle.places.proofs.digits.with_digits.Goals as goal

pub overflow_add-result : goal.overflow_add-result
overflow_add-result c = let a = c.args in let p = c.requires in record { fits = digits-fit a.b a.word a.more p.0 p.1 p.2 }

pub returns : goal.returns
returns c = let a = c.args in let p = c.requires in digits_more a.b a.word a.more p.0 p.1 p.2
