-- A byte is set where there is room, and nothing beyond.
use mathlib.Core.Path.{refl}
use Rattle.text.proofs.Puts.{one, none}
use Rattle.text.proofs.Text.put.Goals as goal

pub returns-then-self : goal.returns-then-self
returns-then-self c = one c.if-self.true refl refl refl

pub returns-else-self : goal.returns-else-self
returns-else-self c = none c.if-self.false
