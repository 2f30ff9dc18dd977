-- 41 and 40 as the rules say; what is left is the reading of the new line.
-- Assumes nothing.
use mathlib.Core.Path.{sym}
use Rattle.rules.specs.Reader.{nowhere}
use Rattle.patch.proofs.Order.{ill_formed, formed_decodes, is_open_lem, is_closed}
use Rattle.patch.proofs.Planning.{same_plan}
use Rattle.patch.proofs.plan_patch.Goals as goal

pub returns-then-not-well_formed : goal.returns-then-not-well_formed
returns-then-not-well_formed c = record { so = (nowhere 41, ill_formed _ _ _ _ _ _ (sym c.if-not-well_formed.ensures), c.refused_nowhere.ensures) }

pub returns-then-open_line : goal.returns-then-open_line
returns-then-open_line c =
    record { so = (nowhere 40, is_open_lem _ _ _ _ _ _ (sym c.if-not-well_formed.ensures) (sym c.if-open_line.ensures), c.refused_nowhere-then-open_line.ensures) }

pub plan_line-requires : goal.plan_line-requires
plan_line-requires c = let x = c.args.x in (c.requires, formed_decodes x.old.text.now c.args.listing.now x.place x.text.now 0 0 (sym c.if-not-well_formed.ensures))

pub returns : goal.returns
returns c = same_plan (is_closed _ _ _ _ _ _ (sym c.if-not-well_formed.ensures) (sym c.if-open_line.ensures)) c.plan_line.ensures
