use Rattle.osn_territory.proofs.dual.+later_part.Given as goal

abbrev pub decreases-later_part : goal.decreases-later_part
decreases-later_part l = l.later
